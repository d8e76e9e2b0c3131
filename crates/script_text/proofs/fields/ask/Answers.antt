use Rattle.std.proofs.Common.{◌∙◌, ap}
use Rattle.script_text.proofs.Lent_moves.{ask_here, lent}
use Rattle.script_text.proofs.fields.ask.Goals as goal

pub returns-in-0 : goal.returns-in-0
returns-in-0 g c =
    let l = lent c.in-Event.event _ _ _ _ c.in-Ask.field-0 c.in-Ask.field-1 c.new.result c.in-Ask.steps c.in-Event.is c.in-Ask.is in
    ask_here (tt {0}) c.args.line.now (g.T.DeclaredTrains.known c.args.trains.now) c.args.values.now c.in-Ask.field-0 c.in-Ask.field-1 c.add_steps.new.to c.in-Ask.steps.items c.add_steps.new.steps c.add_steps.result
    c.in-len2-up.len_at_least (cc) (cc) l.train l.zone (ap (λ xs. xs.items) l.steps ∙ c.new.ensures) c.in-0.is c.add_steps.ensures
