use Rattle.std.proofs.Common.{refl, ap, ◌∙◌}
use Rattle.script_text.proofs.Lent_moves.{step_here, lent_moves}
use Rattle.script_text.proofs.fields.step.Goals as goal

pub returns-in-0 : goal.returns-in-0
returns-in-0 g c =
    let l = lent_moves c.in-Event.event _ _ c.new.result c.in-Step.moves c.in-Event.is c.in-Step.is in
    step_here (tt {0}) (g.T.DeclaredTrains.known c.args.trains.now) c.args.values.now _ c.in-Step.moves.items c.add_moves.new.moves c.add_moves.result
    c.in-len1-up.len_at_least (cc) refl (ap (λ xs. xs.items) l ∙ c.new.ensures) c.in-0.is c.add_moves.ensures
