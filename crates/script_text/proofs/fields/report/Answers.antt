use Rattle.std.proofs.Common.{◌∙◌, sym, arith, rules}
use mir.Val.{SFits}
use mir.Syntax.{w32}
use Rattle.script_text.proofs.Lent_moves.{report_here}
use Rattle.script_text.proofs.fields.report.Goals as goal

pub returns : goal.returns
returns g c =
    let fits : SFits w32 c.in-Some.off = search rules in
    report_here (tt {0}) c.args.line.now (g.T.DeclaredTrains.known c.args.trains.now) c.args.values.now c.step_of-step.result c.in-Some.off
    (omega arith) (sym c.is_train.ensures.is ∙ c.if-not-is_train.false) (sym c.is_zone.ensures.is ∙ c.if-not-is_zone.false)
    (sym c.is_segment.ensures.is ∙ c.if-not-is_segment.false) c.if-flag-gt1.false c.step_of-step.ensures c.in-Some.ensures fits
