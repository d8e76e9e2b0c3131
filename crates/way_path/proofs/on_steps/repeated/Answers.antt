use Rattle.std.proofs.Common.{sym, ◌∙◌}
use Rattle.track_points.specs.declared.ids.Dir.TheVariants.{Up}
use Rattle.way_path.proofs.Rest_is.{once_none, repeated_at, once_more}
use Rattle.way_path.proofs.on_steps.repeated.Goals as goal

pub loop-i-init : goal.loop-i-init
loop-i-init c = once_none

pub returns-then-visits : goal.returns-then-visits
returns-then-visits c =
    repeated_at c.args.steps.now c.loop-i.i (record { seg = record { 0 = 0 }; dir = Up }) c.loop-i-test.true c.loop-i.invariant (sym c.visits.ensures ∙ c.if-visits.true)

pub loop-i-preserved : goal.loop-i-preserved
loop-i-preserved c =
    once_more c.args.steps.now c.loop-i.i (record { seg = record { 0 = 0 }; dir = Up }) c.loop-i-test.true c.loop-i.invariant (sym c.visits.ensures ∙ c.if-visits.false)
