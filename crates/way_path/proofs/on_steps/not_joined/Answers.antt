use Rattle.std.proofs.Common.{sym, ◌∙◌}
use Rattle.track_points.specs.declared.ids.Dir.TheVariants.{Up}
use Rattle.way_path.proofs.Rest_is.{chained_first, not_joined_at, joined_more}
use Rattle.way_path.proofs.on_steps.not_joined.Goals as goal

pub loop-i-init : goal.loop-i-init
loop-i-init c = chained_first c.args.line.now c.args.steps.now

pub returns-then-not-follows : goal.returns-then-not-follows
returns-then-not-follows c =
    not_joined_at c.args.line.now c.args.steps.now c.loop-i.i (record { seg = record { 0 = 0 }; dir = Up }) c.loop-i.auto.i c.loop-i-test.true c.loop-i.invariant (sym c.follows.ensures ∙ c.if-not-follows.true)

pub loop-i-preserved : goal.loop-i-preserved
loop-i-preserved c =
    joined_more c.args.line.now c.args.steps.now c.loop-i.i (record { seg = record { 0 = 0 }; dir = Up }) c.loop-i.auto.i c.loop-i-test.true c.loop-i.invariant (sym c.follows.ensures ∙ c.if-not-follows.false)
