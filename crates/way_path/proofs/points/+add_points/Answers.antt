use Rattle.track_points.specs.declared.ids.Dir.TheVariants.{Up}
use Rattle.track_points.specs.Sets.{has_cell}
use Rattle.definitions.specs.Track.{layout}
use Rattle.way_path.specs.Ways.{segment_of}
use Rattle.way_path.proofs.Rest_is.{rest_is}
use Rattle.way_path.proofs.As_points.{no_more, one_step_more}
use Rattle.way_path.proofs.points.+add_points.Goals as goal

pub returns-in_default-clause-cells : goal.returns-in_default-clause-cells
returns-in_default-clause-cells t c s mm =
    no_more (layout c.args.line.now) c.args.steps.now c.args.lo c.args.hi s mm (has_cell c.args.set.now s mm) (segment_of c.args.line.now c.args.zone s) c.in_default.len_below

pub returns-in-len1-up-clause-cells : goal.returns-in-len1-up-clause-cells
returns-in-len1-up-clause-cells t c s mm =
    one_step_more (layout c.args.line.now) _ c.args.steps.now _ c.args.lo c.args.hi c.length_of-len.result c.saturating_sub.result c.saturating_sub-in-len1-up.result s mm
    (has_cell c.args.set.now s mm) (has_cell c.add_step_of.new.set s mm) (has_cell c.add_points.new.set s mm) (segment_of c.args.line.now c.args.zone s)
    (rest_is c.args.steps.now (record { seg = record { 0 = 0 }; dir = Up }) c.in-len1-up.len_at_least) c.length_of-len.ensures.len
    c.saturating_sub.ensures c.saturating_sub-in-len1-up.ensures (c.add_step_of.ensures.cells s mm) (c.add_points.ensures.cells s mm)
