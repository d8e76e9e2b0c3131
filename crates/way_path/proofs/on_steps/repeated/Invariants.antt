use Rattle.std.proofs.Common.{◌≡◌, take, true}
use Rattle.track_points.specs.Points.{no_segment_twice}
use Rattle.way_path.proofs.on_steps.repeated.Given as goal

abbrev pub invariant-loop-i : goal.invariant-loop-i
invariant-loop-i l = no_segment_twice (take l.i l.steps) ≡ true
