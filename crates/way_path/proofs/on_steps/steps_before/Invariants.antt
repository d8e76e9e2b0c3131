use Rattle.std.proofs.Common.{◌≡◌, ◌+◌, ◌≤◌, drop}
use Rattle.track_points.specs.Points.{total}
use Rattle.definitions.specs.Track.{seg_len}
use Rattle.way_path.proofs.on_steps.steps_before.Given as goal

abbrev pub invariant-loop-step : goal.invariant-loop-step
invariant-loop-step l = record {
  index : l.index ≡ l.step-index;
  before : l.start ≤ l.place;
  rest : l.start + total (seg_len l.line) (drop l.step-index l.steps) ≡ total (seg_len l.line) l.steps;
}
