use Rattle.std.proofs.Common.{◌≡◌, take}
use Rattle.way_path.proofs.on_steps.steps_from.Given as goal

abbrev pub invariant-loop-step : goal.invariant-loop-step
invariant-loop-step l = l.rest.items ≡ take l.step-index l.step-items
