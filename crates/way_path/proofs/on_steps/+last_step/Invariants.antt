use Rattle.std.proofs.Common.{length}
use Rattle.way_path.proofs.on_steps.+last_step.Given as goal

abbrev pub decreases-last_step : goal.decreases-last_step
decreases-last_step l = length l.steps.now
