use Rattle.std.proofs.Common.{length}
use Rattle.zone_reach.proofs.steps.+place_of_step.Given as goal

abbrev pub decreases-place_of_step : goal.decreases-place_of_step
decreases-place_of_step l = length l.steps.now
