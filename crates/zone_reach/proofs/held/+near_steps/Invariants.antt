use Rattle.std.proofs.Common.{length}
use Rattle.zone_reach.proofs.held.+near_steps.Given as goal

abbrev pub decreases-near_steps : goal.decreases-near_steps
decreases-near_steps l = length l.steps.now
