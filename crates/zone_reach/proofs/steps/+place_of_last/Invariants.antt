use Rattle.std.proofs.Common.{length}
use Rattle.zone_reach.proofs.steps.+place_of_last.Given as goal

abbrev pub decreases-place_of_last : goal.decreases-place_of_last
decreases-place_of_last l = length l.steps.now
