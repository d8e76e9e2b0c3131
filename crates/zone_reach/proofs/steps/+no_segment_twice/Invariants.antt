use Rattle.std.proofs.Common.{length}
use Rattle.zone_reach.proofs.steps.+no_segment_twice.Given as goal

abbrev pub decreases-no_segment_twice : goal.decreases-no_segment_twice
decreases-no_segment_twice l = length l.steps.now
