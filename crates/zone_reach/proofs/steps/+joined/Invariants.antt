use Rattle.std.proofs.Common.{length}
use Rattle.zone_reach.proofs.steps.+joined.Given as goal

abbrev pub decreases-joined : goal.decreases-joined
decreases-joined l = length l.steps.now
