use Rattle.std.proofs.Common.{length}
use Rattle.zone_reach.proofs.held.+first_held.Given as goal

abbrev pub decreases-first_held : goal.decreases-first_held
decreases-first_held l = length l.asked.now
