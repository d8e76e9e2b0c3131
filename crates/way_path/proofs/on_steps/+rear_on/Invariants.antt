use Rattle.std.proofs.Common.{length}
use Rattle.way_path.proofs.on_steps.+rear_on.Given as goal

abbrev pub decreases-rear_on : goal.decreases-rear_on
decreases-rear_on l = length l.steps.now
