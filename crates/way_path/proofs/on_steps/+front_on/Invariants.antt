use Rattle.std.proofs.Common.{length}
use Rattle.way_path.proofs.on_steps.+front_on.Given as goal

abbrev pub decreases-front_on : goal.decreases-front_on
decreases-front_on l = length l.steps.now
