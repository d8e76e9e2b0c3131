use Rattle.std.proofs.Common.{length}
use Rattle.way_path.proofs.on_steps.+offset_to.Given as goal

abbrev pub decreases-offset_to : goal.decreases-offset_to
decreases-offset_to l = length l.steps.now
