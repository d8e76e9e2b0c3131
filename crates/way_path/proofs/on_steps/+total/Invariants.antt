use Rattle.std.proofs.Common.{length}
use Rattle.way_path.proofs.on_steps.+total.Given as goal

abbrev pub decreases-total : goal.decreases-total
decreases-total l = length l.steps.now
