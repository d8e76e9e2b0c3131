use Rattle.std.proofs.Common.{length}
use Rattle.way_path.proofs.on_steps.+visits.Given as goal

abbrev pub decreases-visits : goal.decreases-visits
decreases-visits l = length l.steps.now
