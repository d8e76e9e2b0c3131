use Rattle.std.proofs.Common.{length}
use Rattle.form_codec.proofs.read.+parts_left.Given as goal

abbrev pub decreases-parts_left : goal.decreases-parts_left
decreases-parts_left l = length l.parts.now
