use Rattle.std.proofs.Common.{length}
use Rattle.form_codec.proofs.words.+best.Given as goal

abbrev pub decreases-best : goal.decreases-best
decreases-best l = length l.words.now
