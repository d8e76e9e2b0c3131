use Rattle.std.proofs.Common.{length}
use Rattle.form_codec.proofs.words.+common.Given as goal

abbrev pub decreases-common : goal.decreases-common
decreases-common l = length l.word.now
