use Rattle.std.proofs.Common.{length}
use Rattle.form_codec.proofs.words.+find.Given as goal

abbrev pub decreases-find : goal.decreases-find
decreases-find l = length l.words.now
