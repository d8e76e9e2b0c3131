use Rattle.std.proofs.Common.{length}
use Rattle.form_codec.proofs.write.+write_values.Given as goal

abbrev pub decreases-write_values : goal.decreases-write_values
decreases-write_values g l = length l.values.now
