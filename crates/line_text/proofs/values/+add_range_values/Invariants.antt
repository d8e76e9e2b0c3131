use Rattle.std.proofs.Common.{length}
use Rattle.line_text.proofs.values.+add_range_values.Given as goal

abbrev pub decreases-add_range_values : goal.decreases-add_range_values
decreases-add_range_values l = length l.ranges.now
