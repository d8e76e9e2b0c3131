use Rattle.std.proofs.Common.{length}
use Rattle.line_text.proofs.values.+add_ranges.Given as goal

abbrev pub decreases-add_ranges : goal.decreases-add_ranges
decreases-add_ranges l = length l.values.now
