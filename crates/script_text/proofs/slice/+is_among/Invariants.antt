use Rattle.std.proofs.Common.{length}
use Rattle.script_text.proofs.slice.+is_among.Given as goal

abbrev pub decreases-is_among : goal.decreases-is_among
decreases-is_among l = length l.trains.now
