use Rattle.script_text.proofs.Counts_found.{Counts}
use Rattle.script_text.proofs.columns.column_of.Given as goal

abbrev pub invariant-loop-byte : goal.invariant-loop-byte
invariant-loop-byte l = Counts l.fn.fields l.fn.text l.before l.left l.byte-index
