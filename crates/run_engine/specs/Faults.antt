-- How a fault of a line ends a document.
use Rattle.std.specs.Prelude.{◌≡◌, ℕ, Result, Ok, Err}
use Rattle.line_map.specs.declared.builder.LineFault.{LineFault}
use Rattle.line_map.specs.declared.builder.LineFault.TheVariants as faults
use Rattle.definitions.specs.declared.document.Ending.TheVariants as ends
use Rattle.run_engine.specs.declared.reads.Reads.{Reads}
use Rattle.run_engine.specs.declared.reads.Reads.TheVariants.{Ends}

-- by the rule that is broken at text line n; want of memory is handed on
abbrev pub Refuses : {E : Type 0} → ℕ → LineFault → Result Reads E → Type 0
Refuses n (faults.Rule r) (Ok reads) = reads ≡ Ends (ends.Rule n r)
Refuses n faults.Memory (Ok reads) = ⊥
Refuses n fault (Err e) = Unit {0}
