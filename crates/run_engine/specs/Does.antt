-- What a call leaves that writes a text and may want memory.
use Rattle.std.specs.Prelude.{◌≡◌, ℕ, ◌≤◌, List, Option, Result, Ok, Err}
use Rattle.run_engine.specs.declared.output.Fault.{Fault}
use Rattle.run_engine.specs.declared.output.Fault.TheVariants as faults
use Rattle.edge_io.specs.Reading.{WroteIs, WroteFront}
use Rattle.edge_io.specs.Causes.{Rose}

-- the text was written whole at Ok; else a front of it, and the sink failed where that is said
unfoldable pub Does : {K X : Type 0} → (K → Option (List ℕ)) → (K → ℕ) → K → K → List ℕ → Result X Fault → Type 0
Does written count old new text (Ok x) = WroteIs (written old) (written new) text × (count new ≡ count old)
Does written count old new text (Err faults.Write) = WroteFront (written old) (written new) text × (count old ≤ count new) × Rose (count old) (count new)
Does written count old new text (Err faults.Memory) = WroteFront (written old) (written new) text × (count new ≡ count old)
