-- What a call leaves that writes a text after what is pending, which goes to the sink in pieces.
use Rattle.std.specs.Prelude.{◌≡◌, ℕ, ◌≤◌, List, ◌++◌, Option, Result, Ok, Err}
use Rattle.run_engine.specs.declared.output.Fault.{Fault}
use Rattle.run_engine.specs.declared.output.Fault.TheVariants as faults
use Rattle.edge_io.specs.Reading.{WroteIs, WroteFront}
use Rattle.edge_io.specs.Causes.{Rose}

-- what came out, and then what is pending after it, is what was pending before, and then the text
pub record Sent (old new : Option (List ℕ)) (before after text : List ℕ) : Type 0 where
  pub out : List ℕ
  pub wrote : WroteIs old new out
  pub is : out ++ after ≡ before ++ text

-- a front of the text was sent, and no more of it
pub record SentFront (old new : Option (List ℕ)) (before after text : List ℕ) : Type 0 where
  pub front : List ℕ
  pub rest : List ℕ
  pub all : front ++ rest ≡ text
  pub sent : Sent old new before after front

-- the text was sent whole at Ok; where memory was wanting a front of it; where the sink failed a front is written
unfoldable pub Sends : {K X : Type 0} → (K → Option (List ℕ)) → (K → ℕ) → K → K → List ℕ → List ℕ → List ℕ → Result X Fault → Type 0
Sends written count old new before after text (Ok x) = Sent (written old) (written new) before after text × (count new ≡ count old)
Sends written count old new before after text (Err faults.Write) = WroteFront (written old) (written new) (before ++ text) × (count old ≤ count new) × Rose (count old) (count new)
Sends written count old new before after text (Err faults.Memory) = SentFront (written old) (written new) before after text × (count new ≡ count old)

-- a fault, and the one that is answered: where memory was wanting, all that is pending was written, or the sink failed there
unfoldable pub GivesUp : {K : Type 0} → (K → Option (List ℕ)) → (K → ℕ) → K → K → List ℕ → Fault → Fault → Type 0
GivesUp written count old new pending faults.Write result = (result ≡ faults.Write) × (new ≡ old)
GivesUp written count old new pending faults.Memory faults.Write = WroteFront (written old) (written new) pending × (count old ≤ count new) × Rose (count old) (count new)
GivesUp written count old new pending faults.Memory faults.Memory = WroteIs (written old) (written new) pending × (count new ≡ count old)
