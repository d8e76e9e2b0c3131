-- What each command is to give.
use Rattle.std.specs.Prelude.{ℕ, List, [], ◌∷◌, codes, bytes_eq, if◌then◌else◌, Option, Some, None}
use Rattle.edge_io.specs.declared.status.Status.{Status}
use Rattle.definitions.specs.declared.document.Command.{Command}
use Rattle.definitions.specs.declared.document.Command.TheVariants.{Run, Check}
use Rattle.definitions.specs.declared.document.Ending.TheVariants.{Usage}
use Rattle.definitions.specs.Trace.{Given, ended, trace}
use Rattle.top_call.specs.Running.{Gave, ReadCut}
use Rattle.top_call.specs.Complete.{Complete, CompleteCheck, RefusesDocument, RefusesChecked}

abbrev pub command_named : List ℕ → Option Command
command_named word = if bytes_eq word (codes "run") then Some Run else if bytes_eq word (codes "check") then Some Check else None

-- the command that words name, if they do
abbrev pub command_of : List (List ℕ) → Option Command
command_of [] = None
command_of (word ∷ []) = command_named word
command_of (word ∷ other ∷ words) = None

-- what is to be given, where it is known: for a command its trace of the bytes, for other words the usage line
abbrev pub answer_for : Option Command → Option (List ℕ) → Option Given
answer_for (Some c) (Some bytes) = Some (trace c bytes)
answer_for (Some c) None = None
answer_for None left = Some (ended Usage)

abbrev pub answer_to : List (List ℕ) → Option (List ℕ) → Option Given
answer_to words left = answer_for (command_of words) left

abbrev pub Answered : Status → Option Given → Option (List ℕ) → Option (List ℕ) → Type 0
Answered s None before now = Unit {0}
Answered s (Some g) before now = Gave s g before now

-- Under each command.

abbrev pub ReadCutUnder : Option Command → Status → Option (List ℕ) → Option (List ℕ) → Option (List ℕ) → Option (List ℕ) → Type 0
ReadCutUnder (Some c) s left rest before now = ReadCut c s left rest before now
ReadCutUnder None s left rest before now = Unit {0}

abbrev pub CompleteUnder : Option Command → Status → Option (List ℕ) → Option (List ℕ) → Option (List ℕ) → ℕ → ℕ → ℕ → ℕ → Type 0
CompleteUnder (Some Run) s left before now r0 r w0 w = Complete s left before now r0 r w0 w
CompleteUnder (Some Check) s left before now r0 r w0 w = CompleteCheck s left before now r0 r w0 w
CompleteUnder None s left before now r0 r w0 w = Unit {0}

abbrev pub RefusesUnder : Option Command → Status → Option (List ℕ) → Option (List ℕ) → Option (List ℕ) → ℕ → ℕ → ℕ → ℕ → Type 0
RefusesUnder (Some Run) s left before now r0 r w0 w = RefusesDocument s left before now r0 r w0 w
RefusesUnder (Some Check) s left before now r0 r w0 w = RefusesChecked s left before now r0 r w0 w
RefusesUnder None s left before now r0 r w0 w = Unit {0}
