-- What a run and a check give of a document that keeps to the rules, and of one that is refused, where no fault was counted.
use Rattle.std.specs.Prelude.{◌≡◌, ℕ, ◌+◌, List, [], length, Option, Some, None}
use Rattle.edge_io.specs.declared.status.Status.{Status}
use Rattle.edge_io.specs.declared.status.Status.TheVariants as status
use Rattle.edge_io.specs.Reading.{WroteIs}
use Rattle.edge_io.specs.Causes.{Rose}
use Rattle.definitions.specs.declared.item.Item.{Item}
use Rattle.definitions.specs.declared.event.Event.{Event}
use Rattle.definitions.specs.declared.document.Ending.{Ending}
use Rattle.definitions.specs.declared.document.Ending.TheVariants as ends
use Rattle.definitions.specs.Lines.{text_lines}
use Rattle.definitions.specs.Rules.{finish_rule}
use Rattle.definitions.specs.Endings.{status_of}
use Rattle.definitions.specs.Trace.{Given, trace}
use Rattle.definitions.specs.declared.document.Command.{Command}
use Rattle.definitions.specs.declared.document.Command.TheVariants as is
use Rattle.document_laws.specs.Whole.{IsDocument, IsDocumentWithoutScript, IsCheckable, whole, checked, lines_ended}
use Rattle.document_laws.specs.Refused.{IsRefusedInScript, IsRefusedInCheck, IsRefusedAmongItems, IsUnfinished, story_ended, items_ended}

-- done, with exactly this text; or want of memory
abbrev pub Completed : Status → Given → Option (List ℕ) → Option (List ℕ) → Type 0
Completed status.Memory g before now = Unit {0}
Completed s g before now = (s ≡ status.Done) × WroteIs before now g.text

-- neither count rose
pub record NoFault (r0 r w0 w : ℕ) : Type 0 where
  pub read : Rose r0 r → ⊥
  pub wrote : Rose w0 w → ⊥

-- a document of items, the word and events
abbrev pub CompleteScript : Status → List ℕ → Option (List ℕ) → Option (List ℕ) → Type 0
CompleteScript s bytes before now = (items : List Item) (events : List Event) → IsDocument bytes items events → Completed s (whole items events) before now

-- a document without the word
abbrev pub CompleteLine : Status → List ℕ → Option (List ℕ) → Option (List ℕ) → Type 0
CompleteLine s bytes before now = (items : List Item) → IsDocumentWithoutScript bytes items → Completed s (whole items []) before now

pub record CompleteFor (s : Status) (bytes : List ℕ) (before now : Option (List ℕ)) : Type 0 where
  pub script : CompleteScript s bytes before now
  pub line : CompleteLine s bytes before now

-- where the source tells its bytes, and no fault was counted
abbrev pub Complete : Status → Option (List ℕ) → Option (List ℕ) → Option (List ℕ) → ℕ → ℕ → ℕ → ℕ → Type 0
Complete s None before now r0 r w0 w = Unit {0}
Complete s (Some bytes) before now r0 r w0 w = NoFault r0 r w0 w → CompleteFor s bytes before now

-- the status that goes with the ending, with exactly this text; or want of memory
abbrev pub Settled : Status → Given → Option (List ℕ) → Option (List ℕ) → Type 0
Settled status.Memory g before now = Unit {0}
Settled s g before now = (s ≡ status_of g.ending) × WroteIs before now g.text

-- a document that is refused in its script: the story of what stands before, and the ending
abbrev pub RefusesScript : Status → List ℕ → Option (List ℕ) → Option (List ℕ) → Type 0
RefusesScript s bytes before now =
    (items : List Item) (events history : List Event) (ending : Ending) → IsRefusedInScript bytes items events history ending → Settled s (story_ended items history ending) before now

-- one that is refused in the script of a check: the text lines before it, and the ending
abbrev pub RefusesCheckedScript : Status → List ℕ → Option (List ℕ) → Option (List ℕ) → Type 0
RefusesCheckedScript s bytes before now =
    (items : List Item) (events : List Event) (ending : Ending) (d : IsRefusedInCheck bytes items events ending) → Settled s (lines_ended d.before ending) before now

-- one that is refused among its items: what the command has written of the text lines before, and the ending
abbrev pub RefusesItems : Command → Status → List ℕ → Option (List ℕ) → Option (List ℕ) → Type 0
RefusesItems c s bytes before now = (items : List Item) (ending : Ending) (d : IsRefusedAmongItems c bytes items ending) → Settled s (items_ended c d.before ending) before now

-- one whose line does not finish
abbrev pub RefusesUnfinished : Command → Status → List ℕ → Option (List ℕ) → Option (List ℕ) → Type 0
RefusesUnfinished c s bytes before now =
    (items : List Item) → IsUnfinished bytes items → Settled s (items_ended c (text_lines bytes) (ends.Rule (length (text_lines bytes) + 1) (finish_rule items))) before now

pub record RefusesFor (s : Status) (bytes : List ℕ) (before now : Option (List ℕ)) : Type 0 where
  pub in_script : RefusesScript s bytes before now
  pub among_items : RefusesItems is.Run s bytes before now
  pub unfinished : RefusesUnfinished is.Run s bytes before now

-- where the source tells its bytes, and no fault was counted
abbrev pub RefusesDocument : Status → Option (List ℕ) → Option (List ℕ) → Option (List ℕ) → ℕ → ℕ → ℕ → ℕ → Type 0
RefusesDocument s None before now r0 r w0 w = Unit {0}
RefusesDocument s (Some bytes) before now r0 r w0 w = NoFault r0 r w0 w → RefusesFor s bytes before now

-- The same of a check.

-- a document of items, the word and events
abbrev pub CheckedScript : Status → List ℕ → Option (List ℕ) → Option (List ℕ) → Type 0
CheckedScript s bytes before now = (items : List Item) (events : List Event) → IsCheckable bytes items events → Completed s (checked bytes events) before now

-- a document without the word
abbrev pub CheckedLine : Status → List ℕ → Option (List ℕ) → Option (List ℕ) → Type 0
CheckedLine s bytes before now = (items : List Item) → IsDocumentWithoutScript bytes items → Completed s (checked bytes []) before now

pub record CheckedFor (s : Status) (bytes : List ℕ) (before now : Option (List ℕ)) : Type 0 where
  pub script : CheckedScript s bytes before now
  pub line : CheckedLine s bytes before now

abbrev pub CompleteCheck : Status → Option (List ℕ) → Option (List ℕ) → Option (List ℕ) → ℕ → ℕ → ℕ → ℕ → Type 0
CompleteCheck s None before now r0 r w0 w = Unit {0}
CompleteCheck s (Some bytes) before now r0 r w0 w = NoFault r0 r w0 w → CheckedFor s bytes before now

pub record RefusesCheckedFor (s : Status) (bytes : List ℕ) (before now : Option (List ℕ)) : Type 0 where
  pub in_script : RefusesCheckedScript s bytes before now
  pub among_items : RefusesItems is.Check s bytes before now
  pub unfinished : RefusesUnfinished is.Check s bytes before now

abbrev pub RefusesChecked : Status → Option (List ℕ) → Option (List ℕ) → Option (List ℕ) → ℕ → ℕ → ℕ → ℕ → Type 0
RefusesChecked s None before now r0 r w0 w = Unit {0}
RefusesChecked s (Some bytes) before now r0 r w0 w = NoFault r0 r w0 w → RefusesCheckedFor s bytes before now

-- No command ends it by the limit on messages: that on events comes first.

abbrev pub NeverMessages : List ℕ → Type 0
NeverMessages bytes = (c : Command) → (trace c bytes).ending ≡ ends.Messages → ⊥
