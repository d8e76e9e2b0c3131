-- A document that says items and, with or without the word, events: what a run gives of it, and what a check does.
use Rattle.std.specs.Prelude.{◌≡◌, ℕ, ◌≤◌, List, [], ◌∷◌, ◌++◌, length, map, reverse, flat_map, Bool, true, false, count_by, if◌then◌else◌}
use Rattle.definitions.specs.declared.item.Item.{Item}
use Rattle.definitions.specs.declared.event.Event.{Event}
use Rattle.definitions.specs.declared.document.ItemLine.{ItemLine}
use Rattle.definitions.specs.declared.document.ItemLine.TheVariants as says
use Rattle.definitions.specs.declared.document.EventLine.{EventLine}
use Rattle.definitions.specs.declared.document.EventLine.TheVariants as tells
use Rattle.definitions.specs.declared.document.Ending.{Ending}
use Rattle.definitions.specs.declared.document.Ending.TheVariants as ends
use Rattle.definitions.specs.Lines.{text_lines, text_of}
use Rattle.definitions.specs.Grammar.{is_passed, item_line_of, event_line_of}
use Rattle.definitions.specs.Rules.{finish_rule, is_any_zone, builds}
use Rattle.definitions.specs.Story.{Transition, Story}
use Rattle.definitions.specs.Steps.{story_of}
use Rattle.definitions.specs.Track.{Line}
use Rattle.definitions.specs.Premises.{admits}
use Rattle.definitions.specs.World.{with_train}
use Rattle.definitions.specs.Endings.{end_line, outcomes_text, ending_text}
use Rattle.definitions.specs.Trace.{Given, input_limit, event_limit, went, stands_for}

-- what a text line says among the items, before what more lines say
abbrev pub saying_item : ItemLine → List ItemLine → List ItemLine
saying_item says.Passed more = more
saying_item line more = line ∷ more

-- what text lines say among the items, those left out that are passed over
unfoldable pub said_items : List (List ℕ) → List ItemLine
said_items [] = []
said_items (line ∷ lines) = saying_item (item_line_of (text_of line)) (said_items lines)

-- what a text line says in the script, before what more lines say
abbrev pub saying_event : EventLine → List EventLine → List EventLine
saying_event tells.Passed more = more
saying_event line more = line ∷ more

-- the trains that are declared after what a text line says
abbrev pub knowing : List ℕ → EventLine → List ℕ
knowing known (tells.Event e) = with_train e known
knowing known _ = known

-- what text lines say in the script of a line, where these trains are declared, those left out that are passed over
unfoldable pub said_events : Line → List ℕ → List (List ℕ) → List EventLine
said_events line known [] = []
said_events line known (l ∷ lines) =
    saying_event (event_line_of line known (text_of l)) (said_events line (knowing known (event_line_of line known (text_of l))) lines)

-- text lines that say these items
abbrev pub SayItems : List (List ℕ) → List Item → Type 0
SayItems lines items = said_items lines ≡ map says.Item items

-- text lines that say these events
abbrev pub SayEvents : Line → List ℕ → List (List ℕ) → List Event → Type 0
SayEvents line known lines events = said_events line known lines ≡ map tells.Event events

-- text lines that say items, then the word, then events
pub record SayScript (lines : List (List ℕ)) (items : List Item) (events : List Event) : Type 0 where
  pub front : List (List ℕ)
  pub word : List ℕ
  pub back : List (List ℕ)
  pub parts : lines ≡ front ++ word ∷ back
  pub items_said : SayItems front items
  pub word_said : item_line_of (text_of word) ≡ says.Script
  pub events_said : SayEvents items [] back events

-- a history after one more event of a script: a delivery is its takes
abbrev pub behind_event : Line → List Event → Event → List Event
behind_event line before e = (went line before (stands_for line (story_of line before) e)).events

-- a history after further events of a script
unfoldable pub behind_events : Line → List Event → List Event → List Event
behind_events line before [] = before
behind_events line before (e ∷ events) = behind_events line (behind_event line before e) events

-- each event of a script is admitted after the history so far
unfoldable pub Admitted : Line → List Event → List Event → Type 0
Admitted line before [] = Unit {0}
Admitted line before (e ∷ events) = (admits line (story_of line before) e ≡ true) × Admitted line (behind_event line before e) events

-- within the limits: the items make a line of at most one zone, and the events keep the premises
pub record IsDocument (bytes : List ℕ) (items : List Item) (events : List Event) : Type 0 where
  pub says_ : SayScript (text_lines bytes) items events
  pub builds : builds [] items ≡ true
  pub one : count_by is_any_zone items ≤ 1
  pub finished : finish_rule items ≡ 0
  pub kept : Admitted items [] events
  pub few : length (behind_events items [] events) ≤ event_limit
  pub within : length bytes ≤ input_limit

-- within the limit: the items make a line of at most one zone, and the word does not come
pub record IsDocumentWithoutScript (bytes : List ℕ) (items : List Item) : Type 0 where
  pub says_ : SayItems (text_lines bytes) items
  pub builds : builds [] items ≡ true
  pub one : count_by is_any_zone items ≤ 1
  pub finished : finish_rule items ≡ 0
  pub within : length bytes ≤ input_limit

-- the outcome lines of a story, the oldest first
abbrev pub story_text : Story → List ℕ
story_text s = flat_map (λ (e : Transition). outcomes_text e.lines) (reverse s)

-- the outcome lines of the whole history, and the number of events of the script
abbrev pub whole : List Item → List Event → Given
whole items events = record {
  text = story_text (story_of items (behind_events items [] events)) ++ ending_text (ends.Done (length events));
  ending = ends.Done (length events);
}

-- the trains that are declared after events of a script
unfoldable pub known_after : List ℕ → List Event → List ℕ
known_after known [] = known
known_after known (e ∷ events) = known_after (with_train e known) events

-- within the limits: the items make a line of at most one zone, and the events may be any
pub record IsCheckable (bytes : List ℕ) (items : List Item) (events : List Event) : Type 0 where
  pub says_ : SayScript (text_lines bytes) items events
  pub builds : builds [] items ≡ true
  pub one : count_by is_any_zone items ≤ 1
  pub finished : finish_rule items ≡ 0
  pub known : length (known_after [] events) ≤ 256
  pub few : length events ≤ event_limit
  pub within : length bytes ≤ input_limit

-- the text lines that are not passed over, each with an LF
unfoldable pub kept_lines : List (List ℕ) → List ℕ
kept_lines [] = []
kept_lines (l ∷ lines) = if is_passed (text_of l) then kept_lines lines else text_of l ++ (end_line ++ kept_lines lines)

-- text lines written again, and an ending
abbrev pub lines_ended : List (List ℕ) → Ending → Given
lines_ended lines ending = record { text = kept_lines lines ++ ending_text ending; ending = ending }

-- what a check gives: the document without comments and blank lines, and the number of events
abbrev pub checked : List ℕ → List Event → Given
checked bytes events = lines_ended (text_lines bytes) (ends.Done (length events))

-- an ending that refuses a text line
abbrev pub refuses : Ending → Bool
refuses (ends.LineColumn n c) = true
refuses (ends.Rule n r) = true
refuses (ends.ScriptColumn n c) = true
refuses (ends.Premise n p) = true
refuses ends.Trains = true
refuses ends.Events = true
refuses ends.Messages = true
refuses (ends.Unbuilt n) = true
refuses _ = false
