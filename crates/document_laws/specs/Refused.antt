-- A document that is refused at a text line, or because its line does not finish.
use Rattle.std.specs.Prelude.{◌≡◌, ℕ, ◌+◌, ◌<◌, ◌≤◌, List, [], ◌∷◌, ◌++◌, length, true, false, count_by, Some, None}
use Rattle.definitions.specs.declared.item.Item.{Item}
use Rattle.definitions.specs.declared.event.Event.{Event}
use Rattle.definitions.specs.declared.document.ItemLine.{ItemLine}
use Rattle.definitions.specs.declared.document.ItemLine.TheVariants as says
use Rattle.definitions.specs.declared.document.EventLine.{EventLine}
use Rattle.definitions.specs.declared.document.EventLine.TheVariants as tells
use Rattle.definitions.specs.declared.document.Command.{Command}
use Rattle.definitions.specs.declared.document.Command.TheVariants as is
use Rattle.definitions.specs.declared.document.Ending.{Ending}
use Rattle.definitions.specs.declared.document.Ending.TheVariants as ends
use Rattle.definitions.specs.Lines.{text_lines, text_of}
use Rattle.definitions.specs.Grammar.{item_line_of, event_line_of}
use Rattle.definitions.specs.Rules.{rule_of, finish_rule, is_any_zone, builds}
use Rattle.definitions.specs.Story.{Story}
use Rattle.definitions.specs.Steps.{story_of}
use Rattle.definitions.specs.Track.{Line}
use Rattle.definitions.specs.World.{trains}
use Rattle.definitions.specs.Premises.{too_many, beyond_trains, premise_of}
use Rattle.definitions.specs.Endings.{ending_text}
use Rattle.definitions.specs.Trace.{Given, ended, input_limit, event_limit, second_zone, stands_for, no_room, comes}
use Rattle.document_laws.specs.Throughout.{led_to}
use Rattle.document_laws.specs.Whole.{SayItems, SayScript, behind_events, Admitted, known_after, story_text, lines_ended}

-- what refuses an event at text line n of a run: the limit on trains; else the limit on events or on messages that stops what
-- it stands for; else the least premise that it breaks
abbrev pub EventRefused : ℕ → Line → List Event → Story → Event → Ending → Type 0
EventRefused n line before s e ends.Trains = too_many s e ≡ true
EventRefused n line before s e ends.Events = (too_many s e ≡ false) × ((comes line before (stands_for line s e)).ending ≡ Some ends.Events)
EventRefused n line before s e ends.Messages = (too_many s e ≡ false) × ((comes line before (stands_for line s e)).ending ≡ Some ends.Messages)
EventRefused n line before s e (ends.Premise m p) =
    (m ≡ n) × (too_many s e ≡ false) × (no_room before s ≡ None) × (p ≡ premise_of line s e) × (0 < p)
EventRefused n line before s e ending = ⊥

-- what refuses text line n of a script that is run: an event; a form that has no meaning yet; or what is no event, or has a
-- refused field, at its column
abbrev pub ScriptRefuses : ℕ → Line → List Event → EventLine → Ending → Type 0
ScriptRefuses n line before (tells.Event e) ending = EventRefused n line before (story_of line before) e ending
ScriptRefuses n line before tells.Passed ending = ⊥
ScriptRefuses n line before tells.Unbuilt ending = ending ≡ ends.Unbuilt n
ScriptRefuses n line before (tells.Fault column) ending = ending ≡ ends.ScriptColumn n column

-- what refuses an event of a check, after so many: the limit on trains; else that on events
abbrev pub CheckRefusesEvent : List ℕ → ℕ → Event → Ending → Type 0
CheckRefusesEvent known count e ends.Trains = beyond_trains known e ≡ true
CheckRefusesEvent known count e ends.Events = (beyond_trains known e ≡ false) × (event_limit ≤ count)
CheckRefusesEvent known count e ending = ⊥

-- what refuses text line n of a script that is checked
abbrev pub CheckRefuses : ℕ → List ℕ → ℕ → EventLine → Ending → Type 0
CheckRefuses n known count (tells.Event e) ending = CheckRefusesEvent known count e ending
CheckRefuses n known count tells.Passed ending = ⊥
CheckRefuses n known count tells.Unbuilt ending = ending ≡ ends.Unbuilt n
CheckRefuses n known count (tells.Fault column) ending = ending ≡ ends.ScriptColumn n column

-- what refuses an item at text line n: a second zone is not built; else the least rule that it breaks
abbrev pub ItemRefused : ℕ → List Item → Item → Ending → Type 0
ItemRefused n items i (ends.Unbuilt m) = (m ≡ n) × (second_zone items i ≡ true)
ItemRefused n items i (ends.Rule m r) = (m ≡ n) × (second_zone items i ≡ false) × (r ≡ rule_of items i) × (0 < r)
ItemRefused n items i ending = ⊥

-- what refuses the word of a plan at text line n: a run has no place for it, and a check no meaning yet
abbrev pub PlanRefused : Command → ℕ → Ending → Type 0
PlanRefused is.Run n ending = ending ≡ ends.ScriptColumn n 1
PlanRefused is.Check n ending = ending ≡ ends.Unbuilt n

-- what refuses text line n among the items: an item; the word, after items of which the line does not finish; the word of a
-- plan, whether the line finishes or not; or what is no item, at its column
abbrev pub ItemsRefuse : Command → ℕ → List Item → ItemLine → Ending → Type 0
ItemsRefuse c n before (says.Item i) ending = ItemRefused n before i ending
ItemsRefuse c n before says.Unbuilt ending = ending ≡ ends.Unbuilt n
ItemsRefuse c n before says.Script ending = (ending ≡ ends.Rule n (finish_rule before)) × (0 < finish_rule before)
ItemsRefuse c n before says.Plan ending = PlanRefused c n ending
ItemsRefuse c n before (says.Fault column) ending = ending ≡ ends.LineColumn n column
ItemsRefuse c n before says.Passed ending = ⊥

-- what the last text line says after events
abbrev pub says_last : Line → List Event → List ℕ → EventLine
says_last line events last = event_line_of line (trains (story_of line events)) (text_of last)

-- within the limits: items that make a line of at most one zone, the word, and events that keep the premises; then a text
-- line that is refused, after which nothing is read. The history is that up to there: of a delivery that meets a limit it has
-- the takes before.
pub record IsRefusedInScript (bytes : List ℕ) (items : List Item) (events history : List Event) (ending : Ending) : Type 0 where
  pub before : List (List ℕ)
  pub last : List ℕ
  pub behind : List (List ℕ)
  pub lines : text_lines bytes ≡ before ++ last ∷ behind
  pub says_ : SayScript before items events
  pub builds : builds [] items ≡ true
  pub one : count_by is_any_zone items ≤ 1
  pub finished : finish_rule items ≡ 0
  pub kept : Admitted items [] events
  pub few : length (behind_events items [] events) ≤ event_limit
  pub refused : ScriptRefuses (length before + 1) items (behind_events items [] events) (says_last items (behind_events items [] events) last) ending
  pub reached : history ≡ led_to items (behind_events items [] events) (says_last items (behind_events items [] events) last)
  pub within : length bytes ≤ input_limit

-- the same in a check, which tries no premise
pub record IsRefusedInCheck (bytes : List ℕ) (items : List Item) (events : List Event) (ending : Ending) : Type 0 where
  pub before : List (List ℕ)
  pub last : List ℕ
  pub behind : List (List ℕ)
  pub lines : text_lines bytes ≡ before ++ last ∷ behind
  pub says_ : SayScript before items events
  pub builds : builds [] items ≡ true
  pub one : count_by is_any_zone items ≤ 1
  pub finished : finish_rule items ≡ 0
  pub known : length (known_after [] events) ≤ 256
  pub few : length events ≤ event_limit
  pub refused : CheckRefuses (length before + 1) (known_after [] events) (length events) (event_line_of items (known_after [] events) (text_of last)) ending
  pub within : length bytes ≤ input_limit

-- within the limit: items of at most one zone that break no rule; then a text line that is refused
pub record IsRefusedAmongItems (c : Command) (bytes : List ℕ) (items : List Item) (ending : Ending) : Type 0 where
  pub before : List (List ℕ)
  pub last : List ℕ
  pub behind : List (List ℕ)
  pub lines : text_lines bytes ≡ before ++ last ∷ behind
  pub says_ : SayItems before items
  pub builds : builds [] items ≡ true
  pub one : count_by is_any_zone items ≤ 1
  pub refused : ItemsRefuse c (length before + 1) items (item_line_of (text_of last)) ending
  pub within : length bytes ≤ input_limit

-- within the limit: items alone of at most one zone that break no rule one by one, of which the line does not finish
pub record IsUnfinished (bytes : List ℕ) (items : List Item) : Type 0 where
  pub says_ : SayItems (text_lines bytes) items
  pub builds : builds [] items ≡ true
  pub one : count_by is_any_zone items ≤ 1
  pub broken : 0 < finish_rule items
  pub within : length bytes ≤ input_limit

-- the outcome lines of a history, and an ending
abbrev pub story_ended : List Item → List Event → Ending → Given
story_ended items history ending = record { text = story_text (story_of items history) ++ ending_text ending; ending = ending }

-- what a command has written of text lines among the items
abbrev pub items_ended : Command → List (List ℕ) → Ending → Given
items_ended is.Run lines ending = ended ending
items_ended is.Check lines ending = lines_ended lines ending
