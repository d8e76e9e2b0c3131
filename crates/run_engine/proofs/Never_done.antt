-- No text line ends a document as done.
use Rattle.std.proofs.Common.{◌≡◌, ℕ, ◌+◌, List, [], Option, Some, None, Bool, true, false, refl, sym, ◌∙◌, ap}
use Rattle.std.specs.Prelude.{nat_eq, nat_le}
use Rattle.list_laws.proofs.By_test.{by_test}
use Rattle.definitions.specs.declared.item.Item.{Item}
use Rattle.definitions.specs.declared.event.Event.{Event}
use Rattle.definitions.specs.declared.document.ItemLine.{ItemLine}
use Rattle.definitions.specs.declared.document.ItemLine.TheVariants as says
use Rattle.definitions.specs.declared.document.EventLine.{EventLine}
use Rattle.definitions.specs.declared.document.EventLine.TheVariants as tells
use Rattle.definitions.specs.Grammar.{item_line_of, event_line_of}
use Rattle.definitions.specs.declared.document.Command.{Command}
use Rattle.definitions.specs.declared.document.Command.TheVariants as is
use Rattle.definitions.specs.World.{trains}
use Rattle.definitions.specs.declared.document.Ending.{Ending}
use Rattle.definitions.specs.declared.document.Ending.TheVariants as ends
use Rattle.definitions.specs.Rules.{rule_of, finish_rule}
use Rattle.definitions.specs.Track.{Line}
use Rattle.definitions.specs.Story.{Story}
use Rattle.definitions.specs.Steps.{story_of}
use Rattle.definitions.specs.Premises.{beyond_trains}
use Rattle.definitions.specs.Trace.{Stage, Items, Script, Checked, Over, is_over, among_items, in_script, in_check, stage_read, stage_ends, second_zone, item_read, begun, plan_read, came, ended_by, event_comes, event_checked, event_limit, Given}
use Rattle.document_laws.proofs.Has_room.{EndsAs, event_ends}
use Rattle.run_engine.specs.Shown.{done_early}

abbrev NotDone : Ending → Type 0
NotDone ending = done_early (Over ending) ≡ false

ended_never : (o : Option Ending) (line : Line) (events : List Event) (count : ℕ) → EndsAs NotDone o → done_early (ended_by o (Script line events count)) ≡ false
ended_never None line events count h = refl
ended_never (Some ending) line events count h = h

comes_never : (n : ℕ) (line : Line) (events : List Event) (count : ℕ) (s : Story) (e : Event) → done_early (came line count (event_comes n line events s e)).stage ≡ false
comes_never n line events count s e =
    let x = event_comes n line events s e in
    ended_never x.ending line x.went.events (count + 1) (event_ends NotDone refl refl n (λ p. refl) line events s e)

checked_never : (line : Line) (known : List ℕ) (count : ℕ) (text : List ℕ) (e : Event) → done_early (event_checked line known count text e).stage ≡ false
checked_never line known count text e = by_test (beyond_trains known e)
    (λ y. rw y refl)
    (λ m. by_test (nat_le event_limit count) (λ y. rw (m, y) refl) (λ k. rw (m, k) refl))

item_never : (c : Command) (n : ℕ) (items : List Item) (i : Item) (text : List ℕ) (second : Bool) (rule : ℕ) → done_early (item_read c n items i text second rule).stage ≡ false
item_never c n items i text true rule = refl
item_never c n items i text false rule = by_test (nat_eq rule 0) (λ y. rw y refl) (λ x. rw x refl)

begun_never : (c : Command) (line : Line) → done_early (begun c line) ≡ false
begun_never is.Run line = refl
begun_never is.Check line = refl

plan_never : (c : Command) (n : ℕ) → done_early (plan_read c n).stage ≡ false
plan_never is.Run n = refl
plan_never is.Check n = refl

items_never : (c : Command) (n : ℕ) (items : List Item) (text : List ℕ) (t : ItemLine) → done_early (among_items c n items text t).stage ≡ false
items_never c n items text says.Passed = refl
items_never c n items text (says.Item i) = item_never c n items i text (second_zone items i) (rule_of items i)
items_never c n items text says.Unbuilt = refl
items_never c n items text says.Script = by_test (nat_eq (finish_rule items) 0) (λ y. rw y (begun_never c items)) (λ x. rw x refl)
items_never c n items text says.Plan = plan_never c n
items_never c n items text (says.Fault column) = refl

script_never : (n : ℕ) (line : Line) (events : List Event) (count : ℕ) (t : EventLine) → done_early (in_script n line events count t).stage ≡ false
script_never n line events count tells.Passed = refl
script_never n line events count (tells.Event e) = comes_never n line events count (story_of line events) e
script_never n line events count tells.Unbuilt = refl
script_never n line events count (tells.Fault column) = refl

check_never : (n : ℕ) (line : Line) (known : List ℕ) (count : ℕ) (text : List ℕ) (t : EventLine) → done_early (in_check n line known count text t).stage ≡ false
check_never n line known count text tells.Passed = refl
check_never n line known count text (tells.Event e) = checked_never line known count text e
check_never n line known count text tells.Unbuilt = refl
check_never n line known count text (tells.Fault column) = refl

pub never_done : (c : Command) (n : ℕ) (s : Stage) (text : List ℕ) → done_early s ≡ false → done_early (stage_read c n s text).stage ≡ false
unfolding stage_read
never_done c n (Items items) text h = items_never c n items text (item_line_of text)
never_done c n (Script line events count) text h = script_never n line events count (event_line_of line (trains (story_of line events)) text)
never_done c n (Checked line known count) text h = check_never n line known count text (event_line_of line known text)
never_done c n (Over ending) text h = h
