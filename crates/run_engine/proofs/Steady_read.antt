-- One zone at most, and no more events than text lines.
use Rattle.std.proofs.Common.{◌≡◌, ℕ, ◌+◌, ◌≤◌, List, Option, Some, None, Bool, true, false, refl, arith}
use Rattle.std.specs.Prelude.{nat_eq, nat_le, count_by}
use Rattle.list_laws.proofs.By_test.{by_test}
use Rattle.definitions.specs.declared.item.Item.{Item}
use Rattle.definitions.specs.declared.event.Event.{Event}
use Rattle.definitions.specs.declared.document.ItemLine.{ItemLine}
use Rattle.definitions.specs.declared.document.ItemLine.TheVariants as says
use Rattle.definitions.specs.declared.document.EventLine.{EventLine}
use Rattle.definitions.specs.declared.document.EventLine.TheVariants as tells
use Rattle.definitions.specs.declared.document.Ending.{Ending}
use Rattle.definitions.specs.declared.document.Command.{Command}
use Rattle.definitions.specs.declared.document.Command.TheVariants as is
use Rattle.definitions.specs.World.{trains}
use Rattle.definitions.specs.Grammar.{item_line_of, event_line_of}
use Rattle.definitions.specs.Track.{Line}
use Rattle.definitions.specs.Steps.{story_of}
use Rattle.definitions.specs.Rules.{is_any_zone, rule_of, finish_rule}
use Rattle.definitions.specs.Premises.{beyond_trains}
use Rattle.definitions.specs.Trace.{Stage, Items, Script, Checked, Over, among_items, in_script, in_check, stage_read, item_read, begun, script_read, plan_read, ended_by, event_comes, event_checked, event_limit, second_zone}
use Rattle.document_laws.proofs.Safe_throughout.{one_more}
use Rattle.run_engine.specs.Shown.{Steady}

item_steady : (c : Command) (n m : ℕ) (items : List Item) (i : Item) (text : List ℕ) (rule : ℕ) (second : Bool) → second_zone items i ≡ second → count_by is_any_zone items ≤ 1 → Steady m (item_read c n items i text second rule).stage
item_steady c n m items i text rule true e h = tt
item_steady c n m items i text rule false e h = by_test (nat_eq rule 0)
    (λ y. rw y (one_more items i h e))
    (λ x. rw x tt)

begun_steady : (c : Command) (m : ℕ) (line : Line) → Steady m (begun c line)
begun_steady is.Run m line = omega arith
begun_steady is.Check m line = omega arith

script_steady : (c : Command) (n m : ℕ) (items : List Item) (text : List ℕ) (rule : ℕ) → Steady m (script_read c n items text rule).stage
script_steady c n m items text rule = by_test (nat_eq rule 0)
    (λ y. rw y (begun_steady c m items))
    (λ x. rw x tt)

plan_steady : (c : Command) (n m : ℕ) → Steady m (plan_read c n).stage
plan_steady is.Run n m = tt
plan_steady is.Check n m = tt

ended_steady : (m : ℕ) (o : Option Ending) (line : Line) (events : List Event) (count : ℕ) → count ≤ m → Steady m (ended_by o (Script line events count))
ended_steady m None line events count h = h
ended_steady m (Some ending) line events count h = tt

checked_steady : (m : ℕ) (line : Line) (known : List ℕ) (count : ℕ) (text : List ℕ) (e : Event) → count ≤ m → Steady (m + 1) (event_checked line known count text e).stage
checked_steady m line known count text e h = by_test (beyond_trains known e)
    (λ y. rw y tt)
    (λ w. by_test (nat_le event_limit count) (λ y. rw (w, y) tt) (λ k. rw (w, k) (omega (arith, h))))

items_steady : (c : Command) (n m : ℕ) (items : List Item) (text : List ℕ) (t : ItemLine) → Steady m (Items items) → Steady (m + 1) (among_items c n items text t).stage
items_steady c n m items text says.Passed h = h
items_steady c n m items text (says.Item i) h = item_steady c n (m + 1) items i text (rule_of items i) (second_zone items i) refl h
items_steady c n m items text says.Unbuilt h = tt
items_steady c n m items text says.Script h = script_steady c n (m + 1) items text (finish_rule items)
items_steady c n m items text says.Plan h = plan_steady c n (m + 1)
items_steady c n m items text (says.Fault column) h = tt

events_steady : (n m : ℕ) (line : Line) (events : List Event) (count : ℕ) (t : EventLine) → count ≤ m → Steady (m + 1) (in_script n line events count t).stage
events_steady n m line events count tells.Passed h = omega (arith, h)
events_steady n m line events count (tells.Event e) h =
    let x = event_comes n line events (story_of line events) e in
    ended_steady (m + 1) x.ending line x.went.events (count + 1) (omega (arith, h))
events_steady n m line events count tells.Unbuilt h = tt
events_steady n m line events count (tells.Fault column) h = tt

check_steady : (n m : ℕ) (line : Line) (known : List ℕ) (count : ℕ) (text : List ℕ) (t : EventLine) → count ≤ m → Steady (m + 1) (in_check n line known count text t).stage
check_steady n m line known count text tells.Passed h = omega (arith, h)
check_steady n m line known count text (tells.Event e) h = checked_steady m line known count text e h
check_steady n m line known count text tells.Unbuilt h = tt
check_steady n m line known count text (tells.Fault column) h = tt

pub steady_read : (c : Command) (n m : ℕ) (s : Stage) (text : List ℕ) → Steady m s → Steady (m + 1) (stage_read c n s text).stage
unfolding stage_read
steady_read c n m (Items items) text h = items_steady c n m items text (item_line_of text) h
steady_read c n m (Script line events count) text h = events_steady n m line events count (event_line_of line (trains (story_of line events)) text) h
steady_read c n m (Checked line known count) text h = check_steady n m line known count text (event_line_of line known text) h
steady_read c n m (Over ending) text h = h
