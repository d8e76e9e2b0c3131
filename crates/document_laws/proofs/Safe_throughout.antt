-- What every stage that is reached keeps, and so safety after each event of every history.
use Rattle.std.proofs.Common.{◌≡◌, ℕ, zero, suc, ◌+◌, ◌≤◌, ◌<◌, ◌^◌, List, [], ◌∷◌, ◌++◌, length, take, drop, Bool, true, false, refl, sym, ◌∙◌, ap, append_assoc, append-nil, arith}
use Rattle.std.proofs.lemmas.List.{length-drop}
use Rattle.std.proofs.lemmas.List.Sums.{sum_by-append}
use Rattle.std.specs.Prelude.{nat_eq, nat_lt, nat_le, cond, count_by, get_or, Option, Some, None, ◌&&◌, not}
use Rattle.std.specs.List.{list_any}
use Rattle.std.proofs.lemmas.Bool.{and_parts, or_parts}
use Rattle.list_laws.proofs.By_test.{by_test}
use Rattle.definitions.specs.declared.item.Item.{Item}
use Rattle.definitions.specs.declared.item.Item.TheVariants.{Zone, Segment, Joint, Portal, Buffer, Brake, Silent}
use Rattle.definitions.specs.declared.event.Event.{Event}
use Rattle.definitions.specs.declared.document.Command.{Command}
use Rattle.definitions.specs.declared.document.Command.TheVariants as is
use Rattle.definitions.specs.declared.document.ItemLine.{ItemLine}
use Rattle.definitions.specs.declared.document.ItemLine.TheVariants as says
use Rattle.definitions.specs.declared.document.EventLine.{EventLine}
use Rattle.definitions.specs.declared.document.EventLine.TheVariants as tells
use Rattle.definitions.specs.declared.document.Ending.{Ending}
use Rattle.definitions.specs.Lines.{text_lines, text_of}
use Rattle.definitions.specs.Grammar.{item_line_of, event_line_of}
use Rattle.definitions.specs.Track.{Line}
use Rattle.definitions.specs.Rules.{rule_of, finish_rule, is_any_zone, builds, is_line}
use Rattle.definitions.specs.Premises.{beyond_trains}
use Rattle.definitions.specs.World.{trains}
use Rattle.definitions.specs.Control.{last_issued}
use Rattle.definitions.specs.Steps.{story_of}
use Rattle.definitions.specs.Safe.{Kept, IsLineOfOneZone}
use Rattle.definitions.specs.Trace.{Stage, Items, Script, Checked, Over, Reading, start, is_over, input_limit, event_limit, text_read, line_read, among_items, in_script, in_check, stage_read, second_zone, item_read, begun, script_read, plan_read, event_checked, event_comes, ended_by}
use Rattle.event_laws.proofs.Event_kept.{event_kept, event_few}
use Rattle.document_laws.specs.Throughout.{stands, led_to, SafeHistory, SafeUpTo, SafeAt, SafeThroughout}
use Rattle.event_laws.proofs.Number_most.{number_most}
use Rattle.event_laws.proofs.Clock_most.{clock_most}
use Rattle.document_laws.proofs.Has_room.{is_messages, OtherEnding, event_other}
use Rattle.document_laws.proofs.Said_built.{said_built}

-- the first holds, the second does not, and the third holds
pub all_three : (x y z : Bool) → (x && (not y && z)) ≡ true → (x ≡ true) × (y ≡ false) × (z ≡ true)
all_three true false z h = (refl, refl, h)
all_three true true z h = absurd cc
all_three false y z h = absurd cc

-- one item more
pub builds_more : (before items : List Item) (i : Item) → builds before items ≡ true → nat_eq (rule_of (before ++ items) i) 0 ≡ true → builds before (items ++ i ∷ []) ≡ true
unfolding builds
builds_more before [] i b h = rw (ap (λ k. nat_eq (rule_of k i) 0) (sym (append-nil before)) ∙ h) refl
builds_more before (j ∷ items) i b h =
    let k = and_parts (nat_eq (rule_of before j) 0) (builds (before ++ j ∷ []) items) b in
    rw k.0 (builds_more (before ++ j ∷ []) items i k.1 (ap (λ l. nat_eq (rule_of l i) 0) (append_assoc before (j ∷ []) items) ∙ h))

pub none_counted : (items : List Item) → list_any is_any_zone items ≡ false → count_by is_any_zone items ≡ 0
none_counted [] h = refl
none_counted (i ∷ items) h =
    let k = or_parts (is_any_zone i) (list_any is_any_zone items) h in
    rw k.0 (none_counted items k.1)

pub zones_append : (xs ys : List Item) → count_by is_any_zone (xs ++ ys) ≡ count_by is_any_zone xs + count_by is_any_zone ys
zones_append xs ys = sum_by-append (λ i. cond (is_any_zone i) 1 0) xs ys

-- at most one zone, and none that is a second
pub one_more : (items : List Item) (i : Item) → count_by is_any_zone items ≤ 1 → second_zone items i ≡ false → count_by is_any_zone (items ++ i ∷ []) ≤ 1
one_more items (Zone z) c h = omega (arith, zones_append items (Zone z ∷ []), none_counted items h)
one_more items (Segment s z len) c h = omega (arith, c, zones_append items (Segment s z len ∷ []))
one_more items (Joint a b) c h = omega (arith, c, zones_append items (Joint a b ∷ []))
one_more items (Portal a) c h = omega (arith, c, zones_append items (Portal a ∷ []))
one_more items (Buffer a) c h = omega (arith, c, zones_append items (Buffer a ∷ []))
one_more items (Brake ticks runaway rate) c h = omega (arith, c, zones_append items (Brake ticks runaway rate ∷ []))
one_more items (Silent ms) c h = omega (arith, c, zones_append items (Silent ms ∷ []))

-- a history that keeps the premises and the limit on events
abbrev pub KeptWithin : Line → List Event → Type 0
KeptWithin line events = Kept line events × (length events ≤ event_limit)

-- an event that a text line says leads to such a one
kept_within : (n : ℕ) (line : Line) (events : List Event) (text : List ℕ) (e : Event) → event_line_of line (trains (story_of line events)) text ≡ tells.Event e → KeptWithin line events → KeptWithin line (event_comes n line events (story_of line events) e).went.events
kept_within n line events text e is g = (event_kept n line events e (said_built line (story_of line events) text e is) g.0, event_few n line events e g.1)

-- what every stage that is reached keeps
abbrev pub Good : Stage → Type 0
Good (Items items) = (builds [] items ≡ true) × (count_by is_any_zone items ≤ 1)
Good (Script line events count) = IsLineOfOneZone line × KeptWithin line events
Good (Checked line known count) = IsLineOfOneZone line
Good (Over ending) = is_messages ending ≡ false

good_item : (c : Command) (n : ℕ) (items : List Item) (text : List ℕ) (i : Item) → Good (Items items) → Good (item_read c n items i text (second_zone items i) (rule_of items i)).stage
good_item c n items text i g = by_test (second_zone items i)
    (λ y. rw y refl)
    (λ x. by_test (nat_eq (rule_of items i) 0)
    (λ y. rw (x, y) (builds_more [] items i g.0 y, one_more items i g.1 x))
    (λ z. rw (x, z) refl))

is_line_of : (items : List Item) → builds [] items ≡ true → nat_eq (finish_rule items) 0 ≡ true → is_line items ≡ true
is_line_of items b f = rw (b, f) refl

good_begun : (c : Command) (line : Line) → IsLineOfOneZone line → Good (begun c line)
unfolding Kept
good_begun is.Run line g = (g, (tt, omega arith))
good_begun is.Check line g = g

good_script : (c : Command) (n : ℕ) (items : List Item) (text : List ℕ) → Good (Items items) → Good (script_read c n items text (finish_rule items)).stage
good_script c n items text g = by_test (nat_eq (finish_rule items) 0)
    (λ y. rw y (good_begun c items (record { valid = is_line_of items g.0 y; one = g.1 })))
    (λ e. rw e refl)

good_plan : (c : Command) (n : ℕ) → Good (plan_read c n).stage
good_plan is.Run n = refl
good_plan is.Check n = refl

good_items : (c : Command) (n : ℕ) (items : List Item) (text : List ℕ) (t : ItemLine) → Good (Items items) → Good (among_items c n items text t).stage
good_items c n items text says.Passed g = g
good_items c n items text (says.Item i) g = good_item c n items text i g
good_items c n items text says.Unbuilt g = refl
good_items c n items text says.Script g = good_script c n items text g
good_items c n items text says.Plan g = good_plan c n
good_items c n items text (says.Fault column) g = refl

good_ended : (ending : Option Ending) (s : Stage) → OtherEnding ending → Good s → Good (ended_by ending s)
good_ended None s h g = g
good_ended (Some ending) s h g = h

good_events : (n : ℕ) (line : Line) (events : List Event) (count : ℕ) (text : List ℕ) (t : EventLine) → event_line_of line (trains (story_of line events)) text ≡ t → Good (Script line events count) → Good (in_script n line events count t).stage
good_events n line events count text tells.Passed is g = g
good_events n line events count text (tells.Event e) is g =
    let x = event_comes n line events (story_of line events) e in
    good_ended x.ending (Script line x.went.events (count + 1)) (event_other n line events (story_of line events) e) (g.0, kept_within n line events text e is g.1)
good_events n line events count text tells.Unbuilt is g = refl
good_events n line events count text (tells.Fault column) is g = refl

good_checked : (line : Line) (known : List ℕ) (count : ℕ) (text : List ℕ) (e : Event) → IsLineOfOneZone line → Good (event_checked line known count text e).stage
good_checked line known count text e g = by_test (beyond_trains known e)
    (λ y. rw y refl)
    (λ n. by_test (nat_le event_limit count) (λ y. rw (n, y) refl) (λ m. rw (n, m) g))

good_check : (n : ℕ) (line : Line) (known : List ℕ) (count : ℕ) (text : List ℕ) (t : EventLine) → IsLineOfOneZone line → Good (in_check n line known count text t).stage
good_check n line known count text tells.Passed g = g
good_check n line known count text (tells.Event e) g = good_checked line known count text e g
good_check n line known count text tells.Unbuilt g = refl
good_check n line known count text (tells.Fault column) g = refl

good_stage : (c : Command) (n : ℕ) (s : Stage) (text : List ℕ) → Good s → Good (stage_read c n s text).stage
unfolding stage_read
good_stage c n (Items items) text g = good_items c n items text (item_line_of text) g
good_stage c n (Script line events count) text g = good_events n line events count text (event_line_of line (trains (story_of line events)) text) refl g
good_stage c n (Checked line known count) text g = good_check n line known count text (event_line_of line known text) g
good_stage c n (Over ending) text g = g

pub good_line : (r : Reading) (line : List ℕ) → Good r.stage → Good (line_read r line).next.stage
unfolding text_read
good_line r line g = by_test (is_over r.stage)
    (λ y. rw y g)
    (λ x. by_test (nat_lt input_limit (r.bytes + length line))
    (λ y. rw (x, y) refl)
    (λ z. rw (x, z) (good_stage r.command (r.number + 1) r.stage (text_of line) g)))

pub good_stands : (lines : List (List ℕ)) (r : Reading) → Good r.stage → Good (stands r lines).stage
unfolding stands
good_stands [] r g = g
good_stands (line ∷ lines) r g = good_stands lines (line_read r line).next (good_line r line g)

pub good_start : (c : Command) → Good (start c).stage
unfolding builds
good_start c = (refl, omega arith)

-- the numbers of authorities are small
abbrev pub SmallNumbers : Line → List Event → Type 0
SmallNumbers line events = (t : ℕ) → last_issued t (story_of line events) < 2 ^ 27

-- the safety of stories, told of every valid line of one zone and of all events that keep the premises and have small numbers
abbrev pub SafeStories : Type 0
SafeStories = (line : Line) (events : List Event) → IsLineOfOneZone line → Kept line events → SmallNumbers line events → SafeHistory line events

-- the history before its newest events
kept_before : (line : Line) (k : ℕ) (events : List Event) → Kept line events → Kept line (drop k events)
unfolding Kept
kept_before line zero events h = h
kept_before line (suc k) [] h = h
kept_before line (suc k) (e ∷ events) h = kept_before line k events h.1

small_numbers : (line : Line) (events : List Event) → length events ≤ event_limit → SmallNumbers line events
small_numbers line events few t = let n = number_most t line events in omega (arith, n, few)

safe_up_to : SafeStories → (line : Line) (events : List Event) → IsLineOfOneZone line → KeptWithin line events → SafeUpTo line events
safe_up_to safe line events one g = record {
  after = λ k. safe line (drop k events) one (kept_before line k events g.0) (small_numbers line (drop k events) (let few = g.1 in omega (arith, few, length-drop k events)));
  early = let few = g.1 in let slow = clock_most line events g.0 in omega (arith, few, slow);
}

led_kept : (line : Line) (events : List Event) (text : List ℕ) (t : EventLine) → event_line_of line (trains (story_of line events)) text ≡ t → KeptWithin line events → KeptWithin line (led_to line events t)
led_kept line events text (tells.Event e) is g = kept_within 0 line events text e is g
led_kept line events text _ is g = g

safe_at : SafeStories → (s : Stage) (text : List ℕ) → Good s → SafeAt s text
safe_at safe (Items items) text g = tt
safe_at safe (Script line events count) text g =
    let t = event_line_of line (trains (story_of line events)) text in
    (safe_up_to safe line events g.0 g.1, safe_up_to safe line (led_to line events t) g.0 (led_kept line events text t refl g.1))
safe_at safe (Checked line known count) text g = tt
safe_at safe (Over ending) text g = tt

pub safe_throughout : SafeStories → (bytes : List ℕ) → SafeThroughout bytes
safe_throughout safe bytes k =
    safe_at safe (stands (start is.Run) (take k (text_lines bytes))).stage (text_of (get_or (text_lines bytes) k [])) (good_stands (take k (text_lines bytes)) (start is.Run) (good_start is.Run))
