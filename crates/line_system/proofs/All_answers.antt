-- What an event leads to, by the answer to it.
use Rattle.std.proofs.Common.{◌≡◌, ℕ, Bool, true, false, List, [], ◌∷◌, ◌++◌, ◌&&◌, ◌||◌, not, length, Option, Some, None, Result, Ok, Err, IfOk, refl, sym, ap, ◌∙◌, nat_eq, append-nil}
use Rattle.std.specs.Prelude.{nat_lt, nat_le, is_none}
use Rattle.std.proofs.Math.Bool.{and-false}
use Rattle.list_laws.proofs.By_test.{by_test}
use Rattle.definitions.specs.declared.event.Event.{Event}
use Rattle.definitions.specs.declared.event.Event.TheVariants.{Deliver}
use Rattle.definitions.specs.declared.outcome.Outcome.{Outcome}
use Rattle.definitions.specs.declared.document.Ending.{Ending}
use Rattle.definitions.specs.declared.document.Ending.TheVariants as ends
use Rattle.definitions.specs.Track.{Line}
use Rattle.definitions.specs.Numbers.{least}
use Rattle.definitions.specs.Story.{Story, messages}
use Rattle.definitions.specs.Premises.{built, too_many, premise_of}
use Rattle.definitions.specs.Steps.{effects, story_of, deliveries}
use Rattle.definitions.specs.Trace as trace
use Rattle.definitions.specs.Trace.{Came, stands_for, no_room, stopped, event_limit, message_limit}
use Rattle.event_laws.proofs.Comes_kept.{comes_next, comes_stop}
use Rattle.line_system.specs.History.{History}
use Rattle.line_system.specs.declared.system.Answer.{Answer}
use Rattle.line_system.specs.declared.system.Answer.TheVariants.{Unbuilt, TooMany, Events, Messages, Premise, Goes}
use Rattle.line_system.specs.System.{comes, ending_at, Leads, Answered, Answers}

-- room for a further event

pub events_full : (es : List Event) (s : Story) → nat_le event_limit (length es) ≡ true → no_room es s ≡ Some ends.Events
events_full es s h = rw h refl

pub messages_full : (es : List Event) (s : Story) → nat_le event_limit (length es) ≡ false → nat_lt message_limit (messages s) ≡ true → no_room es s ≡ Some ends.Messages
messages_full es s h m = rw (h, m) refl

pub has_room : (es : List Event) (s : Story) → nat_le event_limit (length es) ≡ false → nat_lt message_limit (messages s) ≡ false → no_room es s ≡ None
has_room es s h m = rw (h, m) refl

pub room_is : (es : List Event) (s : Story) → is_none (no_room es s) ≡ not (nat_le event_limit (length es) || nat_lt message_limit (messages s))
room_is es s = by_test (nat_le event_limit (length es))
    (λ y. rw y refl)
    (λ n. by_test (nat_lt message_limit (messages s))
    (λ y. rw (n, y) refl)
    (λ o. rw (n, o) refl))

abbrev as_came : List Event → List Outcome → Option Ending → Came
as_came es ls ending = record { went = record { events = es; lines = ls }; ending = ending }

-- a refused event changes nothing
refused : (h : History) (n : ℕ) (x : Came) (a : Answer) (ending : Ending) (after : History) (old new : List Outcome) → x ≡ stopped h.events ending → ending_at n a ≡ Some ending → after ≡ h → new ≡ old → Leads h n x a after old new
refused h n x a ending after old new is answer same none = rw is (record { ending = answer; system = same; lines = none ∙ sym (append-nil old) })

pub too_many_leads : (h : History) (e : Event) (n : ℕ) (after : History) (old new : List Outcome) → too_many (story_of h.line h.events) e ≡ true → after ≡ h → new ≡ old → Leads h n (comes n h e) TooMany after old new
too_many_leads h e n after old new m same none = refused h n (comes n h e) TooMany ends.Trains after old new (rw m refl) refl same none

-- an event that stands for itself
module _ (h : History) (e : Event) (within : too_many (story_of h.line h.events) e ≡ false) (alone : stands_for h.line (story_of h.line h.events) e ≡ e ∷ []) where
  full_comes : (n : ℕ) (ending : Ending) → no_room h.events (story_of h.line h.events) ≡ Some ending → comes n h e ≡ stopped h.events ending
  full_comes n ending full =
      let one : trace.comes h.line h.events (stands_for h.line (story_of h.line h.events) e) ≡ stopped h.events ending = ap (λ (es : List Event). trace.comes h.line h.events es) alone ∙ comes_stop h.line h.events [] e ending full in
      rw (within, full) one

  pub full_leads : (n : ℕ) (a : Answer) (ending : Ending) (after : History) (old new : List Outcome) → no_room h.events (story_of h.line h.events) ≡ Some ending → ending_at n a ≡ Some ending → after ≡ h → new ≡ old → Leads h n (comes n h e) a after old new
  full_leads n a ending after old new full is same none = refused h n (comes n h e) a ending after old new (full_comes n ending full) is same none

  pub premise_leads : (n p : ℕ) (after : History) (old new : List Outcome) → no_room h.events (story_of h.line h.events) ≡ None → p ≡ premise_of h.line (story_of h.line h.events) e → nat_eq p 0 ≡ false
      → after ≡ h → new ≡ old → Leads h n (comes n h e) (Premise p) after old new
  premise_leads n p after old new room is some same none =
      let broken : nat_eq (premise_of h.line (story_of h.line h.events) e) 0 ≡ false = ap (λ (q : ℕ). nat_eq q 0) (sym is) ∙ some in
      refused h n (comes n h e) (Premise p) (ends.Premise n (premise_of h.line (story_of h.line h.events) e)) after old new
      (rw (within, room, broken) refl) (ap (λ (q : ℕ). Some (ends.Premise n q)) is) same none

  one_comes : (n : ℕ) → no_room h.events (story_of h.line h.events) ≡ None → premise_of h.line (story_of h.line h.events) e ≡ 0 → comes n h e ≡ as_came (e ∷ h.events) (effects h.line (story_of h.line h.events) e).lines None
  unfolding trace.comes
  one_comes n room kept =
      let one : trace.comes h.line h.events (stands_for h.line (story_of h.line h.events) e) ≡ as_came (e ∷ h.events) (effects h.line (story_of h.line h.events) e).lines None =
      ap (λ (es : List Event). trace.comes h.line h.events es) alone
      ∙ (comes_next h.line h.events [] e room ∙ ap (λ (ls : List Outcome). as_came (e ∷ h.events) ls None) (append-nil (effects h.line (story_of h.line h.events) e).lines)) in
      rw (within, room, kept) one

  pub alone_leads : (n : ℕ) (after : History) (old new : List Outcome) → no_room h.events (story_of h.line h.events) ≡ None → premise_of h.line (story_of h.line h.events) e ≡ 0
      → after ≡ record { line = h.line; events = e ∷ h.events } → new ≡ old ++ (effects h.line (story_of h.line h.events) e).lines → Leads h n (comes n h e) Goes after old new
  alone_leads n after old new room kept system lines = rw (one_comes n room kept) (record { ending = refl; system = system; lines = lines })

-- a delivery, which breaks no premise

delivery_keeps : (line : Line) (s : Story) (to : ℕ) → premise_of line s (Deliver to) ≡ 0
unfolding least
delivery_keeps line s to = refl

abbrev pub whole : History → ℕ → Came
whole h to = trace.comes h.line h.events (deliveries h.line (story_of h.line h.events) to)

delivery_comes : (h : History) (to n : ℕ) → comes n h (Deliver to) ≡ whole h to
delivery_comes h to n = rw (delivery_keeps h.line (story_of h.line h.events) to, and-false (is_none (no_room h.events (story_of h.line h.events)))) refl

pub delivery_leads : (h : History) (to n : ℕ) (a : Answer) (es : List Event) (told : List Outcome) (ending : Option Ending) (after : History) (old new : List Outcome)
    → whole h to ≡ record { went = record { events = es; lines = told }; ending = ending } → ending_at n a ≡ ending → after ≡ record { line = h.line; events = es } → new ≡ old ++ told → Leads h n (comes n h (Deliver to)) a after old new
delivery_leads h to n a es told ending after old new is answer system lines = rw (delivery_comes h to n ∙ is) (record { ending = answer; system = system; lines = lines })

-- an event that comes is built

abbrev is_unbuilt : Option Ending → Bool
is_unbuilt (Some (ends.Unbuilt n)) = true
is_unbuilt _ = false

came_built : (line : Line) (more es : List Event) → is_unbuilt (trace.comes line es more).ending ≡ false
unfolding trace.comes
came_built line [] es = refl
came_built line (e ∷ more) es = by_test (nat_le event_limit (length es))
    (λ y. rw y refl)
    (λ o. by_test (nat_lt message_limit (messages (story_of line es)))
    (λ y. rw (o, y) refl)
    (λ m. rw (o, m) (came_built line more (e ∷ es))))

comes_built : (h : History) (e : Event) (n : ℕ) → is_unbuilt (comes n h e).ending ≡ false
comes_built h e n = by_test (too_many (story_of h.line h.events) e)
    (λ y. rw y refl)
    (λ m. by_test (is_none (no_room h.events (story_of h.line h.events)) && not (nat_eq (premise_of h.line (story_of h.line h.events) e) 0))
    (λ y. rw (m, y) refl)
    (λ o. rw (m, o) (came_built h.line (stands_for h.line (story_of h.line h.events) e) h.events)))

ends_unbuilt : (h : History) (e : Event) (n m : ℕ) → Some (ends.Unbuilt m) ≡ (comes n h e).ending → ⊥
ends_unbuilt h e n m is = absurd (let c : true ≡ false = ap is_unbuilt is ∙ comes_built h e n in cc)

answers : (h : History) (e : Event) (a : Answer) (after : History) (old new : List Outcome) → built h.line (story_of h.line h.events) e ≡ true → Answered h e a after old new → Answers h e a after old new
answers h e Unbuilt after old new b l = absurd (ends_unbuilt h e 0 0 (l 0).ending)
answers h e TooMany after old new b l = (b, l)
answers h e Events after old new b l = (b, l)
answers h e Messages after old new b l = (b, l)
answers h e (Premise p) after old new b l = (b, l)
answers h e Goes after old new b l = (b, l)

pub all_answers : {E : Type 0} (h : History) (e : Event) (r : Result Answer E) (after : History) (old new : List Outcome) → built h.line (story_of h.line h.events) e ≡ true → IfOk r (λ a. Answered h e a after old new) → IfOk r (λ a. Answers h e a after old new)
all_answers h e (Ok a) after old new b l = answers h e a after old new b l
all_answers h e (Err x) after old new b l = l
