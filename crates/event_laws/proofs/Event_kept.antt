-- What a built event of a script leads to: a history of admitted events, and of no more than there may be.
use Rattle.std.proofs.Common.{◌≡◌, ℕ, ◌≤◌, List, length, Option, Some, None, Bool, true, false, ◌&&◌, not, refl, sym, subst, arith}
use Rattle.std.specs.Prelude.{nat_eq, is_none}
use Rattle.list_laws.proofs.By_test.{by_test}
use Rattle.definitions.specs.declared.event.Event.{Event}
use Rattle.definitions.specs.declared.document.Ending.{Ending}
use Rattle.definitions.specs.declared.document.Ending.TheVariants as ends
use Rattle.definitions.specs.Track.{Line}
use Rattle.definitions.specs.Premises.{built, too_many, premise_of}
use Rattle.definitions.specs.Steps.{story_of}
use Rattle.definitions.specs.Safe.{Kept}
use Rattle.definitions.specs.Trace.{Came, no_room, stopped, comes, stands_for, event_comes}
use Rattle.event_laws.proofs.Comes_kept.{comes_kept, comes_few, comes_none}
use Rattle.event_laws.proofs.Delivery_admitted.{stands_admitted}

all_three : (a b c : Bool) → a ≡ true → b ≡ false → c ≡ true → (a && (not b && c)) ≡ true
all_three a b c h k l = grind arith

-- it comes, or one ending stands there and nothing comes
pub event_cases : (n : ℕ) (line : Line) (es : List Event) (e : Event) (P : Came → Type 0) → ((ending : Ending) → P (stopped es ending))
    → (too_many (story_of line es) e ≡ false → (is_none (no_room es (story_of line es)) && not (nat_eq (premise_of line (story_of line es) e) 0)) ≡ false → P (comes line es (stands_for line (story_of line es) e)))
    → P (event_comes n line es (story_of line es) e)
event_cases n line es e P stop come = by_test (too_many (story_of line es) e)
    (λ y. rw y (stop ends.Trains))
    (λ m. by_test (is_none (no_room es (story_of line es)) && not (nat_eq (premise_of line (story_of line es) e) 0))
    (λ y. rw (m, y) (stop (ends.Premise n (premise_of line (story_of line es) e))))
    (λ o. rw (m, o) (come m o)))

pub event_kept : (n : ℕ) (line : Line) (es : List Event) (e : Event) → built line (story_of line es) e ≡ true → Kept line es → Kept line (event_comes n line es (story_of line es) e).went.events
event_kept n line es e b k = event_cases n line es e (λ x. Kept line x.went.events) (λ ending. k) (λ m o. by_room (no_room es (story_of line es)) refl m o)
  where
    by_room : (r : Option Ending) → no_room es (story_of line es) ≡ r → too_many (story_of line es) e ≡ false → (is_none (no_room es (story_of line es)) && not (nat_eq (premise_of line (story_of line es) e) 0)) ≡ false
        → Kept line (comes line es (stands_for line (story_of line es) e)).went.events
    by_room (Some ending) is m o = subst (λ (xs : List Event). Kept line xs) (sym (comes_none line (stands_for line (story_of line es) e) es ending is)) k
    by_room None is m o =
        let zero : not (nat_eq (premise_of line (story_of line es) e) 0) ≡ false = rw is at o in
        let none : nat_eq (premise_of line (story_of line es) e) 0 ≡ true = grind arith in
        comes_kept line (stands_for line (story_of line es) e) es
        (stands_admitted line es (story_of line es) e refl (all_three (built line (story_of line es) e) (too_many (story_of line es) e) (nat_eq (premise_of line (story_of line es) e) 0) b m none)) k

pub event_few : (n : ℕ) (line : Line) (es : List Event) (e : Event) → length es ≤ 200000 → length (event_comes n line es (story_of line es) e).went.events ≤ 200000
event_few n line es e few = event_cases n line es e (λ x. length x.went.events ≤ 200000) (λ ending. few) (λ m o. comes_few line (stands_for line (story_of line es) e) es few)
