-- What a transition leaves of the world's notions of a train that it does not speak of.
use Rattle.std.proofs.Common.{◌≡◌, ℕ, ◌≤◌, max, List, [], ◌∷◌, ◌++◌, length, Option, Some, None, true, false, ◌||◌, refl, sym, ◌∙◌, ap, arith}
use Rattle.std.proofs.lemmas.Bool.Decides.{nat_tests}
use Rattle.std.specs.Prelude.{nat_eq, nat_lt, is_some}
use Rattle.std.proofs.lemmas.Bool.{or_parts}
use Rattle.list_laws.proofs.By_test.{none_of, by_test}
use Rattle.definitions.specs.declared.message.Msg.{Msg}
use Rattle.definitions.specs.Track.{Line}
use Rattle.definitions.specs.Story.{Transition, Story, or_else, to_actor, sent, ever, first_told, world_took}
use Rattle.definitions.specs.World.{elapsed, clock, facts_in, facts_of, is_declared, with_train, trains, entry_in, first_entry, enters, entered, moved, head, goes_on, journey, taken_number, taken_path, taken_entry, entry_authority, is_new_to, accepts_some, last_number, last_taken, limit_held, limit_place}
use Rattle.event_laws.proofs.Entered_same.{same_told, entered_same}

-- an entry that neither declares, lets on nor moves a train, nor asks for its entry, nor takes an authority of it
pub record StillWorld (t : ℕ) (x : Transition) : Type 0 where
  pub facts : facts_in t x.event ≡ None
  pub entry : entry_in t x.event ≡ None
  pub off : enters t x.event ≡ false
  pub still : moved t x.event ≡ 0
  pub taken : taken_number t (world_took x) ≡ 0

-- The clock, and the trains that are declared.

pub clock_still : (x : Transition) (s : Story) → elapsed x.event ≡ 0 → clock s ≡ clock (x ∷ s)
unfolding clock
clock_still x s h = omega (arith, h)

pub as_many : (x : Transition) (s : Story) → with_train x.event (trains s) ≡ trains s → length (trains (x ∷ s)) ≡ length (trains s)
unfolding trains
as_many x s h = ap (λ (xs : List ℕ). length xs) h

-- Where the head is.

pub head_same : (t : ℕ) (x : Transition) (s : Story) → enters t x.event ≡ false → moved t x.event ≡ 0 → head t (x ∷ s) ≡ head t s
unfolding head
head_same t x s off none = rw (off, none) (omega arith)

pub heads_same : (t : ℕ) (x : Transition) (s : Story) → enters t x.event ≡ false → moved t x.event ≡ 0 → head t s ≤ head t (x ∷ s)
heads_same t x s off none = let h = head_same t x s off none in omega (arith, h)

-- an event at which the journey does not go on leaves the head and the first request, and the journey
module _ (t : ℕ) (x : Transition) (s : Story) (still : goes_on t x.event ≡ false) where
  abbrev parts : (is_some (entry_in t x.event) ≡ false) × ((enters t x.event || nat_lt 0 (moved t x.event)) ≡ false)
  parts = or_parts (is_some (entry_in t x.event)) (enters t x.event || nat_lt 0 (moved t x.event)) still

  pub head_still : head t (x ∷ s) ≡ head t s
  head_still =
      let k = or_parts (enters t x.event) (nat_lt 0 (moved t x.event)) parts.1 in
      let z = k.1 in
      head_same t x s k.0 (grind (arith, nat_tests))

  pub heads_still : head t s ≤ head t (x ∷ s)
  heads_still = let h = head_still in omega (arith, h)

  pub unasked_still : entry_in t x.event ≡ None
  unasked_still = none_of (entry_in t x.event) parts.0

pub journey_still : (line : Line) (t : ℕ) (x : Transition) (s : Story) → goes_on t x.event ≡ false → journey line t (x ∷ s) ≡ journey line t s
unfolding journey
journey_still line t x s still = rw still refl

-- What is declared, asked and taken of it.

pub facts_still : (t : ℕ) (x : Transition) (s : Story) → facts_in t x.event ≡ None → facts_of t (x ∷ s) ≡ facts_of t s
facts_still t x s h = same_told (λ (y : Transition). facts_in t y.event) x s h

pub entry_still : (t : ℕ) (x : Transition) (s : Story) → entry_in t x.event ≡ None → first_entry t (x ∷ s) ≡ first_entry t s
entry_still t x s h = same_told (λ (y : Transition). entry_in t y.event) x s h

no_entry_taken : (t : ℕ) (took : Option (ℕ × Msg)) → taken_number t took ≡ 0 → taken_entry t took ≡ None
no_entry_taken t took h = rw h refl

pub authority_still : (t : ℕ) (x : Transition) (s : Story) → taken_number t (world_took x) ≡ 0 → entry_authority t (x ∷ s) ≡ entry_authority t s
authority_still t x s h = same_told (λ (y : Transition). taken_entry t (world_took y)) x s (no_entry_taken t (world_took x) h)

or_some : {A : Type 0} (x y : Option A) → is_some (or_else x y) ≡ false → is_some x ≡ false
or_some None y h = refl
or_some (Some x) y h = absurd cc

pub undeclared_before : (t : ℕ) (x : Transition) (s : Story) → is_declared t (x ∷ s) ≡ false → is_declared t s ≡ false
unfolding first_told
undeclared_before t x s h = or_some (facts_of t s) (facts_in t x.event) h

or_stays : {A : Type 0} (x y : Option A) → is_some x ≡ true → is_some (or_else x y) ≡ true
or_stays None y h = absurd cc
or_stays (Some x) y h = refl

pub authority_stays : (t : ℕ) (x : Transition) (s : Story) → is_some (entry_authority t s) ≡ true → is_some (entry_authority t (x ∷ s)) ≡ true
unfolding first_told
authority_stays t x s h = or_stays (entry_authority t s) (taken_entry t (world_took x)) h

-- The last number and the limit that it holds.

pub last_still : (t : ℕ) (x : Transition) (s : Story) → enters t x.event ≡ false → taken_number t (world_took x) ≡ 0 → last_number t (x ∷ s) ≡ last_number t s
unfolding last_number
last_still t x s off none =
    let zero_more : max (last_number t s) 0 ≡ last_number t s = omega arith in
    by_test (entered t s) (λ y. rw (off, y, none) zero_more) (λ n. rw (off, n) refl)

-- a train that has not come on has no number
pub off_number : (t : ℕ) (s : Story) → entered t s ≡ false → last_number t s ≡ 0
unfolding ever last_number
off_number t [] off = refl
off_number t (e ∷ s) off = by_test (enters t e.event)
    (λ a. absurd (let b : true ≡ false = rw a at off in cc))
    (λ a. let before : entered t s ≡ false = rw a at off in rw (a, before) (off_number t s before))

pub limit_kept : (line : Line) (t : ℕ) (x : Transition) (s : Story) → enters t x.event ≡ false → nat_lt (last_number t s) (taken_number t (world_took x)) ≡ false → limit_held line t (x ∷ s) ≡ limit_held line t s
unfolding limit_held
limit_kept line t x s off old = by_test (entered t s) (λ on. rw (off, on, old) refl) (λ n. rw (off, n) refl)

pub limit_still : (line : Line) (t : ℕ) (x : Transition) (s : Story) → enters t x.event ≡ false → taken_number t (world_took x) ≡ 0 → limit_held line t (x ∷ s) ≡ limit_held line t s
limit_still line t x s off none = limit_kept line t x s off (rw none (grind (arith, nat_tests)))

pub number_on : (t : ℕ) (x : Transition) (s : Story) → enters t x.event ≡ true → last_number t (x ∷ s) ≡ 1
unfolding last_number
number_on t x s h = rw h refl

pub limit_on : (line : Line) (t : ℕ) (x : Transition) (s : Story) → enters t x.event ≡ true → limit_held line t (x ∷ s) ≡ entry_authority t s
unfolding limit_held
limit_on line t x s h = rw h refl

pub number_next : (t : ℕ) (x : Transition) (s : Story) → enters t x.event ≡ false → entered t s ≡ true → last_number t (x ∷ s) ≡ max (last_number t s) (taken_number t (world_took x))
unfolding last_number
number_next t x s h on = rw (h, on) refl

pub number_off : (t : ℕ) (x : Transition) (s : Story) → enters t x.event ≡ false → entered t s ≡ false → last_number t (x ∷ s) ≡ last_number t s
unfolding last_number
number_off t x s h off = rw (h, off) refl

-- a new number that it takes, and one that it refuses
pub limit_next : (line : Line) (t : ℕ) (x : Transition) (s : Story) → enters t x.event ≡ false → entered t s ≡ true → nat_lt (last_number t s) (taken_number t (world_took x)) ≡ true
    → accepts_some line t s (limit_place line t s) (taken_path t (world_took x)) ≡ true → limit_held line t (x ∷ s) ≡ taken_path t (world_took x)
unfolding limit_held
limit_next line t x s h on new accepted = rw (h, on, new, accepted) refl

pub limit_refused : (line : Line) (t : ℕ) (x : Transition) (s : Story) → enters t x.event ≡ false → accepts_some line t s (limit_place line t s) (taken_path t (world_took x)) ≡ false → limit_held line t (x ∷ s) ≡ limit_held line t s
unfolding limit_held
limit_refused line t x s h refused = by_test (is_new_to t x s) (λ y. rw (h, y, refused) refl) (λ n. rw (h, n) refl)

-- The train's last decision: that on its entry authority as it comes on, that on a new number, or the one before.

pub decided_on : (line : Line) (t : ℕ) (x : Transition) (s : Story) → enters t x.event ≡ true → last_taken line t (x ∷ s) ≡ true
unfolding last_taken
decided_on line t x s h = rw h refl

pub decided_next : (line : Line) (t : ℕ) (x : Transition) (s : Story) → enters t x.event ≡ false → entered t s ≡ true → nat_lt (last_number t s) (taken_number t (world_took x)) ≡ true
    → last_taken line t (x ∷ s) ≡ accepts_some line t s (limit_place line t s) (taken_path t (world_took x))
unfolding last_taken
decided_next line t x s h on new = rw (h, on, new) refl

pub decided_kept : (line : Line) (t : ℕ) (x : Transition) (s : Story) → enters t x.event ≡ false → nat_lt (last_number t s) (taken_number t (world_took x)) ≡ false → last_taken line t (x ∷ s) ≡ last_taken line t s
unfolding last_taken
decided_kept line t x s off old = by_test (entered t s) (λ on. rw (off, on, old) refl) (λ n. rw (off, n) refl)

-- What is kept where a train is not spoken of.

pub unasked_same : (t : ℕ) (x : Transition) (s : Story) → entry_in t x.event ≡ None → (is_declared t s ≡ false → first_entry t s ≡ None) → is_declared t (x ∷ s) ≡ false → first_entry t (x ∷ s) ≡ None
unasked_same t x s h old d = entry_still t x s h ∙ old (undeclared_before t x s d)

pub off_same : (t : ℕ) (x : Transition) (s : Story) → enters t x.event ≡ false → (is_declared t s ≡ false → entered t s ≡ false) → is_declared t (x ∷ s) ≡ false → entered t (x ∷ s) ≡ false
off_same t x s h old d = entered_same t x s h ∙ old (undeclared_before t x s d)

pub authorized_same : (t : ℕ) (x : Transition) (s : Story) → enters t x.event ≡ false → (entered t s ≡ true → is_some (entry_authority t s) ≡ true) → entered t (x ∷ s) ≡ true → is_some (entry_authority t (x ∷ s)) ≡ true
authorized_same t x s h old d = authority_stays t x s (old (sym (entered_same t x s h) ∙ d))

-- The links.

pub sent_by : (from to : ℕ) (x : Transition) (s : Story) → nat_eq x.actor from ≡ true → sent from to (x ∷ s) ≡ sent from to s ++ to_actor to x.issued
unfolding sent
sent_by from to x s h = rw h refl

pub sent_else : (from to : ℕ) (x : Transition) (s : Story) → nat_eq x.actor from ≡ false → sent from to (x ∷ s) ≡ sent from to s
unfolding sent
sent_else from to x s h = rw h refl
