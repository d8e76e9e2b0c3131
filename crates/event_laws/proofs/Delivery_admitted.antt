-- The takes that a delivery stands for are admitted where they stand: they name messages that were sent.
use Rattle.std.proofs.Common.{◌≡◌, ℕ, zero, suc, ◌+◌, ◌-◌, ◌≤◌, ◌<◌, List, [], ◌∷◌, length, Bool, true, false, refl, sym, ◌∙◌, ap, arith}
use Rattle.std.proofs.lemmas.Bool.{eqb-true, and_parts, not-true, and_from, le-leb}
use Rattle.std.proofs.lemmas.Bool.Decides.{nat_tests}
use Rattle.std.proofs.lemmas.List.Folds.{list_all-append}
use Rattle.std.specs.Prelude.{nat_eq, nat_lt, nat_le, ◌&&◌, not, filter, flat_map, Option, Some, None}
use Rattle.std.specs.List.{list_all}
use Rattle.list_laws.proofs.By_test.{eq_self, by_test}
use Rattle.definitions.specs.declared.event.Event.{Event}
use Rattle.definitions.specs.declared.event.Event.TheVariants.{Take, Deliver}
use Rattle.definitions.specs.declared.message.Msg.{Msg}
use Rattle.definitions.specs.Track.{Line, is_actor}
use Rattle.definitions.specs.Story.{Story, sent}
use Rattle.definitions.specs.Numbers.{least}
use Rattle.definitions.specs.Premises.{admits}
use Rattle.definitions.specs.Steps.{effects, story_of, taking, message, taken_most, takes_from, takes_lost, due, sends_to, actors, deliveries}
use Rattle.definitions.specs.Trace.{stands_for}
use Rattle.event_laws.proofs.Comes_kept.{AllAdmitted}

-- a take by an actor of a message that was sent to it
abbrev fits : Line → ℕ → Story → Event → Bool
fits line to s (Take a from number) = nat_eq a to && (sends_to line to from && (nat_lt 0 number && nat_le number (length (sent from to s))))
fits line to s _ = false

-- the same messages were sent to an actor by each other one
abbrev SameSent : ℕ → Story → Story → Type 0
SameSent to s t = (from : ℕ) → nat_eq to from ≡ false → sent from to t ≡ sent from to s

pub taker : (line : Line) (s : Story) (e : Event) (to from : ℕ) (m : Option Msg) → (taking line s e to from m).actor ≡ to
taker line s e to from None = refl
taker line s e to from (Some m) = refl

-- a take by an actor changes what that actor sends alone
same_more : (line : Line) (to from number : ℕ) (s t : Story) → SameSent to s t → SameSent to s (effects line t (Take to from number) ∷ t)
unfolding sent
same_more line to from number s t same other h =
    rw (taker line t (Take to from number) to from (message from to number t), h) (same other h)

fit_admitted : (line : Line) (to from number : ℕ) (s t : Story) → SameSent to s t → is_actor line to ≡ true → fits line to s (Take to from number) ≡ true → admits line t (Take to from number) ≡ true
unfolding least
fit_admitted line to from number s t same act h =
    let k = and_parts (nat_eq to to) (sends_to line to from && (nat_lt 0 number && nat_le number (length (sent from to s)))) h in
    let x = and_parts (sends_to line to from) (nat_lt 0 number && nat_le number (length (sent from to s))) k.1 in
    let y = and_parts (not (nat_eq to from)) (is_actor line from) x.0 in
    let other = not-true (nat_eq to from) y.0 in
    rw (other, act, y.1, same from other, x.1) refl

pub all_admitted : (line : Line) (to : ℕ) (more : List Event) (s : Story) (before : List Event) → SameSent to s (story_of line before) → is_actor line to ≡ true → list_all (fits line to s) more ≡ true → AllAdmitted line before more
unfolding AllAdmitted story_of
all_admitted line to [] s before same act h = tt
all_admitted line to (Take a from number ∷ more) s before same act h =
    let k = and_parts (fits line to s (Take a from number)) (list_all (fits line to s) more) h in
    let e : a ≡ to = eqb-true a to (and_parts (nat_eq a to) _ k.0).0 in
    rw e ((fit_admitted line to from number s (story_of line before) same act (rw e at k.0), all_admitted line to more s (Take to from number ∷ before) (same_more line to from number s (story_of line before) same) act k.1))
all_admitted line to _ s before same act h = absurd cc

some_lt : (n : ℕ) → 0 < n → nat_lt 0 n ≡ true
some_lt n h = grind (arith, nat_tests)

-- takes of no more than what was sent
takes_fit : (line : Line) (to from : ℕ) (s : Story) (k number : ℕ) → sends_to line to from ≡ true → 0 < number → k ≤ length (sent from to s) + 1 - number → list_all (fits line to s) (takes_from to from number k) ≡ true
unfolding takes_from
takes_fit line to from s zero number h some few = refl
takes_fit line to from s (suc k) number h some few =
    let le : number ≤ length (sent from to s) = omega (arith, few) in
    rw (eq_self to, h, some_lt number some, le-leb number (length (sent from to s)) le)
    (takes_fit line to from s k (number + 1) h (omega arith) (omega (arith, few)))

due_fits : (line : Line) (to from : ℕ) (s : Story) → sends_to line to from ≡ true → list_all (fits line to s) (due to s from) ≡ true
due_fits line to from s h = takes_fit line to from s (length (sent from to s) - taken_most to from s) (taken_most to from s + 1) h (omega arith) (omega arith)

delivered_fit : (line : Line) (to : ℕ) (s : Story) (senders : List ℕ) → list_all (fits line to s) (flat_map (due to s) (filter (sends_to line to) senders)) ≡ true
delivered_fit line to s [] = refl
delivered_fit line to s (from ∷ senders) = by_test (sends_to line to from)
    (λ y. rw y (list_all-append (fits line to s) (due to s from) (flat_map (due to s) (filter (sends_to line to) senders)) ∙ and_from (list_all (fits line to s) (due to s from)) _ (due_fits line to from s y) (delivered_fit line to s senders)))
    (λ n. rw n (delivered_fit line to s senders))

pub all_filtered : (test p : Event → Bool) (xs : List Event) → list_all test xs ≡ true → list_all test (filter p xs) ≡ true
all_filtered test p [] h = refl
all_filtered test p (x ∷ xs) h =
    let k = and_parts (test x) (list_all test xs) h in
    by_test (p x)
    (λ y. rw (y, k.0) (all_filtered test p xs k.1))
    (λ n. rw n (all_filtered test p xs k.1))

pub delivery_admitted : (line : Line) (before : List Event) (s : Story) (to : ℕ) → s ≡ story_of line before → is_actor line to ≡ true → AllAdmitted line before (deliveries line s to)
delivery_admitted line before s to is act =
    all_admitted line to (deliveries line s to) s before (λ from h. ap (sent from to) (sym is)) act
    (all_filtered (fits line to s) (λ e. not (takes_lost s e)) (flat_map (due to s) (filter (sends_to line to) actors)) (delivered_fit line to s actors))

one_admitted : (line : Line) (before : List Event) (s : Story) (e : Event) → s ≡ story_of line before → admits line s e ≡ true → AllAdmitted line before (e ∷ [])
unfolding AllAdmitted
one_admitted line before s e is h = (ap (λ x. admits line x e) (sym is) ∙ h, tt)

-- what an event of a script stands for is admitted where the event is
pub stands_admitted : (line : Line) (before : List Event) (s : Story) (e : Event) → s ≡ story_of line before → admits line s e ≡ true → AllAdmitted line before (stands_for line s e)
stands_admitted line before s (Deliver to) is h = delivery_admitted line before s to is (and_parts (is_actor line to) _ h).0
stands_admitted line before s e is h = one_admitted line before s e is h
