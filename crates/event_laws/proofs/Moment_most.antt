-- The clock and its moments.
use Rattle.std.proofs.Common.{◌≡◌, ℕ, ◌+◌, ◌≤◌, ◌<◌, [], ◌∷◌, true, false, refl, arith}
use Rattle.std.proofs.lemmas.Bool.Decides.{nat_tests}
use Rattle.std.proofs.lemmas.Bool.{eqb-true, or_left, or_right}
use Rattle.std.specs.Prelude.{nat_eq, nat_le}
use Rattle.list_laws.proofs.By_test.{by_test}
use Rattle.definitions.specs.Story.{Transition, Story}
use Rattle.definitions.specs.World.{elapsed, clock, at_moment, was_moment}

pub clock_next : (e : Transition) (s : Story) → clock (e ∷ s) ≡ clock s + elapsed e.event
unfolding clock
clock_next e s = refl

pub moment_stays : (ms : ℕ) (e : Transition) (s : Story) → was_moment ms s ≡ true → was_moment ms (e ∷ s) ≡ true
unfolding was_moment
moment_stays ms e s h = or_right (nat_eq (clock (e ∷ s)) ms) (was_moment ms s) h

pub moment_most : (ms : ℕ) (s : Story) → was_moment ms s ≡ true → ms ≤ clock s
unfolding was_moment
moment_most ms [] h = let e = eqb-true ms 0 h in omega (arith, e)
moment_most ms (e ∷ s) h = by_test (nat_eq (clock (e ∷ s)) ms)
    (λ y. grind (arith, nat_tests))
    (λ n. let r = moment_most ms s (rw n at h) in let c = clock_next e s in omega (arith, r, c))

pub moment_now : (s : Story) → was_moment (clock s) s ≡ true
unfolding was_moment clock
moment_now [] = refl
moment_now (e ∷ s) = or_left (nat_eq (clock (e ∷ s)) (clock (e ∷ s))) (was_moment (clock (e ∷ s)) s) (grind (arith, nat_tests))

-- the clock began at 0
pub moment_zero : (s : Story) → was_moment 0 s ≡ true
unfolding was_moment
moment_zero [] = refl
moment_zero (e ∷ s) = moment_stays 0 e s (moment_zero s)

-- the last moment is a new one, or was one before
pub moment_before : (ms : ℕ) (e : Transition) (s : Story) → was_moment ms (e ∷ s) ≡ true → ms < clock (e ∷ s) → was_moment ms s ≡ true
unfolding was_moment
moment_before ms e s h l = by_test (nat_eq (clock (e ∷ s)) ms)
    (λ y. absurd (grind (arith, nat_tests)))
    (λ n. rw n at h)

-- The story at a moment: from the last one on it is the story.

pub at_now : (ms : ℕ) (s : Story) → clock s ≤ ms → at_moment ms s ≡ s
unfolding at_moment
at_now ms [] h = refl
at_now ms (e ∷ s) h = let y : nat_le (clock (e ∷ s)) ms ≡ true = grind (arith, nat_tests) in rw y refl

pub at_before : (ms : ℕ) (e : Transition) (s : Story) → ms < clock (e ∷ s) → at_moment ms (e ∷ s) ≡ at_moment ms s
unfolding at_moment
at_before ms e s h = let n : nat_le (clock (e ∷ s)) ms ≡ false = grind (arith, nat_tests) in rw n refl
