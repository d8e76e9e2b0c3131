-- What "some number below n passes" means, without its recursion.
use Rattle.std.proofs.Common.{◌≡◌, ℕ, suc, zero, ◌<◌, Bool, true, refl, arith, nat_eq}
use Rattle.std.proofs.lemmas.Bool.Decides.{nat_tests}
use Rattle.list_laws.proofs.By_test.{by_test, same_bool}
use Rattle.track_points.specs.Points.{some_below}

-- a number below n that passes
pub record Passing (test : ℕ → Bool) (n : ℕ) : Type 0 where
  pub at : ℕ
  pub below : at < n
  pub passes : test at ≡ true

pub some_at : (test : ℕ → Bool) (n k : ℕ) → k < n → test k ≡ true → some_below test n ≡ true
unfolding some_below
some_at test zero k h e = absurd (omega arith)
some_at test (suc n) k h e =
    by_test (nat_eq k n)
    (λ y. let q : k ≡ n = grind (arith, nat_tests) in rw (← q, e) refl)
    (λ x. let r = some_at test n k (grind (arith, nat_tests)) e in grind arith)

pub some_found : (test : ℕ → Bool) (n : ℕ) → some_below test n ≡ true → Passing test n
unfolding some_below
some_found test zero h = absurd (cc)
some_found test (suc n) h =
    by_test (test n)
    (λ y. record { at = n; below = omega arith; passes = y })
    (λ x. let r = some_found test n (grind arith) in record { at = r.at; below = let b = r.below in omega arith; passes = r.passes })

-- two tests that agree below n
pub some_same : (f g : ℕ → Bool) (n m : ℕ) → ((k : ℕ) → k < n → f k ≡ true → some_below g m ≡ true) → ((k : ℕ) → k < m → g k ≡ true → some_below f n ≡ true)
    → some_below f n ≡ some_below g m
some_same f g n m x y = same_bool _ _
    (λ h. let r = some_found f n h in x r.at r.below r.passes)
    (λ h. let r = some_found g m h in y r.at r.below r.passes)
