-- A number put in its place in a list that ascends.
use Rattle.std.proofs.Common.{◌≡◌, ℕ, ◌<◌, true, false, List, [], ◌∷◌, ◌++◌, if◌then◌else◌, refl, ap, arith, nat_lt}
use Rattle.std.proofs.lemmas.Bool.{and_parts}
use Rattle.std.proofs.lemmas.Bool.Decides.{nat_tests}
use Rattle.std.specs.List.{list_all}
use Rattle.list_laws.proofs.By_test.{by_test}

-- a number put before the first greater one
unfoldable pub placed : ℕ → List ℕ → List ℕ
placed t [] = t ∷ []
placed t (u ∷ us) = if nat_lt t u then t ∷ u ∷ us else u ∷ placed t us

-- after lesser ones it is the last
pub placed_last : (u : ℕ) (xs : List ℕ) → list_all (λ x. nat_lt x u) xs ≡ true → placed u xs ≡ xs ++ u ∷ []
unfolding placed
placed_last u [] h = refl
placed_last u (x ∷ xs) h =
    let k = and_parts (nat_lt x u) (list_all (λ x. nat_lt x u) xs) h in
    let lt = k.0 in
    let n : nat_lt u x ≡ false = grind (arith, nat_tests) in
    rw n (ap (λ (ys : List ℕ). x ∷ ys) (placed_last u xs k.1))

-- before a greater one that is the last
pub placed_before : (u n : ℕ) (xs : List ℕ) → u < n → placed u (xs ++ n ∷ []) ≡ placed u xs ++ n ∷ []
unfolding placed
placed_before u n [] h = let y : nat_lt u n ≡ true = grind (arith, nat_tests) in rw y refl
placed_before u n (x ∷ xs) h = by_test (nat_lt u x) (λ y. rw y refl) (λ z. rw (z, placed_before u n xs h) refl)
