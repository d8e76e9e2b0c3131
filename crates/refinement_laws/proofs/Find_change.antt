-- The trains of the world, in a list: found, changed, and put at its end.
use Rattle.std.proofs.Common.{◌≡◌, ℕ, suc, List, [], ◌∷◌, ◌++◌, length, Some, None, true, false, refl, ap, arith, if◌then◌else◌}
use Rattle.std.proofs.lemmas.Bool.Decides.{nat_tests}
use Rattle.std.specs.Prelude.{nat_eq}
use Rattle.list_laws.proofs.By_test.{by_test}
use Rattle.definitions.specs.Story.{or_else}
use Rattle.plain_state.specs.declared.WorldTrain.{WorldTrain}
use Rattle.plain_state.specs.World.{find_train, change_train}
use Rattle.plain_state.proofs.Found_changed.{mapped}

pub find_change : (t : ℕ) (f : WorldTrain → WorldTrain) (xs : List WorldTrain) → ((x : WorldTrain) → (f x).id ≡ x.id) → find_train t (change_train t f xs) ≡ mapped f (find_train t xs)
unfolding find_train change_train
find_change t f [] keeps = refl
find_change t f (x ∷ xs) keeps = by_test (nat_eq x.id.0 t)
    (λ y. let e : nat_eq (f x).id.0 t ≡ true = rw (keeps x) y in rw (y, e) refl)
    (λ n. rw (n, n) (find_change t f xs keeps))

pub find_other : (t u : ℕ) (f : WorldTrain → WorldTrain) (xs : List WorldTrain) → ((x : WorldTrain) → (f x).id ≡ x.id) → nat_eq u t ≡ false → find_train t (change_train u f xs) ≡ find_train t xs
unfolding find_train change_train
find_other t u f [] keeps other = refl
find_other t u f (x ∷ xs) keeps other = by_test (nat_eq x.id.0 u)
    (λ y.
    let e : nat_eq x.id.0 t ≡ false = grind (arith, nat_tests) in
    let g : nat_eq (f x).id.0 t ≡ false = rw (keeps x) e in
    rw (y, e, g) refl)
    (λ n. rw n (by_test (nat_eq x.id.0 t) (λ y. rw y refl) (λ m. rw m (find_other t u f xs keeps other))))

pub find_append : (t : ℕ) (xs : List WorldTrain) (x : WorldTrain) → find_train t (xs ++ x ∷ []) ≡ or_else (find_train t xs) (if nat_eq x.id.0 t then Some x else None)
unfolding find_train
find_append t [] x = refl
find_append t (y ∷ xs) x = by_test (nat_eq y.id.0 t)
    (λ a. rw a refl)
    (λ b. rw b (find_append t xs x))

pub length_change : (u : ℕ) (f : WorldTrain → WorldTrain) (xs : List WorldTrain) → length (change_train u f xs) ≡ length xs
unfolding change_train
length_change u f [] = refl
length_change u f (x ∷ xs) = by_test (nat_eq x.id.0 u) (λ y. rw y refl) (λ n. rw n (ap (λ (k : ℕ). suc k) (length_change u f xs)))

pub length_append : (xs : List WorldTrain) (x : WorldTrain) → length (xs ++ x ∷ []) ≡ suc (length xs)
length_append [] x = refl
length_append (y ∷ xs) x = ap (λ (k : ℕ). suc k) (length_append xs x)
