-- The trains that a zone keeps, one for each that it knows: found, changed, and put in their place.
use Rattle.std.proofs.Common.{◌≡◌, ℕ, suc, List, length, map, filter, [], ◌∷◌, Option, Some, None, Bool, true, false, refl, sym, ◌∙◌, ap, subst, arith, if◌then◌else◌}
use Rattle.std.proofs.lemmas.Bool.Decides.{nat_tests}
use Rattle.std.proofs.lemmas.Bool.{eqb-true}
use Rattle.std.specs.Prelude.{nat_eq, nat_lt}
use Rattle.std.specs.List.{list_any, list_all}
use Rattle.list_laws.proofs.Placed.{placed}
use Rattle.list_laws.proofs.By_test.{by_test}
use Rattle.track_points.specs.declared.ids.TrainId.{TrainId}
use Rattle.definitions.specs.Authority.{least_of}
use Rattle.plain_state.specs.declared.Controlled.{Controlled}
use Rattle.plain_state.specs.Zone.{find_controlled, change_controlled, placed_train, least_train}
use Rattle.plain_state.specs.Refinement.{ids, Distinct}

abbrev pub mapped : {A : Type 0} → (A → A) → Option A → Option A
mapped f None = None
mapped f (Some x) = Some (f x)

found_first : (x : Controlled) (xs : List Controlled) → find_controlled x.id.0 (x ∷ xs) ≡ Some x
unfolding find_controlled
found_first x xs = let e : nat_eq x.id.0 x.id.0 ≡ true = grind (arith, nat_tests) in rw e refl

found_behind : (t : ℕ) (x y : Controlled) (xs : List Controlled) → find_controlled x.id.0 xs ≡ None → find_controlled t xs ≡ Some y → find_controlled t (x ∷ xs) ≡ Some y
unfolding find_controlled
found_behind t x y xs none found = by_test (nat_eq x.id.0 t)
    (λ a.
    let e : x.id.0 ≡ t = eqb-true x.id.0 t a in
    let n : find_controlled t xs ≡ None = subst (λ (i : ℕ). find_controlled i xs ≡ None) e none in
    absurd (let c : Some y ≡ None = sym found ∙ n in cc))
    (λ b. rw b found)

pub any_is : (f : Controlled → Bool) (g : ℕ → Bool) (xs : List Controlled) → Distinct xs → ((t : ℕ) (x : Controlled) → find_controlled t xs ≡ Some x → f x ≡ g t) → list_any f xs ≡ list_any g (ids xs)
unfolding ids Distinct
any_is f g [] d h = refl
any_is f g (x ∷ xs) d h =
    let here : f x ≡ g x.id.0 = h x.id.0 x (found_first x xs) in
    let rest : list_any f xs ≡ list_any g (ids xs) = any_is f g xs d.1 (λ t y e. h t y (found_behind t x y xs d.0 e)) in
    rw (here, rest) refl

pub least_is : (f : Controlled → Bool) (g : ℕ → Bool) (xs : List Controlled) → Distinct xs → ((t : ℕ) (x : Controlled) → find_controlled t xs ≡ Some x → f x ≡ g t) → least_train f xs ≡ least_of g (ids xs)
unfolding ids Distinct least_train least_of
least_is f g [] d h = refl
least_is f g (x ∷ xs) d h =
    let here : f x ≡ g x.id.0 = h x.id.0 x (found_first x xs) in
    let rest : least_train f xs ≡ least_of g (ids xs) = least_is f g xs d.1 (λ t y e. h t y (found_behind t x y xs d.0 e)) in
    rw (here, rest) refl

pub ids_length : (xs : List Controlled) → length (ids xs) ≡ length xs
unfolding ids
ids_length [] = refl
ids_length (x ∷ xs) = ap (λ (n : ℕ). suc n) (ids_length xs)

-- a test that every way passes that is found
pub all_found : (f : Controlled → Bool) (xs : List Controlled) → Distinct xs → ((t : ℕ) (x : Controlled) → find_controlled t xs ≡ Some x → f x ≡ true) → list_all f xs ≡ true
unfolding Distinct
all_found f [] d h = refl
all_found f (x ∷ xs) d h =
    rw (h x.id.0 x (found_first x xs), all_found f xs d.1 (λ t y e. h t y (found_behind t x y xs d.0 e))) refl

pub found_changed : (t : ℕ) (f : Controlled → Controlled) (xs : List Controlled) → ((x : Controlled) → (f x).id ≡ x.id) → find_controlled t (change_controlled t f xs) ≡ mapped f (find_controlled t xs)
unfolding find_controlled change_controlled
found_changed t f [] keeps = refl
found_changed t f (x ∷ xs) keeps = by_test (nat_eq x.id.0 t)
    (λ y. let e : nat_eq (f x).id.0 t ≡ true = rw (keeps x) y in rw (y, e) refl)
    (λ n. rw (n, n) (found_changed t f xs keeps))

pub found_other : (t u : ℕ) (f : Controlled → Controlled) (xs : List Controlled) → ((x : Controlled) → (f x).id ≡ x.id) → nat_eq u t ≡ false → find_controlled t (change_controlled u f xs) ≡ find_controlled t xs
unfolding find_controlled change_controlled
found_other t u f [] keeps other = refl
found_other t u f (x ∷ xs) keeps other = by_test (nat_eq x.id.0 u)
    (λ y.
    let e : nat_eq x.id.0 t ≡ false = grind (arith, nat_tests) in
    let g : nat_eq (f x).id.0 t ≡ false = rw (keeps x) e in
    rw (y, e, g) refl)
    (λ n. rw n (by_test (nat_eq x.id.0 t) (λ y. rw y refl) (λ m. rw m (found_other t u f xs keeps other))))

pub ids_change : (u : ℕ) (f : Controlled → Controlled) (xs : List Controlled) → ((x : Controlled) → (f x).id ≡ x.id) → ids (change_controlled u f xs) ≡ ids xs
unfolding change_controlled ids
ids_change u f [] keeps = refl
ids_change u f (x ∷ xs) keeps = by_test (nat_eq x.id.0 u)
    (λ y. rw (y, keeps x) refl)
    (λ n. rw n (ap (λ (ys : List ℕ). x.id.0 ∷ ys) (ids_change u f xs keeps)))

none_changed : (t u : ℕ) (f : Controlled → Controlled) (xs : List Controlled) → ((x : Controlled) → (f x).id ≡ x.id) → find_controlled t xs ≡ None → find_controlled t (change_controlled u f xs) ≡ None
none_changed t u f xs keeps none = by_test (nat_eq u t)
    (λ y.
    let e : u ≡ t = eqb-true u t y in
    ap (λ (i : ℕ). find_controlled t (change_controlled i f xs)) e ∙ (found_changed t f xs keeps ∙ ap (λ (x : Option Controlled). mapped f x) none))
    (λ n. found_other t u f xs keeps n ∙ none)

pub distinct_change : (u : ℕ) (f : Controlled → Controlled) (xs : List Controlled) → ((x : Controlled) → (f x).id ≡ x.id) → Distinct xs → Distinct (change_controlled u f xs)
unfolding change_controlled Distinct
distinct_change u f [] keeps d = d
distinct_change u f (x ∷ xs) keeps d = by_test (nat_eq x.id.0 u)
    (λ y. rw (y, keeps x) d)
    (λ n. rw n (none_changed x.id.0 u f xs keeps d.0, distinct_change u f xs keeps d.1))

-- what holds of one train as of another by its number, of those that pass, in order
pub filtered_is : {A : Type 0} (f : Controlled → Bool) (g : ℕ → Bool) (h : Controlled → A) (k : ℕ → A) (xs : List Controlled) → Distinct xs
    → ((t : ℕ) (x : Controlled) → find_controlled t xs ≡ Some x → f x ≡ g t) → ((x : Controlled) → h x ≡ k x.id.0) → map h (filter f xs) ≡ map k (filter g (ids xs))
unfolding ids Distinct
filtered_is f g h k [] d e same = refl
filtered_is f g h k (x ∷ xs) d e same =
    let here : f x ≡ g x.id.0 = e x.id.0 x (found_first x xs) in
    let rest = filtered_is f g h k xs d.1 (λ t y r. e t y (found_behind t x y xs d.0 r)) same in
    by_test (g x.id.0)
    (λ y. rw (here, y, same x, rest) refl)
    (λ n. rw (here, n, rest) refl)

-- All of them changed.

pub found_mapped : (t : ℕ) (f : Controlled → Controlled) (xs : List Controlled) → ((x : Controlled) → (f x).id ≡ x.id) → find_controlled t (map f xs) ≡ mapped f (find_controlled t xs)
unfolding find_controlled
found_mapped t f [] keeps = refl
found_mapped t f (x ∷ xs) keeps = by_test (nat_eq x.id.0 t)
    (λ y. let e : nat_eq (f x).id.0 t ≡ true = rw (keeps x) y in rw (y, e) refl)
    (λ n. let e : nat_eq (f x).id.0 t ≡ false = rw (keeps x) n in rw (n, e) (found_mapped t f xs keeps))

pub ids_mapped : (f : Controlled → Controlled) (xs : List Controlled) → ((x : Controlled) → (f x).id ≡ x.id) → ids (map f xs) ≡ ids xs
unfolding ids
ids_mapped f [] keeps = refl
ids_mapped f (x ∷ xs) keeps = rw (keeps x, ids_mapped f xs keeps) refl

pub distinct_mapped : (f : Controlled → Controlled) (xs : List Controlled) → ((x : Controlled) → (f x).id ≡ x.id) → Distinct xs → Distinct (map f xs)
unfolding Distinct
distinct_mapped f [] keeps d = d
distinct_mapped f (x ∷ xs) keeps d =
    (ap (λ (i : ℕ). find_controlled i (map f xs)) (ap (λ (u : TrainId). u.0) (keeps x)) ∙ (found_mapped x.id.0 f xs keeps ∙ ap (λ (y : Option Controlled). mapped f y) d.0), distinct_mapped f xs keeps d.1)

-- One put in its place.

pub found_placed : (t : ℕ) (x : Controlled) (xs : List Controlled) → find_controlled x.id.0 xs ≡ None → find_controlled t (placed_train x xs) ≡ (if nat_eq x.id.0 t then Some x else find_controlled t xs)
unfolding find_controlled placed_train
found_placed t x [] none = refl
found_placed t x (y ∷ xs) none = by_test (nat_lt x.id.0 y.id.0)
    (λ l. rw l refl)
    (λ l. by_test (nat_eq y.id.0 x.id.0)
    (λ a. absurd (let c : Some y ≡ None = rw a at none in cc))
    (λ b.
    let rest = found_placed t x xs (rw b at none) in
    by_test (nat_eq y.id.0 t)
    (λ a. let other : nat_eq x.id.0 t ≡ false = grind (arith, nat_tests) in rw (l, a, other) refl)
    (λ c. rw (l, c) rest)))

pub ids_placed : (x : Controlled) (xs : List Controlled) → ids (placed_train x xs) ≡ placed x.id.0 (ids xs)
unfolding ids placed_train placed
ids_placed x [] = refl
ids_placed x (y ∷ xs) = by_test (nat_lt x.id.0 y.id.0)
    (λ l. rw l refl)
    (λ l. rw (l, ids_placed x xs) refl)

pub distinct_placed : (x : Controlled) (xs : List Controlled) → find_controlled x.id.0 xs ≡ None → Distinct xs → Distinct (placed_train x xs)
unfolding Distinct find_controlled placed_train
distinct_placed x [] none d = (refl, d)
distinct_placed x (y ∷ xs) none d = by_test (nat_lt x.id.0 y.id.0)
    (λ l. rw l (none, d))
    (λ l. by_test (nat_eq y.id.0 x.id.0)
    (λ a. absurd (let c : Some y ≡ None = rw a at none in cc))
    (λ b.
    let rest : find_controlled x.id.0 xs ≡ None = rw b at none in
    let other : nat_eq x.id.0 y.id.0 ≡ false = grind (arith, nat_tests) in
    rw l (found_placed y.id.0 x xs rest ∙ rw other d.0, distinct_placed x xs rest d.1)))
