-- Trains found and changed in their list.
use Rattle.std.proofs.Common.{◌≡◌, ℕ, zero, suc, ◌+◌, ◌<◌, ◌≤◌, Bool, true, false, not, length, List, [], ◌∷◌, ◌++◌, get_or, refl, sym, ap, subst, ◌∙◌, arith, nat_eq, nat_lt, eqb, Option, Some, None, is_some, if◌then◌else◌, length-append}
use Rattle.std.specs.List.{list_all, position_or_len, position}
use Rattle.std.specs.Option.{option_or}
use Rattle.std.proofs.Math.ListN.{set}
use Rattle.std.proofs.lemmas.Bool.Decides.{nat_tests}
use Rattle.std.proofs.lemmas.List.{length-set, set-get_or}
use Rattle.std.proofs.lemmas.List.Quantifiers.{position-Some}
use Rattle.std.proofs.lemmas.List.Sums.{fails_before_first, prefix_len-le-length}
use Rattle.std.proofs.lemmas.List.Folds.{list_all-append, position_or_len-set, position_or_len_push}
use Rattle.std.proofs.lemmas.Bool.{and_parts}
use Rattle.list_laws.proofs.By_test.{by_test}
use Rattle.definitions.specs.Track.{Line}
use Rattle.definitions.specs.Premises.{ascending}
use Rattle.plain_state.specs.declared.WorldTrain.{WorldTrain}
use Rattle.plain_state.specs.World.{find_train, change_train}
use Rattle.track_points.specs.declared.ids.TrainId.{TrainId}
use Rattle.world_sim.specs.Places.{place_of}
use Rattle.world_sim.specs.World.{is_train, ascends, AllOn, AreKept}
use Rattle.world_sim.specs.Trains.{is_kept, IsTrainOn}

-- nothing found, nothing changed
none_found : (t : ℕ) (f : WorldTrain → WorldTrain) (xs : List WorldTrain) → find_train t xs ≡ None → change_train t f xs ≡ xs
unfolding find_train change_train
none_found t f [] h = refl
none_found t f (y ∷ xs) h = by_test (nat_eq y.id.0 t)
    (λ e. let same : Some y ≡ None = rw e at h in absurd cc)
    (λ e. rw e (ap (λ (zs : List WorldTrain). y ∷ zs) (none_found t f xs (rw e at h))))

-- trains on the line: the one that is found, and those after a change
pub found_on : (line : Line) (t : ℕ) (x : WorldTrain) (xs : List WorldTrain) → find_train t xs ≡ Some x → AllOn line xs → IsTrainOn line x
unfolding find_train AllOn
found_on line t x [] h a = absurd cc
found_on line t x (y ∷ xs) h a = by_test (nat_eq y.id.0 t)
    (λ e. let same : Some y ≡ Some x = rw e at h in subst (IsTrainOn line) (cc) a.0)
    (λ e. found_on line t x xs (rw e at h) a.1)

pub changed_on : (line : Line) (t : ℕ) (f : WorldTrain → WorldTrain) (xs : List WorldTrain) → AllOn line xs
    → ((x : WorldTrain) → find_train t xs ≡ Some x → IsTrainOn line x → IsTrainOn line (f x)) → AllOn line (change_train t f xs)
unfolding find_train change_train AllOn
changed_on line t f [] a g = a
changed_on line t f (x ∷ xs) a g = by_test (nat_eq x.id.0 t)
    (λ e. rw e (g x (rw e refl) a.0, a.1))
    (λ e. rw e (a.0, changed_on line t f xs a.1 (λ y h on. g y (rw e h) on)))

pub more_on : (line : Line) (y : WorldTrain) (xs : List WorldTrain) → IsTrainOn line y → AllOn line xs → AllOn line (xs ++ y ∷ [])
unfolding AllOn
more_on line y [] h a = (h, a)
more_on line y (x ∷ xs) h a = (a.0, more_on line y xs h a.1)

-- a change of one train is none of another
found_apart : (t u : ℕ) (f : WorldTrain → WorldTrain) (xs : List WorldTrain) → ((x : WorldTrain) → (f x).id ≡ x.id) → nat_eq t u ≡ false
    → find_train u (change_train t f xs) ≡ find_train u xs
unfolding find_train change_train
found_apart t u f [] s n = refl
found_apart t u f (x ∷ xs) s n = by_test (nat_eq x.id.0 t)
    (λ e.
    let i : nat_eq x.id.0 u ≡ false = grind (arith, nat_tests) in
    rw (e, s x, i) refl)
    (λ e. rw e (by_test (nat_eq x.id.0 u) (λ y. rw y refl) (λ z. rw z (found_apart t u f xs s n))))

-- trains that ascend leave the first one alone: what is asked of the others holds still
pub still : (test : Option WorldTrain → ℕ → Bool) (f : WorldTrain → WorldTrain) (u : ℕ) (moves : List (TrainId × ℕ)) (t : ℕ) (trains : List WorldTrain) → ((x : WorldTrain) → (f x).id ≡ x.id)
    → u ≤ t → ascending t moves ≡ true → list_all (λ y. test (find_train y.0.0 trains) y.1) moves ≡ true → list_all (λ y. test (find_train y.0.0 (change_train u f trains)) y.1) moves ≡ true
unfolding ascending
still test f u [] t trains same l a h = refl
still test f u (y ∷ moves) t trains same l a h =
    let k = and_parts (nat_lt t y.0.0) (ascending y.0.0 moves) a in
    let m = and_parts (test (find_train y.0.0 trains) y.1) (list_all (λ z. test (find_train z.0.0 trains) z.1) moves) h in
    let after : t < y.0.0 = let b = k.0 in grind (arith, nat_tests) in
    let n : nat_eq u y.0.0 ≡ false = grind (arith, nat_tests) in
    let e = found_apart u y.0.0 f trains same n in
    let first : test (find_train y.0.0 (change_train u f trains)) y.1 ≡ true = rw e m.0 in
    rw (first, still test f u moves y.0.0 trains same (omega arith) k.1 m.1) refl

pub ascends_from : (t : ℕ) (moves : List (TrainId × ℕ)) → ascending t moves ≡ true → ascends moves ≡ true
unfolding ascending
ascends_from t [] h = refl
ascends_from t (y ∷ moves) h = (and_parts (nat_lt t y.0.0) (ascending y.0.0 moves) h).1

-- The first train of an id, by its place.

found_at : (t : ℕ) (xs : List WorldTrain) (i : ℕ) (d : WorldTrain) → i < length xs → is_train t (get_or xs i d) ≡ true
    → ((k : ℕ) → k < i → is_train t (get_or xs k d) ≡ false) → find_train t xs ≡ Some (get_or xs i d)
unfolding find_train
found_at t [] i d h p b = absurd (omega arith)
found_at t (x ∷ xs) zero d h p b = rw p refl
found_at t (x ∷ xs) (suc i) d h p b =
    let n : is_train t x ≡ false = b 0 (omega arith) in rw n (found_at t xs i d (omega arith) p (λ k l. b (suc k) (omega arith)))

pub found_is : (t : ℕ) (xs : List WorldTrain) (i : ℕ) (x : WorldTrain) → position (is_train t) xs ≡ Some i → x ≡ get_or xs i x → find_train t xs ≡ Some x
found_is t xs i x h e =
    let p = position-Some (is_train t) xs i x h in found_at t xs i x p.0 p.1 p.2 ∙ ap (λ (y : WorldTrain). Some (y)) (sym e)

none_at : (t : ℕ) (xs : List WorldTrain) → position (is_train t) xs ≡ None → (k : ℕ) (d : WorldTrain) → k < length xs → is_train t (get_or xs k d) ≡ false
none_at t xs h k d l = by_test (nat_lt (position_or_len (is_train t) xs) (length xs))
    (λ y. let q = rw y at h in absurd (cc))
    (λ n. fails_before_first (is_train t) xs k d (grind (arith, nat_tests)))

absent_at : (t : ℕ) (xs : List WorldTrain) → ((k : ℕ) (d : WorldTrain) → k < length xs → is_train t (get_or xs k d) ≡ false) → find_train t xs ≡ None
unfolding find_train
absent_at t [] h = refl
absent_at t (x ∷ xs) h = let n : is_train t x ≡ false = h 0 x (omega arith) in rw n (absent_at t xs (λ k d l. h (suc k) d (omega arith)))

pub absent : (t : ℕ) (xs : List WorldTrain) → position (is_train t) xs ≡ None → find_train t xs ≡ None
absent t xs h = absent_at t xs (none_at t xs h)

-- what has a place is found
pub placed_is : (t : ℕ) (xs : List WorldTrain) (place : Option ℕ) → place ≡ position (is_train t) xs → is_some place ≡ is_some (find_train t xs)
placed_is t xs None h = rw (absent t xs (sym h)) refl
placed_is t [] (Some i) h = absurd cc
placed_is t (x ∷ xs) (Some i) h =
    let p = position-Some (is_train t) (x ∷ xs) i x (sym h) in rw (found_at t (x ∷ xs) i x p.0 p.1 p.2) refl

pub unchanged : (t : ℕ) (f : WorldTrain → WorldTrain) (xs : List WorldTrain) → position (is_train t) xs ≡ None → change_train t f xs ≡ xs
unchanged t f xs h = none_found t f xs (absent t xs h)

-- the train at its place changed
changed_at : (t : ℕ) (f : WorldTrain → WorldTrain) (xs : List WorldTrain) (i : ℕ) (d : WorldTrain) → i < length xs → is_train t (get_or xs i d) ≡ true
    → ((k : ℕ) → k < i → is_train t (get_or xs k d) ≡ false) → change_train t f xs ≡ set xs i (f (get_or xs i d))
unfolding change_train
changed_at t f [] i d h p b = absurd (omega arith)
changed_at t f (x ∷ xs) zero d h p b = rw p refl
changed_at t f (x ∷ xs) (suc i) d h p b =
    let n : is_train t x ≡ false = b 0 (omega arith) in
    rw n (ap (λ (y : List WorldTrain). x ∷ y) (changed_at t f xs i d (omega arith) p (λ k l. b (suc k) (omega arith))))

pub changed_is : (t : ℕ) (f : WorldTrain → WorldTrain) (xs : List WorldTrain) (i : ℕ) (x y : WorldTrain) → position (is_train t) xs ≡ Some i → x ≡ get_or xs i x → y ≡ f x
    → change_train t f xs ≡ set xs i y
changed_is t f xs i x y h e g =
    let p = position-Some (is_train t) xs i x h in
    changed_at t f xs i x p.0 p.1 p.2 ∙ ap (set xs i) (ap f (sym e) ∙ sym g)

-- what is at a place, put there once more
pub put_same : (xs : List WorldTrain) (i : ℕ) (x y : WorldTrain) → x ≡ get_or xs i x → y ≡ x → set xs i y ≡ xs
put_same xs i x y e h = ap (set xs i) (h ∙ e) ∙ set-get_or xs i x

-- What a world keeps of its trains.

each_set : (xs : List WorldTrain) (i : ℕ) (y : WorldTrain) → is_kept y ≡ true → list_all is_kept xs ≡ true → list_all is_kept (set xs i y) ≡ true
each_set [] i y h a = refl
each_set (x ∷ xs) zero y h a = let k = and_parts (is_kept x) (list_all is_kept xs) a in let r = k.1 in rw (h, r) refl
each_set (x ∷ xs) (suc i) y h a =
    let k = and_parts (is_kept x) (list_all is_kept xs) a in let f = k.0 in let r = each_set xs i y h k.1 in rw (f, r) refl

each_at : (xs : List WorldTrain) (i : ℕ) (d : WorldTrain) → i < length xs → list_all is_kept xs ≡ true → is_kept (get_or xs i d) ≡ true
each_at [] i d l a = absurd (omega arith)
each_at (x ∷ xs) zero d l a = (and_parts (is_kept x) (list_all is_kept xs) a).0
each_at (x ∷ xs) (suc i) d l a = each_at xs i d (omega arith) (and_parts (is_kept x) (list_all is_kept xs) a).1

pub kept_is : (places : List ℕ) (xs : List WorldTrain) (i : ℕ) (x : WorldTrain) → AreKept places xs → i < length xs → x ≡ get_or xs i x → is_kept x ≡ true
kept_is places xs i x k l e = ap is_kept e ∙ each_at xs i x l k.each

-- a train changed that keeps its id
pub kept_set : (places : List ℕ) (xs : List WorldTrain) (i : ℕ) (x y : WorldTrain) → AreKept places xs → x ≡ get_or xs i x → y.id ≡ x.id → is_kept y ≡ true → AreKept places (set xs i y)
kept_set places xs i x y k e id kept = record {
  each = each_set xs i y kept k.each;
  placed = λ t b.
      let same = position_or_len-set (is_train t) xs i y x (ap (λ (u : TrainId). nat_eq u.0 t) (id ∙ ap (λ (z : WorldTrain). z.id) e)) in
      rw (same, length-set xs i y) (k.placed t b);
}

-- a train more, after the others
pushed : (p : WorldTrain → Bool) (xs : List WorldTrain) (x : WorldTrain) → position p (xs ++ x ∷ []) ≡ option_or (position p xs) (if p x then Some (length xs) else None)
pushed p xs x =
    let w = prefix_len-le-length (λ z. not (p z)) xs in
    let q = position_or_len_push p xs x in
    let l : length (xs ++ x ∷ []) ≡ length xs + 1 = length-append xs (x ∷ []) in
    by_test (nat_lt (position_or_len p xs) (length xs))
    (λ y.
    let n : eqb (position_or_len p xs) (length xs) ≡ false = grind (arith, nat_tests) in
    let m : nat_lt (position_or_len p xs) (length xs + 1) ≡ true = grind (arith, nat_tests) in
    rw (q, n, l, m, y) refl)
    (λ n.
    let e : position_or_len p xs ≡ length xs = grind (arith, nat_tests) in
    let same : eqb (length xs) (length xs) ≡ true = grind (arith, nat_tests) in
    let above : nat_lt (length xs) (length xs) ≡ false = grind (arith, nat_tests) in
    by_test (p x)
    (λ y. let m : nat_lt (length xs + 0) (length xs + 1) ≡ true = grind (arith, nat_tests) in rw (q, e, same, l, y, m, above) (ap (λ (k : ℕ). Some k) (omega arith)))
    (λ z. let m : nat_lt (length xs + 1) (length xs + 1) ≡ false = grind (arith, nat_tests) in rw (q, e, same, l, z, m, above) refl))

pub kept_push : (places new : List ℕ) (xs : List WorldTrain) (n : ℕ) (x : WorldTrain) → AreKept places xs → n ≡ length xs → is_kept x ≡ true
    → ((t : ℕ) → place_of new t ≡ option_or (place_of places t) (if nat_eq x.id.0 t then Some n else None))
    → AreKept new (xs ++ x ∷ [])
kept_push places new xs n x k e kept put = record {
  each = let all = k.each in rw (list_all-append is_kept xs (x ∷ []), all, kept) refl;
  placed = λ t b.
      put t
      ∙ (ap (λ (place : Option ℕ). option_or place (if nat_eq x.id.0 t then Some n else None)) (k.placed t b)
      ∙ (ap (λ (m : ℕ). option_or (position (is_train t) xs) (if nat_eq x.id.0 t then Some m else None)) e ∙ sym (pushed (is_train t) xs x)));
}
