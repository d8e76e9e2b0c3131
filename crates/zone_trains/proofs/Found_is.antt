-- A train by its index, and what holds of all trains.
use Rattle.std.proofs.Common.{◌≡◌, ℕ, suc, zero, subst, ◌+◌, ◌<◌, ◌≤◌, Bool, true, false, List, [], ◌∷◌, length, take, drop, ◌++◌, get_or, Result, Ok, Err, is_ok, Some, None, is_some, refl, sym, ap, ◌∙◌, arith, nat_eq, nat_lt, nat_le}
use Rattle.std.proofs.Math.ListN.{set}
use Rattle.std.proofs.Math.Seq.{take-append_seam}
use Rattle.std.specs.List.{list_all, position, position_or_len}
use Rattle.std.proofs.lemmas.Bool.Decides.{nat_tests}
use Rattle.std.proofs.lemmas.List.Quantifiers.{position-Some}
use Rattle.std.proofs.lemmas.List.Sums.{fails_before_first, position_or_len_is}
use Rattle.list_laws.proofs.By_test.{by_test}
use Rattle.track_points.specs.declared.ids.DirSeg.{DirSeg}
use Rattle.track_points.specs.Points.{total, place_of_last, end_place, visits, no_segment_twice}
use Rattle.definitions.specs.Track.{Line, seg_len, joined, last_step}
use Rattle.definitions.specs.Steps.{entry_path}
use Rattle.definitions.specs.Ways.{path_in_range}
use Rattle.way_path.specs.declared.way.WayFault.{WayFault}
use Rattle.way_path.specs.declared.way.WayFault.TheVariants.{NotJoined, Repeated, OutOfRange, Throats, Full}
use Rattle.way_path.specs.Ways.{PlacedWay, Makes}
use Rattle.plain_state.specs.declared.Controlled.{Controlled}
use Rattle.plain_state.specs.Zone.{find_controlled, change_controlled}
use Rattle.zone_reach.specs.Reach.{path_fits}
use Rattle.zone_trains.specs.Trains.{is_train, Ascend, TrainFits, AllFit, IsPlace}

found_at : (t : ℕ) (xs : List Controlled) (i : ℕ) (d : Controlled) → i < length xs → is_train t (get_or xs i d) ≡ true
    → ((k : ℕ) → k < i → is_train t (get_or xs k d) ≡ false) → find_controlled t xs ≡ Some (get_or xs i d)
unfolding find_controlled
found_at t [] i d h p b = absurd (omega arith)
found_at t (x ∷ xs) zero d h p b = rw p refl
found_at t (x ∷ xs) (suc i) d h p b =
    let n : is_train t x ≡ false = b 0 (omega arith) in rw n (found_at t xs i d (omega arith) p (λ k l. b (suc k) (omega arith)))

changed_at : (t : ℕ) (f : Controlled → Controlled) (xs : List Controlled) (i : ℕ) (d y : Controlled) → i < length xs → is_train t (get_or xs i d) ≡ true
    → ((k : ℕ) → k < i → is_train t (get_or xs k d) ≡ false) → y ≡ f (get_or xs i d)
    → change_controlled t f xs ≡ set xs i y
unfolding change_controlled
changed_at t f [] i d y h p b e = absurd (omega arith)
changed_at t f (x ∷ xs) zero d y h p b e = rw p (ap (λ (z : Controlled). z ∷ xs) (sym e))
changed_at t f (x ∷ xs) (suc i) d y h p b e =
    let n : is_train t x ≡ false = b 0 (omega arith) in
    rw n (ap (λ (ys : List Controlled). x ∷ ys) (changed_at t f xs i d y (omega arith) p (λ k l. b (suc k) (omega arith)) e))

pub found : (t : ℕ) (xs : List Controlled) (i : ℕ) (d : Controlled) → position (is_train t) xs ≡ Some i → find_controlled t xs ≡ Some (get_or xs i d)
found t xs i d h = let p = position-Some (is_train t) xs i d h in found_at t xs i d p.0 p.1 p.2

pub found_is : (t : ℕ) (xs : List Controlled) (i : ℕ) (x : Controlled) → position (is_train t) xs ≡ Some i → x ≡ get_or xs i x → find_controlled t xs ≡ Some x
found_is t xs i x h e = found t xs i x h ∙ ap (λ (y : Controlled). Some (y)) (sym e)

pub changed : (t : ℕ) (f : Controlled → Controlled) (xs : List Controlled) (i : ℕ) (d y : Controlled) → position (is_train t) xs ≡ Some i → y ≡ f (get_or xs i d)
    → change_controlled t f xs ≡ set xs i y
changed t f xs i d y h e = let p = position-Some (is_train t) xs i d h in changed_at t f xs i d y p.0 p.1 p.2 e

pub changed_is : (t : ℕ) (f : Controlled → Controlled) (xs : List Controlled) (i : ℕ) (x y : Controlled) → position (is_train t) xs ≡ Some i → x ≡ get_or xs i x → y ≡ f x → change_controlled t f xs ≡ set xs i y
changed_is t f xs i x y h e g = changed t f xs i x y h (g ∙ ap f e)

-- what is read twice at an index
pub same_read : (xs : List Controlled) (i : ℕ) (x y : Controlled) → i < length xs → get_or xs i x ≡ get_or xs i y
same_read [] i x y l = absurd (omega arith)
same_read (z ∷ zs) zero x y l = refl
same_read (z ∷ zs) (suc i) x y l = same_read zs i x y (omega arith)

pub read_same : (xs : List Controlled) (i : ℕ) (x y : Controlled) → i < length xs → x ≡ get_or xs i x → y ≡ get_or xs i y → x ≡ y
read_same xs i x y l e f = e ∙ (same_read xs i x y l ∙ sym f)

none_at : (t : ℕ) (xs : List Controlled) → position (is_train t) xs ≡ None → (k : ℕ) (d : Controlled) → k < length xs → is_train t (get_or xs k d) ≡ false
none_at t xs h k d l =
    by_test (nat_lt (position_or_len (is_train t) xs) (length xs))
    (λ y. let q = rw y at h in absurd (cc))
    (λ n. fails_before_first (is_train t) xs k d (grind (arith, nat_tests)))

absent_at : (t : ℕ) (xs : List Controlled) → ((k : ℕ) (d : Controlled) → k < length xs → is_train t (get_or xs k d) ≡ false) → find_controlled t xs ≡ None
unfolding find_controlled
absent_at t [] h = refl
absent_at t (x ∷ xs) h = let n : is_train t x ≡ false = h 0 x (omega arith) in rw n (absent_at t xs (λ k d l. h (suc k) d (omega arith)))

kept_at : (t : ℕ) (f : Controlled → Controlled) (xs : List Controlled) → ((k : ℕ) (d : Controlled) → k < length xs → is_train t (get_or xs k d) ≡ false)
    → change_controlled t f xs ≡ xs
unfolding change_controlled
kept_at t f [] h = refl
kept_at t f (x ∷ xs) h =
    let n : is_train t x ≡ false = h 0 x (omega arith) in
    rw n (ap (λ (ys : List Controlled). x ∷ ys) (kept_at t f xs (λ k d l. h (suc k) d (omega arith))))

pub absent : (t : ℕ) (xs : List Controlled) → position (is_train t) xs ≡ None → find_controlled t xs ≡ None
absent t xs h = absent_at t xs (none_at t xs h)

pub kept : (t : ℕ) (f : Controlled → Controlled) (xs : List Controlled) → position (is_train t) xs ≡ None → change_controlled t f xs ≡ xs
kept t f xs h = kept_at t f xs (none_at t xs h)

known : (t : ℕ) (xs : List Controlled) (i : ℕ) → position (is_train t) xs ≡ Some i → is_some (find_controlled t xs) ≡ true
known t [] i h = absurd (cc)
known t (x ∷ xs) i h = rw (found t (x ∷ xs) i x h) refl

unknown : (t : ℕ) (xs : List Controlled) → position (is_train t) xs ≡ None → is_some (find_controlled t xs) ≡ false
unknown t xs h = rw (absent t xs h) refl

-- the first train of an id, by how many have a lesser one
pub index_is : (t : ℕ) (xs : List Controlled) (i : ℕ) (d : Controlled) → i < length xs → ((k : ℕ) (e : Controlled) → k < i → (get_or xs k e).id.0 < t) → (get_or xs i d).id.0 ≡ t
    → Some i ≡ position (is_train t) xs
index_is t xs i d l below here =
    let e = position_or_len_is (is_train t) xs i d (omega arith) (λ k b. let less = below k d b in grind (arith, nat_tests)) (λ b. grind (arith, nat_tests)) in
    let m : nat_lt i (length xs) ≡ true = grind (arith, nat_tests) in
    rw (e, m) refl

no_index : (t : ℕ) (xs : List Controlled) → ((k : ℕ) (d : Controlled) → k < length xs → is_train t (get_or xs k d) ≡ false) → position (is_train t) xs ≡ None
no_index t [] fails = refl
no_index t (x ∷ xs) fails =
    let all = x ∷ xs in
    let e = position_or_len_is (is_train t) all (length all) x (omega arith) (λ k b. fails k x b) (λ b. absurd (omega arith)) in
    let m : nat_lt (length all) (length all) ≡ false = grind (arith, nat_tests) in
    rw (e, m) refl

-- a train that is not among some goes in where those of a lesser id end
pub goes_in : (t : ℕ) (xs : List Controlled) (i : ℕ) → Ascend xs → i ≤ length xs → ((k : ℕ) (e : Controlled) → k < i → (get_or xs k e).id.0 < t)
    → ((k : ℕ) (e : Controlled) → i ≤ k → k < length xs → t ≤ (get_or xs k e).id.0) → (i < length xs → (e : Controlled) → (get_or xs i e).id.0 ≡ t → ⊥)
    → IsPlace t xs (Err i)
goes_in t xs i up within below rest other = (
  no_index t xs (λ k d b. by_test (nat_lt k i)
      (λ y. let less = below k d (grind (arith, nat_tests)) in grind (arith, nat_tests))
      (λ n. let more = greater k d (grind (arith, nat_tests)) b in grind (arith, nat_tests))),
  record {
    within = within;
    below = λ k d h. let less = below k d h in omega arith;
    rest = greater;
  },
)
  where
    greater : (k : ℕ) (d : Controlled) → i ≤ k → k < length xs → t < (get_or xs k d).id.0
    greater k d le b =
        let least = rest i d (omega arith) (omega arith) in
        let rises = up i k d le b in
        by_test (nat_eq (get_or xs i d).id.0 t)
        (λ y. absurd (other (omega arith) d (grind (arith, nat_tests))))
        (λ z. let n : (get_or xs i d).id.0 ≡ t → ⊥ = grind (arith, nat_tests) in omega arith)

pub known_is : (t : ℕ) (xs : List Controlled) (place : Result ℕ ℕ) → IsPlace t xs place → is_ok place ≡ is_some (find_controlled t xs)
known_is t xs (Ok i) h = sym (known t xs i h.0)
known_is t xs (Err i) h = sym (unknown t xs h.0)

-- what holds of all trains

pub fit_one : (line : Line) (clock : ℕ) (xs : List Controlled) (i : ℕ) (d : Controlled) → i < length xs → AllFit line clock xs → TrainFits line clock (get_or xs i d)
unfolding AllFit
fit_one line clock [] i d h f = absurd (omega arith)
fit_one line clock (x ∷ xs) zero d h f = f.0
fit_one line clock (x ∷ xs) (suc i) d h f = fit_one line clock xs i d (omega arith) f.1

pub fit_set : (line : Line) (clock : ℕ) (xs : List Controlled) (i : ℕ) (x : Controlled) → AllFit line clock xs → TrainFits line clock x → AllFit line clock (set xs i x)
unfolding AllFit
fit_set line clock [] i x f h = tt
fit_set line clock (y ∷ ys) zero x f h = (h, f.1)
fit_set line clock (y ∷ ys) (suc i) x f h = (f.0, fit_set line clock ys i x f.1 h)

-- at its own time, and back
fit_own : (line : Line) (clock : ℕ) (x : Controlled) → TrainFits line clock x → TrainFits line x.fronts.at x
fit_own line clock x f = subst (λ (n : ℕ). TrainFits line n x) (sym f.at) f

pub fit_again : (line : Line) (clock : ℕ) (x y : Controlled) → TrainFits line clock x → TrainFits line x.fronts.at y → TrainFits line clock y
fit_again line clock x y f g = subst (λ (n : ℕ). TrainFits line n y) f.at g

-- a test that every train passes
passes : (test : Controlled → Bool) (xs : List Controlled) (i : ℕ) (d : Controlled) → i < length xs → list_all test xs ≡ true → test (get_or xs i d) ≡ true
passes test [] i d l h = absurd (omega arith)
passes test (x ∷ xs) zero d l h = grind arith
passes test (x ∷ xs) (suc i) d l h = passes test xs i d (omega arith) (grind arith)

pub passes_is : (test : Controlled → Bool) (xs : List Controlled) (i : ℕ) (x : Controlled) → i < length xs → x ≡ get_or xs i x → list_all test xs ≡ true → test x ≡ true
passes_is test xs i x l e h = ap test e ∙ passes test xs i x l h

-- a train that fits, found
pub fit_found : (line : Line) (clock : ℕ) (xs : List Controlled) (i : ℕ) (x : Controlled) → i < length xs → x ≡ get_or xs i x → AllFit line clock xs → TrainFits line clock x
fit_found line clock xs i x l e f = rw e (fit_one line clock xs i x l f)

-- at its own time
pub fit_here : (line : Line) (clock : ℕ) (xs : List Controlled) (i : ℕ) (x : Controlled) → i < length xs → x ≡ get_or xs i x → AllFit line clock xs → TrainFits line x.fronts.at x
fit_here line clock xs i x l e f = fit_own line clock x (fit_found line clock xs i x l e f)

-- a train that fits has a path that fits
pub fit_path : (line : Line) (clock : ℕ) (x : Controlled) → TrainFits line clock x → path_fits (seg_len line) x.way.path ≡ true
fit_path line clock x f =
    let s = f.way.some in let w = f.on_line.within in let e = f.ends in
    let a : nat_lt 0 (length x.way.path.steps.items) ≡ true = grind (arith, nat_tests) in
    let b : nat_le (end_place (seg_len line) x.way.path) (total (seg_len line) x.way.path.steps.items) ≡ true = let le : end_place (seg_len line) x.way.path ≤ total (seg_len line) x.way.path.steps.items = omega arith in grind (arith, nat_tests) in
    rw (a, b) refl

-- the path over a portal's segment makes a way
first_of_one : (step : DirSeg) (i : ℕ) → i < length (step ∷ []) → take (i + 1) (step ∷ []) ≡ step ∷ []
first_of_one step zero h = refl
first_of_one step (suc i) h = absurd (omega arith)

pub entry_in_range : (line : Line) (step : DirSeg) (room : ℕ) → room ≡ seg_len line step.seg.0 → 0 < room → path_in_range (seg_len line) (entry_path step room) ≡ true
unfolding last_step place_of_last
entry_in_range line step room e h = grind (arith, nat_tests)

pub entry_makes : (line : Line) (step : DirSeg) (room : ℕ) (r : Result PlacedWay WayFault) → room ≡ seg_len line step.seg.0 → 0 < room → Makes line 0 (entry_path step room) r
    → (way : PlacedWay) × (r ≡ Ok way)
unfolding joined no_segment_twice visits
entry_makes line step room (Ok way) e h m = (way, refl)
entry_makes line step room (Err (NotJoined i)) e h m = let w = rw (first_of_one step i m.there) at m.with_it in absurd (let z : true ≡ false = w in cc)
entry_makes line step room (Err (Repeated i)) e h m = let w = rw (first_of_one step i m.1.there) at m.1.with_it in absurd (let z : true ≡ false = w in cc)
entry_makes line step room (Err OutOfRange) e h m = let r = entry_in_range line step room e h in let f = m.2 in absurd (cc)
entry_makes line step room (Err Throats) e h m = absurd m
entry_makes line step room (Err Full) e h m = absurd m

-- what is written back of all trains
pub written : (n : ℕ) (new old : List Controlled) → length new ≡ n → take n (new ++ drop (length new) old) ≡ new
written n new old e = rw (← e) (take-append_seam new (drop (length new) old))
