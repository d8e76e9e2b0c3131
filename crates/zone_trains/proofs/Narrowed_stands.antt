-- What the time and a report make of the fronts of a train.
use Rattle.std.proofs.Common.{◌≡◌, ℕ, suc, zero, ◌++◌, length, take, drop, get_or, ◌+◌, ◌-◌, ◌<◌, ◌≤◌, min, Bool, true, false, List, [], ◌∷◌, map, refl, sym, ap, ◌∙◌, arith, nat_lt}
use Rattle.std.proofs.lemmas.Bool.Decides.{nat_tests}
use Rattle.std.proofs.lemmas.Int.{ints}
use Rattle.std.specs.Prelude.{ℤ, pos, ◌*◌, ◌<ℤ◌, nat_abs}
use Rattle.std.specs.Int.Signed.{le_z, lt_z}
use Rattle.list_laws.proofs.By_test.{by_test}
use Rattle.envelope.specs.declared.fronts.Fronts.{Fronts}
use Rattle.envelope.specs.Fronts.{farthest_move, is_front, grown, kept, IsHull}
use Rattle.envelope.specs.Ends.{least_left, greatest_left, narrowed}
use Rattle.envelope.proofs.Kept_hull.{grown_hull, kept_hull, kept_none, are_ends}
use Rattle.definitions.specs.Track.{Line}
use Rattle.plain_state.specs.declared.Controlled.{Controlled}
use Rattle.plain_state.specs.Zone.{grown_train, narrowed_train, check}
use Rattle.zone_trains.proofs.Checked_fits.{checked_fits}
use Rattle.zone_trains.specs.Trains.{TrainFits, TrainStands, AllFit, CanGrow, AllCanGrow}

pub silent_is : (ms report clock : ℕ) → nat_lt ms (clock - report) ≡ nat_lt (report + ms) clock
silent_is ms report clock = grind (arith, nat_tests)

-- a test has one least and one greatest place

same_least : (test : ℕ → Bool) (a b c d : ℕ) → IsHull test a b → IsHull test c d → a ≤ c
same_least test a b c d h k =
    by_test (nat_lt c a)
    (λ y. absurd (let p = h.none_below c (grind (arith, nat_tests)) in let q = k.least in let z : true ≡ false = sym q ∙ p in cc))
    (λ n. grind (arith, nat_tests))

same_greatest : (test : ℕ → Bool) (a b c d : ℕ) → IsHull test a b → IsHull test c d → b ≤ d
same_greatest test a b c d h k =
    by_test (nat_lt d b)
    (λ y. absurd (let p = k.none_above b (grind (arith, nat_tests)) in let q = h.greatest in let z : true ≡ false = sym q ∙ p in cc))
    (λ n. grind (arith, nat_tests))

pub hull_same : (test : ℕ → Bool) (a b c d : ℕ) → IsHull test a b → IsHull test c d → (a ≡ c) × (b ≡ d)
hull_same test a b c d h k =
    let w = same_least test a b c d h k in let x = same_least test c d a b k h in
    let y = same_greatest test a b c d h k in let z = same_greatest test c d a b k h in
    (omega arith, omega arith)

fronts_are : (fronts : Fronts) (lo hi at : ℕ) → fronts.lo ≡ lo → fronts.hi ≡ hi → fronts.at ≡ at → fronts ≡ record { lo = lo; hi = hi; at = at }
fronts_are fronts lo hi at a b c = rw (← a, ← b, ← c) refl

-- Growth.

fronts_grown : (old new : Fronts) (moved limit clock : ℕ) → old.lo ≤ old.hi → old.hi ≤ limit → IsHull (grown (is_front old) moved limit) new.lo new.hi → new.at ≡ clock
    → new ≡ record { lo = old.lo; hi = min (old.hi + moved) limit; at = clock }
fronts_grown old new moved limit clock o w h a =
    let s = hull_same (grown (is_front old) moved limit) new.lo new.hi old.lo (min (old.hi + moved) limit) h (grown_hull old moved limit (min (old.hi + moved) limit) o w refl) in
    fronts_are new old.lo (min (old.hi + moved) limit) clock s.0 s.1 a

pub train_grown : (clock : ℕ) (x : Controlled) (new : Fronts) → CanGrow x.fronts.at x
    → IsHull (grown (is_front x.fronts) (farthest_move x.speed (clock - x.fronts.at)) x.way.end) new.lo new.hi → new.at ≡ clock
    → record x { fronts = new } ≡ grown_train clock x
train_grown clock x new g h a =
    ap (λ (f : Fronts). record x { fronts = f }) (fronts_grown x.fronts new (farthest_move x.speed (clock - x.fronts.at)) x.way.end clock g.ordered g.ahead h a)

pub can_grow : (line : Line) (before : ℕ) (xs : List Controlled) → AllFit line before xs → AllCanGrow before xs
unfolding AllFit AllCanGrow
can_grow line before [] f = tt
can_grow line before (x ∷ xs) f = (record { ordered = f.0.ordered; ahead = f.0.ahead; at = f.0.at }, can_grow line before xs f.1)

pub grows_at : (before : ℕ) (xs : List Controlled) (i : ℕ) (d : Controlled) → i < length xs → AllCanGrow before xs → CanGrow before (get_or xs i d)
unfolding AllCanGrow
grows_at before [] i d h g = absurd (omega arith)
grows_at before (x ∷ xs) zero d h g = g.0
grows_at before (x ∷ xs) (suc i) d h g = grows_at before xs i d (omega arith) g.1

pub grows_own : (before : ℕ) (x : Controlled) → CanGrow before x → CanGrow x.fronts.at x
grows_own before x g = record { ordered = g.ordered; ahead = g.ahead; at = refl }

-- the train at the index of a loop over all, that has grown those before it
pub still_as_was : (f : Controlled → Controlled) (xs ys : List Controlled) (i : ℕ) (d : Controlled) → i < length xs → ys ≡ map f (take i xs) ++ drop i xs → get_or ys i d ≡ get_or xs i d
still_as_was f xs ys i d h e = ap (λ zs. get_or zs i d) e ∙ read f xs i d h
  where
    read : (f : Controlled → Controlled) (xs : List Controlled) (i : ℕ) (d : Controlled) → i < length xs → get_or (map f (take i xs) ++ drop i xs) i d ≡ get_or xs i d
    read f [] i d h = absurd (omega arith)
    read f (x ∷ xs) zero d h = refl
    read f (x ∷ xs) (suc i) d h = read f xs i d (omega arith)

grown_fits : (line : Line) (before clock : ℕ) (x : Controlled) → TrainFits line before x → TrainFits line clock (grown_train clock x)
grown_fits line before clock x f = record {
  way = f.way;
  on_line = f.on_line;
  ends = f.ends;
  long = f.long;
  behind = f.behind;
  ordered = let o = f.ordered in let a = f.ahead in omega arith;
  ahead = omega arith;
  at = refl;
  ledger = f.ledger;
  shrink = f.shrink;
}

pub all_grown_fit : (line : Line) (before clock : ℕ) (xs : List Controlled) → AllFit line before xs → AllFit line clock (map (grown_train clock) xs)
unfolding AllFit
all_grown_fit line before clock [] f = tt
all_grown_fit line before clock (x ∷ xs) f = (grown_fits line before clock x f.0, all_grown_fit line before clock xs f.1)

-- by 0 ms no front grows
not_grown : (clock : ℕ) (x : Controlled) → CanGrow clock x → grown_train clock x ≡ x
not_grown clock x f =
    let a = f.at in let h = f.ahead in
    let m : clock - x.fronts.at ≡ 0 = omega arith in
    let q : farthest_move x.speed 0 ≡ 0 = let t : x.speed * 0 ≡ 0 = omega arith in rw t refl in
    let e : min (x.fronts.hi + farthest_move x.speed (clock - x.fronts.at)) x.way.end ≡ x.fronts.hi = rw (m, q) (omega arith) in
    rw (e, ← a) refl

pub none_grown : (clock : ℕ) (xs : List Controlled) → AllCanGrow clock xs → map (grown_train clock) xs ≡ xs
unfolding AllCanGrow
none_grown clock [] f = refl
none_grown clock (x ∷ xs) f = rw (not_grown clock x f.0, none_grown clock xs f.1) refl

-- A report.

not_below : (lo hi : ℤ) → le_z lo hi ≡ true → lt_z hi lo ≡ false
not_below lo hi h = grind (arith, ints)

below : (lo hi : ℤ) → le_z lo hi ≡ false → hi <ℤ lo
below lo hi h = grind (arith, ints)

pub fronts_kept : (old new : Fronts) (est : ℤ) (err moved : ℕ) (integrity used : Bool) → old.lo ≤ old.hi
    → (used ≡ true → IsHull (kept (is_front old) est err moved integrity) new.lo new.hi)
    → (used ≡ false → (f : ℕ) → kept (is_front old) est err moved integrity f ≡ false) → (used ≡ false → new ≡ old) → new.at ≡ old.at
    → new ≡ narrowed old (least_left old.lo est err integrity) (greatest_left old.hi est err moved)
fronts_kept old new est err moved integrity true o h n u a =
    by_test (le_z (least_left old.lo est err integrity) (greatest_left old.hi est err moved))
    (λ y.
    let k = kept_hull old est err moved integrity (least_left old.lo est err integrity) (greatest_left old.hi est err moved) refl refl (not_below (least_left old.lo est err integrity) (greatest_left old.hi est err moved) y) in
    let s = hull_same (kept (is_front old) est err moved integrity) new.lo new.hi _ _ (h refl) k in
    rw y (fronts_are new (nat_abs (least_left old.lo est err integrity)) (nat_abs (greatest_left old.hi est err moved)) old.at s.0 s.1 a))
    (λ x. absurd (let p = (h refl).least in let q = kept_none old est err moved integrity (below (least_left old.lo est err integrity) (greatest_left old.hi est err moved) x) new.lo in let z : true ≡ false = sym p ∙ q in cc))
fronts_kept old new est err moved integrity false o h n u a =
    by_test (le_z (least_left old.lo est err integrity) (greatest_left old.hi est err moved))
    (λ y.
    let k = kept_hull old est err moved integrity (least_left old.lo est err integrity) (greatest_left old.hi est err moved) refl refl (not_below (least_left old.lo est err integrity) (greatest_left old.hi est err moved) y) in
    absurd (let p = k.least in let q = n refl (nat_abs (least_left old.lo est err integrity)) in let z : true ≡ false = sym p ∙ q in cc))
    (λ x. rw x (u refl))

-- what is left of fronts
record LeftOf (old new : Fronts) : Type 0 where
  pub least : old.lo ≤ new.lo
  pub ordered : new.lo ≤ new.hi
  pub greatest : new.hi ≤ old.hi
  pub at : new.at ≡ old.at

at_least_old : (first : ℕ) (est : ℤ) (err n : ℕ) (integrity : Bool) → pos n ≡ least_left first est err integrity → first ≤ n
at_least_old first est err n true h = grind (arith, ints)
at_least_old first est err n false h = grind (arith, ints)

at_most_old : (last : ℕ) (est : ℤ) (err moved n : ℕ) → pos n ≡ greatest_left last est err moved → n ≤ last
at_most_old last est err moved n h = grind (arith, ints)

left_of : (old : Fronts) (est : ℤ) (err moved : ℕ) (integrity : Bool) → old.lo ≤ old.hi
    → LeftOf old (narrowed old (least_left old.lo est err integrity) (greatest_left old.hi est err moved))
left_of old est err moved integrity o =
    by_test (le_z (least_left old.lo est err integrity) (greatest_left old.hi est err moved))
    (λ y.
    let e = are_ends old.lo est err integrity (least_left old.lo est err integrity) (greatest_left old.hi est err moved) refl (not_below (least_left old.lo est err integrity) (greatest_left old.hi est err moved) y) in
    rw y record {
      least = at_least_old old.lo est err _ integrity e.least;
      ordered = e.ordered;
      greatest = at_most_old old.hi est err moved _ e.greatest;
      at = refl;
    })
    (λ x. rw x record { least = omega arith; ordered = o; greatest = omega arith; at = refl })

pub narrowed_stands : (line : Line) (clock : ℕ) (place : ℤ) (time : ℕ) (integrity : Bool) (x : Controlled) → TrainFits line clock x
    → TrainStands line (check (narrowed_train place time integrity x))
narrowed_stands line clock place time integrity x f =
    let l = left_of x.fronts place x.error (farthest_move x.speed (x.fronts.at - time)) integrity f.ordered in
    let k = checked_fits x.fronts.lo (narrowed_train place time integrity x).fronts.lo x.way.end x.ledger.pending x.ledger refl f.ledger f.shrink in
    record {
      way = f.way;
      on_line = f.on_line;
      ends = f.ends;
      long = f.long;
      behind = let b = f.behind in let a = l.least in omega arith;
      ordered = l.ordered;
      ahead = let a = f.ahead in let b = l.greatest in omega arith;
      ledger = k.0;
      shrink = k.1;
    }

pub narrowed_at : (place : ℤ) (time : ℕ) (integrity : Bool) (x : Controlled) → x.fronts.lo ≤ x.fronts.hi → (narrowed_train place time integrity x).fronts.at ≡ x.fronts.at
narrowed_at place time integrity x o = (left_of x.fronts place x.error (farthest_move x.speed (x.fronts.at - time)) integrity o).at
