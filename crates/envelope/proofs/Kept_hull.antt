-- What the rules make of a range of fronts is a range.
use Rattle.std.proofs.Common.{◌∙◌, ◌≡◌, ℕ, suc, ◌+◌, ◌≤◌, min, Bool, true, false, ◌&&◌, refl, arith, nat_le}
use Rattle.std.proofs.lemmas.Bool.Decides.{nat_tests}
use Rattle.envelope.specs.declared.fronts.Fronts.{Fronts}
use Rattle.std.proofs.lemmas.Int.{ints}
use Rattle.std.specs.Prelude.{ℤ, pos, negsuc, ◌<ℤ◌, nat_abs}
use Rattle.std.specs.Int.Signed.{le_z, lt_z}
use Rattle.list_laws.proofs.By_test.{same_bool, by_test}
use Rattle.envelope.specs.Fronts.{is_front, grown, kept, IsHull, IsFilled}
use Rattle.envelope.specs.Ends.{least_left, greatest_left}
use Rattle.track_points.proofs.Some_found.{some_at, some_found}
use Rattle.envelope.proofs.Range_hull.{IsRange, range_hull, range_filled}

-- growth
pub grown_in : (fronts : Fronts) (moved limit g : ℕ) → fronts.lo ≤ fronts.hi → fronts.hi ≤ limit → fronts.lo ≤ g → g ≤ fronts.hi + moved → g ≤ limit
    → grown (is_front fronts) moved limit g ≡ true
grown_in fronts moved limit g o h a b c =
    let t : nat_le g limit ≡ true = grind (arith, nat_tests) in
    by_test (nat_le g fronts.hi)
    (λ y. let s = some_at (λ f. is_front fronts f && nat_le g (f + moved)) (suc g) g (omega arith) (grind (arith, nat_tests)) in rw (t, s) refl)
    (λ x. let s = some_at (λ f. is_front fronts f && nat_le g (f + moved)) (suc g) fronts.hi (grind (arith, nat_tests)) (grind (arith, nat_tests)) in rw (t, s) refl)

pub grown_range : (fronts : Fronts) (moved limit : ℕ) → fronts.lo ≤ fronts.hi → fronts.hi ≤ limit
    → IsRange (grown (is_front fronts) moved limit) fronts.lo (min (fronts.hi + moved) limit)
grown_range fronts moved limit o h = record {
  is = λ g. same_bool _ _
      (λ e. let r = some_found (λ f. is_front fronts f && nat_le g (f + moved)) (suc g) (grind arith) in
      let b = r.below in let p = r.passes in grind (arith, nat_tests))
      (λ e. grown_in fronts moved limit g o h (grind (arith, nat_tests)) (grind (arith, nat_tests)) (grind (arith, nat_tests)));
}

pub grown_hull : (fronts : Fronts) (moved limit hi : ℕ) → fronts.lo ≤ fronts.hi → fronts.hi ≤ limit → hi ≡ min (fronts.hi + moved) limit
    → IsHull (grown (is_front fronts) moved limit) fronts.lo hi
grown_hull fronts moved limit hi o h e = rw e (range_hull _ _ _ (omega arith) (grown_range fronts moved limit o h))

pub grown_filled : (fronts : Fronts) (moved limit hi : ℕ) → fronts.lo ≤ fronts.hi → fronts.hi ≤ limit → hi ≡ min (fronts.hi + moved) limit
    → IsFilled (grown (is_front fronts) moved limit) fronts.lo hi
grown_filled fronts moved limit hi o h e = rw e (range_filled _ _ _ (grown_range fronts moved limit o h))

-- report
pub kept_by : (fronts : Fronts) (est : ℤ) (err moved : ℕ) (integrity : Bool) (f : ℕ)
    → kept (is_front fronts) est err moved integrity f
    ≡ (le_z (least_left fronts.lo est err integrity) (pos f) && le_z (pos f) (greatest_left fronts.hi est err moved))
kept_by fronts est err moved true f = grind (arith, ints, nat_tests)
kept_by fronts est err moved false f = grind (arith, ints, nat_tests)

pub kept_range : (fronts : Fronts) (est : ℤ) (err moved : ℕ) (integrity : Bool) (lo hi : ℕ)
    → pos lo ≡ least_left fronts.lo est err integrity → pos hi ≡ greatest_left fronts.hi est err moved
    → IsRange (kept (is_front fronts) est err moved integrity) lo hi
kept_range fronts est err moved integrity lo hi l g = record { is = λ f. let k = kept_by fronts est err moved integrity f in rw (← l, ← g) at k }

-- the ends of what remains are places, where the greatest is not below the least
pub record AreEnds (lo hi : ℤ) : Type 0 where
  pub ordered : nat_abs lo ≤ nat_abs hi
  pub least : pos (nat_abs lo) ≡ lo
  pub greatest : pos (nat_abs hi) ≡ hi

pub not_negative : (first : ℕ) (est : ℤ) (err : ℕ) (integrity : Bool) (lo : ℤ) → lo ≡ least_left first est err integrity → lt_z lo (pos 0) ≡ false
not_negative first est err true lo l = grind (arith, ints)
not_negative first est err false lo l = grind (arith, ints)

pub at_least : (lo hi : ℤ) → lt_z lo (pos 0) ≡ false → lt_z hi lo ≡ false → AreEnds lo hi
at_least (pos a) (pos b) n h = record { ordered = grind (arith, ints); least = refl; greatest = refl }
at_least (pos a) (negsuc b) n h = absurd (grind (arith, ints))
at_least (negsuc a) hi n h = absurd (grind (arith, ints))

pub are_ends : (first : ℕ) (est : ℤ) (err : ℕ) (integrity : Bool) (lo hi : ℤ) → lo ≡ least_left first est err integrity → lt_z hi lo ≡ false → AreEnds lo hi
are_ends first est err integrity lo hi l h = let n = not_negative first est err integrity lo l in at_least lo hi n h

pub kept_hull : (fronts : Fronts) (est : ℤ) (err moved : ℕ) (integrity : Bool) (lo hi : ℤ)
    → lo ≡ least_left fronts.lo est err integrity → hi ≡ greatest_left fronts.hi est err moved → lt_z hi lo ≡ false
    → IsHull (kept (is_front fronts) est err moved integrity) (nat_abs lo) (nat_abs hi)
kept_hull fronts est err moved integrity lo hi l g h =
    let e = are_ends fronts.lo est err integrity lo hi l h in
    range_hull _ _ _ e.ordered (kept_range fronts est err moved integrity (nat_abs lo) (nat_abs hi) (e.least ∙ l) (e.greatest ∙ g))

pub kept_filled : (fronts : Fronts) (est : ℤ) (err moved : ℕ) (integrity : Bool) (lo hi : ℤ)
    → lo ≡ least_left fronts.lo est err integrity → hi ≡ greatest_left fronts.hi est err moved → lt_z hi lo ≡ false
    → IsFilled (kept (is_front fronts) est err moved integrity) (nat_abs lo) (nat_abs hi)
kept_filled fronts est err moved integrity lo hi l g h =
    let e = are_ends fronts.lo est err integrity lo hi l h in
    range_filled _ _ _ (kept_range fronts est err moved integrity (nat_abs lo) (nat_abs hi) (e.least ∙ l) (e.greatest ∙ g))

pub kept_none : (fronts : Fronts) (est : ℤ) (err moved : ℕ) (integrity : Bool)
    → greatest_left fronts.hi est err moved <ℤ least_left fronts.lo est err integrity
    → (f : ℕ) → kept (is_front fronts) est err moved integrity f ≡ false
kept_none fronts est err moved integrity h f = let k = kept_by fronts est err moved integrity f in grind (arith, ints, nat_tests)
