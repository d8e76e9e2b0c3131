-- The two ends that each rule leaves, as numbers: what a machine of two numbers keeps.
use Rattle.std.proofs.Common.{◌≡◌, ℕ, ◌+◌, ◌<◌, ◌≤◌, min, Bool, true, false, ◌&&◌, refl, sym, ◌∙◌, ap, subst, arith, nat_le, nat_lt}
use Rattle.std.proofs.lemmas.Bool.Decides.{nat_tests}
use Rattle.std.proofs.lemmas.Int.{ints}
use Rattle.std.specs.Prelude.{ℤ, pos, ◌+ℤ◌, nat_abs}
use Rattle.std.specs.Int.Signed.{le_z, lt_z}
use Rattle.std.proofs.lemmas.Bool.{and_parts}
use Rattle.list_laws.proofs.By_test.{by_test}
use Rattle.track_points.specs.Points.{some_below}
use Rattle.track_points.proofs.Some_found.{some_found}
use Rattle.envelope.specs.declared.fronts.Fronts.{Fronts}
use Rattle.envelope.specs.Fronts.{kept}
use Rattle.envelope.proofs.Range_hull.{IsRange}
use Rattle.envelope.proofs.Kept_hull.{are_ends}
use Rattle.envelope.specs.Ends.{least_left, greatest_left, narrowed}
use Rattle.definitions.specs.Account.{ruled}
use Rattle.step_laws.proofs.Narrowed_shifted.{least_above}
use Rattle.step_laws.proofs.Ruled_is.{ruled_is, none_range}

module _ (end : ℕ) (keep fronts : ℕ → Bool) (lo hi : ℕ) (r : IsRange fronts lo hi) (o : lo ≤ hi) (h : hi ≤ end) where
  -- the least and the greatest that pass are the ends
  pub hull_ruled : (lo2 hi2 : ℕ) → lo ≤ lo2 → lo2 ≤ hi2 → hi2 ≤ hi → keep lo2 ≡ true → keep hi2 ≡ true
      → ((p : ℕ) → lo ≤ p → p < lo2 → keep p ≡ false) → ((p : ℕ) → hi2 < p → p ≤ hi → keep p ≡ false) → IsRange (ruled end keep fronts) lo2 hi2
  hull_ruled lo2 hi2 a b c first last below above =
      let q = ruled_is end keep fronts lo hi r o h in
      let l = q.left in
      let x = l.each lo2 a (omega (arith, b, c)) first in
      let y = l.each hi2 (omega (arith, a, b)) c last in
      let e = q.ends lo2 a (omega (arith, b, c)) first in
      let ll = l.least in
      let lm = l.most in
      let lo_same : l.lo2 ≡ lo2 = by_test (nat_lt l.lo2 lo2)
      (λ t. absurd (let n = below l.lo2 ll (grind (arith, nat_tests)) in let z : true ≡ false = sym e.0 ∙ n in cc))
      (λ t. let x0 = x.0 in grind (arith, nat_tests)) in
      let hi_same : l.hi2 ≡ hi2 = by_test (nat_lt hi2 l.hi2)
      (λ t. absurd (let n = above l.hi2 (grind (arith, nat_tests)) lm in let z : true ≡ false = sym e.1 ∙ n in cc))
      (λ t. let y1 = y.1 in grind (arith, nat_tests)) in
      subst (λ (n : ℕ). IsRange (ruled end keep fronts) n hi2) lo_same (subst (λ (n : ℕ). IsRange (ruled end keep fronts) l.lo2 n) hi_same l.is)

  -- where none passes, all stay
  pub none_ruled : ((p : ℕ) → lo ≤ p → p ≤ hi → keep p ≡ false) → IsRange (ruled end keep fronts) lo hi
  none_ruled none =
      let no : some_below (λ f. fronts f && keep f) (end + 1) ≡ false = by_test (some_below (λ f. fronts f && keep f) (end + 1))
      (λ y.
      let f = some_found (λ f. fronts f && keep f) (end + 1) y in
      let b = and_parts (fronts f.at) (keep f.at) f.passes in
      let i = r.is f.at in
      let b0 = b.0 in
      absurd (let n = none f.at (grind (arith, nat_tests)) (grind (arith, nat_tests)) in let z : true ≡ false = sym b.1 ∙ n in cc))
      (λ n. n) in
      none_range end keep fronts lo hi r o h no

  -- a shrink taken
  pub cut_ruled : (x : ℕ) → keep ≡ (λ p. nat_le p x) → lo ≤ x → IsRange (ruled end keep fronts) lo (min hi x)
  cut_ruled x e le =
      hull_ruled lo (min hi x) (omega arith) (omega (arith, o, le)) (omega arith)
      (ap (λ (k : ℕ → Bool). k lo) e ∙ at_most lo (omega (arith, le))) (ap (λ (k : ℕ → Bool). k (min hi x)) e ∙ at_most (min hi x) (omega arith))
      (λ p a b. absurd (omega (arith, a, b)))
      (λ p a b. ap (λ (k : ℕ → Bool). k p) e ∙ beyond p (omega (arith, a, b)))
    where
      at_most : (p : ℕ) → p ≤ x → nat_le p x ≡ true
      at_most p h = grind (arith, nat_tests)

      beyond : (p : ℕ) → x < p → nat_le p x ≡ false
      beyond p h = grind (arith, nat_tests)

-- a report
abbrev pub report_ends : ℤ → ℕ → ℕ → Bool → ℕ → ℕ → Fronts
report_ends est err moved integrity lo hi = narrowed (record { lo = lo; hi = hi; at = 0 }) (least_left lo est err integrity) (greatest_left hi est err moved)

pub record ReportEnds (end : ℕ) (est : ℤ) (err moved : ℕ) (integrity : Bool) (fronts : ℕ → Bool) (lo hi : ℕ) (left : Fronts) : Type 0 where
  pub is : IsRange (ruled end (kept (λ q. true) est err moved integrity) fronts) left.lo left.hi
  pub ordered : left.lo ≤ left.hi
  pub least : lo ≤ left.lo
  pub most : left.hi ≤ hi

module _ (est : ℤ) (err moved : ℕ) (integrity : Bool) (lo hi : ℕ) where
  abbrev keep : ℕ → Bool
  keep = kept (λ q. true) est err moved integrity

  abbrev least : ℤ
  least = least_left lo est err integrity

  abbrev most : ℤ
  most = greatest_left hi est err moved

  turned : (a b : ℤ) → le_z a b ≡ true → lt_z b a ≡ false
  turned a b h = grind (arith, ints)

  greatest_below : (n : ℕ) → pos n ≡ greatest_left hi est err moved → n ≤ hi
  greatest_below n e = grind (arith, ints)

  -- the places between the ends that are kept
  keeps_between : (b : Bool) (p : ℕ) → le_z (least_left lo est err b) (pos p) ≡ true → le_z (pos p) (greatest_left hi est err moved) ≡ true → kept (λ q. true) est err moved b p ≡ true
  keeps_between true p x y = grind (arith, ints, nat_tests)
  keeps_between false p x y = grind (arith, ints, nat_tests)

  fails_below : (b : Bool) (p : ℕ) → lo ≤ p → le_z (least_left lo est err b) (pos p) ≡ false → kept (λ q. true) est err moved b p ≡ false
  fails_below true p x y = grind (arith, ints, nat_tests)
  fails_below false p x y = grind (arith, ints, nat_tests)

  fails_above : (b : Bool) (p : ℕ) → p ≤ hi → le_z (pos p) (greatest_left hi est err moved) ≡ false → kept (λ q. true) est err moved b p ≡ false
  fails_above true p x y = grind (arith, ints, nat_tests)
  fails_above false p x y = grind (arith, ints, nat_tests)

  none_between : (b : Bool) (p : ℕ) → lo ≤ p → p ≤ hi → le_z (least_left lo est err b) (greatest_left hi est err moved) ≡ false → kept (λ q. true) est err moved b p ≡ false
  none_between true p x y n = grind (arith, ints, nat_tests)
  none_between false p x y n = grind (arith, ints, nat_tests)

  le_pos : (a b : ℕ) → a ≤ b → le_z (pos a) (pos b) ≡ true
  le_pos a b h = grind (arith, ints)

  lt_pos : (a b : ℕ) → a < b → le_z (pos b) (pos a) ≡ false
  lt_pos a b h = grind (arith, ints)

  pub report_ruled : (end : ℕ) (fronts : ℕ → Bool) → IsRange fronts lo hi → lo ≤ hi → hi ≤ end → ReportEnds end est err moved integrity fronts lo hi (report_ends est err moved integrity lo hi)
  report_ruled end fronts r o h = by_test (le_z (least_left lo est err integrity) (greatest_left hi est err moved))
      (λ y.
      let e = are_ends lo est err integrity least most refl (turned least most y) in
      let a = least_above lo est err integrity (nat_abs least) e.least in
      let b = greatest_below (nat_abs most) e.greatest in
      let c = e.ordered in
      rw y (record {
        is = hull_ruled end keep fronts lo hi r o h (nat_abs least) (nat_abs most) a c b
            (keeps_between integrity (nat_abs least) (subst (λ (n : ℤ). le_z n (pos (nat_abs least)) ≡ true) e.least (le_pos (nat_abs least) (nat_abs least) (omega arith)))
            (subst (λ (n : ℤ). le_z (pos (nat_abs least)) n ≡ true) e.greatest (le_pos (nat_abs least) (nat_abs most) c)))
            (keeps_between integrity (nat_abs most) (subst (λ (n : ℤ). le_z n (pos (nat_abs most)) ≡ true) e.least (le_pos (nat_abs least) (nat_abs most) c))
            (subst (λ (n : ℤ). le_z (pos (nat_abs most)) n ≡ true) e.greatest (le_pos (nat_abs most) (nat_abs most) (omega arith))))
            (λ p x u. fails_below integrity p x (subst (λ (n : ℤ). le_z n (pos p) ≡ false) e.least (lt_pos p (nat_abs least) u)))
            (λ p x u. fails_above integrity p u (subst (λ (n : ℤ). le_z (pos p) n ≡ false) e.greatest (lt_pos (nat_abs most) p x)));
        ordered = c;
        least = a;
        most = b;
      }))
      (λ n. rw n (record {
        is = none_ruled end keep fronts lo hi r o h (λ p x y. none_between integrity p x y n);
        ordered = o;
        least = omega arith;
        most = omega arith;
      }))

-- a front is kept that lies, by its speed, no farther on than the train was, up to its error
pub true_kept : (test : ℕ → Bool) (est : ℤ) (err moved : ℕ) (integrity : Bool) (was p : ℕ) → test p ≡ true
    → le_z est (pos (was + err)) ≡ true → le_z (pos was) (est +ℤ pos err) ≡ true → was ≤ p → p ≤ was + moved
    → kept test est err moved integrity p ≡ true
true_kept test est err moved true was p on a b c d = rw on (grind (arith, ints, nat_tests))
true_kept test est err moved false was p on a b c d = rw on (grind (arith, ints, nat_tests))
