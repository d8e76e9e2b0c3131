-- Ranges of numbers, and of places.
use Rattle.std.proofs.Common.{◌≡◌, ℕ, ◌≤◌, Bool, true, ◌&&◌, ◌||◌, List, refl, sym, ◌∙◌, arith}
use Rattle.std.proofs.lemmas.Bool.Decides.{nat_tests}
use Rattle.std.specs.Prelude.{nat_le, nat_lt}
use Rattle.list_laws.proofs.By_test.{by_test}
use Rattle.track_points.specs.declared.ids.DirSeg.{DirSeg}
use Rattle.track_points.specs.Points.{Layout, Point, has_between}
use Rattle.track_points.proofs.Points_found.{points_found, points_at}

-- a test that passes exactly from one number to another
abbrev pub IsRange : (ℕ → Bool) → ℕ → ℕ → Type 0
IsRange test lo hi = (f : ℕ) → test f ≡ (nat_le lo f && nat_le f hi)

pub range_in : (test : ℕ → Bool) (lo hi f : ℕ) → IsRange test lo hi → lo ≤ f → f ≤ hi → test f ≡ true
range_in test lo hi f is a b = is f ∙ (let x : nat_le lo f ≡ true = grind (arith, nat_tests) in let y : nat_le f hi ≡ true = grind (arith, nat_tests) in rw (x, y) refl)

pub range_least : (test : ℕ → Bool) (lo hi f : ℕ) → IsRange test lo hi → test f ≡ true → lo ≤ f
range_least test lo hi f is h = let e = sym (is f) ∙ h in grind (arith, nat_tests)

-- a point between two places lies before a third or after it
pub points_cases : (point : Point) (layout : Layout) (steps : List DirSeg) (lo hi lo2 hi2 : ℕ) → lo ≤ lo2 → has_between layout steps lo2 hi2 point ≡ true
    → (has_between layout steps lo hi point || has_between layout steps hi hi2 point) ≡ true
points_cases point layout steps lo hi lo2 hi2 a h =
    let f = points_found point layout steps lo2 hi2 h in
    let from = f.from in let below = f.below in
    by_test (nat_lt f.place hi)
    (λ y. let one = points_at point layout steps lo hi f.place (omega arith) (grind (arith, nat_tests)) f.passing in rw one refl)
    (λ n.
    let two = points_at point layout steps hi hi2 f.place (grind (arith, nat_tests)) below f.passing in
    by_test (has_between layout steps lo hi point) (λ y. rw y refl) (λ m. rw m two))
