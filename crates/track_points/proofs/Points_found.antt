-- The points between two places.
use Rattle.std.proofs.Common.{◌≡◌, ℕ, ◌<◌, ◌≤◌, true, ◌&&◌, ◌||◌, List, ◌++◌, refl, arith, nat_lt, nat_le}
use Rattle.std.proofs.lemmas.Bool.Decides.{nat_tests}
use Rattle.list_laws.proofs.By_test.{by_test, same_bool}
use Rattle.track_points.specs.declared.ids.DirSeg.{DirSeg}
use Rattle.track_points.specs.Points.{Layout, Point, is_at, total, cell_at, has_between}
use Rattle.track_points.proofs.Some_found.{some_at, some_found}
use Rattle.track_points.proofs.Cell_here.{cell_within}

-- a place from lo to below hi whose cell is the point
pub record PassingPlace (point : Point) (layout : Layout) (steps : List DirSeg) (lo hi : ℕ) : Type 0 where
  pub place : ℕ
  pub from : lo ≤ place
  pub below : place < hi
  pub passing : is_at layout point (cell_at layout.len steps place) ≡ true

pub points_found : (point : Point) (layout : Layout) (steps : List DirSeg) (lo hi : ℕ) → has_between layout steps lo hi point ≡ true → PassingPlace point layout steps lo hi
points_found point layout steps lo hi h =
    let r = some_found (λ p. nat_le lo p && is_at layout point (cell_at layout.len steps p)) hi h in
    let f : nat_le lo r.at && is_at layout point (cell_at layout.len steps r.at) ≡ true = r.passes in
    record { place = r.at; from = grind (arith, nat_tests); below = r.below; passing = grind arith }

pub points_at : (point : Point) (layout : Layout) (steps : List DirSeg) (lo hi p : ℕ) → lo ≤ p → p < hi → is_at layout point (cell_at layout.len steps p) ≡ true
    → has_between layout steps lo hi point ≡ true
points_at point layout steps lo hi p a b e =
    some_at (λ p. nat_le lo p && is_at layout point (cell_at layout.len steps p)) hi p b (let t : nat_le lo p ≡ true = grind (arith, nat_tests) in rw (t, e) refl)

-- a wider range has them too
pub points_wider : (point : Point) (layout : Layout) (steps : List DirSeg) (lo hi lo2 hi2 : ℕ) → lo2 ≤ lo → hi ≤ hi2
    → has_between layout steps lo hi point ≡ true → has_between layout steps lo2 hi2 point ≡ true
points_wider point layout steps lo hi lo2 hi2 a b h =
    let r = points_found point layout steps lo hi h in
    points_at point layout steps lo2 hi2 r.place (let f = r.from in omega arith) (let f = r.below in omega arith) r.passing

-- two ranges that meet
pub points_join : (point : Point) (layout : Layout) (steps : List DirSeg) (lo mid hi : ℕ) → lo ≤ mid → mid ≤ hi
    → has_between layout steps lo hi point ≡ (has_between layout steps lo mid point || has_between layout steps mid hi point)
points_join point layout steps lo mid hi a b = same_bool _ _
    (λ h. let r = points_found point layout steps lo hi h in
    by_test (nat_lt r.place mid)
    (λ y. let x = points_at point layout steps lo mid r.place r.from (grind (arith, nat_tests)) r.passing in rw x refl)
    (λ n. let x = points_at point layout steps mid hi r.place (grind (arith, nat_tests)) r.below r.passing in grind arith))
    (λ h. by_test (has_between layout steps lo mid point)
    (λ y. points_wider point layout steps lo mid lo hi (omega arith) b y)
    (λ n. points_wider point layout steps mid hi lo hi a (omega arith) (grind arith)))

-- further steps, by which a way was lengthened by
pub points_within : (point : Point) (layout : Layout) (steps more : List DirSeg) (lo hi : ℕ) → hi ≤ total layout.len steps
    → has_between layout (steps ++ more) lo hi point ≡ has_between layout steps lo hi point
points_within point layout steps more lo hi h = same_bool _ _
    (λ x. let r = points_found point layout (steps ++ more) lo hi x in let b = r.below in
    points_at point layout steps lo hi r.place r.from r.below (rw (← cell_within layout.len steps more r.place (omega arith)) r.passing))
    (λ x. let r = points_found point layout steps lo hi x in let b = r.below in
    points_at point layout (steps ++ more) lo hi r.place r.from r.below (rw (cell_within layout.len steps more r.place (omega arith)) r.passing))
