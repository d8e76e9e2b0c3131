-- The points between two places, step by step.
use Rattle.std.proofs.Common.{◌≡◌, ℕ, suc, zero, ◌+◌, ◌-◌, ◌<◌, ◌≤◌, min, Bool, true, false, ◌&&◌, ◌||◌, List, [], ◌∷◌, length, Option, Some, None, refl, ◌∙◌, arith, nat_eq, nat_lt, nat_le}
use Rattle.std.proofs.lemmas.Bool.Decides.{nat_tests}
use Rattle.list_laws.proofs.By_test.{by_test, same_bool}
use Rattle.track_points.specs.declared.ids.Dir.{Dir}
use Rattle.track_points.specs.declared.ids.Dir.TheVariants.{Up, Down}
use Rattle.track_points.specs.declared.ids.DirSeg.{DirSeg}
use Rattle.track_points.specs.declared.ids.Range.{Range}
use Rattle.track_points.specs.declared.ids.ZoneId.{ZoneId}
use Rattle.track_points.specs.Points.{Layout, Point, Cell, Token, mm_at, is_at, cell_at, some_below, has_between}
use Rattle.track_points.specs.Sets.{Points, held, token_in, in_range, has_cell, set_has, NeedsMoreRanges}
use Rattle.track_points.proofs.Cell_here.{cell_here, cell_beyond}
use Rattle.track_points.proofs.Points_found.{points_found, points_at}
use Rattle.definitions.specs.Track.{Line, seg_len, layout}
use Rattle.way_laws.proofs.No_throat.{no_token}
use Rattle.way_path.specs.Ways.{step_has, segment_of, point_of}

pub dir_twice : (len : ℕ) (d : Dir) (p : ℕ) → p < len → (mm_at len d p < len) × (mm_at len d (mm_at len d p) ≡ p)
dir_twice len Up p h = (h, refl)
dir_twice len Down p h = (omega arith, omega arith)

-- no points on no steps
pub points_none : (point : Point) (layout : Layout) (lo hi : ℕ) → has_between layout [] lo hi point ≡ false
unfolding some_below cell_at
points_none point layout lo zero = refl
points_none point layout lo (suc n) = rw (points_none point layout lo n) (by_test (nat_le lo n) (λ y. rw y refl) (λ n. rw n refl))

step_found : (len : ℕ) (w : DirSeg) (lo hi s mm p : ℕ) → lo ≤ p → p < hi → p < len → (nat_eq w.seg.0 s && nat_eq (mm_at len w.dir p) mm) ≡ true
    → step_has len w lo hi s mm ≡ true
step_found len w lo hi s mm p a b lt f =
    let d = dir_twice len w.dir p lt in
    let e : mm_at len w.dir p ≡ mm = grind (arith, nat_tests) in
    let d0 : mm < len = rw e at d.0 in
    let d1 : mm_at len w.dir mm ≡ p = rw e at d.1 in
    let t1 : nat_lt mm len ≡ true = grind (arith, nat_tests) in
    let t2 : nat_le lo p ≡ true = grind (arith, nat_tests) in
    let t3 : nat_lt p hi ≡ true = grind (arith, nat_tests) in
    let t4 : nat_eq w.seg.0 s ≡ true = grind arith in
    rw (d1, t1, t2, t3, t4) refl

-- the first step, and the rest
pub cells_first : (layout : Layout) (w : DirSeg) (steps : List DirSeg) (lo hi s mm : ℕ)
    → has_between layout (w ∷ steps) lo hi (Cell s mm) ≡ (step_has (layout.len w.seg.0) w lo hi s mm || has_between layout steps (lo - layout.len w.seg.0) (hi - layout.len w.seg.0) (Cell s mm))
cells_first layout w steps lo hi s mm = same_bool _ _
    (λ h. let r = points_found (Cell s mm) layout (w ∷ steps) lo hi h in
    let f = r.from in let b = r.below in
    by_test (nat_lt r.place (layout.len w.seg.0))
    (λ y. let lt : r.place < layout.len w.seg.0 = grind (arith, nat_tests) in
    let p : (nat_eq w.seg.0 s && nat_eq (mm_at (layout.len w.seg.0) w.dir r.place) mm) ≡ true = rw (cell_here layout.len w steps r.place lt) at r.passing in
    let x = step_found (layout.len w.seg.0) w lo hi s mm r.place f b lt p in rw x refl)
    (λ n. let ge : layout.len w.seg.0 ≤ r.place = grind (arith, nat_tests) in
    let p : is_at layout (Cell s mm) (cell_at layout.len steps (r.place - layout.len w.seg.0)) ≡ true = rw (cell_beyond layout.len w steps r.place ge) at r.passing in
    let x = points_at (Cell s mm) layout steps (lo - layout.len w.seg.0) (hi - layout.len w.seg.0) (r.place - layout.len w.seg.0) (omega arith) (omega arith) p in
    grind arith))
    (λ h. by_test (step_has (layout.len w.seg.0) w lo hi s mm)
    (λ y. let lt : mm < layout.len w.seg.0 = grind (arith, nat_tests) in
    let d = dir_twice (layout.len w.seg.0) w.dir mm lt in
    let t4 : nat_eq w.seg.0 s ≡ true = grind arith in
    let t5 : nat_eq mm mm ≡ true = grind (arith, nat_tests) in
    points_at (Cell s mm) layout (w ∷ steps) lo hi (mm_at (layout.len w.seg.0) w.dir mm) (grind (arith, nat_tests)) (grind (arith, nat_tests))
    (rw (cell_here layout.len w steps (mm_at (layout.len w.seg.0) w.dir mm) d.0, d.1, t4, t5) refl))
    (λ n. let r = points_found (Cell s mm) layout steps (lo - layout.len w.seg.0) (hi - layout.len w.seg.0) (grind arith) in
    let f = r.from in let b = r.below in
    let e : layout.len w.seg.0 + r.place - layout.len w.seg.0 ≡ r.place = omega arith in
    points_at (Cell s mm) layout (w ∷ steps) lo hi (layout.len w.seg.0 + r.place) (omega arith) (omega arith)
    (rw (cell_beyond layout.len w steps (layout.len w.seg.0 + r.place) (omega arith), e) r.passing)))

-- a set of fewer than 24 ranges has room for one more
pub not_full : (p : Points) (r : Range) → length p.ranges < 24 → NeedsMoreRanges 24 (λ s mm. has_cell p s mm || in_range r s mm) → ⊥
unfolding held
not_full p r lt n = let x = n (r ∷ p.ranges) (λ s mm. grind arith) in omega arith

pub mm_below : (len : ℕ) (d : Dir) (mm : ℕ) → mm < len → mm_at len d mm < len
mm_below len Up mm h = h
mm_below len Down mm h = omega arith

-- beyond the segment's end a step has nothing
pub step_min : (len : ℕ) (step : DirSeg) (from to s mm : ℕ) → step_has len step from (min to len) s mm ≡ step_has len step from to s mm
step_min len step from to s mm = by_test (nat_lt mm len)
    (λ y. let b = mm_below len step.dir mm (grind (arith, nat_tests)) in
    let e : nat_lt (mm_at len step.dir mm) (min to len) ≡ nat_lt (mm_at len step.dir mm) to = grind (arith, nat_tests) in rw e refl)
    (λ n. rw n refl)

pub step_empty : (len : ℕ) (step : DirSeg) (from to s mm : ℕ) (old : Bool) → min to len ≤ from → old ≡ (old || step_has len step from to s mm)
step_empty len step from to s mm old h =
    by_test (nat_lt mm len)
    (λ y. let b = mm_below len step.dir mm (grind (arith, nat_tests)) in grind (arith, nat_tests))
    (λ n. rw n (grind arith))

pub no_more : (layout : Layout) (steps : List DirSeg) (lo hi s mm : ℕ) (old own : Bool) → length steps < 1 → old ≡ (old || (own && has_between layout steps lo hi (Cell s mm)))
no_more layout [] lo hi s mm old own h = rw (points_none (Cell s mm) layout lo hi) (grind arith)
no_more layout (st ∷ steps) lo hi s mm old own h = absurd (omega arith)

pub one_step_more : (layout : Layout) (st : DirSeg) (steps rest : List DirSeg) (lo hi n lo2 hi2 s mm : ℕ) (old mid new own : Bool) → steps ≡ st ∷ rest → n ≡ layout.len st.seg.0
    → lo2 ≡ lo - n → hi2 ≡ hi - n → mid ≡ (old || (own && step_has (layout.len st.seg.0) st lo hi s mm)) → new ≡ (mid || (own && has_between layout rest lo2 hi2 (Cell s mm)))
    → new ≡ (old || (own && has_between layout steps lo hi (Cell s mm)))
one_step_more layout st steps rest lo hi n lo2 hi2 s mm old mid new own d e l h a b =
    rw (d, cells_first layout st rest lo hi s mm, b, a, l, h, e) (grind arith)

-- the cells of a step are of its segment
pub step_own : (line : Line) (zone : Option ZoneId) (st : DirSeg) (from to s mm : ℕ) (old new : Bool) → segment_of line zone st.seg.0 ≡ true
    → new ≡ (old || step_has (seg_len line st.seg.0) st from to s mm) → new ≡ (old || (segment_of line zone s && step_has (seg_len line st.seg.0) st from to s mm))
step_own line zone st from to s mm old new o h =
    by_test (nat_eq st.seg.0 s)
    (λ y. let e : st.seg.0 ≡ s = grind (arith, nat_tests) in let t = rw e at o in rw t h)
    (λ n. rw n (rw n at h ∙ grind arith))

pub step_else : (line : Line) (zone : Option ZoneId) (st : DirSeg) (from to s mm : ℕ) (old : Bool) → segment_of line zone st.seg.0 ≡ false
    → old ≡ (old || (segment_of line zone s && step_has (seg_len line st.seg.0) st from to s mm))
step_else line zone st from to s mm old o =
    by_test (nat_eq st.seg.0 s)
    (λ y. let e : st.seg.0 ≡ s = grind (arith, nat_tests) in let t = rw e at o in rw t (grind arith))
    (λ n. rw n (grind arith))

pub as_points : (line : Line) (zone : Option ZoneId) (p : Points) (steps : List DirSeg) (lo hi : ℕ) → p.tokens ≡ []
    → ((s mm : ℕ) → has_cell p s mm ≡ (segment_of line zone s && has_between (layout line) steps lo hi (Cell s mm)))
    → (point : Point) → set_has p point ≡ (point_of line zone point && has_between (layout line) steps lo hi point)
unfolding token_in
as_points line None p steps lo hi t h (Cell s mm) = h s mm
as_points line (Some z) p steps lo hi t h (Cell s mm) = h s mm
as_points line zone p steps lo hi t h (Token w) = rw (t, no_token line steps lo hi w) (grind arith)
