-- Steps cut at a place, where further steps stand after them; and points after other steps.
use Rattle.std.proofs.Common.{◌≡◌, ℕ, zero, suc, ◌+◌, ◌-◌, ◌<◌, ◌≤◌, true, false, List, [], ◌∷◌, ◌++◌, length, take, refl, sym, ap, ◌∙◌, arith, nat_le}
use Rattle.std.proofs.lemmas.Bool.Decides.{nat_tests}
use Rattle.std.proofs.Math.Seq.{take-append_seam}
use Rattle.std.proofs.lemmas.Bool.{and_parts}
use Rattle.list_laws.proofs.By_test.{by_test, same_bool}
use Rattle.track_points.specs.declared.ids.DirSeg.{DirSeg}
use Rattle.track_points.specs.Points.{Lengths, Layout, Point, is_at, total, cell_at, has_between, place_of_last, steps_to, offset_to}
use Rattle.track_points.proofs.Cell_here.{cell_after}
use Rattle.track_points.proofs.Points_found.{points_found, points_at}
use Rattle.way_laws.proofs.Cut_front.{cut_front}
use Rattle.way_laws.proofs.Track_front.{is_long, all_long}

-- further steps beyond the place change nothing
pub cut_more : (len : Lengths) (steps more : List DirSeg) (p : ℕ) → 0 < length steps → p ≤ total len steps → steps_to len (steps ++ more) p ≡ steps_to len steps p
unfolding steps_to total
cut_more len [] more p some h = absurd (omega arith)
cut_more len (st ∷ []) more p some h =
    let t : nat_le p (len st.seg.0) ≡ true = grind (arith, nat_tests) in rw t refl
cut_more len (st ∷ next ∷ steps) more p some h =
    by_test (nat_le p (len st.seg.0))
    (λ y. rw y refl)
    (λ n. rw n (ap (λ xs. st ∷ xs) (cut_more len (next ∷ steps) more (p - len st.seg.0) (omega arith) (omega arith))))

pub offset_more : (len : Lengths) (steps more : List DirSeg) (p : ℕ) → 0 < length steps → p ≤ total len steps → offset_to len (steps ++ more) p ≡ offset_to len steps p
unfolding offset_to total
offset_more len [] more p some h = absurd (omega arith)
offset_more len (st ∷ []) more p some h =
    let t : nat_le p (len st.seg.0) ≡ true = grind (arith, nat_tests) in rw t refl
offset_more len (st ∷ next ∷ steps) more p some h =
    by_test (nat_le p (len st.seg.0))
    (λ y. rw y refl)
    (λ n. rw n (offset_more len (next ∷ steps) more (p - len st.seg.0) (omega arith) (omega arith)))

-- cut once more at the same place
pub cut_again : (len : Lengths) (steps : List DirSeg) (p : ℕ) → steps_to len (steps_to len steps p) p ≡ steps_to len steps p
unfolding steps_to
cut_again len [] p = refl
cut_again len (st ∷ steps) p =
    by_test (nat_le p (len st.seg.0))
    (λ y. rw (y, y) refl)
    (λ n. rw (n, n) (ap (λ xs. st ∷ xs) (cut_again len steps (p - len st.seg.0))))

-- cut at a place, and again before it
pub cut_cut : (len : Lengths) (steps : List DirSeg) (p q : ℕ) → p ≤ q → steps_to len (steps_to len steps q) p ≡ steps_to len steps p
unfolding steps_to
cut_cut len [] p q h = refl
cut_cut len (st ∷ steps) p q h =
    by_test (nat_le q (len st.seg.0))
    (λ y. let t : nat_le p (len st.seg.0) ≡ true = grind (arith, nat_tests) in rw (y, t) refl)
    (λ n. by_test (nat_le p (len st.seg.0))
    (λ y. rw (n, y) refl)
    (λ m. rw (n, m) (ap (λ xs. st ∷ xs) (cut_cut len steps (p - len st.seg.0) (q - len st.seg.0) (omega arith)))))

-- the cut steps are the first ones, as many as they are
pub cut_is_take : (len : Lengths) (steps : List DirSeg) (p : ℕ) → steps_to len steps p ≡ take (length (steps_to len steps p)) steps
cut_is_take len steps p =
    let f = cut_front len steps p in
    sym (take-append_seam (steps_to len steps p) f.0) ∙ ap (take (length (steps_to len steps p))) (sym f.1)

-- a place farther on leaves no fewer
pub cut_longer : (len : Lengths) (steps : List DirSeg) (p q : ℕ) → p ≤ q → length (steps_to len steps p) ≤ length (steps_to len steps q)
unfolding steps_to
cut_longer len [] p q h = omega arith
cut_longer len (st ∷ steps) p q h =
    by_test (nat_le q (len st.seg.0))
    (λ y. let t : nat_le p (len st.seg.0) ≡ true = grind (arith, nat_tests) in rw (y, t) (omega arith))
    (λ n. by_test (nat_le p (len st.seg.0))
    (λ y. rw (n, y) (omega arith))
    (λ m. rw (n, m) (let i = cut_longer len steps (p - len st.seg.0) (q - len st.seg.0) (omega arith) in omega arith)))

-- where each step has a length, more steps than mm are enough
pub cut_enough : (len : Lengths) (steps : List DirSeg) (p n : ℕ) → all_long len steps ≡ true → p < n → steps_to len (take n steps) p ≡ steps_to len steps p
unfolding steps_to
cut_enough len steps p zero l h = absurd (omega arith)
cut_enough len [] p (suc n) l h = refl
cut_enough len (st ∷ steps) p (suc n) l h =
    let k = and_parts (is_long len st) (all_long len steps) l in
    let long = k.0 in
    by_test (nat_le p (len st.seg.0))
    (λ y. rw y refl)
    (λ x. rw x (ap (λ xs. st ∷ xs) (cut_enough len steps (p - len st.seg.0) n k.1 (grind (arith, nat_tests)))))

-- the first steps that lie before the place stay
pub cut_take : (len : Lengths) (steps : List DirSeg) (p n : ℕ) → all_long len steps ≡ true → total len (take n steps) ≤ p
    → take n (steps_to len steps p) ≡ take n steps
unfolding steps_to total
cut_take len steps p zero l h = refl
cut_take len [] p (suc n) l h = refl
cut_take len (st ∷ steps) p (suc zero) l h =
    by_test (nat_le p (len st.seg.0)) (λ y. rw y refl) (λ x. rw x refl)
cut_take len (st ∷ []) p (suc (suc n)) l h =
    by_test (nat_le p (len st.seg.0)) (λ y. rw y refl) (λ x. rw x refl)
cut_take len (st ∷ next ∷ steps) p (suc (suc n)) l h =
    let k = and_parts (is_long len st) (all_long len (next ∷ steps)) l in
    let m = and_parts (is_long len next) (all_long len steps) k.1 in
    let long = m.0 in
    let far : nat_le p (len st.seg.0) ≡ false = grind (arith, nat_tests) in
    rw far (ap (λ xs. st ∷ xs) (cut_take len (next ∷ steps) (p - len st.seg.0) (suc n) k.1 (omega arith)))

-- the place of an offset on the last step is the length of the others, and the offset
pub before_last : (len : Lengths) (steps : List DirSeg) (off : ℕ) → place_of_last len steps off ≡ total len (take (length steps - 1) steps) + off
unfolding place_of_last total
before_last len [] off = omega arith
before_last len (st ∷ []) off = omega arith
before_last len (st ∷ next ∷ steps) off =
    let one : length (next ∷ steps) - 1 ≡ length steps = omega arith in
    let two : length (st ∷ next ∷ steps) - 1 ≡ suc (length steps) = omega arith in
    let i = before_last len (next ∷ steps) off ∙ ap (λ n. total len (take n (next ∷ steps)) + off) one in
    rw two (omega arith)

-- the points of steps, after others
pub points_after : (point : Point) (layout : Layout) (before steps : List DirSeg) (lo hi : ℕ)
    → has_between layout (before ++ steps) (total layout.len before + lo) (total layout.len before + hi) point ≡ has_between layout steps lo hi point
points_after point layout before steps lo hi = same_bool _ _
    (λ x.
    let r = points_found point layout (before ++ steps) (total layout.len before + lo) (total layout.len before + hi) x in
    let f = r.from in let b = r.below in
    let e : r.place ≡ total layout.len before + (r.place - total layout.len before) = omega arith in
    let at : is_at layout point (cell_at layout.len (before ++ steps) (total layout.len before + (r.place - total layout.len before))) ≡ true = rw (← e) r.passing in
    points_at point layout steps lo hi (r.place - total layout.len before) (omega arith) (omega arith)
    (ap (is_at layout point) (sym (cell_after layout.len before steps (r.place - total layout.len before))) ∙ at))
    (λ x.
    let r = points_found point layout steps lo hi x in
    let f = r.from in let b = r.below in
    points_at point layout (before ++ steps) (total layout.len before + lo) (total layout.len before + hi) (total layout.len before + r.place) (omega arith) (omega arith)
    (rw (cell_after layout.len before steps r.place) r.passing))
