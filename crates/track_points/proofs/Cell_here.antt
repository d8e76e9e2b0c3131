-- Places on steps.
use Rattle.std.proofs.Common.{◌≡◌, ℕ, ◌+◌, ◌-◌, ◌<◌, ◌≤◌, true, false, List, [], ◌∷◌, ◌++◌, Some, None, refl, arith, nat_lt}
use Rattle.std.proofs.lemmas.Bool.Decides.{nat_tests}
use Rattle.list_laws.proofs.By_test.{by_test}
use Rattle.track_points.specs.declared.ids.DirSeg.{DirSeg}
use Rattle.track_points.specs.Points.{Lengths, Cell, mm_at, total, cell_at}

-- the cell on the first step, and beyond it
pub cell_here : (len : Lengths) (st : DirSeg) (steps : List DirSeg) (p : ℕ) → p < len st.seg.0
    → cell_at len (st ∷ steps) p ≡ Some (Cell st.seg.0 (mm_at (len st.seg.0) st.dir p))
unfolding cell_at
cell_here len st steps p h = let t : nat_lt p (len st.seg.0) ≡ true = grind (arith, nat_tests) in rw t refl

pub cell_beyond : (len : Lengths) (st : DirSeg) (steps : List DirSeg) (p : ℕ) → len st.seg.0 ≤ p
    → cell_at len (st ∷ steps) p ≡ cell_at len steps (p - len st.seg.0)
unfolding cell_at
cell_beyond len st steps p h = let t : nat_lt p (len st.seg.0) ≡ false = grind (arith, nat_tests) in rw t refl

-- no cell beyond the end
pub cell_none : (len : Lengths) (steps : List DirSeg) (p : ℕ) → total len steps ≤ p → cell_at len steps p ≡ None
unfolding cell_at total
cell_none len [] p h = refl
cell_none len (st ∷ steps) p h =
    let t : nat_lt p (len st.seg.0) ≡ false = grind (arith, nat_tests) in
    rw t (cell_none len steps (p - len st.seg.0) (omega arith))

-- a journey is steps before and steps after
pub cell_after : (len : Lengths) (before steps : List DirSeg) (p : ℕ) → cell_at len (before ++ steps) (total len before + p) ≡ cell_at len steps p
unfolding cell_at total
cell_after len [] steps p = let e : 0 + p ≡ p = omega arith in rw e refl
cell_after len (st ∷ before) steps p =
    let t : nat_lt (len st.seg.0 + total len before + p) (len st.seg.0) ≡ false = grind (arith, nat_tests) in
    let e : len st.seg.0 + total len before + p - len st.seg.0 ≡ total len before + p = omega arith in
    rw (t, e) (cell_after len before steps p)

pub cell_within : (len : Lengths) (before steps : List DirSeg) (p : ℕ) → p < total len before → cell_at len (before ++ steps) p ≡ cell_at len before p
unfolding cell_at total
cell_within len [] steps p h = absurd (omega arith)
cell_within len (st ∷ before) steps p h =
    by_test (nat_lt p (len st.seg.0))
    (λ y. rw y refl)
    (λ x. rw x (cell_within len before steps (p - len st.seg.0) (grind (arith, nat_tests))))
