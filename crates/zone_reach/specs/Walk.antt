-- A walk over the steps of an asked way.
use Rattle.std.specs.Prelude.{ℕ, ◌+◌, ◌-◌, List, [], ◌∷◌, if◌then◌else◌, nat_lt}
use Rattle.track_points.specs.declared.ids.DirSeg.{DirSeg}
use Rattle.track_points.specs.Points.{Lengths}

-- The first place of some steps, from one on, by the first such offset of each step from one on, which is its length where
-- the step has none; the end of the steps where there is none.
unfoldable pub first_place : Lengths → (DirSeg → ℕ → ℕ) → List DirSeg → ℕ → ℕ
first_place len near [] from = 0
first_place len near (st ∷ asked) from =
    if nat_lt (near st from) (len st.seg.0) then near st from else len st.seg.0 + first_place len near asked (from - len st.seg.0)
