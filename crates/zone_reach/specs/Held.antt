-- What is held for other trains, by walks over the steps of the ways.
use Rattle.std.specs.Prelude.{ℕ, ◌-◌, List, [], ◌∷◌, if◌then◌else◌, min, max, nat_eq, nat_lt}
use Rattle.track_points.specs.declared.ids.Dir.{Dir}
use Rattle.track_points.specs.declared.ids.Dir.TheVariants.{Up, Down}
use Rattle.track_points.specs.declared.ids.DirSeg.{DirSeg}
use Rattle.track_points.specs.Points.{Lengths, end_place}
use Rattle.definitions.specs.Track.{Line, seg_len, zone_of}
use Rattle.plain_state.specs.declared.Controlled.{Controlled}
use Rattle.zone_reach.specs.declared.held.Cells.{Cells}
use Rattle.zone_reach.specs.Walk.{first_place}

-- the cells that a step passes from one offset to below another
abbrev pub cells_on : ℕ → Dir → ℕ → ℕ → Cells
cells_on len Up lo hi = record { lo = lo; hi = min hi len }
cells_on len Down lo hi = record { lo = len - hi; hi = len - lo }

abbrev pub first_from : ℕ → ℕ → ℕ → ℕ
first_from len start end = if nat_lt start end then start else len

-- the first offset of a step, from one on, whose cell is among these; the length where there is none
abbrev pub first_in : ℕ → Dir → Cells → ℕ → ℕ
first_in len Up cells from = first_from len (max from cells.lo) cells.hi
first_in len Down cells from = first_from len (max from (len - cells.hi)) (len - cells.lo)

-- the same of the cells that a step of a way covers between two of its offsets
abbrev pub near_step : Lengths → DirSeg → ℕ → ℕ → DirSeg → ℕ → ℕ
near_step len w lo hi st from =
    if nat_eq w.seg.0 st.seg.0 then first_in (len st.seg.0) st.dir (cells_on (len st.seg.0) w.dir lo hi) from else len st.seg.0

-- the same of the cells of some steps between two places
unfoldable pub near_steps : Lengths → List DirSeg → ℕ → ℕ → DirSeg → ℕ → ℕ
near_steps len [] lo hi st from = len st.seg.0
near_steps len (w ∷ steps) lo hi st from = min (near_step len w lo hi st from) (near_steps len steps (lo - len w.seg.0) (hi - len w.seg.0) st from)

abbrev pub near_train : Lengths → Controlled → DirSeg → ℕ → ℕ
near_train len x st from = near_steps len x.way.path.steps.items x.way.path.from (end_place len x.way.path) st from

-- the same of the ways of the other trains
unfoldable pub near_trains : Lengths → ℕ → List Controlled → DirSeg → ℕ → ℕ
near_trains len t [] st from = len st.seg.0
near_trains len t (x ∷ trains) st from = if nat_eq x.id.0 t then near_trains len t trains st from else min (near_train len x st from) (near_trains len t trains st from)

-- the same of the zone's own cells
abbrev pub near_on : Line → ℕ → List Controlled → ℕ → DirSeg → ℕ → ℕ
near_on line z trains t st from = if nat_eq (zone_of line st.seg.0) z then near_trains (seg_len line) t trains st from else seg_len line st.seg.0

-- the first place of some steps, from one on, that is held for another train; their end where there is none
abbrev pub first_held : Line → ℕ → List Controlled → ℕ → List DirSeg → ℕ → ℕ
first_held line z trains t asked from = first_place (seg_len line) (near_on line z trains t) asked from
