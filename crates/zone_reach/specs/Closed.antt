-- What is closed on an asked way.
use Rattle.std.specs.Prelude.{ℕ, List, Bool, ◌&&◌, if◌then◌else◌, min, nat_eq}
use Rattle.track_points.specs.declared.ids.DirSeg.{DirSeg}
use Rattle.definitions.specs.Track.{Line, seg_len, zone_of}
use Rattle.plain_state.specs.Zone.{closed_at}
use Rattle.zone_reach.specs.Walk.{first_place}

-- the first offset of a step, from one on, whose cell is of a closed segment of the zone's own; the length where there is none
abbrev pub closed_on : Line → ℕ → List Bool → DirSeg → ℕ → ℕ
closed_on line z closed st from =
    if nat_eq (zone_of line st.seg.0) z && closed_at closed st.seg.0 then min from (seg_len line st.seg.0) else seg_len line st.seg.0

-- the first place of some steps, from one on, that is of such a segment; their end where there is none
abbrev pub first_closed : Line → ℕ → List Bool → List DirSeg → ℕ → ℕ
first_closed line z closed asked from = first_place (seg_len line) (closed_on line z closed) asked from
