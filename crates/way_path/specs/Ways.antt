-- Ways: what holds of one, what is asked of its places, and how it changes.
use Rattle.std.specs.Prelude.{◌≡◌, ℕ, ℤ, pos, ◌+ℤ◌, ◌+◌, ◌-◌, ◌<◌, ◌≤◌, ◌^◌, Bool, true, false, ◌&&◌, List, [], ◌∷◌, ◌++◌, length, take, if◌then◌else◌, nat_eq, nat_lt, nat_le, Option, Some, None, Result, Ok, Err, ⊤}
use Rattle.track_points.specs.declared.ids.DirSeg.{DirSeg}
use Rattle.track_points.specs.declared.ids.ZoneId.{ZoneId}
use Rattle.track_points.specs.declared.path.Path.{Path}
use Rattle.track_points.specs.Points.{Lengths, Point, mm_at, total, end_place, visits, no_segment_twice}
use Rattle.definitions.specs.Track.{Line, owner, seg_len, zone_of, follows, last_step}
use Rattle.definitions.specs.Steps.{path_to}
use Rattle.definitions.specs.Ways.{PlainWay, chained, first_len, path_in_range}
use Rattle.way_path.specs.declared.way.WayFault.{WayFault}
use Rattle.way_path.specs.declared.way.WayFault.TheVariants.{NotJoined, Repeated, OutOfRange, Throats, Full}

-- a way, with the place where it ends kept beside its path
pub record PlacedWay : Type 0 where
  pub mark : ℕ
  pub path : Path
  pub end : ℕ

-- the way without that place
abbrev pub plain_way : PlacedWay → PlainWay
plain_way way = record { mark = way.mark; path = way.path }

-- the way with that place
abbrev pub with_end : Lengths → PlainWay → PlacedWay
with_end len way = record { mark = way.mark; path = way.path; end = end_place len way.path }

-- what every way is
pub record IsWay (way : PlacedWay) : Type 0 where
  pub some : 0 < length way.path.steps.items
  pub once : no_segment_twice way.path.steps.items ≡ true
  pub order : way.path.from < way.end
  pub marks : way.mark + length way.path.steps.items < 2 ^ 32

-- what holds of a way on its line: it is joined, begins on its first step, and ends on its steps
pub record OnLine (line : Line) (way : PlacedWay) : Type 0 where
  pub joined : chained line way.path.steps.items ≡ true
  pub first : way.path.from ≤ first_len (seg_len line) way.path.steps.items
  pub within : way.end ≤ total (seg_len line) way.path.steps.items

-- the way's end is that of its path; so it is unless the way was extended and its end not set since
abbrev pub EndsWithPath : Lengths → PlacedWay → Type 0
EndsWithPath len way = way.end ≡ end_place len way.path

-- the least index, from 0, of a step that does not follow the one before it
pub record NotJoinedAt (line : Line) (steps : List DirSeg) (i : ℕ) : Type 0 where
  pub there : i < length steps
  pub before : chained line (take i steps) ≡ true
  pub with_it : chained line (take (i + 1) steps) ≡ false

-- the least index, from 0, of a step whose segment an earlier step has
pub record RepeatedAt (steps : List DirSeg) (i : ℕ) : Type 0 where
  pub there : i < length steps
  pub before : no_segment_twice (take i steps) ≡ true
  pub with_it : no_segment_twice (take (i + 1) steps) ≡ false

abbrev pub FirstNotJoined : Line → List DirSeg → Option ℕ → Type 0
FirstNotJoined line steps (Some i) = NotJoinedAt line steps i
FirstNotJoined line steps None = chained line steps ≡ true

abbrev pub FirstRepeated : List DirSeg → Option ℕ → Type 0
FirstRepeated steps (Some i) = RepeatedAt steps i
FirstRepeated steps None = no_segment_twice steps ≡ true

-- where a path in its range ends
abbrev pub EndsAt : Lengths → Path → Option ℕ → Type 0
EndsAt len path (Some end) = (path_in_range len path ≡ true) × (end ≡ end_place len path) × (end ≤ total len path.steps.items)
EndsAt len path None = path_in_range len path ≡ false

-- a path with its mark: the way, or the first of the faults that it has
abbrev pub Makes : Line → ℕ → Path → Result PlacedWay WayFault → Type 0
Makes line mark path (Ok way) =
    (chained line path.steps.items ≡ true) × (no_segment_twice path.steps.items ≡ true) × (path_in_range (seg_len line) path ≡ true)
    × (way ≡ record { mark = mark; path = path; end = end_place (seg_len line) path })
Makes line mark path (Err (NotJoined i)) = NotJoinedAt line path.steps.items i
Makes line mark path (Err (Repeated i)) = (chained line path.steps.items ≡ true) × RepeatedAt path.steps.items i
Makes line mark path (Err OutOfRange) =
    (chained line path.steps.items ≡ true) × (no_segment_twice path.steps.items ≡ true) × (path_in_range (seg_len line) path ≡ false)
Makes line mark path (Err Throats) = ⊥
Makes line mark path (Err Full) = ⊥

-- the place of an offset on the journey's step of a mark; none where the way has no such step
abbrev pub place_of : Lengths → PlacedWay → ℕ → ℤ → Option ℤ
place_of len way mark off =
    if nat_le way.mark mark && nat_lt (mark - way.mark) (length way.path.steps.items)
    then Some (pos (total len (take (mark - way.mark) way.path.steps.items)) +ℤ off)
    else None

-- a way with one more step; the end stays
abbrev pub with_step : PlacedWay → DirSeg → PlacedWay
with_step way step = record {
  mark = way.mark;
  path = record { steps = record { items = way.path.steps.items ++ step ∷ [] }; from = way.path.from; to = way.path.to };
  end = way.end;
}

-- a further step: the way has it, or stays as it was and the step is refused by the first of its faults
abbrev pub Extends : Line → PlacedWay → DirSeg → Result ⊤ WayFault → PlacedWay → Type 0
Extends line old step (Ok _) new =
    (length old.path.steps.items < 24) × (follows line (last_step old.path.steps.items) step ≡ true) × (visits old.path.steps.items step.seg.0 ≡ false)
    × (new ≡ with_step old step)
Extends line old step (Err Full) new = (24 ≤ length old.path.steps.items) × (new ≡ old)
Extends line old step (Err (NotJoined i)) new =
    (length old.path.steps.items < 24) × (follows line (last_step old.path.steps.items) step ≡ false) × (i ≡ length old.path.steps.items) × (new ≡ old)
Extends line old step (Err (Repeated i)) new =
    (length old.path.steps.items < 24) × (follows line (last_step old.path.steps.items) step ≡ true) × (visits old.path.steps.items step.seg.0 ≡ true)
    × (i ≡ length old.path.steps.items) × (new ≡ old)
Extends line old step (Err OutOfRange) new = ⊥
Extends line old step (Err Throats) new = ⊥

-- a way that ends at a place of it; the steps past the place are dropped
abbrev pub ended_at : Lengths → PlacedWay → ℕ → PlacedWay
ended_at len way place = record { mark = way.mark; path = path_to len way.path.from way.path.steps.items place; end = place }

-- a way that begins at a place of it: the steps wholly before the place are dropped, and places are counted from the start
-- of what is left
pub record Dropped (len : Lengths) (old new : PlacedWay) (place mm : ℕ) : Type 0 where
  pub steps : List DirSeg
  pub split : old.path.steps.items ≡ steps ++ new.path.steps.items
  pub dropped : mm ≡ total len steps
  pub mark : new.mark ≡ old.mark + length steps
  pub from : new.path.from + mm ≡ place
  pub first : new.path.from < first_len len new.path.steps.items
  pub end : new.end + mm ≡ old.end
  pub to : new.path.to ≡ old.path.to

-- whether a step has a cell between two of its offsets
abbrev pub step_has : ℕ → DirSeg → ℕ → ℕ → ℕ → ℕ → Bool
step_has len w lo hi s mm = nat_eq w.seg.0 s && (nat_lt mm len && (nat_le lo (mm_at len w.dir mm) && nat_lt (mm_at len w.dir mm) hi))

-- whether a segment, and a point, is a zone's own; where no zone is named, each is taken
abbrev pub segment_of : Line → Option ZoneId → ℕ → Bool
segment_of line None s = true
segment_of line (Some z) s = nat_eq (zone_of line s) z.0

abbrev pub point_of : Line → Option ZoneId → Point → Bool
point_of line None point = true
point_of line (Some z) point = nat_eq (owner line point) z.0
