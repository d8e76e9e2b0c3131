-- What a train keeps of its authorities, and how it decides on a further one.
use Rattle.std.specs.Prelude.{◌≡◌, ℕ, ◌+◌, ◌-◌, length, take, if◌then◌else◌, Bool, true, false, ◌&&◌, ◌||◌, not, nat_lt, nat_le, Option, Some, None}
use Rattle.track_points.specs.declared.path.Path.{Path}
use Rattle.track_points.specs.Points.{Lengths, total, end_place}
use Rattle.definitions.specs.Ways.{path_in_range}
use Rattle.onboard.specs.declared.onboard.Onboard.{Onboard}
use Rattle.onboard.specs.declared.onboard.Verdict.{Verdict}
use Rattle.onboard.specs.declared.onboard.Verdict.TheVariants.{Taken, Refused, Repeat}

-- a train without an authority
abbrev pub none_held : Onboard
none_held = record { entry = None; room = 0; last = 0; taken = false }

-- how many mm a path has; 0 where it is not in its range
abbrev pub path_mm : Lengths → Path → ℕ
path_mm len path = if path_in_range len path then end_place len path - path.from else 0

abbrev pub with_entry : Lengths → Path → Onboard → Onboard
with_entry len path o = record o { entry = Some (path_mm len path) }

abbrev pub mm_or_0 : Option ℕ → ℕ
mm_or_0 None = 0
mm_or_0 (Some mm) = mm

-- a train of a length has come on under its entry authority, which it has taken
abbrev pub come_on : ℕ → Onboard → Onboard
come_on long o = record o { room = mm_or_0 o.entry - long; last = 1; taken = true }

abbrev pub has_entered : Onboard → Bool
has_entered o = nat_lt 0 o.last

-- where the head is on a path behind so many steps, from the start of the path's first step: it has so many steps behind it
-- and is at an offset of its own
abbrev pub place_on : Lengths → ℕ → Path → ℕ → ℕ → ℕ
place_on len mark path head_mark head_off = total len (take (head_mark - mark) path.steps.items) + head_off

-- the head is on a step of the path, and between the path's ends
abbrev pub is_on : Lengths → ℕ → Path → ℕ → ℕ → Bool
is_on len mark path head_mark head_off =
    path_in_range len path
    && (nat_le mark head_mark
    && (nat_lt (head_mark - mark) (length path.steps.items)
    && (nat_le path.from (place_on len mark path head_mark head_off) && nat_le (place_on len mark path head_mark head_off) (end_place len path))))

-- how far the path's end lies ahead of the head
abbrev pub room_to : Lengths → ℕ → Path → ℕ → ℕ → ℕ
room_to len mark path head_mark head_off = end_place len path - place_on len mark path head_mark head_off

-- a new authority is taken where the head is on its path, and where the limit does not come nearer, or leaves the train the
-- mm that it needs to stop
abbrev pub takes : Lengths → ℕ → Path → ℕ → ℕ → ℕ → ℕ → Bool
takes len mark path head_mark head_off room stop =
    is_on len mark path head_mark head_off
    && (nat_le room (room_to len mark path head_mark head_off) || nat_le stop (room_to len mark path head_mark head_off))

-- the decision on a number: one that is not above the last changes nothing
abbrev pub decided : Bool → ℕ → ℕ → Onboard → Onboard
decided is_taken number room o =
    if not (nat_lt o.last number) then o
    else if is_taken then record o { room = room; last = number; taken = true }
    else record o { last = number; taken = false }

abbrev pub verdict : Bool → ℕ → Onboard → Verdict
verdict is_taken number o =
    if not (nat_lt o.last number) then Repeat o.last o.taken
    else if is_taken then Taken
    else Refused

-- how far a path's end lies ahead of a head; none where the head is not on the path
abbrev pub RoomIs : Lengths → ℕ → Path → ℕ → ℕ → Option ℕ → Type 0
RoomIs len mark path head_mark head_off (Some room) = (is_on len mark path head_mark head_off ≡ true) × (room ≡ room_to len mark path head_mark head_off)
RoomIs len mark path head_mark head_off None = is_on len mark path head_mark head_off ≡ false
