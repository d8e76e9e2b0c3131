-- What an index notes of the items of a line.
use Rattle.std.specs.Prelude.{◌≡◌, ◌<◌, ◌≤◌, ◌+◌, ⊤, ℕ, Bool, false, ◌||◌, length, slice_index_or, count_by, if◌then◌else◌, Option, Some, None, is_some, unwrap_or}
use Rattle.std.specs.List.{list_any}
use Rattle.braking_table.specs.declared.table.Brake.{Brake}
use Rattle.track_points.specs.declared.ids.Dir.{Dir}
use Rattle.track_points.specs.declared.ids.Dir.TheVariants.{Up, Down}
use Rattle.definitions.specs.declared.item.End.{End}
use Rattle.definitions.specs.declared.item.Item.{Item}
use Rattle.definitions.specs.declared.item.Item.TheVariants.{Zone, Segment, Brake as Braking, Silent}
use Rattle.definitions.specs.Track.{Line, is_zone, is_segment, has_zone, has_segment, length_in, zone_in, seg_len, zone_of, is_any_brake, brake_of, is_any_silent, silent_after}
use Rattle.definitions.specs.Rules.{is_any_zone, is_any_segment}
use Rattle.line_map.specs.declared.ends.EndUse.{EndUse}
use Rattle.line_map.specs.declared.ends.EndUse.TheVariants.{Free}
use Rattle.line_map.specs.declared.table.Entry.{Entry}
use Rattle.line_map.specs.declared.notes.Notes.{Notes}
use Rattle.line_map.specs.Uses.{first_use, use_in, use_of}
use Rattle.line_map.specs.Table.{IsTable, look, end_of}

abbrev pub end_at : ℕ → Dir → End
end_at s d = record { segment = s; dir = d }

-- what the items say of a segment, where they declare it
abbrev pub entry_of : Line → ℕ → Entry
entry_of items s =
    record { zone = zone_of items s; len = seg_len items s; up = use_of items (end_at s Up); down = use_of items (end_at s Down) }

abbrev pub declared_entry : Line → ℕ → Option Entry
declared_entry items s = if has_segment items s then Some (entry_of items s) else None

abbrev pub is_noted : Notes → ℕ → Bool
is_noted n z = slice_index_or n.zones z false

abbrev pub length_from : Option Entry → ℕ
length_from None = 0
length_from (Some entry) = entry.len

abbrev pub zone_from : Option Entry → ℕ
zone_from None = 0
zone_from (Some entry) = entry.zone

abbrev pub use_from : Dir → Option Entry → EndUse
use_from d None = Free
use_from d (Some entry) = end_of entry d

-- how trains brake where no item says
abbrev pub usual_brake : Brake
usual_brake = record { ticks = 50; runaway = 0; rate = 1000 }

-- the notes say what the items do
pub record Tells (n : Notes) (items : Line) : Type 0 where
  pub zones : (z : ℕ) → is_noted n z ≡ has_zone items z
  pub zoned : n.zoned ≡ list_any is_any_zone items
  pub braking : is_some n.brake ≡ list_any is_any_brake items
  pub brake : unwrap_or n.brake usual_brake ≡ brake_of items
  pub silent : is_some n.silence ≡ list_any is_any_silent items
  pub silence : unwrap_or n.silence 5000 ≡ silent_after items
  pub segments : (s : ℕ) → look n.table s ≡ declared_entry items s
  pub count : length n.table.entries.items ≡ count_by is_any_segment items
  pub table : IsTable n.table
  pub loose : (e : End) → has_segment items e.segment ≡ false → use_of items e ≡ Free

-- one more item, in the entry of a segment
abbrev pub seen : Item → ℕ → Option Entry → Option Entry
seen i s None = if is_segment s i then Some (record { zone = zone_in i; len = length_in i; up = Free; down = Free }) else None
seen i s (Some entry) =
    Some (record entry { up = first_use entry.up (use_in (end_at s Up) i); down = first_use entry.down (use_in (end_at s Down) i) })

abbrev pub first_brake : Option Brake → Item → Option Brake
first_brake (Some b) i = Some b
first_brake None (Braking ticks runaway rate) = Some (record { ticks = ticks; runaway = runaway; rate = rate })
first_brake None _ = None

abbrev pub first_silence : Option ℕ → Item → Option ℕ
first_silence (Some ms) i = Some ms
first_silence None (Silent ms) = Some ms
first_silence None _ = None

-- one more item is noted
pub record Noted (old : Notes) (i : Item) (new : Notes) : Type 0 where
  pub zones : (z : ℕ) → is_noted new z ≡ (is_noted old z || is_zone z i)
  pub zoned : new.zoned ≡ (old.zoned || is_any_zone i)
  pub brake : new.brake ≡ first_brake old.brake i
  pub silence : new.silence ≡ first_silence old.silence i
  pub segments : (s : ℕ) → look new.table s ≡ seen i s (look old.table s)
  pub count : length new.table.entries.items ≡ length old.table.entries.items + (if is_any_segment i then 1 else 0)
  pub table : IsTable new.table

-- an item can be noted: a zone has a place, a segment an id without an entry, there is room for one more, and a brake
-- has numbers that are not too great
abbrev pub CanNote : Item → Notes → Type 0
CanNote (Zone z) n = z < 17
CanNote (Segment s z len) n = (s < 32768) × (look n.table s ≡ None) × (length n.table.entries.items < 512)
CanNote (Braking ticks runaway rate) n = (ticks ≤ 1000) × (runaway ≤ 100000) × (rate ≤ 100000)
CanNote _ n = ⊤

-- the same notes
pub record Same (old new : Notes) : Type 0 where
  pub zones : new.zones ≡ old.zones
  pub zoned : new.zoned ≡ old.zoned
  pub brake : new.brake ≡ old.brake
  pub silence : new.silence ≡ old.silence
  pub slots : new.table.slots.items ≡ old.table.slots.items
  pub entries : new.table.entries.items ≡ old.table.entries.items
  pub table : IsTable new.table
