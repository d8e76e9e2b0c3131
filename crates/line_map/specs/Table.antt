-- Segments by their ids.
use Rattle.std.specs.Prelude.{◌≡◌, ◌≤◌, ◌<◌, ℕ, zero, suc, List, length, slice_index_or, nat_eq, if◌then◌else◌, Option, None, Some}
use Rattle.std.specs.List.{slice_get}
use Rattle.std.specs.Vec.{vec_capacity}
use Rattle.track_points.specs.declared.ids.Dir.{Dir}
use Rattle.track_points.specs.declared.ids.Dir.TheVariants.{Up, Down}
use Rattle.definitions.specs.declared.item.End.{End}
use Rattle.line_map.specs.declared.ends.EndUse.{EndUse}
use Rattle.line_map.specs.declared.table.Entry.{Entry}
use Rattle.line_map.specs.declared.table.Table.{Table}
use Rattle.line_map.specs.Uses.{first_use}

abbrev pub slot_of : Table → ℕ → ℕ
slot_of t id = slice_index_or t.slots.items id 0

-- slot 0 has no entry, slot n + 1 the n-th
abbrev pub at_slot : List Entry → ℕ → Option Entry
at_slot entries zero = None
at_slot entries (suc n) = slice_get entries n

-- the entry of an id
abbrev pub look : Table → ℕ → Option Entry
look t id = at_slot t.entries.items (slot_of t id)

-- each id has a slot, no two ids one entry, and there is room for 512 entries
pub record IsTable (t : Table) : Type 0 where
  pub ids : length t.slots.items ≡ 32768
  pub within : (s : ℕ) → slot_of t s ≤ length t.entries.items
  pub apart : (s x : ℕ) → 0 < slot_of t s → slot_of t s ≡ slot_of t x → s ≡ x
  pub room : 512 ≤ vec_capacity t.entries
  pub few : length t.entries.items ≤ 512

pub record IsFresh (t : Table) : Type 0 where
  pub table : IsTable t
  pub none : (s : ℕ) → look t s ≡ None
  pub count : length t.entries.items ≡ 0

-- an id has an entry, and all others are as before
pub record Puts (old : Table) (id : ℕ) (entry : Entry) (new : Table) : Type 0 where
  pub table : IsTable new
  pub looks : (s : ℕ) → look new s ≡ (if nat_eq id s then Some entry else look old s)

abbrev pub end_of : Entry → Dir → EndUse
end_of entry Up = entry.up
end_of entry Down = entry.down

-- one more use of an end
abbrev pub with_use : Dir → EndUse → Entry → Entry
with_use Up used entry = record entry { up = first_use entry.up used }
with_use Down used entry = record entry { down = first_use entry.down used }

-- one more use of an end, among the entries of all segments
abbrev pub used_at : End → EndUse → ℕ → Option Entry → Option Entry
used_at e used s None = None
used_at e used s (Some entry) = if nat_eq e.segment s then Some (with_use e.dir used entry) else Some entry
