-- Ordinals that are named lost.
use Rattle.std.specs.Prelude.{ℕ, List, length, set, slice_index_or, Bool, true, false, if◌then◌else◌, nat_lt}

abbrev pub lost_at : List Bool → ℕ → Bool
lost_at lost number = slice_index_or lost number false

abbrev pub marked : ℕ → List Bool → List Bool
marked number lost = if nat_lt number (length lost) then set lost number true else lost
