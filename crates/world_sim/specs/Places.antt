-- Places of trains, by their ids.
use Rattle.std.specs.Prelude.{ℕ, zero, suc, List, slice_index_or, Option, None, Some}

-- 0 is no place, n + 1 the place n
abbrev pub place_at : ℕ → Option ℕ
place_at zero = None
place_at (suc n) = Some n

-- the place of an id; an id beyond the slots has none
abbrev pub place_of : List ℕ → ℕ → Option ℕ
place_of slots id = place_at (slice_index_or slots id 0)
