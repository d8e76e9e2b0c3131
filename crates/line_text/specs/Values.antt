-- The values that the forms with lists can have.
use Rattle.std.specs.Prelude.{◌≡◌, ℕ, ◌≤◌, List, length}

-- the ranges of a section and the segments of a block have room
abbrev pub HasRoom : ℕ → List ℕ → Type 0
HasRoom i vs = (i ≡ 6 → length vs ≤ 10) × (i ≡ 7 → length vs ≤ 18)
