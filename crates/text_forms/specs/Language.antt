-- Where a text leaves a language: its column.
use Rattle.std.specs.Prelude.{◌≡◌, ℕ, ◌+◌, ◌-◌, ◌≤◌, ◌<◌, ◌⊎◌, List, ◌++◌, length, take}

-- some text of the language begins so
abbrev pub Continues : (List ℕ → Type 0) → List ℕ → Type 0
Continues L front = (more : List ℕ) × L (front ++ more)

-- the place, from 1, of the first byte at which no text of the language continues; the end of the text counts as a byte
pub record IsColumn (L : List ℕ → Type 0) (text : List ℕ) (column : ℕ) : Type 0 where
  pub from : 1 ≤ column
  pub to : column ≤ length text + 1
  pub before : Continues L (take (column - 1) text)
  pub byte : column ≤ length text → Continues L (take column text) → ⊥
  pub end : column ≡ length text + 1 → L text → ⊥

-- a text may have so many bytes
abbrev pub most_bytes : ℕ
most_bytes = 4096

-- a text is refused at this column: the language ends there, or it continues so far and the text is too long
abbrev pub IsRefused : (List ℕ → Type 0) → List ℕ → ℕ → Type 0
IsRefused L text column =
    ((column ≤ most_bytes + 1) × IsColumn L text column)
    ⊎ ((column ≡ most_bytes + 1) × (most_bytes < length text) × Continues L (take most_bytes text))
