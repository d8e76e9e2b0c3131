-- Reading a word and digits in the order in which the code does it.
use Rattle.std.specs.Char.{is_ascii_digit}
use Rattle.std.specs.Prelude.{ℕ, zero, suc, ◌+◌, ◌-◌, ◌*◌, List, [], ◌∷◌, length, if◌then◌else◌, nat_eq, max}
use Rattle.text_forms.specs.Reading.{common}

-- the place of the first word that the text begins with, or how many there are
unfoldable pub find_at : List (List ℕ) → List ℕ → ℕ
find_at [] u = 0
find_at (w ∷ ws) u = if nat_eq (common w u) (length w) then 0 else suc (find_at ws u)

-- the most that is in common
unfoldable pub best_of : ℕ → List (List ℕ) → List ℕ → ℕ
best_of longest [] u = longest
best_of longest (w ∷ ws) u = best_of (max longest (common w u)) ws u

-- 16 times the number, and how many digits were read after it
unfoldable pub digits_packed : ℕ → ℕ → ℕ → List ℕ → ℕ
digits_packed n count k [] = 16 * n + count
digits_packed n count zero (b ∷ bytes) = 16 * n + count
digits_packed n count (suc k) (b ∷ bytes) = if is_ascii_digit b then digits_packed (10 * n + (b - 48)) (suc count) k bytes else 16 * n + count
