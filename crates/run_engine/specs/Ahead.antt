-- What lies ahead in a piece, where so many bytes are left up to the limit on the input.
use Rattle.std.specs.Prelude.{◌≡◌, ℕ, ◌≤◌, ◌<◌, List, length, take, get_or, false, Result, Ok, Err}
use Rattle.byte_feed.specs.Feed.{ends_lf}
use Rattle.run_engine.specs.declared.feed.Ahead.{Ahead}
use Rattle.run_engine.specs.declared.feed.Ahead.TheVariants.{Line, Run, Past}

-- a text line ends at a place; or none ends, and all is within the limit; or one goes on past it
abbrev pub LiesAhead : ℕ → List ℕ → Ahead → Type 0
LiesAhead left rest (Line at) = (at < length rest) × (at < left) × (ends_lf (take at rest) ≡ false) × (get_or rest at 0 ≡ 10)
LiesAhead left rest Run = (length rest ≤ left) × (ends_lf rest ≡ false)
LiesAhead left rest Past = (left < length rest) × (ends_lf (take left rest) ≡ false)

-- what was taken of the rest of a piece: so many bytes, or all that a fault ends
abbrev pub taken : {E : Type 0} → List ℕ → Result ℕ E → List ℕ
taken rest (Ok count) = take count rest
taken rest (Err fault) = rest
