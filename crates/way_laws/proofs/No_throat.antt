-- No cell of a line lies in a throat, as no item declares a switch. All that follows from it follows from `no_throat`.
use Rattle.std.proofs.Common.{◌≡◌, ℕ, Bool, false, List, Option, Some, None, refl, sym, ◌∙◌}
use Rattle.list_laws.proofs.By_test.{by_test}
use Rattle.track_points.specs.declared.ids.DirSeg.{DirSeg}
use Rattle.track_points.specs.Points.{Point, Cell, Token, is_at, cell_at, has_between}
use Rattle.track_points.proofs.Points_found.{points_found}
use Rattle.definitions.specs.Track.{Line, throat_at, seg_len, layout}
use Rattle.definitions.specs.Limit.{cell_passes}

pub no_throat : (line : Line) (s mm : ℕ) → throat_at line s mm ≡ None
unfolding throat_at
no_throat line s mm = refl

-- so no token is at a place, nor between two
pub token_nowhere : (line : Line) (w : ℕ) (cell : Option Point) → is_at (layout line) (Token w) cell ≡ false
token_nowhere line w None = refl
token_nowhere line w (Some (Token v)) = refl
token_nowhere line w (Some (Cell s mm)) = rw (no_throat line s mm) refl

pub no_token : (line : Line) (steps : List DirSeg) (lo hi w : ℕ) → has_between (layout line) steps lo hi (Token w) ≡ false
no_token line steps lo hi w =
    by_test (has_between (layout line) steps lo hi (Token w))
    (λ y. let r = points_found (Token w) (layout line) steps lo hi y in
    absurd (let e = sym (token_nowhere line w (cell_at (seg_len line) steps r.place)) ∙ r.passing in cc))
    (λ n. n)

-- and a cell passes a test by itself alone
pub cell_alone : (line : Line) (test : Point → Bool) (s mm : ℕ) → cell_passes (layout line) test s mm ≡ test (Cell s mm)
cell_alone line test s mm = rw (no_throat line s mm) refl
