-- What a report does, by its train.
use Rattle.std.proofs.Common.{◌≡◌, ℕ, true, false, Some, None}
use Rattle.std.specs.Prelude.{ℤ}
use Rattle.std.proofs.lemmas.Option.{same_Some}
use Rattle.list_laws.proofs.By_test.{by_test}
use Rattle.track_points.specs.Points.{Lengths}
use Rattle.way_path.specs.Ways.{PlacedWay, plain_way, place_of}
use Rattle.plain_state.specs.Zone.{has_mark, reported_place}

-- a place on the way is there where the way has the step
pub marked : (len : Lengths) (way : PlacedWay) (mark : ℕ) (offset place : ℤ) → place_of len way mark offset ≡ Some place
    → (has_mark (plain_way way) mark ≡ true) × (reported_place len (plain_way way) mark offset ≡ place)
marked len way mark offset place h =
    by_test (has_mark (plain_way way) mark)
    (λ y. (y, same_Some (reported_place len (plain_way way) mark offset) place (rw y at h)))
    (λ n. absurd (let z : None ≡ Some place = rw n at h in cc))

pub not_marked : (len : Lengths) (way : PlacedWay) (mark : ℕ) (offset : ℤ) → place_of len way mark offset ≡ None → has_mark (plain_way way) mark ≡ false
not_marked len way mark offset h =
    by_test (has_mark (plain_way way) mark)
    (λ y. absurd (let z : Some (reported_place len (plain_way way) mark offset) ≡ None = rw y at h in cc))
    (λ n. n)
