-- A short order changes nothing of a train but its ledger.
use Rattle.std.proofs.Common.{◌≡◌, ℕ, ◌&&◌, Option, Some, None, refl, nat_lt, nat_le}
use Rattle.std.specs.Prelude.{is_none}
use Rattle.list_laws.proofs.By_test.{by_test}
use Rattle.track_points.specs.declared.ids.DirSeg.{DirSeg}
use Rattle.track_points.specs.Points.{Lengths, end_place}
use Rattle.definitions.specs.Steps.{place_of_step}
use Rattle.plain_state.specs.declared.Controlled.{Controlled}
use Rattle.plain_state.specs.Zone.{shortened, shortened_to}

-- the same train, on the same way
pub record SameTrain (x y : Controlled) : Type 0 where
  pub id : y.id ≡ x.id
  pub way : y.way ≡ x.way
  pub report : y.report ≡ x.report

same_to : (len : Lengths) (p : Option ℕ) (x : Controlled) → SameTrain x (shortened_to len p x)
same_to len None x = record { id = refl; way = refl; report = refl }
same_to len (Some p) x =
    by_test (nat_le x.fronts.hi p && nat_lt p (end_place len x.way.path))
    (λ y. rw y record { id = refl; way = refl; report = refl })
    (λ n. rw n record { id = refl; way = refl; report = refl })

pub shortened_same : (len : Lengths) (st : DirSeg) (off : ℕ) (x : Controlled) → SameTrain x (shortened len st off x)
shortened_same len st off x =
    by_test (x.equipped && is_none x.ledger.pending)
    (λ y. rw y (same_to len (place_of_step len x.way.path.steps.items st off) x))
    (λ n. rw n record { id = refl; way = refl; report = refl })
