-- A time that is not later changes nothing of a zone.
use Rattle.std.proofs.Common.{◌≡◌, ℕ, ◌≤◌, max, refl, arith}
use Rattle.zone_trains.specs.Trains.{AllCanGrow}
use Rattle.zone_state.specs.Zone.{ZoneKept, passed}
use Rattle.zone_trains.proofs.Narrowed_stands.{none_grown}

pub none_passes : (time : ℕ) (z : ZoneKept) → time ≤ z.plain.clock → AllCanGrow z.plain.clock z.plain.trains → z ≡ passed time z
none_passes time z l g = let m : max z.plain.clock time ≡ z.plain.clock = omega arith in rw (m, none_grown z.plain.clock z.plain.trains g) refl
