-- What a take of the zone gives.
use Rattle.std.proofs.Common.{◌≡◌, ℕ, zero, suc, ◌<◌, refl, arith, Some}
use Rattle.definitions.specs.declared.message.Msg.{Msg}
use Rattle.definitions.specs.Track.{Line}
use Rattle.plain_state.specs.Zone.{zone_take_effect, zone_take_next}
use Rattle.plain_state.specs.Plain.{taken_effect}
use Rattle.line_state.specs.State.{Parts, plain_of, zone_moved, parts_taken}

pub zone_effect : (line : Line) (k : Parts) (to from : ℕ) (m : Msg) → 0 < to → taken_effect line (plain_of k) to from (Some m) ≡ zone_take_effect line k.zone from m
zone_effect line k zero from m h = absurd (omega arith)
zone_effect line k (suc z) from m h = refl

pub zone_next : (line : Line) (k : Parts) (to from : ℕ) (m : Msg) → 0 < to
    → parts_taken line k to from (Some m) ≡ zone_moved k (zone_take_next line k.zone from m) (zone_take_effect line k.zone from m)
zone_next line k zero from m h = absurd (omega arith)
zone_next line k (suc z) from m h = refl
