use Rattle.std.proofs.Common.{◌≡◌, take}
use Rattle.definitions.specs.Track.{seg_len}
use Rattle.zone_reach.specs.Held.{near_trains}
use Rattle.zone_reach.proofs.held.near_trains.Given as goal

abbrev pub invariant-loop-other : goal.invariant-loop-other
invariant-loop-other l = l.nearest ≡ near_trains (seg_len l.line) l.train.0 (take l.other-index l.trains) l.step l.from
