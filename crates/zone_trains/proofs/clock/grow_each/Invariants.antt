use Rattle.std.proofs.Common.{◌≡◌, ◌++◌, map, take, drop}
use Rattle.plain_state.specs.Zone.{grown_train}
use Rattle.zone_trains.proofs.clock.grow_each.Given as goal

abbrev pub invariant-loop-i : goal.invariant-loop-i
invariant-loop-i l = l.trains ≡ map (grown_train l.clock) (take l.i l.initial.trains) ++ drop l.i l.initial.trains
