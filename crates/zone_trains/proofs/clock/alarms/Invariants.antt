use Rattle.std.proofs.Common.{take}
use Rattle.zone_trains.proofs.Told.{Told}
use Rattle.zone_trains.proofs.clock.alarms.Given as goal

abbrev pub invariant-loop-x : goal.invariant-loop-x
invariant-loop-x l = Told l.ms l.zone l.before l.clock (take l.x-index l.trains) l.x-index l.fn.outs l.outs
