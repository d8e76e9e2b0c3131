use Rattle.std.proofs.Common.{◌+◌}
use Rattle.world_sim.proofs.Stands_on.{Stands}
use Rattle.world_sim.proofs.trains.moved.Given as goal

abbrev pub invariant-loop-place : goal.invariant-loop-place
invariant-loop-place l = Stands l.line l.fn.head.step l.fn.head.mark (l.fn.head.offset + l.fn.mm) l.step l.mark l.place

abbrev pub decreases-loop-place : goal.decreases-loop-place
decreases-loop-place l = l.place
