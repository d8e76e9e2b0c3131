use Rattle.std.proofs.Common.{drop}
use Rattle.world_sim.proofs.Event_stays.{Going}
use Rattle.world_sim.proofs.world.World.go.Given as goal

abbrev pub invariant-loop-train : goal.invariant-loop-train
invariant-loop-train l = Going l.line l.ms l.moves (drop l.train-index l.moves) l.fn.self l.self
