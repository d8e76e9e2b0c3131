use Rattle.std.proofs.Common.{◌<◌, length, arith}
use Rattle.world_sim.proofs.Event_stays.{goes_on}
use Rattle.world_sim.proofs.world.World.go.Goals as goal

pub loop-train-preserved : goal.loop-train-preserved
loop-train-preserved c =
    let l : c.loop-train.train-index < length c.args.moves.now = omega arith in
    goes_on c.args.line.now c.args.ms c.args.moves.now c.loop-train.train-index _ c.args.self.now c.loop-train.self c.move_on.new.self c.requires.valid l c.loop-train.invariant c.move_on.ensures
