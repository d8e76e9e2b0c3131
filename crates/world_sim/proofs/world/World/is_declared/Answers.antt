use Rattle.std.proofs.Common.{◌∙◌}
use Rattle.world_sim.proofs.Changed_is.{placed_is}
use Rattle.world_sim.proofs.world.World.is_declared.Goals as goal

pub returns : goal.returns
returns c = c.is_some.ensures ∙ placed_is c.args.train.0 c.args.self.now.trains c.place.result c.place.ensures.first
