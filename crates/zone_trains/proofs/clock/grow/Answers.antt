use Rattle.zone_trains.proofs.Narrowed_stands.{train_grown}
use Rattle.zone_trains.proofs.clock.grow.Goals as goal

pub returns : goal.returns
returns c = train_grown c.args.clock c.args.x.now c.grow.new.self c.requires.grows (rw c.end.ensures at c.grow.ensures.hull) c.grow.ensures.at
