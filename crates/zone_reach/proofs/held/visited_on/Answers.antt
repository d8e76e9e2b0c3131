use Rattle.zone_reach.proofs.First_held_is.{train_on_own, train_on_else}
use Rattle.zone_reach.proofs.held.visited_on.Goals as goal

pub returns-then-zone_of-zone : goal.returns-then-zone_of-zone
returns-then-zone_of-zone c =
    rw (c.near_train.ensures, c.length_of.ensures.len)
    (train_on_own c.args.line.now c.args.zone c.args.s.0 c.args.other.now (rw (← c.zone_of.ensures) c.if-zone_of-zone.true))

pub returns-else-zone_of-zone : goal.returns-else-zone_of-zone
returns-else-zone_of-zone c =
    rw c.zone_of.ensures (train_on_else c.args.line.now c.args.zone c.args.s.0 c.args.other.now (rw (← c.zone_of.ensures) c.if-zone_of-zone.false))
