use Rattle.std.proofs.Common.{◌<◌, length, refl, arith}
use Rattle.plain_state.specs.Zone.{least_train, train_on}
use Rattle.zone_reach.proofs.Near_more.{least_more}
use Rattle.zone_reach.proofs.held.holder.Goals as goal

pub loop-other-init : goal.loop-other-init
unfolding least_train
loop-other-init c = refl

pub loop-other-preserved : goal.loop-other-preserved
loop-other-preserved c =
    let l : c.loop-other.other-index < length c.args.trains.now = omega arith in
    rw (c.or_holder-least.ensures, c.loop-other.invariant, least_more (train_on c.args.line.now c.args.zone c.args.s.0) c.args.trains.now c.loop-other.other-index c.other-item.result l c.other-item.is) refl
