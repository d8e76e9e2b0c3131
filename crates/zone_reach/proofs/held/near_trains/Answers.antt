use Rattle.std.proofs.Common.{◌<◌, length, refl, arith}
use Rattle.definitions.specs.Track.{seg_len}
use Rattle.zone_reach.specs.Held.{near_trains}
use Rattle.zone_reach.proofs.Train_away.{trains_within}
use Rattle.zone_reach.proofs.Near_more.{near_more}
use Rattle.zone_reach.proofs.held.near_trains.Goals as goal

pub loop-other-init : goal.loop-other-init
unfolding near_trains
loop-other-init c = c.length_of-nearest.ensures.len

pub or_near_other-nearest-requires : goal.or_near_other-nearest-requires
or_near_other-nearest-requires c = rw c.loop-other.invariant (trains_within (seg_len c.args.line.now) c.args.train.0 _ c.args.step c.args.from)

pub loop-other-preserved : goal.loop-other-preserved
loop-other-preserved c =
    let l : c.loop-other.other-index < length c.args.trains.now = omega arith in
    rw (c.or_near_other-nearest.ensures, c.loop-other.invariant, near_more (seg_len c.args.line.now) c.args.train.0 c.args.trains.now c.loop-other.other-index c.other-item.result c.args.step c.args.from l c.other-item.is) refl
