use Rattle.std.proofs.Common.{rules, true, ◌≡◌, ◌∙◌, ◌&&◌}
use Rattle.track_points.specs.Points.{end_place}
use Rattle.definitions.specs.Track.{seg_len}
use Rattle.definitions.specs.Limit.{asked_way, continues}
use Rattle.zone_reach.proofs.Reach_is.{limit_within, reach_is, bars_all}
use Rattle.zone_reach.proofs.reach.reach_from.Goals as goal

pub reach_on-requires-clause-near : goal.reach_on-requires-clause-near
reach_on-requires-clause-near c =
    let w = rw c.as_slice-steps.ensures.value at (c.as_slice-way.ensures.value ∙ c.asked_way-all.ensures) in
    let l = rw c.as_slice-steps.ensures.value at c.place_of_last-limit.ensures.place in
    rw (l, w) (limit_within (seg_len c.args.line.now) c.args.path.now c.args.asked.now (rw c.as_slice-steps.ensures.value at c.as_slice-steps.ensures.fits) c.requires.fits)

pub returns-clause-reach : goal.returns-clause-reach
returns-clause-reach c =
    let w = rw c.as_slice-steps.ensures.value at (c.as_slice-way.ensures.value ∙ c.asked_way-all.ensures) in
    let l = rw c.as_slice-steps.ensures.value at c.place_of_last-limit.ensures.place in
    let h = rw (w, l) at c.first_held.ensures.held in
    let f = rw (w, l) at c.first_closed.ensures.closed in
    let r = rw (w, l, h, f) at c.reach_on.ensures.reach in
    let t : (c.args.ready && continues c.args.line.now c.args.path.now.steps.items c.args.asked.now) ≡ true = search rules in
    let p = c.if-pending.false in
    let n = c.if-silent.false in
    rw (t, p, n) (r ∙ reach_is c.args.line.now c.args.zone c.args.bars.trains.now c.args.bars.closed.now c.args.train.0 (asked_way c.args.path.now.steps.items c.args.asked.now)
    (end_place (seg_len c.args.line.now) c.args.path.now) c.args.to)

pub returns-then-not-continues-clause-fits : goal.returns-then-not-continues-clause-fits
returns-then-not-continues-clause-fits c =
    bars_all c.args.line.now c.args.path.now c.args.asked.now _ (rw c.as_slice-steps.ensures.value at c.as_slice-steps.ensures.fits) c.requires.fits c.barred.ensures.none

pub returns-then-pending-clause-fits : goal.returns-then-pending-clause-fits
returns-then-pending-clause-fits c =
    bars_all c.args.line.now c.args.path.now c.args.asked.now _ (rw c.as_slice-steps.ensures.value at c.as_slice-steps.ensures.fits) c.requires.fits c.barred-then-pending.ensures.none

pub returns-then-silent-clause-fits : goal.returns-then-silent-clause-fits
returns-then-silent-clause-fits c =
    bars_all c.args.line.now c.args.path.now c.args.asked.now _ (rw c.as_slice-steps.ensures.value at c.as_slice-steps.ensures.fits) c.requires.fits c.barred-then-silent.ensures.none

pub returns-clause-fits : goal.returns-clause-fits
returns-clause-fits c =
    let w = rw c.as_slice-steps.ensures.value at (c.as_slice-way.ensures.value ∙ c.asked_way-all.ensures) in
    let l = rw c.as_slice-steps.ensures.value at c.place_of_last-limit.ensures.place in
    record { within = rw (w, l) at c.reach_on.ensures.within; continued = λ k. search rules; most = λ k. rw l at c.reach_on.ensures.most }
