use Rattle.std.proofs.Common.{◌≡◌, arith, take}
use Rattle.track_points.specs.Points.{total}
use Rattle.definitions.specs.Track.{seg_len}
use Rattle.zone_reach.proofs.Reach_is.{stop_after, stop_within}
use Rattle.zone_reach.proofs.reach.stop_on.Goals as goal

pub returns-clause-stop : goal.returns-clause-stop
returns-clause-stop c =
    rw (c.bar_stop-barred.ensures, c.end_stop.ensures, c.total-end.ensures.len, c.total.ensures.len, c.first_steps.ensures.steps) at c.nearer.ensures

pub returns-clause-after : goal.returns-clause-after
returns-clause-after c = rw (returns-clause-stop c) (stop_after (seg_len c.args.line.now) c.args.asked.now c.args.limit c.args.to c.args.places.held c.args.places.closed)

pub returns-clause-within : goal.returns-clause-within
returns-clause-within c =
    rw (returns-clause-stop c) (stop_within (seg_len c.args.line.now) c.args.asked.now c.args.limit c.args.to c.args.places.held c.args.places.closed c.requires.some c.requires.near)

pub returns-clause-most : goal.returns-clause-most
returns-clause-most c =
    let w = returns-clause-within c in
    let l : c.total.result ≡ total (seg_len c.args.line.now) (take 24 c.args.asked.now) = rw (← c.first_steps.ensures.steps) c.total.ensures.len in
    let m = c.total.ensures.most in
    let f = c.first_steps.ensures.few in
    omega (arith, w, l, m, f)
