use Rattle.std.proofs.Common.{◌≡◌, ◌-◌, arith}
use Rattle.definitions.specs.Track.{seg_len}
use Rattle.way_laws.proofs.Rear_after.{rear_only, front_only}
use Rattle.zone_trains.proofs.report.tell_place.Goals as goal

pub returns : goal.returns
returns c =
    let len = seg_len c.args.line.now in
    let steps = c.args.x.now.way.path.steps.items in
    let e : c.args.x.now.fronts.lo - c.args.x.now.train_length ≡ c.rear.result = let h = c.rear.ensures in omega arith in
    let r = rear_only len steps c.rear.result c.rear_at-rear_offset.result.0 c.rear_at-rear_offset.result.1 c.rear_at-rear_offset.ensures in
    let f = front_only len steps c.args.x.now.fronts.hi c.front_at-front_offset.result.0 c.front_at-front_offset.result.1 c.front_at-front_offset.ensures in
    rw (e, r, f) (rw c.requires.empty at c.tell.ensures)
