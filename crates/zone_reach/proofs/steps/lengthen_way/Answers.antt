use Rattle.std.proofs.Common.{arith}
use Rattle.definitions.specs.Track.{seg_len}
use Rattle.zone_reach.proofs.Longer_is.{longer_is}
use Rattle.zone_reach.proofs.steps.lengthen_way.Goals as goal

pub returns-clause-way : goal.returns-clause-way
returns-clause-way c =
    let s = rw (c.further-more.ensures.steps, c.as_slice.ensures.value, c.path.ensures.path) at c.extend_by.ensures.way in
    let n = rw s at c.set_end.ensures.ended in
    let e = c.end.ensures in let h = c.requires.ends in
    longer_is (seg_len c.args.line.now) c.args.way.now c.set_end.new.self c.args.asked.now c.args.distance _ (omega arith) n c.requires.reaches.within c.set_end.ensures.end
