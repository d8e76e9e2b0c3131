use Rattle.std.proofs.Common.{arith}
use Rattle.definitions.specs.Track.{seg_len}
use Rattle.zone_trains.proofs.Cut_train.{cut_train}
use Rattle.zone_trains.proofs.Checked_fits.{leaves_end}
use Rattle.zone_trains.proofs.report.cut.Goals as goal

pub shift-requires-clause-leaves : goal.shift-requires-clause-leaves
shift-requires-clause-leaves c =
    let d = c.set_from-dropped.ensures.dropped.from in
    let r = c.rear-rear.ensures in
    leaves_end c.args.x.now.fronts.lo c.args.x.now.way.end c.set_from-dropped.result c.args.x.now.ledger.pending c.requires.shrink (omega arith)

pub returns-clause-next : goal.returns-clause-next
returns-clause-next c =
    rw c.shift.ensures.after
    (cut_train (seg_len c.args.line.now) c.args.x.now c.set_from-dropped.new.self c.rear-rear.result c.set_from-dropped.result c.set_from-dropped.ensures.dropped (c.set_from-dropped.ensures.end c.requires.ends) c.rear-rear.ensures)
