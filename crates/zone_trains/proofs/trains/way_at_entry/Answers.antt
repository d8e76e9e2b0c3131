use Rattle.track_points.specs.Points.{place_of_last}
use Rattle.zone_trains.proofs.Found_is.{entry_makes}
use Rattle.zone_trains.proofs.trains.way_at_entry.Goals as goal

pub unreachable-requires : goal.unreachable-requires
unreachable-requires c =
    let m = rw c.entry_path-path.ensures at c.of_path.ensures.makes in
    let e = entry_makes c.args.line.now c.args.step c.args.room c.of_path.result c.requires.room c.requires.some m in
    c.in_default.not-Ok e.0 e.1

pub returns-clause-way : goal.returns-clause-way
unfolding place_of_last
returns-clause-way c =
    let m = rw c.entry_path-path.ensures at c.in-Ok.ensures.makes in m.3
