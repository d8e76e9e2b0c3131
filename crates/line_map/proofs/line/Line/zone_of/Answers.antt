use Rattle.std.proofs.Common.{sym, arith}
use Rattle.definitions.specs.Track.{zone_of}
use Rattle.line_map.proofs.Segment_ok.{segment_ok, zone_ok}
use Rattle.line_map.proofs.line.Line.zone_of.Goals as goal

pub overflow_cast-result : goal.overflow_cast-result
overflow_cast-result c =
    let line = c.self.inside.index in
    let f = segment_ok line c.self.invariant.valid c.args.s.0 (rw (sym c.self.view_is) at c.requires) in
    let z = zone_ok line c.self.invariant.valid (zone_of line c.args.s.0) f.2 in
    let most = z.1 in rw c.zone_of.ensures (omega arith)
