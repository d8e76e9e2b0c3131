use Rattle.std.proofs.Common.{sym, arith}
use Rattle.line_map.proofs.Segment_ok.{segment_ok}
use Rattle.line_map.proofs.line.Line.seg_len.Goals as goal

pub overflow_cast-result : goal.overflow_cast-result
overflow_cast-result c =
    let f = segment_ok c.self.inside.index c.self.invariant.valid c.args.s.0 (rw (sym c.self.view_is) at c.requires) in
    let most = f.1 in rw c.length_of.ensures (omega arith)

pub returns-clause-some : goal.returns-clause-some
returns-clause-some c =
    let f = segment_ok c.self.inside.index c.self.invariant.valid c.args.s.0 (rw (sym c.self.view_is) at c.requires) in
    rw c.length_of.ensures f.0

pub returns-clause-most : goal.returns-clause-most
returns-clause-most c =
    let f = segment_ok c.self.inside.index c.self.invariant.valid c.args.s.0 (rw (sym c.self.view_is) at c.requires) in
    rw c.length_of.ensures f.1
