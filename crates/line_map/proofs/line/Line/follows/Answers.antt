use Rattle.std.proofs.Common.{sym}
use Rattle.line_map.proofs.Follows_is.{follows_is}
use Rattle.line_map.proofs.line.Line.follows.Goals as goal

pub returns : goal.returns
returns c =
    rw (c.joins_with.ensures, c.use_of.ensures, c.exit_end.ensures, c.entrance_end.ensures, ← c.self.view_is)
    (sym (follows_is c.self.inside.index c.args.a c.args.b c.self.invariant.valid))
