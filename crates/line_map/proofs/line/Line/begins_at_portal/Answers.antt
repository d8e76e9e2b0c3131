use Rattle.std.proofs.Common.{sym, ◌∙◌}
use Rattle.line_map.proofs.Segment_ok.{portal_declared}
use Rattle.line_map.proofs.Follows_is.{begins_is}
use Rattle.line_map.proofs.line.Line.begins_at_portal.Goals as goal

pub returns-clause-begins : goal.returns-clause-begins
returns-clause-begins c =
    rw (c.is_portal_use.ensures, c.use_of.ensures, c.entrance_end.ensures, ← c.self.view_is)
    (sym (begins_is c.self.inside.index c.args.step c.self.invariant.valid))

pub returns-clause-declared : goal.returns-clause-declared
returns-clause-declared c h =
    let p = rw (c.is_portal_use.ensures, c.use_of.ensures, c.entrance_end.ensures) at h in
    rw (← c.self.view_is)
    (portal_declared c.self.inside.index c.self.invariant.valid c.args.step (begins_is c.self.inside.index c.args.step c.self.invariant.valid ∙ p))
