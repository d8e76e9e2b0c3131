use Rattle.std.proofs.Common.{◌∙◌}
use Rattle.line_map.proofs.Tells_more.{length_told}
use Rattle.line_map.proofs.index.LineIndex.length_of.Goals as goal

pub returns : goal.returns
returns c = rw (← c.self.view_is) (c.length_of.ensures ∙ length_told c.self.inside.notes c.self.inside.items.items c.args.s c.self.invariant)
