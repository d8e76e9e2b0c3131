use Rattle.std.proofs.Common.{◌∙◌}
use Rattle.line_map.proofs.Tells_more.{zone_told}
use Rattle.line_map.proofs.index.LineIndex.zone_of.Goals as goal

pub returns : goal.returns
returns c = rw (← c.self.view_is) (c.zone_of.ensures ∙ zone_told c.self.inside.notes c.self.inside.items.items c.args.s c.self.invariant)
