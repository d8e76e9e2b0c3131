use Rattle.std.proofs.Common.{sym}
use Rattle.line_map.proofs.Tells_more.{can_note, tells_more}
use Rattle.line_map.proofs.index.LineIndex.add.Goals as goal

pub note-requires-clause-can : goal.note-requires-clause-can
note-requires-clause-can c =
    can_note c.self.inside.notes c.self.inside.items.items c.args.item.now c.self.invariant (rw (sym c.self.view_is) at c.requires)

pub invariant_of-self : goal.invariant_of-self
invariant_of-self c =
    rw c.in-Ok.ensures.items
    (tells_more c.self.inside.notes c.note.new.self c.self.inside.items.items c.args.item.now c.self.invariant
    (rw (sym c.self.view_is) at c.requires) c.note.ensures)
