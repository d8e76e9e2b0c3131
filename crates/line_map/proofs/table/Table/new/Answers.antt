use Rattle.std.proofs.Common.{refl}
use Rattle.line_map.proofs.All_same.{fresh}
use Rattle.line_map.proofs.table.Table.new.Goals as goal

pub returns : goal.returns
returns c =
    fresh _ 32768 refl (c.in_ok-slots.ensures.items_if_clones_equal (λ y h. h)) c.in_ok-entries.ensures.items
    c.in_ok-entries.ensures.capacity
