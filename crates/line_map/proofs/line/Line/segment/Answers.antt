use Rattle.line_map.proofs.line.Line.segment.Goals as goal

pub returns-then-k-order : goal.returns-then-k-order
returns-then-k-order c =
    let within = rw c.as_slice-order.ensures.value at c.if-k-order.true in
    rw (← c.self.view_is, c.as_slice-order.ensures.value)
    (c.self.invariant.order.declared c.args.k 0 within, c.self.invariant.order.ranks c.args.k 0 within)
