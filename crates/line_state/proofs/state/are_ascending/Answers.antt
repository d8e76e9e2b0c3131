use Rattle.line_state.proofs.All_posted.{ends_below, goes_above, all_above}
use Rattle.line_state.proofs.state.are_ascending.Goals as goal

pub returns-then-next-last : goal.returns-then-next-last
returns-then-next-last c = ends_below c.args.train c.loop-next.last c.args.moves.now c.loop-next.next-index _ c.loop-next.invariant c.loop-next-test.true c.if-next-last.true

pub loop-next-preserved : goal.loop-next-preserved
loop-next-preserved c = goes_above c.args.train c.loop-next.last c.args.moves.now c.loop-next.next-index _ c.loop-next.invariant c.loop-next-test.true c.if-next-last.false

pub returns : goal.returns
returns c = all_above c.args.train c.loop-next.last c.args.moves.now c.loop-next.next-index (record { 0 = 0 }, 0) c.loop-next.invariant c.loop-next-test.false
