use Rattle.std.proofs.Common.{◌≡◌, drop}
use Rattle.definitions.specs.Premises.{ascending}
use Rattle.line_state.proofs.state.are_ascending.Given as goal

abbrev pub invariant-loop-next : goal.invariant-loop-next
invariant-loop-next l = ascending l.last (drop l.next-index l.moves) ≡ ascending l.train l.moves
