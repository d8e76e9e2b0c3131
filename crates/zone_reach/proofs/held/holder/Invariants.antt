use Rattle.std.proofs.Common.{◌≡◌, take}
use Rattle.plain_state.specs.Zone.{least_train, train_on}
use Rattle.zone_reach.proofs.held.holder.Given as goal

abbrev pub invariant-loop-other : goal.invariant-loop-other
invariant-loop-other l = l.least ≡ least_train (train_on l.line l.zone l.s.0) (take l.other-index l.trains)
