use Rattle.std.proofs.Common.{arith}
use Rattle.run_engine.proofs.Known_more.{known_none}
use Rattle.run_engine.proofs.check.KnownTrains.new.Goals as goal

pub invariant_of-result : goal.invariant_of-result
invariant_of-result c =
    let made = c.in_ok-with_capacity.ensures in
    (known_none _ _ c.in_ok-new.ensures made.items, rw made.items (omega arith), made.capacity)
