use Rattle.std.proofs.Common.{◌≡◌, take, true}
use Rattle.definitions.specs.Ways.{chained}
use Rattle.way_path.proofs.on_steps.not_joined.Given as goal

abbrev pub invariant-loop-i : goal.invariant-loop-i
invariant-loop-i l = chained l.line (take l.i l.steps) ≡ true
