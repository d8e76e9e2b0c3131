use Rattle.run_engine.specs.Shown.{reading_shown, Small}
use Rattle.cbtc_tests.proofs.tests.system.read.Given as goal

abbrev pub invariant-loop-text : goal.invariant-loop-text
invariant-loop-text g l = Small (reading_shown l.reading)
