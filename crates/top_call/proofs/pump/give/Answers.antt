use Rattle.top_call.proofs.Midway_more.{run_nothing}
use Rattle.top_call.proofs.pump.give.Goals as goal

pub returns-in-Err-clause-ran : goal.returns-in-Err-clause-ran
returns-in-Err-clause-ran g c = run_nothing _ _ _
