use Rattle.std.proofs.Common.{take, Ok}
use Rattle.definitions.specs.Endings.{outcomes_text}
use Rattle.run_engine.specs.Sends.{Sends}
use Rattle.run_engine.proofs.output.send_lines.Given as goal

abbrev pub invariant-loop-outcome : goal.invariant-loop-outcome
invariant-loop-outcome g l = Sends {X = Unit {0}} g.K.Sink.written g.K.Sink.faults l.fn.sink l.sink l.fn.pending.text l.pending.text (outcomes_text (take l.outcome-index l.lines)) (Ok tt)
