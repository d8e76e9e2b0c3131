use Rattle.std.proofs.Common.{refl}
use Rattle.run_engine.proofs.Other_text.{nothing, then, stop, other_text}
use Rattle.run_engine.proofs.Lines_more.{lines_more, lines_left}
use Rattle.run_engine.proofs.output.send_lines.Goals as goal

pub loop-outcome-init : goal.loop-outcome-init
loop-outcome-init g c = nothing g.K.Sink.written g.K.Sink.faults _ _ _ _ refl

pub loop-outcome-preserved : goal.loop-outcome-preserved
loop-outcome-preserved g c =
    other_text g.K.Sink.written g.K.Sink.faults _ _ _ _ _ _ _ (lines_more c.args.lines.now c.loop-outcome.outcome-index _ c.loop-outcome-test.true)
    (then g.K.Sink.written g.K.Sink.faults _ _ _ _ _ _ _ _ _ _ c.loop-outcome.invariant c.in-Ok.ensures)

pub returns-in-Err : goal.returns-in-Err
returns-in-Err g c =
    other_text g.K.Sink.written g.K.Sink.faults _ _ _ _ _ _ _ (lines_left c.args.lines.now c.loop-outcome.outcome-index _ c.loop-outcome-test.true)
    (stop g.K.Sink.written g.K.Sink.faults _ _ _ _ _ _ _ _ _ (then g.K.Sink.written g.K.Sink.faults _ _ _ _ _ _ _ _ _ _ c.loop-outcome.invariant c.in-Err.ensures))
