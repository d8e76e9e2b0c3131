use Rattle.std.proofs.Common.{[], append-nil}
use Rattle.run_engine.proofs.Other_text.{then, other_text, buffered, buffer_full}
use Rattle.run_engine.proofs.output.send_text.Goals as goal

pub returns-in-Ok : goal.returns-in-Ok
returns-in-Ok g c =
    let text = c.args.text.now in
    other_text g.K.Sink.written g.K.Sink.faults _ _ _ _ _ _ _ (append-nil text)
    (then g.K.Sink.written g.K.Sink.faults _ _ _ _ _ _ text [] (tt {0}) _ (buffered g.K.Sink.written g.K.Sink.faults c.args.sink.now c.args.pending.now c.write_text.new.sink text _ (tt {0}) c.in-Ok.ensures) c.flush_full.ensures)

pub returns-in-Err : goal.returns-in-Err
returns-in-Err g c = buffer_full g.K.Sink.written g.K.Sink.faults _ _ _ _ _ _ c.in-Err.ensures
