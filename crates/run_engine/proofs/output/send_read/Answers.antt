use Rattle.run_engine.proofs.Other_text.{then, stop}
use Rattle.run_engine.proofs.output.send_read.Goals as goal

pub returns-in-Ok : goal.returns-in-Ok
returns-in-Ok g c = then g.K.Sink.written g.K.Sink.faults _ _ _ _ _ _ _ _ _ _ c.in-Ok.ensures c.send_again.ensures

pub returns-in-Err : goal.returns-in-Err
returns-in-Err g c = stop g.K.Sink.written g.K.Sink.faults _ _ _ _ _ _ _ _ _ c.in-Err.ensures
