use Rattle.run_engine.proofs.Other_text.{gives_write, gives_memory, gives_failed}
use Rattle.run_engine.proofs.output.give_up.Goals as goal

pub returns-in-Write : goal.returns-in-Write
returns-in-Write g c = gives_write g.K.Sink.written g.K.Sink.faults _ _ _ c.in-Write.is

pub returns-in-Ok : goal.returns-in-Ok
returns-in-Ok g c = gives_memory g.K.Sink.written g.K.Sink.faults _ _ _ _ _ c.in-Memory.is c.in-Ok.ensures.wrote

pub returns-in-Err : goal.returns-in-Err
returns-in-Err g c = gives_failed g.K.Sink.written g.K.Sink.faults _ _ _ _ _ c.in-Memory.is c.in-Err.ensures.wrote
