use Rattle.std.proofs.Common.{refl}
use Rattle.run_engine.proofs.Other_text.{nothing, emptied, not_emptied}
use Rattle.run_engine.proofs.output.flush_full.Goals as goal

pub returns-then-len-lt-PIECE : goal.returns-then-len-lt-PIECE
returns-then-len-lt-PIECE g c = nothing g.K.Sink.written g.K.Sink.faults _ _ _ _ refl

pub returns-in-Ok : goal.returns-in-Ok
returns-in-Ok g c = emptied g.K.Sink.written g.K.Sink.faults _ _ _ _ _ _ c.in-Ok.ensures.wrote c.in-Ok.ensures.none

pub returns-in-Err : goal.returns-in-Err
returns-in-Err g c = not_emptied g.K.Sink.written g.K.Sink.faults _ _ _ _ _ _ c.in-Err.ensures.wrote
