use Rattle.outcome_text.specs.Parts.{parts_text}
use Rattle.edge_io.proofs.Wrote_then.{then, stop}
use Rattle.outcome_text.proofs.ending.write_line.Goals as goal

pub returns-in-Ok : goal.returns-in-Ok
returns-in-Ok g c = then g.K.Sink.written g.K.Sink.faults _ _ _ c.args.word.now (parts_text c.args.parts.now c.args.last.now) _ _ c.in-Ok.ensures c.write_parts.ensures

pub returns-in-Err : goal.returns-in-Err
returns-in-Err g c = stop g.K.Sink.written g.K.Sink.faults _ _ c.args.word.now (parts_text c.args.parts.now c.args.last.now) _ c.in-Err.ensures
