use Rattle.std.specs.Fmt.{decimal}
use Rattle.edge_io.proofs.Wrote_then.{then, stop}
use Rattle.outcome_text.proofs.ending.write_named.Goals as goal

pub returns-in-Ok : goal.returns-in-Ok
returns-in-Ok g c = then g.K.Sink.written g.K.Sink.faults _ _ _ c.args.word.now (decimal c.args.n) _ _ c.in-Ok.ensures c.write_number.ensures

pub returns-in-Err : goal.returns-in-Err
returns-in-Err g c = stop g.K.Sink.written g.K.Sink.faults _ _ c.args.word.now (decimal c.args.n) _ c.in-Err.ensures
