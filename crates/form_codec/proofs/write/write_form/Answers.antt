use Rattle.edge_io.proofs.Wrote_then.{then, stop}
use Rattle.form_codec.specs.Writing.{text_on}
use Rattle.form_codec.proofs.write.write_form.Goals as goal

pub returns-in-Ok : goal.returns-in-Ok
returns-in-Ok g c = then g.K.Sink.written g.K.Sink.faults _ _ _ c.args.row.now.word.now (text_on c.args.row.now.group.now c.args.row.now.parts.now c.args.values.now) _ _ c.in-Ok.ensures c.write_values.ensures

pub returns-in-Err : goal.returns-in-Err
returns-in-Err g c = stop g.K.Sink.written g.K.Sink.faults _ _ c.args.row.now.word.now (text_on c.args.row.now.group.now c.args.row.now.parts.now c.args.values.now) _ c.in-Err.ensures
