use Rattle.std.proofs.Common.{List, ℕ, subst, sym, arith}
use Rattle.edge_io.specs.Writing.{Wrote}
use Rattle.form_codec.proofs.Row_some.{no_row}
use Rattle.form_codec.proofs.Spelling_one.{row_written, row_below}
use Rattle.form_codec.proofs.write.write_line.Goals as goal

pub bounds-rows-form : goal.bounds-rows-form
bounds-rows-form g c = row_below c.args.rows.now c.args.form c.args.values.now c.requires.0 c.requires.1

pub offset_bounds-rows-form : goal.offset_bounds-rows-form
offset_bounds-rows-form g c = let h = row_below c.args.rows.now c.args.form c.args.values.now c.requires.0 c.requires.1 in omega arith

pub write_form-requires : goal.write_form-requires
write_form-requires g c = (row_written c.args.rows.now c.args.form no_row c.args.values.now c.requires.0 c.requires.1).1

pub returns : goal.returns
returns g c = λ text s.
    subst (λ (t : List ℕ). Wrote g.K.Sink.written g.K.Sink.faults c.args.sink.now c.write_form.new.sink t c.write_form.result)
    (sym (row_written c.args.rows.now c.args.form no_row c.args.values.now text s).0) c.write_form.ensures
