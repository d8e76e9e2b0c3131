use Rattle.std.proofs.Common.{arith}
use Rattle.form_codec.proofs.Row_some.{word_below, words_length}
use Rattle.form_codec.proofs.read.line_of.Goals as goal

pub fields_of-requires-clause-below : goal.fields_of-requires-clause-below
fields_of-requires-clause-below c =
    let h = word_below _ 0 0 c.in-Ok.form c.args.text.now c.in-Ok.rest.now c.in-Ok.ensures in
    let k = words_length c.args.rows.now in
    omega arith
