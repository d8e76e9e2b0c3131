use Rattle.std.proofs.Common.{arith, ◌≤◌, get_or, sym, subst}
use Rattle.form_codec.specs.Sees.{PutAll}
use Rattle.form_codec.proofs.Row_some.{row_fields, row_room, room_of, no_row}
use Rattle.form_codec.proofs.read.fields_of.Goals as goal

pub fields-requires : goal.fields-requires
fields-requires c =
    let h : room_of (get_or c.args.rows.now c.args.form no_row) ≤ 2048 = row_room c.args.rows.now c.args.form no_row c.requires.below c.requires.room in omega arith

pub returns : goal.returns
returns c = subst (PutAll c.args.values.now.items c.fields.new.values.items c.fields.result) (sym (row_fields c.args.rows.now c.args.form no_row c.args.bytes.now c.requires.below)) c.fields.ensures
