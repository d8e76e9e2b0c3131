use Rattle.std.proofs.Common.{Ok, ap, sym, ◌∙◌}
use Rattle.text_forms.specs.Tables.{has_room, is_table}
use Rattle.line_text.proofs.Item_table.{item_table, item_room}
use Rattle.line_text.proofs.Item_said.{item_fits}
use Rattle.line_text.proofs.Item_taken.{item_taken, item_column, said_at, some_said, some_only, none_never, item_not, item_refused, refusal_one}
use Rattle.line_text.proofs.item.read_item.Goals as goal

pub read_line-requires-clause-room : goal.read_line-requires-clause-room
read_line-requires-clause-room c = ap has_room c.item_rows.ensures ∙ item_room

pub read_line-requires-clause-table : goal.read_line-requires-clause-table
read_line-requires-clause-table c = ap is_table c.item_rows.ensures ∙ item_table

pub item_of-requires : goal.item_of-requires
item_of-requires c =
    item_fits c.in-Ok.form c.as_slice.result.now c.args.text.now
    (said_at c.item_rows.result.now c.in-Ok.form c.read_line.new.values.items c.as_slice.result.now c.args.text.now c.item_rows.ensures c.as_slice.ensures.value c.in-Ok.ensures.said.0)

pub unreachable-requires : goal.unreachable-requires
unreachable-requires c =
    none_never c.in-Ok.form c.as_slice.result.now c.args.text.now (sym c.in-None.is ∙ c.item_of.ensures)
    (said_at c.item_rows.result.now c.in-Ok.form c.read_line.new.values.items c.as_slice.result.now c.args.text.now c.item_rows.ensures c.as_slice.ensures.value c.in-Ok.ensures.said.0)

pub returns-in-Some-clause-said : goal.returns-in-Some-clause-said
returns-in-Some-clause-said c =
    some_said c.in-Ok.form c.as_slice.result.now c.args.text.now c.in-Some.item (sym c.in-Some.is ∙ c.item_of.ensures)
    (said_at c.item_rows.result.now c.in-Ok.form c.read_line.new.values.items c.as_slice.result.now c.args.text.now c.item_rows.ensures c.as_slice.ensures.value c.in-Ok.ensures.said.0)

pub returns-in-Some-clause-only : goal.returns-in-Some-clause-only
returns-in-Some-clause-only c = λ x h. ap Ok
    (some_only c.in-Ok.form c.as_slice.result.now c.args.text.now c.in-Some.item x (sym c.in-Some.is ∙ c.item_of.ensures)
    (said_at c.item_rows.result.now c.in-Ok.form c.read_line.new.values.items c.as_slice.result.now c.args.text.now c.item_rows.ensures c.as_slice.ensures.value c.in-Ok.ensures.said.0) h)

pub returns-in-Some-clause-column : goal.returns-in-Some-clause-column
returns-in-Some-clause-column c = λ k r. absurd (item_not c.in-Some.item c.args.text.now k (returns-in-Some-clause-said c) r)

pub returns-in-Err-clause-refused : goal.returns-in-Err-clause-refused
returns-in-Err-clause-refused c = item_refused c.item_rows.result.now c.args.text.now c.in-Err.fault.column c.item_rows.ensures c.in-Err.ensures.refused

pub returns-in-Err-clause-only : goal.returns-in-Err-clause-only
returns-in-Err-clause-only c = λ x h. absurd (item_not x c.args.text.now c.in-Err.fault.column h (item_refused c.item_rows.result.now c.args.text.now c.in-Err.fault.column c.item_rows.ensures c.in-Err.ensures.refused))

pub returns-in-Err-clause-column : goal.returns-in-Err-clause-column
returns-in-Err-clause-column c = λ k r. refusal_one c.args.text.now c.in-Err.fault.column k (item_refused c.item_rows.result.now c.args.text.now c.in-Err.fault.column c.item_rows.ensures c.in-Err.ensures.refused) r

pub returns-in-Some-clause-read : goal.returns-in-Some-clause-read
returns-in-Some-clause-read c = item_taken c.in-Some.item c.args.text.now (returns-in-Some-clause-said c)

pub returns-in-Err-clause-read : goal.returns-in-Err-clause-read
returns-in-Err-clause-read c = item_column c.args.text.now c.in-Err.fault.column (returns-in-Err-clause-refused c)
