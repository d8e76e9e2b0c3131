use Rattle.std.proofs.Common.{ap, ◌∙◌}
use Rattle.text_forms.specs.Tables.{has_room, is_table}
use Rattle.script_text.proofs.Event_table.{event_table, event_room}
use Rattle.script_text.proofs.Event_said.{refused_at, rows_refuse}
use Rattle.script_text.proofs.form.event_form.Goals as goal

pub read_line-requires-clause-room : goal.read_line-requires-clause-room
read_line-requires-clause-room c = ap has_room c.event_rows.ensures ∙ event_room

pub read_line-requires-clause-table : goal.read_line-requires-clause-table
read_line-requires-clause-table c = ap is_table c.event_rows.ensures ∙ event_table

pub returns-clause-refused : goal.returns-clause-refused
returns-clause-refused c = refused_at c.event_rows.result.now c.args.text.now c.read_line.result c.event_rows.ensures c.read_line.ensures.refused

pub returns-clause-column : goal.returns-clause-column
returns-clause-column c = λ k r. c.read_line.ensures.column k (rows_refuse c.event_rows.result.now c.args.text.now k c.event_rows.ensures r)
