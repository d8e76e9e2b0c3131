use Rattle.form_codec.proofs.Row_some.{row_within, row_some, row_none}
use Rattle.form_codec.proofs.read.row_at.Goals as goal

pub split_at-requires : goal.split_at-requires
split_at-requires c = row_within c.args.rows.now c.args.bytes.now c.find_row-k.result c.find_row-k.ensures.value c.if-k-rows.true

pub returns-then-k-rows : goal.returns-then-k-rows
returns-then-k-rows c = row_some c.args.rows.now c.args.bytes.now c.split_at.result.1.now c.find_row-k.result c.find_row-k.ensures.value c.if-k-rows.true c.split_at.ensures.back

pub returns-else-k-rows : goal.returns-else-k-rows
returns-else-k-rows c = row_none c.args.rows.now c.args.bytes.now c.find_row-k.result c.best_row.result c.find_row-k.ensures.value c.if-k-rows.false c.best_row.ensures.value
