use Rattle.std.proofs.Common.{arith, ap, Ok}
use Rattle.text_forms.specs.Forms.{IsText}
use Rattle.text_forms.specs.Rows.{forms}
use Rattle.form_codec.proofs.Refused_one.{refusal_one, refused_not}
use Rattle.form_codec.proofs.Row_some.{ok_only, ok_said, err_left, err_never, err_refused, err_long, long_refused}
use Rattle.form_codec.proofs.Form_taken.{form_taken, form_refused}
use Rattle.form_codec.proofs.read.read_line.Goals as goal

pub overflow_sub-column : goal.overflow_sub-column
overflow_sub-column c = err_left (forms c.args.rows.now) c.args.text.now c.line_of.new.values.items c.in-Err.left c.requires.table c.in-Err.ensures

pub returns-then-text-le4096-clause-said : goal.returns-then-text-le4096-clause-said
returns-then-text-le4096-clause-said c = (ok_said (forms c.args.rows.now) c.args.text.now c.line_of.new.values.items c.in-Ok.form c.requires.table c.in-Ok.ensures, omega arith)

pub returns-then-text-le4096-clause-only : goal.returns-then-text-le4096-clause-only
returns-then-text-le4096-clause-only c = λ i vs s short. let h = ok_only (forms c.args.rows.now) c.args.text.now c.line_of.new.values.items vs c.in-Ok.form i c.requires.table c.in-Ok.ensures s in (ap Ok h.0, h.1)

pub returns-then-text-le4096-clause-column : goal.returns-then-text-le4096-clause-column
returns-then-text-le4096-clause-column c = λ k r.
    absurd (refused_not (IsText (forms c.args.rows.now)) c.args.text.now k r
    (record { form = c.in-Ok.form; values = c.line_of.new.values.items; says = ok_said (forms c.args.rows.now) c.args.text.now c.line_of.new.values.items c.in-Ok.form c.requires.table c.in-Ok.ensures })
    (omega arith))

pub returns-else-text-le4096-clause-refused : goal.returns-else-text-le4096-clause-refused
returns-else-text-le4096-clause-refused c = long_refused (forms c.args.rows.now) c.args.text.now c.line_of.new.values.items c.in-Ok.form c.requires.table c.in-Ok.ensures (omega arith)

pub returns-else-text-le4096-clause-column : goal.returns-else-text-le4096-clause-column
returns-else-text-le4096-clause-column c = λ k r.
    refusal_one (IsText (forms c.args.rows.now)) c.args.text.now 4097 k
    (long_refused (forms c.args.rows.now) c.args.text.now c.line_of.new.values.items c.in-Ok.form c.requires.table c.in-Ok.ensures (omega arith)) r

pub returns-then-column-le4097-clause-only : goal.returns-then-column-le4097-clause-only
returns-then-column-le4097-clause-only c = λ i vs s short. err_never (forms c.args.rows.now) c.args.text.now c.line_of.new.values.items vs c.in-Err.left i c.requires.table c.in-Err.ensures s

pub returns-then-column-le4097-clause-refused : goal.returns-then-column-le4097-clause-refused
returns-then-column-le4097-clause-refused c = err_refused (forms c.args.rows.now) c.args.text.now c.line_of.new.values.items c.in-Err.left c.requires.table c.in-Err.ensures (omega arith)

pub returns-then-column-le4097-clause-column : goal.returns-then-column-le4097-clause-column
returns-then-column-le4097-clause-column c = λ k r.
    refusal_one (IsText (forms c.args.rows.now)) c.args.text.now _ k
    (err_refused (forms c.args.rows.now) c.args.text.now c.line_of.new.values.items c.in-Err.left c.requires.table c.in-Err.ensures (omega arith)) r

pub returns-else-column-le4097-clause-only : goal.returns-else-column-le4097-clause-only
returns-else-column-le4097-clause-only c = λ i vs s short. err_never (forms c.args.rows.now) c.args.text.now c.line_of.new.values.items vs c.in-Err.left i c.requires.table c.in-Err.ensures s

pub returns-else-column-le4097-clause-refused : goal.returns-else-column-le4097-clause-refused
returns-else-column-le4097-clause-refused c = err_long (forms c.args.rows.now) c.args.text.now c.line_of.new.values.items c.in-Err.left c.requires.table c.in-Err.ensures (omega arith)

pub returns-else-column-le4097-clause-column : goal.returns-else-column-le4097-clause-column
returns-else-column-le4097-clause-column c = λ k r.
    refusal_one (IsText (forms c.args.rows.now)) c.args.text.now 4097 k
    (err_long (forms c.args.rows.now) c.args.text.now c.line_of.new.values.items c.in-Err.left c.requires.table c.in-Err.ensures (omega arith)) r

pub returns-then-text-le4096-clause-read : goal.returns-then-text-le4096-clause-read
returns-then-text-le4096-clause-read c = form_taken (forms c.args.rows.now) c.args.text.now c.line_of.new.values.items c.in-Ok.form c.requires.table (returns-then-text-le4096-clause-said c).0 (omega arith)

pub returns-else-text-le4096-clause-read : goal.returns-else-text-le4096-clause-read
returns-else-text-le4096-clause-read c = form_refused (forms c.args.rows.now) c.args.text.now _ c.requires.table (returns-else-text-le4096-clause-refused c)

pub returns-then-column-le4097-clause-read : goal.returns-then-column-le4097-clause-read
returns-then-column-le4097-clause-read c = form_refused (forms c.args.rows.now) c.args.text.now _ c.requires.table (returns-then-column-le4097-clause-refused c)

pub returns-else-column-le4097-clause-read : goal.returns-else-column-le4097-clause-read
returns-else-column-le4097-clause-read c = form_refused (forms c.args.rows.now) c.args.text.now _ c.requires.table (returns-else-column-le4097-clause-refused c)
