use Rattle.std.proofs.Common.{Ok, ap, inr}
use Rattle.definitions.specs.EventText.{event_place, event_values}
use Rattle.definitions.specs.EventFields.{event_of}
use Rattle.script_text.specs.Trains.{numbers}
use Rattle.script_text.proofs.Event_said.{made_event, made_refused, at_event, at_field, at_refused, event_said, some_only, some_field, field_only, field_one, text_not, field_not, refused_same}
use Rattle.script_text.proofs.read.read_event.Goals as goal

pub returns-in-Event-clause-read : goal.returns-in-Event-clause-read
returns-in-Event-clause-read c = at_event c.args.line.now (numbers c.args.trains.now) c.in-Ok.form c.event_form.new.values.items c.args.text.now c.in-Event.event c.in-Ok.ensures.read (made_event c.in-Ok-put_event.field-0 c.args.text.now c.put_event.new.says c.in-Event.event (event_of c.args.line.now (numbers c.args.trains.now) c.in-Ok.form c.event_form.new.values.items) c.in-Ok-put_event.ensures c.in-Event.is)

pub returns-in-Event-clause-said : goal.returns-in-Event-clause-said
returns-in-Event-clause-said c = event_said c.args.line.now (numbers c.args.trains.now) c.in-Ok.form c.event_form.new.values.items c.args.text.now c.in-Event.event (made_event c.in-Ok-put_event.field-0 c.args.text.now c.put_event.new.says c.in-Event.event (event_of c.args.line.now (numbers c.args.trains.now) c.in-Ok.form c.event_form.new.values.items) c.in-Ok-put_event.ensures c.in-Event.is) c.in-Ok.ensures.said.0

pub returns-in-Event-clause-only : goal.returns-in-Event-clause-only
returns-in-Event-clause-only c = λ x q le h. ap Ok (some_only c.args.line.now (numbers c.args.trains.now) c.in-Ok.form c.event_form.new.values.items c.args.text.now c.in-Event.event x (made_event c.in-Ok-put_event.field-0 c.args.text.now c.put_event.new.says c.in-Event.event (event_of c.args.line.now (numbers c.args.trains.now) c.in-Ok.form c.event_form.new.values.items) c.in-Ok-put_event.ensures c.in-Event.is) c.in-Ok.ensures.said.0 q h)

pub returns-in-Event-clause-column : goal.returns-in-Event-clause-column
returns-in-Event-clause-column c = λ k r. absurd (text_not c.in-Ok.form c.event_form.new.values.items c.args.text.now k c.in-Ok.ensures.said.0 c.in-Ok.ensures.said.1 r)

pub returns-in-Event-clause-field : goal.returns-in-Event-clause-field
returns-in-Event-clause-field c = λ k f. absurd (some_field c.args.line.now (numbers c.args.trains.now) c.in-Ok.form c.event_form.new.values.items c.args.text.now c.in-Event.event k (made_event c.in-Ok-put_event.field-0 c.args.text.now c.put_event.new.says c.in-Event.event (event_of c.args.line.now (numbers c.args.trains.now) c.in-Ok.form c.event_form.new.values.items) c.in-Ok-put_event.ensures c.in-Event.is) c.in-Ok.ensures.said.0 f)

pub returns-in-Err-put_event-clause-read : goal.returns-in-Err-put_event-clause-read
returns-in-Err-put_event-clause-read c = at_field c.args.line.now (numbers c.args.trains.now) c.in-Ok.form c.event_form.new.values.items c.args.text.now c.in-Err-put_event.column c.in-Ok.ensures.said.1 c.in-Ok.ensures.read (made_refused (tt {0}) c.args.text.now c.put_event.new.says c.in-Err-put_event.column (event_of c.args.line.now (numbers c.args.trains.now) c.in-Ok.form c.event_form.new.values.items) c.in-Ok.ensures.said.1 c.in-Err-put_event.ensures)

pub returns-in-Err-put_event-clause-only : goal.returns-in-Err-put_event-clause-only
returns-in-Err-put_event-clause-only c = λ x q le h. let r = (made_refused (tt {0}) c.args.text.now c.put_event.new.says c.in-Err-put_event.column (event_of c.args.line.now (numbers c.args.trains.now) c.in-Ok.form c.event_form.new.values.items) c.in-Ok.ensures.said.1 c.in-Err-put_event.ensures) in absurd (field_only c.args.line.now (numbers c.args.trains.now) c.in-Ok.form c.event_form.new.values.items c.args.text.now r.field x r.refused c.in-Ok.ensures.said.0 q h)

pub returns-in-Err-put_event-clause-refused : goal.returns-in-Err-put_event-clause-refused
returns-in-Err-put_event-clause-refused c = let r = (made_refused (tt {0}) c.args.text.now c.put_event.new.says c.in-Err-put_event.column (event_of c.args.line.now (numbers c.args.trains.now) c.in-Ok.form c.event_form.new.values.items) c.in-Ok.ensures.said.1 c.in-Err-put_event.ensures) in inr (record { form = c.in-Ok.form; values = c.event_form.new.values.items; says = c.in-Ok.ensures.said.0; short = c.in-Ok.ensures.said.1; field = r.field; refused = r.refused; here = r.here })

pub returns-in-Err-put_event-clause-column : goal.returns-in-Err-put_event-clause-column
returns-in-Err-put_event-clause-column c = λ k r. absurd (text_not c.in-Ok.form c.event_form.new.values.items c.args.text.now k c.in-Ok.ensures.said.0 c.in-Ok.ensures.said.1 r)

pub returns-in-Err-put_event-clause-field : goal.returns-in-Err-put_event-clause-field
returns-in-Err-put_event-clause-field c = λ k f. let r = (made_refused (tt {0}) c.args.text.now c.put_event.new.says c.in-Err-put_event.column (event_of c.args.line.now (numbers c.args.trains.now) c.in-Ok.form c.event_form.new.values.items) c.in-Ok.ensures.said.1 c.in-Err-put_event.ensures) in field_one c.args.line.now (numbers c.args.trains.now) c.in-Ok.form c.event_form.new.values.items c.args.text.now r.field c.in-Err-put_event.column k r.refused c.in-Ok.ensures.said.0 r.here f

pub returns-in-Err-clause-read : goal.returns-in-Err-clause-read
returns-in-Err-clause-read c = at_refused c.args.line.now (numbers c.args.trains.now) c.args.text.now c.in-Err.fault.column c.in-Err.ensures.read

pub returns-in-Err-clause-only : goal.returns-in-Err-clause-only
returns-in-Err-clause-only c = λ x q le h. absurd (text_not (event_place x) (event_values x) c.args.text.now c.in-Err.fault.column q le c.in-Err.ensures.refused)

pub returns-in-Err-clause-column : goal.returns-in-Err-clause-column
returns-in-Err-clause-column c = λ k r. refused_same c.args.text.now c.in-Err.fault.column k c.in-Err.ensures.refused r

pub returns-in-Err-clause-field : goal.returns-in-Err-clause-field
returns-in-Err-clause-field c = λ k f. absurd (field_not c.args.line.now (numbers c.args.trains.now) c.args.text.now c.in-Err.fault.column k c.in-Err.ensures.refused f)
