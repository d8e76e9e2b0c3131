use Rattle.std.proofs.Common.{ℕ, List, Err, sym, subst}
use Rattle.definitions.specs.EventFields.{event_of}
use Rattle.script_text.specs.Sees.{HasRoom, Makes}
use Rattle.script_text.proofs.Event_made.{event_fits}
use Rattle.script_text.proofs.Event_said.{makes_column}
use Rattle.script_text.proofs.form.put_event.Goals as goal

pub event_of-requires : goal.event_of-requires
event_of-requires g c = subst (HasRoom c.args.form) (sym c.as_slice.ensures.value) (event_fits c.args.form c.args.values.now.items c.args.text.now c.requires.says)

pub returns-in-Err : goal.returns-in-Err
returns-in-Err g c =
    let trains = g.T.DeclaredTrains.known c.args.trains.now in
    makes_column (tt {0}) c.args.text.now c.in-Err.field c.column_of.result c.event_of.new.says (event_of c.args.line.now trains c.args.form c.args.values.now.items) c.requires.short c.column_of.ensures
    (subst (λ (vs : List ℕ). Makes {U = Unit {0}} (Err c.in-Err.field) c.event_of.new.says (event_of c.args.line.now trains c.args.form vs)) c.as_slice.ensures.value c.in-Err.ensures)
