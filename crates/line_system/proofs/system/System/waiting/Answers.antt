use Rattle.std.proofs.Common.{List, ◌∙◌, ap, sym}
use Rattle.std.specs.Prelude.{slice_get}
use Rattle.definitions.specs.declared.event.Event.{Event}
use Rattle.line_state.specs.State.{parts, tally}
use Rattle.line_system.proofs.Go_kept.{lost_of, dues_none}
use Rattle.line_system.proofs.Next_waits.{next_waits, later_waits, none_waits}
use Rattle.line_system.proofs.system.System.waiting.Goals as goal

pub returns-then-not-is_actor : goal.returns-then-not-is_actor
returns-then-not-is_actor c =
    sym (ap (λ (es : List Event). slice_get es 0)
    (dues_none c.args.self.now c.self.inside.line c.self.inside.events.items (parts c.self.inside.state) (tally c.self.inside.state) c.self.inside.state.zone c.self.view_is c.self.invariant c.args.to (sym c.is_actor.ensures ∙ c.if-not-is_actor.true)))

pub returns-then-not-is_lost : goal.returns-then-not-is_lost
returns-then-not-is_lost c =
    next_waits (lost_of c.args.self.now c.due-from.result.0 c.args.to) c.args.to c.due-from.result.0 c.loop-number.number c.due-from.result.2 _ c.loop-number.invariant c.loop-number-test.true (sym c.is_lost.ensures ∙ c.if-not-is_lost.true)

pub loop-number-preserved : goal.loop-number-preserved
loop-number-preserved c =
    later_waits (lost_of c.args.self.now c.due-from.result.0 c.args.to) c.args.to c.due-from.result.0 c.loop-number.number c.due-from.result.2 _ c.loop-number.invariant c.loop-number-test.true (sym c.is_lost.ensures ∙ c.if-not-is_lost.false)

pub returns : goal.returns
returns c = none_waits (lost_of c.args.self.now c.due-from.result.0 c.args.to) c.args.to c.due-from.result.0 c.loop-number.number c.due-from.result.2 _ c.loop-number.invariant c.loop-number-test.false
