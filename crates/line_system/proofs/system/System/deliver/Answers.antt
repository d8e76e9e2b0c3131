use Rattle.std.proofs.Common.{◌∙◌, sym, refl}
use Rattle.definitions.specs.declared.document.Ending.TheVariants as ends
use Rattle.definitions.specs.Steps.{story_of}
use Rattle.line_system.specs.declared.system.Answer.TheVariants.{Events, Messages, Goes}
use Rattle.line_system.proofs.All_answers.{events_full, messages_full, has_room}
use Rattle.line_system.proofs.Between_takes.{between_start, between_passes, between_keeps, between_takes, between_stops, between_ends}
use Rattle.line_system.proofs.system.System.deliver.Goals as goal
use Rattle.line_system.proofs.system.System.deliver.Goals.{then-not-is_lost+else-is_full+else-is_past_messages+in_ok-go, else-not-is_lost}

pub loop-number-init : goal.loop-number-init
loop-number-init c = between_start c.args.self.now c.args.to c.due-from.result.0 c.due-from.result.1 c.due-from.result.2 c.args.lines.now.items c.requires c.due-from.ensures.takes

pub go-requires-clause-kept : goal.go-requires-clause-kept
go-requires-clause-kept c =
    (between_keeps c.args.self.now c.args.to c.due-from.result.0 c.due-from.result.2 c.loop-number.number c.loop-number.self c.args.lines.now.items c.loop-number.lines.items c.loop-number.invariant c.loop-number-test.true
    (sym c.if-not-is_lost.true ∙ c.is_lost.ensures)).kept

pub returns-then-is_full : goal.returns-then-is_full
returns-then-is_full c = λ n.
    between_stops c.args.self.now c.args.to c.due-from.result.0 c.due-from.result.2 c.loop-number.number c.loop-number.self c.args.lines.now.items c.loop-number.lines.items c.loop-number.invariant c.loop-number-test.true
    (sym c.if-not-is_lost.true ∙ c.is_lost.ensures) n Events ends.Events
    (events_full c.loop-number.self.events (story_of c.loop-number.self.line c.loop-number.self.events) (sym c.is_full.ensures ∙ c.if-is_full.true)) refl

pub returns-then-is_past_messages : goal.returns-then-is_past_messages
returns-then-is_past_messages c = λ n.
    between_stops c.args.self.now c.args.to c.due-from.result.0 c.due-from.result.2 c.loop-number.number c.loop-number.self c.args.lines.now.items c.loop-number.lines.items c.loop-number.invariant c.loop-number-test.true
    (sym c.if-not-is_lost.true ∙ c.is_lost.ensures) n Messages ends.Messages
    (messages_full c.loop-number.self.events (story_of c.loop-number.self.line c.loop-number.self.events) (sym c.is_full.ensures ∙ c.if-is_full.false) (sym c.is_past_messages.ensures ∙ c.if-is_past_messages.true)) refl

pub loop-number-preserved : goal.loop-number-preserved
loop-number-preserved c =
    elim c.if-not-is_lost.branch [
      | then-not-is_lost+else-is_full+else-is_past_messages+in_ok-go w ↦ rw (w.self-is, w.lines-is) (between_takes c.args.self.now c.args.to c.due-from.result.0 c.due-from.result.2 c.loop-number.number c.loop-number.self c.args.lines.now.items c.loop-number.lines.items c.loop-number.invariant c.loop-number-test.true
          (sym w.if-not-is_lost.true ∙ c.is_lost.ensures) _ _
          (has_room c.loop-number.self.events (story_of c.loop-number.self.line c.loop-number.self.events) (sym w.is_full.ensures ∙ w.if-is_full.false) (sym w.is_past_messages.ensures ∙ w.if-is_past_messages.false))
          w.in_ok-go.ensures.history w.in_ok-go.ensures.lines)
      | else-not-is_lost w ↦ rw (w.self-is, w.lines-is) (between_passes c.args.self.now c.args.to c.due-from.result.0 c.due-from.result.2 c.loop-number.number c.loop-number.self c.args.lines.now.items c.loop-number.lines.items c.loop-number.invariant c.loop-number-test.true
          (sym w.if-not-is_lost.false ∙ c.is_lost.ensures))
    ]

pub returns : goal.returns
returns c = λ n. between_ends c.args.self.now c.args.to c.due-from.result.0 c.due-from.result.2 c.loop-number.number c.loop-number.self c.args.lines.now.items c.loop-number.lines.items n Goes c.loop-number.invariant c.loop-number-test.false refl
