use Rattle.std.proofs.Common.{◌∙◌, sym, refl}
use Rattle.std.proofs.lemmas.Bool.{ne_eqb}
use Rattle.definitions.specs.declared.document.Ending.TheVariants as ends
use Rattle.definitions.specs.Steps.{story_of}
use Rattle.line_system.specs.declared.system.Answer.TheVariants.{Events, Messages}
use Rattle.line_system.proofs.All_answers.{events_full, messages_full, has_room, full_leads, premise_leads, alone_leads}
use Rattle.line_system.proofs.system.System.go_alone.Goals as goal

pub returns-then-is_full : goal.returns-then-is_full
returns-then-is_full c = λ n.
    full_leads c.args.self.now c.args.event.now c.requires.within c.requires.alone n Events ends.Events _ _ _
    (events_full c.args.self.now.events (story_of c.args.self.now.line c.args.self.now.events) (sym c.is_full.ensures ∙ c.if-is_full.true)) refl refl refl

pub returns-then-is_past_messages : goal.returns-then-is_past_messages
returns-then-is_past_messages c = λ n.
    full_leads c.args.self.now c.args.event.now c.requires.within c.requires.alone n Messages ends.Messages _ _ _
    (messages_full c.args.self.now.events (story_of c.args.self.now.line c.args.self.now.events) (sym c.is_full.ensures ∙ c.if-is_full.false) (sym c.is_past_messages.ensures ∙ c.if-is_past_messages.true)) refl refl refl

pub returns-then-premise-ne0 : goal.returns-then-premise-ne0
returns-then-premise-ne0 c = λ n.
    premise_leads c.args.self.now c.args.event.now c.requires.within c.requires.alone n _ _ _ _
    (has_room c.args.self.now.events (story_of c.args.self.now.line c.args.self.now.events) (sym c.is_full.ensures ∙ c.if-is_full.false) (sym c.is_past_messages.ensures ∙ c.if-is_past_messages.false))
    c.premise-premise.ensures (ne_eqb _ 0 c.if-premise-ne0.true) refl refl

pub returns : goal.returns
returns c = λ n.
    alone_leads c.args.self.now c.args.event.now c.requires.within c.requires.alone n _ _ _
    (has_room c.args.self.now.events (story_of c.args.self.now.line c.args.self.now.events) (sym c.is_full.ensures ∙ c.if-is_full.false) (sym c.is_past_messages.ensures ∙ c.if-is_past_messages.false))
    (sym c.premise-premise.ensures ∙ c.if-premise-ne0.false) c.in_ok-go.ensures.history c.in_ok-go.ensures.lines

pub go-requires-clause-kept : goal.go-requires-clause-kept
go-requires-clause-kept c = sym c.premise-premise.ensures ∙ c.if-premise-ne0.false

pub go-requires-clause-room : goal.go-requires-clause-room
go-requires-clause-room c =
    has_room c.args.self.now.events (story_of c.args.self.now.line c.args.self.now.events) (sym c.is_full.ensures ∙ c.if-is_full.false) (sym c.is_past_messages.ensures ∙ c.if-is_past_messages.false)
