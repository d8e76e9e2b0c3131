use Rattle.std.proofs.Common.{◌∙◌, ap, sym}
use Rattle.definitions.specs.Track.{Line}
use Rattle.definitions.specs.World.{trains}
use Rattle.definitions.specs.Steps.{story_of}
use Rattle.definitions.specs.Grammar.{event_line_of}
use Rattle.document_laws.proofs.Said_built.{said_built}
use Rattle.run_engine.proofs.stage.read_in_script.Goals as goal

pub run_event-requires-clause-built : goal.run_event-requires-clause-built
run_event-requires-clause-built c =
    let h = c.args.system.now in
    said_built h.line (story_of h.line h.events) c.args.text.now c.in-Event.event
    (ap (λ (line : Line). event_line_of line (trains (story_of h.line h.events)) c.args.text.now) (sym c.line.ensures) ∙ (sym c.event_line.ensures ∙ c.in-Event.is))
