use Rattle.std.proofs.Common.{◌∙◌, ap, sym, reverse}
use Rattle.definitions.specs.EventFields.{has_train}
use Rattle.definitions.specs.World.{trains}
use Rattle.definitions.specs.Steps.{story_of}
use Rattle.document_laws.proofs.Said_built.{has_declared}
use Rattle.line_system.specs.History.{History}
use Rattle.line_state.specs.State.{parts, tally}
use Rattle.line_system.proofs.Go_kept.{declared_plain}
use Rattle.line_system.proofs.system.SystemDeclaredTrains.has.Goals as goal

pub returns : goal.returns
returns c =
    c.is_declared.ensures
    ∙ (declared_plain c.self.inside.line (reverse c.self.inside.events.items) (parts c.self.inside.state) (tally c.self.inside.state) c.self.inside.state.zone c.args.train.0 c.self.invariant
    ∙ (sym (has_declared c.args.train.0 (story_of c.self.inside.line (reverse c.self.inside.events.items)))
    ∙ ap (λ (h : History). has_train (trains (story_of h.line h.events)) c.args.train.0) c.self.view_is))
