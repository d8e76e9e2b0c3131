use Rattle.std.proofs.Common.{◌∙◌, ap, reverse}
use Rattle.definitions.specs.Premises.{built}
use Rattle.definitions.specs.Steps.{story_of}
use Rattle.line_system.specs.History.{History}
use Rattle.line_state.specs.State.{parts, tally}
use Rattle.line_system.proofs.Go_kept.{built_plain}
use Rattle.line_system.proofs.system.System.is_built.Goals as goal

pub returns : goal.returns
returns c =
    c.is_built.ensures
    ∙ (built_plain c.self.inside.line (reverse c.self.inside.events.items) (parts c.self.inside.state) (tally c.self.inside.state) c.self.inside.state.zone c.args.event.now c.self.invariant
    ∙ ap (λ (h : History). built h.line (story_of h.line h.events) c.args.event.now) c.self.view_is)
