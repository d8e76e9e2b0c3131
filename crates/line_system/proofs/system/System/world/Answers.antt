use Rattle.std.proofs.Common.{reverse, subst}
use Rattle.definitions.specs.Steps.{story_of}
use Rattle.line_system.specs.History.{History}
use Rattle.line_state.specs.State.{parts, tally}
use Rattle.line_system.specs.Shows.{ShowsWorld}
use Rattle.line_system.proofs.Shows_zone.{shows_world}
use Rattle.line_system.proofs.system.System.world.Goals as goal

pub returns : goal.returns
returns c =
    subst (λ (h : History). ShowsWorld h.line (story_of h.line h.events) c.world.result.now) c.self.view_is
    (rw c.world.ensures (shows_world c.self.inside.line (reverse c.self.inside.events.items) (parts c.self.inside.state) (tally c.self.inside.state) c.self.inside.state.zone c.self.invariant))
