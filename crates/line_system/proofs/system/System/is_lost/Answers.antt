use Rattle.std.proofs.Common.{◌∙◌}
use Rattle.line_state.specs.State.{parts, tally}
use Rattle.line_system.proofs.Go_kept.{lost_is}
use Rattle.line_system.proofs.system.System.is_lost.Goals as goal

pub returns : goal.returns
returns c =
    c.is_lost.ensures
    ∙ lost_is c.args.self.now c.self.inside.line c.self.inside.events.items (parts c.self.inside.state) (tally c.self.inside.state) c.self.inside.state.zone c.self.view_is c.self.invariant
    c.args.from c.args.to c.args.number c.requires.link c.requires.few
