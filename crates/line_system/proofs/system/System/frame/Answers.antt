use Rattle.std.proofs.Common.{List, subst}
use Rattle.std.specs.Option.{option_copied}
use Rattle.definitions.specs.declared.message.Msg.{Msg}
use Rattle.line_state.specs.Frames.{IsFrameAt}
use Rattle.line_state.specs.State.{parts, tally}
use Rattle.line_system.proofs.Go_kept.{sent_is}
use Rattle.line_system.proofs.system.System.frame.Goals as goal

pub returns : goal.returns
returns c =
    subst (λ (ms : List Msg). IsFrameAt ms c.args.number (option_copied c.frame.result))
    (sent_is c.args.self.now c.self.inside.line c.self.inside.events.items (parts c.self.inside.state) (tally c.self.inside.state) c.self.inside.state.zone c.self.view_is c.self.invariant c.args.from c.args.to)
    c.frame.ensures
