use Rattle.std.proofs.Common.{◌∙◌, ◌<◌, ap, length, arith}
use Rattle.line_state.specs.State.{parts, tally}
use Rattle.line_system.proofs.Go_kept.{sent_is, sent_most}
use Rattle.line_system.proofs.system.System.sent.Goals as goal

pub returns : goal.returns
returns c =
    c.sent.ensures
    ∙ ap length (sent_is c.args.self.now c.self.inside.line c.self.inside.events.items (parts c.self.inside.state) (tally c.self.inside.state) c.self.inside.state.zone c.self.view_is c.self.invariant c.args.from c.args.to)

pub overflow_cast-result : goal.overflow_cast-result
overflow_cast-result c =
    let most : c.sent.result < 4294967296 =
    sent_most c.args.self.now c.self.inside.line c.self.inside.events.items (parts c.self.inside.state) (tally c.self.inside.state) c.self.inside.state.zone c.self.view_is c.self.invariant c.args.from c.args.to c.sent.result c.sent.ensures in
    omega arith
