use Rattle.std.proofs.Common.{◌∙◌, ap, length}
use Rattle.line_state.proofs.state.State.sent.Goals as goal

pub returns-in-Some : goal.returns-in-Some
returns-in-Some c = c.len.ensures ∙ ap length (rw c.in-Some.is at c.link.ensures)

pub returns-in-None : goal.returns-in-None
returns-in-None c = ap length (rw c.in-None.is at c.link.ensures)
