use Rattle.std.proofs.Common.{ℕ, List, ap, length, ◌∙◌}
use Rattle.definitions.specs.declared.message.Msg.{Msg}
use Rattle.line_state.specs.State.{tally, tally_behind, counted}
use Rattle.line_state.proofs.state.State.step.Goals as goal

pub returns-clause-tally : goal.returns-clause-tally
returns-clause-tally c =
    ap (counted (length c.messages.result.now)) c.act.ensures.tally
    ∙ ap (λ (ms : List (ℕ × Msg)). counted (length ms) (tally_behind c.args.event.now (tally c.args.self.now))) c.messages.ensures.value
