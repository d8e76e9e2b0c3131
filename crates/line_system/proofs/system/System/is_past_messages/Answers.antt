use Rattle.std.proofs.Common.{ℕ, ◌∙◌, ap}
use Rattle.std.specs.Prelude.{nat_lt}
use Rattle.definitions.specs.Story.{messages}
use Rattle.definitions.specs.Steps.{story_of}
use Rattle.definitions.specs.Trace.{message_limit}
use Rattle.line_system.specs.History.{History}
use Rattle.line_system.proofs.system.System.is_past_messages.Goals as goal

pub returns : goal.returns
returns c = ap (λ (n : ℕ). nat_lt message_limit n) (c.messages.ensures ∙ (c.self.invariant.count ∙ ap (λ (h : History). messages (story_of h.line h.events)) c.self.view_is))
