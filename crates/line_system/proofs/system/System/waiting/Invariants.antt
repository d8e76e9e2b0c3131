use Rattle.std.proofs.Common.{◌≡◌, ◌+◌, ◌-◌}
use Rattle.definitions.specs.Steps.{story_of, deliveries}
use Rattle.plain_state.specs.Plain.{takes_but}
use Rattle.line_system.proofs.Go_kept.{lost_of}
use Rattle.line_system.proofs.system.System.waiting.Given as goal

abbrev pub invariant-loop-number : goal.invariant-loop-number
invariant-loop-number l = deliveries l.self.line (story_of l.self.line l.self.events) l.to ≡ takes_but (lost_of l.self l.from l.to) l.to l.from (l.number + 1) (l.sent - l.number)
