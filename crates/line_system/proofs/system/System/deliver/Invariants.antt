use Rattle.line_system.proofs.Between_takes.{Between}
use Rattle.line_system.proofs.system.System.deliver.Given as goal

abbrev pub invariant-loop-number : goal.invariant-loop-number
invariant-loop-number l = Between l.fn.self l.to l.from l.sent l.number l.self l.fn.lines.items l.lines.items
