use Rattle.std.proofs.Common.{◌++◌, ◌∙◌, ap, List}
use Rattle.definitions.specs.declared.outcome.Outcome.{Outcome}
use Rattle.line_system.proofs.system.System.go.Goals as goal

pub returns-clause-lines : goal.returns-clause-lines
returns-clause-lines c =
    c.in_ok-extend_from_slice.ensures.items ∙ ap (λ (ls : List Outcome). c.args.lines.now.items ++ ls) (c.lines.ensures ∙ c.in_ok-step.ensures.lines)
