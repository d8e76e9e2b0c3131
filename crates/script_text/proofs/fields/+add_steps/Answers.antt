use Rattle.std.proofs.Common.{◌+◌, subst}
use Rattle.definitions.specs.EventFields.{asked_of}
use Rattle.script_text.specs.Sees.{PutsAsked}
use Rattle.script_text.proofs.Moves_put.{asked_put, later_all}
use Rattle.script_text.proofs.fields.+add_steps.Goals as goal

pub returns-else-not-is_segment : goal.returns-else-not-is_segment
returns-else-not-is_segment t c =
    asked_put c.args.line.now c.args.field c.args.values.now c.args.steps.now.items c.push.new.self.items c.add_steps.new.steps.items c.add_steps.new.to c.add_steps.result c.step_of.result
    c.in-len2-up.len_at_least (cc) c.step_of.ensures c.push.ensures.items
    (subst (λ vs. PutsAsked c.push.new.self.items c.add_steps.new.steps.items c.add_steps.new.to c.add_steps.result (asked_of c.args.line.now (c.args.field + 1) vs)) (later_all c.args.values.now) c.add_steps.ensures)
