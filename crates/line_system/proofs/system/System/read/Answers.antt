use Rattle.std.proofs.Common.{◌∙◌, sym, refl}
use Rattle.line_system.proofs.All_answers.{too_many_leads, all_answers}
use Rattle.line_system.proofs.system.System.read.Goals as goal

pub returns-then-is_too_many : goal.returns-then-is_too_many
returns-then-is_too_many c =
    (sym c.is_built.ensures ∙ c.if-not-is_built.false, λ n. too_many_leads c.args.self.now c.args.event.now n _ _ _ (sym c.is_too_many.ensures ∙ c.if-is_too_many.true) refl refl)

pub returns : goal.returns
returns c = all_answers c.args.self.now c.args.event.now c.go_on.result _ _ _ (sym c.is_built.ensures ∙ c.if-not-is_built.false) c.go_on.ensures
