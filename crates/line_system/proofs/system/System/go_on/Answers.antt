use Rattle.std.proofs.Common.{◌≡◌, true, sym, subst, IfOk}
use Rattle.definitions.specs.declared.event.Event.{Event}
use Rattle.definitions.specs.Premises.{built}
use Rattle.definitions.specs.Steps.{story_of}
use Rattle.line_system.specs.System.{Answered}
use Rattle.line_system.proofs.Go_kept.{stands_alone}
use Rattle.line_system.proofs.system.System.go_on.Goals as goal

pub deliver-requires : goal.deliver-requires
deliver-requires c = let h = c.args.self.now in subst (λ (e : Event). built h.line (story_of h.line h.events) e ≡ true) c.in-Deliver.is c.requires.built

pub go_alone-requires-clause-alone : goal.go_alone-requires-clause-alone
go_alone-requires-clause-alone c = let h = c.args.self.now in stands_alone h.line (story_of h.line h.events) c.args.event.now c.in_default.not-Deliver

pub returns-in-Deliver : goal.returns-in-Deliver
returns-in-Deliver c =
    subst (λ (e : Event). IfOk c.deliver.result (λ a. Answered c.args.self.now e a c.deliver.new.self c.args.lines.now.items c.deliver.new.lines.items)) (sym c.in-Deliver.is) c.deliver.ensures
