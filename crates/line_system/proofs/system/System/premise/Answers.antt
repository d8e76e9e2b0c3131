use Rattle.std.proofs.Common.{◌≡◌, ◌∙◌, true, ap, sym, subst, reverse}
use Rattle.definitions.specs.Premises.{built, premise_of}
use Rattle.definitions.specs.Steps.{story_of}
use Rattle.line_system.specs.History.{History}
use Rattle.line_state.specs.State.{parts, tally}
use Rattle.line_system.proofs.Go_kept.{premise_plain}
use Rattle.line_system.proofs.system.System.premise.Goals as goal

pub returns : goal.returns
returns c =
    let form = subst (λ (h : History). built h.line (story_of h.line h.events) c.args.event.now ≡ true) (sym c.self.view_is) c.requires in
    c.premise.ensures
    ∙ (premise_plain c.self.inside.line (reverse c.self.inside.events.items) (parts c.self.inside.state) (tally c.self.inside.state) c.self.inside.state.zone c.args.event.now c.self.invariant form
    ∙ ap (λ (h : History). premise_of h.line (story_of h.line h.events) c.args.event.now) c.self.view_is)
