use Rattle.std.proofs.Common.{ℕ, reverse, refl, sym, subst, ◌∙◌}
use Rattle.definitions.specs.Steps.{story_of}
use Rattle.definitions.specs.Zones.{zone_id}
use Rattle.zone_state.specs.Zone.{ZoneKept}
use Rattle.journey_laws.proofs.Zone_only.{zone_only}
use Rattle.line_system.specs.History.{History}
use Rattle.line_state.specs.State.{parts, tally}
use Rattle.line_system.specs.Shows.{ShowsNotions}
use Rattle.line_system.proofs.Shows_zone.{shows_zone}
use Rattle.line_system.proofs.system.System.zone.Goals as goal

pub returns-then-has_zone-clause-shows : goal.returns-then-has_zone-clause-shows
returns-then-has_zone-clause-shows c =
    let line = c.self.inside.line in
    let es = reverse c.self.inside.events.items in
    let is = zone_only line c.args.z.0 c.self.invariant.one_zone.one (sym c.has_zone.ensures ∙ c.if-has_zone.true) in
    subst (λ (h : History). ShowsNotions h.line (story_of h.line h.events) c.args.z.0 c.zone.result.now) c.self.view_is
    (subst (λ (n : ℕ). ShowsNotions line (story_of line es) n c.zone.result.now) (sym is)
    (subst (λ (y : ZoneKept). ShowsNotions line (story_of line es) (zone_id line) y) (sym c.zone.ensures)
    (shows_zone line es (parts c.self.inside.state) (tally c.self.inside.state) c.self.inside.state.zone c.self.invariant refl)))
