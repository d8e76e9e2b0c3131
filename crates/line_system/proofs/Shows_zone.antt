-- What a system keeps shows what its history tells.
use Rattle.std.proofs.Common.{◌≡◌, ℕ, List, Option, Some, None, false, refl, sym, ◌∙◌, subst}
use Rattle.std.specs.Prelude.{is_some}
use Rattle.track_points.specs.Sets.{Points}
use Rattle.definitions.specs.declared.event.Event.{Event}
use Rattle.definitions.specs.Track.{Line, layout}
use Rattle.definitions.specs.Ways.{PlainWay}
use Rattle.definitions.specs.Story.{Story}
use Rattle.definitions.specs.Authority.{way}
use Rattle.definitions.specs.Steps.{story_of}
use Rattle.plain_state.specs.declared.Controlled.{Controlled}
use Rattle.plain_state.specs.Zone.{PlainZone, find_controlled}
use Rattle.definitions.specs.Zones.{zone_id}
use Rattle.plain_state.specs.Refinement.{zone_train_of, ZoneRefines}
use Rattle.step_laws.proofs.Invariant_story.{invariant_story}
use Rattle.zone_state.specs.Zone.{ZoneKept, IsEnvelope}
use Rattle.refinement_laws.proofs.Facts_is.{way_is_known}
use Rattle.refinement_laws.proofs.Holds_are.{found_controls}
use Rattle.refinement_laws.proofs.Envelope_now.{envelope_now}
use Rattle.refinement_laws.proofs.The_zone.{the_zone}
use Rattle.line_state.specs.State.{Tally, Parts, plain_of}
use Rattle.line_system.specs.Kept.{IsKept}
use Rattle.line_system.specs.Shows.{ShowsEnvelope, ShowsNotions, ShowsWorld}

none_of : (line : Line) (t : ℕ) (s : Story) (w : Option PlainWay) → zone_train_of line (zone_id line) t s w ≡ None → is_some w ≡ false
none_of line t s None e = refl
none_of line t s (Some w) e = absurd cc

module _ (line : Line) (es : List Event) (p : Parts) (u : Tally) (zone : ZoneKept) (k : IsKept line es p u zone) where
  abbrev s : Story
  s = story_of line es

  module _ (refines : ZoneRefines line (zone_id line) (story_of line es) zone.plain) where
    shows_envelope : (t : ℕ) (found : Option Controlled) (set : Option Points) → find_controlled t zone.plain.trains ≡ found → IsEnvelope (layout line) found set → ShowsEnvelope line (zone_id line) t (story_of line es) set
    shows_envelope t None None is h = sym (way_is_known line (zone_id line) t s) ∙ none_of line t s (way line (zone_id line) t s) (sym (refines.found t) ∙ is)
    shows_envelope t None (Some set) is h = absurd h
    shows_envelope t (Some x) None is h = absurd h
    shows_envelope t (Some x) (Some set) is h = (
      found_controls line s k.one_zone.valid zone.plain.trains refines.found (λ v. invariant_story line v es k.one_zone k.kept) t x is,
      λ point. h point ∙ envelope_now line s zone.plain k.one_zone.valid refines (λ v. invariant_story line v es k.one_zone k.kept) t x point is,
    )

    shows_refined : ShowsNotions line (story_of line es) (zone_id line) zone
    shows_refined = record {
      fits = k.on_line;
      id = refines.id;
      time = refines.clock;
      holds = refines.holds;
      closed = refines.closed;
      envelopes = λ t set h. shows_envelope t (find_controlled t zone.plain.trains) set refl h;
    }

  pub shows_zone : p.zone ≡ zone.plain → ShowsNotions line (story_of line es) (zone_id line) zone
  shows_zone same = shows_refined (subst (λ (y : PlainZone). ZoneRefines line (zone_id line) s y) same (the_zone line s (plain_of p) k.one_zone k.refines))

  pub shows_world : ShowsWorld line (story_of line es) p.world
  shows_world = record { on = k.world_on; time = k.refines.time; trains = k.refines.trains; count = k.refines.count }
