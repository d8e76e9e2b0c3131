-- Invariant is kept by every event.
use Rattle.std.proofs.Common.{ℕ, List, [], ◌∷◌}
use Rattle.definitions.specs.declared.event.Event.{Event}
use Rattle.definitions.specs.Track.{Line}
use Rattle.definitions.specs.Safe.{IsLineOfOneZone, Kept}
use Rattle.definitions.specs.Story.{Story}
use Rattle.definitions.specs.Steps.{effects, story_of}
use Rattle.event_laws.proofs.Admitted.{Admitted, admitted}
use Rattle.journey_laws.proofs.Motion.{Timed, motion_start, motion_step, heads_grow}
use Rattle.journey_laws.proofs.Timed_story.{timed_step, timed_story}
use Rattle.journey_laws.proofs.Invariant.{Invariant}
use Rattle.journey_laws.proofs.Journeys_stay.{journeys_start, journeys_stay}
use Rattle.step_laws.proofs.Authorized_step.{authorized_start, authorized_step, end_grows, end_cut}
use Rattle.step_laws.proofs.Reports_step.{reports_start, reports_step}
use Rattle.step_laws.proofs.Fronts_step.{fronts_start, fronts_step}

pub invariant_start : (line : Line) (t : ℕ) → Invariant line t []
invariant_start line t = record {
  motion = motion_start t;
  journeys = journeys_start line t;
  authorized = authorized_start line t;
  reports = reports_start line t;
  fronts = fronts_start line t;
}

pub invariant_step : (line : Line) (s : Story) (e : Event) → IsLineOfOneZone line → Admitted line s e → Timed s → ((t : ℕ) → Invariant line t s) → (t : ℕ) → Invariant line t (effects line s e ∷ s)
invariant_step line s e l a timed k t =
    let motion = motion_step line t s e a (k t).motion in
    let authorized = authorized_step line s e l a timed k t in
    record {
      motion = motion;
      journeys = journeys_stay line t (effects line s e) s (k t).motion (k t).authorized (heads_grow line t s e a (k t).motion) (k t).journeys;
      authorized = authorized;
      reports = reports_step line s e l a timed k t;
      fronts = fronts_step line s e l a timed (timed_step line s e a timed) k t motion authorized (end_grows line s e l a timed k t) (end_cut line s e l a timed k t);
    }

pub invariant_story : (line : Line) (t : ℕ) (es : List Event) → IsLineOfOneZone line → Kept line es → Invariant line t (story_of line es)
unfolding story_of Kept
invariant_story line t [] l k = invariant_start line t
invariant_story line t (e ∷ es) l k =
    invariant_step line (story_of line es) e l (admitted line (story_of line es) e k.0) (timed_story line es k.1) (λ u. invariant_story line u es l k.1) t
