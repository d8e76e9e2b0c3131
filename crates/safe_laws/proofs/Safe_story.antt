-- Every story of admitted events is safe, and what each event granted is exactly what its step adds.
use Rattle.std.proofs.Common.{ℕ, ◌<◌, ◌^◌, List, [], ◌∷◌, sym, ◌∙◌}
use Rattle.definitions.specs.declared.event.Event.{Event}
use Rattle.definitions.specs.Track.{Line}
use Rattle.definitions.specs.Story.{Story}
use Rattle.definitions.specs.Control.{last_issued}
use Rattle.definitions.specs.Steps.{story_of}
use Rattle.definitions.specs.Safe.{Safe, IsLineOfOneZone, Kept, AllGranted}
use Rattle.event_laws.proofs.Admitted.{admitted}
use Rattle.journey_laws.proofs.Timed_story.{timed_story}
use Rattle.journey_laws.proofs.Invariant.{Invariant}
use Rattle.safe_laws.proofs.Covers_now.{covers_now, within_now, way_held_now}
use Rattle.safe_laws.proofs.Keeps_track.{keeps_track}
use Rattle.safe_laws.proofs.Apart_step.{Apart, apart_start, apart_step}
use Rattle.safe_laws.proofs.Granted_step.{granted_step}

pub granted_story : (line : Line) (es : List Event) → IsLineOfOneZone line → Kept line es → ((t : ℕ) → (ts : List Event) → Kept line ts → Invariant line t (story_of line ts)) → AllGranted line es
unfolding story_of Kept AllGranted
granted_story line [] l k invariant = tt
granted_story line (e ∷ es) l k invariant = (
  granted_step line (story_of line es) e l (admitted line (story_of line es) e k.0) (timed_story line es k.1) (λ t. invariant t es k.1) (λ t. invariant t (e ∷ es) k),
  granted_story line es l k.1 invariant,
)

apart_story : (line : Line) (es : List Event) → IsLineOfOneZone line → Kept line es → AllGranted line es → Apart line (story_of line es)
unfolding story_of Kept AllGranted
apart_story line [] l k g = apart_start line
apart_story line (e ∷ es) l k g = apart_step line (story_of line es) e g.0 (apart_story line es l k.1 g.1)

-- where the numbers of authorities are small, and so the marks
pub safe_story : (line : Line) (es : List Event) → IsLineOfOneZone line → Kept line es → ((t : ℕ) → last_issued t (story_of line es) < 2 ^ 27)
    → ((t : ℕ) → (ts : List Event) → Kept line ts → Invariant line t (story_of line ts)) → Safe line (story_of line es)
safe_story line es l k numbers invariant =
    let s : Story = story_of line es in
    let timed = timed_story line es k in
    record {
      covers = covers_now line s l timed (λ t. invariant t es k);
      moments = timed.nows;
      within = within_now line s l timed (λ t. invariant t es k);
      way_held = way_held_now line s l timed (λ t. invariant t es k);
      on_track = λ t on. keeps_track line t s l (invariant t es k) on (numbers t);
      apart = apart_story line es l k (granted_story line es l k invariant);
      one_controller = λ y z t h i. (invariant t es k).authorized.zone_alone y h ∙ sym ((invariant t es k).authorized.zone_alone z i);
    }
