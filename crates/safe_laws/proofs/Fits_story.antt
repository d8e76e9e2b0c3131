-- Each message of a history of admitted events is in its ranges, so that it has a frame.
use Rattle.std.proofs.Common.{◌≡◌, ℕ, ◌≤◌, List, [], ◌∷◌, length, Some, arith}
use Rattle.std.specs.Prelude.{slice_get}
use Rattle.definitions.specs.declared.event.Event.{Event}
use Rattle.definitions.specs.declared.message.Msg.{Msg}
use Rattle.definitions.specs.Frames.{Fits}
use Rattle.definitions.specs.Track.{Line}
use Rattle.definitions.specs.Story.{Story, sent}
use Rattle.definitions.specs.Steps.{story_of}
use Rattle.definitions.specs.Safe.{IsLineOfOneZone, Kept}
use Rattle.event_laws.proofs.Issued_all.{AllIssued, issued_all}
use Rattle.event_laws.proofs.Admitted.{admitted}
use Rattle.step_laws.proofs.Invariant_story.{invariant_story}
use Rattle.event_laws.proofs.Clock_most.{clock_most}
use Rattle.safe_laws.proofs.Facts_in_range.{facts_in_range}
use Rattle.event_laws.proofs.Number_most.{number_most}
use Rattle.safe_laws.proofs.Zone_fits.{Bounded}
use Rattle.safe_laws.proofs.Effect_fits.{effect_fits}

bounded : (line : Line) (es : List Event) → Kept line es → length es ≤ 10000000 → Bounded (story_of line es)
bounded line es k few = record {
  time = let c = clock_most line es k in omega (arith, c, few);
  numbers = λ t. let n = number_most t line es in omega (arith, n, few);
  facts = facts_in_range line es k;
}

pub all_fit : (line : Line) (es : List Event) → IsLineOfOneZone line → Kept line es → length es ≤ 10000000 → AllIssued Fits (story_of line es)
unfolding story_of AllIssued Kept
all_fit line [] one k few = tt
all_fit line (e ∷ es) one k few =
    let s : Story = story_of line es in
    let short : length es ≤ 10000000 = omega (arith, few) in (
      effect_fits line s one (bounded line es k.1 short) (λ t. invariant_story line t es one k.1) e (admitted line s e k.0) (bounded line (e ∷ es) k few) (λ t. invariant_story line t (e ∷ es) one k),
      all_fit line es one k.1 short,
    )

-- by its place on its link
pub fits_story : (line : Line) (es : List Event) (from to j : ℕ) (m : Msg) → IsLineOfOneZone line → Kept line es → length es ≤ 10000000 → slice_get (sent from to (story_of line es)) j ≡ Some m → Fits m
fits_story line es from to j m one k few is = issued_all Fits from to (story_of line es) j m (all_fit line es one k few) is
