-- The clock rises by at most 60,000 ms with each event.
use Rattle.std.proofs.Common.{◌≡◌, ◌*◌, ◌≤◌, List, [], ◌∷◌, length, true, ap, arith}
use Rattle.std.proofs.lemmas.Bool.Decides.{nat_tests}
use Rattle.definitions.specs.declared.event.Event.{Event}
use Rattle.definitions.specs.declared.event.Event.TheVariants.{Step}
use Rattle.definitions.specs.Track.{Line}
use Rattle.definitions.specs.Story.{Story}
use Rattle.definitions.specs.World.{elapsed, clock}
use Rattle.definitions.specs.Premises.{built}
use Rattle.definitions.specs.Steps.{effects, story_of}
use Rattle.definitions.specs.Safe.{Kept}
use Rattle.event_laws.proofs.Admitted.{admitted}
use Rattle.event_laws.proofs.Moment_most.{clock_next}
use Rattle.event_laws.proofs.By_does.{effect_event}

elapsed_most : (line : Line) (s : Story) (e : Event) → built line s e ≡ true → elapsed e ≤ 60000
elapsed_most line s (Step ms moves) h = grind (arith, nat_tests)
elapsed_most line s _ h = omega arith

pub clock_most : (line : Line) (es : List Event) → Kept line es → clock (story_of line es) ≤ 60000 * length es
unfolding story_of clock Kept
clock_most line [] k = omega arith
clock_most line (e ∷ es) k =
    let i = clock_most line es k.1 in
    let n = clock_next (effects line (story_of line es) e) (story_of line es) in
    let same = ap elapsed (effect_event line (story_of line es) e) in
    let most = elapsed_most line (story_of line es) e (admitted line (story_of line es) e k.0).form in
    omega arith
