-- What an event leaves that issues no authority of a train.
use Rattle.std.proofs.Common.{◌≡◌, ℕ, ◌≤◌, ◌∷◌, true, false, arith}
use Rattle.list_laws.proofs.By_test.{by_test}
use Rattle.definitions.specs.Track.{Line}
use Rattle.definitions.specs.Story.{Transition, Story}
use Rattle.definitions.specs.World.{head}
use Rattle.definitions.specs.Control.{controls}
use Rattle.definitions.specs.Longest.{longest_end}
use Rattle.definitions.specs.Safe.{IsLineOfOneZone}
use Rattle.definitions.specs.Zones.{zone_id}
use Rattle.event_laws.proofs.Issued_all.{NoAuth}
use Rattle.journey_laws.proofs.Invariant.{Invariant}
use Rattle.step_laws.proofs.Taken_counts.{cuts}
use Rattle.step_laws.proofs.Route_goes_on.{end_quiet}
use Rattle.refinement_laws.proofs.The_zone.{zone_positive}

-- the longest authority ends where it did, but for a shrink that counts as taken
pub end_same : (line : Line) (t : ℕ) (x : Transition) (s : Story) → NoAuth t x.issued → (invariant : Invariant line t s) → (after : Invariant line t (x ∷ s)) → controls (zone_id line) t s ≡ true → controls (zone_id line) t (x ∷ s) ≡ true
    → head t s ≤ head t (x ∷ s) → cuts line t x s ≡ false → longest_end line t (x ∷ s) ≡ longest_end line t s
end_same line t x s a invariant after c d heads calm = end_quiet line t s x invariant.motion invariant.authorized after.authorized c d heads calm a

-- the world controls no train
pub world_controls : (line : Line) (t : ℕ) (s : Story) → IsLineOfOneZone line → Invariant line t s → controls 0 t s ≡ false
world_controls line t s l invariant = by_test (controls 0 t s)
    (λ y. let z = invariant.authorized.zone_alone 0 y in let p = zone_positive line l in absurd (omega (arith, z, p)))
    (λ n. n)
