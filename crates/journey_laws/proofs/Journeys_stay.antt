-- Each journey of a train that has come on stays the front of a later one.
use Rattle.std.proofs.Common.{◌≡◌, ℕ, ◌≤◌, [], ◌∷◌, true, refl, sym, ◌∙◌, ap, arith}
use Rattle.std.specs.Prelude.{nat_le}
use Rattle.list_laws.proofs.By_test.{by_test}
use Rattle.track_points.specs.Points.{steps_to}
use Rattle.definitions.specs.Track.{Line, seg_len}
use Rattle.definitions.specs.Story.{Transition, Story}
use Rattle.definitions.specs.World.{clock, at_moment, entered, head, journey}
use Rattle.way_laws.proofs.Cut_cut.{cut_cut}
use Rattle.journey_laws.proofs.Motion.{place, place_at, Motion, place_at_most}
use Rattle.journey_laws.proofs.Journey_track.{journey_ends, journey_goes_on}
use Rattle.journey_laws.proofs.Invariant.{JourneysAre, Authorized}
use Rattle.journey_laws.proofs.One_route.{on_controls}
use Rattle.journey_laws.proofs.First_steps.{controlled_some, controlled_reaches}

pub journeys_start : (line : Line) (t : ℕ) → JourneysAre line t []
unfolding at_moment journey steps_to
journeys_start line t ms on = refl

pub journeys_stay : (line : Line) (t : ℕ) (x : Transition) (s : Story) → Motion t s → Authorized line t s → head t s ≤ head t (x ∷ s) → JourneysAre line t s → JourneysAre line t (x ∷ s)
unfolding at_moment
journeys_stay line t x s motion k heads old ms on = by_test (nat_le (clock (x ∷ s)) ms)
    (λ y. rw y (sym (journey_ends line t (x ∷ s))))
    (λ n. let before : entered t (at_moment ms s) ≡ true = rw n at on in rw n (earlier before))
  where
    earlier : entered t (at_moment ms s) ≡ true → journey line t (at_moment ms s) ≡ steps_to (seg_len line) (journey line t (x ∷ s)) (head t (at_moment ms s))
    earlier before =
        let len = seg_len line in
        let now_ = motion.on_now ms before in
        let c = on_controls line t s k now_ in
        let there : place_at t ms s ≡ head t (at_moment ms s) = rw before refl in
        let here : place t s ≡ head t s = rw now_ refl in
        let past = place_at_most t ms s motion in
        old ms before
        ∙ ap (λ xs. steps_to len xs (head t (at_moment ms s))) (sym (journey_goes_on line t x s (controlled_some line t s k c motion) (controlled_reaches line t s k c motion) heads))
        ∙ cut_cut len (journey line t (x ∷ s)) (head t (at_moment ms s)) (head t s) (omega (arith, there, here, past))
