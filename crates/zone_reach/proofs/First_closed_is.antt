-- The walk finds the first closed place.
use Rattle.std.proofs.Common.{◌≡◌, ℕ, ◌-◌, ◌≤◌, ◌<◌, Bool, true, false, List, [], ◌∷◌, refl, arith, nat_lt}
use Rattle.std.proofs.lemmas.Bool.Decides.{nat_tests}
use Rattle.list_laws.proofs.By_test.{by_test}
use Rattle.track_points.specs.declared.ids.DirSeg.{DirSeg}
use Rattle.track_points.specs.Points.{total}
use Rattle.definitions.specs.Track.{Line, seg_len}
use Rattle.definitions.specs.Limit.{on_step, lies_closed}
use Rattle.plain_state.specs.Zone.{barring_plain}
use Rattle.zone_reach.specs.Closed.{closed_on, first_closed}
use Rattle.zone_reach.proofs.First_place_is.{IsNearest, nearest_none, IsTested, first_place_is, none_behind}

-- a closed segment of the zone's own
abbrev pub closed_on_zone : Line → ℕ → List Bool → ℕ → Bool
closed_on_zone line z closed = (barring_plain line z [] closed 0).closed

-- the place is of one
abbrev pub closed_place : Line → ℕ → List Bool → List DirSeg → ℕ → Bool
closed_place line z closed asked p = lies_closed (closed_on_zone line z closed) (on_step (seg_len line) asked p)

closed_here : (line : Line) (z : ℕ) (closed : List Bool) (st : DirSeg) (asked : List DirSeg) (p : ℕ) → p < seg_len line st.seg.0
    → closed_place line z closed (st ∷ asked) p ≡ closed_on_zone line z closed st.seg.0
unfolding on_step
closed_here line z closed st asked p h = let y : nat_lt p (seg_len line st.seg.0) ≡ true = grind (arith, nat_tests) in rw y refl

closed_beyond : (line : Line) (z : ℕ) (closed : List Bool) (st : DirSeg) (asked : List DirSeg) (p : ℕ) → seg_len line st.seg.0 ≤ p
    → closed_place line z closed (st ∷ asked) p ≡ closed_place line z closed asked (p - seg_len line st.seg.0)
unfolding on_step
closed_beyond line z closed st asked p h = let n : nat_lt p (seg_len line st.seg.0) ≡ false = grind (arith, nat_tests) in rw n refl

closed_tested : (line : Line) (z : ℕ) (closed : List Bool) → IsTested (seg_len line) (λ st p. closed_on_zone line z closed st.seg.0) (closed_place line z closed)
unfolding on_step
closed_tested line z closed = record { none = λ p. refl; here = closed_here line z closed; beyond = closed_beyond line z closed }

on_closed : (line : Line) (z : ℕ) (closed : List Bool) (st : DirSeg) (from : ℕ)
    → IsNearest (λ p. closed_on_zone line z closed st.seg.0) (seg_len line st.seg.0) from (closed_on line z closed st from)
on_closed line z closed st from =
    by_test (closed_on_zone line z closed st.seg.0)
    (λ y. rw y record { within = omega arith; after = λ h. omega arith; there = λ h. refl; before = λ k f h. absurd (omega arith) })
    (λ n. rw n (nearest_none (λ k. false) (seg_len line st.seg.0) from (λ k h. refl)))

-- nothing is closed beyond the end of the steps
pub closed_behind : (line : Line) (z : ℕ) (closed : List Bool) (asked : List DirSeg) (p : ℕ) → total (seg_len line) asked ≤ p → closed_place line z closed asked p ≡ false
closed_behind line z closed = none_behind (seg_len line) _ _ (closed_tested line z closed)

pub first_closed_is : (line : Line) (z : ℕ) (closed : List Bool) (asked : List DirSeg) (from : ℕ)
    → IsNearest (closed_place line z closed asked) (total (seg_len line) asked) from (first_closed line z closed asked from)
first_closed_is line z closed = first_place_is (seg_len line) _ _ (closed_tested line z closed) (closed_on line z closed) (on_closed line z closed)
