-- The first steps of a journey stay as it goes on, so each authority keeps its route, and ends where it did.
use Rattle.std.proofs.Common.{◌≡◌, ℕ, ◌+◌, ◌<◌, ◌≤◌, List, [], ◌∷◌, ◌++◌, length, take, Option, Some, None, true, false, refl, sym, ◌∙◌, ap, arith, nat_le}
use Rattle.std.proofs.lemmas.Bool.Decides.{nat_tests}
use Rattle.std.proofs.lemmas.List.{length-take}
use Rattle.track_points.specs.declared.ids.DirSeg.{DirSeg}
use Rattle.track_points.specs.Points.{total, end_place, steps_to}
use Rattle.definitions.specs.Track.{Line, seg_len}
use Rattle.definitions.specs.Story.{Transition, Story}
use Rattle.definitions.specs.World.{first_entry, entered, head, Authority, route, authority_end, journey}
use Rattle.definitions.specs.Control.{controls}
use Rattle.definitions.specs.Farther.{end_or_0}
use Rattle.definitions.specs.Longest.{longest_route}
use Rattle.definitions.specs.Zones.{zone_id}
use Rattle.journey_laws.proofs.Motion.{Motion}
use Rattle.way_laws.proofs.Cut_front.{cut_some, cut_total}
use Rattle.journey_laws.proofs.Journey_track.{journey_begins, journey_ends, first_steps}
use Rattle.journey_laws.proofs.Invariant.{step_begin, SomeIs, Authorized}
use Rattle.journey_laws.proofs.One_route.{kept_some, kept_reach, one_route}

abbrev pub FirstSteps : Line → ℕ → Transition → Story → Type 0
FirstSteps line t x s = (n : ℕ) → n ≤ length (journey line t s) → take n (journey line t (x ∷ s)) ≡ take n (journey line t s)

module _ (line : Line) (t : ℕ) (x : Transition) (s : Story) (first : FirstSteps line t x s) where
  pub journey_longer : length (journey line t s) ≤ length (journey line t (x ∷ s))
  journey_longer =
      let n = length (journey line t s) in
      let e = ap (λ (xs : List DirSeg). length xs) (first n (omega arith)) in
      let a = length-take n (journey line t (x ∷ s)) in
      let b = length-take n (journey line t s) in
      omega (arith, e, a, b)

  pub begin_same : (mark : ℕ) → mark ≤ length (journey line t s) → step_begin line t (x ∷ s) mark ≡ step_begin line t s mark
  begin_same mark m = ap (total (seg_len line)) (first mark m)

  pub end_same : (a : Authority) → a.mark ≤ length (journey line t s) → authority_end (seg_len line) (journey line t (x ∷ s)) a ≡ authority_end (seg_len line) (journey line t s) a
  end_same a m = ap (λ xs. total (seg_len line) xs + end_place (seg_len line) a.path) (first a.mark m)

  pub route_same : (a : Authority) → a.mark ≤ length (journey line t s) → route (journey line t (x ∷ s)) a ≡ route (journey line t s) a
  route_same a m = ap (λ xs. xs ++ a.path.steps.items) (first a.mark m)

  pub read_same : (r : Option Authority) → SomeIs (λ a. a.mark ≤ length (journey line t s)) r → end_or_0 (seg_len line) (journey line t (x ∷ s)) r ≡ end_or_0 (seg_len line) (journey line t s) r
  read_same None m = refl
  read_same (Some a) m = end_same a m

-- before a train comes on its journey is its first step
pub off_journey : (line : Line) (t : ℕ) (s : Story) (st : DirSeg) → Motion t s → first_entry t s ≡ Some st → entered t s ≡ false → journey line t s ≡ st ∷ []
unfolding steps_to
off_journey line t s st motion first off =
    let j = journey_begins line t st s first in
    let z = motion.unborn off in
    let none : nat_le 0 (seg_len line st.seg.0) ≡ true = grind (arith, nat_tests) in
    sym (journey_ends line t s) ∙ ap (λ (p : ℕ). steps_to (seg_len line) (journey line t s) p) z ∙ ap (λ (xs : List DirSeg). steps_to (seg_len line) xs 0) j.1 ∙ rw none refl

-- of a train that its zone controls
module _ (line : Line) (t : ℕ) (s : Story) (k : Authorized line t s) (c : controls (zone_id line) t s ≡ true) (motion : Motion t s) where
  pub controlled_some : 0 < length (journey line t s)
  controlled_some =
      let e = ap (λ (xs : List DirSeg). length xs) (k.controlled c).journey_on in
      let some = cut_some (seg_len line) (longest_route line t s) (head t s) (kept_some line t s k c) in
      omega (arith, e, some)

  pub controlled_reaches : head t s ≤ total (seg_len line) (journey line t s)
  controlled_reaches =
      let h = (one_route line t s k c motion).head_within in
      let r = kept_reach line t s k c in
      let e = ap (total (seg_len line)) (k.controlled c).journey_on in
      let room = cut_total (seg_len line) (longest_route line t s) (head t s) (omega (arith, h, r)) in
      omega (arith, e, room)

  pub controlled_first : (x : Transition) → head t s ≤ head t (x ∷ s) → FirstSteps line t x s
  controlled_first x le n few = first_steps line t x s n controlled_some controlled_reaches le few
