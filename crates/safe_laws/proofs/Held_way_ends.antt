-- The way of a controlled train, and where it ends.
use Rattle.std.proofs.Common.{◌≡◌, ℕ, ◌+◌, ◌<◌, ◌≤◌, ◌∷◌, length, take, true, false, ap, arith}
use Rattle.track_points.specs.Points.{total, end_place}
use Rattle.definitions.specs.Track.{Line, seg_len}
use Rattle.definitions.specs.Story.{Transition, Story}
use Rattle.definitions.specs.World.{goes_on, authority_end, journey}
use Rattle.definitions.specs.Control.{controls}
use Rattle.definitions.specs.Longest.{longest_end, longest_route}
use Rattle.definitions.specs.Fronts.{least_rear}
use Rattle.definitions.specs.Safe.{IsLineOfOneZone}
use Rattle.definitions.specs.Zones.{zone_id}
use Rattle.definitions.specs.Steps.{path_to}
use Rattle.way_laws.proofs.Cut_front.{cut_end}
use Rattle.way_laws.proofs.Between_points.{between_some, between_end, between_within}
use Rattle.event_laws.proofs.Still_world.{journey_still}
use Rattle.journey_laws.proofs.Invariant.{Invariant}
use Rattle.step_laws.proofs.Way_begins.{way_begins}
use Rattle.safe_laws.proofs.Held_points.{one, held_way, rear_before}

module _ (line : Line) (t : ℕ) (s : Story) (l : IsLineOfOneZone line) (invariant : Invariant line t s) (control : controls (zone_id line) t s ≡ true) where
  order : least_rear line (zone_id line) t s < longest_end line t s
  order = rear_before line t s l invariant control

  room : longest_end line t s ≤ total (seg_len line) (longest_route line t s)
  room = (one line t s l invariant control).reach

  pub held_way_some : 0 < length (held_way line t s).path.steps.items
  held_way_some = between_some (seg_len line) (longest_route line t s) (least_rear line (zone_id line) t s) (longest_end line t s) order room

  pub held_way_within : end_place (seg_len line) (held_way line t s).path
      ≤ total (seg_len line) (held_way line t s).path.steps.items
  held_way_within = between_within (seg_len line) (longest_route line t s) (least_rear line (zone_id line) t s) (longest_end line t s) order room

  pub held_way_end : total (seg_len line) (take (held_way line t s).mark (longest_route line t s)) + end_place (seg_len line) (held_way line t s).path ≡ longest_end line t s
  held_way_end = between_end (seg_len line) (longest_route line t s) (least_rear line (zone_id line) t s) (longest_end line t s) order room

  -- so does an authority over it, at a transition at which the journey does not go on
  pub held_way_ends : (x : Transition) → goes_on t x.event ≡ false
      → authority_end (seg_len line) (journey line t (x ∷ s)) (record { mark = (held_way line t s).mark; path = (held_way line t s).path }) ≡ longest_end line t s
  held_way_ends x still =
      let m = (held_way line t s).mark in
      let j = ap (λ xs. total (seg_len line) (take m xs)) (journey_still line t x s still) in
      let b = ap (total (seg_len line)) (way_begins line t s invariant.motion invariant.authorized control (invariant.fronts control) l.valid) in
      let e = held_way_end in
      omega (arith, j, b, e)

  -- an authority over the way up to a place of it ends no farther
  pub held_way_to : (x : Transition) (p : ℕ) → goes_on t x.event ≡ false → p ≤ end_place (seg_len line) (held_way line t s).path
      → authority_end (seg_len line) (journey line t (x ∷ s)) (record { mark = (held_way line t s).mark; path = path_to (seg_len line) (held_way line t s).path.from (held_way line t s).path.steps.items p }) ≤ longest_end line t s
  held_way_to x p still before =
      let whole = held_way_ends x still in
      let within = held_way_within in
      let e = cut_end (seg_len line) (held_way line t s).path.steps.items p (omega (arith, before, within)) in
      omega (arith, whole, e, before)
