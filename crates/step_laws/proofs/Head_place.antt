-- How far the authorities of a train reach from its head, and where the steps of its journey begin.
use Rattle.std.proofs.Common.{◌≡◌, ℕ, ◌<◌, ◌≤◌, ◌++◌, length, take, true, refl, sym, ◌∙◌, ap, arith}
use Rattle.std.proofs.lemmas.List.{take-append-le}
use Rattle.list_laws.proofs.By_test.{by_test}
use Rattle.track_points.specs.Points.{total}
use Rattle.definitions.specs.Track.{Line, seg_len}
use Rattle.definitions.specs.Rules.{is_line}
use Rattle.definitions.specs.Story.{Story}
use Rattle.definitions.specs.World.{entered, head, long_of, journey}
use Rattle.definitions.specs.Control.{controls}
use Rattle.definitions.specs.Longest.{longest_end, longest_route}
use Rattle.definitions.specs.Zones.{zone_id}
use Rattle.journey_laws.proofs.Motion.{place}
use Rattle.way_laws.proofs.Cut_front.{cut_front}
use Rattle.journey_laws.proofs.Invariant.{step_begin, ControlIs, Invariant}
use Rattle.journey_laws.proofs.One_route.{OneRoute, portal_end, one_route}
use Rattle.journey_laws.proofs.Head_on.{place_on}

-- A train that its zone controls.
module _ (line : Line) (t : ℕ) (s : Story) (valid : is_line line ≡ true) (invariant : Invariant line t s) (controlled : controls (zone_id line) t s ≡ true) where
  abbrev pub control_of : ControlIs line t s
  control_of = invariant.authorized.controlled controlled

  one : OneRoute line t s (longest_route line t s) (longest_end line t s)
  one = one_route line t s invariant.authorized controlled invariant.motion

  -- the train is not beyond its longest authority
  pub place_within : place t s ≤ longest_end line t s
  place_within = by_test (entered t s)
      (λ on. let p = place_on line t s invariant.authorized invariant.motion controlled on in let h = (one).head_within in omega (arith, p, h))
      (λ off.
      let p : place t s ≡ long_of t s = rw off refl in
      let r = control_of.room in
      let w = portal_end line t s invariant.authorized controlled off in
      omega (arith, p, r, w))

  -- on the longest route the steps of the journey begin where they do on the journey
  pub longest_mark : (mark : ℕ) → mark < length (journey line t s) → total (seg_len line) (take mark (longest_route line t s)) ≡ step_begin line t s mark
  longest_mark mark h =
      let o = one in
      let f = cut_front (seg_len line) (longest_route line t s) (head t s) in
      let g : longest_route line t s ≡ journey line t s ++ f.0 = f.1 ∙ ap (λ xs. xs ++ f.0) (sym o.journey_on) in
      ap (λ xs. total (seg_len line) (take mark xs)) g ∙ ap (total (seg_len line)) (take-append-le mark (journey line t s) f.0 (omega (arith, h)))
