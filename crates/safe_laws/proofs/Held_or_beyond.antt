-- What one transition makes of what is held for a train: its rear moves on, and its route goes on or is cut.
use Rattle.std.proofs.Common.{◌≡◌, ℕ, ◌<◌, ◌≤◌, ◌∷◌, Some, true, false, sym, ◌∙◌, ap, arith}
use Rattle.std.proofs.lemmas.Bool.Decides.{nat_tests}
use Rattle.std.specs.Prelude.{nat_le}
use Rattle.list_laws.proofs.By_test.{by_test}
use Rattle.track_points.specs.Points.{Point, has_between, steps_to}
use Rattle.step_laws.proofs.Fronts_from.{fronts_from}
use Rattle.definitions.specs.Track.{Line, seg_len, layout}
use Rattle.definitions.specs.Story.{Transition, Story}
use Rattle.definitions.specs.World.{long_of, first_entry, head}
use Rattle.definitions.specs.Control.{grants_entry, controls, now_of}
use Rattle.definitions.specs.Longest.{longest_end, longest_route}
use Rattle.definitions.specs.Fronts.{possible_front, least_rear}
use Rattle.definitions.specs.Authority.{held}
use Rattle.definitions.specs.Safe.{IsLineOfOneZone}
use Rattle.definitions.specs.Zones.{zone_id}
use Rattle.event_laws.proofs.Controls_same.{controls_stays}
use Rattle.event_laws.proofs.Facts_stay.{long_stays, first_stays}
use Rattle.journey_laws.proofs.Motion.{place, place_at_most}
use Rattle.journey_laws.proofs.Invariant.{ControlIs, FrontsAre, Invariant}
use Rattle.safe_laws.proofs.Points_cases.{range_in, range_least, points_cases}
use Rattle.step_laws.proofs.Head_place.{place_within}
use Rattle.way_laws.proofs.Cut_front.{cut_points}
use Rattle.way_laws.proofs.Cut_cut.{cut_cut}
use Rattle.track_points.proofs.Points_found.{points_wider}
use Rattle.step_laws.proofs.Route_goes_on.{route_goes_on, end_goes_on, end_nearer, route_cut}
use Rattle.step_laws.proofs.Taken_counts.{cuts}
use Rattle.event_laws.proofs.Issued_all.{NoAuth}
use Rattle.safe_laws.proofs.Held_points.{one, route_has, rear_is, held_points, points_held}

-- A train that the zone controlled already.
module _ (line : Line) (t : ℕ) (s : Story) (x : Transition) (l : IsLineOfOneZone line) (invariant : Invariant line t s) (after : Invariant line t (x ∷ s)) (control : controls (zone_id line) t s ≡ true) where
  pub now_control : controls (zone_id line) t (x ∷ s) ≡ true
  now_control = controls_stays (zone_id line) t x s control

  abbrev c : ControlIs line t s
  c = invariant.authorized.controlled control

  abbrev f : FrontsAre line t s
  f = invariant.fronts control

  abbrev c2 : ControlIs line t (x ∷ s)
  c2 = after.authorized.controlled now_control

  abbrev f2 : FrontsAre line t (x ∷ s)
  f2 = after.fronts now_control

  pub first_now : first_entry t (x ∷ s) ≡ Some (invariant.authorized.controlled control).step
  first_now = first_stays t x s c.step c.first

  long_same : long_of t (x ∷ s) ≡ long_of t s
  long_same = long_stays t x s c.declared

  pub held_now : (point : Point) → route_has line t (x ∷ s) (least_rear line (zone_id line) t (x ∷ s)) (longest_end line t (x ∷ s)) point ≡ true → held line (zone_id line) t (x ∷ s) point ≡ true
  held_now point h = points_held line t (x ∷ s) l after now_control point h

  rear_rises : grants_entry (zone_id line) t x ≡ false → least_rear line (zone_id line) t s ≤ least_rear line (zone_id line) t (x ∷ s)
  rear_rises refused =
      let r = rear_is line t s l invariant control in
      let r2 = rear_is line t (x ∷ s) l after now_control in
      let lo : f.lo ≤ f2.lo = fronts_from line (zone_id line) t s f.lo x refused
      (λ g h. range_least (possible_front line (zone_id line) t s) f.lo f.hi g f.is h)
      f2.lo (range_in (possible_front line (zone_id line) t (x ∷ s)) f2.lo f2.hi f2.lo f2.is (omega arith) f2.ordered) in
      let k = long_same in
      omega arith

  -- while the train stands, its least rear is before the old end
  pub rear_most : place t (x ∷ s) ≡ place t s → least_rear line (zone_id line) t (x ∷ s) ≤ longest_end line t s
  rear_most still =
      let r2 = rear_is line t (x ∷ s) l after now_control in
      let low = f2.low in
      let p = place_at_most t (now_of (zone_id line) (x ∷ s)) (x ∷ s) after.motion in
      let q = place_within line t s l.valid invariant control in
      omega arith

  -- where no shrink counts as taken
  module _ (heads : head t s ≤ head t (x ∷ s)) (uncut : cuts line t x s ≡ false) where
    -- the one route has the points that it had, up to the old end
    same_points : (lo hi : ℕ) (point : Point) → hi ≤ longest_end line t s → route_has line t (x ∷ s) lo hi point ≡ route_has line t s lo hi point
    same_points lo hi point h =
        let len = seg_len line in
        let r = (one line t s l invariant control).reach in
        let r2 = (one line t (x ∷ s) l after now_control).reach in
        let grown = end_goes_on line t s x invariant.motion invariant.authorized after.authorized control now_control heads uncut in
        let goes : steps_to len (longest_route line t (x ∷ s)) hi ≡ steps_to len (longest_route line t s) hi =
        sym (cut_cut len (longest_route line t (x ∷ s)) hi (longest_end line t s) h)
        ∙ ap (λ xs. steps_to len xs hi) (route_goes_on line t s x invariant.motion invariant.authorized after.authorized control now_control heads uncut) in
        sym (cut_points point (layout line) (longest_route line t (x ∷ s)) lo hi (omega (arith, h, r2, grown)))
        ∙ ap (λ xs. has_between (layout line) xs lo hi point) goes
        ∙ cut_points point (layout line) (longest_route line t s) lo hi (omega (arith, h, r))

    -- what is held now was held, or lies beyond the old end
    pub held_or_beyond : grants_entry (zone_id line) t x ≡ false → (point : Point) → held line (zone_id line) t (x ∷ s) point ≡ true
        → (G : Type 0) → (held line (zone_id line) t s point ≡ true → G)
        → (longest_end line t s < longest_end line t (x ∷ s) → route_has line t (x ∷ s) (longest_end line t s) (longest_end line t (x ∷ s)) point ≡ true → G) → G
    held_or_beyond refused point h G old new =
        let r = rear_rises refused in
        let here = held_points line t (x ∷ s) l after now_control point h in
        let rear_ = least_rear line (zone_id line) t s in
        let rear2 = least_rear line (zone_id line) t (x ∷ s) in
        let end = longest_end line t s in
        let end2 = longest_end line t (x ∷ s) in
        let before : (p : ℕ) → p ≤ end → (lo : ℕ) → rear_ ≤ lo → route_has line t (x ∷ s) lo p point ≡ true → held line (zone_id line) t s point ≡ true =
        λ p e lo q k. points_held line t s l invariant control point
        (points_wider point (layout line) (longest_route line t s) lo p rear_ end q e (sym (same_points lo p point e) ∙ k)) in
        by_test (nat_le end2 end)
        (λ y. old (before end2 (grind (arith, nat_tests)) rear2 r here))
        (λ n.
        let cases = points_cases point (layout line) (longest_route line t (x ∷ s)) rear_ end rear2 end2 r here in
        by_test (route_has line t (x ∷ s) rear_ end point)
        (λ a. old (before end (omega arith) rear_ (omega arith) a))
        (λ b. new (grind (arith, nat_tests)) (rw b at cases)))

  -- where one does, what is held now was held: the one route is cut, and its rear moves on
  pub held_cut : head t s ≤ head t (x ∷ s) → cuts line t x s ≡ true → NoAuth t x.issued → grants_entry (zone_id line) t x ≡ false → (point : Point) → held line (zone_id line) t (x ∷ s) point ≡ true
      → held line (zone_id line) t s point ≡ true
  held_cut heads taken quiet refused point h =
      let rear_ = least_rear line (zone_id line) t s in
      let rear2 = least_rear line (zone_id line) t (x ∷ s) in
      let end = longest_end line t s in
      let end2 = longest_end line t (x ∷ s) in
      let r = rear_rises refused in
      let reach = (one line t s l invariant control).reach in
      let nearer = end_nearer line t s x invariant.motion invariant.authorized after.authorized control now_control heads taken quiet in
      let here = held_points line t (x ∷ s) l after now_control point h in
      let on : route_has line t s rear2 end2 point ≡ true =
      sym (cut_points point (layout line) (longest_route line t s) rear2 end2 (omega (arith, nearer, reach)))
      ∙ ap (λ xs. has_between (layout line) xs rear2 end2 point) (sym (route_cut line t s x invariant.motion invariant.authorized after.authorized control now_control heads taken quiet))
      ∙ here in
      points_held line t s l invariant control point (points_wider point (layout line) (longest_route line t s) rear2 end2 rear_ end r (omega (arith, nearer)) on)
