-- What is held for a train is a part of its one route: from its least rear to the end of its longest authority.
use Rattle.std.proofs.Common.{◌≡◌, ℕ, ◌-◌, ◌<◌, ◌≤◌, Bool, true, false, List, Option, Some, refl, sym, ap, ◌∙◌, arith}
use Rattle.std.proofs.lemmas.Bool.Decides.{nat_tests}
use Rattle.std.proofs.Math.Bool.{and-false}
use Rattle.std.specs.Prelude.{nat_eq}
use Rattle.std.proofs.lemmas.Bool.{and_parts}
use Rattle.list_laws.proofs.By_test.{by_test}
use Rattle.track_points.specs.declared.ids.DirSeg.{DirSeg}
use Rattle.track_points.specs.Points.{Point, has_between}
use Rattle.definitions.specs.Track.{Line, seg_len, layout, owner}
use Rattle.definitions.specs.Ways.{PlainWay, way_between}
use Rattle.definitions.specs.Story.{Story}
use Rattle.definitions.specs.World.{long_of, entered, head, rear, Authority, authority_end, authority_has, journey}
use Rattle.definitions.specs.Control.{controls}
use Rattle.definitions.specs.Longest.{longest_end, longest_route}
use Rattle.definitions.specs.Fronts.{least_rear, greatest_front}
use Rattle.definitions.specs.Authority.{way, way_has, held}
use Rattle.definitions.specs.Safe.{IsLineOfOneZone}
use Rattle.definitions.specs.Zones.{zone_id}
use Rattle.way_laws.proofs.Cut_front.{cut_points}
use Rattle.way_laws.proofs.Between_points.{between_points}
use Rattle.journey_laws.proofs.Motion.{place}
use Rattle.journey_laws.proofs.Invariant.{AuthorityIs, ControlIs, FrontsAre, Invariant}
use Rattle.journey_laws.proofs.One_route.{OneRoute, one_route}
use Rattle.step_laws.proofs.Fronts_numbers.{greatest_front_is}
use Rattle.step_laws.proofs.Way_begins.{rear_before_least, way_behind}
use Rattle.safe_laws.proofs.Points_owner.{points_owner}

-- the way of a train that the line's zone controls
abbrev pub held_way : Line → ℕ → Story → PlainWay
held_way line t s = way_between (seg_len line) (longest_route line t s) (least_rear line (zone_id line) t s) (longest_end line t s)

-- the one route of a train has a point between two places
abbrev pub route_has : Line → ℕ → Story → ℕ → ℕ → Point → Bool
route_has line t s lo hi point = has_between (layout line) (longest_route line t s) lo hi point

-- A zone holds nothing for a train that it does not control.

pub held_none : (line : Line) (z t : ℕ) (s : Story) (point : Point) → controls z t s ≡ false → held line z t s point ≡ false
held_none line z t s point n = rw n (and-false (nat_eq (owner line point) z))

pub held_controls : (line : Line) (z t : ℕ) (s : Story) (point : Point) → held line z t s point ≡ true → controls z t s ≡ true
held_controls line z t s point h = by_test (controls z t s)
    (λ y. y)
    (λ n. absurd (let c : false ≡ true = sym (held_none line z t s point n) ∙ h in cc))

-- What is held for a train that the zone controls.
module _ (line : Line) (t : ℕ) (s : Story) (l : IsLineOfOneZone line) (invariant : Invariant line t s) (control : controls (zone_id line) t s ≡ true) where
  abbrev c : ControlIs line t s
  c = invariant.authorized.controlled control

  abbrev f : FrontsAre line t s
  f = invariant.fronts control

  pub one : OneRoute line t s (longest_route line t s) (longest_end line t s)
  one = one_route line t s invariant.authorized control invariant.motion

  pub rear_is : least_rear line (zone_id line) t s ≡ (invariant.fronts control).lo - long_of t s
  rear_is = rear_before_least line t s invariant.motion invariant.authorized control f

  pub front_is : greatest_front line (zone_id line) t s ≡ (invariant.fronts control).hi
  front_is = greatest_front_is line t s f

  pub rear_before : least_rear line (zone_id line) t s < longest_end line t s
  rear_before =
      let o = f.ordered in let w = f.within in let r = rear_is in let long = invariant.authorized.long_some c.declared in let m = f.long in
      omega arith

  -- the least rear is not before the true one
  pub rear_behind : entered t s ≡ true → least_rear line (zone_id line) t s ≤ rear t s
  rear_behind on =
      let b = way_behind line t s invariant.motion invariant.authorized control f in
      let p : place t s ≡ head t s = rw on refl in
      omega (arith, b, p)

  -- the way is the one between the rear and the end
  pub way_is : way line (zone_id line) t s ≡ Some (held_way line t s)
  way_is = rw control refl

  -- Points.

  pub way_points : (point : Point) → way_has (layout line) (way line (zone_id line) t s) point ≡ route_has line t s (least_rear line (zone_id line) t s) (longest_end line t s) point
  way_points point =
      ap (λ (w : Option PlainWay). way_has (layout line) w point) way_is
      ∙ between_points (layout line) (longest_route line t s) (least_rear line (zone_id line) t s) (longest_end line t s) rear_before (one).reach point

  -- an authority has the points of the one route up to its end
  pub auth_points : (from : ℕ) (a : Authority) (point : Point) → AuthorityIs line t s a
      → authority_has (layout line) (journey line t s) from a point ≡ route_has line t s from (authority_end (seg_len line) (journey line t s) a) point
  auth_points from a point auth =
      let w = auth.within in
      let r = (one).reach in
      ap (λ (xs : List DirSeg). has_between (layout line) xs from (authority_end (seg_len line) (journey line t s) a) point) auth.on
      ∙ cut_points point (layout line) (longest_route line t s) from (authority_end (seg_len line) (journey line t s) a) (omega (arith, w, r))

  -- each point of the route is the zone's
  pub route_owner : (lo hi : ℕ) (point : Point) → route_has line t s lo hi point ≡ true → owner line point ≡ zone_id line
  route_owner lo hi point h = points_owner line (longest_route line t s) lo hi point l (one).own h

  pub points_held : (point : Point) → route_has line t s (least_rear line (zone_id line) t s) (longest_end line t s) point ≡ true → held line (zone_id line) t s point ≡ true
  points_held point h =
      let own = route_owner (least_rear line (zone_id line) t s) (longest_end line t s) point h in
      let same : nat_eq (owner line point) (zone_id line) ≡ true = grind (arith, nat_tests) in
      let has = way_points point ∙ h in
      rw (has, same) refl

  pub held_points : (point : Point) → held line (zone_id line) t s point ≡ true → route_has line t s (least_rear line (zone_id line) t s) (longest_end line t s) point ≡ true
  held_points point h =
      sym (way_points point) ∙ (and_parts (nat_eq (owner line point) (zone_id line)) _ h).1
