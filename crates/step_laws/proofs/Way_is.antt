-- The way of a controlled train: between its least rear and its longest end, on its one route.
use Rattle.std.proofs.Common.{◌≡◌, ℕ, ◌-◌, ◌≤◌, ◌<◌, Option, Some, true, refl, sym, ap, arith}
use Rattle.track_points.specs.Points.{total}
use Rattle.definitions.specs.Track.{Line, seg_len}
use Rattle.definitions.specs.Ways.{way_between}
use Rattle.definitions.specs.Story.{Story}
use Rattle.definitions.specs.World.{Facts, facts_or, long_of}
use Rattle.definitions.specs.Control.{controls, known_facts}
use Rattle.definitions.specs.Longest.{longest_end, longest_route}
use Rattle.definitions.specs.Fronts.{least_rear, greatest_front}
use Rattle.definitions.specs.Authority.{way}
use Rattle.definitions.specs.Zones.{zone_id}
use Rattle.journey_laws.proofs.Invariant.{FrontsAre, Authorized, Invariant}
use Rattle.journey_laws.proofs.One_route.{kept_reach}
use Rattle.step_laws.proofs.Fronts_numbers.{fronts_numbers}

pub record WayIs (line : Line) (t : ℕ) (s : Story) (k : FrontsAre line t s) : Type 0 where
  pub is : way line (zone_id line) t s ≡ Some (way_between (seg_len line) (longest_route line t s) (least_rear line (zone_id line) t s) (longest_end line t s))
  pub within : longest_end line t s ≤ total (seg_len line) (longest_route line t s)
  pub order : least_rear line (zone_id line) t s < longest_end line t s
  pub rear : least_rear line (zone_id line) t s ≡ k.lo - long_of t s
  pub greatest : greatest_front line (zone_id line) t s ≡ k.hi

module _ (line : Line) (t : ℕ) (s : Story) (k : Authorized line t s) (c : controls (zone_id line) t s ≡ true) where
  known_long : (known_facts (zone_id line) t s).long ≡ long_of t s
  known_long = sym (ap (λ (f : Option Facts). (facts_or f).long) (k.controlled c).facts)

  pub way_facts : (f : FrontsAre line t s) → WayIs line t s f
  way_facts f =
      let numbers = fronts_numbers line t s f in
      let first = numbers.least in
      let long = known_long in
      let some = k.long_some (k.controlled c).declared in
      let ahead = f.long in
      let within = f.within in
      let ordered = f.ordered in
      record {
        is = rw c refl;
        within = kept_reach line t s k c;
        order = omega (arith, first, long, some, ahead, within, ordered);
        rear = omega (arith, first, long);
        greatest = numbers.greatest;
      }

pub way_is : (line : Line) (t : ℕ) (s : Story) → (k : Invariant line t s) → (c : controls (zone_id line) t s ≡ true) → WayIs line t s (k.fronts c)
way_is line t s k c = way_facts line t s k.authorized c (k.fronts c)
