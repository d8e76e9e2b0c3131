-- The way of a train that its zone controls: on its one route, from the least rear to the end of the longest authority.
use Rattle.std.proofs.Common.{◌≡◌, ℕ, ◌+◌, ◌-◌, ◌<◌, ◌≤◌, take, Some, true, ap, subst, arith}
use Rattle.track_points.specs.Points.{total}
use Rattle.definitions.specs.Track.{Line, seg_len}
use Rattle.definitions.specs.Rules.{is_line}
use Rattle.definitions.specs.Ways.{steps_behind, way_between}
use Rattle.definitions.specs.Story.{Story}
use Rattle.definitions.specs.World.{journey}
use Rattle.definitions.specs.Control.{controls, known_facts}
use Rattle.definitions.specs.Longest.{longest_end, longest_route}
use Rattle.definitions.specs.Fronts.{least_rear, greatest_front}
use Rattle.definitions.specs.Authority.{way}
use Rattle.definitions.specs.Zones.{zone_id}
use Rattle.journey_laws.proofs.One_route.{kept_reach}
use Rattle.journey_laws.proofs.Invariant.{Invariant}
use Rattle.step_laws.proofs.Head_place.{control_of}
use Rattle.step_laws.proofs.Entry_fronts.{known_long}
use Rattle.step_laws.proofs.Fronts_numbers.{least_rear_is, greatest_front_is}
use Rattle.step_laws.proofs.Ends_narrowed.{least_front_is}
use Rattle.step_laws.proofs.Way_begins.{way_begins}

-- where the parts of the way lie
pub record WayOf (line : Line) (t : ℕ) (s : Story) (lo hi : ℕ) : Type 0 where
  pub is : way line (zone_id line) t s ≡ Some (way_between (seg_len line) (longest_route line t s) (lo - (known_facts (zone_id line) t s).long) (longest_end line t s))
  pub rear : least_rear line (zone_id line) t s ≡ lo - (known_facts (zone_id line) t s).long
  pub least : least_rear line (zone_id line) t s + (known_facts (zone_id line) t s).long ≡ lo
  pub greatest : greatest_front line (zone_id line) t s ≡ hi
  pub order : lo - (known_facts (zone_id line) t s).long < lo
  pub ordered : lo ≤ hi
  pub within : hi ≤ longest_end line t s
  pub room : longest_end line t s ≤ total (seg_len line) (longest_route line t s)

pub way_of : (line : Line) (t : ℕ) (s : Story) → is_line line ≡ true → (invariant : Invariant line t s) → (c : controls (zone_id line) t s ≡ true)
    → WayOf line t s (invariant.fronts c).lo (invariant.fronts c).hi
way_of line t s valid invariant c =
    let k = control_of line t s valid invariant c in
    let f = invariant.fronts c in
    let r = least_rear_is line t s f in
    let l = least_front_is line t s f k in
    let d = invariant.authorized.long_some k.declared in
    let same = known_long t s (known_facts (zone_id line) t s) k.facts in
    let w = f.within in
    let o = f.ordered in
    record {
      is = rw c (ap (λ (p : ℕ). Some (way_between (seg_len line) (longest_route line t s) p (longest_end line t s))) r);
      rear = r;
      least = l;
      greatest = greatest_front_is line t s f;
      order = omega (arith, l, r, d, same);
      ordered = o;
      within = w;
      room = kept_reach line t s invariant.authorized c;
    }

-- the journey has the steps before it
pub way_before : (line : Line) (t : ℕ) (s : Story) → is_line line ≡ true → (invariant : Invariant line t s) → (c : controls (zone_id line) t s ≡ true)
    → take (steps_behind (seg_len line) (longest_route line t s) ((invariant.fronts c).lo - (known_facts (zone_id line) t s).long)) (journey line t s)
    ≡ take (steps_behind (seg_len line) (longest_route line t s) ((invariant.fronts c).lo - (known_facts (zone_id line) t s).long)) (longest_route line t s)
way_before line t s valid invariant c =
    let f = invariant.fronts c in
    subst (λ (rear : ℕ). take (steps_behind (seg_len line) (longest_route line t s) rear) (journey line t s) ≡ take (steps_behind (seg_len line) (longest_route line t s) rear) (longest_route line t s))
    (least_rear_is line t s f) (way_begins line t s invariant.motion invariant.authorized c f valid)
