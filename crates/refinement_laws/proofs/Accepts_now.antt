-- A train on the line decides on an authority, by what it keeps, as the story does.
use Rattle.std.proofs.Common.{◌≡◌, ℕ, ◌+◌, ◌-◌, ◌<◌, ◌≤◌, length, take, Option, Some, None, true, ◌&&◌, refl, ◌∙◌, ap, arith}
use Rattle.std.proofs.lemmas.Bool.{and_parts}
use Rattle.std.specs.Prelude.{nat_le, is_some}
use Rattle.braking_table.specs.declared.table.Brake.{Brake}
use Rattle.braking_table.specs.Brake.{stop_of}
use Rattle.track_points.specs.declared.ids.DirSeg.{DirSeg}
use Rattle.track_points.specs.declared.path.Path.{Path}
use Rattle.track_points.specs.Points.{total, no_segment_twice}
use Rattle.definitions.specs.Track.{Line, seg_len, brake_of, last_step}
use Rattle.definitions.specs.Ways.{chained, path_in_range}
use Rattle.definitions.specs.Premises.{head_offset}
use Rattle.definitions.specs.Story.{Story}
use Rattle.definitions.specs.World.{Facts, facts_of, is_declared, first_entry, clock, entered, head, journey, Authority, authority_end, entry_authority, speed_now, accepts, limit_place}
use Rattle.definitions.specs.Control.{controls}
use Rattle.definitions.specs.Longest.{longest_end, longest_route}
use Rattle.definitions.specs.Steps.{sender_of}
use Rattle.definitions.specs.Zones.{zone_id}
use Rattle.plain_state.specs.declared.Head.{Head}
use Rattle.plain_state.specs.declared.Pace.{Pace}
use Rattle.plain_state.specs.declared.WorldTrain.{WorldTrain}
use Rattle.onboard.specs.declared.onboard.Onboard.{Onboard}
use Rattle.plain_state.specs.World.{find_train, last_speed, takes_at, takes_found}
use Rattle.plain_state.specs.Plain.{Plain}
use Rattle.plain_state.specs.Refinement.{head_of, pace_of, onboard_of, world_of, Refines}
use Rattle.journey_laws.proofs.Invariant.{path_fits, AuthorityIs, Invariant}
use Rattle.journey_laws.proofs.One_route.{OneRoute, one_route, on_controls}
use Rattle.journey_laws.proofs.Head_on.{head_place}
use Rattle.refinement_laws.proofs.Pace_now.{PaceIs}
use Rattle.refinement_laws.proofs.Same_place.{same_place}
use Rattle.refinement_laws.proofs.Decides_now.{decides}

-- a path that fits the line is in its range
pub range_of : (line : Line) (path : Path) → path_fits line path ≡ true → path_in_range (seg_len line) path ≡ true
range_of line path h =
    let b = and_parts (chained line path.steps.items) (no_segment_twice path.steps.items && (path_in_range (seg_len line) path && nat_le (length path.steps.items) 24)) h in
    let c = and_parts (no_segment_twice path.steps.items) (path_in_range (seg_len line) path && nat_le (length path.steps.items) 24) b.1 in
    (and_parts (path_in_range (seg_len line) path) (nat_le (length path.steps.items) 24) c.1).0

-- A train on the line.
module _ (line : Line) (t : ℕ) (s : Story) (invariant : Invariant line t s) (on : entered t s ≡ true) where
  -- where the head is
  abbrev pub head_there : Head
  head_there = record { step = last_step (journey line t s); mark = length (journey line t s) - 1; offset = head_offset line t s }

  module _ (mark : ℕ) (path : Path) (is : AuthorityIs line t s (record { mark = mark; path = path })) where
    abbrev a : Authority
    a = record { mark = mark; path = path }

    -- on an authority that has as many steps the head is as far behind its mark as on the journey
    pub head_on_path : mark ≤ length (journey line t s) - 1 → length (journey line t s) - 1 - mark < length path.steps.items
        → total (seg_len line) (take mark (journey line t s)) + (total (seg_len line) (take (length (journey line t s) - 1 - mark) path.steps.items) + head_offset line t s) ≡ head t s
    head_on_path low high =
        let c : controls (zone_id line) t s ≡ true = on_controls line t s invariant.authorized on in
        let one : OneRoute line t s (longest_route line t s) (longest_end line t s) = one_route line t s invariant.authorized c invariant.motion in
        let p = same_place (seg_len line) (longest_route line t s) (journey line t s) path.steps.items mark (head t s) (authority_end (seg_len line) (journey line t s) a) one.journey_on is.on low high in
        let h = head_place line t s invariant.authorized invariant.motion c in
        omega (arith, p, h)

    pub accepts_so : takes_at (seg_len line) (stop_of (brake_of line) (speed_now t s)) mark path head_there (onboard_of line t s) ≡ accepts line t s (limit_place line t s) (record { mark = mark; path = path })
    accepts_so =
        decides (seg_len line) (journey line t s) (head t s) (limit_place line t s) (head_offset line t s) (stop_of (brake_of line) (speed_now t s)) mark path (onboard_of line t s)
        (range_of line path is.fits) refl (invariant.authorized.limit on).ahead head_on_path

    takes_of : (brake : Brake) (clock_ : ℕ) (f : Option Facts) (e : Option DirSeg) (sender : Option ℕ) (p : Pace) (o : Onboard) → is_some f ≡ true
        → takes_found (seg_len line) brake clock_ mark path (world_of t f e sender (Some head_there) p o) ≡ takes_at (seg_len line) (stop_of brake (last_speed clock_ p)) mark path head_there o
    takes_of brake clock_ None e sender p o some = absurd cc
    takes_of brake clock_ (Some f) e sender p o some = refl

    -- what the world finds of it decides so
    pub accepts_now : (q : Plain) → Refines line s q → PaceIs (clock s) (pace_of t s) (speed_now t s)
        → takes_found (seg_len line) q.world.brake q.world.clock mark path (find_train t q.world.trains) ≡ accepts line t s (limit_place line t s) (record { mark = mark; path = path })
    accepts_now q k pace =
        let len = seg_len line in
        let there : head_of line t s ≡ Some head_there = rw on refl in
        let declared : is_declared t s ≡ true = invariant.motion.declared on in
        ap (λ (x : Option WorldTrain). takes_found len q.world.brake q.world.clock mark path x) (k.trains t)
        ∙ (ap (λ (h : Option Head). takes_found len q.world.brake q.world.clock mark path (world_of t (facts_of t s) (first_entry t s) (sender_of (entry_authority t s)) h (pace_of t s) (onboard_of line t s))) there
        ∙ (takes_of q.world.brake q.world.clock (facts_of t s) (first_entry t s) (sender_of (entry_authority t s)) (pace_of t s) (onboard_of line t s) declared
        ∙ (ap (λ (b : Brake). takes_at len (stop_of b (last_speed q.world.clock (pace_of t s))) mark path head_there (onboard_of line t s)) k.brake
        ∙ (ap (λ (n : ℕ). takes_at len (stop_of (brake_of line) (last_speed n (pace_of t s))) mark path head_there (onboard_of line t s)) k.time
        ∙ (ap (λ (v : ℕ). takes_at len (stop_of (brake_of line) v) mark path head_there (onboard_of line t s)) pace.is
        ∙ accepts_so)))))
