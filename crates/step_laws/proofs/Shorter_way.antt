-- The way up to a place before its end that the greatest front has not passed, as a shrink.
use Rattle.std.proofs.Common.{◌≡◌, ℕ, ◌+◌, ◌≤◌, ◌<◌, [], ◌∷◌, Some, true, false, refl, sym, ◌∙◌, ap, subst, arith}
use Rattle.std.proofs.lemmas.Option.{same_Some}
use Rattle.std.specs.Prelude.{nat_eq}
use Rattle.track_points.specs.declared.ids.TrainId.{TrainId}
use Rattle.track_points.specs.Points.{Lengths, end_place}
use Rattle.definitions.specs.declared.message.Msg.TheVariants as msg
use Rattle.definitions.specs.Track.{Line, seg_len}
use Rattle.definitions.specs.Ways.{PlainWay, way_between}
use Rattle.definitions.specs.Steps.{path_to}
use Rattle.definitions.specs.Story.{Transition, Story}
use Rattle.definitions.specs.World.{goes_on}
use Rattle.definitions.specs.Control.{grants_entry, controls, last_issued}
use Rattle.definitions.specs.Fold.{account}
use Rattle.definitions.specs.Longest.{longest_end, longest_route}
use Rattle.definitions.specs.Fronts.{possible_front, least_rear}
use Rattle.definitions.specs.Authority.{way, way_start}
use Rattle.definitions.specs.Safe.{IsLineOfOneZone}
use Rattle.definitions.specs.Zones.{zone_id}
use Rattle.way_laws.proofs.Between_points.{begin_of, between_end}
use Rattle.way_laws.proofs.Between_longer.{between_nearer}
use Rattle.journey_laws.proofs.Motion.{Motion}
use Rattle.journey_laws.proofs.Invariant.{FrontsAre, Authorized}
use Rattle.step_laws.proofs.Fronts_numbers.{Numbered}
use Rattle.step_laws.proofs.Taken_counts.{answers}
use Rattle.step_laws.proofs.New_auth.{ShorterAuth}
use Rattle.step_laws.proofs.Way_is.{WayIs, way_facts}
use Rattle.step_laws.proofs.Renewed_way.{WayAuth, way_to_is}

module _ (line : Line) (t : ℕ) (s : Story) (one : IsLineOfOneZone line) (m : Motion t s) (k : Authorized line t s) (c : controls (zone_id line) t s ≡ true) (f : FrontsAre line t s) where
  abbrev len : Lengths
  len = seg_len line

  abbrev w : WayIs line t s f
  w = way_facts line t s k c f

  abbrev rear : ℕ
  rear = least_rear line (zone_id line) t s

  -- a place of the way before its end, which the least front has not passed
  module _ (v : PlainWay) (p : ℕ) (is : way line (zone_id line) t s ≡ Some v) (ahead : f.lo ≤ way_start line t s v + p) (before : p < end_place (seg_len line) v.path) where
    abbrev end : ℕ
    end = way_start line t s v + p

    same : v ≡ way_between (seg_len line) (longest_route line t s) (least_rear line (zone_id line) t s) (longest_end line t s)
    same = same_Some v _ (sym is ∙ w.is)

    start_same : way_start line t s v ≡ begin_of (seg_len line) (longest_route line t s) (least_rear line (zone_id line) t s)
    start_same = ap (way_start line t s) same

    after : least_rear line (zone_id line) t s < end
    after =
        let rear_is = w.rear in
        let long = f.long in
        let some = k.long_some (k.controlled c).declared in
        omega (arith, rear_is, long, some, ahead)

    near : end < longest_end line t s
    near =
        let start = start_same in
        let end_is = ap (λ (y : PlainWay). end_place len y.path) same in
        let whole = between_end len (longest_route line t s) rear (longest_end line t s) w.order w.within in
        omega (arith, start, end_is, whole, before)

    way_up_to : record { mark = v.mark; path = path_to (seg_len line) v.path.from v.path.steps.items p } ≡ way_between (seg_len line) (longest_route line t s) (least_rear line (zone_id line) t s) end
    way_up_to =
        let start = start_same in
        let a = after in
        let b = near in
        ap (λ (y : PlainWay). record { mark = y.mark; path = path_to len y.path.from y.path.steps.items p }) same
        ∙ between_nearer len (longest_route line t s) rear (longest_end line t s) p (omega (arith, a, start)) (omega (arith, b, start))
        ∙ ap (λ (n : ℕ). way_between len (longest_route line t s) rear (n + p)) (sym start)

    up_to_is : WayAuth line t s (record { mark = v.mark; path = path_to (seg_len line) v.path.from v.path.steps.items p }) end
    up_to_is =
        let b = near in
        subst (λ (y : PlainWay). WayAuth line t s (record { mark = y.mark; path = y.path }) end) (sym way_up_to) (way_to_is line t s one m k c f end after (omega (arith, b)))

  -- where the fronts after the transition are a range from the least one on, which it does not end before
  pub shorter_way : (x : Transition) (train : TrainId) (v : PlainWay) (p hi : ℕ) → way line (zone_id line) t s ≡ Some v → Numbered line t s (possible_front line (zone_id line) t (x ∷ s)) f.lo hi
      → hi ≤ way_start line t s v + p → p < end_place (seg_len line) v.path → (account line t s).shrink ≡ 0
      → x.issued ≡ (0, msg.Auth train (last_issued t s + 1) v.mark (path_to (seg_len line) v.path.from v.path.steps.items p)) ∷ [] → nat_eq train.0 t ≡ true → goes_on t x.event ≡ false → answers t x.took ≡ false
      → ((y : ℕ) → grants_entry y t x ≡ false) → ShorterAuth line t s x
  shorter_way x train v p hi is fronts ahead before idle issued its still unanswered refused =
      let ordered = fronts.ordered in
      let least = fronts.least in
      let far : f.lo ≤ way_start line t s v + p = omega (arith, ordered, ahead) in
      let a = up_to_is v p is far before in
      let ends = a.ends in
      let begin = a.begin in
      let nearer = near v p is far before in
      record {
        sent = record {
          train = train;
          number = last_issued t s + 1;
          authority = record { mark = v.mark; path = path_to len v.path.from v.path.steps.items p };
          issued = issued;
          its = its;
          still = still;
          unanswered = unanswered;
          is = a.is;
        };
        next = refl;
        idle = idle;
        control = c;
        refused = refused;
        on = a.on;
        nearer = omega (arith, ends, nearer);
        cut = omega (arith, begin);
        ahead = omega (arith, least, far, ends);
      }
