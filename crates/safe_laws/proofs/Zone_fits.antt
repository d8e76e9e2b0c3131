-- What is issued for a message that is taken is in its ranges.
use Rattle.std.proofs.Common.{◌≡◌, ℕ, ◌+◌, ◌≤◌, ◌<◌, List, [], ◌∷◌, length, Option, Some, None, Bool, true, false, refl, sym, ◌∙◌, ap, subst, arith}
use Rattle.std.proofs.lemmas.Bool.{and_parts}
use Rattle.std.proofs.lemmas.Option.{same_Some}
use Rattle.std.specs.Prelude.{nat_lt, slice_get}
use Rattle.std.specs.List.{list_all}
use Rattle.list_laws.proofs.By_test.{by_test, eq_self}
use Rattle.track_points.specs.declared.ids.DirSeg.{DirSeg}
use Rattle.track_points.specs.declared.ids.TrainId.{TrainId}
use Rattle.track_points.specs.declared.path.Path.{Path}
use Rattle.track_points.specs.Points.{total}
use Rattle.definitions.specs.declared.message.Msg.{Msg}
use Rattle.definitions.specs.declared.message.Msg.TheVariants as msg
use Rattle.definitions.specs.declared.message.Order.{Order}
use Rattle.definitions.specs.declared.message.Order.TheVariants.{Close, Open, Short}
use Rattle.definitions.specs.FrameLayouts.{train, id, time, ordinal, any, yes, answer, auth}
use Rattle.definitions.specs.Frames.{Fits}
use Rattle.definitions.specs.Track.{Line, seg_len}
use Rattle.definitions.specs.Rules.{is_line}
use Rattle.definitions.specs.Premises.{on_line}
use Rattle.definitions.specs.Ways.{PlainWay, first_len, steps_behind, way_between, rear_at}
use Rattle.definitions.specs.Story.{Transition, Story, sent}
use Rattle.definitions.specs.World.{Facts, clock, facts_of, is_declared, entered, last_number, last_taken, accepts, limit_place, journey}
use Rattle.definitions.specs.Control.{controls, knows, knows_most, now_with, last_issued}
use Rattle.definitions.specs.Longest.{counted, longest_end, longest_route}
use Rattle.definitions.specs.Fronts.{least_rear}
use Rattle.definitions.specs.Authority.{way, shrink_on, holder_of}
use Rattle.definitions.specs.Limit.{limit}
use Rattle.definitions.specs.Steps.{entry_path, taking_auth, world_takes, up_to, sent_again, front_after, zone_order, zone_takes}
use Rattle.definitions.specs.Zones.{zone_id}
use Rattle.event_laws.proofs.Issued_all.{AllIn, issued_all}
use Rattle.event_laws.proofs.Controls_same.{way_controls}
use Rattle.event_laws.proofs.Zone_issues.{entry_cases, ask_cases, time_cases, short_cases, report_none}
use Rattle.way_laws.proofs.Between_points.{behind_rear, between_rear, between_first}
use Rattle.journey_laws.proofs.Invariant.{AuthTrue, AuthIs, Invariant}
use Rattle.journey_laws.proofs.One_route.{numbered_controls, journey_few}
use Rattle.step_laws.proofs.Way_route.{all_behind}
use Rattle.step_laws.proofs.Way_is.{way_is}
use Rattle.safe_laws.proofs.Segment_ranges.{segment_ranges}
use Rattle.safe_laws.proofs.Facts_in_range.{FactsInRange, found_facts}
use Rattle.safe_laws.proofs.Numbered_on.{numbered_on}
use Rattle.safe_laws.proofs.Path_in_frame.{path_in_frame}

-- what is counted and declared in a history stays in its ranges
pub record Bounded (s : Story) : Type 0 where
  pub time : clock s ≤ 1099511627775
  pub numbers : (t : ℕ) → last_issued t s ≤ 10000000
  pub facts : (t : ℕ) (f : Facts) → facts_of t s ≡ Some f → FactsInRange t f

pub train_fits : (s : Story) → Bounded s → (u : TrainId) → is_declared u.0 s ≡ true → train.fits u
unfolding train id
train_fits s b u h =
    let found = found_facts u.0 s h in
    let r = b.facts u.0 found.0 found.1 in
    ((r.some, r.id), refl)

pub yes_fits : (b : Bool) → yes.fits b
unfolding yes
yes_fits true = ((omega arith, omega arith), refl)
yes_fits false = ((omega arith, omega arith), refl)

pub answer_fits : (s : Story) → Bounded s → (u : TrainId) (number : ℕ) (taken : Bool) → is_declared u.0 s ≡ true → 1 ≤ number → number ≤ last_issued u.0 s → Fits (msg.Answer u (clock s) number taken)
unfolding Fits answer time ordinal
answer_fits s b u number taken declared some known =
    let most = b.numbers u.0 in
    (train_fits s b u declared, ((omega arith, b.time), ((some, omega (arith, known, most)), yes_fits taken)))

-- the mark of a step of the journey fits
pub mark_fits : (line : Line) (t : ℕ) (s : Story) → Bounded s → Invariant line t s → 1 ≤ last_issued t s → length (journey line t s) ≤ 240000000
mark_fits line t s b k some =
    let c = numbered_controls line t s k.authorized some in
    let few = journey_few line t s k.authorized c in
    let marks = (k.authorized.controlled c).marks in
    let most = b.numbers t in
    omega (arith, few, marks, most)

auth_fits : (line : Line) (s : Story) → is_line line ≡ true → Bounded s → (u : TrainId) (number mark : ℕ) (path : Path) → Invariant line u.0 s → AuthIs line u.0 s number (record { mark = mark; path = path }) → path.from ≤ 9999999
    → Fits (msg.Auth u number mark path)
unfolding Fits auth ordinal any
auth_fits line s l b u number mark path k is from =
    let some = is.positive in
    let known = is.known in
    let most = b.numbers u.0 in
    let at = is.path.mark in
    let few = mark_fits line u.0 s b k (omega (arith, some, known)) in
    (train_fits s b u is.path.declared, ((some, omega (arith, known, most)), ((omega arith, omega (arith, at, few)), path_in_frame line path l is.path.fits is.path.own is.path.above from)))

-- By the world: an answer.

module _ (line : Line) (s : Story) (b : Bounded s) (k : (t : ℕ) → Invariant line t s) where
  replied_fits : (u : TrainId) (from number : ℕ) (on : Bool) (last : ℕ) (was_taken takes_it : Bool) → entered u.0 s ≡ on → last_number u.0 s ≡ last → 1 ≤ number → number ≤ last_issued u.0 s
      → AllIn Fits (taking_auth (clock s) on last was_taken takes_it u from number).issued
  unfolding AllIn
  replied_fits u from number false last was_taken takes_it is same some known = tt
  replied_fits u from number true last was_taken takes_it is same some known =
      let declared = (k u.0).motion.declared is in
      let most = (k u.0).authorized.last_most in
      let first = numbered_on u.0 s is in
      by_test (nat_lt last number)
      (λ y. rw y (answer_fits s b u number takes_it declared some known, tt))
      (λ n. rw n (answer_fits s b u last was_taken declared (omega (arith, same, first)) (omega (arith, same, most)), tt))

  pub world_fits : (from j : ℕ) (m : Msg) → slice_get (sent from 0 s) j ≡ Some m → AllIn Fits (world_takes line s from m).issued
  unfolding AllIn
  world_fits from j (msg.Auth u number mark path) is =
      let true_ : AuthTrue line u.0 s (msg.Auth u number mark path) = issued_all (AuthTrue line u.0 s) from 0 s j (msg.Auth u number mark path) (k u.0).authorized.auths is in
      let a = true_ (eq_self u.0) in
      replied_fits u from number (entered u.0 s) (last_number u.0 s) (last_taken line u.0 s) (accepts line u.0 s (limit_place line u.0 s) (record { mark = mark; path = path })) refl refl a.positive a.known
  world_fits from j _ is = tt

-- By the zone: an authority.

-- a way on the line begins before the end of a segment
between_low : (line : Line) (steps : List DirSeg) (rear end : ℕ) → is_line line ≡ true → list_all (on_line line) steps ≡ true → rear < end → end ≤ total (seg_len line) steps
    → (way_between (seg_len line) steps rear end).path.from ≤ 9999999
between_low line steps rear end l own order room =
    let first = between_first (seg_len line) steps rear end order room in
    let at = between_rear (seg_len line) steps rear end order room in
    let r = behind_rear (seg_len line) steps rear (omega (arith, order, room)) in
    let on = and_parts (on_line line (rear_at (seg_len line) steps rear).0) _ (sym (ap (list_all (on_line line)) r.1) ∙ all_behind (on_line line) (steps_behind (seg_len line) steps rear) steps own) in
    let short = (segment_ranges line (rear_at (seg_len line) steps rear).0.seg.0 l on.0).short in
    let same = ap (first_len (seg_len line)) at.1 in
    omega (arith, first, short, same)

-- the way of a controlled train begins before the end of a segment
way_from : (line : Line) (t : ℕ) (s : Story) (v : PlainWay) → is_line line ≡ true → Invariant line t s → controls (zone_id line) t s ≡ true → way line (zone_id line) t s ≡ Some v → v.path.from ≤ 9999999
way_from line t s v l k c is =
    let w = way_is line t s k c in
    let own = (k.authorized.controlled c).of_line in
    let same : v ≡ way_between (seg_len line) (longest_route line t s) (least_rear line (zone_id line) t s) (longest_end line t s) = let e = sym is ∙ w.is in cc in
    let from = between_low line (longest_route line t s) (least_rear line (zone_id line) t s) (longest_end line t s) l own w.order w.within in
    let e = ap (λ (y : PlainWay). y.path.from) same in
    omega (arith, from, e)

module _ (line : Line) (s : Story) (l : is_line line ≡ true) (b : Bounded s) (k : (t : ℕ) → Invariant line t s)
    (x : Transition) (after : Bounded (x ∷ s)) (next : (t : ℕ) → Invariant line t (x ∷ s)) where
  one_fits : (issued : List (ℕ × Msg)) (u : TrainId) (number mark : ℕ) (path : Path) → ((t : ℕ) → AllIn (AuthTrue line t (x ∷ s)) issued) → issued ≡ (0, msg.Auth u number mark path) ∷ [] → path.from ≤ 9999999 → AllIn Fits issued
  unfolding AllIn
  one_fits issued u number mark path a is from =
      let one = subst (λ (xs : List (ℕ × Msg)). AllIn (AuthTrue line u.0 (x ∷ s)) xs) is (a u.0) in
      rw is (auth_fits line (x ∷ s) l after u number mark path (next u.0) (one.0 (eq_self u.0)) from, tt)

  none_fits : (issued : List (ℕ × Msg)) → issued ≡ [] → AllIn Fits issued
  unfolding AllIn
  none_fits issued is = rw is tt

  -- what is sent again begins where the way does
  again_from : (t : ℕ) (v : PlainWay) → controls (zone_id line) t s ≡ true → sent_again line t s (way line (zone_id line) t s) ≡ Some v → v.path.from ≤ 9999999
  again_from t v c is = by_way (way line (zone_id line) t s) refl is
    where
      begins : (p : Option ℕ) (w : PlainWay) → (up_to (seg_len line) p w).path.from ≡ w.path.from
      begins None w = refl
      begins (Some p) w = refl

      by_way : (w : Option PlainWay) → way line (zone_id line) t s ≡ w → sent_again line t s w ≡ Some v → v.path.from ≤ 9999999
      by_way None found is = absurd cc
      by_way (Some w) found is =
          let from = way_from line t s w l (k t) c found in
          let e = ap (λ (y : PlainWay). y.path.from) (same_Some (up_to (seg_len line) (shrink_on line t s w) w) v is) in
          let b = begins (shrink_on line t s w) w in
          omega (arith, from, e, b)

  order_fits : (moment : ℕ) (order : Order) → ((t : ℕ) → AllIn (AuthTrue line t (x ∷ s)) (zone_order line (zone_id line) s (msg.Order moment order) order).issued) → AllIn Fits (zone_order line (zone_id line) s (msg.Order moment order) order).issued
  order_fits moment (Short u st off) a =
      let order = msg.Order moment (Short u st off) in
      let issued = (zone_order line (zone_id line) s order (Short u st off)).issued in
      short_cases (AllIn Fits issued) line (zone_id line) s u (front_after line (zone_id line) u.0 s order) (way line (zone_id line) u.0 s) st off
      (none_fits issued)
      (λ v p is free ahead before h. one_fits issued u (last_issued u.0 s + 1) v.mark _ a h (way_from line u.0 s v l (k u.0) (way_controls line (zone_id line) u.0 s v is) is))
  order_fits moment (Close seg) a = none_fits _ refl
  order_fits moment (Open seg) a = none_fits _ refl
  order_fits moment _ a = none_fits _ refl

  pub zone_fits : (from : ℕ) (q : Msg) → ((t : ℕ) → AllIn (AuthTrue line t (x ∷ s)) (zone_takes line (zone_id line) from s q).issued) → AllIn Fits (zone_takes line (zone_id line) from s q).issued
  zone_fits from (msg.EntryAsk u time long error speed equipped step) a =
      let issued = (zone_takes line (zone_id line) from s (msg.EntryAsk u time long error speed equipped step)).issued in
      entry_cases (AllIn Fits issued) (zone_id line) (knows (zone_id line) u.0 s) (knows_most (zone_id line) s) (seg_len line step.seg.0) u long step (holder_of line (zone_id line) s step.seg.0)
      (none_fits issued)
      (λ free fitting h. one_fits issued u 1 0 (entry_path step (seg_len line step.seg.0)) a h (omega arith))
  zone_fits from (msg.Ask u time steps to) a =
      let issued = (zone_takes line (zone_id line) from s (msg.Ask u time steps to)).issued in
      ask_cases (AllIn Fits issued) (seg_len line) (zone_id line) u (last_issued u.0 s) (way line (zone_id line) u.0 s) steps.items (limit line (zone_id line) u.0 s (now_with (zone_id line) s (msg.Ask u time steps to)) steps.items to)
      (none_fits issued)
      (λ v is far h. one_fits issued u (last_issued u.0 s + 1) v.mark _ a h (way_from line u.0 s v l (k u.0) (way_controls line (zone_id line) u.0 s v is) is))
  zone_fits from (msg.Time time u) a =
      let issued = (zone_takes line (zone_id line) from s (msg.Time time u)).issued in
      time_cases (AllIn Fits issued) (controls (zone_id line) u.0 s) (counted line u.0 s) (last_issued u.0 s) u (sent_again line u.0 s (way line (zone_id line) u.0 s))
      (none_fits issued)
      (λ v is c h. one_fits issued u (last_issued u.0 s) v.mark v.path a h (again_from u.0 v c is))
  zone_fits from (msg.Report u time mark offset integrity) a =
      none_fits _ (report_none line (zone_id line) s u (msg.Report u time mark offset integrity))
  zone_fits from (msg.Order moment order) a = order_fits moment order a
  zone_fits from _ a = none_fits _ refl
