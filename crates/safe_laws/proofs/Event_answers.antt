-- What a zone's take of an ask gives: the bars and the first obstacle say it.
use Rattle.std.proofs.Common.{◌≡◌, ℕ, zero, suc, ◌+◌, ◌<◌, ◌≤◌, List, ◌++◌, length, Option, Some, None, Bool, true, false, ◌&&◌, refl, sym, ◌∙◌, ap, subst, arith}
use Rattle.std.proofs.lemmas.Bool.{and_parts}
use Rattle.std.proofs.lemmas.Bool.Decides.{nat_tests}
use Rattle.std.proofs.Math.Bool.{and-false}
use Rattle.std.specs.Prelude.{nat_eq, nat_lt}
use Rattle.arrayvec.specs.ArrayVec.{ArrayVec}
use Rattle.track_points.specs.declared.ids.DirSeg.{DirSeg}
use Rattle.track_points.specs.declared.ids.TrainId.{TrainId}
use Rattle.track_points.specs.declared.path.Path.{Path}
use Rattle.track_points.specs.Points.{Lengths, total, end_place}
use Rattle.definitions.specs.declared.event.Event.{Event}
use Rattle.definitions.specs.declared.event.Event.TheVariants.{Take}
use Rattle.definitions.specs.declared.message.Msg.{Msg}
use Rattle.definitions.specs.declared.message.Msg.TheVariants as msg
use Rattle.definitions.specs.declared.outcome.Obstacle.TheVariants.{Pending, NotJoined, Silent}
use Rattle.definitions.specs.Track.{Line, seg_len, layout}
use Rattle.definitions.specs.Ways.{PlainWay}
use Rattle.definitions.specs.Story.{Transition, Story}
use Rattle.definitions.specs.Control.{controls, now_with, last_issued}
use Rattle.definitions.specs.Longest.{counted, is_pending}
use Rattle.definitions.specs.Fronts.{report_time, silent_by}
use Rattle.definitions.specs.Authority.{way}
use Rattle.definitions.specs.Limit.{Bars, Reach, barred, further, asked_way, continues, path_of, ask_of, reach_from, barring, limit}
use Rattle.definitions.specs.Steps.{Effect, path_to, deny, grant, zone_ask, alarms, taking, message, effects}
use Rattle.definitions.specs.Safe.{IsReach, Denied, Lengthened, Answered, IsLineOfOneZone}
use Rattle.definitions.specs.Zones.{zone_id}
use Rattle.way_laws.proofs.Reach_granted.{reach_is, reach_granted}
use Rattle.way_laws.proofs.Grown_end.{grown_end}
use Rattle.journey_laws.proofs.Invariant.{Invariant}
use Rattle.safe_laws.proofs.Held_points.{held_way, way_is}
use Rattle.safe_laws.proofs.Held_way_ends.{held_way_some, held_way_within}

-- The reach, where an ask is barred.

pub unready_reach : (line : Line) (ready pending silent : Bool) (path : Option Path) (asked : List DirSeg) (to : ℕ) (bars : Bars) → ready ≡ false → reach_from line ready pending silent path asked to bars ≡ barred NotJoined
unready_reach line ready pending silent None asked to bars h = refl
unready_reach line ready pending silent (Some path) asked to bars h = rw h refl

-- an ask that no bar refuses reaches exactly the first obstacle
pub ask_reaches : (line : Line) (s : Story) (z t now_ to : ℕ) (asked : List DirSeg) (way_ : PlainWay) → way line z t s ≡ Some way_ → (controls z t s && nat_lt 0 (counted line t s)) ≡ true
    → continues line way_.path.steps.items asked ≡ true → is_pending line t s ≡ false → silent_by line (report_time line z t s) now_ ≡ false
    → IsReach (layout line) (ask_of (seg_len line) way_.path asked to (barring line z t s)) (limit line z t s now_ asked to)
ask_reaches line s z t now_ to asked way_ is ready joins idle quiet =
    let bars = barring line z t s in
    let e : limit line z t s now_ asked to ≡ reach_from line (controls z t s && nat_lt 0 (counted line t s)) (is_pending line t s) (silent_by line (report_time line z t s) now_) (Some way_.path) asked to bars =
    ap (λ (v : Option PlainWay). reach_from line (controls z t s && nat_lt 0 (counted line t s)) (is_pending line t s) (silent_by line (report_time line z t s) now_) (path_of v) asked to bars) is in
    subst (λ (r : Reach). IsReach (layout line) (ask_of (seg_len line) way_.path asked to bars) r) (sym e)
    (rw (ready, joins, idle, quiet) (reach_is (layout line) (ask_of (seg_len line) way_.path asked to bars)))

-- What a zone answers, by the reach.

pub ask_denied : (len : Lengths) (z : ℕ) (u : TrainId) (last : ℕ) (w : Option PlainWay) (asked : List DirSeg) (r : Reach) → nat_eq r.distance 0 ≡ true → zone_ask len z u last w asked r ≡ deny z u r
ask_denied len z u last None asked r h = refl
ask_denied len z u last (Some w) asked r h = rw h refl

pub ask_granted : (len : Lengths) (z : ℕ) (u : TrainId) (last : ℕ) (w : PlainWay) (asked : List DirSeg) (r : Reach) → nat_eq r.distance 0 ≡ false
    → zone_ask len z u last (Some w) asked r ≡ grant len z u (last + 1) w.mark w.path.from (asked_way w.path.steps.items asked) (end_place len w.path + r.distance) r
ask_granted len z u last w asked r h = rw h refl

-- A take of an ask.
module _ (line : Line) (z from number time to : ℕ) (u : TrainId) (steps : ArrayVec DirSeg) (s : Story) (l : IsLineOfOneZone line) (invariant : Invariant line u.0 s) where
  abbrev asks : Msg
  asks = msg.Ask u time steps to

  abbrev x : Transition
  x = taking line s (Take (suc z) from number) (suc z) from (Some (msg.Ask u time steps to))

  abbrev now_ : ℕ
  now_ = now_with (suc z) s asks

  abbrev ready : Bool
  ready = controls (suc z) u.0 s && nat_lt 0 (counted line u.0 s)

  abbrev pending : Bool
  pending = is_pending line u.0 s

  abbrev quiet : Bool
  quiet = silent_by line (report_time line (suc z) u.0 s) now_

  abbrev reach : Reach
  reach = limit line (suc z) u.0 s now_ steps.items to

  by_denied : (r : Reach) → reach ≡ r → r.distance ≡ 0 → Denied (suc z) u r.obstacle (alarms line (suc z) s asks) x
  by_denied r is none =
      let zero_ : nat_eq reach.distance 0 ≡ true = rw is (rw none refl) in
      let e : zone_ask (seg_len line) (suc z) u (last_issued u.0 s) (way line (suc z) u.0 s) steps.items reach ≡ deny (suc z) u r =
      ask_denied (seg_len line) (suc z) u (last_issued u.0 s) (way line (suc z) u.0 s) steps.items reach zero_ ∙ ap (deny (suc z) u) is in
      record { issued = ap (λ (y : Effect). y.issued) e; named = ap (λ (y : Effect). y.lines ++ alarms line (suc z) s asks) e }

  -- the reach of a way that is there
  on_way : (w : PlainWay) → way line (suc z) u.0 s ≡ Some w → reach ≡ reach_from line ready pending quiet (Some w.path) steps.items to (barring line (suc z) u.0 s)
  on_way w is = ap (λ (v : Option PlainWay). reach_from line ready pending quiet (path_of v) steps.items to (barring line (suc z) u.0 s)) is

  far : (w : PlainWay) → way line (suc z) u.0 s ≡ Some w → ready ≡ true → end_place (seg_len line) w.path + reach.distance ≤ total (seg_len line) (asked_way w.path.steps.items steps.items)
  far w is on =
      let here : controls (suc z) u.0 s ≡ true = (and_parts (controls (suc z) u.0 s) (nat_lt 0 (counted line u.0 s)) on).0 in
      let zone : suc z ≡ zone_id line = invariant.authorized.zone_alone (suc z) here in
      let control : controls (zone_id line) u.0 s ≡ true = subst (λ (n : ℕ). controls n u.0 s ≡ true) zone here in
      let same : Some (held_way line u.0 s) ≡ Some w = sym (way_is line u.0 s l invariant control) ∙ subst (λ (n : ℕ). way line n u.0 s ≡ Some w) zone is in
      let way_ : held_way line u.0 s ≡ w = cc in
      let some = subst (λ (v : PlainWay). 0 < length v.path.steps.items) way_ (held_way_some line u.0 s l invariant control) in
      let within = subst (λ (v : PlainWay). end_place (seg_len line) v.path ≤ total (seg_len line) v.path.steps.items) way_ (held_way_within line u.0 s l invariant control) in
      subst (λ (r : Reach). end_place (seg_len line) w.path + r.distance ≤ total (seg_len line) (asked_way w.path.steps.items steps.items)) (sym (on_way w is))
      (reach_granted line ready pending quiet w.path steps.items to (barring line (suc z) u.0 s) some within)

  by_granted : (w : PlainWay) → way line (suc z) u.0 s ≡ Some w → ready ≡ true → 0 < reach.distance
      → Lengthened line (suc z) u (last_issued u.0 s + 1) w (ask_of (seg_len line) w.path steps.items to (barring line (suc z) u.0 s)) reach (alarms line (suc z) s asks) x
  by_granted w is on some =
      let len = seg_len line in
      let more : nat_eq reach.distance 0 ≡ false = grind (arith, nat_tests) in
      let e : zone_ask len (suc z) u (last_issued u.0 s) (way line (suc z) u.0 s) steps.items reach
      ≡ grant len (suc z) u (last_issued u.0 s + 1) w.mark w.path.from (asked_way w.path.steps.items steps.items) (end_place len w.path + reach.distance) reach =
      ap (λ (v : Option PlainWay). zone_ask len (suc z) u (last_issued u.0 s) v steps.items reach) is
      ∙ ask_granted len (suc z) u (last_issued u.0 s) w steps.items reach more in
      record {
        path = path_to len w.path.from (asked_way w.path.steps.items steps.items) (end_place len w.path + reach.distance);
        begins = refl;
        steps = refl;
        ends = grown_end len w.path (further w.path.steps.items steps.items) reach.distance (far w is on);
        issued = ap (λ (y : Effect). y.issued) e;
        named = ap (λ (y : Effect). y.lines ++ alarms line (suc z) s asks) e;
      }

  not_joined : (w : PlainWay) → continues line w.path.steps.items steps.items ≡ false → reach_from line ready pending quiet (Some w.path) steps.items to (barring line (suc z) u.0 s) ≡ barred NotJoined
  not_joined w apart = rw (apart, and-false ready) refl

  ask_answered : Answered line (suc z) s u steps.items to now_ (alarms line (suc z) s asks) x
  ask_answered = record {
    unready = λ off. by_denied (barred NotJoined) (unready_reach line ready pending quiet (path_of (way line (suc z) u.0 s)) steps.items to (barring line (suc z) u.0 s) off) refl;
    unjoined = λ w is apart. by_denied (barred NotJoined) (on_way w is ∙ not_joined w apart) refl;
    pending = λ w is on joins waits. by_denied (barred Pending) (on_way w is ∙ rw (on, joins, waits) refl) refl;
    silent = λ w is on joins idle still. by_denied (barred Silent) (on_way w is ∙ rw (on, joins, idle, still) refl) refl;
    free = λ w is on joins idle heard. record {
      reach = reach;
      first = ask_reaches line s (suc z) u.0 now_ to steps.items w is on joins idle heard;
      denied = λ none. by_denied reach refl none;
      granted = λ some. by_granted w is on some;
    };
  }

-- Each event.

take_answered : (line : Line) (s : Story) (a f number : ℕ) (r : Option Msg) → IsLineOfOneZone line → ((t : ℕ) → Invariant line t s) → (z from time to : ℕ) (u : TrainId) (steps : ArrayVec DirSeg)
    → (taking line s (Take a f number) a f r).actor ≡ suc z → (taking line s (Take a f number) a f r).took ≡ Some (from, msg.Ask u time steps to)
    → Answered line (suc z) s u steps.items to (now_with (suc z) s (msg.Ask u time steps to)) (alarms line (suc z) s (msg.Ask u time steps to)) (taking line s (Take a f number) a f r)
take_answered line s a f number None l invariant z from time to u steps actor took = absurd cc
take_answered line s zero f number (Some m) l invariant z from time to u steps actor took = absurd cc
take_answered line s (suc a) f number (Some m) l invariant z from time to u steps actor took =
    let pair : (f, m) ≡ (from, msg.Ask u time steps to) = cc in
    let is : m ≡ msg.Ask u time steps to = ap (λ (q : ℕ × Msg). q.1) pair in
    subst (λ (k : ℕ). Answered line k s u steps.items to (now_with k s (msg.Ask u time steps to)) (alarms line k s (msg.Ask u time steps to)) (taking line s (Take (suc a) f number) (suc a) f (Some m))) actor
    (subst (λ (n : Msg). Answered line (suc a) s u steps.items to (now_with (suc a) s (msg.Ask u time steps to)) (alarms line (suc a) s (msg.Ask u time steps to)) (taking line s (Take (suc a) f number) (suc a) f (Some n))) (sym is)
    (ask_answered line a f number time to u steps s l (invariant u.0)))

pub event_answers : (line : Line) (s : Story) (e : Event) → IsLineOfOneZone line → ((t : ℕ) → Invariant line t s) → (z from time to : ℕ) (u : TrainId) (steps : ArrayVec DirSeg)
    → (effects line s e).actor ≡ suc z → (effects line s e).took ≡ Some (from, msg.Ask u time steps to)
    → Answered line (suc z) s u steps.items to (now_with (suc z) s (msg.Ask u time steps to)) (alarms line (suc z) s (msg.Ask u time steps to)) (effects line s e)
event_answers line s (Take a f number) l invariant z from time to u steps actor took = take_answered line s a f number (message f a number s) l invariant z from time to u steps actor took
event_answers line s _ l invariant z from time to u steps actor took = absurd cc
