-- What one message gives.
use Rattle.std.proofs.Common.{◌≡◌, ℕ, ◌+◌, ◌≤◌, Bool, true, false, ◌&&◌, List, ◌++◌, length, Option, Some, None, is_some, refl, ◌∙◌, arith, nat_eq, nat_lt, nat_le}
use Rattle.track_points.specs.declared.ids.DirSeg.{DirSeg}
use Rattle.track_points.specs.declared.ids.TrainId.{TrainId}
use Rattle.std.specs.Prelude.{ℤ}
use Rattle.list_laws.proofs.By_test.{by_test}
use Rattle.track_points.specs.Points.{Lengths, end_place}
use Rattle.definitions.specs.declared.message.Msg.{Msg}
use Rattle.definitions.specs.declared.message.Msg.TheVariants as msg
use Rattle.definitions.specs.declared.message.Order.{Order}
use Rattle.definitions.specs.declared.message.Order.TheVariants as orders
use Rattle.definitions.specs.Track.{Line, seg_len, silent_after}
use Rattle.definitions.specs.Ways.{PlainWay}
use Rattle.definitions.specs.Limit.{Reach}
use Rattle.definitions.specs.Steps.{Effect, zone_entry, zone_ask, enter_or_held, place_of_step, shorten_at}
use Rattle.way_path.specs.Ways.{plain_way}
use Rattle.plain_state.specs.declared.Controlled.{Controlled}
use Rattle.plain_state.specs.Refinement.{Distinct}
use Rattle.plain_state.specs.Zone.{PlainZone, find_controlled, full, holder_plain, reach_plain, last_found, way_found, uses_mark, place_found, again_found, short_found, order_answer, zone_answer, zone_acts_on, zone_gives, zone_take_effect, trains_stepped, clock_after}
use Rattle.zone_trains.specs.Trains.{alarms_of}
use Rattle.zone_state.proofs.After_follows.{Follows, grown_follows, after_follows}

-- what a message gives has at most one line
abbrev pub AtMostOne : Effect → Type 0
AtMostOne x = length x.lines ≤ 1

held_one : (z room : ℕ) (t : TrainId) (step : DirSeg) (holder : Option ℕ) → AtMostOne (enter_or_held z room t step holder)
held_one z room t step (Some u) = omega arith
held_one z room t step None = omega arith

entry_one : (z : ℕ) (known full : Bool) (room : ℕ) (t : TrainId) (long : ℕ) (step : DirSeg) (holder : Option ℕ) → AtMostOne (zone_entry z known full room t long step holder)
entry_one z true full room t long step holder = omega arith
entry_one z false true room t long step holder = omega arith
entry_one z false false room t long step holder =
    by_test (nat_lt room long) (λ y. rw y (omega arith)) (λ n. rw n (held_one z room t step holder))

ask_one : (len : Lengths) (z : ℕ) (t : TrainId) (last : ℕ) (way : Option PlainWay) (asked : List DirSeg) (reach : Reach) → AtMostOne (zone_ask len z t last way asked reach)
ask_one len z t last None asked reach = omega arith
ask_one len z t last (Some way) asked reach = by_test (nat_eq reach.distance 0) (λ y. rw y (omega arith)) (λ n. rw n (omega arith))

place_one : (len : Lengths) (z time mark : ℕ) (offset : ℤ) (integrity : Bool) (x : Option Controlled) → AtMostOne (place_found len z time mark offset integrity x)
place_one len z time mark offset integrity None = omega arith
place_one len z time mark offset integrity (Some x) = omega arith

again_one : (len : Lengths) (t : TrainId) (x : Option Controlled) → AtMostOne (again_found len t x)
again_one len t None = omega arith
again_one len t (Some x) = by_test (nat_lt x.ledger.answered x.ledger.last) (λ y. rw y (omega arith)) (λ n. rw n (omega arith))

place_short_one : (len : Lengths) (z : ℕ) (t : TrainId) (number : ℕ) (way : PlainWay) (start front : ℕ) (p : Option ℕ) → AtMostOne (shorten_at len z t number way start front p)
place_short_one len z t number way start front None = omega arith
place_short_one len z t number way start front (Some p) =
    by_test (nat_le front (start + p) && nat_lt p (end_place len way.path)) (λ y. rw y (omega arith)) (λ n. rw n (omega arith))

short_one : (len : Lengths) (z : ℕ) (t : TrainId) (x : Option Controlled) (st : DirSeg) (off : ℕ) → AtMostOne (short_found len z t x st off)
short_one len z t None st off = omega arith
short_one len z t (Some x) st off =
    by_test x.equipped
    (λ y. by_test (is_some x.ledger.pending)
    (λ s. rw (y, s) (omega arith))
    (λ n. rw (y, n) (place_short_one len z t (x.ledger.last + 1) (plain_way x.way) 0 x.fronts.hi (place_of_step len x.way.path.steps.items st off))))
    (λ n. rw n (omega arith))

order_one : (len : Lengths) (z : ℕ) (trains : List Controlled) (order : Order) → AtMostOne (order_answer len z trains order)
order_one len z trains (orders.Close seg) = omega arith
order_one len z trains (orders.Open seg) = omega arith
order_one len z trains (orders.Short t st off) = short_one len z t (find_controlled t.0 trains) st off
order_one len z trains _ = omega arith

answer_one : (line : Line) (z clock : ℕ) (trains : List Controlled) (closed : List Bool) (m : Msg) → AtMostOne (zone_answer line z clock trains closed m)
answer_one line z clock trains closed (msg.EntryAsk t time long error speed equipped step) =
    entry_one z (is_some (find_controlled t.0 trains)) (full trains) (seg_len line step.seg.0) t long step (holder_plain line z trains step.seg.0)
answer_one line z clock trains closed (msg.Ask t time steps to) =
    ask_one (seg_len line) z t (last_found (find_controlled t.0 trains)) (way_found (find_controlled t.0 trains)) steps.items (reach_plain line z clock trains closed t.0 steps.items to)
answer_one line z clock trains closed (msg.Report t time mark offset integrity) =
    by_test (uses_mark (find_controlled t.0 trains) mark)
    (λ y. rw y (place_one (seg_len line) z time mark offset integrity (find_controlled t.0 trains)))
    (λ n. rw n (omega arith))
answer_one line z clock trains closed (msg.Time time t) = again_one (seg_len line) t (find_controlled t.0 trains)
answer_one line z clock trains closed (msg.Order time order) = order_one (seg_len line) z trains order
answer_one line z clock trains closed _ = omega arith

pub gives_one : (line : Line) (z : PlainZone) (from : ℕ) (m : Msg) → AtMostOne (zone_gives line z from m)
gives_one line z from m =
    by_test (zone_acts_on line z from m)
    (λ y. rw y (answer_one line z.id (clock_after z.clock m) _ z.closed m))
    (λ n. rw n (omega arith))

pub stepped_follows : (line : Line) (z : PlainZone) (from : ℕ) (m : Msg) → Distinct z.trains → length z.trains ≤ 256
    → Follows line z.id z.clock (clock_after z.clock m) z.trains (trains_stepped line z from m)
stepped_follows line z from m d few =
    by_test (zone_acts_on line z from m)
    (λ y. rw y (after_follows line z.id z.clock (clock_after z.clock m) z.trains d few z.closed m refl))
    (λ n. rw n (grown_follows line z.id z.clock (clock_after z.clock m) z.trains d few))

-- the lines of the message, and the alarms after them
pub gave : (line : Line) (z : PlainZone) (from : ℕ) (m : Msg) (given after : Effect) (new : List Controlled) → Distinct z.trains → length z.trains ≤ 256
    → given ≡ zone_gives line z from m → new ≡ trains_stepped line z from m
    → after ≡ record { issued = given.issued; lines = given.lines ++ alarms_of (silent_after line) z.id z.clock (clock_after z.clock m) new }
    → after ≡ zone_take_effect line z from m
gave line z from m given after new d few g n a = a ∙ rw (g, n, (stepped_follows line z from m d few).alarms) refl
