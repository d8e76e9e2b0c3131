-- What the zone answers to a message, by its own trains.
use Rattle.std.proofs.Common.{◌≡◌, ℕ, suc, List, Option, Some, None, Bool, refl, sym, ◌∙◌, ap, if◌then◌else◌}
use Rattle.std.specs.Prelude.{nat_lt, is_some}
use Rattle.list_laws.proofs.By_test.{by_test}
use Rattle.track_points.specs.declared.ids.TrainId.{TrainId}
use Rattle.definitions.specs.declared.message.Msg.{Msg}
use Rattle.definitions.specs.declared.message.Msg.TheVariants as msg
use Rattle.definitions.specs.declared.message.Order.TheVariants as orders
use Rattle.definitions.specs.Track.{Line, seg_len}
use Rattle.definitions.specs.Ways.{PlainWay}
use Rattle.definitions.specs.Story.{Story}
use Rattle.definitions.specs.World.{journey}
use Rattle.definitions.specs.Control.{knows_most, now_with, last_issued}
use Rattle.definitions.specs.Fold.{account}
use Rattle.definitions.specs.Longest.{counted, is_pending}
use Rattle.definitions.specs.Authority.{way, way_start, shrink_on, holder_of}
use Rattle.definitions.specs.Limit.{Reach, limit}
use Rattle.definitions.specs.Steps.{nothing, zone_entry, zone_ask, up_to, sent_again, again, zone_time, zone_takes}
use Rattle.definitions.specs.Safe.{IsLineOfOneZone}
use Rattle.plain_state.specs.declared.Controlled.{Controlled}
use Rattle.plain_state.specs.Zone.{find_controlled, way_found, last_found, full, end_pending, again_found, zone_answer, grown_train}
use Rattle.definitions.specs.Zones.{zone_id}
use Rattle.plain_state.specs.Refinement.{pending_of, zone_train_of}
use Rattle.journey_laws.proofs.Invariant.{Invariant}
use Rattle.plain_state.proofs.Found_changed.{mapped}
use Rattle.refinement_laws.proofs.Way_now.{Grown, Shut, way_now, last_now, known_now, full_now, holder_now, reach_now}
use Rattle.refinement_laws.proofs.Facts_is.{way_is_known}
use Rattle.refinement_laws.proofs.Report_found.{report_answer}
use Rattle.refinement_laws.proofs.Short_moves.{short_answer}

-- a shrink that is unanswered ends where the notions say
end_by : (line : Line) (t : ℕ) (s : Story) (w : PlainWay) → end_pending (pending_of (seg_len line) (journey line t s) (way_start line t s w) (account line t s)) ≡ shrink_on line t s w
end_by line t s w = by_test (is_pending line t s) (λ y. rw y refl) (λ n. rw n refl)

time_by : (line : Line) (u : TrainId) (s : Story) (clock : ℕ) (w : Option PlainWay)
    → zone_time (is_some w) (counted line u.0 s) (last_issued u.0 s) u (sent_again line u.0 s w) ≡ again_found (seg_len line) u (mapped (grown_train clock) (zone_train_of line (zone_id line) u.0 s w))
time_by line u s clock None = refl
time_by line u s clock (Some w) =
    ap (λ (p : Option ℕ). if nat_lt (counted line u.0 s) (last_issued u.0 s) then again u (last_issued u.0 s) (Some (up_to (seg_len line) p w)) else nothing) (sym (end_by line u.0 s w))

pub answer_now : (line : Line) (z number : ℕ) (s : Story) → IsLineOfOneZone line → suc z ≡ zone_id line → ((t : ℕ) → Invariant line t s) → (m : Msg) (ways : List Controlled) → Grown line s (now_with (zone_id line) s m) ways → (closed : List Bool) → Shut line s closed
    → zone_takes line (zone_id line) 0 s m ≡ zone_answer line (zone_id line) (now_with (zone_id line) s m) ways closed m
answer_now line z number s one zone invariant (msg.EntryAsk u time long error speed equipped step) ways g closed shut =
    let m = msg.EntryAsk u time long error speed equipped step in
    let n = now_with (zone_id line) s m in
    let z0 = zone_id line in
    ap (λ (b : Bool). zone_entry z0 b (knows_most z0 s) (seg_len line step.seg.0) u long step (holder_of line z0 s step.seg.0)) (sym (known_now line s one.valid invariant n ways g u.0))
    ∙ (ap (λ (b : Bool). zone_entry z0 (is_some (find_controlled u.0 ways)) b (seg_len line step.seg.0) u long step (holder_of line z0 s step.seg.0)) (sym (full_now line s one.valid invariant n ways g))
    ∙ ap (λ (h : Option ℕ). zone_entry z0 (is_some (find_controlled u.0 ways)) (full ways) (seg_len line step.seg.0) u long step h) (sym (holder_now line s one.valid invariant n ways g step.seg.0)))
answer_now line z number s one zone invariant (msg.Ask u time steps to) ways g closed shut =
    let m = msg.Ask u time steps to in
    let n = now_with (zone_id line) s m in
    let z0 = zone_id line in
    ap (λ (k : ℕ). zone_ask (seg_len line) z0 u k (way line z0 u.0 s) steps.items (limit line z0 u.0 s n steps.items to)) (sym (last_now line s one.valid invariant n ways g u.0))
    ∙ (ap (λ (w : Option PlainWay). zone_ask (seg_len line) z0 u (last_found (find_controlled u.0 ways)) w steps.items (limit line z0 u.0 s n steps.items to)) (sym (way_now line s one.valid invariant n ways g u.0))
    ∙ ap (λ (r : Reach). zone_ask (seg_len line) z0 u (last_found (find_controlled u.0 ways)) (way_found (find_controlled u.0 ways)) steps.items r) (sym (reach_now line s one.valid invariant n ways g u.0 steps.items to n closed shut)))
answer_now line z number s one zone invariant (msg.Report u time mark offset integrity) ways g closed shut = report_answer line z number u time mark offset integrity s one zone invariant ways g
answer_now line z number s one zone invariant (msg.Time time u) ways g closed shut =
    let n = now_with (zone_id line) s (msg.Time time u) in
    let z0 = zone_id line in
    ap (λ (b : Bool). zone_time b (counted line u.0 s) (last_issued u.0 s) u (sent_again line u.0 s (way line z0 u.0 s))) (sym (way_is_known line z0 u.0 s))
    ∙ (time_by line u s n (way line z0 u.0 s) ∙ ap (λ (x : Option Controlled). again_found (seg_len line) u x) (sym (g.found u.0)))
answer_now line z number s one zone invariant (msg.Order time (orders.Short u st off)) ways g closed shut = short_answer line z number u time st off s one invariant ways g
answer_now line z number s one zone invariant _ ways g closed shut = refl
