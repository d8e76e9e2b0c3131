-- What is issued for a message that is taken: by a zone nothing, or one authority to the world, of the train that the message names;
-- by the world nothing, or one answer to the sender.
use Rattle.std.proofs.Common.{◌≡◌, ℕ, ◌+◌, ◌≤◌, ◌<◌, List, [], ◌∷◌, Option, Some, None, Bool, true, false, ◌&&◌, refl, sym, subst, arith}
use Rattle.std.proofs.lemmas.Bool.Decides.{nat_tests}
use Rattle.std.specs.Prelude.{nat_eq, nat_le, nat_lt}
use Rattle.list_laws.proofs.By_test.{by_test}
use Rattle.track_points.specs.declared.ids.DirSeg.{DirSeg}
use Rattle.track_points.specs.declared.ids.TrainId.{TrainId}
use Rattle.track_points.specs.declared.path.Path.{Path}
use Rattle.track_points.specs.Points.{Lengths, end_place}
use Rattle.definitions.specs.declared.message.Msg.{Msg}
use Rattle.definitions.specs.declared.message.Msg.TheVariants as msg
use Rattle.definitions.specs.declared.message.Order.{Order}
use Rattle.definitions.specs.declared.message.Order.TheVariants.{Close, Open, Short}
use Rattle.definitions.specs.Track.{Line, seg_len}
use Rattle.definitions.specs.Ways.{PlainWay}
use Rattle.definitions.specs.Story.{Story}
use Rattle.definitions.specs.World.{clock, entered, last_number, last_taken, accepts, limit_place, is_auth}
use Rattle.definitions.specs.Control.{controls, knows, knows_most, known_train, now_with, last_issued}
use Rattle.definitions.specs.Longest.{counted, is_pending}
use Rattle.definitions.specs.Fronts.{is_used, possible_front}
use Rattle.definitions.specs.Authority.{way, way_start, holder_of}
use Rattle.definitions.specs.Limit.{Reach, asked_way, limit}
use Rattle.definitions.specs.Steps.{entry_path, path_to, place_of_step, zone_entry, zone_ask, zone_report, zone_time, sent_again, zone_short, front_after, zone_order, zone_takes, taking_auth, world_takes}
use Rattle.event_laws.proofs.Issued_all.{AllIn, AtMostOne, says_nothing, says_one, each_issued, NoAuth}

-- A zone.

pub entry_cases : (P : Type 0) (z : ℕ) (known full : Bool) (room : ℕ) (u : TrainId) (long : ℕ) (step : DirSeg) (holder : Option ℕ) → ((zone_entry z known full room u long step holder).issued ≡ [] → P)
    → (known ≡ false → nat_lt room long ≡ false → (zone_entry z known full room u long step holder).issued ≡ (0, msg.Auth u 1 0 (entry_path step room)) ∷ [] → P) → P
entry_cases P z true full room u long step holder f g = f refl
entry_cases P z false true room u long step holder f g = f refl
entry_cases P z false false room u long step (Some held) f g = f (by_test (nat_lt room long) (λ y. rw y refl) (λ n. rw n refl))
entry_cases P z false false room u long step None f g = by_test (nat_lt room long)
    (λ y. f (rw y refl))
    (λ n. g refl n (rw n refl))

pub ask_cases : (P : Type 0) (len : Lengths) (z : ℕ) (u : TrainId) (last : ℕ) (w : Option PlainWay) (asked : List DirSeg) (reach : Reach) → ((zone_ask len z u last w asked reach).issued ≡ [] → P)
    → ((v : PlainWay) → w ≡ Some v → nat_eq reach.distance 0 ≡ false
    → (zone_ask len z u last w asked reach).issued ≡ (0, msg.Auth u (last + 1) v.mark (path_to len v.path.from (asked_way v.path.steps.items asked) (end_place len v.path + reach.distance))) ∷ [] → P) → P
ask_cases P len z u last None asked reach f g = f refl
ask_cases P len z u last (Some v) asked reach f g = by_test (nat_eq reach.distance 0)
    (λ y. f (rw y refl))
    (λ n. g v refl n (rw n refl))

pub time_cases : (P : Type 0) (controlled : Bool) (counted_ last : ℕ) (u : TrainId) (w : Option PlainWay) → ((zone_time controlled counted_ last u w).issued ≡ [] → P)
    → ((v : PlainWay) → w ≡ Some v → controlled ≡ true → (zone_time controlled counted_ last u w).issued ≡ (0, msg.Auth u last v.mark v.path) ∷ [] → P) → P
time_cases P false counted_ last u w f g = f refl
time_cases P true counted_ last u None f g = f (by_test (nat_lt counted_ last) (λ y. rw y refl) (λ n. rw n refl))
time_cases P true counted_ last u (Some v) f g = by_test (nat_lt counted_ last)
    (λ y. g v refl refl (rw y refl))
    (λ n. f (rw n refl))

pub report_none : (line : Line) (z : ℕ) (s : Story) (u : TrainId) (m : Msg) → (zone_report line z s u m).issued ≡ []
report_none line z s u m = by_test (is_used line z u.0 s (possible_front line z u.0 s) m) (λ y. rw y refl) (λ n. rw n refl)

-- a short order issues nothing, or an authority over the way up to a place before its end that the greatest front has not passed
pub short_cases : (P : Type 0) (line : Line) (z : ℕ) (s : Story) (u : TrainId) (front : ℕ) (w : Option PlainWay) (st : DirSeg) (off : ℕ) → ((zone_short line z s u front w st off).issued ≡ [] → P)
    → ((v : PlainWay) (p : ℕ) → w ≡ Some v → is_pending line u.0 s ≡ false → front ≤ way_start line u.0 s v + p → p < end_place (seg_len line) v.path
    → (zone_short line z s u front w st off).issued ≡ (0, msg.Auth u (last_issued u.0 s + 1) v.mark (path_to (seg_len line) v.path.from v.path.steps.items p)) ∷ [] → P) → P
short_cases P line z s u front None st off f g = f refl
short_cases P line z s u front (Some v) st off f g = by_test (known_train z u.0 s).equipped
    (λ fit. by_test (is_pending line u.0 s)
    (λ y. f (rw (fit, y) refl))
    (λ n. by_place (place_of_step (seg_len line) v.path.steps.items st off) refl n fit))
    (λ n. f (rw n refl))
  where
    by_place : (r : Option ℕ) → place_of_step (seg_len line) v.path.steps.items st off ≡ r → is_pending line u.0 s ≡ false → (known_train z u.0 s).equipped ≡ true → P
    by_place None is n fit = f (rw (fit, n, is) refl)
    by_place (Some p) is n fit = by_test (nat_le front (way_start line u.0 s v + p) && nat_lt p (end_place (seg_len line) v.path))
        (λ y. g v p refl n (grind (arith, nat_tests)) (grind (arith, nat_tests)) (rw (fit, n, is, y) refl))
        (λ m. f (rw (fit, n, is, m) refl))

-- the train that an order names; 0 where it names none
abbrev pub order_train : Order → TrainId
order_train (Short u st off) = u
order_train _ = record { 0 = 0 }

-- how many numbers an order asks for
abbrev pub order_asks : Order → ℕ
order_asks (Short u st off) = 1
order_asks _ = 0

-- the train of which a zone may issue an authority for a message: the one that it names; 0 where it issues none
abbrev pub train_of : Msg → TrainId
train_of (msg.EntryAsk u time long error speed equipped step) = u
train_of (msg.Ask u time steps to) = u
train_of (msg.Time time u) = u
train_of (msg.Order time order) = order_train order
train_of _ = record { 0 = 0 }

-- how many numbers a message asks for: one as a request for entry, an ask or a short order
abbrev pub asks : Msg → ℕ
asks (msg.EntryAsk u time long error speed equipped step) = 1
asks (msg.Ask u time steps to) = 1
asks (msg.Order time order) = order_asks order
asks _ = 0

-- an authority to the world, of the train that a message names, under the last number at most, or the next where it was asked
pub record Grants (s : Story) (q : Msg) (x : ℕ × Msg) : Type 0 where
  pub to_world : x.0 ≡ 0
  pub number : ℕ
  pub mark : ℕ
  pub path : Path
  pub is : x.1 ≡ msg.Auth (train_of q) number mark path
  pub most : number ≤ last_issued (train_of q).0 s + asks q

grants : (s : Story) (q : Msg) (number mark : ℕ) (path : Path) → number ≤ last_issued (train_of q).0 s + asks q → Grants s q (0, msg.Auth (train_of q) number mark path)
grants s q number mark path most = record { to_world = refl; number = number; mark = mark; path = path; is = refl; most = most }

order_issues : (line : Line) (z : ℕ) (s : Story) (time : ℕ) (order : Order) → AtMostOne (Grants s (msg.Order time order)) (zone_order line z s (msg.Order time order) order).issued
order_issues line z s time (Short u st off) =
    let q = msg.Order time (Short u st off) in
    short_cases (AtMostOne (Grants s q) (zone_order line z s q (Short u st off)).issued) line z s u (front_after line z u.0 s q) (way line z u.0 s) st off
    (λ h. says_nothing h) (λ v p is free ahead before h. says_one _ h (grants s q _ _ _ (omega arith)))
order_issues line z s time (Close seg) = says_nothing refl
order_issues line z s time (Open seg) = says_nothing refl
order_issues line z s time _ = says_nothing refl

pub zone_issues : (line : Line) (z from : ℕ) (s : Story) (q : Msg) → AtMostOne (Grants s q) (zone_takes line z from s q).issued
zone_issues line z from s (msg.EntryAsk u time long error speed equipped step) =
    let q = msg.EntryAsk u time long error speed equipped step in
    entry_cases (AtMostOne (Grants s q) (zone_takes line z from s q).issued) z (knows z u.0 s) (knows_most z s) (seg_len line step.seg.0) u long step (holder_of line z s step.seg.0)
    (λ h. says_nothing h) (λ free fitting h. says_one _ h (grants s q _ _ _ (omega arith)))
zone_issues line z from s (msg.Ask u time steps to) =
    let q = msg.Ask u time steps to in
    ask_cases (AtMostOne (Grants s q) (zone_takes line z from s q).issued) (seg_len line) z u (last_issued u.0 s) (way line z u.0 s) steps.items (limit line z u.0 s (now_with z s q) steps.items to)
    (λ h. says_nothing h) (λ v is far h. says_one _ h (grants s q _ _ _ (omega arith)))
zone_issues line z from s (msg.Time time u) =
    let q = msg.Time time u in
    time_cases (AtMostOne (Grants s q) (zone_takes line z from s q).issued) (controls z u.0 s) (counted line u.0 s) (last_issued u.0 s) u (sent_again line u.0 s (way line z u.0 s))
    (λ h. says_nothing h) (λ v is c h. says_one _ h (grants s q _ _ _ (omega arith)))
zone_issues line z from s (msg.Report u time mark offset integrity) = says_nothing (report_none line z s u (msg.Report u time mark offset integrity))
zone_issues line z from s (msg.Order time order) = order_issues line z s time order
zone_issues line z from s _ = says_nothing refl

-- what each message is that a zone issues
pub zone_each : (Q : Msg → Type 0) (line : Line) (z from : ℕ) (s : Story) (q : Msg) → ((number mark : ℕ) (path : Path) → number ≤ last_issued (train_of q).0 s + asks q → Q (msg.Auth (train_of q) number mark path))
    → AllIn Q (zone_takes line z from s q).issued
zone_each Q line z from s q all = each_issued (Grants s q) Q (λ x g. subst Q (sym g.is) (all g.number g.mark g.path g.most)) (zone_takes line z from s q).issued (zone_issues line z from s q)

-- no authority of another train
pub zone_other : (t : ℕ) (line : Line) (z from : ℕ) (s : Story) (q : Msg) → nat_eq (train_of q).0 t ≡ false → NoAuth t (zone_takes line z from s q).issued
zone_other t line z from s q other = zone_each (λ m. is_auth t m ≡ false) line z from s q (λ number mark path most. other)

-- The world issues an answer to the sender, which carries the clock, or nothing.

pub record Replies (s : Story) (to : ℕ) (x : ℕ × Msg) : Type 0 where
  pub to_sender : x.0 ≡ to
  pub train : TrainId
  pub number : ℕ
  pub taken : Bool
  pub is : x.1 ≡ msg.Answer train (clock s) number taken

pub replies : (s : Story) (t : TrainId) (zone number : ℕ) (taken : Bool) → Replies s zone (zone, msg.Answer t (clock s) number taken)
replies s t zone number taken = record { to_sender = refl; train = t; number = number; taken = taken; is = refl }

auth_issues : (s : Story) (on : Bool) (last : ℕ) (was_taken takes_it : Bool) (t : TrainId) (zone number : ℕ) → AtMostOne (Replies s zone) (taking_auth (clock s) on last was_taken takes_it t zone number).issued
auth_issues s false last was_taken takes_it t zone number = says_nothing refl
auth_issues s true last was_taken takes_it t zone number = by_test (nat_lt last number)
    (λ y. rw y (says_one _ refl (replies s t zone number takes_it)))
    (λ n. rw n (says_one _ refl (replies s t zone last was_taken)))

pub world_issues : (line : Line) (s : Story) (from : ℕ) (m : Msg) → AtMostOne (Replies s from) (world_takes line s from m).issued
world_issues line s from (msg.Auth t number mark path) =
    auth_issues s (entered t.0 s) (last_number t.0 s) (last_taken line t.0 s) (accepts line t.0 s (limit_place line t.0 s) (record { mark = mark; path = path })) t from number
world_issues line s from _ = says_nothing refl

-- what each message is that the world issues for one that it takes
pub world_each : (Q : Msg → Type 0) (line : Line) (s : Story) (from : ℕ) (m : Msg) → ((t : TrainId) (number : ℕ) (taken : Bool) → Q (msg.Answer t (clock s) number taken)) → AllIn Q (world_takes line s from m).issued
world_each Q line s from m all = each_issued (Replies s from) Q (λ x r. subst Q (sym r.is) (all r.train r.number r.taken)) (world_takes line s from m).issued (world_issues line s from m)

-- no authority
pub world_none : (t : ℕ) (line : Line) (s : Story) (from : ℕ) (m : Msg) → NoAuth t (world_takes line s from m).issued
world_none t line s from m = world_each (λ n. is_auth t n ≡ false) line s from m (λ u number taken. refl)
