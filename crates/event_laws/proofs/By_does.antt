-- What an event does: what it takes, and what it issues. A law of all events is proved of three: one that takes nothing, a take
-- by the world, and a take by a zone.
use Rattle.std.proofs.Common.{◌≡◌, ℕ, zero, suc, ◌-◌, List, [], Option, Some, None, Result, Ok, Err, Bool, true, false, ◌&&◌, not, refl, sym, ◌∙◌, ap, subst}
use Rattle.std.specs.Prelude.{nat_eq}
use Rattle.std.proofs.lemmas.Option.{same_Some}
use Rattle.std.proofs.lemmas.Bool.{and_parts, not-true}
use Rattle.list_laws.proofs.By_test.{by_test}
use Rattle.track_points.specs.declared.ids.DirSeg.{DirSeg}
use Rattle.track_points.specs.declared.ids.TrainId.{TrainId}
use Rattle.track_points.specs.declared.path.Path.{Path}
use Rattle.definitions.specs.declared.event.Event.{Event}
use Rattle.definitions.specs.declared.event.Event.TheVariants.{Entry, Enter, Ask, Report, Time, Close, Open, Shorten, Take, Noise}
use Rattle.definitions.specs.declared.message.Msg.{Msg}
use Rattle.definitions.specs.declared.message.Msg.TheVariants as msg
use Rattle.definitions.specs.declared.message.Order.TheVariants as orders
use Rattle.definitions.specs.declared.outcome.FrameFault.{FrameFault}
use Rattle.definitions.specs.Track.{Line, zone_of, is_actor}
use Rattle.definitions.specs.Frames.{frame_at}
use Rattle.definitions.specs.Story.{Transition, Story}
use Rattle.definitions.specs.World.{Facts, facts_of, clock, entry_authority, is_auth}
use Rattle.definitions.specs.Premises.{built}
use Rattle.definitions.specs.Control.{message_time, took_time}
use Rattle.definitions.specs.Steps.{Effect, nothing, sender_of, entering, requesting, telling, reporting, hearing_noise, world_takes, zone_step, transition, taking, message, effects}
use Rattle.event_laws.proofs.Issued_all.{AllIn, AllIssued, issued_all, AtMostOne, says_nothing, says_one, each_issued, NoAuth}
use Rattle.event_laws.proofs.Admitted.{Admitted}
use Rattle.event_laws.proofs.Zone_issues.{train_of, zone_each, Replies, replies, world_issues, world_none}

abbrev pub is_report : Msg → Bool
is_report (msg.Report u time mark offset integrity) = true
is_report _ = false

abbrev pub reports : Event → Bool
reports (Report t z step offset whole) = true
reports _ = false

-- what the world issues carries the clock and is no authority, and a report by the event of one alone
pub record Tells (s : Story) (e : Event) (x : ℕ × Msg) : Type 0 where
  pub time : message_time x.1 ≡ clock s
  pub unauthorized : (t : ℕ) → is_auth t x.1 ≡ false
  pub reported : is_report x.1 ≡ true → reports e ≡ true

-- The world issues at most one message.

pub tells : (s : Story) (e : Event) (to : ℕ) (x : ℕ × Msg) → Replies s to x → Tells s e x
tells s e to x r = record {
  time = ap (λ (m : Msg). message_time m) r.is;
  unauthorized = λ t. ap (λ (m : Msg). is_auth t m) r.is;
  reported = λ h. absurd (let c : false ≡ true = sym (ap (λ (m : Msg). is_report m) r.is) ∙ h in cc);
}

enter_issues : (s : Story) (e : Event) (t : TrainId) (zone : Option ℕ) → AtMostOne (Tells s e) (entering (clock s) t zone).issued
enter_issues s e t None = says_nothing refl
enter_issues s e t (Some zone) = says_one _ refl (tells s e zone _ (replies s t zone 1 true))

request_issues : (s : Story) (e : Event) (t : TrainId) (step : DirSeg) (zone : ℕ) (f : Option Facts) → AtMostOne (Tells s e) (requesting (clock s) t step zone f).issued
request_issues s e t step zone None = says_nothing refl
request_issues s e t step zone (Some f) = says_one _ refl (record { time = refl; unauthorized = λ t. refl; reported = λ h. absurd cc })

-- noise issues nothing
pub noise_issues : (to : ℕ) (r : Result Msg FrameFault) → (hearing_noise to r).issued ≡ []
noise_issues to (Ok m) = refl
noise_issues to (Err fault) = refl

-- The three.

-- the event takes a message that was sent
pub record TakeOf (s : Story) (e : Event) (to from : ℕ) (m : Msg) : Type 0 where
  pub number : ℕ
  pub is : e ≡ Take to from number
  pub was_sent : message from to number s ≡ Some m

by_message : (line : Line) (s : Story) (to from number : ℕ) (r : Option Msg) → message from to number s ≡ r → (P : Transition → Type 0)
    → ((a : ℕ) (x : Effect) → AtMostOne (Tells s (Take to from number)) x.issued → P (transition (Take to from number) a None x))
    → ((y : ℕ) (m : Msg) (k : TakeOf s (Take to from number) 0 y m) → P (transition (Take 0 y k.number) 0 (Some (y, m)) (world_takes line s y m)))
    → ((z y : ℕ) (m : Msg) (k : TakeOf s (Take to from number) (suc z) y m) → P (transition (Take (suc z) y k.number) (suc z) (Some (y, m)) (zone_step line (suc z) y s m)))
    → P (taking line s (Take to from number) to from r)
by_message line s to from number None is P own world zone = own to nothing (says_nothing refl)
by_message line s zero from number (Some m) is P own world zone = world from m (record { number = number; is = refl; was_sent = is })
by_message line s (suc z) from number (Some m) is P own world zone = zone z from m (record { number = number; is = refl; was_sent = is })

pub by_does : (line : Line) (s : Story) (e : Event) (P : Transition → Type 0)
    → ((a : ℕ) (x : Effect) → AtMostOne (Tells s e) x.issued → P (transition e a None x))
    → ((from : ℕ) (m : Msg) (k : TakeOf s e 0 from m) → P (transition (Take 0 from k.number) 0 (Some (from, m)) (world_takes line s from m)))
    → ((z from : ℕ) (m : Msg) (k : TakeOf s e (suc z) from m) → P (transition (Take (suc z) from k.number) (suc z) (Some (from, m)) (zone_step line (suc z) from s m)))
    → P (effects line s e)
by_does line s (Take to from number) P own world zone = by_message line s to from number (message from to number s) refl P own world zone
by_does line s (Entry t step) P own world zone = own 0 (requesting (clock s) t step (zone_of line step.seg.0) (facts_of t.0 s)) (request_issues s (Entry t step) t step (zone_of line step.seg.0) (facts_of t.0 s))
by_does line s (Enter t) P own world zone = own 0 (entering (clock s) t (sender_of (entry_authority t.0 s))) (enter_issues s (Enter t) t (sender_of (entry_authority t.0 s)))
by_does line s (Ask t z steps to) P own world zone = own 0 (telling z.0 (msg.Ask t (clock s) steps to)) (says_one _ refl (record { time = refl; unauthorized = λ t. refl; reported = λ h. absurd cc }))
by_does line s (Report t z step offset whole) P own world zone = own 0 (telling z.0 (reporting line s t offset whole)) (says_one _ refl (record { time = refl; unauthorized = λ t. refl; reported = λ h. refl }))
by_does line s (Time z t) P own world zone = own 0 (telling z.0 (msg.Time (clock s) t)) (says_one _ refl (record { time = refl; unauthorized = λ t. refl; reported = λ h. absurd cc }))
by_does line s (Close seg) P own world zone = own 0 (telling (zone_of line seg.0) (msg.Order (clock s) (orders.Close seg))) (says_one _ refl (record { time = refl; unauthorized = λ t. refl; reported = λ h. absurd cc }))
by_does line s (Open seg) P own world zone = own 0 (telling (zone_of line seg.0) (msg.Order (clock s) (orders.Open seg))) (says_one _ refl (record { time = refl; unauthorized = λ t. refl; reported = λ h. absurd cc }))
by_does line s (Shorten z t st off) P own world zone = own 0 (telling z.0 (msg.Order (clock s) (orders.Short t st off))) (says_one _ refl (record { time = refl; unauthorized = λ t. refl; reported = λ h. absurd cc }))
by_does line s (Noise to from bytes) P own world zone = own 0 (hearing_noise to (frame_at bytes.items)) (says_nothing (noise_issues to (frame_at bytes.items)))
by_does line s _ P own world zone = own 0 nothing (says_nothing refl)

-- The transition of an event names that event.
pub effect_event : (line : Line) (s : Story) (e : Event) → (effects line s e).event ≡ e
effect_event line s e = by_does line s e (λ x. x.event ≡ e) (λ a x i. refl) (λ from m k. sym k.is) (λ z from m k. sym k.is)

-- What it issues.

-- what holds of all that the world tells, and of all authorities, holds of what an event issues
pub issues_each : (Q : Msg → Type 0) (line : Line) (s : Story) (e : Event) → ((x : ℕ × Msg) → Tells s e x → Q x.1) → ((q : Msg) → (number mark : ℕ) (path : Path) → Q (msg.Auth (train_of q) number mark path)) → AllIn Q (effects line s e).issued
issues_each Q line s e told granted = by_does line s e (λ x. AllIn Q x.issued)
    (λ a x i. each_issued (Tells s e) Q told x.issued i)
    (λ from m k. each_issued (Replies s from) Q (λ x r. told x (tells s e from x r)) (world_takes line s from m).issued (world_issues line s from m))
    (λ z from m k. zone_each Q line (suc z) from s m (λ number mark path most. granted m number mark path))

pub told_none : (t : ℕ) (s : Story) (e : Event) (issued : List (ℕ × Msg)) → AtMostOne (Tells s e) issued → NoAuth t issued
told_none t s e issued i = each_issued (Tells s e) (λ m. is_auth t m ≡ false) (λ x k. k.unauthorized t) issued i

-- an event that takes nothing issues no authority
pub untaken_none : (t : ℕ) (line : Line) (s : Story) (e : Event) → (effects line s e).took ≡ None → NoAuth t (effects line s e).issued
untaken_none t line s e h = by_does line s e (λ x. x.took ≡ None → NoAuth t x.issued)
    (λ a x i h. told_none t s e x.issued i) (λ from m k h. world_none t line s from m) (λ z from m k h. absurd cc) h

-- no report but by the event of one
unreported : (s : Story) (e : Event) → reports e ≡ false → (x : ℕ × Msg) → Tells s e x → is_report x.1 ≡ false
unreported s e h x k = by_test (is_report x.1)
    (λ y. absurd (let c : true ≡ false = sym (k.reported y) ∙ h in cc))
    (λ n. n)

pub effect_unreported : (line : Line) (s : Story) (e : Event) → reports e ≡ false → AllIn (λ m. is_report m ≡ false) (effects line s e).issued
effect_unreported line s e h = issues_each (λ m. is_report m ≡ false) line s e (unreported s e h) (λ q number mark path. refl)

-- what it issues carries the clock, or 0
pub effect_times : (P : ℕ → Type 0) (line : Line) (s : Story) → P 0 → P (clock s) → (e : Event) → AllIn (λ m. P (message_time m)) (effects line s e).issued
effect_times P line s p q e = issues_each (λ m. P (message_time m)) line s e (λ x k. subst P (sym k.time) q) (λ m number mark path. p)

-- What it takes was issued.

pub take_issued : (P : Msg → Type 0) (s : Story) (e : Event) (to from : ℕ) (m : Msg) → AllIssued P s → TakeOf s e to from m → P m
take_issued P s e to from m a k = issued_all P from to s (k.number - 1) m a k.was_sent

same_message : (x y : ℕ × Msg) → Some x ≡ Some y → x.1 ≡ y.1
same_message x y h = ap (λ (z : ℕ × Msg). z.1) (same_Some x y h)

pub took_issued : (P : Msg → Type 0) (line : Line) (s : Story) → AllIssued P s → (e : Event) (other : ℕ) (n : Msg) → (effects line s e).took ≡ Some (other, n) → P n
took_issued P line s a e other n h = by_does line s e (λ x. x.took ≡ Some (other, n) → P n)
    (λ b x i h. absurd cc)
    (λ from m k h. subst P (same_message (from, m) (other, n) h) (take_issued P s e 0 from m a k))
    (λ z from m k h. subst P (same_message (from, m) (other, n) h) (take_issued P s e (suc z) from m a k)) h

-- the time of what it takes is one that was issued, or 0
pub effect_took : (P : ℕ → Type 0) (line : Line) (s : Story) → P 0 → AllIssued (λ m. P (message_time m)) s → (e : Event) → P (took_time (effects line s e).took)
effect_took P line s p a e = by_does line s e (λ x. P (took_time x.took))
    (λ b x i. p) (λ from m k. take_issued (λ m. P (message_time m)) s e 0 from m a k) (λ z from m k. take_issued (λ m. P (message_time m)) s e (suc z) from m a k)

-- an admitted take is between two actors of the line
pub take_actors : (line : Line) (s : Story) (e : Event) (to from : ℕ) (m : Msg) → Admitted line s e → TakeOf s e to from m → (nat_eq to from ≡ false) × ((is_actor line to ≡ true) × (is_actor line from ≡ true))
take_actors line s e to from m a k =
    let b = and_parts (not (nat_eq to from)) (is_actor line to && is_actor line from) (subst (λ (y : Event). built line s y ≡ true) k.is a.form) in
    (not-true (nat_eq to from) b.0, and_parts (is_actor line to) (is_actor line from) b.1)
