-- Each order on a segment that is issued is on one of the line.
use Rattle.std.proofs.Common.{◌≡◌, ℕ, zero, suc, List, [], ◌∷◌, Option, Some, None, true, refl}
use Rattle.track_points.specs.declared.ids.TrainId.{TrainId}
use Rattle.track_points.specs.declared.ids.DirSeg.{DirSeg}
use Rattle.definitions.specs.declared.event.Event.{Event}
use Rattle.definitions.specs.declared.event.Event.TheVariants.{Entry, Enter, Ask, Report, Time, Close, Open, Shorten, Take, Noise}
use Rattle.definitions.specs.declared.message.Msg.{Msg}
use Rattle.definitions.specs.declared.message.Msg.TheVariants as msg
use Rattle.definitions.specs.declared.message.Order.{Order}
use Rattle.definitions.specs.declared.message.Order.TheVariants as orders
use Rattle.definitions.specs.Frames.{frame_at}
use Rattle.definitions.specs.Track.{Line, has_segment, zone_of}
use Rattle.definitions.specs.Premises.{built}
use Rattle.definitions.specs.Story.{Story}
use Rattle.definitions.specs.World.{clock, Facts, facts_of, entry_authority}
use Rattle.definitions.specs.Steps.{entering, requesting, sender_of, hearing_noise, takes, taking, message, effects}
use Rattle.event_laws.proofs.Issued_all.{AllIn, AllIssued}
use Rattle.event_laws.proofs.By_does.{noise_issues}
use Rattle.event_laws.proofs.Zone_issues.{zone_each, world_each}

abbrev pub IsOnLine : Line → Order → Type 0
IsOnLine line (orders.Close seg) = has_segment line seg.0 ≡ true
IsOnLine line (orders.Open seg) = has_segment line seg.0 ≡ true
IsOnLine line _ = Unit {0}

abbrev pub OrderTrue : Line → Msg → Type 0
OrderTrue line (msg.Order time order) = IsOnLine line order
OrderTrue line _ = Unit {0}

none_ordered : (line : Line) (issued : List (ℕ × Msg)) → issued ≡ [] → AllIn (OrderTrue line) issued
unfolding AllIn
none_ordered line issued h = rw h tt

entering_ordered : (line : Line) (time : ℕ) (t : TrainId) (zone : Option ℕ) → AllIn (OrderTrue line) (entering time t zone).issued
unfolding AllIn
entering_ordered line time t None = tt
entering_ordered line time t (Some zone) = (tt, tt)

requesting_ordered : (line : Line) (time : ℕ) (t : TrainId) (step : DirSeg) (zone : ℕ) (f : Option Facts) → AllIn (OrderTrue line) (requesting time t step zone f).issued
unfolding AllIn
requesting_ordered line time t step zone None = tt
requesting_ordered line time t step zone (Some f) = (tt, tt)

takes_ordered : (line : Line) (to from : ℕ) (s : Story) (m : Msg) → AllIn (OrderTrue line) (takes line to from s m).issued
takes_ordered line zero from s m = world_each (OrderTrue line) line s from m (λ t number taken. tt)
takes_ordered line (suc z) from s m = zone_each (OrderTrue line) line (suc z) from s m (λ number mark path most. tt)

taking_ordered : (line : Line) (s : Story) (e : Event) (to from : ℕ) (m : Option Msg) → AllIn (OrderTrue line) (taking line s e to from m).issued
taking_ordered line s e to from None = none_ordered line [] refl
taking_ordered line s e to from (Some m) = takes_ordered line to from s m

effects_ordered : (line : Line) (s : Story) (e : Event) → built line s e ≡ true → AllIn (OrderTrue line) (effects line s e).issued
unfolding AllIn
effects_ordered line s (Entry t step) h = requesting_ordered line (clock s) t step (zone_of line step.seg.0) (facts_of t.0 s)
effects_ordered line s (Enter t) h = entering_ordered line (clock s) t (sender_of (entry_authority t.0 s))
effects_ordered line s (Ask t z steps to) h = (tt, tt)
effects_ordered line s (Report t z step offset whole) h = (tt, tt)
effects_ordered line s (Time z t) h = (tt, tt)
effects_ordered line s (Close seg) h = (h, tt)
effects_ordered line s (Open seg) h = (h, tt)
effects_ordered line s (Shorten z t st off) h = (tt, tt)
effects_ordered line s (Noise to from bytes) h = none_ordered line (hearing_noise to (frame_at bytes.items)).issued (noise_issues to (frame_at bytes.items))
effects_ordered line s (Take to from number) h = taking_ordered line s (Take to from number) to from (message from to number s)
effects_ordered line s _ h = tt

pub orders_start : (line : Line) → AllIssued (OrderTrue line) []
unfolding AllIssued
orders_start line = tt

pub orders_step : (line : Line) (s : Story) (e : Event) → built line s e ≡ true → AllIssued (OrderTrue line) s → AllIssued (OrderTrue line) (effects line s e ∷ s)
unfolding AllIssued
orders_step line s e h k = (effects_ordered line s e h, k)
