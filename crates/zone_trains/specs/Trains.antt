-- What holds of a train that a zone controls, and of the list of its trains.
use Rattle.std.specs.Prelude.{◌≡◌, ℕ, List, [], ◌∷◌, ◌+◌, ◌<◌, ◌≤◌, length, map, filter, slice_index_or, if◌then◌else◌, Bool, true, ◌&&◌, not, nat_eq, nat_lt, nat_le, Option, Some, None, is_some, Result, Ok, Err, ⊤}
use Rattle.std.specs.List.{position}
use Rattle.std.specs.List.Sorted.{IsNonDecreasingBy}
use Rattle.track_points.specs.declared.ids.DirSeg.{DirSeg}
use Rattle.track_points.specs.declared.ids.TrainId.{TrainId}
use Rattle.track_points.specs.Points.{Lengths, Point, end_place}
use Rattle.track_points.specs.Sets.{Points, set_has}
use Rattle.definitions.specs.Track.{Line, seg_len, has_segment, last_step}
use Rattle.definitions.specs.declared.message.Msg.{Msg}
use Rattle.definitions.specs.declared.message.Msg.TheVariants as msg
use Rattle.definitions.specs.declared.outcome.Obstacle.{Obstacle}
use Rattle.definitions.specs.declared.outcome.ShortRefusal.{ShortRefusal}
use Rattle.definitions.specs.declared.outcome.ShortRefusal.TheVariants.{Unequipped, Pending, Place}
use Rattle.definitions.specs.declared.outcome.Outcome.{Outcome}
use Rattle.definitions.specs.declared.outcome.Outcome.TheVariants as out
use Rattle.definitions.specs.Steps.{Effect, place_of_step}
use Rattle.way_path.specs.Ways.{IsWay, OnLine, EndsWithPath}
use Rattle.authority_ledger.specs.declared.ledger.Shrink.{Shrink}
use Rattle.authority_ledger.specs.Ledger.{IsLedger}
use Rattle.plain_state.specs.declared.Controlled.{Controlled}
use Rattle.plain_state.specs.Zone.{hold_has, alarm_of}

-- trains stand by ascending id
abbrev pub Ascend : List Controlled → Type 0
Ascend trains = IsNonDecreasingBy (λ x. x.id.0) trains

-- an unanswered shrink ends not before the least front, and before the way does
abbrev pub ShrinkFits : ℕ → ℕ → Option Shrink → Type 0
ShrinkFits lo end None = ⊤
ShrinkFits lo end (Some s) = (lo ≤ s.end) × (s.end < end)

-- what holds of a train that the zone controls, on its line, at the zone's Now
pub record TrainFits (line : Line) (clock : ℕ) (x : Controlled) : Type 0 where
  pub way : IsWay x.way
  pub on_line : OnLine line x.way
  pub ends : EndsWithPath (seg_len line) x.way
  pub long : 1 ≤ x.train_length
  pub behind : x.way.path.from + x.train_length ≡ x.fronts.lo
  pub ordered : x.fronts.lo ≤ x.fronts.hi
  pub ahead : x.fronts.hi ≤ x.way.end
  pub at : x.fronts.at ≡ clock
  pub ledger : IsLedger x.ledger
  pub shrink : ShrinkFits x.fronts.lo x.way.end x.ledger.pending

unfoldable pub AllFit : Line → ℕ → List Controlled → Type 0
AllFit line clock [] = ⊤
AllFit line clock (x ∷ xs) = TrainFits line clock x × AllFit line clock xs

-- the points of a train's way in the zone's own track
abbrev pub IsHold : Line → ℕ → Controlled → Points → Type 0
IsHold line z x hold = (point : Point) → set_has hold point ≡ hold_has line z (Some x) point

-- what holds of a train while a report has narrowed its fronts and its way still begins where it did
pub record TrainStands (line : Line) (x : Controlled) : Type 0 where
  pub way : IsWay x.way
  pub on_line : OnLine line x.way
  pub ends : EndsWithPath (seg_len line) x.way
  pub long : 1 ≤ x.train_length
  pub behind : x.way.path.from + x.train_length ≤ x.fronts.lo
  pub ordered : x.fronts.lo ≤ x.fronts.hi
  pub ahead : x.fronts.hi ≤ x.way.end
  pub ledger : IsLedger x.ledger
  pub shrink : ShrinkFits x.fronts.lo x.way.end x.ledger.pending

-- what the growth of fronts wants of a train, whose fronts are those at a time
pub record CanGrow (before : ℕ) (x : Controlled) : Type 0 where
  pub ordered : x.fronts.lo ≤ x.fronts.hi
  pub ahead : x.fronts.hi ≤ x.way.end
  pub at : x.fronts.at ≡ before

unfoldable pub AllCanGrow : ℕ → List Controlled → Type 0
AllCanGrow before [] = ⊤
AllCanGrow before (x ∷ xs) = CanGrow before x × AllCanGrow before xs

abbrev pub is_train : ℕ → Controlled → Bool
is_train t x = nat_eq x.id.0 t

-- where a train that is not among some goes in: after those of no greater id
pub record GoesIn (t : ℕ) (trains : List Controlled) (i : ℕ) : Type 0 where
  pub within : i ≤ length trains
  pub below : (k : ℕ) (d : Controlled) → k < i → (slice_index_or trains k d).id.0 ≤ t
  pub rest : (k : ℕ) (d : Controlled) → i ≤ k → k < length trains → t < (slice_index_or trains k d).id.0

-- where a train stands among some, or else where it goes in
abbrev pub IsPlace : ℕ → List Controlled → Result ℕ ℕ → Type 0
IsPlace t trains (Ok i) = (position (is_train t) trains ≡ Some i) × (i < length trains)
IsPlace t trains (Err i) = (position (is_train t) trains ≡ None) × GoesIn t trains i

-- a train that falls silent as Now rises, on a line where one is silent more than these ms after its last report
abbrev pub falls_silent : ℕ → ℕ → ℕ → Controlled → Bool
falls_silent ms before clock x = not (nat_lt (x.report + ms) before) && nat_lt (x.report + ms) clock

abbrev pub alarms_of : ℕ → ℕ → ℕ → ℕ → List Controlled → List Outcome
alarms_of ms z before clock trains = map (alarm_of z) (filter (falls_silent ms before clock) trains)

-- the authority over the way of a train, and its line
abbrev pub path_granted : ℕ → TrainId → Controlled → Obstacle → Effect
path_granted z t x obstacle = record {
  issued = (0, msg.Auth t x.ledger.last x.way.mark x.way.path) ∷ [];
  lines = out.Grant (record { 0 = z }) t x.ledger.last (last_step x.way.path.steps.items) x.way.path.to obstacle ∷ [];
}

-- where a short order lets the way of a train end, or why it does not
abbrev pub end_at : ℕ → ℕ → ℕ → Result ℕ ShortRefusal
end_at front end p = if nat_le front p && nat_lt p end then Ok p else Err Place

abbrev pub end_at_place : ℕ → ℕ → Option ℕ → Result ℕ ShortRefusal
end_at_place front end None = Err Place
end_at_place front end (Some p) = end_at front end p

abbrev pub short_end : Lengths → DirSeg → ℕ → Controlled → Result ℕ ShortRefusal
short_end len st off x =
    if not x.equipped then Err Unequipped
    else if is_some x.ledger.pending then Err Pending
    else end_at_place x.fronts.hi (end_place len x.way.path) (place_of_step len x.way.path.steps.items st off)

-- a request for entry is at a declared segment
abbrev pub entry_declared : Line → Msg → Bool
entry_declared line (msg.EntryAsk t time long error speed equipped step) = has_segment line step.seg.0
entry_declared line _ = true
