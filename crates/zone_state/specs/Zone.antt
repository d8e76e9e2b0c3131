-- What a zone keeps, and what holds of it.
use Rattle.std.specs.Prelude.{◌≡◌, ℕ, List, [], ◌∷◌, ◌≤◌, length, map, Bool, max, Option, Some, None, ⊤}
use Rattle.std.specs.List.{list_all}
use Rattle.track_points.specs.declared.ids.DirSeg.{DirSeg}
use Rattle.track_points.specs.declared.path.Path.{Path}
use Rattle.track_points.specs.Points.{Layout, Point}
use Rattle.track_points.specs.Sets.{Points, set_has}
use Rattle.definitions.specs.Track.{Line}
use Rattle.definitions.specs.declared.message.Msg.{Msg}
use Rattle.definitions.specs.declared.message.Msg.TheVariants as msg
use Rattle.plain_state.specs.declared.Controlled.{Controlled}
use Rattle.plain_state.specs.Zone.{PlainZone, envelope_has, grown_train, fresh_train}
use Rattle.plain_state.specs.Refinement.{Distinct}
use Rattle.zone_reach.specs.Reach.{ReachFits}
use Rattle.zone_trains.specs.Trains.{Ascend, AllFit, IsHold}

-- what a zone keeps: its plain state, and beside each of its trains the points that are held for it
pub record ZoneKept : Type 0 where
  pub plain : PlainZone
  pub holds : List Points

-- what a zone keeps of its trains: what is held for each stands beside it, they ascend, and whether each is fresh is known
pub record AreKept (trains : List Controlled) (holds : List Points) (fresh : Bool) : Type 0 where
  pub beside : length holds ≡ length trains
  pub ascend : Ascend trains
  pub all : fresh ≡ list_all fresh_train trains

unfoldable pub HoldsAre : Line → ℕ → List Controlled → List Points → Type 0
HoldsAre line z [] [] = ⊤
HoldsAre line z (x ∷ xs) (hold ∷ holds) = IsHold line z x hold × HoldsAre line z xs holds
HoldsAre line z [] (hold ∷ holds) = ⊥
HoldsAre line z (x ∷ xs) [] = ⊥

-- every train of a zone fits at its Now, and what is held for it is its way
pub record ZoneFits (line : Line) (z : ZoneKept) : Type 0 where
  pub trains : AllFit line z.plain.clock z.plain.trains
  pub holds : HoldsAre line z.plain.id z.plain.trains z.holds

-- and the trains are few, and none of them is there twice
pub record IsZoneOn (line : Line) (z : ZoneKept) : Type 0 where
  pub fits : ZoneFits line z
  pub few : length z.plain.trains ≤ 256
  pub distinct : Distinct z.plain.trains

-- a zone whose Now has risen to a time that is later, with the fronts of its trains grown
abbrev pub passed : ℕ → ZoneKept → ZoneKept
passed time z = record {
  plain = record z.plain { clock = max z.plain.clock time; trains = map (grown_train (max z.plain.clock time)) z.plain.trains };
  holds = z.holds;
}

-- a message that the world can send: a train that asks for entry is not of length 0
abbrev pub InRange : Msg → Type 0
InRange (msg.EntryAsk t time long error speed equipped step) = 1 ≤ long
InRange _ = ⊤

-- the set of an envelope, of a train that the zone controls
abbrev pub IsEnvelope : Layout → Option Controlled → Option Points → Type 0
IsEnvelope layout None None = ⊤
IsEnvelope layout (Some x) (Some set) = (point : Point) → set_has set point ≡ envelope_has layout x point
IsEnvelope layout _ _ = ⊥

abbrev pub ReachFitsFound : Line → Option Path → List DirSeg → ℕ → Type 0
ReachFitsFound line None asked distance = ⊤
ReachFitsFound line (Some path) asked distance = ReachFits line path asked distance
