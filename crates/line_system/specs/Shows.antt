-- What a system shows of its zones and its world: what its history tells of them.
use Rattle.std.specs.Prelude.{◌≡◌, ℕ, length, nat_eq, Option, Some, None, true, false}
use Rattle.track_points.specs.Points.{Point}
use Rattle.track_points.specs.Sets.{Points, set_has}
use Rattle.definitions.specs.Track.{Line, zone_of, layout}
use Rattle.definitions.specs.Story.{Story}
use Rattle.definitions.specs.World as world
use Rattle.definitions.specs.World.{clock}
use Rattle.definitions.specs.Control.{controls, now_of}
use Rattle.definitions.specs.Closures.{is_closed}
use Rattle.definitions.specs.Authority.{held, envelope}
use Rattle.plain_state.specs.World.{PlainWorld, find_train}
use Rattle.plain_state.specs.Zone.{find_controlled, hold_has, closed_at}
use Rattle.plain_state.specs.Refinement.{world_train}
use Rattle.world_sim.specs.World.{IsWorldOn}
use Rattle.zone_state.specs.Zone.{ZoneKept, IsZoneOn, IsEnvelope}

-- an envelope that is shown is the train's, and none is shown exactly where the zone does not control the train
abbrev pub ShowsEnvelope : Line → ℕ → ℕ → Story → Option Points → Type 0
ShowsEnvelope line z t s None = controls z t s ≡ false
ShowsEnvelope line z t s (Some set) = (controls z t s ≡ true) × ((point : Point) → set_has set point ≡ envelope line z t s point)

-- of a zone: what `now`, `held` and `envelope` answer are Now, Held and Envelope, and what `is_closed` answers of a segment of its own
-- is whether it is closed
pub record ShowsNotions (line : Line) (s : Story) (z : ℕ) (y : ZoneKept) : Type 0 where
  pub fits : IsZoneOn line y
  pub id : y.plain.id ≡ z
  pub time : y.plain.clock ≡ now_of z s
  pub holds : (t : ℕ) (point : Point) → hold_has line y.plain.id (find_controlled t y.plain.trains) point ≡ held line z t s point
  pub closed : (seg : ℕ) → nat_eq (zone_of line seg) z ≡ true → closed_at y.plain.closed seg ≡ is_closed z seg s
  pub envelopes : (t : ℕ) (set : Option Points) → IsEnvelope (layout line) (find_controlled t y.plain.trains) set → ShowsEnvelope line z t s set

-- of the world: its clock, and of each train that is declared what the history tells of it
pub record ShowsWorld (line : Line) (s : Story) (w : PlainWorld) : Type 0 where
  pub on : IsWorldOn line w
  pub time : w.clock ≡ clock s
  pub trains : (t : ℕ) → find_train t w.trains ≡ world_train line t s
  pub count : length w.trains ≡ length (world.trains s)
