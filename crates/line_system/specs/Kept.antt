-- What a system keeps: its state tells what its history tells.
use Rattle.std.specs.Prelude.{◌≡◌, ◌≤◌, ℕ, length, List, Bool}
use Rattle.definitions.specs.declared.event.Event.{Event}
use Rattle.definitions.specs.Track.{Line}
use Rattle.definitions.specs.Safe.{IsLineOfOneZone, Kept}
use Rattle.definitions.specs.Story.{Story, messages}
use Rattle.definitions.specs.Steps.{story_of, taken_most, is_lost}
use Rattle.definitions.specs.Trace.{event_limit}
use Rattle.definitions.specs.Zones.{zone_id}
use Rattle.plain_state.specs.Refinement.{Refines}
use Rattle.zone_state.specs.Zone.{ZoneKept, IsZoneOn}
use Rattle.world_sim.specs.World.{IsWorldOn}
use Rattle.line_state.specs.Losses.{lost_at}
use Rattle.line_state.specs.State.{Tally, Parts, plain_of}

-- of a link: which of the ordinals that it can have are named lost
pub record KeepsLost (lost : List Bool) (from to : ℕ) (s : Story) : Type 0 where
  pub size : length lost ≡ 200001
  pub agree : (n : ℕ) → n ≤ 200000 → lost_at lost n ≡ is_lost from to n s

pub record IsKept (line : Line) (events : List Event) (k : Parts) (t : Tally) (zone : ZoneKept) : Type 0 where
  pub one_zone : IsLineOfOneZone line
  pub kept : Kept line events
  pub few : length events ≤ event_limit
  pub refines : Refines line (story_of line events) (plain_of k)
  pub taken_zone : t.by_zone ≡ taken_most (zone_id line) 0 (story_of line events)
  pub taken_world : t.by_world ≡ taken_most 0 (zone_id line) (story_of line events)
  pub lost_zone : KeepsLost t.lost_to_zone 0 (zone_id line) (story_of line events)
  pub lost_world : KeepsLost t.lost_to_world (zone_id line) 0 (story_of line events)
  pub count : t.messages ≡ messages (story_of line events)
  pub on_line : IsZoneOn line zone
  pub world_on : IsWorldOn line k.world
