-- The program's state as the plain state, and which messages were taken.
use Rattle.std.specs.Prelude.{ℕ, zero, suc, ◌+◌, ◌-◌, ◌≤◌, ◌≡◌, Bool, false, List, [], ◌++◌, length, if◌then◌else◌, nat_eq, max, Option, Some, None, slice_get, ⊤}
use Rattle.definitions.specs.declared.event.Event.{Event}
use Rattle.definitions.specs.declared.event.Event.TheVariants.{Take, Lost}
use Rattle.definitions.specs.declared.message.Msg.{Msg}
use Rattle.definitions.specs.Track.{Line}
use Rattle.definitions.specs.Story.{to_actor}
use Rattle.definitions.specs.Steps.{Effect}
use Rattle.plain_state.specs.World.{PlainWorld, world_take_effect, world_take_next, world_event_effect, world_event_next}
use Rattle.plain_state.specs.Zone.{PlainZone, zone_take_effect, zone_take_next}
use Rattle.plain_state.specs.Plain.{Plain}
use Rattle.zone_state.specs.Zone.{InRange}
use Rattle.line_state.specs.Losses.{lost_at, marked}
use Rattle.line_state.specs.Frames.{Linked}
use Rattle.line_state.specs.declared.state.State.{State}

-- what the program keeps of a line of one zone
pub record Parts : Type 0 where
  pub world : PlainWorld
  pub zone : PlainZone
  pub to_zone : List Msg  -- the link from the world to the zone
  pub to_world : List Msg

abbrev pub parts : State → Parts
parts s = record { world = s.world; zone = s.zone.plain; to_zone = s.to_zone.messages; to_world = s.to_world.messages }

-- the link from an actor to another, by those from the world to the zone of this number and back
abbrev pub link_between : ℕ → List Msg → List Msg → ℕ → ℕ → List Msg
link_between zone to_zone to_world from to =
    if nat_eq from 0 then (if nat_eq to zone then to_zone else [])
    else if nat_eq from zone then (if nat_eq to 0 then to_world else [])
    else []

abbrev pub links_of : Parts → ℕ → ℕ → List Msg
links_of k from to = link_between k.zone.id k.to_zone k.to_world from to

-- a message to an actor from another, by its ordinal from 1
abbrev pub message_of : Parts → ℕ → ℕ → ℕ → Option Msg
message_of k to from number = slice_get (links_of k from to) (number - 1)

-- room on the links for the messages of one step
pub record HasRoom (s : State) : Type 0 where
  pub to_zone : 1100 ≤ s.to_zone.room
  pub to_world : 1100 ≤ s.to_world.room

-- the plain state that this is: its one zone stands for each zone of the line
abbrev pub plain_of : Parts → Plain
plain_of k = record { world = k.world; zones = λ z. k.zone; links = links_of k }

abbrev pub plain : State → Plain
plain s = plain_of (parts s)

-- a step of the world, and one of the zone
abbrev pub world_moved : Parts → PlainWorld → Effect → Parts
world_moved k w x = record k { world = w; to_zone = k.to_zone ++ to_actor k.zone.id x.issued }

abbrev pub zone_moved : Parts → PlainZone → Effect → Parts
zone_moved k z x = record k { zone = z; to_world = k.to_world ++ to_actor 0 x.issued }

abbrev pub parts_taken : Line → Parts → ℕ → ℕ → Option Msg → Parts
parts_taken line k to from None = k
parts_taken line k zero from (Some m) = world_moved k (world_take_next line k.world from m) (world_take_effect line k.world from m)
parts_taken line k (suc z) from (Some m) = zone_moved k (zone_take_next line k.zone from m) (zone_take_effect line k.zone from m)

abbrev pub parts_next : Line → Parts → Event → Parts
parts_next line k (Take to from number) = parts_taken line k to from (slice_get (links_of k from to) (number - 1))
parts_next line k e = world_moved k (world_event_next line k.world e) (world_event_effect line k.world e)

-- what is kept of the messages beside them: the greatest ordinals that the zone and the world took, which are named lost, and
-- how many went out
pub record Tally : Type 0 where
  pub by_zone : ℕ
  pub by_world : ℕ
  pub lost_to_zone : List Bool
  pub lost_to_world : List Bool
  pub messages : ℕ

abbrev pub tally : State → Tally
tally s = record {
  by_zone = s.taken_by_zone;
  by_world = s.taken_by_world;
  lost_to_zone = s.lost_to_zone;
  lost_to_world = s.lost_to_world;
  messages = s.messages;
}

pub record IsStart (t : Tally) : Type 0 where
  pub by_zone : t.by_zone ≡ 0
  pub by_world : t.by_world ≡ 0
  pub size_zone : length t.lost_to_zone ≡ 200001
  pub size_world : length t.lost_to_world ≡ 200001
  pub lost_to_zone : (number : ℕ) → lost_at t.lost_to_zone number ≡ false
  pub lost_to_world : (number : ℕ) → lost_at t.lost_to_world number ≡ false
  pub messages : t.messages ≡ 0

abbrev pub taken_with : ℕ → ℕ → Tally → Tally
taken_with to number t =
    if nat_eq to 0
    then record t { by_world = max number t.by_world }
    else record t { by_zone = max number t.by_zone }

abbrev pub lost_with : ℕ → ℕ → Tally → Tally
lost_with to number t =
    if nat_eq to 0
    then record t { lost_to_world = marked number t.lost_to_world }
    else record t { lost_to_zone = marked number t.lost_to_zone }

-- which messages to an actor are lost
abbrev pub lost_to : ℕ → Tally → ℕ → Bool
lost_to to t number = if nat_eq to 0 then lost_at t.lost_to_world number else lost_at t.lost_to_zone number

abbrev pub tally_behind : Event → Tally → Tally
tally_behind (Take to from number) t = taken_with to number t
tally_behind (Lost from to number) t = lost_with to number t
tally_behind _ t = t

abbrev pub counted : ℕ → Tally → Tally
counted more t = record t { messages = t.messages + more }

abbrev pub TakenInRange : Option Msg → Type 0
TakenInRange (Some m) = InRange m
TakenInRange None = ⊤

-- the message of a take has its fields in their ranges
abbrev pub EventInRange : Plain → Event → Type 0
EventInRange p (Take to from number) = TakenInRange (slice_get (p.links from to) (number - 1))
EventInRange p _ = ⊤

-- the sender of the messages to an actor, the greatest ordinal of them that it took, and how many were sent
abbrev pub due_of : Parts → Tally → ℕ → ℕ × ℕ × ℕ
due_of k t to = if nat_eq to 0 then (k.zone.id, t.by_world, length k.to_world) else (0, t.by_zone, length k.to_zone)

-- what went out on a link, if it is one of the line
abbrev pub on_link : Option Linked → List Msg
on_link None = []
on_link (Some link) = link.messages
