-- Refines: what the plain state tells is what the story tells.
use Rattle.std.specs.Prelude.{◌≡◌, ℕ, ◌+◌, ◌-◌, ◌*◌, ◌≤◌, List, [], ◌∷◌, length, take, if◌then◌else◌, true, false, ◌&&◌, nat_eq, nat_lt, nat_le, Option, Some, None, is_some}
use Rattle.track_points.specs.declared.ids.DirSeg.{DirSeg}
use Rattle.track_points.specs.Points.{Lengths, Point, total, end_place}
use Rattle.envelope.specs.Fronts.{is_front}
use Rattle.definitions.specs.Track.{Line, seg_len, zone_of, brake_of, last_step, has_zone}
use Rattle.definitions.specs.Ways.{PlainWay}
use Rattle.definitions.specs.Story.{Story, sent}
use Rattle.definitions.specs.World as world
use Rattle.definitions.specs.World.{elapsed, clock, Facts, facts_of, is_declared, first_entry, entered, moved, head, journey, HeldPath, entry_authority, limit_place, last_number, last_taken}
use Rattle.definitions.specs.Premises.{head_offset}
use Rattle.definitions.specs.Control.{known_trains, known_train, known_facts, now_of, last_issued}
use Rattle.definitions.specs.Account.{Account, shrink_end}
use Rattle.definitions.specs.Fold.{account}
use Rattle.definitions.specs.Longest.{counted, longest_route}
use Rattle.definitions.specs.Fronts.{possible_front, least_rear, greatest_front, report_time}
use Rattle.definitions.specs.Authority.{way, way_start, held}
use Rattle.definitions.specs.Closures.{is_closed}
use Rattle.definitions.specs.Steps.{sender_of}
use Rattle.plain_state.specs.declared.Head.{Head}
use Rattle.plain_state.specs.declared.Pace.{Pace}
use Rattle.onboard.specs.declared.onboard.Onboard.{Onboard}
use Rattle.onboard.specs.Decision.{path_mm}
use Rattle.plain_state.specs.declared.WorldTrain.{WorldTrain}
use Rattle.authority_ledger.specs.declared.ledger.Shrink.{Shrink}
use Rattle.plain_state.specs.declared.Controlled.{Controlled}
use Rattle.way_path.specs.Ways.{plain_way, with_end}
use Rattle.plain_state.specs.World.{find_train, paced}
use Rattle.plain_state.specs.Zone.{PlainZone, find_controlled, hold_has, closed_at}
use Rattle.definitions.specs.Zones.{zone_id}
use Rattle.plain_state.specs.Plain.{Plain, is_link}

-- A train of the world by the notions: what is declared of it, its first request, the zone that sent its entry authority, where
-- its head is, how fast it went, and what it keeps of its authorities.

abbrev pub mm_of_entry : Lengths → Option HeldPath → Option ℕ
mm_of_entry len None = None
mm_of_entry len (Some h) = Some (path_mm len h.authority.path)

abbrev pub head_of : Line → ℕ → Story → Option Head
head_of line t s =
    if entered t s
    then Some (record { step = last_step (journey line t s); mark = length (journey line t s) - 1; offset = head_offset line t s })
    else None

-- the speed in the last step that moved the train, and the clock after that step
unfoldable pub pace_of : ℕ → Story → Pace
pace_of t [] = record { speed = 0; at = 0 }
pace_of t (e ∷ s) = paced (elapsed e.event) (clock (e ∷ s)) (moved t e.event) (pace_of t s)

abbrev pub onboard_of : Line → ℕ → Story → Onboard
onboard_of line t s = record {
  entry = mm_of_entry (seg_len line) (entry_authority t s);
  room = limit_place line t s - head t s;
  last = last_number t s;
  taken = last_taken line t s;
}

abbrev pub world_of : ℕ → Option Facts → Option DirSeg → Option ℕ → Option Head → Pace → Onboard → Option WorldTrain
world_of t None entry sender head_ pace onboard = None
world_of t (Some f) entry sender head_ pace onboard = Some (record {
  id = record { 0 = t };
  train_length = f.long;
  error = f.error;
  speed = f.speed;
  entry = entry;
  sender = sender;
  head = head_;
  pace = pace;
  onboard = onboard;
})

abbrev pub world_train : Line → ℕ → Story → Option WorldTrain
world_train line t s =
    world_of t (facts_of t s) (first_entry t s) (sender_of (entry_authority t s)) (head_of line t s) (pace_of t s) (onboard_of line t s)

-- A train of the zone by the notions: its facts, its way, where its front may be, its last report, its numbers, and the
-- shrink that is not answered. The
-- fronts are places on the way, which begins where the steps behind the rear end.

-- the unanswered shrink, on a way that begins at a place
abbrev pub pending_of : Lengths → List DirSeg → ℕ → Account → Option Shrink
pending_of len steps start v = if nat_lt 0 v.shrink then Some (record { number = v.shrink; end = shrink_end len steps v - start }) else None

abbrev pub zone_train_of : Line → ℕ → ℕ → Story → Option PlainWay → Option Controlled
zone_train_of line z t s None = None
zone_train_of line z t s (Some way_) = Some (record {
  id = record { 0 = t };
  train_length = (known_facts z t s).long;
  error = (known_facts z t s).error;
  speed = (known_facts z t s).speed;
  way = with_end (seg_len line) way_;
  fronts = record {
    lo = least_rear line z t s + (known_facts z t s).long - way_start line t s way_;
    hi = greatest_front line z t s - way_start line t s way_;
    at = now_of z s;
  };
  report = report_time line z t s;
  equipped = (known_train z t s).equipped;
  ledger = record {
    last = last_issued t s;
    answered = counted line t s;
    pending = pending_of (seg_len line) (journey line t s) (way_start line t s way_) (account line t s);
  };
})

abbrev pub zone_train_at : Line → ℕ → ℕ → Story → Option Controlled
zone_train_at line z t s = zone_train_of line z t s (way line z t s)

-- of the line's first zone
abbrev pub zone_train : Line → ℕ → Story → Option Controlled
zone_train line t s = zone_train_at line (zone_id line) t s

unfoldable pub ids : List Controlled → List ℕ
ids [] = []
ids (x ∷ xs) = x.id.0 ∷ ids xs

-- no train is there twice
unfoldable pub Distinct : List Controlled → Type 0
Distinct [] = Unit {0}
Distinct (x ∷ xs) = (find_controlled x.id.0 xs ≡ None) × Distinct xs

-- what a zone keeps is what the story tells of it
pub record ZoneRefines (line : Line) (z : ℕ) (s : Story) (y : PlainZone) : Type 0 where
  pub id : y.id ≡ z
  pub clock : y.clock ≡ now_of z s
  pub found : (t : ℕ) → find_controlled t y.trains ≡ zone_train_at line z t s
  pub fronts : (t f : ℕ) (x : Controlled) → find_controlled t y.trains ≡ Some x → (nat_le (way_start line t s (plain_way x.way)) f && is_front x.fronts (f - way_start line t s (plain_way x.way))) ≡ possible_front line z t s f
  pub holds : (t : ℕ) (point : Point) → hold_has line y.id (find_controlled t y.trains) point ≡ held line z t s point
  pub known : ids y.trains ≡ known_trains z s
  pub distinct : Distinct y.trains
  pub segments : length y.closed ≡ 32768
  pub closed : (seg : ℕ) → nat_eq (zone_of line seg) z ≡ true → closed_at y.closed seg ≡ is_closed z seg s
  pub marks : (t : ℕ) (x : Controlled) → find_controlled t y.trains ≡ Some x → x.way.mark + length x.way.path.steps.items ≤ 24 * length s

pub record Refines (line : Line) (s : Story) (p : Plain) : Type 0 where
  -- the world
  pub brake : p.world.brake ≡ brake_of line
  pub time : p.world.clock ≡ clock s
  pub trains : (t : ℕ) → find_train t p.world.trains ≡ world_train line t s
  pub count : length p.world.trains ≡ length (world.trains s)
  -- each zone of the line
  pub zones : (z : ℕ) → has_zone line z ≡ true → ZoneRefines line z s (p.zones z)
  -- each link of the line
  pub links : (from to : ℕ) → is_link line to from ≡ true → p.links from to ≡ sent from to s
  -- what the story keeps besides
  pub few : (t : ℕ) → last_issued t s ≤ length s + 1
  pub unasked : (t : ℕ) → is_declared t s ≡ false → first_entry t s ≡ None
  pub stays_off : (t : ℕ) → is_declared t s ≡ false → entered t s ≡ false
  pub authorized : (t : ℕ) → entered t s ≡ true → is_some (entry_authority t s) ≡ true
