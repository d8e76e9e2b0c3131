-- What a step of an actor makes of the parts of the state, from what its calls give.
use Rattle.std.proofs.Common.{◌≡◌, ℕ, zero, suc, ◌<◌, ◌≤◌, List, ◌++◌, Option, Some, refl, arith}
use Rattle.definitions.specs.declared.message.Msg.{Msg}
use Rattle.definitions.specs.Track.{Line}
use Rattle.definitions.specs.Story.{to_actor}
use Rattle.definitions.specs.Steps.{Effect}
use Rattle.plain_state.specs.World.{PlainWorld}
use Rattle.plain_state.specs.Zone.{PlainZone, zone_take_effect, zone_take_next}
use Rattle.plain_state.specs.Plain.{taken_effect}
use Rattle.line_state.specs.State.{Parts, plain_of, world_moved, zone_moved, parts_taken}
use Rattle.line_state.specs.Frames.{AllFit}

pub room_for : (n room : ℕ) → n ≤ 1100 → 1100 ≤ room → n ≤ room
room_for n room few more = omega arith

pub posts_fit : (ms : List (ℕ × Msg)) (out x : Effect) → ms ≡ out.issued → out ≡ x → AllFit x.issued → AllFit ms
posts_fit ms out x m o h = rw (m, o) h

pub world_posts : (k : Parts) (w next : PlainWorld) (id : ℕ) (ms : List (ℕ × Msg)) (out x : Effect) (link : List Msg)
    → link ≡ k.to_zone ++ to_actor id ms → id ≡ k.zone.id → ms ≡ out.issued → out ≡ x → w ≡ next
    → record { world = w; zone = k.zone; to_zone = link; to_world = k.to_world } ≡ world_moved k next x
world_posts k w next id ms out x link l i m o n = rw (l, i, m, o, n) refl

pub zone_posts : (k : Parts) (z next : PlainZone) (ms : List (ℕ × Msg)) (out x : Effect) (link : List Msg)
    → link ≡ k.to_world ++ to_actor 0 ms → ms ≡ out.issued → out ≡ x → z ≡ next
    → record { world = k.world; zone = z; to_zone = k.to_zone; to_world = link } ≡ zone_moved k next x
zone_posts k z next ms out x link l m o n = rw (l, m, o, n) refl

-- what a zone takes, which has a number above 0
pub zone_gives : (line : Line) (k : Parts) (to from : ℕ) (r : Option Msg) (m : Msg) → 0 < to → r ≡ Some m → zone_take_effect line k.zone from m ≡ taken_effect line (plain_of k) to from r
zone_gives line k zero from r m h e = absurd (omega arith)
zone_gives line k (suc to) from r m h e = rw e refl

pub zone_leads : (line : Line) (k : Parts) (to from : ℕ) (r : Option Msg) (m : Msg) → 0 < to → r ≡ Some m
    → zone_moved k (zone_take_next line k.zone from m) (zone_take_effect line k.zone from m) ≡ parts_taken line k to from r
zone_leads line k zero from r m h e = absurd (omega arith)
zone_leads line k (suc to) from r m h e = rw e refl
