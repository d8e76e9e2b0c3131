-- How far an ask reaches, in closed form, and ways that are lengthened.
use Rattle.std.specs.Prelude.{◌≡◌, ℕ, List, ◌+◌, ◌-◌, ◌<◌, ◌≤◌, length, take, if◌then◌else◌, Bool, true, ◌&&◌, nat_lt, nat_le, max}
use Rattle.track_points.specs.declared.ids.DirSeg.{DirSeg}
use Rattle.track_points.specs.declared.path.Path.{Path}
use Rattle.track_points.specs.Points.{Lengths, total, place_of_last, end_place}
use Rattle.definitions.specs.Track.{Line, seg_len, last_step}
use Rattle.definitions.specs.declared.outcome.Obstacle.TheVariants.{AskEnds, TrackEnds, Held, Closed, PathFull}
use Rattle.definitions.specs.Limit as limits
use Rattle.way_path.specs.Ways.{PlacedWay}
use Rattle.zone_reach.specs.declared.reach.Stop.{Stop}
use Rattle.zone_reach.specs.declared.reach.Reach.{Reach}

-- of two obstacles the nearer one, the first at a tie; one before the limit does not stand
abbrev pub nearer : ℕ → Bool → Stop → Stop → Stop
nearer limit stands other so_far = if stands && (nat_le limit other.place && nat_lt other.place so_far.place) then other else so_far

-- the end of the ask, or the end of the track, where the ask goes beyond it and that is nearer; `t` is the end of all steps
abbrev pub end_stop : Bool → ℕ → ℕ → ℕ → Stop
end_stop a limit e t = nearer limit a (record { place = t; obstacle = TrackEnds }) (record { place = e; obstacle = AskEnds })

-- the first of a stop, a held place and a closed one
abbrev pub bar_stop : ℕ → ℕ → ℕ → ℕ → Stop → Stop
bar_stop limit t h c s =
    nearer limit (nat_lt c t) (record { place = c; obstacle = Closed }) (nearer limit (nat_lt h t) (record { place = h; obstacle = Held }) s)

-- the first of a stop and a full path
abbrev pub full_stop : ℕ → Bool → ℕ → Stop → Stop
full_stop limit b f s = nearer limit b (record { place = f; obstacle = PathFull }) s

-- the first obstacle of an asked way, where its first held place and its first closed place are these
abbrev pub stop_on : Lengths → List DirSeg → ℕ → ℕ → ℕ → ℕ → Stop
stop_on len asked limit to h c =
    full_stop limit (nat_lt 24 (length asked)) (total len (take 24 asked))
    (bar_stop limit (total len asked) h c (end_stop (nat_lt (len (last_step asked).seg.0) to) limit (max limit (place_of_last len asked to)) (total len asked)))

-- a reach as the definitions have it
abbrev pub reach_value : Reach → limits.Reach
reach_value r = record { distance = r.distance; obstacle = r.obstacle }

-- the distance and the obstacle of the first stop
abbrev pub stop_reach : ℕ → Stop → limits.Reach
stop_reach limit stop = record { distance = stop.place - limit; obstacle = stop.obstacle }

-- the path has a step, and ends on its last
abbrev pub path_fits : Lengths → Path → Bool
path_fits len path = nat_lt 0 (length path.steps.items) && nat_le (end_place len path) (total len path.steps.items)

-- what holds of how far an ask of a path reaches
pub record ReachFits (line : Line) (path : Path) (asked : List DirSeg) (distance : ℕ) : Type 0 where
  pub within : end_place (seg_len line) path + distance ≤ total (seg_len line) (take 24 (limits.asked_way path.steps.items asked))
  pub continued : 0 < distance → limits.continues line path.steps.items asked ≡ true
  pub most : 0 < distance → end_place (seg_len line) path + distance ≤ 240000000

-- a way with other steps
abbrev pub with_steps : PlacedWay → List DirSeg → PlacedWay
with_steps way steps = record {
  mark = way.mark;
  path = record { steps = record { items = steps }; from = way.path.from; to = way.path.to };
  end = way.end;
}
