-- A way lengthened: by further steps after it, up to a place on all of them.
use Rattle.std.proofs.Common.{◌≡◌, ℕ, ◌+◌, ◌≤◌, List, ◌++◌}
use Rattle.track_points.specs.declared.ids.DirSeg.{DirSeg}
use Rattle.track_points.specs.declared.path.Path.{Path}
use Rattle.track_points.specs.Points.{Lengths, total, end_place}
use Rattle.definitions.specs.Steps.{path_to}
use Rattle.way_laws.proofs.Cut_front.{cut_end}

-- it ends at the new place
pub grown_end : (len : Lengths) (path : Path) (more : List DirSeg) (d : ℕ) → end_place len path + d ≤ total len (path.steps.items ++ more)
    → end_place len (path_to len path.from (path.steps.items ++ more) (end_place len path + d)) ≡ end_place len path + d
grown_end len path more d h = cut_end len (path.steps.items ++ more) (end_place len path + d) h
