-- The numbers of trains.
use Rattle.std.specs.Prelude.{ℕ, List, map}
use Rattle.track_points.specs.declared.ids.TrainId.{TrainId}

abbrev pub numbers : List TrainId → List ℕ
numbers trains = map (λ t. t.0) trains
