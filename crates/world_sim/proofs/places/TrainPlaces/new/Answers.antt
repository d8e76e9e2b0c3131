use Rattle.std.proofs.Common.{◌≡◌, ℕ, zero, suc, List, get_or, refl, ap, ◌∙◌}
use Rattle.std.proofs.Math.ListN.{replicate}
use Rattle.world_sim.specs.Places.{place_at}
use Rattle.world_sim.proofs.places.TrainPlaces.new.Goals as goal

all_same : (x n k : ℕ) → get_or (replicate n x) k x ≡ x
all_same x zero k = refl
all_same x (suc n) zero = refl
all_same x (suc n) (suc k) = all_same x n k

pub returns : goal.returns
returns c = λ id. ap place_at (ap (λ (xs : List ℕ). get_or xs id 0) (c.in_ok-vec.ensures.items_if_clones_equal (λ y h. h)) ∙ all_same 0 65536 id)
