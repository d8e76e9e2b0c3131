use Rattle.std.proofs.Common.{◌≡◌, ℕ, zero, suc, Bool, false, List, ap, refl, get_or, replicate, ◌∙◌}
use Rattle.line_state.proofs.losses.Losses.new.Goals as goal

all_same : (x : Bool) (n i : ℕ) → get_or (replicate n x) i x ≡ x
all_same x zero i = refl
all_same x (suc n) zero = refl
all_same x (suc n) (suc i) = all_same x n i

pub returns-clause-none : goal.returns-clause-none
returns-clause-none c = λ n. ap (λ (xs : List Bool). get_or xs n false) (c.in_ok-vec.ensures.items_if_clones_equal (λ y h. h)) ∙ all_same false 200001 n
