-- A train that has come on has a last number.
use Rattle.std.proofs.Common.{◌≡◌, ℕ, ◌≤◌, [], ◌∷◌, true, arith}
use Rattle.list_laws.proofs.By_test.{by_test}
use Rattle.definitions.specs.Story.{Story, ever}
use Rattle.definitions.specs.World.{enters, entered, last_number}

pub numbered_on : (t : ℕ) (s : Story) → entered t s ≡ true → 1 ≤ last_number t s
unfolding ever last_number
numbered_on t [] h = absurd cc
numbered_on t (e ∷ s) h = by_test (enters t e.event)
    (λ y. rw y (omega arith))
    (λ n. let on : entered t s ≡ true = rw n at h in let i = numbered_on t s on in rw (n, on) (omega (arith, i)))
