-- The numbers at a worked history.
use Rattle.std.proofs.Common.{◌≡◌, ℕ, List, [], ◌∷◌, true, false, refl}
use Rattle.authority_ledger.specs.Numbers.{Call, Longer, Shorter, Answer, Shift, greatest_of, greatest, numbers}

-- the newest call first; Longer 950 and Shorter 550 are refused, and Answer 3 true is old
abbrev history : List Call
history = Answer 3 true ∷ Answer 5 true ∷ Shift 100 ∷ Shorter 550 ∷ Answer 4 true ∷ Shorter 600 ∷ Longer 1000
    ∷ Answer 3 false ∷ Longer 950 ∷ Answer 2 true ∷ Shorter 500 ∷ Longer 900 ∷ []

-- the greatest end after each call, the last first
ends_after : List Call → List ℕ
ends_after [] = greatest (numbers 800 []) ∷ []
ends_after (c ∷ calls) = greatest (numbers 800 (c ∷ calls)) ∷ ends_after calls

ends_worked : ends_after history ≡ 500 ∷ 500 ∷ 900 ∷ 1000 ∷ 1000 ∷ 1000 ∷ 1000 ∷ 900 ∷ 900 ∷ 900 ∷ 900 ∷ 900 ∷ 800 ∷ []
unfolding numbers greatest_of ends_after
ends_worked = refl

-- a shrink that was refused is read as what stood before it
refused_worked : (numbers 800 (Answer 3 false ∷ Shorter 500 ∷ Longer 900 ∷ [])).ends 3 ≡ 900
unfolding numbers greatest_of
refused_worked = refl
