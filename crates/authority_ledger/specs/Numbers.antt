-- What the numbers of a train's authorities mean: from what was issued and answered, the greatest end that may still count.
use Rattle.std.specs.Prelude.{◌≡◌, ℕ, zero, suc, ◌+◌, ◌-◌, ◌<◌, ◌≤◌, List, [], ◌∷◌, Bool, ◌&&◌, not, nat_eq, nat_lt, nat_le, max, if◌then◌else◌, Option, Some, None}
use Rattle.authority_ledger.specs.declared.ledger.Ledger.{Ledger}
use Rattle.authority_ledger.specs.declared.ledger.Shrink.{Shrink}

-- what a controller does: it issues an authority that does not end before the longest does, or one that does; it takes an
-- answer to a number, taken or refused; it gives up the first mm of the train's way
pub data Call : Type 0 where
  Longer : (end : ℕ) → Call
  Shorter : (end : ℕ) → Call
  Answer : (number : ℕ) (taken : Bool) → Call
  Shift : (mm : ℕ) → Call

pub record Numbers : Type 0 where
  pub issued : ℕ  -- the greatest number issued
  pub counted : ℕ  -- the greatest number counted
  pub shrink : ℕ  -- the number of the unanswered shrink, 0 where there is none
  pub stood : ℕ  -- the greatest end when it was issued
  pub ends : ℕ → ℕ  -- the end that is read of a number: of a shrink that was refused, the one that stood before it

-- the greatest end of n numbers from one on
unfoldable pub greatest_of : (ℕ → ℕ) → ℕ → ℕ → ℕ
greatest_of ends from zero = 0
greatest_of ends from (suc n) = max (ends (from + n)) (greatest_of ends from n)

-- the greatest end of the numbers from the greatest counted on
abbrev pub greatest : Numbers → ℕ
greatest v = greatest_of v.ends v.counted (v.issued + 1 - v.counted)

abbrev pub with_at : ℕ → ℕ → (ℕ → ℕ) → ℕ → ℕ
with_at n end ends k = if nat_eq k n then end else ends k

-- number 1 alone is issued. Number 0 stands for none yet, and its end is 0
abbrev pub begun : ℕ → Numbers
begun first = record { issued = 1; counted = 0; shrink = 0; stood = 0; ends = with_at 1 first (λ k. 0) }

abbrev pub issue : ℕ → Numbers → Numbers
issue end v = record v { issued = v.issued + 1; ends = with_at (v.issued + 1) end v.ends }

abbrev pub issue_shrink : ℕ → Numbers → Numbers
issue_shrink end v = record v { issued = v.issued + 1; shrink = v.issued + 1; stood = greatest v; ends = with_at (v.issued + 1) end v.ends }

-- an answer counts where its number was issued and is above the greatest counted
abbrev pub is_new : ℕ → Numbers → Bool
is_new number v = nat_lt v.counted number && nat_le number v.issued

abbrev pub answered : ℕ → Bool → Numbers → Numbers
answered number taken v =
    if not (is_new number v) then v
    else if not (nat_eq number v.shrink) then record v { counted = number }
    else if taken then record v { counted = number; shrink = 0 }
    else record v { counted = number; shrink = 0; ends = with_at number v.stood v.ends }

-- an end that lay on what is given up is then at the start of the way
abbrev pub moved : ℕ → Numbers → Numbers
moved mm v = record v { stood = v.stood - mm; ends = λ k. v.ends k - mm }

-- nothing is issued while a shrink is unanswered
abbrev pub next : Call → Numbers → Numbers
next (Longer end) v = if nat_eq v.shrink 0 then issue end v else v
next (Shorter end) v = if nat_eq v.shrink 0 then issue_shrink end v else v
next (Answer number taken) v = answered number taken v
next (Shift mm) v = moved mm v

-- the numbers after some calls, the newest first, where number 1 had an end
unfoldable pub numbers : ℕ → List Call → Numbers
numbers first [] = begun first
numbers first (c ∷ calls) = next c (numbers first calls)

-- what is issued as longer does not end before the greatest end, and what is issued as shorter does
abbrev pub Suits : Call → ℕ → Type 0
Suits (Longer to) end = end ≤ to
Suits (Shorter to) end = to < end
Suits c end = Unit {0}

-- so did each of some calls
unfoldable pub AllSuit : ℕ → List Call → Type 0
AllSuit first [] = Unit {0}
AllSuit first (c ∷ calls) = Suits c (greatest (numbers first calls)) × AllSuit first calls

-- the unanswered shrink
pub record TellsOf (s : Shrink) (v : Numbers) : Type 0 where
  pub some : 0 < v.shrink
  pub number : s.number ≡ v.shrink
  pub end : s.end ≡ v.ends v.shrink

abbrev pub TellsPending : Option Shrink → Numbers → Type 0
TellsPending None v = v.shrink ≡ 0
TellsPending (Some s) v = TellsOf s v

-- a ledger, and an end beside it, tell what some calls came to
pub record Tells (l : Ledger) (end first : ℕ) (calls : List Call) : Type 0 where
  pub suits : AllSuit first calls
  pub last_is : l.last ≡ (numbers first calls).issued
  pub answered_is : l.answered ≡ (numbers first calls).counted
  pub pending_is : TellsPending l.pending (numbers first calls)
  pub end_is : end ≡ greatest (numbers first calls)
