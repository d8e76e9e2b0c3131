-- What a ledger keeps, and what each call makes of it.
use Rattle.std.specs.Prelude.{◌≡◌, ℕ, ◌+◌, ◌-◌, ◌<◌, ◌≤◌, Bool, ◌||◌, not, nat_eq, nat_lt, nat_le, if◌then◌else◌, Option, Some, None, Result, Ok, Err}
use Rattle.authority_ledger.specs.declared.ledger.Ledger.{Ledger}
use Rattle.authority_ledger.specs.declared.ledger.Shrink.{Shrink}
use Rattle.authority_ledger.specs.declared.ledger.Pending.{Pending}
use Rattle.authority_ledger.specs.declared.ledger.Answered.{Answered}
use Rattle.authority_ledger.specs.declared.ledger.Answered.TheVariants.{Old, Noted, Shrunk, Stays}

-- a shrink as its number and its end
abbrev pub pair_of : Option Shrink → Option (ℕ × ℕ)
pair_of None = None
pair_of (Some s) = Some (s.number, s.end)

abbrev pub shrink_of : Option (ℕ × ℕ) → Option Shrink
shrink_of None = None
shrink_of (Some pair) = Some (record { number = pair.0; end = pair.1 })

-- an unanswered shrink has the last number, which is above the greatest answered
abbrev pub PendingFits : ℕ → ℕ → Option Shrink → Type 0
PendingFits last answered None = Unit {0}
PendingFits last answered (Some s) = (s.number ≡ last) × (answered < last)

-- the numbers of a ledger fit one another
pub record IsLedger (l : Ledger) : Type 0 where
  pub begun : 1 ≤ l.last
  pub issued : l.answered ≤ l.last
  pub pending : PendingFits l.last l.answered l.pending

abbrev pub first_ledger : Ledger
first_ledger = record { last = 1; answered = 0; pending = None }

abbrev pub restored : ℕ → ℕ → Option (ℕ × ℕ) → Ledger
restored last answered pair = record { last = last; answered = answered; pending = shrink_of pair }

-- ---- issuing

-- the next number; none while a shrink is unanswered
abbrev pub number_or_pending : ℕ → Option Shrink → Result ℕ Pending
number_or_pending last None = Ok (last + 1)
number_or_pending last (Some s) = Err (record { 0 = s.number })

abbrev pub next_number : Ledger → Result ℕ Pending
next_number l = number_or_pending l.last l.pending

abbrev pub if_none_pending : Ledger → Option Shrink → Ledger → Ledger
if_none_pending l None issued = issued
if_none_pending l (Some s) issued = l

-- one more number is issued
abbrev pub longer : Ledger → Ledger
longer l = if_none_pending l l.pending (record l { last = l.last + 1 })

-- and it is a shrink's, which is unanswered
abbrev pub shorter : ℕ → Ledger → Ledger
shorter end l = if_none_pending l l.pending (record l { last = l.last + 1; pending = Some (record { number = l.last + 1; end = end }) })

-- ---- an answer

-- what the answer to a new number comes to
abbrev pub new_answer : ℕ → Bool → Option Shrink → Answered
new_answer number taken None = Noted
new_answer number taken (Some s) =
    if not (nat_eq number s.number) then Noted
    else if taken then Shrunk s.end
    else Stays

-- old is the answer to a number that is not above the greatest answered, or that was not issued
abbrev pub answer_of : ℕ → Bool → Ledger → Answered
answer_of number taken l = if nat_le number l.answered || nat_lt l.last number then Old else new_answer number taken l.pending

-- a new answer counts, and the shrink's ends that it is unanswered
abbrev pub after_answer : Answered → ℕ → Ledger → Ledger
after_answer Old number l = l
after_answer Noted number l = record l { answered = number }
after_answer (Shrunk end) number l = record l { answered = number; pending = None }
after_answer Stays number l = record l { answered = number; pending = None }

-- ---- the way moves

abbrev pub shift_end : ℕ → Option Shrink → Option Shrink
shift_end mm None = None
shift_end mm (Some s) = Some (record s { end = s.end - mm })

-- the first mm of the train's way are given up
abbrev pub shifted : ℕ → Ledger → Ledger
shifted mm l = record l { pending = shift_end mm l.pending }

-- the unanswered shrink's end is not given up with them
abbrev pub LeavesEnd : ℕ → Option Shrink → Type 0
LeavesEnd mm None = Unit {0}
LeavesEnd mm (Some s) = mm ≤ s.end
