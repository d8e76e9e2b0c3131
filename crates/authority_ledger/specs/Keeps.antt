-- How an end that is kept beside a ledger stays the greatest end.
use Rattle.std.specs.Prelude.{ℕ, ◌-◌, List, ◌∷◌, Option, Some, None}
use Rattle.authority_ledger.specs.declared.ledger.Ledger.{Ledger}
use Rattle.authority_ledger.specs.declared.ledger.Shrink.{Shrink}
use Rattle.authority_ledger.specs.declared.ledger.Answered.{Answered}
use Rattle.authority_ledger.specs.declared.ledger.Answered.TheVariants.{Shrunk}
use Rattle.authority_ledger.specs.Ledger.{answer_of}
use Rattle.authority_ledger.specs.Numbers.{Call, Longer, Shorter, Answer, Shift, Suits, Tells}

-- while a shrink is unanswered nothing is issued, so the end stays
abbrev pub issued_end : Option Shrink → ℕ → ℕ → ℕ
issued_end None to end = to
issued_end (Some s) to end = end

-- a shrink that is taken has the end from then on
abbrev pub answered_end : Answered → ℕ → ℕ
answered_end (Shrunk to) end = to
answered_end found end = end

-- the end that is kept after a call
abbrev pub end_after : Call → Ledger → ℕ → ℕ
end_after (Longer to) l end = issued_end l.pending to end
end_after (Shorter to) l end = end
end_after (Answer number taken) l end = answered_end (answer_of number taken l) end
end_after (Shift mm) l end = end - mm

-- whatever calls came before, and whatever end was kept: the greatest end is kept
unfoldable pub Keeps : Call → Ledger → Ledger → Type 0
Keeps c before after = (first end : ℕ) (calls : List Call) → Suits c end → Tells before end first calls → Tells after (end_after c before end) first (c ∷ calls)
