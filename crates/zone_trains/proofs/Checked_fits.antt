-- An unanswered shrink, as the fronts of its train are narrowed and its way changes.
use Rattle.std.proofs.Common.{◌≡◌, ℕ, ◌+◌, ◌-◌, ◌≤◌, Option, Some, None, is_some, refl, subst, arith, nat_lt}
use Rattle.std.proofs.lemmas.Bool.Decides.{nat_tests}
use Rattle.list_laws.proofs.By_test.{by_test}
use Rattle.authority_ledger.specs.declared.ledger.Shrink.{Shrink}
use Rattle.authority_ledger.specs.declared.ledger.Ledger.{Ledger}
use Rattle.authority_ledger.specs.Ledger.{IsLedger, PendingFits, LeavesEnd, pair_of, shift_end}
use Rattle.plain_state.specs.Zone.{checked}
use Rattle.zone_trains.specs.Trains.{ShrinkFits}

pub pair_some : (p : Option Shrink) → is_some (pair_of p) ≡ is_some p
pair_some None = refl
pair_some (Some s) = refl

-- a shrink that the least front has passed is no longer unanswered
pub checked_fits : (before lo limit : ℕ) (p : Option Shrink) (l : Ledger) → l.pending ≡ p → IsLedger l → ShrinkFits before limit p
    → IsLedger (checked lo p l) × ShrinkFits lo limit (checked lo p l).pending
checked_fits before lo limit None l e i f = (i, rw e tt)
checked_fits before lo limit (Some s) l e i f =
    let p : PendingFits l.last l.answered (Some s) = subst (PendingFits l.last l.answered) e i.pending in
    by_test (nat_lt s.end lo)
    (λ y. rw y (record { begun = i.begun; issued = let n = p.0 in omega arith; pending = tt }, tt))
    (λ n. rw n (i, rw e (let b = f.1 in grind (arith, nat_tests), f.1)))

-- The way begins farther on.

pub leaves_end : (lo limit mm : ℕ) (p : Option Shrink) → ShrinkFits lo limit p → mm ≤ lo → LeavesEnd mm p
leaves_end lo limit mm None f h = tt
leaves_end lo limit mm (Some s) f h = let b = f.0 in omega arith

pub shifted_fits : (lo limit new mm : ℕ) (p : Option Shrink) → ShrinkFits lo limit p → mm ≤ lo → new + mm ≡ limit → ShrinkFits (lo - mm) new (shift_end mm p)
shifted_fits lo limit new mm None f h e = tt
shifted_fits lo limit new mm (Some s) f h e = let a = f.0 in let b = f.1 in (omega arith, omega arith)

-- a longer way
pub longer_fits : (lo limit : ℕ) (p : Option Shrink) → p ≡ None → ShrinkFits lo limit p
longer_fits lo limit p e = rw e tt
