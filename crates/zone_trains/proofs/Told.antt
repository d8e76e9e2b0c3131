-- The alarms of some trains, one by one.
use Rattle.std.proofs.Common.{◌≡◌, ℕ, ◌+◌, ◌≤◌, false, List, [], ◌∷◌, ◌++◌, length, refl, sym, ap, ◌∙◌, arith}
use Rattle.std.proofs.lemmas.Bool.Decides.{nat_tests}
use Rattle.std.proofs.lemmas.List.{append-nil}
use Rattle.definitions.specs.declared.outcome.Outcome.{Outcome}
use Rattle.definitions.specs.Steps.{Effect}
use Rattle.plain_state.specs.declared.Controlled.{Controlled}
use Rattle.zone_trains.specs.Trains.{falls_silent, alarms_of}

-- the alarms of so many trains are told after what was told before
pub record Told (ms z before clock : ℕ) (trains : List Controlled) (count : ℕ) (old new : Effect) : Type 0 where
  pub all : new ≡ record { issued = old.issued; lines = old.lines ++ alarms_of ms z before clock trains }
  pub few : length new.lines ≤ length old.lines + count

-- where Now has not risen no train falls silent
alarms_still : (ms z before clock : ℕ) (xs : List Controlled) → clock ≤ before → alarms_of ms z before clock xs ≡ []
alarms_still ms z before clock [] l = refl
alarms_still ms z before clock (x ∷ xs) l =
    let n : falls_silent ms before clock x ≡ false = grind (arith, nat_tests) in
    rw n (alarms_still ms z before clock xs l)

abbrev with_lines : Effect → List Outcome → Effect
with_lines m os = record { issued = m.issued; lines = os }

pub told_still : (ms z before clock : ℕ) (xs : List Controlled) (outs : Effect) → clock ≤ before → outs ≡ record { issued = outs.issued; lines = outs.lines ++ alarms_of ms z before clock xs }
told_still ms z before clock xs outs l = ap (with_lines outs) (sym (append-nil outs.lines) ∙ ap (λ (os : List Outcome). outs.lines ++ os) (sym (alarms_still ms z before clock xs l)))
