-- The spelling of a form without a group.
use Rattle.std.proofs.Common.{◌≡◌, ℕ, zero, suc, List, [], ◌∷◌, ◌++◌, Bool, true, ◌&&◌, nat_eq, refl, sym, ap, subst, arith, append-nil}
use Rattle.std.proofs.lemmas.Bool.{and_parts, eqb-true}
use Rattle.text_forms.specs.Forms.{Form, Fit, Spells, Says, spelled, times}
use Rattle.text_forms.specs.declared.row.Row.{Row}
use Rattle.text_forms.specs.Rows.{forms}
use Rattle.definitions.specs.declared.outcome.Outcome.{Outcome}
use Rattle.definitions.specs.OutcomeText.{outcome_forms, outcome_place, outcome_values, plain_text}
use Rattle.outcome_text.specs.Fits.{FitAt, FitOutcome}

-- each group may come not at all
abbrev all_least : List Form → Bool
all_least [] = true
all_least (f ∷ fs) = nat_eq f.least 0 && all_least fs

none_more : (f : Form) → f.parts ≡ f.parts ++ times 0 f.group
unfolding times
none_more f = sym (append-nil f.parts)

spells_plain : (f : Form) (vs : List ℕ) → f.least ≡ 0 → Fit f.parts vs → Spells f vs (f.word ++ spelled f.parts vs)
spells_plain f vs e h = record {
  count = 0;
  least = omega (arith, e);
  most = omega arith;
  fit = subst (λ ps. Fit ps vs) (none_more f) h;
  spelled = ap (λ ps. f.word ++ spelled ps vs) (none_more f);
}

says_plain : (fs : List Form) (i : ℕ) (vs : List ℕ) → all_least fs ≡ true → FitAt fs i vs → Says fs i vs (plain_text fs i vs)
unfolding FitAt Says plain_text
says_plain [] i vs e h = absurd h
says_plain (f ∷ fs) zero vs e h = let k = and_parts (nat_eq f.least 0) (all_least fs) e in spells_plain f vs (eqb-true f.least 0 k.0) h
says_plain (f ∷ fs) (suc i) vs e h = let k = and_parts (nat_eq f.least 0) (all_least fs) e in says_plain fs i vs k.1 h

outcome_least : all_least outcome_forms ≡ true
unfolding outcome_forms
outcome_least = refl

-- the values of an outcome are spelled by its row
pub says_at : (rows : List Row) (i : ℕ) (vs : List ℕ) (x : Outcome) → forms rows ≡ outcome_forms → i ≡ outcome_place x → vs ≡ outcome_values x → FitOutcome x → Says (forms rows) i vs (plain_text outcome_forms (outcome_place x) (outcome_values x))
says_at rows i vs x r p v h =
    let s = says_plain outcome_forms (outcome_place x) (outcome_values x) outcome_least h in
    let t = plain_text outcome_forms (outcome_place x) (outcome_values x) in
    subst (λ (fs : List Form). Says fs i vs t) (sym r) (subst (λ n. Says outcome_forms n vs t) (sym p) (subst (λ xs. Says outcome_forms (outcome_place x) xs t) (sym v) s))
