-- The values that a form of a table without groups can have.
use Rattle.std.specs.Prelude.{ℕ, zero, suc, List, [], ◌∷◌}
use Rattle.text_forms.specs.Forms.{Form, Fit}
use Rattle.definitions.specs.declared.outcome.Outcome.{Outcome}
use Rattle.definitions.specs.OutcomeText.{outcome_forms, outcome_place, outcome_values}

-- the values are those of the parts of the form of this place
unfoldable pub FitAt : List Form → ℕ → List ℕ → Type 0
FitAt [] i vs = ⊥
FitAt (f ∷ fs) zero vs = Fit f.parts vs
FitAt (f ∷ fs) (suc i) vs = FitAt fs i vs

abbrev pub FitOutcome : Outcome → Type 0
FitOutcome x = FitAt outcome_forms (outcome_place x) (outcome_values x)
