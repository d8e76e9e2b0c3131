-- The text of outcome lines, from their front.
use Rattle.std.proofs.Common.{◌≡◌, ℕ, ◌+◌, ◌<◌, List, [], ◌++◌, length, take, drop, get_or, sym, ◌∙◌, ap}
use Rattle.std.proofs.lemmas.List.{take_more, take-append-drop, flat_map_more}
use Rattle.std.proofs.lemmas.Grind.{flat_map-append}
use Rattle.definitions.specs.declared.outcome.Outcome.{Outcome}
use Rattle.definitions.specs.Endings.{outcomes_text}
use Rattle.definitions.specs.OutcomeText.{outcome_text}

pub lines_more : (xs : List Outcome) (i : ℕ) (d : Outcome) → i < length xs → outcomes_text (take i xs) ++ outcome_text (get_or xs i d) ≡ outcomes_text (take (i + 1) xs)
lines_more xs i d h = flat_map_more outcome_text [] (take i xs) (get_or xs i d) ∙ ap outcomes_text (sym (take_more xs i d h))

pub lines_left : (xs : List Outcome) (i : ℕ) (d : Outcome) → i < length xs → (outcomes_text (take i xs) ++ outcome_text (get_or xs i d)) ++ outcomes_text (drop (i + 1) xs) ≡ outcomes_text xs
lines_left xs i d h =
    ap (λ t. t ++ outcomes_text (drop (i + 1) xs)) (lines_more xs i d h)
    ∙ (sym (flat_map-append outcome_text (take (i + 1) xs) (drop (i + 1) xs)) ∙ ap outcomes_text (take-append-drop (i + 1) xs))
