-- The text of parts, from their front.
use Rattle.std.proofs.Common.{◌≡◌, ℕ, ◌-◌, ◌<◌, ◌≤◌, List, [], ◌∷◌, ◌++◌, length, take, drop, get_or, refl, sym, ap, arith}
use Rattle.std.proofs.lemmas.List.{take_all}
use Rattle.outcome_text.specs.declared.ending.Part.{Part}
use Rattle.outcome_text.specs.Parts.{part_text, parts_text}

pub parts_none : (xs : List Part) (last : List ℕ) → length xs < 1 → parts_text xs last ≡ last
parts_none [] last h = refl
parts_none (x ∷ xs) last h = absurd (omega arith)

pub parts_first : (xs : List Part) (last : List ℕ) (d : Part) → 1 ≤ length xs → parts_text xs last ≡ part_text (get_or xs 0 d) ++ parts_text (take (length xs - 1) (drop 1 xs)) last
parts_first [] last d h = absurd (omega arith)
parts_first (x ∷ xs) last d h = ap (λ ys. part_text x ++ parts_text ys last) (sym (take_all (length (x ∷ xs) - 1) xs (omega arith)))
