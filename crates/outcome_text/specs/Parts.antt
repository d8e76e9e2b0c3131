-- The parts of a last line as text.
use Rattle.std.specs.Prelude.{ℕ, List, [], ◌∷◌, ◌++◌, codes}
use Rattle.std.specs.Fmt.{decimal}
use Rattle.definitions.specs.Endings.{field}
use Rattle.outcome_text.specs.declared.ending.Part.{Part}
use Rattle.outcome_text.specs.declared.ending.Part.TheVariants.{Number, Column, Rule, Premise}

abbrev pub part_text : Part → List ℕ
part_text (Number n) = field n
part_text (Column c) = codes " column" ++ field c
part_text (Rule r) = codes " rule" ++ field r
part_text (Premise p) = codes " P" ++ decimal p

-- the parts, and then what ends their line
abbrev pub parts_text : List Part → List ℕ → List ℕ
parts_text [] last = last
parts_text (part ∷ parts) last = part_text part ++ parts_text parts last
