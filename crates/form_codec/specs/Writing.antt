-- The text of values, part by part, and of a form with its values.
use Rattle.std.specs.Prelude.{ℕ, List, [], ◌∷◌, ◌++◌}
use Rattle.text_forms.specs.declared.part.Part.{Part}
use Rattle.text_forms.specs.Forms.{Form, part_text, PartFits}

-- the parts that come next, where the group comes again when the others are through
abbrev pub next_parts : List Part → List Part → List Part
next_parts group [] = group
next_parts group (p ∷ ps) = p ∷ ps

abbrev pub first_text : List Part → ℕ → List ℕ
first_text [] v = []
first_text (p ∷ ps) v = part_text p v

abbrev pub FirstFits : List Part → ℕ → Type 0
FirstFits [] v = ⊥
FirstFits (p ∷ ps) v = PartFits p v

abbrev pub later_parts : List Part → List Part
later_parts [] = []
later_parts (p ∷ ps) = ps

-- the values by the parts, and when those are through by the group again and again
unfoldable pub text_on : List Part → List Part → List ℕ → List ℕ
text_on group ps [] = []
text_on group ps (v ∷ vs) = first_text (next_parts group ps) v ++ text_on group (later_parts (next_parts group ps)) vs

-- each value is one of its part
unfoldable pub FitOn : List Part → List Part → List ℕ → Type 0
FitOn group ps [] = Unit {0}
FitOn group ps (v ∷ vs) = FirstFits (next_parts group ps) v × FitOn group (later_parts (next_parts group ps)) vs

abbrev pub form_text : Form → List ℕ → List ℕ
form_text f vs = f.word ++ text_on f.group f.parts vs
