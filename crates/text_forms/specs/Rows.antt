-- The forms that the program's rows stand for.
use Rattle.std.specs.Prelude.{List, map}
use Rattle.text_forms.specs.declared.row.Row.{Row}
use Rattle.text_forms.specs.Forms.{Form}

abbrev pub form_of : Row → Form
form_of row = record { word = row.word.now; parts = row.parts.now; group = row.group.now; least = row.least; most = row.most }

abbrev pub forms : List Row → List Form
forms rows = map form_of rows
