-- Reading an event: the form and the values of its text, whether that form has a meaning, and then its fields.
use Rattle.std.specs.Prelude.{ℕ, List, Result, Ok, Err, if◌then◌else◌}
use Rattle.text_forms.specs.Reading.{telling, form_at}
use Rattle.definitions.specs.declared.event.Event.{Event}
use Rattle.definitions.specs.declared.document.EventLine.{EventLine}
use Rattle.definitions.specs.declared.document.EventLine.TheVariants as tells
use Rattle.definitions.specs.Track.{Line}
use Rattle.definitions.specs.EventText.{event_forms}
use Rattle.definitions.specs.EventFields.{event_of, field_column, is_unbuilt}

-- an event, or the column of its first refused field
abbrev pub event_or : List ℕ → Result Event ℕ → Result Event ℕ
event_or text (Ok e) = Ok e
event_or text (Err k) = Err (field_column k (telling text))

abbrev pub with_fields : Line → List ℕ → List ℕ → Result (ℕ × List ℕ) ℕ → Result Event ℕ
with_fields line trains text (Ok x) = event_or text (event_of line trains x.0 x.1)
with_fields line trains text (Err column) = Err column

-- the event that a text is on a line, where these trains are declared; or the column at which it is refused
unfoldable pub event_at : Line → List ℕ → List ℕ → Result Event ℕ
event_at line trains text = with_fields line trains text (form_at event_forms text)

abbrev pub line_or : Result Event ℕ → EventLine
line_or (Ok e) = tells.Event e
line_or (Err column) = tells.Fault column

-- its form is tried before its fields
abbrev pub told : Line → List ℕ → List ℕ → Result (ℕ × List ℕ) ℕ → EventLine
told line trains text (Ok x) = if is_unbuilt x.0 x.1 then tells.Unbuilt else line_or (event_or text (event_of line trains x.0 x.1))
told line trains text (Err column) = tells.Fault column
