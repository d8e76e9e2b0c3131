-- What holds after each text line of a document that is run.
use Rattle.std.specs.Prelude.{◌<◌, ◌^◌, ℕ, List, [], ◌∷◌, take, drop, get_or}
use Rattle.definitions.specs.declared.event.Event.{Event}
use Rattle.definitions.specs.declared.document.EventLine.{EventLine}
use Rattle.definitions.specs.declared.document.EventLine.TheVariants as tells
use Rattle.definitions.specs.declared.document.Command.TheVariants.{Run}
use Rattle.definitions.specs.Lines.{text_lines, text_of}
use Rattle.definitions.specs.Grammar.{event_line_of}
use Rattle.definitions.specs.Track.{Line}
use Rattle.definitions.specs.World.{clock, trains}
use Rattle.definitions.specs.Steps.{story_of}
use Rattle.definitions.specs.Safe.{Safe, AllGranted}
use Rattle.definitions.specs.Trace.{Stage, Items, Script, Checked, Over, Reading, start, line_read, event_comes}

-- where the document stands after these text lines
unfoldable pub stands : Reading → List (List ℕ) → Reading
stands r [] = r
stands r (line ∷ lines) = stands (line_read r line).next lines

-- the story of the events is safe, and each was granted what its step adds
pub record SafeHistory (line : Line) (events : List Event) : Type 0 where
  pub safe : Safe line (story_of line events)
  pub granted : AllGranted line events

-- so it is after each event of the history; there a delivery is its takes, and so this speaks of the moments between these
-- too. And the clock stays below 2^40 ms.
pub record SafeUpTo (line : Line) (events : List Event) : Type 0 where
  pub after : (k : ℕ) → SafeHistory line (drop k events)
  pub early : clock (story_of line events) < 2 ^ 40

-- the history that a text line leads to after events of a script; up to the limit that it meets, if any
abbrev pub led_to : Line → List Event → EventLine → List Event
led_to line events (tells.Event e) = (event_comes 0 line events (story_of line events) e).went.events
led_to line events _ = events

-- safety where a document stands in its script, and after the text line that comes next, whether the document goes on or
-- ends there
abbrev pub SafeAt : Stage → List ℕ → Type 0
SafeAt (Script line events count) text = SafeUpTo line events × SafeUpTo line (led_to line events (event_line_of line (trains (story_of line events)) text))
SafeAt (Items items) text = Unit {0}
SafeAt (Checked line known count) text = Unit {0}
SafeAt (Over ending) text = Unit {0}

-- the history of a run is safe after each text line, and after each event that a text line stands for
abbrev pub SafeThroughout : List ℕ → Type 0
SafeThroughout bytes = (k : ℕ) → SafeAt (stands (start Run) (take k (text_lines bytes))).stage (text_of (get_or (text_lines bytes) k []))
