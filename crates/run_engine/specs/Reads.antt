-- What a text line does to its document, and the text that it gives.
use Rattle.std.specs.Prelude.{ℕ, List, [], ◌++◌}
use Rattle.definitions.specs.declared.event.Event.{Event}
use Rattle.definitions.specs.declared.outcome.Outcome.{Outcome}
use Rattle.definitions.specs.declared.document.Command.{Command}
use Rattle.definitions.specs.declared.document.Command.TheVariants as is
use Rattle.definitions.specs.Endings.{end_line, outcomes_text}
use Rattle.definitions.specs.Track.{Line}
use Rattle.definitions.specs.Steps.{story_of}
use Rattle.definitions.specs.Trace.{Stage, Over, After, came, event_comes}
use Rattle.run_engine.specs.declared.reads.Reads.{Reads}
use Rattle.run_engine.specs.declared.reads.Reads.TheVariants.{On, Again, Ends}

-- a text line that says something, under a command
abbrev pub stays : Command → Reads
stays is.Run = On
stays is.Check = Again

-- a stage, once a text line has ended the document, if it did
abbrev pub left_by : Reads → Stage → Stage
left_by (Ends ending) s = Over ending
left_by _ s = s

-- the text line again, where it is written again
abbrev pub again_by : Reads → List ℕ → List ℕ
again_by Again text = text ++ end_line
again_by _ text = []

-- the outcome lines of a text line, and the text line again
abbrev pub text_by : Reads → List Outcome → List ℕ → List ℕ
text_by r lines text = outcomes_text lines ++ again_by r text

-- what a text line leads to
abbrev pub led : Reads → Stage → List Outcome → List ℕ → After
led r s lines text = record { stage = left_by r s; text = text_by r lines text }

-- what an event of a run leads to that text line n tells, after so many text lines of events
unfoldable pub event_read : ℕ → Line → List Event → ℕ → Event → After
event_read n line events count e = came line count (event_comes n line events (story_of line events) e)
