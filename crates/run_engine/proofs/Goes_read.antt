-- A text line of a document, by what the calls below answer to it.
use Rattle.std.proofs.Common.{◌≡◌, ℕ, ◌+◌, ◌≤◌, List, [], ◌++◌, false, Option, Some, None, refl, ◌∙◌, ap, append-nil}
use Rattle.std.proofs.lemmas.Bool.{le-ltb}
use Rattle.definitions.specs.declared.event.Event.{Event}
use Rattle.definitions.specs.declared.outcome.Outcome.{Outcome}
use Rattle.definitions.specs.declared.document.Ending.{Ending}
use Rattle.definitions.specs.Track.{Line}
use Rattle.definitions.specs.Steps.{story_of}
use Rattle.definitions.specs.Endings.{outcomes_text}
use Rattle.definitions.specs.Trace.{Stage, Script, Over, After, Came, came, event_comes, ended_by, stage_read, Reading, counted, is_over, input_limit, text_read}
use Rattle.line_system.specs.History.{History}
use Rattle.line_system.specs.System.{Leads}
use Rattle.line_system.specs.declared.system.Answer.{Answer}
use Rattle.run_engine.specs.declared.reads.Reads.TheVariants.{On, Ends}
use Rattle.run_engine.specs.Reads.{led, event_read}

abbrev pub after_ : Stage → List ℕ → After
after_ s text = record { stage = s; text = text }

-- an event of a run, by what the system answers to it
module _ (n count : ℕ) (h after : History) (x : Came) (a : Answer) (old new : List Outcome) (empty : old ≡ []) (l : Leads h n x a after old new) (text : List ℕ) where
  lines_are : outcomes_text new ++ [] ≡ outcomes_text x.went.lines
  lines_are = append-nil (outcomes_text new) ∙ ap outcomes_text (l.lines ∙ ap (λ (os : List Outcome). os ++ x.went.lines) empty)

  pub ends_read : (ending : Ending) → Some ending ≡ x.ending → led (Ends ending) (Script after.line after.events count) new text ≡ came h.line count x
  ends_read ending e =
      ap (λ (t : List ℕ). after_ (Over ending) t) lines_are
      ∙ ap (λ (o : Option Ending). after_ (ended_by o (Script h.line x.went.events (count + 1))) (outcomes_text x.went.lines)) e

  pub goes_read : None ≡ x.ending → led On (Script after.line after.events (count + 1)) new text ≡ came h.line count x
  goes_read e =
      ap (λ (t : List ℕ). after_ (Script after.line after.events (count + 1)) t) lines_are
      ∙ (ap (λ (y : History). after_ (Script y.line y.events (count + 1)) (outcomes_text x.went.lines)) l.system
      ∙ ap (λ (o : Option Ending). after_ (ended_by o (Script h.line x.went.events (count + 1))) (outcomes_text x.went.lines)) e)

pub read_is : (n : ℕ) (line : Line) (events : List Event) (count : ℕ) (e : Event) → came line count (event_comes n line events (story_of line events) e) ≡ event_read n line events count e
unfolding event_read
read_is n line events count e = refl

-- a text line within the limit, of a document that is not over
pub text_is : (r : Reading) (size : ℕ) (text : List ℕ) → is_over r.stage ≡ false → r.bytes + size ≤ input_limit → text_read r size text ≡ counted r size (stage_read r.command (r.number + 1) r.stage text)
unfolding text_read
text_is r size text on le = let within = le-ltb input_limit (r.bytes + size) le in rw (on, within) refl
