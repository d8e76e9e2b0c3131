-- What a system answers to an event after its history, what it has then, and the outcome lines that it adds.
use Rattle.std.specs.Prelude.{◌≡◌, ℕ, ◌++◌, List, Option, Some, None, true, false}
use Rattle.definitions.specs.declared.event.Event.{Event}
use Rattle.definitions.specs.declared.outcome.Outcome.{Outcome}
use Rattle.definitions.specs.declared.document.Ending.{Ending}
use Rattle.definitions.specs.declared.document.Ending.TheVariants as ends
use Rattle.definitions.specs.Premises.{built}
use Rattle.definitions.specs.Steps.{story_of}
use Rattle.definitions.specs.Trace.{Came, event_comes}
use Rattle.line_system.specs.History.{History}
use Rattle.line_system.specs.declared.system.Answer.{Answer}
use Rattle.line_system.specs.declared.system.Answer.TheVariants.{Unbuilt, TooMany, Events, Messages, Premise, Goes}

-- what an event leads to that text line n tells
abbrev pub comes : ℕ → History → Event → Came
comes n h e = event_comes n h.line h.events (story_of h.line h.events) e

-- how an answer to text line n ends the document, if it does
abbrev pub ending_at : ℕ → Answer → Option Ending
ending_at n Unbuilt = Some (ends.Unbuilt n)
ending_at n TooMany = Some ends.Trains
ending_at n Events = Some ends.Events
ending_at n Messages = Some ends.Messages
ending_at n (Premise p) = Some (ends.Premise n p)
ending_at n Goes = None

-- an answer that ends the document as the event does, and the system and the outcome lines that it leads to
pub record Leads (h : History) (n : ℕ) (x : Came) (a : Answer) (after : History) (old new : List Outcome) : Type 0 where
  pub ending : ending_at n a ≡ x.ending
  pub system : after ≡ record { line = h.line; events = x.went.events }
  pub lines : new ≡ old ++ x.went.lines

-- whichever text line tells the event
abbrev pub Answered : History → Event → Answer → History → List Outcome → List Outcome → Type 0
Answered h e a after old new = (n : ℕ) → Leads h n (comes n h e) a after old new

-- an event that is not built is refused, and changes nothing
abbrev pub Answers : History → Event → Answer → History → List Outcome → List Outcome → Type 0
Answers h e Unbuilt after old new = (built h.line (story_of h.line h.events) e ≡ false) × (after ≡ h) × (new ≡ old)
Answers h e a after old new = (built h.line (story_of h.line h.events) e ≡ true) × Answered h e a after old new
