-- What an event of a script leads to: one that stands for itself, by whether there is room for it and which premise it breaks; and a
-- delivery, of which no premise speaks.
use Rattle.std.proofs.Common.{◌≡◌, ℕ, List, [], ◌∷◌, Bool, true, false, refl, ◌∙◌, ap, append-nil}
use Rattle.std.proofs.Math.Bool.{and-false}
use Rattle.std.specs.Prelude.{nat_eq, is_none, Option, Some, None, ◌&&◌, not}
use Rattle.definitions.specs.declared.event.Event.{Event}
use Rattle.definitions.specs.declared.event.Event.TheVariants.{Deliver}
use Rattle.definitions.specs.declared.outcome.Outcome.{Outcome}
use Rattle.definitions.specs.declared.document.Ending.{Ending}
use Rattle.definitions.specs.declared.document.Ending.TheVariants as ends
use Rattle.definitions.specs.Track.{Line}
use Rattle.definitions.specs.Story.{Story}
use Rattle.definitions.specs.Numbers.{least}
use Rattle.definitions.specs.Premises.{too_many, premise_of}
use Rattle.definitions.specs.Steps.{effects, story_of, deliveries}
use Rattle.definitions.specs.Trace.{stands_for, no_room, stopped, with_lines, comes, event_comes}
use Rattle.event_laws.proofs.Comes_kept.{comes_next, comes_stop}

pub delivery_leads : (n : ℕ) (line : Line) (events : List Event) (s : Story) (to : ℕ) → event_comes n line events s (Deliver to) ≡ comes line events (deliveries line s to)
unfolding least
delivery_leads n line events s to = rw (and-false (is_none (no_room events s))) refl

nothing_more : (line : Line) (events : List Event) → comes line events [] ≡ record { went = record { events = events; lines = [] }; ending = None }
unfolding comes
nothing_more line events = refl

module _ (n : ℕ) (line : Line) (events : List Event) (e : Event) (within : too_many (story_of line events) e ≡ false) (alone : stands_for line (story_of line events) e ≡ e ∷ []) where
  came : (is_none (no_room events (story_of line events)) && not (nat_eq (premise_of line (story_of line events) e) 0)) ≡ false → event_comes n line events (story_of line events) e ≡ comes line events (e ∷ [])
  came h = rw (within, h) (ap (comes line events) alone)

  pub full_leads : (ending : Ending) → no_room events (story_of line events) ≡ Some ending → event_comes n line events (story_of line events) e ≡ stopped events ending
  full_leads ending full = came (ap (λ (x : Option Ending). is_none x && not (nat_eq (premise_of line (story_of line events) e) 0)) full) ∙ comes_stop line events [] e ending full

  pub premise_leads : no_room events (story_of line events) ≡ None → nat_eq (premise_of line (story_of line events) e) 0 ≡ false
      → event_comes n line events (story_of line events) e ≡ stopped events (ends.Premise n (premise_of line (story_of line events) e))
  premise_leads room broken =
      let refuses : (is_none (no_room events (story_of line events)) && not (nat_eq (premise_of line (story_of line events) e) 0)) ≡ true =
      ap (λ (b : Bool). is_none (no_room events (story_of line events)) && not b) broken ∙ ap (λ (x : Option Ending). is_none x && true) room in
      rw (within, refuses) refl

  pub alone_leads : no_room events (story_of line events) ≡ None → nat_eq (premise_of line (story_of line events) e) 0 ≡ true
      → event_comes n line events (story_of line events) e ≡ record { went = record { events = e ∷ events; lines = (effects line (story_of line events) e).lines }; ending = None }
  alone_leads room kept =
      let lines = (effects line (story_of line events) e).lines in
      came (ap (λ (b : Bool). is_none (no_room events (story_of line events)) && not b) kept ∙ and-false (is_none (no_room events (story_of line events))))
      ∙ (comes_next line events [] e room
      ∙ (ap (with_lines lines) (nothing_more line (e ∷ events)) ∙ ap (λ (ls : List Outcome). record { went = record { events = e ∷ events; lines = ls }; ending = None }) (append-nil lines)))
