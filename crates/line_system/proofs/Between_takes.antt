-- A delivery, ordinal by ordinal.
use Rattle.std.proofs.Common.{◌≡◌, ℕ, ◌+◌, ◌-◌, ◌<◌, ◌≤◌, List, [], ◌∷◌, ◌++◌, append_assoc, append-nil, Option, Some, None, Bool, true, false, not, refl, sym, ap, subst, ◌∙◌, nat_eq}
use Rattle.std.proofs.lemmas.Bool.{eqb-true, and_parts, not-true}
use Rattle.definitions.specs.declared.event.Event.{Event}
use Rattle.definitions.specs.declared.event.Event.TheVariants.{Take, Deliver}
use Rattle.definitions.specs.declared.outcome.Outcome.{Outcome}
use Rattle.definitions.specs.declared.document.Ending.{Ending}
use Rattle.definitions.specs.Track.{Line, is_actor}
use Rattle.definitions.specs.Premises.{built, too_many, premise_of, admits}
use Rattle.definitions.specs.Steps.{effects, story_of, is_lost, deliveries}
use Rattle.definitions.specs.Trace.{no_room}
use Rattle.plain_state.specs.Plain.{takes_but}
use Rattle.refinement_laws.proofs.Deliveries_zone.{lost_next}
use Rattle.refinement_laws.proofs.Delivery_ends.{Midway, midway_start, midway_passes, midway_admits, midway_takes, midway_stops, delivery_ends}
use Rattle.line_system.specs.History.{History}
use Rattle.line_system.specs.declared.system.Answer.{Answer}
use Rattle.line_system.specs.System.{comes, ending_at, Leads}
use Rattle.line_system.proofs.All_answers.{whole, delivery_leads}
use Rattle.line_system.proofs.Go_kept.{as_history, lost_of}

-- what an admitted event keeps to
pub record Keeps (line : Line) (es : List Event) (e : Event) : Type 0 where
  pub built : built line (story_of line es) e ≡ true
  pub within : too_many (story_of line es) e ≡ false
  pub kept : premise_of line (story_of line es) e ≡ 0

keeps : (line : Line) (es : List Event) (e : Event) → admits line (story_of line es) e ≡ true → Keeps line es e
keeps line es e h =
    let a = and_parts (built line (story_of line es) e) _ h in
    let b = and_parts (not (too_many (story_of line es) e)) (nat_eq (premise_of line (story_of line es) e) 0) a.1 in
    record {
      built = a.0;
      within = not-true (too_many (story_of line es) e) b.0;
      kept = eqb-true (premise_of line (story_of line es) e) 0 b.1;
    }

-- in the middle of a delivery: the ordinals up to one were taken or passed over
pub record Between (h : History) (to from sent number : ℕ) (after : History) (old more : List Outcome) : Type 0 where
  pub events : List Event
  pub told : List Outcome
  pub system : after ≡ record { line = h.line; events = events }
  pub lines : more ≡ old ++ told
  pub midway : Midway h.line (lost_of h from to) to from sent number (whole h to) events told
  pub same : (n : ℕ) → is_lost from to n (story_of h.line events) ≡ lost_of h from to n

pub between_start : (h : History) (to from taken sent : ℕ) (old : List Outcome) → is_actor h.line to ≡ true → deliveries h.line (story_of h.line h.events) to ≡ takes_but (lost_of h from to) to from (taken + 1) (sent - taken)
    → Between h to from sent taken h old old
between_start h to from taken sent old act is = record {
  events = h.events;
  told = [];
  system = refl;
  lines = sym (append-nil old);
  midway = midway_start h.line h.events (lost_of h from to) to from taken sent act is;
  same = λ n. refl;
}

module _ (h : History) (to from sent number : ℕ) (after : History) (old more : List Outcome) (b : Between h to from sent number after old more) (lt : number < sent) where
  -- whether the next is lost
  lost_now : (r : Bool) → r ≡ is_lost from to (number + 1) (story_of after.line after.events) → lost_of h from to (number + 1) ≡ r
  lost_now r is = sym (is ∙ (ap (λ (y : History). is_lost from to (number + 1) (story_of y.line y.events)) b.system ∙ b.same (number + 1)))

  pub between_passes : true ≡ is_lost from to (number + 1) (story_of after.line after.events) → Between h to from sent (number + 1) after old more
  between_passes is = record {
    events = b.events;
    told = b.told;
    system = b.system;
    lines = b.lines;
    midway = midway_passes h.line (lost_of h from to) to from sent number (whole h to) b.events b.told b.midway lt (lost_now true is);
    same = b.same;
  }

  module _ (is : false ≡ is_lost from to (number + 1) (story_of after.line after.events)) where
    pub between_keeps : Keeps after.line after.events (Take to from (number + 1))
    between_keeps =
        subst (λ (y : History). Keeps y.line y.events (Take to from (number + 1))) (sym b.system)
        (keeps h.line b.events (Take to from (number + 1)) (midway_admits h.line (lost_of h from to) to from sent number (whole h to) b.events b.told b.midway lt (lost_now false is)))

    room_now : (r : Option Ending) → no_room after.events (story_of after.line after.events) ≡ r → no_room b.events (story_of h.line b.events) ≡ r
    room_now r room = ap (λ (y : History). no_room y.events (story_of y.line y.events)) (sym b.system) ∙ room

    more_lost : (n : ℕ) → is_lost from to n (story_of h.line (Take to from (number + 1) ∷ b.events)) ≡ lost_of h from to n
    unfolding story_of
    more_lost n = lost_next h.line (story_of h.line b.events) (Take to from (number + 1)) from to n ∙ b.same n

    pub between_takes : (next : History) (last : List Outcome) → no_room after.events (story_of after.line after.events) ≡ None → next ≡ record { line = after.line; events = Take to from (number + 1) ∷ after.events }
        → last ≡ more ++ (effects after.line (story_of after.line after.events) (Take to from (number + 1))).lines → Between h to from sent (number + 1) next old last
    between_takes next last room n l =
        let e = Take to from (number + 1) in
        record {
          events = e ∷ b.events;
          told = b.told ++ (effects h.line (story_of h.line b.events) e).lines;
          system = n ∙ ap (λ (y : History). as_history y.line (e ∷ y.events)) b.system;
          lines = l
              ∙ (ap (λ (y : History). more ++ (effects y.line (story_of y.line y.events) e).lines) b.system
              ∙ (ap (λ (ls : List Outcome). ls ++ (effects h.line (story_of h.line b.events) e).lines) b.lines
              ∙ append_assoc old b.told (effects h.line (story_of h.line b.events) e).lines));
          midway = midway_takes h.line (lost_of h from to) to from sent number (whole h to) b.events b.told b.midway lt (lost_now false is) (room_now None room);
          same = more_lost;
        }

    -- there is no room for the next
    pub between_stops : (n : ℕ) (a : Answer) (ending : Ending) → no_room after.events (story_of after.line after.events) ≡ Some ending → ending_at n a ≡ Some ending → Leads h n (comes n h (Deliver to)) a after old more
    between_stops n a ending room answer =
        delivery_leads h to n a b.events b.told (Some ending) after old more
        (midway_stops h.line (lost_of h from to) to from sent number (whole h to) b.events b.told b.midway ending lt (lost_now false is) (room_now (Some ending) room)) answer b.system b.lines

-- there is no next
pub between_ends : (h : History) (to from sent number : ℕ) (after : History) (old more : List Outcome) (n : ℕ) (a : Answer) → Between h to from sent number after old more → sent ≤ number → ending_at n a ≡ None → Leads h n (comes n h (Deliver to)) a after old more
between_ends h to from sent number after old more n a b le answer =
    delivery_leads h to n a b.events b.told None after old more (delivery_ends h.line (lost_of h from to) to from sent number (whole h to) b.events b.told b.midway le) answer b.system b.lines
