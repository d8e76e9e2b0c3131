-- A delivery, ordinal by ordinal: those up to one were taken or passed over.
use Rattle.std.proofs.Common.{◌≡◌, ℕ, suc, ◌+◌, ◌-◌, ◌<◌, ◌≤◌, List, [], ◌∷◌, ◌++◌, append-nil, Option, Some, None, Bool, true, false, refl, ap, subst, ◌∙◌, arith}
use Rattle.definitions.specs.declared.event.Event.{Event}
use Rattle.definitions.specs.declared.event.Event.TheVariants.{Take}
use Rattle.definitions.specs.declared.outcome.Outcome.{Outcome}
use Rattle.definitions.specs.declared.document.Ending.{Ending}
use Rattle.definitions.specs.Track.{Line, is_actor}
use Rattle.definitions.specs.Premises.{admits}
use Rattle.definitions.specs.Steps.{effects, story_of, deliveries}
use Rattle.definitions.specs.Trace.{Came, no_room, with_lines, comes}
use Rattle.plain_state.specs.Plain.{takes_but}
use Rattle.event_laws.proofs.Comes_kept.{AllAdmitted, comes_next, comes_stop, lines_joined}
use Rattle.event_laws.proofs.Delivery_admitted.{delivery_admitted}

abbrev as_came : List Event → List Outcome → Option Ending → Came
as_came es ls ending = record { went = record { events = es; lines = ls }; ending = ending }

-- what is still to come after an ordinal, up to the last that was sent
abbrev pub to_come : (ℕ → Bool) → ℕ → ℕ → ℕ → ℕ → List Event
to_come lost to from number sent = takes_but lost to from (number + 1) (sent - number)

-- after an ordinal: the events and the lines so far, such that what is still to come gives the whole, and is admitted
pub record Midway (line : Line) (lost : ℕ → Bool) (to from sent number : ℕ) (whole : Came) (now : List Event) (lines : List Outcome) : Type 0 where
  pub rest : whole ≡ with_lines lines (comes line now (to_come lost to from number sent))
  pub admitted : AllAdmitted line now (to_come lost to from number sent)

pub midway_start : (line : Line) (es : List Event) (lost : ℕ → Bool) (to from taken sent : ℕ) → is_actor line to ≡ true → deliveries line (story_of line es) to ≡ to_come lost to from taken sent
    → Midway line lost to from sent taken (comes line es (deliveries line (story_of line es) to)) es []
midway_start line es lost to from taken sent act is = record {
  rest = ap (λ (more : List Event). comes line es more) is;
  admitted = subst (λ (more : List Event). AllAdmitted line es more) is (delivery_admitted line es (story_of line es) to refl act);
}

module _ (line : Line) (lost : ℕ → Bool) (to from sent number : ℕ) (whole : Came) (now : List Event) (lines : List Outcome) (m : Midway line lost to from sent number whole now lines) where
  one_more : number < sent → sent - number ≡ suc (sent - (number + 1))
  one_more h = omega arith

  -- the next is passed over
  passed : number < sent → lost (number + 1) ≡ true → to_come lost to from number sent ≡ to_come lost to from (number + 1) sent
  unfolding takes_but
  passed h l = ap (λ (k : ℕ). takes_but lost to from (number + 1) k) (one_more h) ∙ (rw l refl)

  pub midway_passes : number < sent → lost (number + 1) ≡ true → Midway line lost to from sent (number + 1) whole now lines
  midway_passes h l =
      let e = passed h l in
      record {
        rest = m.rest ∙ ap (λ (more : List Event). with_lines lines (comes line now more)) e;
        admitted = subst (λ (more : List Event). AllAdmitted line now more) e m.admitted;
      }

  -- the next is taken
  taken : number < sent → lost (number + 1) ≡ false → to_come lost to from number sent ≡ Take to from (number + 1) ∷ to_come lost to from (number + 1) sent
  unfolding takes_but
  taken h l = ap (λ (k : ℕ). takes_but lost to from (number + 1) k) (one_more h) ∙ (rw l refl)

  both : number < sent → lost (number + 1) ≡ false → AllAdmitted line now (Take to from (number + 1) ∷ to_come lost to from (number + 1) sent)
  both h l = subst (λ (more : List Event). AllAdmitted line now more) (taken h l) m.admitted

  pub midway_admits : number < sent → lost (number + 1) ≡ false → admits line (story_of line now) (Take to from (number + 1)) ≡ true
  unfolding AllAdmitted
  midway_admits h l = (both h l).0

  pub midway_takes : number < sent → lost (number + 1) ≡ false → no_room now (story_of line now) ≡ None
      → Midway line lost to from sent (number + 1) whole (Take to from (number + 1) ∷ now) (lines ++ (effects line (story_of line now) (Take to from (number + 1))).lines)
  unfolding AllAdmitted
  midway_takes h l room =
      let e = Take to from (number + 1) in
      let more = to_come lost to from (number + 1) sent in
      let told = (effects line (story_of line now) e).lines in
      record {
        rest = m.rest
            ∙ (ap (λ (xs : List Event). with_lines lines (comes line now xs)) (taken h l)
            ∙ (ap (λ (x : Came). with_lines lines x) (comes_next line now more e room)
            ∙ lines_joined lines told (comes line (e ∷ now) more)));
        admitted = (both h l).1;
      }

  -- there is no room for the next
  pub midway_stops : (ending : Ending) → number < sent → lost (number + 1) ≡ false → no_room now (story_of line now) ≡ Some ending → whole ≡ record { went = record { events = now; lines = lines }; ending = Some ending }
  midway_stops ending h l room =
      m.rest
      ∙ (ap (λ (xs : List Event). with_lines lines (comes line now xs)) (taken h l)
      ∙ (ap (λ (x : Came). with_lines lines x) (comes_stop line now (to_come lost to from (number + 1) sent) (Take to from (number + 1)) ending room)
      ∙ ap (λ (ls : List Outcome). as_came now ls (Some ending)) (append-nil lines)))

  -- there is no next
  pub delivery_ends : sent ≤ number → whole ≡ record { went = record { events = now; lines = lines }; ending = None }
  unfolding takes_but comes
  delivery_ends h =
      let none : sent - number ≡ 0 = omega arith in
      m.rest
      ∙ (ap (λ (k : ℕ). with_lines lines (comes line now (takes_but lost to from (number + 1) k))) none
      ∙ ap (λ (ls : List Outcome). as_came now ls None) (append-nil lines))
