-- The plain state follows a message that the zone takes and that makes fronts grow alone, or that changes one train besides.
use Rattle.std.proofs.Common.{◌≡◌, ℕ, suc, ◌+◌, ◌*◌, ◌≤◌, List, ◌∷◌, length, Option, Some, true, false, sym, ◌∙◌, ap, subst, arith}
use Rattle.std.proofs.lemmas.Bool.{eqb-true}
use Rattle.std.specs.Prelude.{nat_eq}
use Rattle.list_laws.proofs.By_test.{by_test}
use Rattle.track_points.specs.declared.ids.DirSeg.{DirSeg}
use Rattle.track_points.specs.declared.ids.TrainId.{TrainId}
use Rattle.track_points.specs.Points.{steps_to}
use Rattle.definitions.specs.declared.message.Msg.{Msg}
use Rattle.definitions.specs.Track.{Line, seg_len}
use Rattle.definitions.specs.Story.{Transition, Story, greatest_in}
use Rattle.definitions.specs.World.{auth_number, head}
use Rattle.definitions.specs.Control.{grants_entry, asker, controls, known_trains, now_with, last_issued}
use Rattle.definitions.specs.Longest.{longest_end, longest_route}
use Rattle.definitions.specs.Fronts.{possible_front, is_used}
use Rattle.definitions.specs.Steps.{Effect}
use Rattle.definitions.specs.Safe.{IsLineOfOneZone}
use Rattle.event_laws.proofs.Grant_takes.{quiet_grants}
use Rattle.plain_state.specs.declared.Controlled.{Controlled}
use Rattle.plain_state.specs.Zone.{find_controlled, change_controlled, grown_train}
use Rattle.definitions.specs.Zones.{zone_id}
use Rattle.plain_state.specs.Plain.{Plain}
use Rattle.plain_state.specs.Refinement.{zone_train, ids, Distinct, Refines}
use Rattle.way_laws.proofs.Cut_front.{cut_few}
use Rattle.way_laws.proofs.Cut_cut.{cut_longer}
use Rattle.event_laws.proofs.Issued_all.{NoAuth}
use Rattle.event_laws.proofs.Controls_same.{controls_same}
use Rattle.event_laws.proofs.Known_more.{known_still}
use Rattle.event_laws.proofs.Last_quiet.{greatest_none}
use Rattle.journey_laws.proofs.Invariant.{Invariant}
use Rattle.step_laws.proofs.Route_goes_on.{end_nearer, route_cut}
use Rattle.step_laws.proofs.Taken_counts.{answers, cuts}
use Rattle.plain_state.proofs.Found_changed.{mapped, found_changed, found_other, ids_change, distinct_change}
use Rattle.refinement_laws.proofs.Way_now.{Grown}
use Rattle.refinement_laws.proofs.Acts_on_sent.{way_steps}
use Rattle.refinement_laws.proofs.World_controls.{end_same}
use Rattle.refinement_laws.proofs.Zone_moves.{zone_made, zone_heads, ZoneMoves}
use Rattle.refinement_laws.proofs.Zone_still.{steps_same, zone_silent}

-- no more steps up to the end than before, where no authority is issued
pub steps_most : (line : Line) (t : ℕ) (x : Transition) (s : Story) → NoAuth t x.issued → (invariant : Invariant line t s) → (after : Invariant line t (x ∷ s)) → controls (zone_id line) t s ≡ true → controls (zone_id line) t (x ∷ s) ≡ true → head t s ≤ head t (x ∷ s)
    → length (steps_to (seg_len line) (longest_route line t (x ∷ s)) (longest_end line t (x ∷ s))) ≤ length (steps_to (seg_len line) (longest_route line t s) (longest_end line t s))
steps_most line t x s quiet invariant after c d heads =
    let len = seg_len line in
    by_test (cuts line t x s)
    (λ taken.
    let near = end_nearer line t s x invariant.motion invariant.authorized after.authorized c d heads taken quiet in
    let few = cut_few len (longest_route line t (x ∷ s)) (longest_end line t (x ∷ s)) in
    let cut = ap (λ (xs : List DirSeg). length xs) (route_cut line t s x invariant.motion invariant.authorized after.authorized c d heads taken quiet) in
    let more = cut_longer len (longest_route line t s) (longest_end line t (x ∷ s)) (longest_end line t s) (omega (arith, near)) in
    omega (arith, few, cut, more))
    (λ calm.
    let same = steps_same line t x s invariant after c d heads calm (end_same line t x s quiet invariant after c d heads calm) in
    omega (arith, same))

-- what is left where no train comes in, and the way of each has no more steps
pub record Stays (line : Line) (s : Story) (x : Transition) : Type 0 where
  pub grants : (t : ℕ) → grants_entry (zone_id line) t x ≡ false
  pub few : (t : ℕ) → greatest_in (auth_number t) x.issued ≤ last_issued t s + 1
  pub steps : (t : ℕ) → controls (zone_id line) t s ≡ true → controls (zone_id line) t (x ∷ s) ≡ true
      → length (steps_to (seg_len line) (longest_route line t (x ∷ s)) (longest_end line t (x ∷ s))) ≤ length (steps_to (seg_len line) (longest_route line t s) (longest_end line t s))

-- the trains after such an event
pub stay_moves : (line : Line) (x : Transition) (s : Story) (p : Plain) (trains : List Controlled) → IsLineOfOneZone line → Refines line s p → ((t : ℕ) → Invariant line t s) → Stays line s x
    → ((t : ℕ) → find_controlled t trains ≡ zone_train line t (x ∷ s)) → ids trains ≡ known_trains (zone_id line) s → Distinct trains → ZoneMoves line s x trains
stay_moves line x s p trains one k invariant h found known distinct = record {
  found = found;
  known = known ∙ sym (known_still (zone_id line) x s (h.grants (asker x.took)));
  distinct = distinct;
  few = h.few;
  steps = λ t c2.
      let c = sym (controls_same (zone_id line) t x s (h.grants t)) ∙ c2 in
      let a = h.steps t c c2 in
      let b = way_steps line s p one k invariant t c in
      omega (arith, a, b);
}

pub silent_stays : (line : Line) (x : Transition) (s : Story) → ((t : ℕ) → Invariant line t s) → ((t : ℕ) → Invariant line t (x ∷ s)) → ((t : ℕ) → head t s ≤ head t (x ∷ s)) → ((t : ℕ) → NoAuth t x.issued) → Stays line s x
silent_stays line x s invariant after heads silent = record {
  grants = λ t. quiet_grants (zone_id line) t x (silent t);
  few = λ t. let n = greatest_none t x.issued (silent t) in omega (arith, n);
  steps = λ t c d. steps_most line t x s (silent t) (invariant t) (after t) c d (heads t);
}

-- nothing but growth
pub quiet_moves : (line : Line) (z number : ℕ) (m : Msg) (e : Effect) (s : Story) (p : Plain) (ways : List Controlled) → IsLineOfOneZone line → suc z ≡ zone_id line → Refines line s p → ((t : ℕ) → Invariant line t s)
    → ((t : ℕ) → Invariant line t (zone_made z number m e ∷ s)) → Grown line s (now_with (zone_id line) s m) ways
    → ((t : ℕ) → NoAuth t e.issued)
    → ((t : ℕ) → is_used line (zone_id line) t s (possible_front line (zone_id line) t s) m ≡ false) → ((t : ℕ) → answers t (Some (0, m)) ≡ false) → ZoneMoves line s (zone_made z number m e) ways
quiet_moves line z number m e s p ways one zone k invariant after g silent unused unanswered =
    stay_moves line (zone_made z number m e) s p ways one k invariant (silent_stays line (zone_made z number m e) s invariant after (λ t. zone_heads t z number m e s) silent)
    (λ t. g.found t ∙ sym (zone_silent line z number m e s one zone t (invariant t) (after t) (silent t) (quiet_grants (zone_id line) t (zone_made z number m e) (silent t)) (unused t) (unanswered t))) g.known g.distinct

-- One train changes besides.
module _ (line : Line) (z number : ℕ) (m : Msg) (e : Effect) (s : Story) (one : IsLineOfOneZone line) (zone : suc z ≡ zone_id line) (invariant : (t : ℕ) → Invariant line t s) (after : (t : ℕ) → Invariant line t (zone_made z number m e ∷ s)) (u : TrainId)
    (silent : (t : ℕ) → nat_eq u.0 t ≡ false → NoAuth t e.issued) (grants : (t : ℕ) → grants_entry (zone_id line) t (zone_made z number m e) ≡ false)
    (unused : (t : ℕ) → nat_eq u.0 t ≡ false → is_used line (zone_id line) t s (possible_front line (zone_id line) t s) m ≡ false) (unanswered : (t : ℕ) → nat_eq u.0 t ≡ false → answers t (Some (0, m)) ≡ false)
    (p : Plain) (ways : List Controlled) (k : Refines line s p) (g : Grown line s (now_with (zone_id line) s m) ways) where
  abbrev x : Transition
  x = zone_made z number m e

  other_found : (t : ℕ) → nat_eq u.0 t ≡ false → find_controlled t ways ≡ zone_train line t (x ∷ s)
  other_found t o = g.found t ∙ sym (zone_silent line z number m e s one zone t (invariant t) (after t) (silent t o) (grants t) (unused t o) (unanswered t o))

  other_steps : (t : ℕ) → nat_eq u.0 t ≡ false → controls (zone_id line) t (x ∷ s) ≡ true → length (steps_to (seg_len line) (longest_route line t (x ∷ s)) (longest_end line t (x ∷ s))) ≤ 24 * length s
  other_steps t o c2 =
      let c = sym (controls_same (zone_id line) t x s (grants t)) ∙ c2 in
      let a = steps_most line t x s (silent t o) (invariant t) (after t) c c2 (zone_heads t z number m e s) in
      let b = way_steps line s p one k invariant t c in
      omega (arith, a, b)

  pub changed_moves : (f : Controlled → Controlled) → ((y : Controlled) → (f y).id ≡ y.id)
      → zone_train line u.0 (zone_made z number m e ∷ s) ≡ mapped f (mapped (grown_train (now_with (zone_id line) s m)) (zone_train line u.0 s))
      → ((t : ℕ) → greatest_in (auth_number t) e.issued ≤ last_issued t s + 1)
      → (controls (zone_id line) u.0 (zone_made z number m e ∷ s) ≡ true → length (steps_to (seg_len line) (longest_route line u.0 (zone_made z number m e ∷ s)) (longest_end line u.0 (zone_made z number m e ∷ s))) ≤ 24 * length s + 24)
      → ZoneMoves line s (zone_made z number m e) (change_controlled u.0 f ways)
  changed_moves f keeps own few own_steps = record {
    found = λ t. by_test (nat_eq u.0 t)
        (λ its. subst (λ (i : ℕ). find_controlled i (change_controlled u.0 f ways) ≡ zone_train line i (x ∷ s)) (eqb-true u.0 t its)
        (found_changed u.0 f ways keeps ∙ (ap (λ (y : Option Controlled). mapped f y) (g.found u.0) ∙ sym own)))
        (λ o. found_other t u.0 f ways keeps o ∙ other_found t o);
    known = ids_change u.0 f ways keeps ∙ (g.known ∙ sym (known_still (zone_id line) x s (grants (asker x.took))));
    distinct = distinct_change u.0 f ways keeps g.distinct;
    few = few;
    steps = λ t c2. by_test (nat_eq u.0 t)
        (λ its. subst (λ (i : ℕ). length (steps_to (seg_len line) (longest_route line i (x ∷ s)) (longest_end line i (x ∷ s))) ≤ 24 * length (x ∷ s)) (eqb-true u.0 t its)
        (let b = own_steps (subst (λ (i : ℕ). controls (zone_id line) i (x ∷ s) ≡ true) (sym (eqb-true u.0 t its)) c2) in omega (arith, b)))
        (λ o. let b = other_steps t o c2 in omega (arith, b));
  }

  -- or stays but for its growth
  pub unchanged_moves : zone_train line u.0 (zone_made z number m e ∷ s) ≡ mapped (grown_train (now_with (zone_id line) s m)) (zone_train line u.0 s)
      → ((t : ℕ) → greatest_in (auth_number t) e.issued ≤ last_issued t s + 1)
      → (controls (zone_id line) u.0 (zone_made z number m e ∷ s) ≡ true → length (steps_to (seg_len line) (longest_route line u.0 (zone_made z number m e ∷ s)) (longest_end line u.0 (zone_made z number m e ∷ s))) ≤ 24 * length s + 24)
      → ZoneMoves line s (zone_made z number m e) ways
  unchanged_moves own few own_steps = record {
    found = λ t. by_test (nat_eq u.0 t)
        (λ its. subst (λ (i : ℕ). find_controlled i ways ≡ zone_train line i (x ∷ s)) (eqb-true u.0 t its) (g.found u.0 ∙ sym own))
        (λ o. other_found t o);
    known = g.known ∙ sym (known_still (zone_id line) x s (grants (asker x.took)));
    distinct = g.distinct;
    few = few;
    steps = λ t c2. by_test (nat_eq u.0 t)
        (λ its. subst (λ (i : ℕ). length (steps_to (seg_len line) (longest_route line i (x ∷ s)) (longest_end line i (x ∷ s))) ≤ 24 * length (x ∷ s)) (eqb-true u.0 t its)
        (let b = own_steps (subst (λ (i : ℕ). controls (zone_id line) i (x ∷ s) ≡ true) (sym (eqb-true u.0 t its)) c2) in omega (arith, b)))
        (λ o. let b = other_steps t o c2 in omega (arith, b));
  }
