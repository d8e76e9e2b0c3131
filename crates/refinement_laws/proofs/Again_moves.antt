-- The plain state follows the last authority issued again: its way, up to the end of a shrink that is unanswered.
use Rattle.std.proofs.Common.{◌≡◌, ℕ, suc, ◌-◌, ◌<◌, ◌≤◌, List, ◌∷◌, Some, true, false, refl, ◌∙◌, ap, arith}
use Rattle.std.proofs.lemmas.Bool.Decides.{nat_tests}
use Rattle.std.proofs.Math.Bool.{and-false}
use Rattle.std.specs.Prelude.{nat_eq}
use Rattle.list_laws.proofs.By_test.{by_test}
use Rattle.track_points.specs.declared.ids.DirSeg.{DirSeg}
use Rattle.track_points.specs.declared.ids.TrainId.{TrainId}
use Rattle.track_points.specs.Points.{total}
use Rattle.definitions.specs.declared.message.Msg.{Msg}
use Rattle.definitions.specs.declared.message.Msg.TheVariants as msg
use Rattle.definitions.specs.declared.outcome.Outcome.{Outcome}
use Rattle.definitions.specs.Track.{Line, seg_len}
use Rattle.definitions.specs.Ways.{PlainWay, way_between}
use Rattle.definitions.specs.Story.{Transition, Story}
use Rattle.definitions.specs.World.{Authority, authority_end, journey}
use Rattle.definitions.specs.Control.{grants_entry, controls, known_facts, now_with, last_issued}
use Rattle.definitions.specs.Longest.{is_pending, shrink_place, longest_end, longest_route}
use Rattle.definitions.specs.Authority.{shrink_on}
use Rattle.definitions.specs.Steps.{Effect, up_to, again}
use Rattle.definitions.specs.Safe.{IsLineOfOneZone}
use Rattle.plain_state.specs.declared.Controlled.{Controlled}
use Rattle.definitions.specs.Zones.{zone_id}
use Rattle.plain_state.specs.Plain.{Plain}
use Rattle.plain_state.specs.Refinement.{Refines}
use Rattle.way_laws.proofs.Between_points.{between_end}
use Rattle.event_laws.proofs.Account_next.{issued_is}
use Rattle.journey_laws.proofs.Invariant.{Invariant}
use Rattle.journey_laws.proofs.One_route.{shrink_before}
use Rattle.step_laws.proofs.Account_goes.{account_again}
use Rattle.refinement_laws.proofs.Way_now.{Grown}
use Rattle.refinement_laws.proofs.Way_of.{way_of, way_before}
use Rattle.refinement_laws.proofs.Acts_on_sent.{way_steps}
use Rattle.refinement_laws.proofs.Kept_answered.{way_nearer}
use Rattle.refinement_laws.proofs.Account_heard.{unpassed_now}
use Rattle.refinement_laws.proofs.Zone_moves.{zone_made, zone_heads, ZoneMoves}
use Rattle.refinement_laws.proofs.Zone_still.{steps_same, uncut, controlled_still, zone_still}
use Rattle.refinement_laws.proofs.Quiet_moves.{unchanged_moves}
use Rattle.refinement_laws.proofs.One_issued.{one_silent, one_few, one_end}

-- A train that its zone controls: its way up to a place.
module _ (line : Line) (t : ℕ) (s : Story) (one : IsLineOfOneZone line) (invariant : Invariant line t s) (c : controls (zone_id line) t s ≡ true) where
  abbrev rear : ℕ
  rear = (invariant.fronts c).lo - (known_facts (zone_id line) t s).long

  abbrev route : List DirSeg
  route = longest_route line t s

  -- it ends there, as an authority
  pub way_ends : (p : ℕ) → (invariant.fronts c).lo - (known_facts (zone_id line) t s).long < p → p ≤ longest_end line t s
      → authority_end (seg_len line) (journey line t s) (record {
        mark = (way_between (seg_len line) (longest_route line t s) ((invariant.fronts c).lo - (known_facts (zone_id line) t s).long) p).mark;
        path = (way_between (seg_len line) (longest_route line t s) ((invariant.fronts c).lo - (known_facts (zone_id line) t s).long) p).path;
      }) ≡ p
  way_ends p order within =
      let len = seg_len line in
      let room = (way_of line t s one.valid invariant c).room in
      let begins = ap (total len) (way_before line t s one.valid invariant c) in
      let b = between_end len route rear p order (omega (arith, within, room)) in
      omega (arith, begins, b)

  -- it goes up to the end of a shrink that is unanswered
  record SentAgain (sent : PlainWay) : Type 0 where
    place : ℕ
    is : sent ≡ way_between (seg_len line) (longest_route line t s) ((invariant.fronts c).lo - (known_facts (zone_id line) t s).long) place
    order : (invariant.fronts c).lo - (known_facts (zone_id line) t s).long < place
    within : place ≤ longest_end line t s

  abbrev w : PlainWay
  w = way_between (seg_len line) (longest_route line t s) ((invariant.fronts c).lo - (known_facts (zone_id line) t s).long) (longest_end line t s)

  sent_is : SentAgain (up_to (seg_len line) (shrink_on line t s (way_between (seg_len line) (longest_route line t s) ((invariant.fronts c).lo - (known_facts (zone_id line) t s).long) (longest_end line t s)))
      (way_between (seg_len line) (longest_route line t s) ((invariant.fronts c).lo - (known_facts (zone_id line) t s).long) (longest_end line t s)))
  sent_is =
      let v = way_of line t s one.valid invariant c in
      let p = v.order in
      let q = v.ordered in
      let r = v.within in
      by_test (is_pending line t s)
      (λ y.
      let ahead = unpassed_now line t s invariant c (grind (arith, nat_tests)) in
      let near = shrink_before line t s invariant.authorized c y in
      rw y (record {
        place = shrink_place line t s;
        is = way_nearer (seg_len line) route rear (shrink_place line t s) (longest_end line t s) (omega (arith, p, ahead)) (omega (arith, near));
        order = omega (arith, p, ahead);
        within = omega (arith, near);
      }))
      (λ n. rw n (record { place = longest_end line t s; is = refl; order = omega (arith, p, q, r); within = omega arith }))

  pub sent_end : authority_end (seg_len line) (journey line t s) (record {
    mark = (up_to (seg_len line) (shrink_on line t s w) w).mark;
    path = (up_to (seg_len line) (shrink_on line t s w) w).path;
  }) ≤ longest_end line t s
  sent_end =
      let i = sent_is in
      let e = ap (λ (v : PlainWay). authority_end (seg_len line) (journey line t s) (record { mark = v.mark; path = v.path })) i.is ∙ way_ends i.place i.order i.within in
      let h = i.within in
      omega (arith, e, h)

module _ (line : Line) (z number : ℕ) (time : ℕ) (u : TrainId) (s : Story) (one : IsLineOfOneZone line) (zone : suc z ≡ zone_id line) (invariant : (t : ℕ) → Invariant line t s) (c : controls (zone_id line) u.0 s ≡ true) (lines : List Outcome) where
  abbrev whole : PlainWay
  whole = way_between (seg_len line) (longest_route line u.0 s) (((invariant u.0).fronts c).lo - (known_facts (zone_id line) u.0 s).long) (longest_end line u.0 s)

  -- what is sent again
  abbrev sent : PlainWay
  sent = up_to (seg_len line) (shrink_on line u.0 s whole) whole

  abbrev m : Msg
  m = msg.Time time u

  abbrev e : Effect
  e = record { issued = (again u (last_issued u.0 s) (Some sent)).issued; lines = lines }

  abbrev a : Authority
  a = record { mark = sent.mark; path = sent.path }

  abbrev x : Transition
  x = zone_made z number m e

  again_none : (v : ℕ) → grants_entry (zone_id line) v (zone_made z number m e) ≡ false
  again_none v = and-false (nat_eq (suc z) (zone_id line))

  module _ (after : (t : ℕ) → Invariant line t (zone_made z number m e ∷ s)) where
    c2 : controls (zone_id line) u.0 (zone_made z number m e ∷ s) ≡ true
    c2 = controlled_still line z number m e s one zone u.0 (invariant u.0) (after u.0) c (again_none u.0)

    again_end : longest_end line u.0 (zone_made z number m e ∷ s) ≡ longest_end line u.0 s
    again_end =
        one_end line z number m e s u (last_issued u.0 s) a refl (after u.0) (invariant u.0) c c2 (uncut line z number m e s one zone u.0 (invariant u.0) (after u.0) refl)
        (sent_end line u.0 s one (invariant u.0) c)

    pub again_moves : (p : Plain) (ways : List Controlled) → Refines line s p → Grown line s (now_with (zone_id line) s m) ways → ZoneMoves line s (zone_made z number m e) ways
    again_moves p ways k g =
        let its : nat_eq u.0 u.0 ≡ true = grind (arith, nat_tests) in
        let issued = issued_is line u.0 s in
        unchanged_moves line z number m e s one zone invariant after u (one_silent u (last_issued u.0 s) a e.issued refl) again_none (λ t o. refl) (λ t o. refl) p ways k g
        (zone_still line z number m e s one zone u.0 (invariant u.0) (after u.0) (λ d. again_end) (account_again line u.0 x s u (last_issued u.0 s) a refl its (omega (arith, issued))) (again_none u.0) refl refl)
        (one_few u (last_issued u.0 s) a e.issued refl s (omega arith))
        (λ d.
        let same = steps_same line u.0 x s (invariant u.0) (after u.0) c c2 (zone_heads u.0 z number m e s) (uncut line z number m e s one zone u.0 (invariant u.0) (after u.0) refl) again_end in
        let few = way_steps line s p one k invariant u.0 c in
        omega (arith, same, few))
