-- The plain state follows an answer that the zone takes.
use Rattle.std.proofs.Common.{◌≡◌, ℕ, suc, ◌+◌, ◌-◌, ◌≤◌, min, List, ◌∷◌, Option, Some, Bool, true, false, refl, sym, ◌∙◌, ap, arith}
use Rattle.std.proofs.lemmas.Bool.Decides.{nat_tests}
use Rattle.std.proofs.lemmas.Bool.{and_parts}
use Rattle.std.proofs.Math.Bool.{and-false}
use Rattle.std.specs.Prelude.{nat_eq, nat_le}
use Rattle.list_laws.proofs.By_test.{by_test}
use Rattle.track_points.specs.declared.ids.DirSeg.{DirSeg}
use Rattle.track_points.specs.declared.ids.TrainId.{TrainId}
use Rattle.track_points.specs.Points.{steps_to}
use Rattle.envelope.proofs.Range_hull.{IsRange}
use Rattle.definitions.specs.declared.message.Msg.{Msg}
use Rattle.definitions.specs.declared.message.Msg.TheVariants as msg
use Rattle.definitions.specs.Track.{Line, seg_len}
use Rattle.definitions.specs.Story.{Transition, Story}
use Rattle.definitions.specs.World.{journey}
use Rattle.definitions.specs.Control.{grants_entry, controls, Known, known_train, known_facts, now_of, now_with}
use Rattle.definitions.specs.Account.{takes_shrink}
use Rattle.definitions.specs.Fold.{account}
use Rattle.definitions.specs.Longest.{is_pending, longest_end, longest_route, shrink_place}
use Rattle.definitions.specs.Fronts.{possible_front, grown_fronts, report_time}
use Rattle.definitions.specs.Steps.{Effect}
use Rattle.definitions.specs.Safe.{IsLineOfOneZone}
use Rattle.authority_ledger.specs.declared.ledger.Ledger.{Ledger}
use Rattle.authority_ledger.specs.declared.ledger.Answered.{Answered}
use Rattle.authority_ledger.specs.declared.ledger.Answered.TheVariants.{Shrunk}
use Rattle.authority_ledger.specs.Ledger.{answer_of, after_answer}
use Rattle.plain_state.specs.declared.Controlled.{Controlled}
use Rattle.plain_state.specs.Zone.{change_controlled, answered_as, answer, grown_train}
use Rattle.definitions.specs.Zones.{zone_id}
use Rattle.plain_state.specs.Plain.{Plain}
use Rattle.plain_state.specs.Refinement.{zone_train, Refines}
use Rattle.way_laws.proofs.Between_points.{begin_of}
use Rattle.event_laws.proofs.Account_next.{fronts_acted}
use Rattle.event_laws.proofs.Controls_same.{controls_same}
use Rattle.event_laws.proofs.Issued_all.{NoAuth}
use Rattle.event_laws.proofs.Last_quiet.{greatest_none}
use Rattle.journey_laws.proofs.Invariant.{Invariant}
use Rattle.journey_laws.proofs.One_route.{shrink_before}
use Rattle.step_laws.proofs.Account_goes.{account_quiet}
use Rattle.step_laws.proofs.Fronts_numbers.{takes_by, grown_to, fronts_numbers, fronts_grown}
use Rattle.step_laws.proofs.Report_ruled.{cut_ruled}
use Rattle.step_laws.proofs.Route_goes_on.{end_cut, route_cut}
use Rattle.step_laws.proofs.Ruled_is.{range_first, range_last}
use Rattle.step_laws.proofs.Taken_counts.{cuts}
use Rattle.plain_state.proofs.Found_changed.{mapped}
use Rattle.refinement_laws.proofs.Way_now.{Grown}
use Rattle.refinement_laws.proofs.Way_of.{way_of}
use Rattle.refinement_laws.proofs.Acts_on_sent.{way_steps}
use Rattle.refinement_laws.proofs.Ledger_told.{answer_of_shifted, answer_shifted, takes_told, untaken_told}
use Rattle.refinement_laws.proofs.Zone_kept.{ledger_of, kept_train, zone_kept, known_stays}
use Rattle.refinement_laws.proofs.Kept_answered.{kept_cut_at, kept_noted}
use Rattle.refinement_laws.proofs.World_controls.{end_same}
use Rattle.refinement_laws.proofs.Zone_idle.{no_train}
use Rattle.refinement_laws.proofs.Zone_moves.{zone_made, zone_heads, ZoneMoves}
use Rattle.refinement_laws.proofs.Account_heard.{unpassed_now, ledger_behind, behind_answered}
use Rattle.refinement_laws.proofs.Zone_still.{grown_is, now_is, acts, uncut, controlled_still, behind_unused, report_unused}
use Rattle.refinement_laws.proofs.Quiet_moves.{steps_most, changed_moves}

module _ (line : Line) (z number : ℕ) (u : TrainId) (time n : ℕ) (taken : Bool) (e : Effect) (s : Story) (one : IsLineOfOneZone line) (zone : suc z ≡ zone_id line) (invariant : (t : ℕ) → Invariant line t s)
    (after : (t : ℕ) → Invariant line t (zone_made z number (msg.Answer u time n taken) e ∷ s)) (silent : (t : ℕ) → NoAuth t e.issued) where
  abbrev m : Msg
  m = msg.Answer u time n taken

  abbrev x : Transition
  x = zone_made z number m e

  abbrev t : ℕ
  t = u.0

  none : (v : ℕ) → grants_entry (zone_id line) v (zone_made z number m e) ≡ false
  none v = and-false (nat_eq (suc z) (zone_id line))

  its : nat_eq u.0 u.0 ≡ true
  its = grind (arith, nat_tests)

  -- of a train that the zone controls
  module _ (c : controls (zone_id line) u.0 s ≡ true) where
    c2 : controls (zone_id line) u.0 (zone_made z number m e ∷ s) ≡ true
    c2 = controlled_still line z number m e s one zone t (invariant t) (after t) c (none t)

    abbrev lo : ℕ
    lo = ((invariant t).fronts c).lo

    abbrev hi : ℕ
    hi = grown_to line t s m ((invariant t).fronts c).hi

    abbrev known : Known
    known = known_train (zone_id line) t s

    abbrev numbers : Ledger
    numbers = ledger_of line t s

    abbrev grown : Controlled
    grown = kept_train (seg_len line) t known (longest_route line t s) lo hi (longest_end line t s) (now_with (zone_id line) s m) (report_time line (zone_id line) t s) numbers

    abbrev begin : ℕ
    begin = begin_of (seg_len line) (longest_route line t s) (lo - (known_facts (zone_id line) t s).long)

    ledger_next : ledger_of line u.0 (zone_made z number m e ∷ s) ≡ after_answer (answer_of n taken numbers) n numbers
    ledger_next =
        ledger_behind line z number m e s zone t (invariant t) c (none t) (account_quiet line t x s (silent t))
        ∙ behind_answered line z number u time n taken e s zone t (invariant t) c (none t) its

    -- it takes no shrink
    untaken : takes_by u.0 (account line u.0 s) m ≡ false → answer (seg_len line) n taken grown ≡ kept_train (seg_len line) t known (longest_route line t s) lo hi (longest_end line t s)
        (now_with (zone_id line) s m) (report_time line (zone_id line) t s) (after_answer (answer_of n taken numbers) n numbers)
    untaken free =
        let not_so : takes_shrink n taken (account line t s) ≡ false = rw its at free in
        ap (λ (found : Answered). answered_as (seg_len line) n found grown) (answer_of_shifted begin n taken numbers)
        ∙ kept_noted (seg_len line) t known (longest_route line t s) lo hi (longest_end line t s) (now_with (zone_id line) s m) (report_time line (zone_id line) t s) n numbers (answer_of n taken numbers)
        (untaken_told (seg_len line) (journey line t s) n taken (account line t s) not_so)

    untaken_next : takes_by u.0 (account line u.0 s) m ≡ false → zone_train line u.0 (zone_made z number m e ∷ s) ≡ Some (answer (seg_len line) n taken grown)
    untaken_next free =
        let end = end_same line t x s (silent t) (invariant t) (after t) c c2 (zone_heads t z number m e s) (uncut line z number m e s one zone t (invariant t) (after t) free) in
        behind_unused line z number m e s one zone t (invariant t) (after t) c (none t) free end refl
        ∙ (ap (λ (l : Ledger). Some (kept_train (seg_len line) t known (longest_route line t s) lo hi (longest_end line t s) (now_with (zone_id line) s m) (report_time line (zone_id line) t s) l)) ledger_next
        ∙ ap (λ (y : Controlled). Some y) (sym (untaken free)))

    -- it takes the shrink
    module _ (yes : takes_by u.0 (account line u.0 s) m ≡ true) where
      abbrev p : ℕ
      p = shrink_place line t s

      takes : takes_shrink n taken (account line u.0 s) ≡ true
      takes = (and_parts (nat_eq t t) (takes_shrink n taken (account line t s)) yes).1

      found_is : answer_of n taken numbers ≡ Shrunk (shrink_place line u.0 s)
      found_is = takes_told (seg_len line) (journey line t s) n taken (account line t s) takes

      cut : cuts line u.0 (zone_made z number m e) s ≡ true
      cut = let here = acts line z number m e s one zone t (invariant t) (after t) in rw here yes

      pending : is_pending line u.0 s ≡ true
      pending =
          let w = account line t s in
          let k = and_parts (nat_eq t t) (takes_shrink n taken w) yes in
          grind (arith, nat_tests)

      -- the shrink ends between the least front and the way's end
      ahead : lo ≤ shrink_place line u.0 s
      ahead = let y = pending in unpassed_now line t s (invariant t) c (grind (arith, nat_tests))

      within : shrink_place line u.0 s ≤ longest_end line u.0 s
      within =
          let near = shrink_before line t s (invariant t).authorized c pending in
          omega (arith, near)

      end_next : longest_end line u.0 (zone_made z number m e ∷ s) ≡ shrink_place line u.0 s
      end_next = end_cut line t s x (invariant t).motion (invariant t).authorized (after t).authorized c c2 (zone_heads t z number m e s) cut (silent t)

      -- the fronts end there
      fronts_next : IsRange (possible_front line (zone_id line) u.0 (zone_made z number m e ∷ s)) lo (min hi (shrink_place line u.0 s))
      fronts_next =
          let here = acts line z number m e s one zone t (invariant t) (after t) in
          let g = fronts_grown line t s m ((invariant t).fronts c) in
          let r = cut_ruled (longest_end line t s) (λ q. nat_le q p) (grown_fronts line (zone_id line) t s (possible_front line (zone_id line) t s) m) lo hi g.is g.ordered g.within p refl ahead in
          record { is = λ f. fronts_acted line t x s (zone_id line) f (none t) here c ∙ rw yes (r.is f) }

      ends_next : (((after u.0).fronts c2).lo ≡ lo) × (((after u.0).fronts c2).hi ≡ min hi (shrink_place line u.0 s))
      ends_next =
          let r = fronts_next in
          let a = ahead in
          let e2 = end_next in
          let o = (fronts_grown line t s m ((invariant t).fronts c)).ordered in
          let told = fronts_numbers line t (x ∷ s) ((after t).fronts c2) in (
            sym told.least ∙ range_first (possible_front line (zone_id line) t (x ∷ s)) lo (min hi p) (longest_end line t (x ∷ s) + 1) r (omega (arith, o, a)) (omega (arith, e2)),
            sym told.greatest ∙ range_last (possible_front line (zone_id line) t (x ∷ s)) lo (min hi p) (longest_end line t (x ∷ s) + 1) r (omega (arith, o, a)) (omega (arith, e2)),
          )

      taken_is : answer (seg_len line) n taken grown ≡ kept_train (seg_len line) t known (steps_to (seg_len line) (longest_route line t s) p) lo (min hi p) p
          (now_with (zone_id line) s m) (report_time line (zone_id line) t s) (after_answer (answer_of n taken numbers) n numbers)
      taken_is =
          let w = way_of line t s one.valid (invariant t) c in
          let order = w.order in
          let o = (fronts_grown line t s m ((invariant t).fronts c)).ordered in
          let a = ahead in
          ap (λ (found : Answered). answered_as (seg_len line) n found grown) (answer_of_shifted begin n taken numbers ∙ ap (answer_shifted begin) found_is)
          ∙ (kept_cut_at (seg_len line) t known (longest_route line t s) lo hi p (longest_end line t s) (now_with (zone_id line) s m) (report_time line (zone_id line) t s) n numbers (omega (arith, order, a)) o a within w.room
          ∙ ap (λ (found : Answered). kept_train (seg_len line) t known (steps_to (seg_len line) (longest_route line t s) p) lo (min hi p) p (now_with (zone_id line) s m) (report_time line (zone_id line) t s) (after_answer found n numbers)) (sym found_is))

      taken_next : zone_train line u.0 (zone_made z number m e ∷ s) ≡ Some (answer (seg_len line) n taken grown)
      taken_next =
          let len = seg_len line in
          let z0 = zone_id line in
          let lo2 = ((after t).fronts c2).lo in
          let hi2 = ((after t).fronts c2).hi in
          let end2 = longest_end line t (x ∷ s) in
          let now2 = now_of z0 (x ∷ s) in
          let rep2 = report_time line z0 t (x ∷ s) in
          let route_is = route_cut line t s x (invariant t).motion (invariant t).authorized (after t).authorized c c2 (zone_heads t z number m e s) cut (silent t) ∙ ap (steps_to len (longest_route line t s)) end_next in
          let route2 = steps_to len (longest_route line t s) p in
          zone_kept line t (x ∷ s) one.valid (after t) c2
          ∙ (ap (λ (q : Known). Some (kept_train len t q (longest_route line t (x ∷ s)) lo2 hi2 end2 now2 rep2 (ledger_of line t (x ∷ s)))) (known_stays z0 t x s (none t))
          ∙ (ap (λ (q : List DirSeg). Some (kept_train len t known q lo2 hi2 end2 now2 rep2 (ledger_of line t (x ∷ s)))) route_is
          ∙ (ap (λ (q : ℕ). Some (kept_train len t known route2 q hi2 end2 now2 rep2 (ledger_of line t (x ∷ s)))) ends_next.0
          ∙ (ap (λ (q : ℕ). Some (kept_train len t known route2 lo q end2 now2 rep2 (ledger_of line t (x ∷ s)))) ends_next.1
          ∙ (ap (λ (q : ℕ). Some (kept_train len t known route2 lo (min hi p) q now2 rep2 (ledger_of line t (x ∷ s)))) end_next
          ∙ (ap (λ (q : ℕ). Some (kept_train len t known route2 lo (min hi p) p q rep2 (ledger_of line t (x ∷ s)))) (now_is line z number m e s one zone t (invariant t) (after t))
          ∙ (ap (λ (q : ℕ). Some (kept_train len t known route2 lo (min hi p) p (now_with z0 s m) q (ledger_of line t (x ∷ s)))) (report_unused line z0 t x s (none t) refl)
          ∙ (ap (λ (l : Ledger). Some (kept_train len t known route2 lo (min hi p) p (now_with z0 s m) (report_time line z0 t s) l)) ledger_next
          ∙ ap (λ (y : Controlled). Some y) (sym taken_is)))))))))

  answered_own : zone_train line u.0 (zone_made z number m e ∷ s) ≡ mapped (answer (seg_len line) n taken) (mapped (grown_train (now_with (zone_id line) s m)) (zone_train line u.0 s))
  answered_own = by_test (controls (zone_id line) u.0 s)
      (λ c.
      by_test (takes_by t (account line t s) m) (λ y. taken_next c y) (λ free. untaken_next c free)
      ∙ sym (ap (λ (y : Option Controlled). mapped (answer (seg_len line) n taken) y) (grown_is line m s t one (invariant t) c)))
      (λ o.
      no_train line t (x ∷ s) (controls_same (zone_id line) t x s (none t) ∙ o)
      ∙ sym (ap (λ (y : Option Controlled). mapped (answer (seg_len line) n taken) (mapped (grown_train (now_with (zone_id line) s m)) y)) (no_train line t s o)))

  pub answered_moves : (q : Plain) (ways : List Controlled) → Refines line s q → Grown line s (now_with (zone_id line) s m) ways → ZoneMoves line s (zone_made z number m e) (change_controlled u.0 (answer (seg_len line) n taken) ways)
  answered_moves q ways k g =
      changed_moves line z number m e s one zone invariant after u (λ v o. silent v) none (λ v o. refl) (λ v o. rw o refl) q ways k g
      (answer (seg_len line) n taken) (λ y. refl) answered_own (λ v. let a = greatest_none v e.issued (silent v) in omega (arith, a))
      (λ d.
      let c = sym (controls_same (zone_id line) t x s (none t)) ∙ d in
      let most = steps_most line t x s (silent t) (invariant t) (after t) c d (zone_heads t z number m e s) in
      let few = way_steps line s q one k invariant t c in
      omega (arith, most, few))
