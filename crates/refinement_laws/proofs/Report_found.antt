-- The plain state follows a report that the zone takes.
use Rattle.std.proofs.Common.{◌≡◌, ℕ, suc, ◌+◌, ◌-◌, ◌≤◌, max, List, [], ◌∷◌, Option, Some, None, Bool, true, false, refl, sym, ◌∙◌, ap, subst, arith, if◌then◌else◌}
use Rattle.std.proofs.lemmas.Bool.Decides.{nat_tests}
use Rattle.std.proofs.lemmas.Bool.{eqb-true, and_parts}
use Rattle.std.proofs.Math.Bool.{and-false}
use Rattle.std.specs.Prelude.{ℤ, nat_eq}
use Rattle.list_laws.proofs.By_test.{by_test}
use Rattle.track_points.specs.declared.ids.TrainId.{TrainId}
use Rattle.envelope.specs.declared.fronts.Fronts.{Fronts}
use Rattle.definitions.specs.declared.message.Msg.{Msg}
use Rattle.definitions.specs.declared.message.Msg.TheVariants as msg
use Rattle.definitions.specs.declared.outcome.Outcome.{Outcome}
use Rattle.definitions.specs.Track.{Line, seg_len}
use Rattle.definitions.specs.Numbers.{last}
use Rattle.definitions.specs.Story.{Transition, Story}
use Rattle.definitions.specs.Farther.{on_way}
use Rattle.definitions.specs.Control.{controls, known_train, known_facts, now_with}
use Rattle.definitions.specs.Longest.{longest_end, longest_route}
use Rattle.definitions.specs.Fronts.{possible_front, fronts_behind, is_used, rear_of, report_time}
use Rattle.definitions.specs.Steps.{Effect, nothing, place_line, zone_report}
use Rattle.definitions.specs.Safe.{IsLineOfOneZone}
use Rattle.authority_ledger.specs.declared.ledger.Ledger.{Ledger}
use Rattle.way_path.specs.Ways.{plain_way}
use Rattle.plain_state.specs.declared.Controlled.{Controlled}
use Rattle.plain_state.specs.Zone.{find_controlled, change_controlled, has_mark, uses_mark, narrowed_by, cut_at_rear, checked, check, reported_by, place_of_train, place_found, grown_train}
use Rattle.definitions.specs.Zones.{zone_id}
use Rattle.plain_state.specs.Refinement.{zone_train}
use Rattle.journey_laws.proofs.Invariant.{Invariant}
use Rattle.step_laws.proofs.Head_place.{control_of}
use Rattle.step_laws.proofs.Entry_fronts.{known_long}
use Rattle.step_laws.proofs.Fronts_numbers.{grown_to, fronts_left, fronts_kept}
use Rattle.plain_state.proofs.Found_changed.{mapped, found_changed, found_other}
use Rattle.refinement_laws.proofs.Way_now.{Grown}
use Rattle.refinement_laws.proofs.Way_of.{way_of}
use Rattle.refinement_laws.proofs.Mark_is.{mark_is}
use Rattle.refinement_laws.proofs.Zone_kept.{ledger_of, kept_train}
use Rattle.refinement_laws.proofs.Narrowed_is.{shown_train, narrowed_is, place_is, check_is, cut_is}
use Rattle.event_laws.proofs.Issued_all.{NoAuth}
use Rattle.refinement_laws.proofs.Zone_idle.{no_train}
use Rattle.refinement_laws.proofs.Zone_moves.{zone_made}
use Rattle.refinement_laws.proofs.Zone_still.{grown_is, zone_silent, behind_used}

module _ (line : Line) (z number : ℕ) (u : TrainId) (time mark : ℕ) (offset : ℤ) (integrity : Bool) (s : Story) (one : IsLineOfOneZone line) (zone : suc z ≡ zone_id line) (invariant : (t : ℕ) → Invariant line t s)
    (ways : List Controlled) (g : Grown line s (now_with (zone_id line) s (msg.Report u time mark offset integrity)) ways) where
  abbrev r : Msg
  r = msg.Report u time mark offset integrity

  abbrev t : ℕ
  t = u.0

  abbrev x : Effect → Transition
  x e = zone_made z number r e

  itself : nat_eq u.0 u.0 ≡ true
  itself = grind (arith, nat_tests)

  abbrev used : Bool
  used = is_used line (zone_id line) t s (possible_front line (zone_id line) t s) r

  -- of a controlled train
  module _ (c : controls (zone_id line) u.0 s ≡ true) where
    abbrev lo : ℕ
    lo = ((invariant t).fronts c).lo

    abbrev hi : ℕ
    hi = grown_to line t s r ((invariant t).fronts c).hi

    abbrev k : ℕ
    k = (known_facts (zone_id line) t s).long

    abbrev grown : Controlled
    grown = kept_train (seg_len line) t (known_train (zone_id line) t s) (longest_route line t s) lo hi (longest_end line t s) (now_with (zone_id line) s r) (report_time line (zone_id line) t s) (ledger_of line t s)

    found_grown : find_controlled u.0 ways ≡ Some grown
    found_grown = g.found t ∙ grown_is line r s t one (invariant t) c

    long_is : (k ≤ lo) × (1 ≤ k)
    long_is =
        let f = (invariant t).fronts c in
        let d = control_of line t s one.valid (invariant t) c in
        let same = known_long t s (known_facts (zone_id line) t s) d.facts in
        let l = f.long in
        let some = (invariant t).authorized.long_some d.declared in
        (omega (arith, same, l), omega (arith, same, some))

    ordered : lo ≤ hi
    ordered = let f = (invariant t).fronts c in let o = f.ordered in let w = f.within in omega (arith, o, w)

    within : hi ≤ longest_end line u.0 s
    within = omega arith

    mark_used : has_mark (plain_way grown.way) mark ≡ is_used line (zone_id line) u.0 s (possible_front line (zone_id line) u.0 s) (msg.Report u time mark offset integrity)
    mark_used =
        let w = way_of line t s one.valid (invariant t) c in
        let l = long_is in
        let l0 = l.0 in
        let l1 = l.1 in
        let o = ordered in
        let h = within in
        let m = mark_is (seg_len line) (longest_route line t s) (lo - k) (longest_end line t s) (omega (arith, l0, l1, o, h)) w.room mark in
        m ∙ (ap (λ (n : ℕ). on_way (seg_len line) (longest_route line t s) n (longest_end line t s) mark) (sym w.rear) ∙ sym (rw (itself, c) refl))

    -- what the report leaves
    abbrev left : Fronts
    left = fronts_left line t s r ((invariant t).fronts c).lo ((invariant t).fronts c).hi time mark offset integrity

    abbrev told : ℕ
    told = max (report_time line (zone_id line) t s) time

    module _ (uses : is_used line (zone_id line) u.0 s (possible_front line (zone_id line) u.0 s) (msg.Report u time mark offset integrity) ≡ true) where
      abbrev shown : Controlled
      shown = shown_train (seg_len line) t (known_train (zone_id line) t s) (longest_route line t s) lo hi (longest_end line t s) (now_with (zone_id line) s r) (report_time line (zone_id line) t s) (ledger_of line t s)
          long_is.0 long_is.1 ordered within (way_of line t s one.valid (invariant t) c).room left.lo left.hi told (ledger_of line t s)

      narrowed_now : narrowed_by (seg_len line) time mark offset integrity grown ≡ shown
      narrowed_now =
          narrowed_is (seg_len line) t (known_train (zone_id line) t s) (longest_route line t s) lo hi (longest_end line t s) (now_with (zone_id line) s r) (report_time line (zone_id line) t s) (ledger_of line t s)
          long_is.0 long_is.1 ordered within (way_of line t s one.valid (invariant t) c).room time mark offset integrity (mark_used ∙ uses)

      narrower : (lo ≤ left.lo) × ((left.lo ≤ left.hi) × (left.hi ≤ hi))
      narrower = let n = fronts_kept line t s u time mark offset integrity ((invariant t).fronts c) uses in (n.least, (n.numbers.ordered, n.most))

      -- the numbers after the check of the least front
      abbrev checked_numbers : Ledger
      checked_numbers = checked left.lo (ledger_of line t s).pending (ledger_of line t s)

      cut_now : reported_by (seg_len line) time mark offset integrity grown
          ≡ kept_train (seg_len line) t (known_train (zone_id line) t s) (longest_route line t s) left.lo left.hi (longest_end line t s) (now_with (zone_id line) s r) told checked_numbers
      cut_now =
          ap (λ (y : Controlled). cut_at_rear (seg_len line) (check y)) narrowed_now
          ∙ (ap (λ (y : Controlled). cut_at_rear (seg_len line) y)
          (check_is (seg_len line) t (known_train (zone_id line) t s) (longest_route line t s) lo hi (longest_end line t s) (now_with (zone_id line) s r) (report_time line (zone_id line) t s) (ledger_of line t s)
          long_is.0 long_is.1 ordered within (way_of line t s one.valid (invariant t) c).room left.lo left.hi told (ledger_of line t s) narrower.0 narrower.1.0 narrower.1.1)
          ∙ cut_is (seg_len line) t (known_train (zone_id line) t s) (longest_route line t s) lo hi (longest_end line t s) (now_with (zone_id line) s r) (report_time line (zone_id line) t s) (ledger_of line t s)
          long_is.0 long_is.1 ordered within (way_of line t s one.valid (invariant t) c).room left.lo left.hi told checked_numbers narrower.0 narrower.1.0 narrower.1.1)

      place_now : place_of_train (seg_len line) (zone_id line) (narrowed_by (seg_len line) time mark offset integrity grown)
          ≡ place_line (seg_len line) (zone_id line) u (longest_route line u.0 s)
          (rear_of line (zone_id line) u.0 s (fronts_behind line (zone_id line) u.0 s (possible_front line (zone_id line) u.0 s) (msg.Report u time mark offset integrity)))
          (last (fronts_behind line (zone_id line) u.0 s (possible_front line (zone_id line) u.0 s) (msg.Report u time mark offset integrity)) (longest_end line u.0 s + 1))
      place_now =
          let n = (fronts_kept line t s u time mark offset integrity ((invariant t).fronts c) uses).numbers in
          ap (λ (y : Controlled). place_of_train (seg_len line) (zone_id line) y) narrowed_now
          ∙ (place_is (seg_len line) t (known_train (zone_id line) t s) (longest_route line t s) lo hi (longest_end line t s) (now_with (zone_id line) s r) (report_time line (zone_id line) t s) (ledger_of line t s)
          long_is.0 long_is.1 ordered within (way_of line t s one.valid (invariant t) c).room left.lo left.hi told (ledger_of line t s) narrower.0 narrower.1.0 narrower.1.1 (zone_id line)
          ∙ (ap (λ (n : ℕ). place_line (seg_len line) (zone_id line) u (longest_route line t s) n left.hi) (sym n.rear)
          ∙ ap (λ (n : ℕ). place_line (seg_len line) (zone_id line) u (longest_route line t s) (rear_of line (zone_id line) t s (fronts_behind line (zone_id line) t s (possible_front line (zone_id line) t s) r)) n) (sym n.greatest)))

  -- a report is used where the way has the mark
  pub used_is : uses_mark (find_controlled u.0 ways) mark ≡ is_used line (zone_id line) u.0 s (possible_front line (zone_id line) u.0 s) (msg.Report u time mark offset integrity)
  used_is = by_test (controls (zone_id line) u.0 s)
      (λ c. ap (λ (y : Option Controlled). uses_mark y mark) (found_grown c) ∙ mark_used c)
      (λ n.
      let none : find_controlled t ways ≡ None = g.found t ∙ ap (λ (y : Option Controlled). mapped (grown_train (now_with (zone_id line) s r)) y) (no_train line t s n) in
      ap (λ (y : Option Controlled). uses_mark y mark) none ∙ sym (rw (itself, n) refl))

  used_controls : is_used line (zone_id line) u.0 s (possible_front line (zone_id line) u.0 s) (msg.Report u time mark offset integrity) ≡ true → controls (zone_id line) u.0 s ≡ true
  used_controls h = let a = and_parts (nat_eq u.0 u.0) _ h in (and_parts (controls (zone_id line) u.0 s) _ a.1).0

  -- what it writes
  pub report_answer : zone_report line (zone_id line) s u (msg.Report u time mark offset integrity)
      ≡ (if uses_mark (find_controlled u.0 ways) mark then place_found (seg_len line) (zone_id line) time mark offset integrity (find_controlled u.0 ways) else nothing)
  report_answer = by_test used
      (λ y.
      let c = used_controls y in
      ap (λ (b : Bool). if b then with_line (place_line (seg_len line) (zone_id line) u (longest_route line t s) rear_now front_now) else nothing) y
      ∙ (sym (ap (λ (w : Option Controlled). place_found (seg_len line) (zone_id line) time mark offset integrity w) (found_grown c) ∙ ap (λ (o : Outcome). with_line o) (place_now c y))
      ∙ sym (ap (λ (b : Bool). if b then place_found (seg_len line) (zone_id line) time mark offset integrity (find_controlled u.0 ways) else nothing) (used_is ∙ y))))
      (λ n.
      ap (λ (b : Bool). if b then with_line (place_line (seg_len line) (zone_id line) u (longest_route line t s) rear_now front_now) else nothing) n
      ∙ sym (ap (λ (b : Bool). if b then place_found (seg_len line) (zone_id line) time mark offset integrity (find_controlled u.0 ways) else nothing) (used_is ∙ n)))
    where
      with_line : Outcome → Effect
      with_line o = record { issued = []; lines = o ∷ [] }

      rear_now : ℕ
      rear_now = rear_of line (zone_id line) t s (fronts_behind line (zone_id line) t s (possible_front line (zone_id line) t s) r)

      front_now : ℕ
      front_now = last (fronts_behind line (zone_id line) t s (possible_front line (zone_id line) t s) r) (longest_end line t s + 1)

  -- and the trains after it
  pub report_found : (e : Effect) → ((v : ℕ) → NoAuth v e.issued) → ((v : ℕ) → Invariant line v (zone_made z number (msg.Report u time mark offset integrity) e ∷ s)) → (v : ℕ)
      → find_controlled v (if uses_mark (find_controlled u.0 ways) mark then change_controlled u.0 (reported_by (seg_len line) time mark offset integrity) ways else ways) ≡ zone_train line v (zone_made z number (msg.Report u time mark offset integrity) e ∷ s)
  report_found e silent after v = by_test used
      (λ y. rw (used_is, y) (by_test (nat_eq u.0 v)
      (λ its. subst (λ (i : ℕ). find_controlled i (change_controlled u.0 (reported_by (seg_len line) time mark offset integrity) ways) ≡ zone_train line i (x e ∷ s)) (eqb-true u.0 v its)
      (let c = used_controls y in
      found_changed t (reported_by (seg_len line) time mark offset integrity) ways (λ w. refl)
      ∙ (ap (λ (w : Option Controlled). mapped (reported_by (seg_len line) time mark offset integrity) w) (found_grown c)
      ∙ (ap (λ (w : Controlled). Some w) (cut_now c y)
      ∙ sym (behind_used line z number u time mark offset integrity e s one zone t (invariant t) (after t) c (and-false (nat_eq (suc z) (zone_id line))) (silent t) y)))))
      (λ o. found_other v u.0 (reported_by (seg_len line) time mark offset integrity) ways (λ w. refl) o ∙ still v (rw o refl))))
      (λ n. rw (used_is, n) (by_test (nat_eq u.0 v)
      (λ its. subst (λ (i : ℕ). find_controlled i ways ≡ zone_train line i (x e ∷ s)) (eqb-true u.0 v its) (still t n))
      (λ o. still v (rw o refl))))
    where
      still : (v : ℕ) → is_used line (zone_id line) v s (possible_front line (zone_id line) v s) (msg.Report u time mark offset integrity) ≡ false → find_controlled v ways ≡ zone_train line v (zone_made z number (msg.Report u time mark offset integrity) e ∷ s)
      still v h = g.found v ∙ sym (zone_silent line z number r e s one zone v (invariant v) (after v) (silent v) (and-false (nat_eq (suc z) (zone_id line))) h refl)
