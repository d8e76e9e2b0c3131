-- The plain state follows a request for entry that the zone grants.
use Rattle.std.proofs.Common.{◌≡◌, ℕ, suc, ◌+◌, ◌-◌, ◌*◌, ◌≤◌, List, [], ◌∷◌, length, Option, Some, None, Bool, true, false, refl, sym, ◌∙◌, ap, subst, arith}
use Rattle.std.proofs.lemmas.Bool.Decides.{nat_tests}
use Rattle.std.proofs.lemmas.Bool.{eqb-true}
use Rattle.std.proofs.Math.Bool.{and-false}
use Rattle.std.specs.Prelude.{nat_eq, nat_le, nat_lt}
use Rattle.list_laws.proofs.Placed.{placed}
use Rattle.list_laws.proofs.By_test.{by_test}
use Rattle.track_points.specs.declared.ids.DirSeg.{DirSeg}
use Rattle.track_points.specs.declared.ids.TrainId.{TrainId}
use Rattle.track_points.specs.Points.{Lengths, total, place_of_last, steps_to, offset_to}
use Rattle.definitions.specs.declared.message.Msg.{Msg}
use Rattle.definitions.specs.declared.message.Msg.TheVariants as msg
use Rattle.definitions.specs.declared.outcome.Outcome.{Outcome}
use Rattle.definitions.specs.Track.{Line, seg_len}
use Rattle.definitions.specs.Ways.{steps_behind}
use Rattle.definitions.specs.Story.{Transition, Story, greatest_in, greatest_issued}
use Rattle.definitions.specs.World.{Authority, route, authority_end, journey, auth_number}
use Rattle.definitions.specs.Control.{grants_entry, controls, Known, known_facts, now_of, now_with, last_issued}
use Rattle.definitions.specs.Fold.{account}
use Rattle.definitions.specs.Longest.{counted, is_pending, longest_end, longest_route}
use Rattle.definitions.specs.Fronts.{report_time}
use Rattle.definitions.specs.Steps.{Effect, entry_path, enter_or_held}
use Rattle.definitions.specs.Safe.{IsLineOfOneZone}
use Rattle.authority_ledger.specs.declared.ledger.Ledger.{Ledger}
use Rattle.authority_ledger.specs.Ledger.{first_ledger}
use Rattle.plain_state.specs.declared.Controlled.{Controlled}
use Rattle.plain_state.specs.Zone.{find_controlled, placed_train, train_at_entry, grown_train}
use Rattle.definitions.specs.Zones.{zone_id}
use Rattle.plain_state.specs.Plain.{Plain}
use Rattle.plain_state.specs.Refinement.{zone_train, Refines}
use Rattle.event_laws.proofs.Issued_all.{AllIn, NoAuth}
use Rattle.event_laws.proofs.Controls_same.{controls_knows, controls_same, controls_now, now_acted}
use Rattle.journey_laws.proofs.Invariant.{end_read, AuthorityIs, Invariant}
use Rattle.journey_laws.proofs.One_route.{last_end}
use Rattle.event_laws.proofs.Account_next.{counted_else, issued_is}
use Rattle.event_laws.proofs.Still_world.{last_still}
use Rattle.step_laws.proofs.Entry_fronts.{known_long}
use Rattle.step_laws.proofs.Ends_narrowed.{ends_entered}
use Rattle.plain_state.proofs.Found_changed.{mapped, found_placed, ids_placed, distinct_placed}
use Rattle.event_laws.proofs.Known_more.{known_more}
use Rattle.refinement_laws.proofs.Way_now.{Grown}
use Rattle.refinement_laws.proofs.Acts_on_sent.{way_steps}
use Rattle.refinement_laws.proofs.Zone_kept.{ledger_of, kept_train, known_asked}
use Rattle.refinement_laws.proofs.Kept_lengthened.{route_kept, route_steps}
use Rattle.refinement_laws.proofs.Zone_idle.{no_train}
use Rattle.refinement_laws.proofs.Zone_moves.{zone_made, zone_heads, ZoneMoves}
use Rattle.refinement_laws.proofs.Zone_still.{zone_silent}
use Rattle.refinement_laws.proofs.Quiet_moves.{steps_most}
use Rattle.refinement_laws.proofs.One_issued.{one_is}

report_entered : (line : Line) (z t : ℕ) (x : Transition) (s : Story) → grants_entry z t x ≡ true → report_time line z t (x ∷ s) ≡ now_of z (x ∷ s)
unfolding report_time
report_entered line z t x s h = rw h refl

-- a train that was kept on its portal segment alone
kept_entered : (len : Lengths) (u : TrainId) (long error speed clock : ℕ) (equipped : Bool) (step : DirSeg) → 1 ≤ long → long ≤ len step.seg.0
    → kept_train len u.0 (record { facts = record { long = long; error = error; speed = speed }; equipped = equipped }) (step ∷ []) long long (len step.seg.0) clock clock first_ledger
    ≡ train_at_entry clock u (len step.seg.0) long error speed equipped step
unfolding steps_behind steps_to offset_to total place_of_last
kept_entered len u long error speed clock equipped step some room =
    let e : long - long ≡ 0 = omega arith in
    let y : nat_lt 0 (len step.seg.0) ≡ true = grind (arith, nat_tests) in
    let k : nat_le (len step.seg.0) (len step.seg.0) ≡ true = grind (arith, nat_tests) in
    let z : long - 0 ≡ long = omega arith in
    rw (e, y, k, z) refl

module _ (line : Line) (z number : ℕ) (u : TrainId) (time long error speed : ℕ) (equipped : Bool) (step : DirSeg) (s : Story) (one : IsLineOfOneZone line) (zone : suc z ≡ zone_id line) (invariant : (t : ℕ) → Invariant line t s)
    (fresh : controls (zone_id line) u.0 s ≡ false) (wide : nat_lt (seg_len line step.seg.0) long ≡ false) (lines : List Outcome) where
  abbrev m : Msg
  m = msg.EntryAsk u time long error speed equipped step

  abbrev t : ℕ
  t = u.0

  abbrev len : ℕ → ℕ
  len = seg_len line

  abbrev pub entered_effect : Effect
  entered_effect = record { issued = (enter_or_held (zone_id line) (seg_len line step.seg.0) u step None).issued; lines = lines }

  abbrev x : Transition
  x = zone_made z number m entered_effect

  abbrev a : Authority
  a = record { mark = 0; path = entry_path step (seg_len line step.seg.0) }

  itself : nat_eq u.0 u.0 ≡ true
  itself = grind (arith, nat_tests)

  here : nat_eq (suc z) (zone_id line) ≡ true
  here = grind (arith, nat_tests)

  grants : grants_entry (zone_id line) u.0 (zone_made z number m entered_effect) ≡ true
  grants = rw (here, itself) refl

  grants_other : (v : ℕ) → nat_eq u.0 v ≡ false → grants_entry (zone_id line) v (zone_made z number m entered_effect) ≡ false
  grants_other v o = rw o (and-false (nat_eq (suc z) (zone_id line)))

  other_silent : (v : ℕ) → nat_eq u.0 v ≡ false → NoAuth v entered_effect.issued
  unfolding AllIn
  other_silent v o = (o, tt)

  none_before : last_issued u.0 s ≡ 0
  none_before = (invariant t).authorized.unknown fresh

  entered_last : last_issued u.0 (zone_made z number m entered_effect ∷ s) ≡ 1
  unfolding greatest_in greatest_issued
  entered_last = let n = none_before in rw itself (omega (arith, n))

  entered_few : (v : ℕ) → greatest_in (auth_number v) entered_effect.issued ≤ last_issued v s + 1
  unfolding greatest_in
  entered_few v = by_test (nat_eq u.0 v) (λ b. rw b (omega arith)) (λ b. rw b (omega arith))

  entered_counted : counted line u.0 (zone_made z number m entered_effect ∷ s) ≡ 0
  entered_counted =
      let c = (invariant t).authorized.counted_most in
      let n = none_before in
      let e = counted_else line t x s (ap (λ (y : ℕ). controls y t s) zone ∙ fresh) in
      omega (arith, c, n, e)

  now_then : now_of (zone_id line) (zone_made z number m entered_effect ∷ s) ≡ now_with (zone_id line) s m
  now_then = now_acted (zone_id line) x s here

  module _ (after : (t : ℕ) → Invariant line t (zone_made z number m entered_effect ∷ s)) where
    c2 : controls (zone_id line) u.0 (zone_made z number m entered_effect ∷ s) ≡ true
    c2 = controls_now (zone_id line) t x s grants

    entered_is : AuthorityIs line u.0 (zone_made z number m entered_effect ∷ s) a
    entered_is =
        let last = last_still t x s refl refl in
        let most = (invariant t).authorized.last_most in
        let n = none_before in
        (one_is line z number m entered_effect s u 1 a refl (after t)).ahead (omega (arith, last, most, n))

    -- it is the only one, so it is no shrink
    entered_idle : is_pending line u.0 (zone_made z number m entered_effect ∷ s) ≡ false
    entered_idle = by_test (is_pending line t (x ∷ s))
        (λ y.
        let g = ((after t).authorized.controlled c2).shrink y in
        let one_below = g.one_below in
        let positive = g.positive in
        let last = entered_last in
        absurd (omega (arith, one_below, positive, last)))
        (λ n. n)

    entered_end : longest_end line u.0 (zone_made z number m entered_effect ∷ s) ≡ authority_end (seg_len line) (journey line u.0 (zone_made z number m entered_effect ∷ s)) a
    entered_end =
        let counts = entered_counted in
        sym (last_end line t (x ∷ s) (after t).authorized c2 entered_idle)
        ∙ (ap (λ (n : ℕ). end_read line t (x ∷ s) n) entered_last ∙ sym ((one_is line z number m entered_effect s u 1 a refl (after t)).exact (omega (arith, counts))))

    entered_ledger : ledger_of line u.0 (zone_made z number m entered_effect ∷ s) ≡ first_ledger
    entered_ledger =
        let issued : (account line t (x ∷ s)).issued ≡ 1 = issued_is line t (x ∷ s) ∙ entered_last in
        let counts : (account line t (x ∷ s)).counted ≡ 0 = entered_counted in
        let idle = entered_idle in
        rw (idle, issued, counts) refl

    entered_at : longest_end line u.0 (zone_made z number m entered_effect ∷ s) ≡ seg_len line step.seg.0
    unfolding total place_of_last
    entered_at = let e = entered_end in omega (arith, e)

    entered_route : route (journey line u.0 (zone_made z number m entered_effect ∷ s)) a ≡ step ∷ []
    entered_route = refl

    entered_own : zone_train line u.0 (zone_made z number m entered_effect ∷ s) ≡ Some (train_at_entry (now_with (zone_id line) s m) u (seg_len line step.seg.0) long error speed equipped step)
    entered_own =
        let ends = ends_entered line t x s ((after t).fronts c2) grants in
        let f : Known = record { facts = record { long = long; error = error; speed = speed }; equipped = equipped } in
        let now_ = now_then in
        let known = known_asked (zone_id line) t x s grants in
        let some = (after t).authorized.long_some ((after t).authorized.controlled c2).declared in
        let same = known_long t (x ∷ s) (known_facts (zone_id line) t (x ∷ s)) ((after t).authorized.controlled c2).facts ∙ ap (λ (q : Known). q.facts.long) known in
        let n = now_of (zone_id line) (x ∷ s) in
        let l = ledger_of line t (x ∷ s) in
        let then = now_with (zone_id line) s m in
        route_kept line t (x ∷ s) one.valid (after t) c2 a entered_is entered_end
        ∙ (ap (λ (q : Known). Some (kept_train len t q (route (journey line t (x ∷ s)) a) ((after t).fronts c2).lo ((after t).fronts c2).hi (longest_end line t (x ∷ s)) n (report_time line (zone_id line) t (x ∷ s)) l)) known
        ∙ (ap (λ (q : List DirSeg). Some (kept_train len t f q ((after t).fronts c2).lo ((after t).fronts c2).hi (longest_end line t (x ∷ s)) n (report_time line (zone_id line) t (x ∷ s)) l)) entered_route
        ∙ (ap (λ (q : ℕ). Some (kept_train len t f (step ∷ []) q ((after t).fronts c2).hi (longest_end line t (x ∷ s)) n (report_time line (zone_id line) t (x ∷ s)) l)) ends.0
        ∙ (ap (λ (q : ℕ). Some (kept_train len t f (step ∷ []) long q (longest_end line t (x ∷ s)) n (report_time line (zone_id line) t (x ∷ s)) l)) ends.1
        ∙ (ap (λ (q : ℕ). Some (kept_train len t f (step ∷ []) long long q n (report_time line (zone_id line) t (x ∷ s)) l)) entered_at
        ∙ (ap (λ (q : ℕ). Some (kept_train len t f (step ∷ []) long long (len step.seg.0) n q l)) (report_entered line (zone_id line) t x s grants)
        ∙ (ap (λ (q : ℕ). Some (kept_train len t f (step ∷ []) long long (len step.seg.0) q q l)) now_
        ∙ (ap (λ (q : Ledger). Some (kept_train len t f (step ∷ []) long long (len step.seg.0) then then q)) entered_ledger
        ∙ ap (λ (q : Controlled). Some q) (kept_entered len u long error speed then equipped step (omega (arith, some, same)) (grind (arith, nat_tests)))))))))))

    pub entered_moves : (p : Plain) (ways : List Controlled) → Refines line s p → Grown line s (now_with (zone_id line) s m) ways
        → ZoneMoves line s (zone_made z number m entered_effect) (placed_train (train_at_entry (now_with (zone_id line) s m) u (seg_len line step.seg.0) long error speed equipped step) ways)
    entered_moves p ways k g =
        let new = train_at_entry (now_with (zone_id line) s m) u (len step.seg.0) long error speed equipped step in
        let none : find_controlled u.0 ways ≡ None = g.found t ∙ ap (λ (y : Option Controlled). mapped (grown_train (now_with (zone_id line) s m)) y) (no_train line t s fresh) in
        record {
          found = λ v. found_placed v new ways none ∙ by_test (nat_eq u.0 v)
              (λ its. rw its (sym (subst (λ (i : ℕ). zone_train line i (x ∷ s) ≡ Some new) (eqb-true u.0 v its) entered_own)))
              (λ o. rw o (g.found v ∙ sym (zone_silent line z number m entered_effect s one zone v (invariant v) (after v) (other_silent v o) (grants_other v o) refl refl)));
          known = ids_placed new ways ∙ (ap (λ (xs : List ℕ). placed u.0 xs) g.known ∙ sym (known_more (zone_id line) x s grants (sym (controls_knows (zone_id line) u.0 s) ∙ fresh)));
          distinct = distinct_placed new ways none g.distinct;
          few = entered_few;
          steps = λ v d. by_test (nat_eq u.0 v)
              (λ its. subst (λ (i : ℕ). length (steps_to (seg_len line) (longest_route line i (x ∷ s)) (longest_end line i (x ∷ s))) ≤ 24 * length (x ∷ s)) (eqb-true u.0 v its)
              (let r = route_steps line t (x ∷ s) one.valid (after t) c2 a entered_is entered_end in omega (arith, r)))
              (λ o.
              let c = sym (controls_same (zone_id line) v x s (grants_other v o)) ∙ d in
              let b = steps_most line v x s (other_silent v o) (invariant v) (after v) c d (zone_heads v z number m entered_effect s) in
              let q = way_steps line s p one k invariant v c in
              omega (arith, b, q));
        }
