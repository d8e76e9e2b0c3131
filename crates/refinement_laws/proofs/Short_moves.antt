-- The plain state follows an order to shorten that the zone takes.
use Rattle.std.proofs.Common.{◌≡◌, ℕ, suc, ◌+◌, ◌-◌, ◌<◌, ◌≤◌, List, [], ◌∷◌, Option, Some, None, Bool, true, false, ◌&&◌, refl, sym, ◌∙◌, ap, subst, arith, not, if◌then◌else◌}
use Rattle.std.proofs.lemmas.Bool.Decides.{nat_tests}
use Rattle.std.proofs.lemmas.Bool.{and_parts}
use Rattle.std.proofs.Math.Bool.{and-false}
use Rattle.std.specs.Prelude.{nat_eq, nat_le, nat_lt, is_some, is_none}
use Rattle.list_laws.proofs.By_test.{by_test}
use Rattle.track_points.specs.declared.ids.DirSeg.{DirSeg}
use Rattle.track_points.specs.declared.ids.TrainId.{TrainId}
use Rattle.track_points.specs.Points.{Lengths, end_place}
use Rattle.definitions.specs.declared.message.Msg.{Msg}
use Rattle.definitions.specs.declared.message.Msg.TheVariants as msg
use Rattle.definitions.specs.declared.message.Order.TheVariants as orders
use Rattle.definitions.specs.declared.outcome.Outcome.{Outcome}
use Rattle.definitions.specs.declared.outcome.ShortRefusal.TheVariants.{Away, Unequipped, Pending, Place}
use Rattle.definitions.specs.Track.{Line, seg_len}
use Rattle.definitions.specs.Ways.{PlainWay, way_between}
use Rattle.definitions.specs.Story.{Transition, Story}
use Rattle.definitions.specs.World.{Authority, authority_end, journey}
use Rattle.definitions.specs.Control.{grants_entry, controls, Known, known_train, known_facts, now_with, last_issued}
use Rattle.definitions.specs.Account.{Account}
use Rattle.definitions.specs.Fold.{account}
use Rattle.definitions.specs.Longest.{is_pending, longest_end, longest_route}
use Rattle.definitions.specs.Fronts.{report_time}
use Rattle.definitions.specs.Authority.{way}
use Rattle.definitions.specs.Steps.{Effect, no_short, path_to, place_of_step, shorten, shorten_at, zone_short, front_after, zone_order}
use Rattle.definitions.specs.Safe.{IsLineOfOneZone}
use Rattle.authority_ledger.specs.declared.ledger.Ledger.{Ledger}
use Rattle.authority_ledger.specs.Ledger.{shorter, shift_end}
use Rattle.plain_state.specs.declared.Controlled.{Controlled}
use Rattle.plain_state.specs.Zone.{find_controlled, change_controlled, shortened, short_found, order_answer, grown_train}
use Rattle.definitions.specs.Zones.{zone_id}
use Rattle.plain_state.specs.Plain.{Plain}
use Rattle.plain_state.specs.Refinement.{zone_train, Refines}
use Rattle.way_laws.proofs.Between_points.{begin_of, behind_from, between_ends}
use Rattle.way_laws.proofs.Between_longer.{between_nearer}
use Rattle.event_laws.proofs.Account_next.{issued_is}
use Rattle.event_laws.proofs.Controls_same.{controls_same}
use Rattle.event_laws.proofs.Issued_all.{NoAuth, no_issue}
use Rattle.event_laws.proofs.Last_quiet.{greatest_none}
use Rattle.journey_laws.proofs.Invariant.{Invariant}
use Rattle.step_laws.proofs.Fronts_numbers.{grown_to, fronts_unused}
use Rattle.plain_state.proofs.Found_changed.{mapped}
use Rattle.refinement_laws.proofs.Way_now.{Grown}
use Rattle.refinement_laws.proofs.Way_of.{way_of}
use Rattle.refinement_laws.proofs.Facts_is.{no_way}
use Rattle.refinement_laws.proofs.Acts_on_sent.{way_steps}
use Rattle.refinement_laws.proofs.Ledger_told.{shrink_told, told_idle, shorter_told}
use Rattle.refinement_laws.proofs.Zone_kept.{ledger_of, kept_train}
use Rattle.refinement_laws.proofs.Kept_short.{shortened_id, shorten_same, unfit_kept, barred_kept, unplaced_kept, refused_kept, shortened_kept}
use Rattle.refinement_laws.proofs.Zone_idle.{no_train}
use Rattle.refinement_laws.proofs.Zone_moves.{zone_made, zone_heads, ZoneMoves}
use Rattle.refinement_laws.proofs.Zone_still.{steps_same, grown_is, uncut, controlled_still, behind_unused, zone_silent}
use Rattle.refinement_laws.proofs.Quiet_moves.{steps_most, changed_moves}
use Rattle.refinement_laws.proofs.One_issued.{one_silent, one_few, one_end, one_last, one_counted, one_shorter}
use Rattle.refinement_laws.proofs.Again_moves.{way_ends}

-- whether a shrink is kept is whether one is unanswered
some_told : (len : Lengths) (steps : List DirSeg) (start : ℕ) (v : Account) → is_some (shift_end start (shrink_told len steps v)) ≡ nat_lt 0 v.shrink
some_told len steps start v = by_test (nat_lt 0 v.shrink) (λ y. rw y refl) (λ n. rw n refl)

none_told : (len : Lengths) (steps : List DirSeg) (v : Account) → nat_lt 0 v.shrink ≡ true → is_none (shrink_told len steps v) ≡ false
none_told len steps v y = rw y refl

module _ (line : Line) (z number : ℕ) (u : TrainId) (time : ℕ) (st : DirSeg) (off : ℕ) (s : Story) (one : IsLineOfOneZone line) (invariant : (t : ℕ) → Invariant line t s)
    (ways : List Controlled) (g : Grown line s (now_with (zone_id line) s (msg.Order time (orders.Short u st off))) ways) where
  abbrev m : Msg
  m = msg.Order time (orders.Short u st off)

  abbrev t : ℕ
  t = u.0

  abbrev len : Lengths
  len = seg_len line

  -- of a train that the zone controls
  module _ (c : controls (zone_id line) u.0 s ≡ true) where
    abbrev lo : ℕ
    lo = ((invariant t).fronts c).lo

    abbrev hi : ℕ
    hi = grown_to line t s m ((invariant t).fronts c).hi

    abbrev known : Known
    known = known_train (zone_id line) t s

    abbrev rear : ℕ
    rear = lo - (known_facts (zone_id line) t s).long

    abbrev route : List DirSeg
    route = longest_route line t s

    abbrev begin : ℕ
    begin = begin_of (seg_len line) route rear

    abbrev w : PlainWay
    w = way_between (seg_len line) route rear (longest_end line t s)

    abbrev grown : Controlled
    grown = kept_train (seg_len line) t known route lo hi (longest_end line t s) (now_with (zone_id line) s m) (report_time line (zone_id line) t s) (ledger_of line t s)

    found_grown : find_controlled u.0 ways ≡ Some grown
    found_grown = g.found t ∙ grown_is line m s t one (invariant t) c

    -- the greatest front is the one that has grown
    front_is : front_after line (zone_id line) u.0 s m ≡ hi
    front_is = (fronts_unused line t s m ((invariant t).fronts c) refl refl).greatest

    begins : begin_of (seg_len line) route rear ≤ hi
    begins =
        let b = behind_from len route rear in
        let o = (fronts_unused line t s m ((invariant t).fronts c) refl refl).ordered in
        omega (arith, b, o)

    found_is : zone_short line (zone_id line) s u (front_after line (zone_id line) u.0 s m) (way line (zone_id line) u.0 s) st off ≡ short_found (seg_len line) (zone_id line) u (Some grown) st off
    found_is =
        let z0 = zone_id line in
        ap (λ (o : Option PlainWay). zone_short line z0 s u (front_after line z0 t s m) o st off) (way_of line t s one.valid (invariant t) c).is
        ∙ (ap (λ (n : ℕ). by_numbers (is_pending line t s) (last_issued t s) n begin) front_is
        ∙ (ap (λ (e : Effect). by_place (is_pending line t s) e) (shorten_same len z0 u (last_issued t s + 1) w begin hi begins (place_of_step len w.path.steps.items st off))
        ∙ (ap (λ (n : ℕ). by_numbers (is_pending line t s) n (hi - begin) 0) (sym (issued_is line t s))
        ∙ ap (λ (b : Bool). by_numbers b (account line t s).issued (hi - begin) 0) (sym (some_told len (journey line t s) begin (account line t s))))))
      where
        by_place : Bool → Effect → Effect
        by_place pending e = if not (known_train (zone_id line) t s).equipped then no_short (zone_id line) u Unequipped else if pending then no_short (zone_id line) u Pending else e

        by_numbers : Bool → ℕ → ℕ → ℕ → Effect
        by_numbers pending last front start = by_place pending (shorten_at (seg_len line) (zone_id line) u (last + 1) w start front (place_of_step (seg_len line) w.path.steps.items st off))

  -- what it gives
  pub short_answer : zone_order line (zone_id line) s (msg.Order time (orders.Short u st off)) (orders.Short u st off) ≡ order_answer (seg_len line) (zone_id line) ways (orders.Short u st off)
  short_answer = by_test (controls (zone_id line) u.0 s)
      (λ c. found_is c ∙ sym (ap (λ (y : Option Controlled). short_found len (zone_id line) u y st off) (found_grown c)))
      (λ o.
      let none : find_controlled t ways ≡ None = g.found t ∙ ap (λ (y : Option Controlled). mapped (grown_train (now_with (zone_id line) s m)) y) (no_train line t s o) in
      ap (λ (y : Option PlainWay). zone_short line (zone_id line) s u (front_after line (zone_id line) t s m) y st off) (no_way line (zone_id line) t s o)
      ∙ sym (ap (λ (y : Option Controlled). short_found len (zone_id line) u y st off) none))

  -- The trains after it.
  module _ (zone : suc z ≡ zone_id line) (lines : List Outcome) (p : Plain) (k : Refines line s p) where
    -- what an effect issues, with any lines
    abbrev given : Effect → Effect
    given e = record { issued = e.issued; lines = lines }

    abbrev AfterAll : Effect → Type 0
    AfterAll e = (v : ℕ) → Invariant line v (zone_made z number m (given e) ∷ s)

    abbrev Moves : Effect → Type 0
    Moves e = ZoneMoves line s (zone_made z number m (given e)) (change_controlled u.0 (shortened (seg_len line) st off) ways)

    grants : (e : Effect) (v : ℕ) → grants_entry (zone_id line) v (zone_made z number m (given e)) ≡ false
    grants e v = and-false (nat_eq (suc z) (zone_id line))

    -- where it is refused
    refused : (e : Effect) → e.issued ≡ [] → AfterAll e
        → mapped (shortened (seg_len line) st off) (mapped (grown_train (now_with (zone_id line) s m)) (zone_train line u.0 s)) ≡ mapped (grown_train (now_with (zone_id line) s m)) (zone_train line u.0 s) → Moves e
    refused e is after same =
        let silent : (v : ℕ) → NoAuth v e.issued = λ v. no_issue v e.issued is in
        let x : Transition = zone_made z number m (given e) in
        changed_moves line z number m (given e) s one zone invariant after u (λ v o. silent v) (grants e) (λ v o. refl) (λ v o. refl) p ways k g (shortened len st off) (shortened_id len st off)
        (zone_silent line z number m (given e) s one zone t (invariant t) (after t) (silent t) (grants e t) refl refl ∙ sym same)
        (λ v. let n = greatest_none v e.issued (silent v) in omega (arith, n))
        (λ d.
        let c = sym (controls_same (zone_id line) t x s (grants e t)) ∙ d in
        let most = steps_most line t x s (silent t) (invariant t) (after t) c d (zone_heads t z number m (given e) s) in
        let few = way_steps line s p one k invariant t c in
        omega (arith, most, few))

    -- where it is not
    module _ (c : controls (zone_id line) u.0 s ≡ true) (fit : (known_train (zone_id line) u.0 s).equipped ≡ true) (idle : is_pending line u.0 s ≡ false) (q : ℕ) (is : place_of_step (seg_len line) (w c).path.steps.items st off ≡ Some q)
        (test : (nat_le (hi c) (begin c + q) && nat_lt q (end_place (seg_len line) (w c).path)) ≡ true) (after : AfterAll (shorten (seg_len line) (zone_id line) u (last_issued u.0 s + 1) (w c) q)) where
      abbrev e : Effect
      e = given (shorten (seg_len line) (zone_id line) u (last_issued u.0 s + 1) (w c) q)

      abbrev x : Transition
      x = zone_made z number m e

      abbrev a : Authority
      a = record { mark = (w c).mark; path = path_to (seg_len line) (w c).path.from (w c).path.steps.items q }

      -- where it ends on the route
      abbrev place : ℕ
      place = begin c + q

      c2 : controls (zone_id line) u.0 (zone_made z number m e ∷ s) ≡ true
      c2 = controlled_still line z number m e s one zone t (invariant t) (after t) c (grants (shorten len (zone_id line) u (last_issued t s + 1) (w c) q) t)

      between : (rear c < place) × (place < longest_end line u.0 s)
      between =
          let v = way_of line t s one.valid (invariant t) c in
          let order = v.order in
          let ordered = v.ordered in
          let within = v.within in
          let f = (fronts_unused line t s m ((invariant t).fronts c) refl refl).ordered in
          let ends = between_ends len (route c) (rear c) (longest_end line t s) (omega (arith, order, ordered, within)) v.room in
          let one_test = and_parts (nat_le (hi c) place) (nat_lt q (end_place len (w c).path)) test in
          let ahead = one_test.0 in
          let before = one_test.1 in
          (grind (arith, nat_tests), grind (arith, nat_tests))

      ends : authority_end (seg_len line) (journey line u.0 s) a ≡ place
      ends =
          let r = between.0 in
          let b = between.1 in
          ap (λ (v : PlainWay). authority_end len (journey line t s) (record { mark = v.mark; path = v.path })) (between_nearer len (route c) (rear c) (longest_end line t s) q r (omega (arith, b)))
          ∙ way_ends line t s one (invariant t) c place r (omega (arith, b))

      end_still : longest_end line u.0 (zone_made z number m e ∷ s) ≡ longest_end line u.0 s
      end_still =
          let i = ends in
          let b = between.1 in
          one_end line z number m e s u (last_issued t s + 1) a refl (after t) (invariant t) c c2 (uncut line z number m e s one zone t (invariant t) (after t) refl) (omega (arith, i, b))

      ledger_next : ledger_of line u.0 (zone_made z number m e ∷ s) ≡ shorter place (ledger_of line u.0 s)
      ledger_next =
          let i = ends in
          let b = between.1 in
          let n = one_shorter line z number m e s zone u a refl (invariant t) (after t) c2 end_still (omega (arith, i, b)) in
          let n0 = n.0 in
          let last = one_last line z number m e s zone u a refl (invariant t) (after t) in
          let before = issued_is line t s in
          let behind = issued_is line t (x ∷ s) in
          shorter_told len (journey line t s) (journey line t (x ∷ s)) (account line t s) (account line t (x ∷ s)) place (omega (arith, last, before, behind))
          (one_counted line z number m e s zone u a refl (invariant t) (after t) c (grants (shorten len (zone_id line) u (last_issued t s + 1) (w c) q) t) refl refl refl) idle (omega (arith, n0, before)) (n.1 ∙ i)

      own : zone_train line u.0 (zone_made z number m e ∷ s) ≡ mapped (shortened (seg_len line) st off) (mapped (grown_train (now_with (zone_id line) s m)) (zone_train line u.0 s))
      own =
          let now_ = now_with (zone_id line) s m in
          let rep = report_time line (zone_id line) t s in
          behind_unused line z number m e s one zone t (invariant t) (after t) c (grants (shorten len (zone_id line) u (last_issued t s + 1) (w c) q) t) refl end_still refl
          ∙ (ap (λ (l : Ledger). Some (kept_train len t (known c) (route c) (lo c) (hi c) (longest_end line t s) now_ rep l)) ledger_next
          ∙ (ap (λ (y : Controlled). Some y) (sym (shortened_kept len t (known c) (route c) (lo c) (hi c) (longest_end line t s) now_ rep (ledger_of line t s) st off fit (told_idle len (journey line t s) (account line t s) idle) q is (begins c) test))
          ∙ sym (ap (λ (y : Option Controlled). mapped (shortened len st off) y) (grown_is line m s t one (invariant t) c))))

      shorten_moves : Moves (shorten (seg_len line) (zone_id line) u (last_issued u.0 s + 1) (w c) q)
      shorten_moves =
          changed_moves line z number m e s one zone invariant after u (one_silent u (last_issued t s + 1) a e.issued refl) (grants (shorten len (zone_id line) u (last_issued t s + 1) (w c) q)) (λ v o. refl) (λ v o. refl) p ways k g
          (shortened len st off) (shortened_id len st off) own (one_few u (last_issued t s + 1) a e.issued refl s (omega arith))
          (λ d.
          let same = steps_same line t x s (invariant t) (after t) c c2 (zone_heads t z number m e s) (uncut line z number m e s one zone t (invariant t) (after t) refl) end_still in
          let few = way_steps line s p one k invariant t c in
          omega (arith, same, few))

    -- whatever comes of it
    module _ (c : controls (zone_id line) u.0 s ≡ true) where
      kept_still : shortened (seg_len line) st off (grown c) ≡ grown c
          → mapped (shortened (seg_len line) st off) (mapped (grown_train (now_with (zone_id line) s m)) (zone_train line u.0 s)) ≡ mapped (grown_train (now_with (zone_id line) s m)) (zone_train line u.0 s)
      kept_still same =
          let is = grown_is line m s t one (invariant t) c in
          ap (λ (y : Option Controlled). mapped (shortened len st off) y) is ∙ (ap (λ (y : Controlled). Some y) same ∙ sym is)

      abbrev now_ : ℕ
      now_ = now_with (zone_id line) s m

      abbrev rep : ℕ
      rep = report_time line (zone_id line) t s

      abbrev number_next : ℕ
      number_next = last_issued t s + 1

      by_place : (known_train (zone_id line) u.0 s).equipped ≡ true → is_pending line u.0 s ≡ false → (o : Option ℕ) → place_of_step (seg_len line) (w c).path.steps.items st off ≡ o
          → AfterAll (shorten_at (seg_len line) (zone_id line) u number_next (w c) (begin c) (hi c) o) → Moves (shorten_at (seg_len line) (zone_id line) u number_next (w c) (begin c) (hi c) o)
      by_place fit idle None is after =
          refused (shorten_at len (zone_id line) u number_next (w c) (begin c) (hi c) None) refl after
          (kept_still (unplaced_kept len t (known c) (route c) (lo c) (hi c) (longest_end line t s) now_ rep (ledger_of line t s) st off fit (told_idle len (journey line t s) (account line t s) idle) is))
      by_place fit idle (Some q) is after = by_test (nat_le (hi c) (begin c + q) && nat_lt q (end_place len (w c).path))
          (λ y. rw y (shorten_moves c fit idle q is y (λ v. rw y at (after v))))
          (λ n. rw n (refused (no_short (zone_id line) u Place) refl (λ v. rw n at (after v))
          (kept_still (refused_kept len t (known c) (route c) (lo c) (hi c) (longest_end line t s) now_ rep (ledger_of line t s) st off fit (told_idle len (journey line t s) (account line t s) idle) q is (begins c) n))))

      controlled_moves : AfterAll (zone_short line (zone_id line) s u (hi c) (Some (w c)) st off) → Moves (zone_short line (zone_id line) s u (hi c) (Some (w c)) st off)
      controlled_moves after = by_test (known_train (zone_id line) t s).equipped
          (λ fit. by_test (is_pending line t s)
          (λ y. rw (fit, y) (refused (no_short (zone_id line) u Pending) refl (λ v. rw (fit, y) at (after v))
          (kept_still (barred_kept len t (known c) (route c) (lo c) (hi c) (longest_end line t s) now_ rep (ledger_of line t s) st off fit (none_told len (journey line t s) (account line t s) y)))))
          (λ idle. rw (fit, idle) (by_place fit idle (place_of_step len (w c).path.steps.items st off) refl (λ v. rw (fit, idle) at (after v)))))
          (λ unfit. rw unfit (refused (no_short (zone_id line) u Unequipped) refl (λ v. rw unfit at (after v))
          (kept_still (unfit_kept len t (known c) (route c) (lo c) (hi c) (longest_end line t s) now_ rep (ledger_of line t s) st off unfit))))

    pub short_moves : AfterAll (zone_short line (zone_id line) s u (front_after line (zone_id line) u.0 s m) (way line (zone_id line) u.0 s) st off)
        → Moves (zone_short line (zone_id line) s u (front_after line (zone_id line) u.0 s m) (way line (zone_id line) u.0 s) st off)
    short_moves = by_test (controls (zone_id line) u.0 s)
        (λ c.
        subst (λ (o : Option PlainWay). AfterAll (zone_short line (zone_id line) s u (front_after line (zone_id line) t s m) o st off) → Moves (zone_short line (zone_id line) s u (front_after line (zone_id line) t s m) o st off))
        (sym ((way_of line t s one.valid (invariant t) c).is))
        (subst (λ (n : ℕ). AfterAll (zone_short line (zone_id line) s u n (Some (w c)) st off) → Moves (zone_short line (zone_id line) s u n (Some (w c)) st off)) (sym (front_is c)) (controlled_moves c)))
        (λ o.
        subst (λ (y : Option PlainWay). AfterAll (zone_short line (zone_id line) s u (front_after line (zone_id line) t s m) y st off) → Moves (zone_short line (zone_id line) s u (front_after line (zone_id line) t s m) y st off))
        (sym (no_way line (zone_id line) t s o))
        (λ after. refused (no_short (zone_id line) u Away) refl after (ap (λ (y : Option Controlled). mapped (shortened len st off) (mapped (grown_train (now_with (zone_id line) s m)) y)) (no_train line t s o)
        ∙ sym (ap (λ (y : Option Controlled). mapped (grown_train (now_with (zone_id line) s m)) y) (no_train line t s o)))))
