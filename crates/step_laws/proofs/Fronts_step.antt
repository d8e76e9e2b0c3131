-- Fronts are kept by every event: they stay a range that covers where the train was at the zone's Now.
use Rattle.std.proofs.Common.{min, ◌≡◌, ℕ, ◌+◌, ◌-◌, ◌<◌, ◌≤◌, max, [], ◌∷◌, length, take, Option, Some, None, Bool, true, false, ◌&&◌, refl, sym, ◌∙◌, ap, subst, arith}
use Rattle.std.proofs.lemmas.Bool.Decides.{nat_tests}
use Rattle.std.proofs.lemmas.Int.{ints}
use Rattle.std.specs.Prelude.{ℤ, pos, ◌+ℤ◌, nat_eq, nat_le, nat_lt}
use Rattle.std.specs.Int.Signed.{le_z}
use Rattle.std.proofs.lemmas.Bool.{and_parts}
use Rattle.list_laws.proofs.By_test.{by_test}
use Rattle.track_points.specs.declared.ids.TrainId.{TrainId}
use Rattle.track_points.specs.Points.{total}
use Rattle.envelope.specs.Fronts.{farthest_move, kept}
use Rattle.envelope.proofs.Range_hull.{IsRange}
use Rattle.definitions.specs.Farther.{on_way}
use Rattle.definitions.specs.declared.event.Event.{Event}
use Rattle.definitions.specs.declared.message.Msg.{Msg}
use Rattle.definitions.specs.declared.message.Msg.TheVariants as msg
use Rattle.definitions.specs.Track.{Line, seg_len}
use Rattle.definitions.specs.Story.{Transition, Story}
use Rattle.definitions.specs.World.{clock, was_moment, long_of, error_of, entered}
use Rattle.definitions.specs.Control.{grants_entry, controls, known_facts, now_of, now_with, message_time, took_time}
use Rattle.definitions.specs.Longest.{longest_end, longest_route}
use Rattle.definitions.specs.Fronts.{possible_front, grown_fronts, fronts_behind, fronts_taken, rear_of, is_used}
use Rattle.definitions.specs.Safe.{IsLineOfOneZone}
use Rattle.definitions.specs.Steps.{effects}
use Rattle.definitions.specs.Zones.{zone_id}
use Rattle.event_laws.proofs.Admitted.{Admitted}
use Rattle.event_laws.proofs.Moment_most.{moment_most, moment_zero}
use Rattle.event_laws.proofs.Facts_stay.{long_stays, entered_stays}
use Rattle.journey_laws.proofs.Motion.{place_at, Motion, Timed, place_stays}
use Rattle.journey_laws.proofs.Invariant.{step_begin, ReportIs, ReportTrue, FrontsAre, ControlIs, Authorized, Invariant}
use Rattle.event_laws.proofs.By_does.{took_issued, effect_took}
use Rattle.step_laws.proofs.Head_place.{place_within, longest_mark}
use Rattle.definitions.specs.World.{journey}
use Rattle.definitions.specs.Account.{ruled, shrink_end}
use Rattle.definitions.specs.Fold.{account, by_answer}
use Rattle.journey_laws.proofs.Motion.{place}
use Rattle.step_laws.proofs.Ruled_is.{ruled_is}
use Rattle.step_laws.proofs.Report_ruled.{cut_ruled, true_kept}
use Rattle.step_laws.proofs.Taken_counts.{takes_some, cuts}
use Rattle.step_laws.proofs.Fronts_numbers.{takes_by, grown_to, fronts_grown, fronts_unused, named_place, moved_since, fronts_left, fronts_kept}
use Rattle.event_laws.proofs.Account_next.{fronts_idle, fronts_acted}
use Rattle.event_laws.proofs.Controls_same.{now_idle, now_acted, controls_before}
use Rattle.step_laws.proofs.Entry_fronts.{known_speed, known_error, entry_fronts}

-- an estimate from where a step begins
estimate : (begin other was error same : ℕ) (offset : ℤ) → other ≡ begin → error ≡ same → le_z (pos begin +ℤ offset) (pos (was + error)) ≡ true → le_z (pos was) (pos (begin + error) +ℤ offset) ≡ true
    → (le_z (pos other +ℤ offset) (pos (was + same)) ≡ true) × (le_z (pos was) (pos other +ℤ offset +ℤ pos same) ≡ true)
estimate begin other was error same offset b e least most = (grind (arith, ints, nat_tests), grind (arith, ints, nat_tests))

between : (lo hi p : ℕ) → lo ≤ p → p ≤ hi → (nat_le lo p && nat_le p hi) ≡ true
between lo hi p a b = grind (arith, nat_tests)

within_ends : (lo hi p : ℕ) → (nat_le lo p && nat_le p hi) ≡ true → (lo ≤ p) × (p ≤ hi)
within_ends lo hi p h = (grind (arith, nat_tests), grind (arith, nat_tests))

-- a train that its zone controls, and an event that does not grant its entry
module _ (line : Line) (s : Story) (e : Event) (t : ℕ) (one : IsLineOfOneZone line) (admitted : Admitted line s e) (timed : Timed s)
    (invariant : Invariant line t s) (grows : cuts line t (effects line s e) s ≡ false → longest_end line t s ≤ longest_end line t (effects line s e ∷ s))
    (cut : cuts line t (effects line s e) s ≡ true → (place t s ≤ shrink_end (seg_len line) (journey line t s) (account line t s)) × (shrink_end (seg_len line) (journey line t s) (account line t s) ≤ longest_end line t (effects line s e ∷ s)))
    (controlled : controls (zone_id line) t s ≡ true) (none : grants_entry (zone_id line) t (effects line s e) ≡ false) where
  abbrev z : ℕ
  z = zone_id line

  abbrev x : Transition
  x = effects line s e

  abbrev fronts : FrontsAre line t s
  fronts = invariant.fronts controlled

  abbrev facts_are : ControlIs line t s
  facts_are = invariant.authorized.controlled controlled

  long_same : long_of t (effects line s e ∷ s) ≡ long_of t s
  long_same = long_stays t x s facts_are.declared

  was_off : entered t (effects line s e ∷ s) ≡ false → entered t s ≡ false
  was_off off = by_test (entered t s)
      (λ y. absurd (let c : true ≡ false = sym (entered_stays t x s y) ∙ off in cc))
      (λ n. n)

  stays_at : (ms : ℕ) → was_moment ms s ≡ true → place_at t ms (effects line s e ∷ s) ≡ place_at t ms s
  stays_at ms h = place_stays line t ms s e admitted invariant.motion facts_are.declared (moment_most ms s h)

  -- fronts that are a range within those before, or within the longest end, and cover where the train was
  covering : (lo hi : ℕ) → IsRange (possible_front line (zone_id line) t (effects line s e ∷ s)) lo hi → fronts.lo ≤ lo → lo ≤ hi → hi ≤ longest_end line t (effects line s e ∷ s)
      → lo ≤ place_at t (now_of (zone_id line) (effects line s e ∷ s)) (effects line s e ∷ s) → place_at t (now_of (zone_id line) (effects line s e ∷ s)) (effects line s e ∷ s) ≤ hi
      → (entered t s ≡ false → lo ≡ fronts.lo) → FrontsAre line t (effects line s e ∷ s)
  covering lo hi r l o w low high early =
      let same = long_same in
      let long = fronts.long in
      record {
        lo = lo;
        hi = hi;
        is = r.is;
        ordered = o;
        within = w;
        long = omega (arith, same, long, l);
        low = low;
        high = high;
        early = λ off. early (was_off off) ∙ (fronts.early (was_off off) ∙ sym same);
      }

  -- where neither the fronts nor Now change
  same_fronts : cuts line t (effects line s e) s ≡ false → ((f : ℕ) → possible_front line (zone_id line) t (effects line s e ∷ s) f ≡ possible_front line (zone_id line) t s f)
      → now_of (zone_id line) (effects line s e ∷ s) ≡ now_of (zone_id line) s → FrontsAre line t (effects line s e ∷ s)
  same_fronts no_taker same now_ =
      let grown_end = grows no_taker in
      let w = fronts.within in
      let p : place_at t (now_of z (x ∷ s)) (x ∷ s) ≡ place_at t (now_of z s) s = ap (λ (ms : ℕ). place_at t ms (x ∷ s)) now_ ∙ stays_at (now_of z s) (timed.nows z) in
      let low = fronts.low in
      let high = fronts.high in
      covering fronts.lo fronts.hi (record { is = λ f. same f ∙ fronts.is f }) (omega arith) fronts.ordered (omega (arith, w, grown_end)) (omega (arith, p, low)) (omega (arith, p, high)) (λ off. refl)

  -- a message taken
  module _ (from : ℕ) (n : Msg) (took : (effects line s e).took ≡ Some (from, n)) (acts : nat_eq (effects line s e).actor (zone_id line) ≡ true) where
    now_is : now_of (zone_id line) (effects line s e ∷ s) ≡ now_with (zone_id line) s n
    now_is = now_acted z x s acts ∙ ap (λ (o : Option (ℕ × Msg)). max (now_of z s) (took_time o)) took

    fronts_next : (f : ℕ) → possible_front line (zone_id line) t (effects line s e ∷ s) f ≡ fronts_behind line (zone_id line) t s (possible_front line (zone_id line) t s) n f
    fronts_next f = fronts_acted line t x s z f none acts controlled ∙ ap (λ (o : Option (ℕ × Msg)). fronts_taken line z t s (possible_front line z t s) o f) took

    time_was : was_moment (message_time n) s ≡ true
    time_was = subst (λ (o : Option (ℕ × Msg)). was_moment (took_time o) s ≡ true) took (effect_took (λ ms. was_moment ms s ≡ true) line s (moment_zero s) timed.messages e)

    next_was : was_moment (now_with (zone_id line) s n) s ≡ true
    next_was = by_test (nat_le (now_of z s) (message_time n))
        (λ y. let a : now_with z s n ≡ message_time n = grind (arith, nat_tests) in rw a time_was)
        (λ y. let a : now_with z s n ≡ now_of z s = grind (arith, nat_tests) in rw a (timed.nows z))

    -- where the train was at the new Now
    at_is : place_at t (now_of (zone_id line) (effects line s e ∷ s)) (effects line s e ∷ s) ≡ place_at t (now_with (zone_id line) s n) s
    at_is = ap (λ (ms : ℕ). place_at t ms (x ∷ s)) now_is ∙ stays_at (now_with z s n) next_was

    at_within : place_at t (now_with (zone_id line) s n) s ≤ longest_end line t s
    at_within =
        let f = invariant.motion.forward (now_with z s n) (clock s) (moment_most (now_with z s n) s next_was) in
        let p = invariant.motion.now_place in
        let w = place_within line t s one.valid invariant controlled in
        omega (arith, f, p, w)

    at_least : fronts.lo ≤ place_at t (now_with (zone_id line) s n) s
    at_least =
        let f = invariant.motion.forward (now_of z s) (now_with z s n) (omega arith) in
        let low = fronts.low in
        omega (arith, f, low)

    slow_from : (ms : ℕ) → was_moment ms s ≡ true → ms ≤ now_with (zone_id line) s n
        → place_at t (now_with (zone_id line) s n) s ≤ place_at t ms s + farthest_move (known_facts (zone_id line) t s).speed (now_with (zone_id line) s n - ms)
    slow_from ms was h =
        subst (λ (v : ℕ). place_at t (now_with z s n) s ≤ place_at t ms s + farthest_move v (now_with z s n - ms)) (known_speed t s (known_facts z t s) facts_are.facts)
        (invariant.motion.slow ms (now_with z s n) was next_was h)

    at_most : place_at t (now_with (zone_id line) s n) s ≤ grown_to line t s n fronts.hi
    at_most =
        let f = slow_from (now_of z s) (timed.nows z) (omega arith) in
        let high = fronts.high in
        let w = at_within in
        omega (arith, f, high, w)

    none_takes : takes_by t (account line t s) n ≡ false → cuts line t (effects line s e) s ≡ false
    none_takes h = let k = ap (takes_some t (account line t s)) took ∙ h in rw (acts, k) refl

    fronts_grow : is_used line (zone_id line) t s (possible_front line (zone_id line) t s) n ≡ false → takes_by t (account line t s) n ≡ false → FrontsAre line t (effects line s e ∷ s)
    fronts_grow h no_taker =
        let g = fronts_unused line t s n fronts h no_taker in
        let grown_end = grows (none_takes no_taker) in
        let gw = g.within in
        let p = at_is in
        let a = at_least in
        let b = at_most in
        let r = g.is in
        covering fronts.lo (grown_to line t s n fronts.hi) (record { is = λ f. fronts_next f ∙ r.is f }) (omega arith) g.ordered (omega (arith, gw, grown_end)) (omega (arith, p, a)) (omega (arith, p, b)) (λ off. refl)

    -- the answer that takes the shrink
    fronts_shrunk : is_used line (zone_id line) t s (possible_front line (zone_id line) t s) n ≡ false → takes_by t (account line t s) n ≡ true
        → ((fr : ℕ → Bool) → by_answer (seg_len line) (journey line t s) t (longest_end line t s) (account line t s) fr n ≡ ruled (longest_end line t s) (λ p. nat_le p (shrink_end (seg_len line) (journey line t s) (account line t s))) fr)
        → FrontsAre line t (effects line s e ∷ s)
    fronts_shrunk h taker shape =
        let x0 = shrink_end (seg_len line) (journey line t s) (account line t s) in
        let g = fronts_grown line t s n fronts in
        let top = grown_to line t s n fronts.hi in
        let c = cut (let k = ap (takes_some t (account line t s)) took ∙ taker in rw (acts, k) refl) in
        let c0 = c.0 in
        let c1 = c.1 in
        let p = at_is in
        let a = at_least in
        let b = at_most in
        let f = invariant.motion.forward (now_with z s n) (clock s) (moment_most (now_with z s n) s next_was) in
        let q = invariant.motion.now_place in
        let go = g.ordered in
        let r = cut_ruled (longest_end line t s) (λ p. nat_le p x0) (grown_fronts line z t s (possible_front line z t s) n) fronts.lo top g.is g.ordered g.within x0 refl (omega (arith, a, f, q, c0)) in
        let u = shape (grown_fronts line z t s (possible_front line z t s) n) in
        covering fronts.lo (min top x0) (record { is = λ y. fronts_next y ∙ (rw (h, u) (r.is y)) }) (omega arith) (omega (arith, go, a, f, q, c0)) (omega (arith, c1)) (omega (arith, p, a)) (omega (arith, p, b, f, q, c0)) (λ off. refl)

  -- a used report
  module _ (from : ℕ) (u : TrainId) (time mark : ℕ) (offset : ℤ) (integrity : Bool) (took : (effects line s e).took ≡ Some (from, msg.Report u time mark offset integrity))
      (acts : nat_eq (effects line s e).actor (zone_id line) ≡ true)
      (used : is_used line (zone_id line) t s (possible_front line (zone_id line) t s) (msg.Report u time mark offset integrity) ≡ true) where
    abbrev report : Msg
    report = msg.Report u time mark offset integrity

    -- what makes it a used one
    on_the_way : (nat_eq u.0 t ≡ true) × (mark < length (longest_route line t s))
    on_the_way =
        let way = on_way (seg_len line) (longest_route line t s) (rear_of line z t s (possible_front line z t s)) (longest_end line t s) mark in
        let a = and_parts (nat_eq u.0 t) (controls z t s && way) used in
        let b = and_parts (controls z t s) way a.1 in
        (a.0, marked (length (longest_route line t s)) _ b.1)
      where
        marked : (k : ℕ) (b : Bool) → (nat_lt mark k && b) ≡ true → mark < k
        marked k b h = let y = and_parts (nat_lt mark k) b h in let t = y.0 in grind (arith, nat_tests)

    report_is : ReportIs line t s time mark offset
    report_is = took_issued (ReportTrue line t s) line s invariant.reports e from report took on_the_way.0

    -- the place that it names is as near to where the train was as the train knows
    near : (le_z (named_place line t s mark offset) (pos (place_at t time s + (known_facts (zone_id line) t s).error)) ≡ true)
        × (le_z (pos (place_at t time s)) (named_place line t s mark offset +ℤ pos (known_facts (zone_id line) t s).error) ≡ true)
    near =
        let r = report_is in
        estimate (step_begin line t s mark) (total (seg_len line) (take mark (longest_route line t s))) (place_at t time s) (error_of t s) (known_facts z t s).error offset
        (longest_mark line t s one.valid invariant controlled mark r.reached) (known_error t s (known_facts z t s) facts_are.facts) r.least r.most

    left_true : kept (grown_fronts line (zone_id line) t s (possible_front line (zone_id line) t s) (msg.Report u time mark offset integrity))
        (named_place line t s mark offset) (known_facts (zone_id line) t s).error (moved_since line t s (msg.Report u time mark offset integrity) time) integrity
        (place_at t (now_with (zone_id line) s (msg.Report u time mark offset integrity)) s) ≡ true
    left_true =
        let p = place_at t (now_with z s report) s in
        let g = fronts_grown line t s report fronts in
        let r = g.is.is p in
        let a = at_least from report took acts in
        let b = at_most from report took acts in
        let h : time ≤ now_with z s report = omega arith in
        let was = time_was from report took acts in
        true_kept (grown_fronts line z t s (possible_front line z t s) report) (named_place line t s mark offset) (known_facts z t s).error (moved_since line t s report time) integrity
        (place_at t time s) p (r ∙ between fronts.lo (grown_to line t s report fronts.hi) p a b) near.0 near.1
        (invariant.motion.forward time (now_with z s report) h) (slow_from from report took acts time was h)

    left_at : fronts_behind line (zone_id line) t s (possible_front line (zone_id line) t s) (msg.Report u time mark offset integrity)
        (place_at t (now_with (zone_id line) s (msg.Report u time mark offset integrity)) s) ≡ true
    left_at =
        let p = place_at t (now_with z s report) s in
        let g = fronts_grown line t s report fronts in
        let l = at_least from report took acts in
        let m = at_most from report took acts in
        let keep = kept (λ y. true) (named_place line t s mark offset) (known_facts z t s).error (moved_since line t s report time) integrity in
        let v = (ruled_is (longest_end line t s) keep (grown_fronts line z t s (possible_front line z t s) report) fronts.lo (grown_to line t s report fronts.hi) g.is g.ordered g.within).left in
        let k = (and_parts (grown_fronts line z t s (possible_front line z t s) report p) (keep p) left_true).1 in
        let w = v.each p l m k in
        rw used (v.is.is p ∙ between v.lo2 v.hi2 p w.0 w.1)

    fronts_cut : FrontsAre line t (effects line s e ∷ s)
    fronts_cut =
        let k = fronts_kept line t s u time mark offset integrity fronts used in
        let left = fronts_left line t s report fronts.lo fronts.hi time mark offset integrity in
        let n = k.numbers in
        let r = n.is in
        let p = at_is from report took acts in
        let nw = n.within in
        let grown_end = grows (none_takes from report took acts refl) in
        let ends = within_ends left.lo left.hi (place_at t (now_with z s report) s) (sym (r.is (place_at t (now_with z s report) s)) ∙ left_at) in
        let low = ends.0 in
        let high = ends.1 in
        covering left.lo left.hi (record { is = λ f. fronts_next from report took acts f ∙ r.is f }) k.least n.ordered (omega (arith, nw, grown_end))
        (omega (arith, p, low)) (omega (arith, p, high)) (λ off. absurd (let c : true ≡ false = sym report_is.on ∙ off in cc))

  -- any message
  fronts_taking : (from : ℕ) (n : Msg) → (effects line s e).took ≡ Some (from, n) → nat_eq (effects line s e).actor (zone_id line) ≡ true → FrontsAre line t (effects line s e ∷ s)
  fronts_taking from (msg.Report u time mark offset integrity) took acts =
      by_test (is_used line z t s (possible_front line z t s) (msg.Report u time mark offset integrity))
      (λ y. fronts_cut from u time mark offset integrity took acts y)
      (λ no. fronts_grow from (msg.Report u time mark offset integrity) took acts no refl)
  fronts_taking from (msg.Answer u time number taken) took acts =
      by_test (takes_by t (account line t s) (msg.Answer u time number taken))
      (λ y. fronts_shrunk from (msg.Answer u time number taken) took acts refl y (λ fr. rw y refl))
      (λ n. fronts_grow from (msg.Answer u time number taken) took acts refl n)
  fronts_taking from m took acts = fronts_grow from m took acts refl refl

  fronts_by : (o : Option (ℕ × Msg)) → (effects line s e).took ≡ o → nat_eq (effects line s e).actor (zone_id line) ≡ true → FrontsAre line t (effects line s e ∷ s)
  fronts_by (Some y) took acts = fronts_taking y.0 y.1 took acts
  fronts_by None took acts =
      same_fronts (let k = ap (takes_some t (account line t s)) took in rw (acts, k) refl)
      (λ f. fronts_acted line t x s z f none acts controlled ∙ ap (λ (o : Option (ℕ × Msg)). fronts_taken line z t s (possible_front line z t s) o f) took)
      (now_acted z x s acts ∙ (ap (λ (o : Option (ℕ × Msg)). max (now_of z s) (took_time o)) took ∙ still (now_of z s)))
    where
      still : (n : ℕ) → max n 0 ≡ n
      still n = omega arith

  fronts_on : FrontsAre line t (effects line s e ∷ s)
  fronts_on = by_test (nat_eq x.actor z)
      (λ acts. fronts_by x.took refl acts)
      (λ idle. same_fronts (rw idle refl) (λ f. fronts_idle line t x s z f idle) (now_idle z x s idle))

pub fronts_start : (line : Line) (t : ℕ) → controls (zone_id line) t [] ≡ true → FrontsAre line t []
unfolding controls
fronts_start line t c = absurd cc

pub fronts_step : (line : Line) (s : Story) (e : Event) → IsLineOfOneZone line → Admitted line s e → Timed s → Timed (effects line s e ∷ s) → ((t : ℕ) → Invariant line t s)
    → (t : ℕ) → Motion t (effects line s e ∷ s) → Authorized line t (effects line s e ∷ s)
    → (controls (zone_id line) t s ≡ true → cuts line t (effects line s e) s ≡ false → longest_end line t s ≤ longest_end line t (effects line s e ∷ s))
    → (controls (zone_id line) t s ≡ true → cuts line t (effects line s e) s ≡ true → (place t s ≤ shrink_end (seg_len line) (journey line t s) (account line t s)) × (shrink_end (seg_len line) (journey line t s) (account line t s) ≤ longest_end line t (effects line s e ∷ s)))
    → controls (zone_id line) t (effects line s e ∷ s) ≡ true → FrontsAre line t (effects line s e ∷ s)
fronts_step line s e one admitted timed timed_next invariant t m auth grows cut c =
    by_test (grants_entry (zone_id line) t (effects line s e))
    (λ g. entry_fronts line s e t (invariant t) m auth c g)
    (λ none.
    let before = controls_before (zone_id line) t (effects line s e) s none c in
    fronts_on line s e t one admitted timed (invariant t) (grows before) (cut before) before none)
