-- What an event issues is in its ranges.
use Rattle.std.proofs.Common.{◌≡◌, ℕ, zero, suc, ◌-◌, ◌≤◌, ◌∷◌, length, Option, Some, None, Bool, true, ◌||◌, not, refl, sym, ◌∙◌, ap, subst, arith}
use Rattle.std.proofs.lemmas.Bool.{and_parts, eqb-true}
use Rattle.std.proofs.lemmas.Bool.Decides.{nat_tests}
use Rattle.std.specs.Prelude.{ℤ, pos, ◌-ℤ◌, ◌%◌, nat_eq, nat_lt, is_some}
use Rattle.std.specs.Int.Signed.{le_z}
use Rattle.std.specs.List.{list_all}
use Rattle.list_laws.proofs.By_test.{by_or}
use Rattle.arrayvec.specs.ArrayVec.{ArrayVec}
use Rattle.track_points.specs.declared.ids.DirSeg.{DirSeg}
use Rattle.track_points.specs.declared.ids.SegId.{SegId}
use Rattle.track_points.specs.declared.ids.TrainId.{TrainId}
use Rattle.definitions.specs.declared.event.Event.{Event}
use Rattle.definitions.specs.declared.event.Event.TheVariants.{Entry, Enter, Ask, Report, Time, Close, Open, Shorten, Take, Noise}
use Rattle.definitions.specs.declared.message.Msg.{Msg}
use Rattle.definitions.specs.declared.message.Msg.TheVariants as msg
use Rattle.definitions.specs.declared.message.Order.TheVariants as orders
use Rattle.definitions.specs.FrameLayouts.{train, id, any_train, time, any, end, step, step_number, facts, report, time_told, entry_ask, ask, order_fields, order, order_told}
use Rattle.definitions.specs.Frames.{Fits, frame_at}
use Rattle.definitions.specs.Track.{Line, ranged, zone_of, has_zone, has_segment, begins_at_portal, is_actor}
use Rattle.definitions.specs.Premises.{on_line}
use Rattle.definitions.specs.Story.{Story}
use Rattle.definitions.specs.World.{Facts, clock, facts_of, is_declared, entered, HeldPath, entry_authority}
use Rattle.definitions.specs.Control.{last_issued}
use Rattle.definitions.specs.Steps.{sender_of, entering, requesting, reporting, zone_step, taking, message, effects}
use Rattle.definitions.specs.Safe.{IsLineOfOneZone}
use Rattle.event_laws.proofs.Issued_all.{AllIn, AllIssued}
use Rattle.event_laws.proofs.Admitted.{Admitted}
use Rattle.event_laws.proofs.By_does.{noise_issues}
use Rattle.way_laws.proofs.Line_builds.{portal_on_line}
use Rattle.journey_laws.proofs.Invariant.{AuthTrue, Invariant}
use Rattle.journey_laws.proofs.One_route.{on_controls}
use Rattle.journey_laws.proofs.Zone_only.{actor_zone}
use Rattle.safe_laws.proofs.Facts_in_range.{FactsInRange}
use Rattle.safe_laws.proofs.Offset_fits.{offset_fits}
use Rattle.safe_laws.proofs.Segment_ranges.{segment_ranges}
use Rattle.safe_laws.proofs.Steps_fit.{step_fits, steps_fit}
use Rattle.safe_laws.proofs.Zone_fits.{Bounded, train_fits, yes_fits, answer_fits, mark_fits, world_fits, zone_fits}

module _ (line : Line) (s : Story) (one : IsLineOfOneZone line) (b : Bounded s) (k : (t : ℕ) → Invariant line t s) where
  facts_fit : (u : TrainId) (f : Facts) → FactsInRange u.0 f → facts.fits (f.long, (f.error, (f.speed, true)))
  unfolding facts
  facts_fit u f r =
      let off = r.error in
      ((r.long_some, r.long), ((omega arith, omega (arith, off)), ((r.speed_some, r.speed), yes_fits true)))

  requested_fits : (u : TrainId) (step : DirSeg) (zone : ℕ) (f : Option Facts) → facts_of u.0 s ≡ f → begins_at_portal line step ≡ true → AllIn Fits (requesting (clock s) u step zone f).issued
  unfolding AllIn Fits entry_ask time
  requested_fits u step zone None is portal = tt
  requested_fits u step zone (Some f) is portal =
      let declared = ap (λ (o : Option Facts). is_some o) is in
      ((train_fits s b u declared, ((omega arith, b.time), (facts_fit u f (b.facts u.0 f is), step_fits line step one.valid (portal_on_line line step one.valid portal)))), tt)

  entered_fits : (u : TrainId) (h : Option HeldPath) → entry_authority u.0 s ≡ h → is_declared u.0 s ≡ true → AllIn Fits (entering (clock s) u (sender_of h)).issued
  unfolding AllIn
  entered_fits u None is declared = tt
  entered_fits u (Some h) is declared = (answer_fits s b u 1 true declared (omega arith) ((k u.0).authorized.entry h is).issued, tt)

  asked_fits : (u : TrainId) (steps : ArrayVec DirSeg) (to : ℕ) → is_declared u.0 s ≡ true → ranged 1 24 (length steps.items) ≡ true → list_all (on_line line) steps.items ≡ true → ranged 1 10000000 to ≡ true
      → Fits (msg.Ask u (clock s) steps to)
  unfolding Fits ask time end
  asked_fits u steps to declared few own near =
      (train_fits s b u declared, ((omega arith, b.time), (steps_fit line steps one.valid own (grind (arith, nat_tests)) (grind (arith, nat_tests)), (grind (arith, nat_tests), grind (arith, nat_tests)))))

  reported_fits : (u : TrainId) (offset : ℤ) (whole : Bool) → is_declared u.0 s ≡ true → entered u.0 s ≡ true → le_z (pos 0 -ℤ pos 1000000) offset ≡ true → le_z offset (pos 11000000) ≡ true → Fits (reporting line s u offset whole)
  unfolding Fits report time any
  reported_fits u offset whole declared on low high =
      let a = (k u.0).authorized in
      let issued = numbered u.0 on in
      let few = mark_fits line u.0 s b (k u.0) issued in
      (train_fits s b u declared, ((omega arith, b.time), ((omega arith, omega (arith, few)), (offset_fits offset low high, yes_fits whole))))
    where
      numbered : (t : ℕ) → entered t s ≡ true → 1 ≤ last_issued t s
      numbered t h = ((k t).authorized.controlled (on_controls line t s (k t).authorized h)).issued

  timed_fits : (u : TrainId) → (nat_eq u.0 0 || is_declared u.0 s) ≡ true → Fits (msg.Time (clock s) u)
  unfolding Fits time_told time any_train train id
  timed_fits u h = (
    (omega arith, b.time),
    by_or (nat_eq u.0 0) (is_declared u.0 s) h
        (λ none. ((omega arith, let z = eqb-true u.0 0 none in omega (arith, z)), refl))
        (λ declared. let f = train_fits s b u declared in let most = f.0.1 in ((omega arith, omega (arith, most)), refl)),
  )

  -- an order on a segment of the line
  closed_fits : (seg : SegId) → has_segment line seg.0 ≡ true → Fits (msg.Order (clock s) (orders.Close seg))
  unfolding Fits order_told time order order_fields id
  closed_fits seg h =
      let r = segment_ranges line seg.0 one.valid h in
      let most = r.most in
      ((omega arith, b.time), (((omega arith, omega arith), ((r.least, omega (arith, most)), (((omega arith, omega arith), refl), (omega arith, omega arith)))), refl))

  opened_fits : (seg : SegId) → has_segment line seg.0 ≡ true → Fits (msg.Order (clock s) (orders.Open seg))
  unfolding Fits order_told time order order_fields id
  opened_fits seg h =
      let r = segment_ranges line seg.0 one.valid h in
      let most = r.most in
      ((omega arith, b.time), (((omega arith, omega arith), ((r.least, omega (arith, most)), (((omega arith, omega arith), refl), (omega arith, omega arith)))), refl))

  -- an order to shorten a train's way
  short_fits : (u : TrainId) (st : DirSeg) (off : ℕ) → is_declared u.0 s ≡ true → on_line line st ≡ true → ranged 1 10000000 off ≡ true → Fits (msg.Order (clock s) (orders.Short u st off))
  unfolding Fits order_told time order order_fields id train step
  short_fits u st off declared own near =
      let t = train_fits s b u declared in
      let few = t.0.1 in
      let f = step_fits line st one.valid own in
      let most = f.0.0.1 in
      let some : nat_lt 0 (step_number st % 32768) ≡ true = ap (λ (y : DirSeg). nat_lt 0 y.seg.0) f.0.1 ∙ f.1 in
      let least : 1 ≤ off = grind (arith, nat_tests) in
      let near_ : off ≤ 10000000 = grind (arith, nat_tests) in
      ((omega arith, b.time), (((omega arith, omega arith), ((t.0.0, omega (arith, few)), (((omega arith, most), some), (least, near_)))), ap (λ (y : DirSeg). orders.Short u y off) f.0.1))

  take_fits : (e : Event) (to from number : ℕ) (r : Option Msg) → message from to number s ≡ r → is_actor line to ≡ true → Bounded (taking line s e to from r ∷ s) → ((t : ℕ) → Invariant line t (taking line s e to from r ∷ s))
      → AllIn Fits (taking line s e to from r).issued
  unfolding AllIn AllIssued
  take_fits e to from number None is act after next = tt
  take_fits e zero from number (Some m) is act after next = world_fits line s b k from (number - 1) m is
  take_fits e (suc z) from number (Some m) is act after next =
      let zone = actor_zone line z one act in
      subst (λ (y : ℕ). AllIn Fits (zone_step line y from s m).issued) (sym zone)
      (zone_fits line s one.valid b k (taking line s e (suc z) from (Some m)) after next from m
      (λ t. subst (λ (y : ℕ). AllIn (AuthTrue line t (taking line s e (suc z) from (Some m) ∷ s)) (zone_step line y from s m).issued) zone (newest t (next t))))
    where
      newest : (t : ℕ) → Invariant line t (taking line s e (suc z) from (Some m) ∷ s) → AllIn (AuthTrue line t (taking line s e (suc z) from (Some m) ∷ s)) (zone_step line (suc z) from s m).issued
      newest t i = i.authorized.auths.0

  pub effect_fits : (e : Event) → Admitted line s e → Bounded (effects line s e ∷ s) → ((t : ℕ) → Invariant line t (effects line s e ∷ s)) → AllIn Fits (effects line s e).issued
  unfolding AllIn
  effect_fits (Entry u step) a after next = requested_fits u step (zone_of line step.seg.0) (facts_of u.0 s) refl (and_parts (is_declared u.0 s) (begins_at_portal line step) a.form).1
  effect_fits (Enter u) a after next = entered_fits u (entry_authority u.0 s) refl a.form
  effect_fits (Ask u z steps to) a after next =
      let b = and_parts (is_declared u.0 s) _ a.form in
      let c = and_parts (has_zone line z.0) _ b.1 in
      let d = and_parts (ranged 1 24 (length steps.items)) _ c.1 in
      let f = and_parts (list_all (on_line line) steps.items) (ranged 1 10000000 to) d.1 in
      (asked_fits u steps to b.0 d.0 f.0 f.1, tt)
  effect_fits (Report u z step offset whole) a after next =
      let b = and_parts (is_declared u.0 s) _ a.form in
      let c = and_parts (has_zone line z.0) _ b.1 in
      let d = and_parts (on_line line step) _ c.1 in
      let f = and_parts (le_z (pos 0 -ℤ pos 1000000) offset) (le_z offset (pos 11000000)) d.1 in
      (reported_fits u offset whole b.0 (and_parts (entered u.0 s) _ a.reporting).0 f.0 f.1, tt)
  effect_fits (Time z u) a after next = (timed_fits u (and_parts (has_zone line z.0) _ a.form).1, tt)
  effect_fits (Shorten z u st off) a after next =
      let b = and_parts (has_zone line z.0) _ a.form in
      let c = and_parts (is_declared u.0 s) _ b.1 in
      let d = and_parts (on_line line st) (ranged 1 10000000 off) c.1 in
      (short_fits u st off c.0 d.0 d.1, tt)
  effect_fits (Take to from number) a after next =
      let b = and_parts (not (nat_eq to from)) _ a.form in
      take_fits (Take to from number) to from number (message from to number s) refl (and_parts (is_actor line to) (is_actor line from) b.1).0 after next
  effect_fits (Close seg) a after next = (closed_fits seg a.form, tt)
  effect_fits (Open seg) a after next = (opened_fits seg a.form, tt)
  effect_fits (Noise to from bytes) a after next = rw (noise_issues to (frame_at bytes.items)) tt
  effect_fits _ a after next = tt
