-- What requests for entry, asks and answers say.
use Rattle.std.proofs.Common.{◌≡◌, ℕ, zero, suc, ◌<◌, ◌≤◌, max, ◌∷◌, length, Option, Some, None, Bool, true, false, refl, sym, ◌∙◌, ap, subst, arith}
use Rattle.std.proofs.lemmas.Bool.{eqb-true, and_parts}
use Rattle.std.proofs.lemmas.Bool.Decides.{nat_tests}
use Rattle.std.specs.Prelude.{nat_eq, nat_lt, is_some}
use Rattle.std.specs.List.{list_all}
use Rattle.list_laws.proofs.By_test.{by_test}
use Rattle.track_points.specs.declared.ids.Dir.{Dir}
use Rattle.track_points.specs.declared.ids.DirSeg.{DirSeg}
use Rattle.track_points.specs.declared.ids.TrainId.{TrainId}
use Rattle.track_points.specs.declared.path.Path.{Path}
use Rattle.track_points.specs.Points.{dir_eq, step_eq}
use Rattle.definitions.specs.declared.event.Event.{Event}
use Rattle.definitions.specs.declared.event.Event.TheVariants.{Entry, Enter, Ask, Report, Time, Close, Open, Shorten, Take, Noise}
use Rattle.definitions.specs.declared.message.Msg.{Msg}
use Rattle.definitions.specs.declared.message.Msg.TheVariants as msg
use Rattle.definitions.specs.Frames.{frame_at}
use Rattle.definitions.specs.Track.{Line, ranged, zone_of, has_zone, begins_at_portal}
use Rattle.definitions.specs.Premises.{on_line, same_portal}
use Rattle.definitions.specs.Story.{Transition, Story, world_took}
use Rattle.definitions.specs.World.{Facts, clock, facts_of, is_declared, entry_in, first_entry, enters, entered, HeldPath, entry_authority, taken_number, taken_path, last_number, last_taken, accepts, accepts_some, limit_place}
use Rattle.definitions.specs.Steps.{sender_of, entering, requesting, taking_auth, world_takes, zone_takes, zone_step, transition, taking, message, effects}
use Rattle.event_laws.proofs.Issued_all.{AllIn, AllIssued, all_weaker}
use Rattle.event_laws.proofs.Entered_same.{told_now, ever_now}
use Rattle.event_laws.proofs.Still_world.{off_number, number_on, number_next, number_off, decided_on, decided_next, decided_kept}
use Rattle.event_laws.proofs.Admitted.{Admitted}
use Rattle.event_laws.proofs.By_does.{noise_issues}
use Rattle.event_laws.proofs.Facts_stay.{facts_stay, first_stays, entered_stays}
use Rattle.way_laws.proofs.Line_builds.{dir_same}
use Rattle.journey_laws.proofs.Invariant.{RequestTrue, EntryIs, AnswerIs}
use Rattle.event_laws.proofs.Zone_issues.{zone_each}

-- the last number never goes back
pub number_grows : (t : ℕ) (x : Transition) (s : Story) → (enters t x.event ≡ true → entered t s ≡ false) → last_number t s ≤ last_number t (x ∷ s)
number_grows t x s once = by_test (enters t x.event)
    (λ y. let z = off_number t s (once y) in omega (arith, z))
    (λ n. by_test (entered t s)
    (λ on. let e = number_next t x s n on in omega (arith, e))
    (λ off. let e = number_off t x s n off in omega (arith, e)))

-- what was said stays true

entry_stays : (line : Line) (t : ℕ) (x : Transition) (s : Story) (long error speed : ℕ) (step : DirSeg) → EntryIs line t s long error speed step → EntryIs line t (x ∷ s) long error speed step
entry_stays line t x s long error speed step k = record {
  facts = facts_stay t x s (ap (λ (f : Option Facts). is_some f) k.facts) ∙ k.facts;
  first = first_stays t x s step k.first;
  portal = k.portal;
}

-- of a train that has come on the decision stays while its last number does
module _ (line : Line) (t : ℕ) (x : Transition) (s : Story) (once : enters t x.event ≡ true → entered t s ≡ false) where
  decision_stays : entered t s ≡ true → last_number t (x ∷ s) ≡ last_number t s → last_taken line t (x ∷ s) ≡ last_taken line t s
  decision_stays on same =
      let no : enters t x.event ≡ false = by_test (enters t x.event) (λ y. absurd (let c : true ≡ false = sym on ∙ once y in cc)) (λ n. n) in
      let e = number_next t x s no on in
      decided_kept line t x s no (grind (arith, nat_tests))

  answer_stays : (number : ℕ) (taken : Bool) → AnswerIs line t s number taken → AnswerIs line t (x ∷ s) number taken
  answer_stays number taken h =
      let most = h.most in
      let grows = number_grows t x s once in
      record {
        on = entered_stays t x s h.on;
        most = omega (arith, most, grows);
        told = λ e. h.told (omega (arith, e, most, grows)) ∙ sym (decision_stays h.on (omega (arith, e, most, grows)));
      }

  request_stays : (m : Msg) → RequestTrue line t s m → RequestTrue line t (x ∷ s) m
  request_stays (msg.EntryAsk u time long error speed equipped step) h = λ y. entry_stays line t x s long error speed step (h y)
  request_stays (msg.Ask u time steps to) h = h
  request_stays (msg.Answer u time number taken) h = λ y. answer_stays number taken (h y)
  request_stays _ h = tt

  pub requests_stay : AllIssued (RequestTrue line t s) s → AllIssued (RequestTrue line t (x ∷ s)) s
  requests_stay k = all_weaker (RequestTrue line t s) (RequestTrue line t (x ∷ s)) request_stays s k

-- the step of a request is that of the first one

abbrev step_at : ℕ → Dir → DirSeg
step_at n d = record { seg = record { 0 = n }; dir = d }

step_same : (a b : DirSeg) → step_eq a b ≡ true → a ≡ b
step_same a b h =
    let k = and_parts (nat_eq a.seg.0 b.seg.0) (dir_eq a.dir b.dir) h in
    ap (λ n. step_at n a.dir) (eqb-true a.seg.0 b.seg.0 k.0) ∙ ap (λ d. step_at b.seg.0 d) (dir_same a.dir b.dir k.1)

first_asked : (t : ℕ) (u : TrainId) (step : DirSeg) (x : Transition) (s : Story) → x.event ≡ Entry u step → nat_eq u.0 t ≡ true → same_portal step (first_entry t s) ≡ true → first_entry t (x ∷ s) ≡ Some step
first_asked t u step x s event its portal = by_first (first_entry t s) refl portal
  where
    by_first : (f : Option DirSeg) → first_entry t s ≡ f → same_portal step f ≡ true → first_entry t (x ∷ s) ≡ Some step
    by_first None is h = told_now (λ (y : Transition). entry_in t y.event) x s is ∙ ap (λ (y : Event). entry_in t y) event ∙ (rw its refl)
    by_first (Some first) is h = first_stays t x s first is ∙ ap (λ y. Some y) (sym (step_same step first h))

module _ (line : Line) (t : ℕ) (s : Story) where
  asked_now : (u : TrainId) (step : DirSeg) (f : Option Facts) → facts_of u.0 s ≡ f → begins_at_portal line step ≡ true → same_portal step (first_entry u.0 s) ≡ true → (x : Transition) → x.event ≡ Entry u step
      → AllIn (RequestTrue line t (x ∷ s)) (requesting (clock s) u step (zone_of line step.seg.0) f).issued
  unfolding AllIn
  asked_now u step None is portal same x event = tt
  asked_now u step (Some f) is portal same x event = (λ y. asked (eqb-true u.0 t y) y, tt)
    where
      asked : u.0 ≡ t → nat_eq u.0 t ≡ true → EntryIs line t (x ∷ s) f.long f.error f.speed step
      asked one its =
          let facts : facts_of t s ≡ Some f = ap (λ (n : ℕ). facts_of n s) (sym one) ∙ is in
          record {
            facts = facts_stay t x s (ap (λ (g : Option Facts). is_some g) facts) ∙ facts;
            first = first_asked t u step x s event its (subst (λ (n : ℕ). same_portal step (first_entry n s) ≡ true) one same);
            portal = portal;
          }

  entered_now : (u : TrainId) (h : Option HeldPath) → entry_authority u.0 s ≡ h → (x : Transition) → x.event ≡ Enter u
      → AllIn (RequestTrue line t (x ∷ s)) (entering (clock s) u (sender_of h)).issued
  unfolding AllIn
  entered_now u None is x event = tt
  entered_now u (Some h) is x event = (λ y. answer (eqb-true u.0 t y) y, tt)
    where
      answer : u.0 ≡ t → nat_eq u.0 t ≡ true → AnswerIs line t (x ∷ s) 1 true
      answer one its =
          let on : enters t x.event ≡ true = ap (λ (e : Event). enters t e) event ∙ its in
          let number = number_on t x s on in
          record { on = ever_now (λ (e : Transition). enters t e.event) x s on; most = omega (arith, number); told = λ e. sym (decided_on line t x s on) }

  -- the answer to an authority: the train decides on a new number, and tells its last decision again for any other
  module _ (x : Transition) (no : enters t x.event ≡ false) (from : ℕ) (u : TrainId) (number mark : ℕ) (path : Path) (took : world_took x ≡ Some (from, msg.Auth u number mark path)) where
    module _ (its : nat_eq u.0 t ≡ true) (on : entered t s ≡ true) where
      number_is : taken_number t (world_took x) ≡ number
      number_is = ap (taken_number t) took ∙ rw its refl

      next_is : last_number t (x ∷ s) ≡ max (last_number t s) number
      next_is = number_next t x s no on ∙ ap (max (last_number t s)) number_is

      decides : nat_lt (last_number t s) number ≡ true → AnswerIs line t (x ∷ s) number (accepts line t s (limit_place line t s) (record { mark = mark; path = path }))
      decides new =
          let e = next_is in
          let above : last_number t s < number = grind (arith, nat_tests) in
          let path_is : taken_path t (world_took x) ≡ Some (record { zone = from; authority = record { mark = mark; path = path } }) = ap (taken_path t) took ∙ rw its refl in
          record {
            on = entered_stays t x s on;
            most = omega (arith, e, above);
            told = λ same. sym (decided_next line t x s no on (ap (nat_lt (last_number t s)) number_is ∙ new) ∙ ap (accepts_some line t s (limit_place line t s)) path_is);
          }

      repeats : nat_lt (last_number t s) number ≡ false → AnswerIs line t (x ∷ s) (last_number t s) (last_taken line t s)
      repeats old =
          let e = next_is in
          record {
            on = entered_stays t x s on;
            most = omega (arith, e);
            told = λ same. sym (decided_kept line t x s no (ap (nat_lt (last_number t s)) number_is ∙ old));
          }

    answered_now : (on : Bool) (last : ℕ) (was_taken takes_it : Bool) → entered u.0 s ≡ on → last_number u.0 s ≡ last → last_taken line u.0 s ≡ was_taken
        → accepts line u.0 s (limit_place line u.0 s) (record { mark = mark; path = path }) ≡ takes_it → AllIn (RequestTrue line t (x ∷ s)) (taking_auth (clock s) on last was_taken takes_it u from number).issued
    unfolding AllIn
    answered_now false last was_taken takes_it on_is last_is was_is takes_is = tt
    answered_now true last was_taken takes_it on_is last_is was_is takes_is = by_test (nat_lt last number)
        (λ y. rw y (λ i. new (eqb-true u.0 t i) i y, tt))
        (λ n. rw n (λ i. old (eqb-true u.0 t i) i n, tt))
      where
        new : u.0 ≡ t → nat_eq u.0 t ≡ true → nat_lt last number ≡ true → AnswerIs line t (x ∷ s) number takes_it
        new one its y =
            subst (AnswerIs line t (x ∷ s) number)
            (ap (λ (v : ℕ). accepts line v s (limit_place line v s) (record { mark = mark; path = path })) (sym one) ∙ takes_is)
            (decides its (ap (λ (v : ℕ). entered v s) (sym one) ∙ on_is) (ap (λ (n : ℕ). nat_lt n number) (ap (λ (v : ℕ). last_number v s) (sym one) ∙ last_is) ∙ y))

        old : u.0 ≡ t → nat_eq u.0 t ≡ true → nat_lt last number ≡ false → AnswerIs line t (x ∷ s) last was_taken
        old one its n =
            let same : last_number t s ≡ last = ap (λ (v : ℕ). last_number v s) (sym one) ∙ last_is in
            subst (λ (k : ℕ). AnswerIs line t (x ∷ s) k was_taken) same
            (subst (AnswerIs line t (x ∷ s) (last_number t s)) (ap (λ (v : ℕ). last_taken line v s) (sym one) ∙ was_is)
            (repeats its (ap (λ (v : ℕ). entered v s) (sym one) ∙ on_is) (ap (λ (k : ℕ). nat_lt k number) same ∙ n)))

  world_requests : (from order : ℕ) (m : Msg) → AllIn (RequestTrue line t (transition (Take 0 from order) 0 (Some (from, m)) (world_takes line s from m) ∷ s)) (world_takes line s from m).issued
  unfolding AllIn
  world_requests from order (msg.Auth u number mark path) =
      let m = msg.Auth u number mark path in
      answered_now (transition (Take 0 from order) 0 (Some (from, m)) (world_takes line s from m)) refl from u number mark path refl
      (entered u.0 s) (last_number u.0 s) (last_taken line u.0 s) (accepts line u.0 s (limit_place line u.0 s) (record { mark = mark; path = path })) refl refl refl refl
  world_requests from order _ = tt

  zone_requests : (z from : ℕ) (m : Msg) (x : Transition) → AllIn (RequestTrue line t (x ∷ s)) (zone_takes line z from s m).issued
  zone_requests z from m x = zone_each (RequestTrue line t (x ∷ s)) line z from s m (λ number mark path most. tt)

  take_requests : (to from number : ℕ) (m : Option Msg) → AllIn (RequestTrue line t (taking line s (Take to from number) to from m ∷ s)) (taking line s (Take to from number) to from m).issued
  unfolding AllIn
  take_requests to from number None = tt
  take_requests zero from number (Some m) = world_requests from number m
  take_requests (suc z) from number (Some m) = zone_requests (suc z) from m (transition (Take (suc z) from number) (suc z) (Some (from, m)) (zone_step line (suc z) from s m))

  pub effect_requests : (e : Event) → Admitted line s e → AllIn (RequestTrue line t (effects line s e ∷ s)) (effects line s e).issued
  unfolding AllIn
  effect_requests (Entry u step) a =
      asked_now u step (facts_of u.0 s) refl (and_parts (is_declared u.0 s) (begins_at_portal line step) a.form).1 a.entering (effects line s (Entry u step)) refl
  effect_requests (Enter u) a = entered_now u (entry_authority u.0 s) refl (effects line s (Enter u)) refl
  effect_requests (Ask u zone steps to) a = (λ y. (and_parts (list_all (on_line line) steps.items) _ (and_parts (ranged 1 24 (length steps.items)) _ (and_parts (has_zone line zone.0) _ (and_parts (is_declared u.0 s) _ a.form).1).1).1).0, tt)
  effect_requests (Report u zone step offset whole) a = (tt, tt)
  effect_requests (Time zone u) a = (tt, tt)
  effect_requests (Take to from number) a = take_requests to from number (message from to number s)
  effect_requests (Close seg) a = (tt, tt)
  effect_requests (Open seg) a = (tt, tt)
  effect_requests (Shorten zone u st off) a = (tt, tt)
  effect_requests (Noise to from bytes) a = rw (noise_issues to (frame_at bytes.items)) tt
  effect_requests _ a = tt
