-- The limit that a train holds is the end of an issued authority, and not behind its head.
use Rattle.std.proofs.Common.{◌≡◌, ℕ, ◌+◌, ◌-◌, ◌≤◌, ◌<◌, ◌∷◌, Option, Some, Bool, true, false, sym, ◌∙◌, ap, arith}
use Rattle.std.proofs.lemmas.Bool.Decides.{nat_tests}
use Rattle.std.proofs.lemmas.Option.{same_Some}
use Rattle.std.proofs.lemmas.Bool.{and_parts}
use Rattle.std.specs.Prelude.{nat_le, nat_lt, slice_get, length}
use Rattle.list_laws.proofs.By_test.{by_test}
use Rattle.track_points.specs.declared.ids.DirSeg.{DirSeg}
use Rattle.definitions.specs.declared.event.Event.{Event}
use Rattle.definitions.specs.declared.event.Event.TheVariants.{Step}
use Rattle.definitions.specs.Track.{Line, seg_len, last_step}
use Rattle.definitions.specs.Premises.{enters_rightly, stops_rightly}
use Rattle.definitions.specs.Story.{Transition, Story, world_took}
use Rattle.definitions.specs.World.{enters, entered, moved, head, goes_on, journey, Authority, authority_begin, authority_end, HeldPath, entry_authority, taken_number, taken_path, is_step, lies_on, accepts, accepts_some, last_number, last_taken, limit_held, held_end, limit_place}
use Rattle.definitions.specs.Control.{controls, last_issued}
use Rattle.definitions.specs.Farther.{end_or_0}
use Rattle.definitions.specs.Steps.{effects}
use Rattle.event_laws.proofs.Still_world.{head_still, number_on, limit_on, number_next, limit_next, limit_refused, limit_kept, decided_next, decided_kept}
use Rattle.definitions.specs.Zones.{zone_id}
use Rattle.event_laws.proofs.Admitted.{Admitted}
use Rattle.event_laws.proofs.Entered_same.{entered_same}
use Rattle.journey_laws.proofs.Motion.{Motion, head_on, head_next, place_grows, heads_grow, motion_step}
use Rattle.event_laws.proofs.By_does.{effect_event}
use Rattle.journey_laws.proofs.Head_step.{head_step, enter_once}
use Rattle.journey_laws.proofs.Invariant.{end_read, AuthorityIs, AuthIs, FirstIs, LimitIs, Authorized}
use Rattle.journey_laws.proofs.One_route.{first_end, portal_end}
use Rattle.journey_laws.proofs.First_steps.{end_same}
use Rattle.step_laws.proofs.Auths_stay.{AuthsStay, held_stays}
use Rattle.step_laws.proofs.Authority_stays.{Going}
use Rattle.step_laws.proofs.Account_goes.{counted_rises, read_stays}
use Rattle.step_laws.proofs.Effect_took_is.{TookIs}

-- a step moves a train to its limit at most
moved_stops : (line : Line) (t : ℕ) (s : Story) (e : Event) → stops_rightly line s e ≡ true → head t s ≤ limit_place line t s → head t s + moved t e ≤ limit_place line t s
moved_stops line t s (Step ms moves) h l = head_step line t s moves.items h l
moved_stops line t s _ h l = omega (arith, l)

first_step : (line : Line) (t : ℕ) (s : Story) (a b : Authority) (f : FirstIs line t s a) (g : FirstIs line t s b) → f.step ≡ g.step
first_step line t s a b f g = same_Some f.step g.step (sym f.first ∙ g.first)

-- its head is not beyond an authority that a train accepts
accepts_ahead : (line : Line) (t : ℕ) (s : Story) (limit : ℕ) (a : Authority) → accepts line t s limit a ≡ true → head t s ≤ authority_end (seg_len line) (journey line t s) a
accepts_ahead line t s limit a h =
    let len = seg_len line in
    let steps = journey line t s in
    let on = (and_parts (lies_on len steps (head t s) a) _ h).0 in
    let b = (and_parts (nat_le a.mark (length steps - 1)) _ on).1 in
    let d = (and_parts (is_step (last_step steps) (slice_get a.path.steps.items (length steps - 1 - a.mark))) _ b).1 in
    let e = (and_parts (nat_le (authority_begin len steps a) (head t s)) (nat_le (head t s) (authority_end len steps a)) d).1 in
    grind (arith, nat_tests)

module _ (line : Line) (t : ℕ) (s : Story) (x : Transition) (k : Authorized line t s) (c : controls (zone_id line) t s ≡ true) (stay : AuthsStay line t s x) where
  -- the end of an authority held, on the journey one transition further
  held_is : (h : HeldPath) → limit_held line t (x ∷ s) ≡ Some h → AuthorityIs line t s h.authority → limit_place line t (x ∷ s) ≡ authority_end (seg_len line) (journey line t s) h.authority
  held_is h is a = ap (λ (g : Option HeldPath). held_end (seg_len line) (journey line t (x ∷ s)) g) is ∙ end_same line t x s stay.first h.authority a.mark

  held_was : (h : HeldPath) → limit_held line t s ≡ Some h → limit_place line t s ≡ authority_end (seg_len line) (journey line t s) h.authority
  held_was h is = ap (λ (g : Option HeldPath). held_end (seg_len line) (journey line t s) g) is

  -- as the train comes on
  pub limit_comes : enters t x.event ≡ true → entered t s ≡ false → (h : HeldPath) → entry_authority t s ≡ Some h → LimitIs line t (x ∷ s)
  limit_comes on off h is =
      let held = k.entry h is in
      let a = held.authority off in
      let g = k.controlled c in
      let early = g.early off in
      let steps = journey line t s in
      let p = held_is h (limit_on line t x s on ∙ is) a in
      let e = first_end line t s steps h.authority held.first in
      let e2 = first_end line t s steps g.newest early.1 in
      let same = ap (λ (st : DirSeg). seg_len line st.seg.0) (first_step line t s h.authority g.newest held.first early.1) in
      let newest : end_read line t s 1 ≡ authority_end (seg_len line) steps g.newest = ap (λ (r : Option Authority). end_or_0 (seg_len line) steps r) early.0 in
      let one = number_on t x s on in
      let n = ap (λ (i : ℕ). end_read line t (x ∷ s) i) one in
      let hd = head_on t x s on in
      let room = held.first.room in
      record {
        held = h;
        is = limit_on line t x s on ∙ is;
        authority = held_stays line t s x k stay h.authority a;
        number = λ y above. let m = read_stays line t x s k stay.first 1 held.issued (omega (arith, above, one)) in omega (arith, p, e, e2, same, newest, m, n);
        ahead = omega (arith, p, e, hd, room);
      }

  -- on the line: a new number that it takes or refuses, or the limit that it holds
  module _ (motion : Motion t s) (no : enters t x.event ≡ false) (on : entered t s ≡ true) (stops : stops_rightly line s x.event ≡ true) where
    abbrev accepted : Option HeldPath → Bool
    accepted o = accepts_some line t s (limit_place line t s) o

    -- its head lies on an authority that it accepts
    limit_takes : (h : HeldPath) → taken_path t (world_took x) ≡ Some h → AuthIs line t s (taken_number t (world_took x)) h.authority → taken_number t (world_took x) ≤ last_issued t s → goes_on t x.event ≡ false
        → nat_lt (last_number t s) (taken_number t (world_took x)) ≡ true → accepts line t s (limit_place line t s) h.authority ≡ true → LimitIs line t (x ∷ s)
    limit_takes h path i known still new takes_it =
        let less : last_number t s < taken_number t (world_took x) = grind (arith, nat_tests) in
        let a = i.ahead less in
        let is = limit_next line t x s no on new (ap accepted path ∙ takes_it) ∙ path in
        let p = held_is h is a in
        let q = number_next t x s no on in
        let number : last_number t (x ∷ s) ≡ taken_number t (world_took x) = omega (arith, q, less) in
        let n = ap (λ (j : ℕ). end_read line t (x ∷ s) j) number in
        let rises = counted_rises line t x s in
        let hd = head_still t x s still in
        let there = accepts_ahead line t s (limit_place line t s) h.authority takes_it in
        record {
          held = h;
          is = is;
          authority = held_stays line t s x k stay h.authority a;
          number = λ y above.
              let exact = i.exact (omega (arith, above, rises, number)) in
              let m = read_stays line t x s k stay.first (taken_number t (world_took x)) known (omega (arith, above, number)) in
              omega (arith, p, exact, m, n);
          ahead = omega (arith, hd, there, p);
        }

    -- the same limit
    limit_same : limit_held line t (x ∷ s) ≡ limit_held line t s
        → (last_taken line t (x ∷ s) ≡ true → (last_number t (x ∷ s) ≡ last_number t s) × (last_taken line t s ≡ true)) → LimitIs line t (x ∷ s)
    limit_same same decided =
        let j = k.limit on in
        let h = j.held in
        let a = j.authority in
        let is = same ∙ j.is in
        let p = held_is h is a in
        let was = held_was h j.is in
        let most = k.last_most in
        let rises = counted_rises line t x s in
        let hd = head_next t x s no in
        let st = moved_stops line t s x.event stops j.ahead in
        record {
          held = h;
          is = is;
          authority = held_stays line t s x k stay h.authority a;
          number = λ y above.
              let d = decided y in
              let number = d.0 in
              let old = j.number d.1 (omega (arith, above, rises, number)) in
              let m = read_stays line t x s k stay.first (last_number t s) most (omega (arith, above, number)) in
              let n = ap (λ (i : ℕ). end_read line t (x ∷ s) i) number in
              omega (arith, p, was, old, m, n);
          ahead = omega (arith, hd, st, p, was);
        }

    -- a new number
    limit_new : TookIs line t s x → nat_lt (last_number t s) (taken_number t (world_took x)) ≡ true → LimitIs line t (x ∷ s)
    limit_new took new =
        let less : last_number t s < taken_number t (world_took x) = grind (arith, nat_tests) in
        let some = took.world.some (omega (arith, less)) in
        let h = some.0 in
        by_test (accepts line t s (limit_place line t s) h.authority)
        (λ y. limit_takes h some.1 (took.world.is h some.1) took.world.known (took.still (omega (arith, less))) new y)
        (λ n.
        let refused : accepted (taken_path t (world_took x)) ≡ false = ap accepted some.1 ∙ n in
        limit_same (limit_refused line t x s no refused)
        (λ y. absurd (let e : true ≡ false = sym y ∙ (decided_next line t x s no on new ∙ refused) in cc)))

    -- any other
    limit_old : nat_lt (last_number t s) (taken_number t (world_took x)) ≡ false → LimitIs line t (x ∷ s)
    limit_old none =
        let q = number_next t x s no on in
        limit_same (limit_kept line t x s no none) (λ y. (grind (arith, nat_tests), sym (decided_kept line t x s no none) ∙ y))

    pub limit_goes : TookIs line t s x → LimitIs line t (x ∷ s)
    limit_goes took = by_test (nat_lt (last_number t s) (taken_number t (world_took x))) (limit_new took) limit_old

-- how a train moves at an event
pub going : (line : Line) (t : ℕ) (s : Story) (e : Event) → Admitted line s e → Motion t s → Authorized line t s → Going line t s (effects line s e)
going line t s e a m k =
    let x = effects line s e in
    record {
      motion = m;
      moved = place_grows line t s e a m;
      heads = heads_grow line t s e a m;
      stops = λ c. by_test (enters t x.event)
          (λ y.
          let g = k.controlled c in
          let h = head_on t x s y in
          let room = g.room in
          let once = enter_once t s x.event (ap (enters_rightly s) (effect_event line s e) ∙ a.entering) y in
          let end = portal_end line t s k c once in
          omega (arith, h, room, end))
          (λ n. by_test (entered t s)
          (λ on.
          let j = k.limit on in
          let h = head_next t x s n in
          let stops : stops_rightly line s x.event ≡ true = ap (stops_rightly line s) (effect_event line s e) ∙ a.stopping in
          let st = moved_stops line t s x.event stops j.ahead in
          let p = ap (λ (g : Option HeldPath). held_end (seg_len line) (journey line t s) g) j.is in
          let w = j.authority.within in
          omega (arith, h, st, p, w))
          (λ off.
          let z = (motion_step line t s e a m).unborn (entered_same t x s n ∙ off) in
          omega (arith, z)));
    }
