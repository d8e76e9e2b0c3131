-- The plain state follows the story, event by event.
use Rattle.std.proofs.Common.{◌≡◌, ℕ, zero, suc, ◌-◌, ◌<◌, List, [], ◌∷◌, length, Option, Some, None, Bool, true, false, ◌&&◌, refl, sym, ◌∙◌, ap, subst, arith, not, if◌then◌else◌}
use Rattle.std.proofs.lemmas.Bool.Decides.{nat_tests}
use Rattle.std.proofs.lemmas.Option.{slice_get-get_or}
use Rattle.std.proofs.Math.Bool.{and-false}
use Rattle.std.specs.Prelude.{nat_eq, nat_lt, nat_le, slice_get, is_some}
use Rattle.std.specs.List.{list_all}
use Rattle.std.proofs.lemmas.Bool.{and_parts, not-true}
use Rattle.list_laws.proofs.By_test.{eq_self, by_test}
use Rattle.definitions.specs.declared.event.Event.{Event}
use Rattle.definitions.specs.declared.event.Event.TheVariants.{Train, Entry, Enter, Ask, Step, Report, Time, Close, Open, Shorten, Take}
use Rattle.definitions.specs.declared.message.Msg.{Msg}
use Rattle.definitions.specs.declared.message.Msg.TheVariants as msg
use Rattle.definitions.specs.declared.message.Order.TheVariants as orders
use Rattle.definitions.specs.Track.{Line, ranged, seg_len, owner, zone_of, begins_at_portal, is_actor, last_step}
use Rattle.definitions.specs.Premises.{is_equipped, ascending, known_train, off_by, head_offset, takes_rightly}
use Rattle.definitions.specs.Story.{Transition, Story, sent, ever, ever_issued, first_told, greatest_issued}
use Rattle.definitions.specs.World.{Facts, facts_of, is_declared, error_of, entered, entry_authority, last_number, last_taken, accepts, clock, journey, trains, head, limit_held, limit_place}
use Rattle.definitions.specs.Control.{grants_entry, controls, greatest_known, now_of}
use Rattle.definitions.specs.Numbers.{numbers_below}
use Rattle.definitions.specs.Account.{farthest}
use Rattle.definitions.specs.Fold.{account}
use Rattle.definitions.specs.Steps.{Effect, nothing, entering, requesting, telling, sender_of, taking_auth, world_takes, zone_step, taking, message, effects}
use Rattle.definitions.specs.Safe.{IsLineOfOneZone}
use Rattle.event_laws.proofs.By_does.{untaken_none}
use Rattle.event_laws.proofs.Issued_all.{issued_all}
use Rattle.definitions.specs.Closures.{is_closed}
use Rattle.track_points.specs.Points.{step_eq}
use Rattle.plain_state.specs.declared.Head.{Head}
use Rattle.plain_state.specs.World.{PlainWorld, find_train, head_found, on_found, number_found, taken_found, takes_found, auth_answer, trains_after, world_take_effect, mark_of}
use Rattle.plain_state.specs.Zone.{find_controlled, zone_take_effect, zone_take_next}
use Rattle.definitions.specs.Zones.{zone_id}
use Rattle.plain_state.specs.Plain.{Plain, plain_start, by_world as world_next, by_zone as zone_next, taken_effect, taken_next, plain_effect, plain_next}
use Rattle.plain_state.specs.Refinement.{head_of, ids, Distinct, Refines}
use Rattle.event_laws.proofs.Admitted.{Admitted}
use Rattle.journey_laws.proofs.Invariant.{AuthIs, AuthTrue, Invariant}
use Rattle.event_laws.proofs.Grant_takes.{grant_takes}
use Rattle.refinement_laws.proofs.The_zone.{world_sent}
use Rattle.journey_laws.proofs.Zone_only.{actor_zone}
use Rattle.refinement_laws.proofs.Facts_is.{facts_is, sender_is, head_is, on_is, number_is, taken_is}
use Rattle.refinement_laws.proofs.Acts_on_sent.{world_acts_on_sent, zone_acts_on_sent}
use Rattle.refinement_laws.proofs.Order_true.{OrderTrue}
use Rattle.refinement_laws.proofs.Closed_now.{none_long, none_at}
use Rattle.refinement_laws.proofs.Kept_story.{KeptStory, placed_of}
use Rattle.refinement_laws.proofs.Accepts_now.{accepts_now}
use Rattle.refinement_laws.proofs.Train_refined.{train_refined, entry_refined}
use Rattle.refinement_laws.proofs.Step_refined.{enter_refined, still_refined, step_refined}
use Rattle.refinement_laws.proofs.World_take_refined.{take_transition, world_take_refined}
use Rattle.refinement_laws.proofs.Zone_moves.{zone_made}
use Rattle.refinement_laws.proofs.Zone_take_refined.{zone_taken, zone_take_refined}

abbrev pub effect_of : Transition → Effect
effect_of x = record { issued = x.issued; lines = x.lines }

some_message : (xs : List Msg) (number : ℕ) → (nat_lt 0 number && nat_le number (length xs)) ≡ true → slice_get xs (number - 1) ≡ None → ⊥
some_message xs number h none =
    let k = and_parts (nat_lt 0 number) (nat_le number (length xs)) h in
    let below : number - 1 < length xs = grind (arith, nat_tests, k.0, k.1) in
    let e = slice_get-get_or xs (number - 1) (msg.Answer (record { 0 = 0 }) 0 0 true) below in
    cc

module _ (line : Line) (s : Story) (p : Plain) (one : IsLineOfOneZone line) (short : length s < 100000000) (k : Refines line s p) (invariant : (t : ℕ) → Invariant line t s) (told : KeptStory line s) where
  -- A take of a message that its link holds.

  world_takes_now : (from j : ℕ) (m : Msg) → slice_get (sent from 0 s) j ≡ Some m → world_takes line s from m ≡ auth_answer (seg_len line) p.world from m
  world_takes_now from j (msg.Auth u number mark path) is =
      let t = u.0 in
      let takes_it = accepts line t s (limit_place line t s) (record { mark = mark; path = path }) in
      let found = takes_found (seg_len line) p.world.brake p.world.clock mark path (find_train t p.world.trains) in
      let seen = on_found (find_train t p.world.trains) in
      let last = number_found (find_train t p.world.trains) in
      let took = taken_found (find_train t p.world.trains) in
      let on_seen = on_is line s p k invariant t in
      by_test (entered t s)
      (λ on.
      let auth : AuthIs line t s number (record { mark = mark; path = path }) = issued_all (AuthTrue line t s) from 0 s j (msg.Auth u number mark path) (invariant t).authorized.auths is (eq_self t) in
      let declared = (invariant t).motion.declared on in
      -- its decision on a number that is not new is not told
      by_test (nat_lt (last_number t s) number)
      (λ fresh.
      ap (λ (b : Bool). taking_auth (clock s) (entered t s) (last_number t s) (last_taken line t s) b u from number)
      (sym (accepts_now line t s (invariant t) on mark path (auth.ahead (grind (arith, nat_tests))) p k (told.paced t))))
      (λ old. rw old refl)
      ∙ (ap (λ (ms : ℕ). taking_auth ms (entered t s) (last_number t s) (last_taken line t s) found u from number) (sym k.time)
      ∙ (ap (λ (b : Bool). taking_auth p.world.clock b (last_number t s) (last_taken line t s) found u from number) (sym on_seen)
      ∙ (ap (λ (n : ℕ). taking_auth p.world.clock seen n (last_taken line t s) found u from number) (sym (number_is line s p k invariant t))
      ∙ ap (λ (b : Bool). taking_auth p.world.clock seen last b found u from number) (sym (taken_is line s p k invariant t declared))))))
      (λ off.
      ap (λ (b : Bool). taking_auth (clock s) b (last_number t s) (last_taken line t s) takes_it u from number) off
      ∙ sym (ap (λ (b : Bool). taking_auth p.world.clock b last took found u from number) (on_seen ∙ off)))
  world_takes_now from j _ is = refl

  world_taken : (from j : ℕ) (m : Msg) → slice_get (sent from 0 s) j ≡ Some m → world_takes line s from m ≡ world_take_effect line p.world from m
  world_taken from j m is =
      world_takes_now from j m is ∙ sym (ap (λ (b : Bool). if b then auth_answer (seg_len line) p.world from m else nothing) (world_acts_on_sent line s p one k invariant short told.orders from 0 j m is))

  -- what an event does and what follows
  record Follows (to from number : ℕ) (r : Option Msg) : Type 0 where
    effect : effect_of (taking line s (Take to from number) to from r) ≡ taken_effect line p to from r
    refines : Refines line (taking line s (Take to from number) to from r ∷ s) (taken_next line p to from r)

  zone_follows : (z number : ℕ) (m : Msg) → suc z ≡ zone_id line → message 0 (suc z) number s ≡ Some m → ((t : ℕ) → Invariant line t (zone_made z number m (zone_step line (suc z) 0 s m) ∷ s)) → Follows (suc z) 0 number (Some m)
  zone_follows z number m zone is after =
      let acts_on = zone_acts_on_sent line s p one k invariant short told.orders 0 (suc z) (number - 1) m is in
      let placed = placed_of line m one.valid (issued_all (OrderTrue line) 0 (suc z) s (number - 1) m told.orders is) in
      let later : (t : ℕ) → Invariant line t (zone_made z number m (zone_step line (zone_id line) 0 s m) ∷ s) = λ t. subst (λ (n : ℕ). Invariant line t (zone_made z number m (zone_step line n 0 s m) ∷ s)) zone (after t) in
      let grants : (t : ℕ) → controls (zone_id line) t s ≡ true → grants_entry (zone_id line) t (zone_made z number m (zone_step line (zone_id line) 0 s m)) ≡ false = λ t c.
      by_test (grants_entry (zone_id line) t (zone_made z number m (zone_step line (zone_id line) 0 s m)))
      (λ y.
      let back = subst (λ (n : ℕ). grants_entry (zone_id line) t (zone_made z number m (zone_step line n 0 s m)) ≡ true) (sym zone) y in
      let all = subst (λ (r : Option Msg). grants_entry (zone_id line) t (taking line s (Take (suc z) 0 number) (suc z) 0 r) ≡ true) (sym is) back in
      let fresh = (grant_takes line s (Take (suc z) 0 number) (zone_id line) t all).0 in
      absurd (let x : true ≡ false = sym c ∙ fresh in cc))
      (λ n. n) in
      record {
        effect = ap (λ (n : ℕ). zone_step line n 0 s m) zone ∙ (zone_taken line z number m s p one zone k invariant later grants acts_on ∙ ap (λ (n : ℕ). zone_take_effect line (p.zones n) 0 m) (sym zone));
        refines = subst (λ (n : ℕ). Refines line (zone_made z number m (zone_step line n 0 s m) ∷ s) (zone_next p n (zone_take_next line (p.zones n) 0 m) (zone_take_effect line (p.zones n) 0 m))) (sym zone) (zone_take_refined line z number m s p one zone k invariant later grants acts_on placed);
      }

  world_follows : (from number : ℕ) (m : Msg) → message from 0 number s ≡ Some m → ((t : ℕ) → Invariant line t (take_transition 0 from number m (world_takes line s from m) ∷ s)) → Follows 0 from number (Some m)
  world_follows from number m is after =
      let y = world_taken from (number - 1) m is in
      let acts_on = world_acts_on_sent line s p one k invariant short told.orders from 0 (number - 1) m is in
      record {
        effect = y;
        refines = subst (λ (w : PlainWorld). Refines line (take_transition 0 from number m (world_takes line s from m) ∷ s) (world_next p w (world_take_effect line p.world from m)))
            (sym (ap (λ (c : Bool). if c then record { brake = p.world.brake; clock = p.world.clock; trains = trains_after (seg_len line) p.world from m } else p.world) acts_on))
            (world_take_refined line from number (number - 1) m s p (world_take_effect line p.world from m) is one k invariant told.paced after (sym y));
      }

  take_follows : (to from number : ℕ) (r : Option Msg) → nat_eq to from ≡ false → is_actor line to ≡ true → is_actor line from ≡ true → takes_rightly s (Take to from number) ≡ true → message from to number s ≡ r
      → ((t : ℕ) → Invariant line t (taking line s (Take to from number) to from r ∷ s)) → Follows to from number r
  take_follows to from number None other a b right is after = absurd (some_message (sent from to s) number right is)
  take_follows zero from number (Some m) other a b right is after = world_follows from number m is after
  take_follows (suc z) from number (Some m) other a b right is after =
      by_first from (world_sent line z from one other a b) is after
    where
      by_first : (from_ : ℕ) → from_ ≡ 0 → message from_ (suc z) number s ≡ Some m → ((t : ℕ) → Invariant line t (taking line s (Take (suc z) from_ number) (suc z) from_ (Some m) ∷ s)) → Follows (suc z) from_ number (Some m)
      by_first zero e i q = zone_follows z number m (actor_zone line z one a) i q
      by_first (suc y) e i q = absurd (omega (arith, e))

  taken_follows : (to from number : ℕ) → Admitted line s (Take to from number) → ((t : ℕ) → Invariant line t (effects line s (Take to from number) ∷ s)) → Follows to from number (message from to number s)
  taken_follows to from number a after =
      let f = and_parts (not (nat_eq to from)) (is_actor line to && is_actor line from) a.form in
      let g = and_parts (is_actor line to) (is_actor line from) f.1 in
      take_follows to from number (message from to number s) (not-true (nat_eq to from) f.0) g.0 g.1 a.taking refl after

  -- What an event does.

  mark_now : (t : ℕ) → entered t s ≡ true → length (journey line t s) - 1 ≡ mark_of (head_found (find_train t p.world.trains))
  mark_now t on =
      let there : head_of line t s ≡ Some (record { step = last_step (journey line t s); mark = length (journey line t s) - 1; offset = head_offset line t s }) = rw on refl in
      sym (ap (λ (h : Option Head). mark_of h) (head_is line s p k invariant t ∙ there))

  pub effect_now : (e : Event) → Admitted line s e → ((t : ℕ) → Invariant line t (effects line s e ∷ s)) → effect_of (effects line s e) ≡ plain_effect line p e
  effect_now (Entry u step) a after =
      ap (λ (ms : ℕ). requesting ms u step (zone_of line step.seg.0) (facts_of u.0 s)) (sym k.time) ∙ ap (λ (f : Option Facts). requesting p.world.clock u step (zone_of line step.seg.0) f) (sym (facts_is line s p k invariant u.0))
  effect_now (Enter u) a after =
      ap (λ (ms : ℕ). entering ms u (sender_of (entry_authority u.0 s))) (sym k.time) ∙ ap (λ (o : Option ℕ). entering p.world.clock u o) (sym (sender_is line s p k invariant u.0))
  effect_now (Ask u z steps to) a after = ap (λ (ms : ℕ). telling z.0 (msg.Ask u ms steps to)) (sym k.time)
  effect_now (Report u z step offset whole) a after =
      let on = (and_parts (entered u.0 s) (step_eq step (last_step (journey line u.0 s)) && off_by (error_of u.0 s) (head_offset line u.0 s) offset) a.reporting).0 in
      ap (λ (ms : ℕ). telling z.0 (msg.Report u ms (length (journey line u.0 s) - 1) offset whole)) (sym k.time) ∙ ap (λ (n : ℕ). telling z.0 (msg.Report u p.world.clock n offset whole)) (mark_now u.0 on)
  effect_now (Time z u) a after = ap (λ (ms : ℕ). telling z.0 (msg.Time ms u)) (sym k.time)
  effect_now (Close seg) a after = ap (λ (ms : ℕ). telling (zone_of line seg.0) (msg.Order ms (orders.Close seg))) (sym k.time)
  effect_now (Open seg) a after = ap (λ (ms : ℕ). telling (zone_of line seg.0) (msg.Order ms (orders.Open seg))) (sym k.time)
  effect_now (Shorten z u st off) a after = ap (λ (ms : ℕ). telling z.0 (msg.Order ms (orders.Short u st off))) (sym k.time)
  effect_now (Take to from number) a after =
      (taken_follows to from number a after).effect ∙ ap (λ (xs : List Msg). taken_effect line p to from (slice_get xs (number - 1))) (sym (k.links from to a.form))
  effect_now _ a after = refl

  issued_now : (e : Event) → Admitted line s e → ((t : ℕ) → Invariant line t (effects line s e ∷ s)) → (plain_effect line p e).issued ≡ (effects line s e).issued
  issued_now e a after = ap (λ (x : Effect). x.issued) (sym (effect_now e a after))

  pub refines_after : (e : Event) → Admitted line s e → ((t : ℕ) → Invariant line t (effects line s e ∷ s)) → Refines line (effects line s e ∷ s) (plain_next line p e)
  refines_after (Train u long error speed kind) a after =
      let rest = not (is_declared u.0 s) && is_equipped kind in
      let b = and_parts (ranged 1 65535 u.0) (ranged 1 1000000 long && (nat_lt error long && (ranged 1 60000 speed && rest))) a.form in
      let c = and_parts (ranged 1 1000000 long) (nat_lt error long && (ranged 1 60000 speed && rest)) b.1 in
      let d = and_parts (nat_lt error long) (ranged 1 60000 speed && rest) c.1 in
      let f = and_parts (ranged 1 60000 speed) rest d.1 in
      let g = and_parts (not (is_declared u.0 s)) (is_equipped kind) f.1 in
      train_refined line u long error speed kind s p one (not-true (is_declared u.0 s) g.0) k invariant after
  refines_after (Entry u step) a after =
      entry_refined line (clock s) u step (zone_of line step.seg.0) (facts_of u.0 s) s p (plain_effect line p (Entry u step)) one (and_parts (is_declared u.0 s) (begins_at_portal line step) a.form).0 k invariant after (λ t. untaken_none t line s (Entry u step) refl) (issued_now (Entry u step) a after)
  refines_after (Enter u) a after =
      let b = and_parts (is_some (entry_authority u.0 s)) (not (entered u.0 s)) a.entering in
      enter_refined line (clock s) u (sender_of (entry_authority u.0 s)) s p (plain_effect line p (Enter u)) one a.form b.0 (not-true (entered u.0 s) b.1) k invariant after (λ t. untaken_none t line s (Enter u) refl) (issued_now (Enter u) a after)
  refines_after (Step ms moves) a after =
      let b = and_parts (ranged 1 60000 ms) (ascending 0 moves.items && list_all (known_train s) moves.items) a.form in
      let c = and_parts (ascending 0 moves.items) (list_all (known_train s) moves.items) b.1 in
      step_refined line ms moves s p one c.0 a.stopping k invariant after
  refines_after (Take to from number) a after =
      subst (λ (xs : List Msg). Refines line (effects line s (Take to from number) ∷ s) (taken_next line p to from (slice_get xs (number - 1)))) (sym (k.links from to a.form))
      (taken_follows to from number a after).refines
  refines_after e a after =
      still_refined line s p (effects line s e) (plain_effect line p e) one refl refl (λ t. record { facts = refl; entry = refl; off = refl; still = refl; taken = refl }) refl (λ t. untaken_none t line s e refl) k invariant after (issued_now e a after)

pub refines_step : (line : Line) (s : Story) (p : Plain) (e : Event) → IsLineOfOneZone line → length s < 100000000 → Admitted line s e → KeptStory line s → Refines line s p
    → ((t : ℕ) → Invariant line t s) → ((t : ℕ) → Invariant line t (effects line s e ∷ s)) → Refines line (effects line s e ∷ s) (plain_next line p e)
refines_step line s p e one short a told k invariant after = refines_after line s p one short k invariant told e a after

pub refines_start : (line : Line) → Refines line [] (plain_start line)
unfolding find_train find_controlled sent ever controls ever_issued first_told account farthest trains ids greatest_known numbers_below Distinct now_of greatest_issued clock limit_held head is_closed
refines_start line = record {
  brake = refl;
  time = refl;
  trains = λ t. refl;
  count = refl;
  zones = λ z h. record {
    id = refl;
    clock = refl;
    found = λ t. refl;
    fronts = λ t f x found. absurd cc;
    holds = λ t point. sym (and-false (nat_eq (owner line point) z));
    known = refl;
    distinct = tt;
    segments = none_long;
    closed = λ seg own. none_at seg;
    marks = λ t x found. absurd cc;
  };
  links = λ from to h. refl;
  few = λ t. omega arith;
  unasked = λ t d. refl;
  stays_off = λ t d. refl;
  authorized = λ t d. absurd cc;
}
