-- What a transition of the zone leaves of the plain state.
use Rattle.std.proofs.Common.{◌≡◌, ℕ, suc, ◌+◌, ◌-◌, ◌*◌, ◌≤◌, max, List, ◌∷◌, length, Some, Bool, true, refl, sym, ◌∙◌, ap, subst, arith}
use Rattle.std.proofs.lemmas.Bool.Decides.{nat_tests}
use Rattle.std.specs.Prelude.{nat_eq}
use Rattle.track_points.specs.Points.{steps_to}
use Rattle.definitions.specs.declared.message.Msg.{Msg}
use Rattle.definitions.specs.Track.{Line, seg_len}
use Rattle.definitions.specs.Story.{Transition, Story, greatest_in, greatest_issued}
use Rattle.definitions.specs.World.{auth_number, head}
use Rattle.definitions.specs.Control.{known_trains, message_time, last_issued, controls, known_facts}
use Rattle.definitions.specs.Account.{with_at}
use Rattle.definitions.specs.Closures.{closed_after}
use Rattle.definitions.specs.Longest.{longest_end, longest_route}
use Rattle.definitions.specs.Steps.{Effect}
use Rattle.definitions.specs.Safe.{IsLineOfOneZone}
use Rattle.plain_state.specs.declared.Controlled.{Controlled}
use Rattle.plain_state.specs.Zone.{PlainZone, find_controlled, hold_has, clock_after, closed_acted_on}
use Rattle.definitions.specs.Zones.{zone_id}
use Rattle.plain_state.specs.Plain.{Plain, by_zone as zone_next}
use Rattle.plain_state.specs.Refinement.{zone_train, ids, Distinct, ZoneRefines, Refines}
use Rattle.event_laws.proofs.Still_world.{head_still, unasked_same, off_same, authorized_same, as_many, clock_still}
use Rattle.journey_laws.proofs.Invariant.{Invariant}
use Rattle.event_laws.proofs.Controls_same.{now_acted}
use Rattle.refinement_laws.proofs.The_zone.{the_zone, each_zone}
use Rattle.refinement_laws.proofs.Closed_now.{OrderPlaced, acted_length, acted_at, closed_next}
use Rattle.refinement_laws.proofs.Way_of.{way_of}
use Rattle.refinement_laws.proofs.Mark_is.{way_number}
use Rattle.refinement_laws.proofs.Holds_are.{found_controls, found_kept, fronts_are, holds_are}
use Rattle.refinement_laws.proofs.World_moves.{world_same, posted_sent}
use Rattle.refinement_laws.proofs.World_take_refined.{take_transition}

-- the message that the zone takes from the world, and what it gives
abbrev pub zone_made : ℕ → ℕ → Msg → Effect → Transition
zone_made z number m x = take_transition (suc z) 0 number m x

-- it moves no train
pub zone_heads : (t z number : ℕ) (m : Msg) (e : Effect) (s : Story) → head t s ≤ head t (zone_made z number m e ∷ s)
zone_heads t z number m e s = let h = head_still t (zone_made z number m e) s refl in omega (arith, h)

-- the trains after it
pub record ZoneMoves (line : Line) (s : Story) (x : Transition) (trains : List Controlled) : Type 0 where
  pub found : (t : ℕ) → find_controlled t trains ≡ zone_train line t (x ∷ s)
  pub known : ids trains ≡ known_trains (zone_id line) (x ∷ s)
  pub distinct : Distinct trains
  pub few : (t : ℕ) → greatest_in (auth_number t) x.issued ≤ last_issued t s + 1
  pub steps : (t : ℕ) → controls (zone_id line) t (x ∷ s) ≡ true → length (steps_to (seg_len line) (longest_route line t (x ∷ s)) (longest_end line t (x ∷ s))) ≤ 24 * length (x ∷ s)

last_next : (t : ℕ) (x : Transition) (s : Story) → greatest_in (auth_number t) x.issued ≤ last_issued t s + 1 → last_issued t s ≤ length s + 1 → last_issued t (x ∷ s) ≤ length (x ∷ s) + 1
unfolding greatest_issued
last_next t x s h k = omega (arith, h, k)

-- the zone after it
zone_moved : (line : Line) (z number : ℕ) (m : Msg) (e : Effect) (s : Story) (y : PlainZone) (trains : List Controlled) → IsLineOfOneZone line → suc z ≡ zone_id line → ZoneRefines line (zone_id line) s y → ZoneMoves line s (zone_made z number m e) trains
    → OrderPlaced 32768 m → ((t : ℕ) → Invariant line t (zone_made z number m e ∷ s)) → ZoneRefines line (zone_id line) (zone_made z number m e ∷ s) (record { id = y.id; clock = clock_after y.clock m; trains = trains; closed = closed_acted_on m y.closed })
zone_moved line z number m e s y trains one zone k moves placed after =
    let x = zone_made z number m e in
    let here : nat_eq (suc z) (zone_id line) ≡ true = grind (arith, nat_tests) in
    record {
      id = k.id;
      clock = ap (λ (n : ℕ). max n (message_time m)) k.clock ∙ sym (now_acted (zone_id line) x s here);
      found = moves.found;
      fronts = fronts_are line (x ∷ s) one.valid trains moves.found after;
      holds = λ t point. ap (λ (n : ℕ). hold_has line n (find_controlled t trains) point) k.id ∙ holds_are line (x ∷ s) one.valid trains moves.found after t point;
      known = moves.known;
      distinct = moves.distinct;
      segments = acted_length m y.closed ∙ k.segments;
      closed = λ seg own.
          acted_at 0 seg m y.closed (subst (λ (n : ℕ). OrderPlaced n m) (sym k.segments) placed)
          ∙ (ap (λ (b : Bool). closed_after seg (Some (0, m)) b) (k.closed seg own) ∙ sym (closed_next (zone_id line) seg x s here));
      marks = λ t w found.
          let c = found_controls line (x ∷ s) one.valid trains moves.found after t w found in
          let is2 = found_kept line (x ∷ s) one.valid trains moves.found after t w c found in
          let v = way_of line t (x ∷ s) one.valid (after t) c in
          let order = v.order in
          let ordered = v.ordered in
          let within = v.within in
          let n = way_number (seg_len line) (longest_route line t (x ∷ s)) (((after t).fronts c).lo - (known_facts (zone_id line) t (x ∷ s)).long) (longest_end line t (x ∷ s)) (omega (arith, order, ordered, within)) v.room in
          let b = moves.steps t c in
          subst (λ (u : Controlled). u.way.mark + length u.way.path.steps.items ≤ 24 * length (x ∷ s)) is2 (omega (arith, n, b));
    }

at_own : (z : ℕ) (y : PlainZone) (zones : ℕ → PlainZone) → y ≡ with_at z y zones z
at_own z y zones = let same : nat_eq z z ≡ true = grind (arith, nat_tests) in rw same refl

pub zone_refined : (line : Line) (z number : ℕ) (m : Msg) (e y : Effect) (s : Story) (p : Plain) (trains : List Controlled) → IsLineOfOneZone line → suc z ≡ zone_id line → Refines line s p → ZoneMoves line s (zone_made z number m e) trains
    → OrderPlaced 32768 m → ((t : ℕ) → Invariant line t (zone_made z number m e ∷ s)) → y.issued ≡ e.issued
    → Refines line (zone_made z number m e ∷ s)
    (zone_next p (zone_id line) (record { id = (p.zones (zone_id line)).id; clock = clock_after (p.zones (zone_id line)).clock m; trains = trains; closed = closed_acted_on m (p.zones (zone_id line)).closed }) y)
zone_refined line z number m e y s p trains one zone k moves placed after is =
    let x = zone_made z number m e in
    let behind : PlainZone = record { id = (p.zones (zone_id line)).id; clock = clock_after (p.zones (zone_id line)).clock m; trains = trains; closed = closed_acted_on m (p.zones (zone_id line)).closed } in
    record {
      brake = k.brake;
      time = k.time ∙ clock_still x s refl;
      trains = λ t. k.trains t ∙ sym (world_same line t x s (record { facts = refl; entry = refl; off = refl; still = refl; taken = refl }));
      count = k.count ∙ sym (as_many x s refl);
      zones = each_zone line (x ∷ s) (with_at (zone_id line) behind p.zones) one
          (subst (λ (w : PlainZone). ZoneRefines line (zone_id line) (x ∷ s) w) (at_own (zone_id line) behind p.zones) (zone_moved line z number m e s (p.zones (zone_id line)) trains one zone (the_zone line s p one k) moves placed after));
      links = λ from to h. posted_sent (zone_id line) from to x s y p.links zone is (k.links from to h);
      few = λ t. last_next t x s (moves.few t) (k.few t);
      unasked = λ t. unasked_same t x s refl (k.unasked t);
      stays_off = λ t. off_same t x s refl (k.stays_off t);
      authorized = λ t. authorized_same t x s refl (k.authorized t);
    }
