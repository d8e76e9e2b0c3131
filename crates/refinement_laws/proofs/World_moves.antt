-- What a transition of the world leaves of the plain state, and which trains it leaves as they are.
use Rattle.std.proofs.Common.{◌≡◌, ℕ, ◌≤◌, List, ◌∷◌, ◌++◌, length, None, true, false, refl, sym, ◌∙◌, ap, subst, arith}
use Rattle.std.specs.Prelude.{nat_eq, is_some}
use Rattle.list_laws.proofs.By_test.{by_test}
use Rattle.definitions.specs.declared.message.Msg.{Msg}
use Rattle.definitions.specs.Track.{Line}
use Rattle.definitions.specs.Story.{Transition, Story, to_actor, sent}
use Rattle.definitions.specs.World.{is_declared, first_entry, entered, head, entry_authority, clock}
use Rattle.definitions.specs.World as ts
use Rattle.definitions.specs.Steps.{Effect}
use Rattle.definitions.specs.Safe.{IsLineOfOneZone}
use Rattle.plain_state.specs.declared.WorldTrain.{WorldTrain}
use Rattle.plain_state.specs.World.{find_train}
use Rattle.plain_state.specs.Zone.{PlainZone, find_controlled, hold_has}
use Rattle.definitions.specs.Zones.{zone_id}
use Rattle.plain_state.specs.Plain.{Plain, posted, by_world as world_next}
use Rattle.plain_state.specs.Refinement.{world_train, zone_train, ZoneRefines, Refines}
use Rattle.event_laws.proofs.Entered_same.{entered_same}
use Rattle.event_laws.proofs.Still_world.{StillWorld, head_same, facts_still, entry_still, authority_still, last_still, limit_still, sent_by, sent_else, journey_still}
use Rattle.journey_laws.proofs.Invariant.{Invariant}
use Rattle.refinement_laws.proofs.The_zone.{the_zone, each_zone}
use Rattle.event_laws.proofs.Last_quiet.{last_quiet}
use Rattle.refinement_laws.proofs.Holds_are.{fronts_are, holds_are}
use Rattle.event_laws.proofs.Issued_all.{NoAuth}
use Rattle.refinement_laws.proofs.Zone_idle.{idle, known_idle, now_still, zone_idle}
use Rattle.refinement_laws.proofs.Train_made.{pace_still, taken_none}
use Rattle.refinement_laws.proofs.Closed_now.{closed_idle}

pub world_same : (line : Line) (t : ℕ) (x : Transition) (s : Story) → StillWorld t x → world_train line t (x ∷ s) ≡ world_train line t s
world_same line t x s h =
    let j = journey_still line t x s (rw (h.entry, h.off, h.still) refl) in
    rw (j, facts_still t x s h.facts, entry_still t x s h.entry, authority_still t x s h.taken, entered_same t x s h.off, head_same t x s h.off h.still, limit_still line t x s h.off h.taken, last_still t x s h.off h.taken, pace_still t x s h.still, taken_none line t x s h.off h.taken) refl

-- what an actor's step puts onto its links
pub posted_sent : (actor from to : ℕ) (x : Transition) (s : Story) (y : Effect) (links : ℕ → ℕ → List Msg) → x.actor ≡ actor → y.issued ≡ x.issued → links from to ≡ sent from to s → posted actor y links from to ≡ sent from to (x ∷ s)
posted_sent actor from to x s y links acts is told = by_test (nat_eq x.actor from)
    (λ h.
    let here : nat_eq actor from ≡ true = subst (λ (n : ℕ). nat_eq n from ≡ true) acts h in
    rw here (ap (λ (ms : List Msg). ms ++ to_actor to y.issued) told ∙ (ap (λ (issued : List (ℕ × Msg)). sent from to s ++ to_actor to issued) is ∙ sym (sent_by from to x s h))))
    (λ h.
    let other : nat_eq actor from ≡ false = subst (λ (n : ℕ). nat_eq n from ≡ false) acts h in
    rw other (told ∙ sym (sent_else from to x s h)))

-- A transition of the world, with the clock and the trains after it.
pub record WorldMoves (line : Line) (s : Story) (x : Transition) (ms : ℕ) (trains : List WorldTrain) : Type 0 where
  pub by_world : x.actor ≡ 0
  pub time : ms ≡ clock (x ∷ s)
  pub found : (t : ℕ) → find_train t trains ≡ world_train line t (x ∷ s)
  pub silent : (t : ℕ) → NoAuth t x.issued
  pub heads : (t : ℕ) → head t s ≤ head t (x ∷ s)
  pub count : length trains ≡ length (ts.trains (x ∷ s))
  pub unasked : (t : ℕ) → is_declared t (x ∷ s) ≡ false → first_entry t (x ∷ s) ≡ None
  pub stays_off : (t : ℕ) → is_declared t (x ∷ s) ≡ false → entered t (x ∷ s) ≡ false
  pub authorized : (t : ℕ) → entered t (x ∷ s) ≡ true → is_some (entry_authority t (x ∷ s)) ≡ true

-- a transition of the world leaves the zone as it is
zone_stays : (line : Line) (s : Story) (z : PlainZone) (x : Transition) → IsLineOfOneZone line → ZoneRefines line (zone_id line) s z → x.actor ≡ 0 → ((t : ℕ) → NoAuth t x.issued) → ((t : ℕ) → head t s ≤ head t (x ∷ s))
    → ((t : ℕ) → Invariant line t s) → ((t : ℕ) → Invariant line t (x ∷ s)) → ZoneRefines line (zone_id line) (x ∷ s) z
zone_stays line s z x one k world silent heads invariant after =
    let ways : (t : ℕ) → find_controlled t z.trains ≡ zone_train line t (x ∷ s) = λ t. k.found t ∙ sym (zone_idle line x s one world t (silent t) (invariant t) (after t) (heads t)) in
    record {
      id = k.id;
      clock = k.clock ∙ sym (now_still line x s one world);
      found = ways;
      fronts = fronts_are line (x ∷ s) one.valid z.trains ways after;
      holds = λ t point. ap (λ (n : ℕ). hold_has line n (find_controlled t z.trains) point) k.id ∙ holds_are line (x ∷ s) one.valid z.trains ways after t point;
      known = k.known ∙ sym (known_idle line x s one world);
      distinct = k.distinct;
      segments = k.segments;
      closed = λ seg own. k.closed seg own ∙ sym (closed_idle (zone_id line) seg x s (idle line x s one world));
      marks = λ t w found. let a = k.marks t w found in omega (arith, a);
    }

pub world_refined : (line : Line) (s : Story) (p : Plain) (x : Transition) (ms : ℕ) (trains : List WorldTrain) (y : Effect) → IsLineOfOneZone line → Refines line s p → WorldMoves line s x ms trains
    → ((t : ℕ) → Invariant line t s) → ((t : ℕ) → Invariant line t (x ∷ s)) → y.issued ≡ x.issued → Refines line (x ∷ s) (world_next p (record { brake = p.world.brake; clock = ms; trains = trains }) y)
world_refined line s p x ms trains y one k m invariant after is =
    record {
      brake = k.brake;
      time = m.time;
      trains = m.found;
      count = m.count;
      zones = each_zone line (x ∷ s) p.zones one (zone_stays line s (p.zones (zone_id line)) x one (the_zone line s p one k) m.by_world m.silent m.heads invariant after);
      links = λ from to h. posted_sent 0 from to x s y p.links m.by_world is (k.links from to h);
      few = λ t. let a = k.few t in let b = last_quiet t x s (m.silent t) in omega (arith, a, b);
      unasked = m.unasked;
      stays_off = m.stays_off;
      authorized = m.authorized;
    }
