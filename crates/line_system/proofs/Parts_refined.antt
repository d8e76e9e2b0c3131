-- What the program keeps of a line of one zone tells what the plain state tells.
use Rattle.std.proofs.Common.{◌≡◌, ℕ, zero, suc, List, ◌++◌, true, false, ◌&&◌, not, Option, Some, None, refl, sym, ◌∙◌, ap, subst, arith, length, ◌-◌}
use Rattle.std.specs.Prelude.{nat_eq, slice_get}
use Rattle.std.proofs.lemmas.Bool.Decides.{nat_tests}
use Rattle.std.proofs.lemmas.Bool.{and_parts}
use Rattle.definitions.specs.declared.event.Event.{Event}
use Rattle.definitions.specs.declared.event.Event.TheVariants.{Take}
use Rattle.definitions.specs.declared.message.Msg.{Msg}
use Rattle.definitions.specs.Track.{Line, is_actor}
use Rattle.definitions.specs.Story.{Story, sent, to_actor}
use Rattle.definitions.specs.Steps.{Effect}
use Rattle.definitions.specs.Premises.{built}
use Rattle.definitions.specs.Safe.{IsLineOfOneZone}
use Rattle.plain_state.specs.World.{PlainWorld, find_train, world_take_effect, world_take_next, world_event_effect, world_event_next}
use Rattle.plain_state.specs.Zone.{PlainZone, zone_take_effect, zone_take_next}
use Rattle.definitions.specs.Zones.{zone_id}
use Rattle.plain_state.specs.Plain.{Plain, is_link, by_world, by_zone, taken_next, plain_next}
use Rattle.plain_state.specs.Refinement.{ZoneRefines, Refines}
use Rattle.refinement_laws.proofs.The_zone.{zone_positive, link_to_zone, link_to_world, the_zone, each_zone}
use Rattle.journey_laws.proofs.Zone_only.{actor_zone}
use Rattle.line_state.specs.State.{Parts, links_of, plain_of, world_moved, zone_moved, parts_taken, parts_next}

-- its number
pub own_id : (line : Line) (s : Story) (k : Parts) → IsLineOfOneZone line → Refines line s (plain_of k) → k.zone.id ≡ zone_id line
own_id line s k one refines = (the_zone line s (plain_of k) one refines).id

module _ (line : Line) (one : IsLineOfOneZone line) (k : Parts) (id : k.zone.id ≡ zone_id line) where
  own : nat_eq (zone_id line) k.zone.id ≡ true
  own = grind (arith, nat_tests)

  off : nat_eq (zone_id line) 0 ≡ false
  off = let p = zone_positive line one in grind (arith, nat_tests)

  off_zone : nat_eq 0 (zone_id line) ≡ false
  off_zone = let p = zone_positive line one in grind (arith, nat_tests)

  itself : nat_eq (zone_id line) (zone_id line) ≡ true
  itself = grind (arith, nat_tests)

  -- the links between the world and the zone
  pub from_world : links_of k 0 (zone_id line) ≡ k.to_zone
  from_world = rw own refl

  pub from_zone : links_of k (zone_id line) 0 ≡ k.to_world
  from_zone = rw (off, own) refl

  links_told : (s : Story) → k.to_zone ≡ sent 0 (zone_id line) s → k.to_world ≡ sent (zone_id line) 0 s → (from to : ℕ) → is_link line to from ≡ true → links_of k from to ≡ sent from to s
  links_told s zone world zero zero h = absurd cc
  links_told s zone world zero (suc to) h =
      let there = actor_zone line to one (and_parts (is_actor line (suc to)) (is_actor line 0) (and_parts (not (nat_eq (suc to) 0)) (is_actor line (suc to) && is_actor line 0) h).1).0 in
      subst (λ (n : ℕ). links_of k 0 n ≡ sent 0 n s) (sym there) (from_world ∙ zone)
  links_told s zone world (suc from) zero h =
      let there = actor_zone line from one (and_parts (is_actor line 0) (is_actor line (suc from)) (and_parts (not (nat_eq 0 (suc from))) (is_actor line 0 && is_actor line (suc from)) h).1).1 in
      subst (λ (n : ℕ). links_of k n 0 ≡ sent n 0 s) (sym there) (from_zone ∙ world)
  links_told s zone world (suc from) (suc to) h =
      let a = and_parts (not (nat_eq (suc to) (suc from))) (is_actor line (suc to) && is_actor line (suc from)) h in
      let b = and_parts (is_actor line (suc to)) (is_actor line (suc from)) a.1 in
      let y = actor_zone line to one b.0 in
      let z = actor_zone line from one b.1 in
      let other = a.0 in
      absurd (let same : nat_eq (suc to) (suc from) ≡ true = grind (arith, nat_tests) in cc)

-- a plain state that has the same world, zone and links
pub same_refined : (line : Line) (s : Story) (k : Parts) (q : Plain) → IsLineOfOneZone line → q.world ≡ k.world → q.zones (zone_id line) ≡ k.zone → q.links 0 (zone_id line) ≡ k.to_zone → q.links (zone_id line) 0 ≡ k.to_world
    → Refines line s q → Refines line s (plain_of k)
same_refined line s k q one world zone to_zone to_world refines =
    let here = subst (λ (z : PlainZone). ZoneRefines line (zone_id line) s z) zone (the_zone line s q one refines) in
    record {
      brake = ap (λ (w : PlainWorld). w.brake) (sym world) ∙ refines.brake;
      time = ap (λ (w : PlainWorld). w.clock) (sym world) ∙ refines.time;
      trains = λ t. ap (λ (w : PlainWorld). find_train t w.trains) (sym world) ∙ refines.trains t;
      count = ap (λ (w : PlainWorld). length w.trains) (sym world) ∙ refines.count;
      zones = each_zone line s (λ z. k.zone) one here;
      links = links_told line one k here.id s (sym to_zone ∙ refines.links 0 (zone_id line) (link_to_zone line one)) (sym to_world ∙ refines.links (zone_id line) 0 (link_to_world line one));
      few = refines.few;
      unasked = refines.unasked;
      stays_off = refines.stays_off;
      authorized = refines.authorized;
    }

module _ (line : Line) (s : Story) (one : IsLineOfOneZone line) (k : Parts) (id : k.zone.id ≡ zone_id line) where
  world_refined : (w : PlainWorld) (x : Effect) → Refines line s (by_world (plain_of k) w x) → Refines line s (plain_of (world_moved k w x))
  world_refined w x refines =
      same_refined line s (world_moved k w x) (by_world (plain_of k) w x) one refl refl
      (ap (λ (ms : List Msg). ms ++ to_actor (zone_id line) x.issued) (from_world line one k id) ∙ ap (λ (n : ℕ). k.to_zone ++ to_actor n x.issued) (sym id))
      (rw (off_zone line one k id) (from_zone line one k id))
      refines

  zone_refined : (y : PlainZone) (x : Effect) → Refines line s (by_zone (plain_of k) (zone_id line) y x) → Refines line s (plain_of (zone_moved k y x))
  zone_refined y x refines =
      same_refined line s (zone_moved k y x) (by_zone (plain_of k) (zone_id line) y x) one refl (rw (itself line one k id) refl)
      (rw (off line one k id) (from_world line one k id))
      (rw (itself line one k id) (ap (λ (ms : List Msg). ms ++ to_actor 0 x.issued) (from_zone line one k id)))
      refines

  taken_refined : (to from : ℕ) (r : Option Msg) → is_actor line to ≡ true → Refines line s (taken_next line (plain_of k) to from r) → Refines line s (plain_of (parts_taken line k to from r))
  taken_refined to from None act refines = refines
  taken_refined zero from (Some m) act refines = world_refined (world_take_next line k.world from m) (world_take_effect line k.world from m) refines
  taken_refined (suc z) from (Some m) act refines =
      zone_refined (zone_take_next line k.zone from m) (zone_take_effect line k.zone from m)
      (subst (λ (n : ℕ). Refines line s (by_zone (plain_of k) n (zone_take_next line k.zone from m) (zone_take_effect line k.zone from m))) (actor_zone line z one act) refines)

  event_refined : (e : Event) → Refines line s (by_world (plain_of k) (world_event_next line k.world e) (world_event_effect line k.world e)) → Refines line s (plain_of (world_moved k (world_event_next line k.world e) (world_event_effect line k.world e)))
  event_refined e refines = world_refined (world_event_next line k.world e) (world_event_effect line k.world e) refines

  pub parts_refined : (before : Story) (e : Event) → built line before e ≡ true → Refines line s (plain_next line (plain_of k) e) → Refines line s (plain_of (parts_next line k e))
  parts_refined before (Take to from number) h refines =
      let act = (and_parts (is_actor line to) (is_actor line from) (and_parts (not (nat_eq to from)) (is_actor line to && is_actor line from) h).1).0 in
      taken_refined to from (slice_get (links_of k from to) (number - 1)) act refines
  parts_refined before e h refines = event_refined e refines
