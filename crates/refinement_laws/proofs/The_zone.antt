-- The zone of a valid line of one zone.
use Rattle.std.proofs.Common.{◌≡◌, ℕ, zero, suc, ◌≤◌, List, [], ◌∷◌, ◌++◌, true, false, refl, sym, subst, arith}
use Rattle.std.proofs.lemmas.Bool.Decides.{nat_tests}
use Rattle.std.proofs.lemmas.Bool.{eqb-true, and_parts}
use Rattle.std.specs.Prelude.{nat_eq}
use Rattle.std.specs.List.{list_any}
use Rattle.list_laws.proofs.By_test.{by_test}
use Rattle.definitions.specs.declared.item.Item.{Item}
use Rattle.definitions.specs.declared.item.Item.TheVariants.{Zone, Segment, Joint, Portal, Buffer, Brake, Silent}
use Rattle.definitions.specs.Track.{Line, has_zone, is_actor}
use Rattle.definitions.specs.Story.{Story}
use Rattle.definitions.specs.Numbers.{least}
use Rattle.definitions.specs.Rules.{rule_of, is_any_zone, builds, finish_rule}
use Rattle.definitions.specs.Safe.{IsLineOfOneZone}
use Rattle.plain_state.specs.Zone.{PlainZone}
use Rattle.definitions.proofs.Unbroken.{unbroken}
use Rattle.definitions.specs.Zones.{zone_id}
use Rattle.plain_state.specs.Plain.{Plain, is_link}
use Rattle.plain_state.specs.Refinement.{ZoneRefines, Refines}
use Rattle.journey_laws.proofs.Zone_only.{zone_only, actor_zone}

-- The zone of a valid line is 1 to 16.

zone_ranged : (before : List Item) (z : ℕ) → rule_of before (Zone z) ≡ 0 → (1 ≤ z) × (z ≤ 16)
zone_ranged before z h = let w = (unbroken before (Zone z) h).within in (grind (arith, nat_tests), grind (arith, nat_tests))

zone_above : (items before : List Item) → builds before items ≡ true → list_any is_any_zone items ≡ true → (1 ≤ zone_id items) × (zone_id items ≤ 16)
unfolding builds zone_id
zone_above [] before b h = absurd cc
zone_above (Zone z ∷ items) before b h = zone_ranged before z (eqb-true (rule_of before (Zone z)) 0 (and_parts (nat_eq (rule_of before (Zone z)) 0) (builds (before ++ Zone z ∷ []) items) b).0)
zone_above (Segment r z len ∷ items) before b h = zone_above items (before ++ Segment r z len ∷ []) (and_parts (nat_eq (rule_of before (Segment r z len)) 0) _ b).1 h
zone_above (Joint x y ∷ items) before b h = zone_above items (before ++ Joint x y ∷ []) (and_parts (nat_eq (rule_of before (Joint x y)) 0) _ b).1 h
zone_above (Portal x ∷ items) before b h = zone_above items (before ++ Portal x ∷ []) (and_parts (nat_eq (rule_of before (Portal x)) 0) _ b).1 h
zone_above (Buffer x ∷ items) before b h = zone_above items (before ++ Buffer x ∷ []) (and_parts (nat_eq (rule_of before (Buffer x)) 0) _ b).1 h
zone_above (Brake ticks runaway rate ∷ items) before b h = zone_above items (before ++ Brake ticks runaway rate ∷ []) (and_parts (nat_eq (rule_of before (Brake ticks runaway rate)) 0) _ b).1 h
zone_above (Silent ms ∷ items) before b h = zone_above items (before ++ Silent ms ∷ []) (and_parts (nat_eq (rule_of before (Silent ms)) 0) _ b).1 h

some_zone : (line : Line) → finish_rule line ≡ 0 → list_any is_any_zone line ≡ true
unfolding finish_rule least
some_zone line h = by_test (list_any is_any_zone line) (λ y. y) (λ n. absurd (let e : 1 ≡ 0 = rw n at h in cc))

zone_within : (line : Line) → IsLineOfOneZone line → (1 ≤ zone_id line) × (zone_id line ≤ 16)
zone_within line l =
    let k = and_parts (builds [] line) (nat_eq (finish_rule line) 0) l.valid in
    zone_above line [] k.0 (some_zone line (eqb-true (finish_rule line) 0 k.1))

pub zone_positive : (line : Line) → IsLineOfOneZone line → 1 ≤ zone_id line
zone_positive line l = (zone_within line l).0

pub zone_most : (line : Line) → IsLineOfOneZone line → zone_id line ≤ 16
zone_most line l = (zone_within line l).1

-- it is declared
zone_there : (items : List Item) → list_any is_any_zone items ≡ true → has_zone items (zone_id items) ≡ true
unfolding zone_id
zone_there [] h = absurd cc
zone_there (Zone z ∷ items) h = let e : nat_eq z z ≡ true = grind (arith, nat_tests) in rw e refl
zone_there (Segment r z len ∷ items) h = zone_there items h
zone_there (Joint x y ∷ items) h = zone_there items h
zone_there (Portal x ∷ items) h = zone_there items h
zone_there (Buffer x ∷ items) h = zone_there items h
zone_there (Brake ticks runaway rate ∷ items) h = zone_there items h
zone_there (Silent ms ∷ items) h = zone_there items h

pub zone_declared_there : (line : Line) → IsLineOfOneZone line → has_zone line (zone_id line) ≡ true
zone_declared_there line l = zone_there line (some_zone line (eqb-true (finish_rule line) 0 (and_parts (builds [] line) (nat_eq (finish_rule line) 0) l.valid).1))

-- two different actors, of which one takes what the other sent
pub world_sent : (line : Line) (z from : ℕ) → IsLineOfOneZone line → nat_eq (suc z) from ≡ false → is_actor line (suc z) ≡ true → is_actor line from ≡ true → from ≡ 0
world_sent line z zero l other a b = refl
world_sent line z (suc y) l other a b =
    absurd (let c = actor_zone line z l a in let d = actor_zone line y l b in let same : nat_eq (suc z) (suc y) ≡ true = grind (arith, nat_tests) in cc)

-- its links
pub link_to_zone : (line : Line) → IsLineOfOneZone line → is_link line (zone_id line) 0 ≡ true
link_to_zone line l =
    let p = zone_positive line l in
    let other : nat_eq (zone_id line) 0 ≡ false = grind (arith, nat_tests) in
    let there = zone_declared_there line l in
    rw (other, there) refl

pub link_to_world : (line : Line) → IsLineOfOneZone line → is_link line 0 (zone_id line) ≡ true
link_to_world line l =
    let p = zone_positive line l in
    let one : nat_eq 0 (zone_id line) ≡ false = grind (arith, nat_tests) in
    let other : nat_eq (zone_id line) 0 ≡ false = grind (arith, nat_tests) in
    let there = zone_declared_there line l in
    rw (one, other, there) refl

-- what the relation says of it, and of each zone what it says of it
pub the_zone : (line : Line) (s : Story) (p : Plain) → IsLineOfOneZone line → Refines line s p → ZoneRefines line (zone_id line) s (p.zones (zone_id line))
the_zone line s p l k = k.zones (zone_id line) (zone_declared_there line l)

pub each_zone : (line : Line) (s : Story) (zones : ℕ → PlainZone) → IsLineOfOneZone line → ZoneRefines line (zone_id line) s (zones (zone_id line)) → (z : ℕ) → has_zone line z ≡ true → ZoneRefines line z s (zones z)
each_zone line s zones l k z h = subst (λ (n : ℕ). ZoneRefines line n s (zones n)) (sym (zone_only line z l.one h)) k
