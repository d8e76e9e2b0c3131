-- The greatest ordinals that were taken, one event further.
use Rattle.std.proofs.Common.{◌≡◌, ℕ, ◌≤◌, ◌∷◌, true, false, ◌&&◌, not, max, refl, sym, ap, ◌∙◌, arith, nat_eq}
use Rattle.std.proofs.lemmas.Bool.Decides.{nat_tests}
use Rattle.std.proofs.lemmas.Bool.{and_parts, not-true}
use Rattle.list_laws.proofs.By_test.{by_test}
use Rattle.definitions.specs.declared.event.Event.{Event}
use Rattle.definitions.specs.declared.event.Event.TheVariants.{Take, Lost}
use Rattle.definitions.specs.Track.{Line, is_actor}
use Rattle.definitions.specs.Story.{Story}
use Rattle.definitions.specs.Premises.{built}
use Rattle.definitions.specs.Steps.{effects, taken_by, taken_most}
use Rattle.definitions.specs.Safe.{IsLineOfOneZone}
use Rattle.definitions.specs.Zones.{zone_id}
use Rattle.event_laws.proofs.By_does.{effect_event}
use Rattle.journey_laws.proofs.Zone_only.{zone_only}
use Rattle.line_state.specs.State.{Tally, taken_with, lost_with, tally_behind}

pub actor_is : (line : Line) (a : ℕ) → IsLineOfOneZone line → is_actor line a ≡ true → nat_eq a 0 ≡ false → a ≡ zone_id line
actor_is line a l act off = zone_only line a l.one (rw off at act)

-- a take goes between the world and the zone
takes_between : (line : Line) (to from number : ℕ) (u : Tally) → IsLineOfOneZone line → 1 ≤ zone_id line → (not (nat_eq to from) && (is_actor line to && is_actor line from)) ≡ true
    → ((taken_with to number u).by_zone ≡ max (taken_by (zone_id line) 0 (Take to from number)) u.by_zone)
    × ((taken_with to number u).by_world ≡ max (taken_by 0 (zone_id line) (Take to from number)) u.by_world)
takes_between line to from number u l positive h =
    let a = and_parts (not (nat_eq to from)) (is_actor line to && is_actor line from) h in
    let b = and_parts (is_actor line to) (is_actor line from) a.1 in
    let apart = not-true (nat_eq to from) a.0 in
    by_test (nat_eq to 0)
    (λ world.
    let off : nat_eq from 0 ≡ false = grind (arith, nat_tests) in
    let zone = actor_is line from l b.1 off in
    let not_zone : nat_eq to (zone_id line) ≡ false = grind (arith, nat_tests) in
    let by : nat_eq from (zone_id line) ≡ true = grind (arith, nat_tests) in
    rw (world, not_zone, by) (omega arith, refl))
    (λ there.
    let zone = actor_is line to l b.0 there in
    let to_zone : nat_eq to (zone_id line) ≡ true = grind (arith, nat_tests) in
    let from_world : nat_eq from 0 ≡ true = by_test (nat_eq from 0)
    (λ y. y)
    (λ n. let same = actor_is line from l b.1 n in absurd (grind (arith, nat_tests))) in
    rw (there, to_zone, from_world) (refl, omega arith))

most_next : (line : Line) (to from : ℕ) (s : Story) (e : Event) → taken_most to from (effects line s e ∷ s) ≡ max (taken_by to from e) (taken_most to from s)
unfolding taken_most
most_next line to from s e = ap (λ (x : Event). max (taken_by to from x) (taken_most to from s)) (effect_event line s e)

none_more : (n m : ℕ) → n ≡ m → n ≡ max 0 m
none_more n m h = omega arith

-- what is lost is not taken
taken_unlost : (to number : ℕ) (u : Tally) → ((lost_with to number u).by_zone ≡ u.by_zone) × ((lost_with to number u).by_world ≡ u.by_world)
taken_unlost to number u = by_test (nat_eq to 0) (λ y. rw y (refl, refl)) (λ n. rw n (refl, refl))

-- what an event that is built makes of the ordinals
pub taken_next : (line : Line) (s : Story) (e : Event) (u : Tally) → IsLineOfOneZone line → 1 ≤ zone_id line → built line s e ≡ true
    → u.by_zone ≡ taken_most (zone_id line) 0 s → u.by_world ≡ taken_most 0 (zone_id line) s
    → ((tally_behind e u).by_zone ≡ taken_most (zone_id line) 0 (effects line s e ∷ s)) × ((tally_behind e u).by_world ≡ taken_most 0 (zone_id line) (effects line s e ∷ s))
taken_next line s (Take to from number) u l positive h zone world =
    let k = takes_between line to from number u l positive h in (
      k.0 ∙ (ap (λ (n : ℕ). max (taken_by (zone_id line) 0 (Take to from number)) n) zone ∙ sym (most_next line (zone_id line) 0 s (Take to from number))),
      k.1 ∙ (ap (λ (n : ℕ). max (taken_by 0 (zone_id line) (Take to from number)) n) world ∙ sym (most_next line 0 (zone_id line) s (Take to from number))),
    )
taken_next line s (Lost from to number) u l positive h zone world =
    let k = taken_unlost to number u in (
      k.0 ∙ (none_more _ _ zone ∙ sym (most_next line (zone_id line) 0 s (Lost from to number))),
      k.1 ∙ (none_more _ _ world ∙ sym (most_next line 0 (zone_id line) s (Lost from to number))),
    )
taken_next line s e u l positive h zone world = (none_more _ _ zone ∙ sym (most_next line (zone_id line) 0 s e), none_more _ _ world ∙ sym (most_next line 0 (zone_id line) s e))
