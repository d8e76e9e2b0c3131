-- Which messages are named lost, and how many went out, one event further.
use Rattle.std.proofs.Common.{◌≡◌, ℕ, ◌+◌, ◌≤◌, ◌<◌, ◌∷◌, List, length, Bool, true, false, ◌&&◌, ◌||◌, not, set, get_or, refl, sym, ap, ◌∙◌, arith, nat_eq}
use Rattle.std.specs.Prelude.{nat_lt}
use Rattle.std.proofs.lemmas.Bool.Decides.{nat_tests}
use Rattle.std.proofs.lemmas.Bool.{and_parts, not-true}
use Rattle.std.proofs.lemmas.List.{get_or-set_same, get_or-set_other, length-set}
use Rattle.list_laws.proofs.By_test.{by_test}
use Rattle.definitions.specs.declared.event.Event.{Event}
use Rattle.definitions.specs.declared.event.Event.TheVariants.{Take, Lost}
use Rattle.definitions.specs.declared.message.Msg.{Msg}
use Rattle.definitions.specs.Track.{Line, is_actor}
use Rattle.definitions.specs.Story.{Story, messages}
use Rattle.definitions.specs.Premises.{built}
use Rattle.definitions.specs.Steps.{effects, loses, is_lost}
use Rattle.definitions.specs.Safe.{IsLineOfOneZone}
use Rattle.definitions.specs.Zones.{zone_id}
use Rattle.refinement_laws.proofs.Deliveries_zone.{lost_next}
use Rattle.line_state.specs.Losses.{lost_at, marked}
use Rattle.line_state.specs.State.{Tally, taken_with, lost_with, tally_behind}
use Rattle.line_system.specs.Kept.{KeepsLost}
use Rattle.line_system.proofs.Taken_next.{actor_is}

-- an ordinal more

marked_at : (lost : List Bool) (number n : ℕ) → number < length lost → get_or (set lost number true) n false ≡ (nat_eq number n || get_or lost n false)
marked_at lost number n lt = by_test (nat_eq number n)
    (λ y. let same : number ≡ n = grind (arith, nat_tests) in rw (y, ← same) (get_or-set_same lost number true false lt))
    (λ o. let other : n ≡ number → ⊥ = λ e. grind (arith, nat_tests) in rw o (get_or-set_other lost number n true false other))

lost_marked : (lost : List Bool) (number n : ℕ) → length lost ≡ 200001 → n ≤ 200000 → lost_at (marked number lost) n ≡ (nat_eq number n || lost_at lost n)
lost_marked lost number n size few = by_test (nat_lt number (length lost))
    (λ y. let lt : number < length lost = grind (arith, nat_tests) in rw y (marked_at lost number n lt))
    (λ o. let other : nat_eq number n ≡ false = grind (arith, nat_tests) in rw (o, other) refl)

size_marked : (lost : List Bool) (number : ℕ) → length (marked number lost) ≡ length lost
size_marked lost number = by_test (nat_lt number (length lost)) (λ y. rw y (length-set lost number true)) (λ o. rw o refl)

module _ (line : Line) (s : Story) (from to : ℕ) (lost : List Bool) (k : KeepsLost lost from to s) where
  -- by an event that names none of the link
  none_lost : (e : Event) → ((n : ℕ) → loses from to n e ≡ false) → KeepsLost lost from to (effects line s e ∷ s)
  none_lost e none = record {
    size = k.size;
    agree = λ n few. k.agree n few ∙ sym (lost_next line s e from to n ∙ ap (λ (b : Bool). b || is_lost from to n s) (none n));
  }

  -- by one that names one of it
  one_lost : (number : ℕ) → ((n : ℕ) → loses from to n (Lost from to number) ≡ nat_eq number n) → KeepsLost (marked number lost) from to (effects line s (Lost from to number) ∷ s)
  one_lost number is = record {
    size = size_marked lost number ∙ k.size;
    agree = λ n few.
        lost_marked lost number n k.size few
        ∙ (ap (λ (b : Bool). nat_eq number n || b) (k.agree n few)
        ∙ sym (lost_next line s (Lost from to number) from to n ∙ ap (λ (b : Bool). b || is_lost from to n s) (is n)));
  }

itself : (a b number n : ℕ) → loses a b n (Lost a b number) ≡ nat_eq number n
itself a b number n =
    let x : nat_eq a a ≡ true = grind (arith, nat_tests) in
    let y : nat_eq b b ≡ true = grind (arith, nat_tests) in
    rw (x, y) refl

-- an event of the other link
other_to : (a b from to number n : ℕ) → nat_eq to b ≡ false → loses a b n (Lost from to number) ≡ false
other_to a b from to number n h = by_test (nat_eq from a) (λ y. rw (y, h) refl) (λ o. rw o refl)

pub record BothLost (line : Line) (u : Tally) (s : Story) : Type 0 where
  pub zone : KeepsLost u.lost_to_zone 0 (zone_id line) s
  pub world : KeepsLost u.lost_to_world (zone_id line) 0 s

same_lost : (line : Line) (s : Story) (e : Event) (u : Tally) → ((from to n : ℕ) → loses from to n e ≡ false) → BothLost line u s → BothLost line u (effects line s e ∷ s)
same_lost line s e u none k = record {
  zone = none_lost line s 0 (zone_id line) u.lost_to_zone k.zone e (none 0 (zone_id line));
  world = none_lost line s (zone_id line) 0 u.lost_to_world k.world e (none (zone_id line) 0);
}

loss_next : (line : Line) (s : Story) (from to number : ℕ) (u : Tally) → IsLineOfOneZone line → 1 ≤ zone_id line → (not (nat_eq to from) && (is_actor line from && is_actor line to)) ≡ true
    → BothLost line u s → BothLost line (lost_with to number u) (effects line s (Lost from to number) ∷ s)
loss_next line s from to number u l positive h k =
    let a = and_parts (not (nat_eq to from)) (is_actor line from && is_actor line to) h in
    let b = and_parts (is_actor line from) (is_actor line to) a.1 in
    let apart = not-true (nat_eq to from) a.0 in
    by_test (nat_eq to 0)
    (λ world.
    let off : nat_eq from 0 ≡ false = grind (arith, nat_tests) in
    let zone = actor_is line from l b.0 off in
    let none : to ≡ 0 = grind (arith, nat_tests) in
    let not_zone : nat_eq to (zone_id line) ≡ false = grind (arith, nat_tests) in
    rw world (record {
      zone = none_lost line s 0 (zone_id line) u.lost_to_zone k.zone (Lost from to number) (λ n. other_to 0 (zone_id line) from to number n not_zone);
      world = rw (zone, none) (one_lost line s (zone_id line) 0 u.lost_to_world k.world number (itself (zone_id line) 0 number));
    }))
    (λ there.
    let zone = actor_is line to l b.1 there in
    let world : from ≡ 0 = by_test (nat_eq from 0)
    (λ y. grind (arith, nat_tests))
    (λ n. let same = actor_is line from l b.0 n in absurd (let again : nat_eq to from ≡ true = grind (arith, nat_tests) in cc)) in
    rw there (record {
      zone = rw (zone, world) (one_lost line s 0 (zone_id line) u.lost_to_zone k.zone number (itself 0 (zone_id line) number));
      world = none_lost line s (zone_id line) 0 u.lost_to_world k.world (Lost from to number) (λ n. other_to (zone_id line) 0 from to number n there);
    }))

taking_keeps : (line : Line) (s : Story) (to number : ℕ) (u : Tally) → BothLost line u s → BothLost line (taken_with to number u) s
taking_keeps line s to number u k = by_test (nat_eq to 0) (λ y. rw y (record { zone = k.zone; world = k.world })) (λ n. rw n (record { zone = k.zone; world = k.world }))

-- what an event that is built makes of what is lost
pub both_next : (line : Line) (s : Story) (e : Event) (u : Tally) → IsLineOfOneZone line → 1 ≤ zone_id line → built line s e ≡ true → BothLost line u s → BothLost line (tally_behind e u) (effects line s e ∷ s)
both_next line s (Take to from number) u l positive h k = taking_keeps line (effects line s (Take to from number) ∷ s) to number u (same_lost line s (Take to from number) u (λ a b n. refl) k)
both_next line s (Lost from to number) u l positive h k = loss_next line s from to number u l positive h k
both_next line s e u l positive h k = same_lost line s e u (λ a b n. refl) k

-- and of the count of messages
same_count : (e : Event) (u : Tally) → (tally_behind e u).messages ≡ u.messages
same_count (Take to from number) u = by_test (nat_eq to 0) (λ y. rw y refl) (λ n. rw n refl)
same_count (Lost from to number) u = by_test (nat_eq to 0) (λ y. rw y refl) (λ n. rw n refl)
same_count _ u = refl

pub count_next : (line : Line) (s : Story) (e : Event) (u : Tally) (issued : List (ℕ × Msg)) → issued ≡ (effects line s e).issued → u.messages ≡ messages s → (tally_behind e u).messages + length issued ≡ messages (effects line s e ∷ s)
unfolding messages
count_next line s e u issued is k = ap (λ (n : ℕ). n + length issued) (same_count e u ∙ k) ∙ ap (λ (xs : List (ℕ × Msg)). messages s + length xs) is
