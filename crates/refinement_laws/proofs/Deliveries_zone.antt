-- What a delivery stands for, by the links of the plain state: the takes of what its one sender sent, nobody took and no event
-- named lost.
use Rattle.std.proofs.Common.{◌≡◌, ℕ, zero, suc, ◌+◌, ◌-◌, ◌<◌, ◌≤◌, List, [], ◌∷◌, ◌++◌, length, filter, flat_map, if◌then◌else◌, Bool, true, false, ◌||◌, not, refl, sym, ◌∙◌, ap, subst, arith}
use Rattle.std.proofs.lemmas.Bool.Decides.{nat_tests}
use Rattle.std.proofs.lemmas.Bool.{and_right, or_right}
use Rattle.std.proofs.Math.Path.{fun_ext}
use Rattle.std.specs.Prelude.{nat_eq}
use Rattle.list_laws.proofs.By_test.{by_test}
use Rattle.definitions.specs.declared.event.Event.{Event}
use Rattle.definitions.specs.declared.event.Event.TheVariants.{Take}
use Rattle.definitions.specs.declared.message.Msg.{Msg}
use Rattle.definitions.specs.Track.{Line, is_actor, has_zone}
use Rattle.definitions.specs.Story.{Story, sent, ever}
use Rattle.definitions.specs.Steps.{effects, taken_most, takes_from, loses, is_lost, takes_lost, due, sends_to, actors, deliveries}
use Rattle.definitions.specs.Safe.{IsLineOfOneZone}
use Rattle.definitions.specs.Zones.{zone_id}
use Rattle.plain_state.specs.Plain.{Plain, is_link, takes_but}
use Rattle.plain_state.specs.Refinement.{Refines}
use Rattle.event_laws.proofs.By_does.{effect_event}
use Rattle.refinement_laws.proofs.The_zone.{zone_positive, zone_most, zone_declared_there, link_to_zone, link_to_world}
use Rattle.journey_laws.proofs.Zone_only.{actor_zone}

-- some numbers, one after the other
unfoldable range : ℕ → ℕ → List ℕ
range n zero = []
range n (suc m) = n ∷ range (suc n) m

range_none : (k n m : ℕ) → k < n → filter (λ (x : ℕ). nat_eq x k) (range n m) ≡ []
unfolding range
range_none k n zero h = refl
range_none k n (suc m) h =
    let e : nat_eq n k ≡ false = grind (arith, nat_tests) in
    rw e (range_none k (suc n) m (omega arith))

range_one : (k n m : ℕ) → n ≤ k → k < n + m → filter (λ (x : ℕ). nat_eq x k) (range n m) ≡ k ∷ []
unfolding range
range_one k n zero h l = absurd (omega (arith, h, l))
range_one k n (suc m) h l = by_test (nat_eq n k)
    (λ y.
    let e : n ≡ k = grind (arith, nat_tests) in
    rw y (ap (λ (xs : List ℕ). n ∷ xs) (range_none k (suc n) m (omega (arith, e))) ∙ ap (λ (x : ℕ). x ∷ []) e))
    (λ o. rw o (range_one k (suc n) m (grind (arith, nat_tests)) (omega (arith, l))))

actors_are : actors ≡ range 0 17
unfolding range
actors_are = refl

one_actor : (k : ℕ) → k ≤ 16 → filter (λ (x : ℕ). nat_eq x k) actors ≡ k ∷ []
one_actor k h = ap (λ (xs : List ℕ). filter (λ (x : ℕ). nat_eq x k) xs) actors_are ∙ range_one k 0 17 (omega arith) (omega (arith, h))

-- What is lost is passed over.

but_lost : (lost : ℕ → Bool) (to from : ℕ) (s : Story) → ((n : ℕ) → lost n ≡ is_lost from to n s) → (number n : ℕ) → filter (λ e. not (takes_lost s e)) (takes_from to from number n) ≡ takes_but lost to from number n
unfolding takes_from takes_but
but_lost lost to from s agrees number zero = refl
but_lost lost to from s agrees number (suc n) =
    let i = but_lost lost to from s agrees (number + 1) n in
    by_test (lost number)
    (λ y. let there : is_lost from to number s ≡ true = sym (agrees number) ∙ y in rw (y, there) i)
    (λ o. let there : is_lost from to number s ≡ false = sym (agrees number) ∙ o in rw (o, there) (ap (λ (es : List Event). Take to from number ∷ es) i))

-- one take more, unless its message is lost
pub but_more : (lost : ℕ → Bool) (to from number n : ℕ) → takes_but lost to from number (suc n) ≡ takes_but lost to from number n ++ (if lost (number + n) then [] else Take to from (number + n) ∷ [])
unfolding takes_but
but_more lost to from number zero =
    let same : number ≡ number + 0 = omega arith in
    ap (λ (k : ℕ). if lost k then [] else Take to from k ∷ []) same
but_more lost to from number (suc n) =
    let i = but_more lost to from (number + 1) n in
    let same : number + 1 + n ≡ number + suc n = omega arith in
    let j = i ∙ ap (λ (k : ℕ). takes_but lost to from (number + 1) n ++ (if lost k then [] else Take to from k ∷ [])) same in
    by_test (lost number)
    (λ y. rw y j)
    (λ o. rw o (ap (λ (es : List Event). Take to from number ∷ es) j))

-- what is lost after an event
pub lost_next : (line : Line) (s : Story) (e : Event) (from to n : ℕ) → is_lost from to n (effects line s e ∷ s) ≡ (loses from to n e || is_lost from to n s)
unfolding ever
lost_next line s e from to n = ap (λ (x : Event). loses from to n x || is_lost from to n s) (effect_event line s e)

module _ (line : Line) (one : IsLineOfOneZone line) where
  to_zone : (from : ℕ) → sends_to line (zone_id line) from ≡ nat_eq from 0
  to_zone zero = let p = zone_positive line one in let e : nat_eq (zone_id line) 0 ≡ false = grind (arith, nat_tests) in rw e refl
  to_zone (suc y) = by_test (is_actor line (suc y))
      (λ a.
      let z = actor_zone line y one a in
      let e : nat_eq (zone_id line) (suc y) ≡ true = grind (arith, nat_tests) in
      rw e (let o : nat_eq (suc y) 0 ≡ false = grind (arith, nat_tests) in sym o))
      (λ n.
      let o : nat_eq (suc y) 0 ≡ false = grind (arith, nat_tests) in
      and_right (not (nat_eq (zone_id line) (suc y))) (is_actor line (suc y)) n ∙ sym o)

  to_world : (from : ℕ) → sends_to line 0 from ≡ nat_eq from (zone_id line)
  to_world zero = let p = zone_positive line one in let e : nat_eq 0 (zone_id line) ≡ false = grind (arith, nat_tests) in sym e
  to_world (suc y) =
      let o : nat_eq 0 (suc y) ≡ false = grind (arith, nat_tests) in
      by_test (is_actor line (suc y))
      (λ a.
      let z = actor_zone line y one a in
      let e : nat_eq (suc y) (zone_id line) ≡ true = grind (arith, nat_tests) in
      (rw (o, a) (sym e)))
      (λ n. by_test (nat_eq (suc y) (zone_id line))
      (λ e.
      let same : suc y ≡ zone_id line = grind (arith, nat_tests) in
      let there : has_zone line (suc y) ≡ true = subst (λ (i : ℕ). has_zone line i ≡ true) (sym same) (zone_declared_there line one) in
      absurd (let c : true ≡ false = sym (or_right (nat_eq (suc y) 0) (has_zone line (suc y)) there) ∙ n in cc))
      (λ e. and_right (not (nat_eq 0 (suc y))) (is_actor line (suc y)) n ∙ sym e))

  behind_one : (s : Story) (to from : ℕ) → flat_map (due to s) (from ∷ []) ≡ due to s from
  behind_one s to from = none_more (due to s from)
    where
      none_more : (xs : List Event) → xs ++ [] ≡ xs
      none_more [] = refl
      none_more (x ∷ xs) = ap (λ (ys : List Event). x ∷ ys) (none_more xs)

  module _ (s : Story) (p : Plain) (k : Refines line s p) where
    -- the takes of what a single sender sent, but of what is lost
    alone : (lost : ℕ → Bool) (to from : ℕ) → is_link line to from ≡ true → ((n : ℕ) → lost n ≡ is_lost from to n s) → flat_map (due to s) (filter (sends_to line to) actors) ≡ due to s from
        → deliveries line s to ≡ takes_but lost to from (taken_most to from s + 1) (length (p.links from to) - taken_most to from s)
    alone lost to from link agrees is =
        ap (λ (xs : List Event). filter (λ e. not (takes_lost s e)) xs) is
        ∙ (but_lost lost to from s agrees (taken_most to from s + 1) (length (sent from to s) - taken_most to from s)
        ∙ ap (λ (ms : List Msg). takes_but lost to from (taken_most to from s + 1) (length ms - taken_most to from s)) (sym (k.links from to link)))

    -- to the zone: what the world sent; to the world: what the zone sent
    pub deliveries_zone : (lost : ℕ → Bool) → ((n : ℕ) → lost n ≡ is_lost 0 (zone_id line) n s)
        → deliveries line s (zone_id line) ≡ takes_but lost (zone_id line) 0 (taken_most (zone_id line) 0 s + 1) (length (p.links 0 (zone_id line)) - taken_most (zone_id line) 0 s)
    deliveries_zone lost agrees =
        alone lost (zone_id line) 0 (link_to_zone line one) agrees
        (ap (λ (f : ℕ → Bool). flat_map (due (zone_id line) s) (filter f actors)) (fun_ext to_zone)
        ∙ (ap (λ (xs : List ℕ). flat_map (due (zone_id line) s) xs) (one_actor 0 (omega arith))
        ∙ behind_one s (zone_id line) 0))

    pub deliveries_world : (lost : ℕ → Bool) → ((n : ℕ) → lost n ≡ is_lost (zone_id line) 0 n s)
        → deliveries line s 0 ≡ takes_but lost 0 (zone_id line) (taken_most 0 (zone_id line) s + 1) (length (p.links (zone_id line) 0) - taken_most 0 (zone_id line) s)
    deliveries_world lost agrees =
        alone lost 0 (zone_id line) (link_to_world line one) agrees
        (ap (λ (f : ℕ → Bool). flat_map (due 0 s) (filter f actors)) (fun_ext to_world)
        ∙ (ap (λ (xs : List ℕ). flat_map (due 0 s) xs) (one_actor (zone_id line) (zone_most line one))
        ∙ behind_one s 0 (zone_id line)))
