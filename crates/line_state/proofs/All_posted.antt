-- Messages put onto a link one by one, and trains looked at one by one.
use Rattle.std.proofs.Common.{◌≡◌, ℕ, ◌<◌, ◌≤◌, ◌+◌, List, [], ◌∷◌, ◌++◌, length, drop, get_or, Bool, true, false, ◌&&◌, refl, sym, ap, ◌∙◌, append_assoc, append-nil}
use Rattle.std.specs.Prelude.{nat_eq, nat_lt}
use Rattle.std.proofs.lemmas.Bool.{eq-eqb, ne_eqb, le-ltb, lt-ltb}
use Rattle.std.proofs.lemmas.List.{at_drop_more, at_drop_all}
use Rattle.track_points.specs.declared.ids.TrainId.{TrainId}
use Rattle.definitions.specs.declared.message.Msg.{Msg}
use Rattle.definitions.specs.Story.{to_actor}
use Rattle.definitions.specs.Premises.{ascending}

-- those of some messages from one on, the first of which goes to the actor, or does not
put_on : (actor : ℕ) (x : ℕ × Msg) (xs : List (ℕ × Msg)) → nat_eq x.0 actor ≡ true → to_actor actor (x ∷ xs) ≡ x.1 ∷ to_actor actor xs
unfolding to_actor
put_on actor x xs is = rw is refl

left_out : (actor : ℕ) (x : ℕ × Msg) (xs : List (ℕ × Msg)) → nat_eq x.0 actor ≡ false → to_actor actor (x ∷ xs) ≡ to_actor actor xs
unfolding to_actor
left_out actor x xs is = rw is refl

-- one message more was looked at, which is the next
module _ (actor : ℕ) (xs : List (ℕ × Msg)) (i : ℕ) (x : ℕ × Msg) (lt : i < length xs) (next : x ≡ get_or xs i x) where
  next_of : to_actor actor (drop i xs) ≡ to_actor actor (x ∷ drop (i + 1) xs)
  next_of = at_drop_more (to_actor actor) xs i x lt ∙ ap (λ (y : ℕ × Msg). to_actor actor (y ∷ drop (i + 1) xs)) (sym next)

  pub one_posted : (link : List Msg) → x.0 ≡ actor → (link ++ x.1 ∷ []) ++ to_actor actor (drop (i + 1) xs) ≡ link ++ to_actor actor (drop i xs)
  one_posted link is =
      append_assoc link (x.1 ∷ []) (to_actor actor (drop (i + 1) xs))
      ∙ ap (λ (ms : List Msg). link ++ ms) (sym (next_of ∙ put_on actor x (drop (i + 1) xs) (eq-eqb x.0 actor is)))

  pub one_passed : (link : List Msg) → (x.0 ≡ actor → ⊥) → link ++ to_actor actor (drop (i + 1) xs) ≡ link ++ to_actor actor (drop i xs)
  one_passed link other = ap (λ (ms : List Msg). link ++ ms) (sym (next_of ∙ left_out actor x (drop (i + 1) xs) (ne_eqb x.0 actor other)))

pub all_posted : (link : List Msg) (actor : ℕ) (xs : List (ℕ × Msg)) (i : ℕ) → length xs ≤ i → link ++ to_actor actor (drop i xs) ≡ link
unfolding to_actor
all_posted link actor xs i le = ap (λ (ms : List Msg). link ++ ms) (at_drop_all (to_actor actor) xs i le) ∙ append-nil link

-- trains from one on, the first of which is above another, or is not
ascends : (t : ℕ) (x : TrainId × ℕ) (xs : List (TrainId × ℕ)) → ascending t (x ∷ xs) ≡ (nat_lt t x.0.0 && ascending x.0.0 xs)
unfolding ascending
ascends t x xs = refl

next_above : (last : ℕ) (xs : List (TrainId × ℕ)) (i : ℕ) (d : TrainId × ℕ) → i < length xs → ascending last (drop i xs) ≡ (nat_lt last (get_or xs i d).0.0 && ascending (get_or xs i d).0.0 (drop (i + 1) xs))
next_above last xs i d lt = at_drop_more (ascending last) xs i d lt ∙ ascends last (get_or xs i d) (drop (i + 1) xs)

-- the trains from one on ascend exactly where all do
module _ (train last : ℕ) (xs : List (TrainId × ℕ)) (i : ℕ) (d : TrainId × ℕ) (same : ascending last (drop i xs) ≡ ascending train xs) where
  pub ends_below : i < length xs → (get_or xs i d).0.0 ≤ last → false ≡ ascending train xs
  ends_below lt le = sym (ap (λ (b : Bool). b && ascending (get_or xs i d).0.0 (drop (i + 1) xs)) (le-ltb last (get_or xs i d).0.0 le)) ∙ (sym (next_above last xs i d lt) ∙ same)

  pub goes_above : i < length xs → last < (get_or xs i d).0.0 → ascending (get_or xs i d).0.0 (drop (i + 1) xs) ≡ ascending train xs
  goes_above lt above = sym (next_above last xs i d lt ∙ ap (λ (b : Bool). b && ascending (get_or xs i d).0.0 (drop (i + 1) xs)) (lt-ltb last (get_or xs i d).0.0 above)) ∙ same

  pub all_above : length xs ≤ i → true ≡ ascending train xs
  unfolding ascending
  all_above le = sym (at_drop_all (ascending last) xs i le) ∙ same
