-- Words: the one with which a text begins, and where a text of none gets stuck.
use Rattle.std.proofs.Common.{◌≡◌, ℕ, zero, suc, ◌+◌, ◌-◌, ◌≤◌, ◌<◌, ◌⊎◌, inl, inr, List, [], ◌∷◌, ◌++◌, length, Ok, Err, Some, None, Option, Bool, true, false, ◌&&◌, not, refl, sym, ap, subst, ◌∙◌, arith, append_assoc, get_or, max, take, drop, length-take, length-drop}
use Rattle.std.specs.Prelude.{nat_eq, nat_le}
use Rattle.std.proofs.lemmas.Bool.Decides.{nat_tests}
use Rattle.std.proofs.lemmas.List.{take-append-drop}
use Rattle.std.proofs.lemmas.Bool.{eqb-true, eq-eqb, not-true}
use Rattle.text_forms.specs.Language.{Continues}
use Rattle.text_forms.specs.Reading.{after_word, common, word_at}
use Rattle.text_forms.specs.Tables.{alike, unlike_all, apart}
use Rattle.form_codec.specs.Stuck.{Live, Stuck}
use Rattle.form_codec.proofs.Stuck_same.{stuck_same, stuck_here, stuck_front, Dead}
use Rattle.form_codec.proofs.Digits.{first_true, second_true, not_both, got}

-- one of the words, the first of which is the k-th, and then a text of its language
abbrev pub Choice : List (List ℕ) → ℕ → (ℕ → List ℕ → Type 0) → List ℕ → Type 0
Choice [] k K t = ⊥
Choice (w ∷ ws) k K t = ((u : List ℕ) × (t ≡ w ++ u) × K k u) ⊎ Choice ws (suc k) K t

after_word_some : (w u rest : List ℕ) → after_word w u ≡ Some rest → u ≡ w ++ rest
unfolding after_word
after_word_some [] u rest e = cc
after_word_some (c ∷ w) [] rest e = absurd cc
after_word_some (c ∷ w) (b ∷ u) rest e = by (nat_eq b c) refl (after_word_some w u rest)
  where
    by : (s : Bool) → nat_eq b c ≡ s → (after_word w u ≡ Some rest → u ≡ w ++ rest) → b ∷ u ≡ c ∷ w ++ rest
    by true h more = let k = eqb-true b c h in let m = more (rw h at e) in cc
    by false h more = let e2 = rw h at e in absurd cc

after_word_self : (w rest : List ℕ) → after_word w (w ++ rest) ≡ Some rest
unfolding after_word
after_word_self [] rest = refl
after_word_self (c ∷ w) rest = rw (eq-eqb c c refl) (after_word_self w rest)

alike_of : (w v x y : List ℕ) → w ++ x ≡ v ++ y → alike w v ≡ true
unfolding alike
alike_of [] v x y e = refl
alike_of (a ∷ w) [] x y e = refl
alike_of (a ∷ w) (b ∷ v) x y e =
    let h : a ≡ b = cc in
    let k : w ++ x ≡ v ++ y = cc in
    subst (λ c. (nat_eq a c && alike w v) ≡ true) h (rw (eq-eqb a a refl) (alike_of w v x y k))

no_choice : (w : List ℕ) (ws : List (List ℕ)) (k : ℕ) (K : ℕ → List ℕ → Type 0) (t : List ℕ) → unlike_all w ws ≡ true → Choice ws k K (w ++ t) → ⊥
unfolding unlike_all
no_choice w [] k K t h c = c
no_choice w (v ∷ ws) k K t h (inl c) = not_both (alike w v) (alike_of w v t c.0 c.1) (not-true (alike w v) (first_true (not (alike w v)) (unlike_all w ws) h))
no_choice w (v ∷ ws) k K t h (inr c) = no_choice w ws (suc k) K t (second_true (not (alike w v)) (unlike_all w ws) h) c

cancel : (w x y : List ℕ) → w ++ x ≡ w ++ y → x ≡ y
cancel [] x y e = e
cancel (c ∷ w) x y e = let h : w ++ x ≡ w ++ y = cc in cancel w x y h

-- the word that was found
pub record Found (K : ℕ → List ℕ → Type 0) (ws : List (List ℕ)) (k v : ℕ) (u rest : List ℕ) : Type 0 where
  pub word : List ℕ
  pub split : u ≡ word ++ rest
  pub from : k ≤ v
  pub below : v < k + length ws
  pub is : word ≡ get_or ws (v - k) []
  pub said : (t : List ℕ) → K v t → Choice ws k K (word ++ t)
  pub says : (t : List ℕ) → Choice ws k K (word ++ t) → K v t
  pub one : (x : List ℕ) → unlike_all x ws ≡ true → alike x word ≡ false

get_later : (w : List ℕ) (ws : List (List ℕ)) (k v : ℕ) → suc k ≤ v → get_or (w ∷ ws) (v - k) [] ≡ get_or ws (v - suc k) []
get_later w ws k v h = ap (λ n. get_or (w ∷ ws) n []) e
  where
    e : v - k ≡ suc (v - suc k)
    e = omega arith

found_by : (K : ℕ → List ℕ → Type 0) (w : List ℕ) (ws : List (List ℕ)) (k l v : ℕ) (u rest : List ℕ) → apart (w ∷ ws) ≡ true
    → (word_at (suc k) (max l (common w u)) ws u ≡ Ok (v, rest) → Found K ws (suc k) v u rest)
    → (o : Option (List ℕ)) → after_word w u ≡ o → word_at k l (w ∷ ws) u ≡ Ok (v, rest) → Found K (w ∷ ws) k v u rest
unfolding word_at apart unlike_all
found_by K w ws k l v u rest a more (Some r) h e =
    let e2 : got (k, r) ≡ Ok (v, rest) = rw h at e in
    let p : ◌≡◌ {A = ℕ × List ℕ} (k, r) (v, rest) = cc in
    let v_is : k ≡ v = ap (λ (x : ℕ × List ℕ). x.0) p in
    let r_is : r ≡ rest = ap (λ (x : ℕ × List ℕ). x.1) p in
    let zero_is : 0 ≡ v - k = omega arith in
    record {
      word = w;
      split = after_word_some w u r h ∙ ap (λ xs. w ++ xs) r_is;
      from = omega arith;
      below = omega arith;
      is = ap (λ n. get_or (w ∷ ws) n []) zero_is;
      said = λ t s. inl (t, refl, subst (λ n. K n t) (sym v_is) s);
      says = λ t c. elim c [
        | inl s ↦ subst (λ n. K n t) v_is (subst (K k) (sym (cancel w t s.0 s.1)) s.2)
        | inr s ↦ absurd (no_choice w ws (suc k) K t (first_true (unlike_all w ws) (apart ws) a) s)
      ];
      one = λ x y. not-true (alike x w) (first_true (not (alike x w)) (unlike_all x ws) y);
    }
found_by K w ws k l v u rest a more None h e =
    let f = more (rw h at e) in
    record {
      word = f.word;
      split = f.split;
      from = omega (arith, f.from);
      below = omega (arith, f.below);
      is = f.is ∙ sym (get_later w ws k v f.from);
      said = λ t s. inr (f.said t s);
      says = λ t c. elim c [
        | inl s ↦ not_both (alike w f.word) (alike_of w f.word s.0 t (sym s.1)) (f.one w (first_true (unlike_all w ws) (apart ws) a))
        | inr s ↦ f.says t s
      ];
      one = λ x y. f.one x (second_true (not (alike x w)) (unlike_all x ws) y);
    }

pub word_found : (K : ℕ → List ℕ → Type 0) (ws : List (List ℕ)) (k l v : ℕ) (u rest : List ℕ) → apart ws ≡ true → word_at k l ws u ≡ Ok (v, rest) → Found K ws k v u rest
unfolding word_at apart
word_found K [] k l v u rest a e = absurd cc
word_found K (w ∷ ws) k l v u rest a e =
    found_by K w ws k l v u rest a (word_found K ws (suc k) (max l (common w u)) v u rest (second_true (unlike_all w ws) (apart ws) a)) (after_word w u) refl e

pub word_on : (K : ℕ → List ℕ → Type 0) (ws : List (List ℕ)) (k l v : ℕ) (u rest : List ℕ) (left : ℕ) → apart ws ≡ true → word_at k l ws u ≡ Ok (v, rest) → Stuck (K v) rest left → Stuck (Choice ws k K) u left
word_on K ws k l v u rest left a e s =
    let f = word_found K ws k l v u rest a e in
    subst (λ xs. Stuck (Choice ws k K) xs left) (sym f.split)
    (stuck_front f.word (Choice ws k K) rest left (stuck_same (K v) (λ t. Choice ws k K (f.word ++ t)) rest left f.said f.says s))

none_by : (w v rest : List ℕ) → alike w v ≡ false → (o : Option (List ℕ)) → after_word w (v ++ rest) ≡ o → after_word w (v ++ rest) ≡ None
none_by w v rest h None e = e
none_by w v rest h (Some r) e = not_both (alike w v) (alike_of w v r rest (sym (after_word_some w (v ++ rest) r e))) h

unlike_at : (w : List ℕ) (ws : List (List ℕ)) (i : ℕ) → i < length ws → unlike_all w ws ≡ true → alike w (get_or ws i []) ≡ false
unfolding unlike_all
unlike_at w [] i h a = absurd (omega arith)
unlike_at w (v ∷ ws) zero h a = not-true (alike w v) (first_true (not (alike w v)) (unlike_all w ws) a)
unlike_at w (v ∷ ws) (suc i) h a = unlike_at w ws i (omega arith) (second_true (not (alike w v)) (unlike_all w ws) a)

pub word_again : (ws : List (List ℕ)) (k l i : ℕ) (rest : List ℕ) → apart ws ≡ true → i < length ws → word_at k l ws (get_or ws i [] ++ rest) ≡ Ok (k + i, rest)
unfolding word_at apart
word_again [] k l i rest a h = absurd (omega arith)
word_again (w ∷ ws) k l zero rest a h = rw (after_word_self w rest) (ap (λ n. got (n, rest)) e)
  where
    e : k ≡ k + 0
    e = omega arith
word_again (w ∷ ws) k l (suc i) rest a h =
    let unlike = unlike_at w ws i (omega arith) (first_true (unlike_all w ws) (apart ws) a) in
    let v = get_or ws i [] in
    let none : after_word w (v ++ rest) ≡ None = none_by w v rest unlike (after_word w (v ++ rest)) refl in
    rw none (word_again ws (suc k) (max l (common w (v ++ rest))) i rest (second_true (unlike_all w ws) (apart ws) a) (omega arith) ∙ ap (λ n. got (n, rest)) e)
  where
    e : suc k + i ≡ k + suc i
    e = omega arith

-- what no word begins

abbrev pub best : List (List ℕ) → List ℕ → ℕ
best [] u = 0
best (w ∷ ws) u = max (common w u) (best ws u)

abbrev pub NoneOf : List (List ℕ) → List ℕ → Type 0
NoneOf [] u = Unit {0}
NoneOf (w ∷ ws) u = (after_word w u ≡ None) × NoneOf ws u

lost_by : (w : List ℕ) (ws : List (List ℕ)) (k l left : ℕ) (u : List ℕ)
    → (word_at (suc k) (max l (common w u)) ws u ≡ Err left → (left ≡ length u - max (max l (common w u)) (best ws u)) × NoneOf ws u)
    → (o : Option (List ℕ)) → after_word w u ≡ o → word_at k l (w ∷ ws) u ≡ Err left → (left ≡ length u - max l (best (w ∷ ws) u)) × NoneOf (w ∷ ws) u
unfolding word_at
lost_by w ws k l left u more (Some r) h e = let e2 = rw h at e in absurd cc
lost_by w ws k l left u more None h e = let m = more (rw h at e) in (omega (arith, m.0), (h, m.1))

word_lost : (ws : List (List ℕ)) (k l left : ℕ) (u : List ℕ) → word_at k l ws u ≡ Err left → (left ≡ length u - max l (best ws u)) × NoneOf ws u
unfolding word_at
word_lost [] k l left u e = let h : length u - l ≡ left = cc in (omega arith, tt)
word_lost (w ∷ ws) k l left u e = lost_by w ws k l left u (word_lost ws (suc k) (max l (common w u)) left u) (after_word w u) refl e

common_front : (w u : List ℕ) → take (common w u) u ++ drop (common w u) w ≡ w
unfolding common
common_front [] u = refl
common_front (c ∷ w) [] = refl
common_front (c ∷ w) (b ∷ u) = by (nat_eq b c) refl (common_front w u)
  where
    by : (s : Bool) → nat_eq b c ≡ s → take (common w u) u ++ drop (common w u) w ≡ w → take (common (c ∷ w) (b ∷ u)) (b ∷ u) ++ drop (common (c ∷ w) (b ∷ u)) (c ∷ w) ≡ c ∷ w
    by true h m = let k = eqb-true b c h in rw h cc
    by false h m = rw h refl

pub common_short : (w u : List ℕ) → common w u ≤ length u
unfolding common
common_short [] u = omega arith
common_short (c ∷ w) [] = omega arith
common_short (c ∷ w) (b ∷ u) = by (nat_eq b c) refl (common_short w u)
  where
    by : (s : Bool) → nat_eq b c ≡ s → common w u ≤ length u → common (c ∷ w) (b ∷ u) ≤ length (b ∷ u)
    by true h m = rw h (omega arith)
    by false h m = rw h (omega arith)

best_short : (ws : List (List ℕ)) (u : List ℕ) → best ws u ≤ length u
best_short [] u = omega arith
best_short (w ∷ ws) u = omega (arith, common_short w u, best_short ws u)

word_live : (w : List ℕ) (ws : List (List ℕ)) (k : ℕ) (K : ℕ → List ℕ → Type 0) (u : List ℕ) → Live (K k) → Continues (Choice (w ∷ ws) k K) (take (common w u) u)
word_live w ws k K u live =
    (drop (common w u) w ++ live.0, inl (live.0, sym (append_assoc (take (common w u) u) (drop (common w u) w) live.0) ∙ ap (λ xs. xs ++ live.0) (common_front w u), live.1))

best_live : (w : List ℕ) (ws : List (List ℕ)) (k : ℕ) (K : ℕ → List ℕ → Type 0) (u : List ℕ) → ((j : ℕ) → k ≤ j → j < k + length (w ∷ ws) → Live (K j)) → Continues (Choice (w ∷ ws) k K) (take (best (w ∷ ws) u) u)
best_live w [] k K u live = subst (λ n. Continues (Choice (w ∷ []) k K) (take n u)) e (word_live w [] k K u (live k (omega arith) (omega arith)))
  where
    e : common w u ≡ max (common w u) 0
    e = omega arith
best_live w (v ∷ ws) k K u live = by (nat_le (best (v ∷ ws) u) (common w u)) refl (best_live v ws (suc k) K u (λ j a b. live j (omega arith) (omega arith)))
  where
    by : (s : Bool) → nat_le (best (v ∷ ws) u) (common w u) ≡ s → Continues (Choice (v ∷ ws) (suc k) K) (take (best (v ∷ ws) u) u) → Continues (Choice (w ∷ v ∷ ws) k K) (take (best (w ∷ v ∷ ws) u) u)
    by true h m =
        let e : common w u ≡ best (w ∷ v ∷ ws) u = grind (arith, nat_tests, h) in
        subst (λ n. Continues (Choice (w ∷ v ∷ ws) k K) (take n u)) e (word_live w (v ∷ ws) k K u (live k (omega arith) (omega arith)))
    by false h m =
        let e : best (v ∷ ws) u ≡ best (w ∷ v ∷ ws) u = grind (arith, nat_tests, h) in
        subst (λ n. Continues (Choice (w ∷ v ∷ ws) k K) (take n u)) e (m.0, inr m.1)

diverges : (w a r t x : List ℕ) (b : ℕ) → a ++ b ∷ t ≡ w ++ x → after_word w (a ++ b ∷ r) ≡ None → length a < common w (a ++ b ∷ r)
unfolding after_word common
diverges [] a r t x b e n = absurd cc
diverges (c ∷ w) [] r t x b e n =
    let h : b ≡ c = cc in
    let k : nat_eq b c ≡ true = subst (λ d. nat_eq b d ≡ true) h (eq-eqb b b refl) in
    rw k (omega arith)
diverges (c ∷ w) (y ∷ a) r t x b e n =
    let h : y ≡ c = cc in
    let m : a ++ b ∷ t ≡ w ++ x = cc in
    let k : nat_eq y c ≡ true = subst (λ d. nat_eq y d ≡ true) h (eq-eqb y y refl) in
    let i = diverges w a r t x b m (rw k at n) in
    rw k (omega arith)

dead_choice : (ws : List (List ℕ)) (k : ℕ) (K : ℕ → List ℕ → Type 0) (a r : List ℕ) → NoneOf ws (a ++ r) → best ws (a ++ r) ≤ length a → Dead (λ t. Choice ws k K (a ++ t)) r
dead_choice [] k K a [] none le = λ c. c
dead_choice [] k K a (b ∷ r) none le = λ t c. c
dead_choice (w ∷ ws) k K a [] none le = λ c. elim c [
  | inl s ↦ let e = after_word_self w s.0 in let h = subst (λ xs. after_word w xs ≡ None) s.1 none.0 in absurd cc
  | inr s ↦ dead_choice ws (suc k) K a [] none.1 (omega arith) s
]
dead_choice (w ∷ ws) k K a (b ∷ r) none le = λ t c. elim c [
  | inl s ↦ absurd (omega (arith, diverges w a r t s.0 b s.1 none.0))
  | inr s ↦ dead_choice ws (suc k) K a (b ∷ r) none.1 (omega arith) t s
]

pub word_no : (w : List ℕ) (ws : List (List ℕ)) (k : ℕ) (K : ℕ → List ℕ → Type 0) (u : List ℕ) (left : ℕ) → ((j : ℕ) → k ≤ j → j < k + length (w ∷ ws) → Live (K j)) → word_at k 0 (w ∷ ws) u ≡ Err left → Stuck (Choice (w ∷ ws) k K) u left
word_no w ws k K u left live e =
    let l = word_lost (w ∷ ws) k 0 left u e in
    let n = best (w ∷ ws) u in
    let short = best_short (w ∷ ws) u in
    let split : u ≡ take n u ++ drop n u = sym (take-append-drop n u) in
    let long : length (take n u) ≡ n = simp length-take (omega arith) in
    let rest : length (drop n u) ≡ left = simp length-drop (omega (arith, l.0)) in
    let none : NoneOf (w ∷ ws) (take n u ++ drop n u) = subst (NoneOf (w ∷ ws)) split l.1 in
    let le : best (w ∷ ws) (take n u ++ drop n u) ≤ length (take n u) = subst (λ xs. best (w ∷ ws) xs ≤ length (take n u)) split (omega (arith, long)) in
    subst (λ xs. Stuck (Choice (w ∷ ws) k K) xs left) (sym split)
    (stuck_front (take n u) (Choice (w ∷ ws) k K) (drop n u) left
    (subst (Stuck (λ t. Choice (w ∷ ws) k K (take n u ++ t)) (drop n u)) rest
    (stuck_here (λ t. Choice (w ∷ ws) k K (take n u ++ t)) (drop n u) (best_live w ws k K u live) (dead_choice (w ∷ ws) k K (take n u) (drop n u) none le))))
