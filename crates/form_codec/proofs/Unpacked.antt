-- The place of the word with which a text begins, found first, and what is in common only where there is none.
use Rattle.std.proofs.Common.{◌≡◌, ℕ, zero, suc, ◌+◌, ◌-◌, ◌*◌, ◌/◌, ◌%◌, ◌≤◌, ◌<◌, List, [], ◌∷◌, length, drop, get_or, max, Ok, Err, Some, None, Bool, true, false, refl, sym, ap, ◌∙◌, arith}
use Rattle.std.specs.Prelude.{nat_eq, map}
use Rattle.std.specs.Borrow.{Bor}
use Rattle.std.proofs.lemmas.Bool.Decides.{nat_tests}
use Rattle.std.proofs.lemmas.Bool.{eqb-true}
use Rattle.text_forms.specs.Reading.{Read, after_word, common, word_at, digits_at}
use Rattle.form_codec.proofs.Word_found.{common_short}
use Rattle.form_codec.specs.Finding.{find_at, best_of, digits_packed}
use Rattle.std.specs.Char.{is_ascii_digit}

whole_by : (b c : ℕ) (w u : List ℕ) → (nat_eq (common w u) (length w) ≡ true → after_word w u ≡ Some (drop (length w) u)) → (s : Bool) → nat_eq b c ≡ s → nat_eq (common (c ∷ w) (b ∷ u)) (length (c ∷ w)) ≡ true → after_word (c ∷ w) (b ∷ u) ≡ Some (drop (length (c ∷ w)) (b ∷ u))
unfolding after_word common
whole_by b c w u more true h e =
    let e2 : nat_eq (suc (common w u)) (suc (length w)) ≡ true = rw h at e in
    rw h (more (grind (arith, nat_tests, e2)))
whole_by b c w u more false h e =
    let e2 : nat_eq 0 (suc (length w)) ≡ true = rw h at e in
    absurd (zero_not (length w) e2)
  where
    zero_not : (n : ℕ) → nat_eq 0 (suc n) ≡ true → ⊥
    zero_not n k = grind (arith, nat_tests, k)

pub whole : (w u : List ℕ) → nat_eq (common w u) (length w) ≡ true → after_word w u ≡ Some (drop (length w) u)
unfolding after_word common
whole [] u e = refl
whole (c ∷ w) [] e = absurd (zero_not (length w) e)
  where
    zero_not : (n : ℕ) → nat_eq 0 (suc n) ≡ true → ⊥
    zero_not n k = grind (arith, nat_tests, k)
whole (c ∷ w) (b ∷ u) e = whole_by b c w u (whole w u) (nat_eq b c) refl e

part_by : (b c : ℕ) (w u : List ℕ) → (nat_eq (common w u) (length w) ≡ false → after_word w u ≡ None) → (s : Bool) → nat_eq b c ≡ s → nat_eq (common (c ∷ w) (b ∷ u)) (length (c ∷ w)) ≡ false → after_word (c ∷ w) (b ∷ u) ≡ None
unfolding after_word common
part_by b c w u more true h e =
    let e2 : nat_eq (suc (common w u)) (suc (length w)) ≡ false = rw h at e in
    rw h (more (grind (arith, nat_tests, e2)))
part_by b c w u more false h e = rw h refl

pub partly : (w u : List ℕ) → nat_eq (common w u) (length w) ≡ false → after_word w u ≡ None
unfolding after_word common
partly [] u e = absurd (never e)
  where
    never : nat_eq 0 0 ≡ false → ⊥
    never k = grind (arith, nat_tests, k)
partly (c ∷ w) [] e = refl
partly (c ∷ w) (b ∷ u) e = part_by b c w u (partly w u) (nat_eq b c) refl e

-- what is found gives what reading gives
pub record Finds (k l : ℕ) (ws : List (List ℕ)) (u : List ℕ) : Type 0 where
  pub some : find_at ws u < length ws → word_at k l ws u ≡ Ok (k + find_at ws u, drop (length (get_or ws (find_at ws u) [])) u)
  pub none : length ws ≤ find_at ws u → word_at k l ws u ≡ Err (length u - best_of l ws u)

abbrev found : ℕ × List ℕ → Read ℕ
found x = Ok x

finds_by : (k l : ℕ) (w : List ℕ) (ws : List (List ℕ)) (u : List ℕ) → Finds (suc k) (max l (common w u)) ws u → (s : Bool) → nat_eq (common w u) (length w) ≡ s → Finds k l (w ∷ ws) u
unfolding word_at find_at best_of
finds_by k l w ws u more true e =
    let b = whole w u e in
    let z : k ≡ k + 0 = omega arith in
    record { some = λ h. rw (e, b) (ap (λ n. found (n, drop (length w) u)) z); none = λ h. let h2 : suc (length ws) ≤ 0 = rw e at h in absurd (omega arith) }
finds_by k l w ws u more false e =
    let b = partly w u e in
    let z : suc k + find_at ws u ≡ k + suc (find_at ws u) = omega arith in
    record {
      some = λ h. let h2 : suc (find_at ws u) < suc (length ws) = rw e at h in rw (e, b) (more.some (omega arith) ∙ ap (λ n. found (n, drop (length (get_or ws (find_at ws u) [])) u)) z);
      none = λ h. let h2 : suc (length ws) ≤ suc (find_at ws u) = rw e at h in rw b (more.none (omega arith));
    }

pub finds : (k l : ℕ) (ws : List (List ℕ)) (u : List ℕ) → Finds k l ws u
unfolding word_at find_at best_of
finds k l [] u = record { some = λ h. absurd (omega arith); none = λ h. refl }
finds k l (w ∷ ws) u = finds_by k l w ws u (finds (suc k) (max l (common w u)) ws u) (nat_eq (common w u) (length w)) refl

-- how many digits were read
pub record Packed (n c k : ℕ) (u : List ℕ) : Type 0 where
  pub count : ℕ
  pub few : count ≤ k
  pub within : count ≤ length u
  pub value : digits_packed n c k u ≡ 16 * (digits_at n k u).0 + (c + count)
  pub rest : (digits_at n k u).1 ≡ drop count u

packed_by : (n c k b : ℕ) (u : List ℕ) → Packed (10 * n + (b - 48)) (suc c) k u → (s : Bool) → is_ascii_digit b ≡ s → Packed n c (suc k) (b ∷ u)
unfolding digits_packed digits_at
packed_by n c k b u p true e = record { count = suc p.count; few = omega (arith, p.few); within = omega (arith, p.within); value = rw e (p.value ∙ last p.count); rest = rw e p.rest }
  where
    last : (m : ℕ) → 16 * (digits_at (10 * n + (b - 48)) k u).0 + (suc c + m) ≡ 16 * (digits_at (10 * n + (b - 48)) k u).0 + (c + suc m)
    last m = omega arith
packed_by n c k b u p false e = record { count = 0; few = omega arith; within = omega arith; value = rw e (omega arith); rest = rw e refl }

pub packed : (n c k : ℕ) (u : List ℕ) → Packed n c k u
unfolding digits_packed digits_at
packed n c k [] = record { count = 0; few = omega arith; within = omega arith; value = omega arith; rest = refl }
packed n c zero (b ∷ u) = record { count = 0; few = omega arith; within = omega arith; value = omega arith; rest = refl }
packed n c (suc k) (b ∷ u) = packed_by n c k b u (packed (10 * n + (b - 48)) (suc c) k u) (is_ascii_digit b) refl

-- what was packed is unpacked
pub record Unpacked (n k : ℕ) (u : List ℕ) (p : ℕ) : Type 0 where
  pub value : p / 16 ≡ (digits_at n k u).0
  pub rest : drop (p % 16) u ≡ (digits_at n k u).1
  pub within : p % 16 ≤ length u

pub unpacked : (n k : ℕ) (u : List ℕ) (p : ℕ) → k < 16 → p ≡ digits_packed n 0 k u → Unpacked n k u p
unpacked n k u p small e =
    let q = packed n 0 k u in
    let v = (digits_at n k u).0 in
    let few : q.count ≤ k = q.few in
    let e2 : p ≡ 16 * v + (0 + q.count) = e ∙ q.value in
    let high : p / 16 ≡ v = omega arith in
    let low : p % 16 ≡ q.count = omega arith in
    record { value = high; rest = ap (λ m. drop m u) low ∙ sym q.rest; within = omega (arith, q.within) }

pub pair_of : (n k : ℕ) (u : List ℕ) (p : ℕ) (back : List ℕ) → k < 16 → p ≡ digits_packed n 0 k u → back ≡ drop (p % 16) u → ◌≡◌ {A = ℕ × List ℕ} (p / 16, back) (digits_at n k u)
pair_of n k u p back small e b =
    let q = unpacked n k u p small e in
    ap (λ m. both m back) q.value ∙ ap (λ xs. both (digits_at n k u).0 xs) (b ∙ q.rest)
  where
    both : ℕ → List ℕ → ℕ × List ℕ
    both m xs = (m, xs)

within_by : (w : List ℕ) (ws : List (List ℕ)) (u : List ℕ) → (find_at ws u < length ws → length (get_or ws (find_at ws u) []) ≤ length u) → (s : Bool) → nat_eq (common w u) (length w) ≡ s → find_at (w ∷ ws) u < length (w ∷ ws) → length (get_or (w ∷ ws) (find_at (w ∷ ws) u) []) ≤ length u
unfolding find_at
within_by w ws u more true e h = rw e (let k = eqb-true (common w u) (length w) e in omega (arith, common_short w u))
within_by w ws u more false e h = let h2 : suc (find_at ws u) < suc (length ws) = rw e at h in rw e (more (omega arith))

pub found_within : (ws : List (List ℕ)) (u : List ℕ) → find_at ws u < length ws → length (get_or ws (find_at ws u) []) ≤ length u
unfolding find_at
found_within [] u h = absurd (omega arith)
found_within (w ∷ ws) u h = within_by w ws u (found_within ws u) (nat_eq (common w u) (length w)) refl h

abbrev pub texts : List (Bor (List ℕ)) → List (List ℕ)
texts ws = map (λ (w : Bor (List ℕ)). w.now) ws

pub texts_at : (ws : List (Bor (List ℕ))) (k : ℕ) (d : Bor (List ℕ)) → d.now ≡ [] → get_or (texts ws) k [] ≡ (get_or ws k d).now
texts_at [] k d e = sym e
texts_at (w ∷ ws) zero d e = refl
texts_at (w ∷ ws) (suc k) d e = texts_at ws k d e

pub texts_length : (ws : List (Bor (List ℕ))) → length (texts ws) ≡ length ws
texts_length [] = refl
texts_length (w ∷ ws) = ap suc (texts_length ws)

abbrev pub no_word : Bor (List ℕ)
no_word = record { ref_ptr = (0, 0); now = [] }

-- the word that was found, and where none was

pub any_within : (xs : List (List ℕ)) (u w : List ℕ) (k : ℕ) → k ≡ 0 + find_at xs u → k < length xs → get_or xs k [] ≡ w → length w ≤ length u
any_within xs u w k e h g =
    let z : k ≡ find_at xs u = omega arith in
    let f = found_within xs u (omega arith) in
    let m = ap (λ n. length (get_or xs n [])) z in
    let t = ap (λ (ys : List ℕ). length ys) g in
    omega (arith, f, m, t)

pub any_some : (xs : List (List ℕ)) (u w back : List ℕ) (k : ℕ) → k ≡ 0 + find_at xs u → k < length xs → get_or xs k [] ≡ w → back ≡ drop (length w) u → word_at 0 0 xs u ≡ Ok (k, back)
any_some xs u w back k e h g b =
    let z : k ≡ find_at xs u = omega arith in
    let s = (finds 0 0 xs u).some (omega arith) in
    let r : drop (length (get_or xs (find_at xs u) [])) u ≡ back =
    ap (λ n. drop (length (get_or xs n [])) u) (sym z) ∙ (ap (λ (ys : List ℕ). drop (length ys) u) g ∙ sym b) in
    s ∙ (ap (λ n. found (n, drop (length (get_or xs (find_at xs u) [])) u)) (sym e) ∙ ap (λ ys. found (k, ys)) r)

pub any_none : (xs : List (List ℕ)) (u : List ℕ) (k both : ℕ) → k ≡ 0 + find_at xs u → length xs ≤ k → both ≡ best_of 0 xs u → word_at 0 0 xs u ≡ Err (length u - both)
any_none xs u k both e h b = (finds 0 0 xs u).none (omega arith) ∙ ap (λ n. lost (length u - n)) (sym b)
  where
    lost : ℕ → Read ℕ
    lost n = Err n

pub word_within : (ws : List (Bor (List ℕ))) (u : List ℕ) (k : ℕ) → k ≡ 0 + find_at (texts ws) u → k < length ws → length (get_or ws k no_word).now ≤ length u
word_within ws u k e h = any_within (texts ws) u (get_or ws k no_word).now k e (omega (arith, texts_length ws)) (texts_at ws k no_word refl)

pub word_some : (ws : List (Bor (List ℕ))) (u back : List ℕ) (k : ℕ) → k ≡ 0 + find_at (texts ws) u → k < length ws → back ≡ drop (length (get_or ws k no_word).now) u → word_at 0 0 (texts ws) u ≡ Ok (k, back)
word_some ws u back k e h b = any_some (texts ws) u (get_or ws k no_word).now back k e (omega (arith, texts_length ws)) (texts_at ws k no_word refl) b

pub word_none : (ws : List (Bor (List ℕ))) (u : List ℕ) (k both : ℕ) → k ≡ 0 + find_at (texts ws) u → length ws ≤ k → both ≡ best_of 0 (texts ws) u → word_at 0 0 (texts ws) u ≡ Err (length u - both)
word_none ws u k both e h b = any_none (texts ws) u k both e (omega (arith, texts_length ws)) b
