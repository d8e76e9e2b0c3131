-- Signs, bytes in base 16 and words, and what is read again of each part.
use Rattle.std.proofs.Common.{◌≡◌, ◌≢◌, ℕ, zero, suc, ◌+◌, ◌-◌, ◌*◌, ◌/◌, ◌%◌, ◌≤◌, ◌<◌, ◌⊎◌, inl, inr, List, [], ◌∷◌, ◌++◌, length, Ok, Err, Bool, true, false, ◌&&◌, refl, sym, ap, subst, ◌∙◌, arith, get_or}
use Rattle.std.specs.Prelude.{nat_eq, nat_lt, nat_le}
use Rattle.std.specs.Char.{is_ascii_digit}
use Rattle.std.specs.Fmt.{decimal}
use Rattle.std.proofs.lemmas.Bool.Decides.{nat_tests}
use Rattle.std.proofs.lemmas.Bool.{eqb-true, eqb-false}
use Rattle.text_forms.specs.Forms.{number_limit, signed_text, sign_text, hex_digit, byte_text}
use Rattle.text_forms.specs.Reading.{Read, ◌>>=◌, number_at, signed_at, sign_at, hex_digit_at, hex_at, word_at}
use Rattle.text_forms.specs.Tables.{apart}
use Rattle.form_codec.specs.Stuck.{Live, Stuck}
use Rattle.form_codec.proofs.Stuck_same.{stuck_same}
use Rattle.form_codec.proofs.Digits.{Bare, number_again, number_spelled, digit_least, got, lost}
use Rattle.form_codec.proofs.Word_found.{Choice, word_found, word_on, word_no}
use Rattle.form_codec.proofs.Then_live.{Then, Reads, bind_ok, bind_err, then_live, signed_low, signed_high, SignedFits}

-- a sign

sign_takes : (u : List ℕ) (v : ℕ) (rest : List ℕ) → sign_at u ≡ Ok (v, rest) → (v < 2) × (u ≡ sign_text v ++ rest)
unfolding sign_at
sign_takes [] v rest e = absurd cc
sign_takes (b ∷ u) v rest e = by (nat_eq b 43) (nat_eq b 45) refl refl
  where
    by : (s m : Bool) → nat_eq b 43 ≡ s → nat_eq b 45 ≡ m → (v < 2) × (b ∷ u ≡ sign_text v ++ rest)
    by true m h k =
        let p : ◌≡◌ {A = Read ℕ} (Ok (0, u)) (Ok (v, rest)) = rw h at e in
        let q : ◌≡◌ {A = ℕ × List ℕ} (0, u) (v, rest) = cc in
        let v_is : 0 ≡ v = ap (λ (y : ℕ × List ℕ). y.0) q in
        let u_is : u ≡ rest = ap (λ (y : ℕ × List ℕ). y.1) q in
        (omega arith, ap (λ c. c ∷ u) (eqb-true b 43 h) ∙ (ap (λ xs. 43 ∷ xs) u_is ∙ ap (λ n. sign_text n ++ rest) v_is))
    by false true h k =
        let p : ◌≡◌ {A = Read ℕ} (Ok (1, u)) (Ok (v, rest)) = rw (h, k) at e in
        let q : ◌≡◌ {A = ℕ × List ℕ} (1, u) (v, rest) = cc in
        let v_is : 1 ≡ v = ap (λ (y : ℕ × List ℕ). y.0) q in
        let u_is : u ≡ rest = ap (λ (y : ℕ × List ℕ). y.1) q in
        (omega arith, ap (λ c. c ∷ u) (eqb-true b 45 k) ∙ (ap (λ xs. 45 ∷ xs) u_is ∙ ap (λ n. sign_text n ++ rest) v_is))
    by false false h k = let e2 = rw (h, k) at e in absurd cc

abbrev SignThen : (List ℕ → Type 0) → List ℕ → Type 0
SignThen K [] = ⊥
SignThen K (b ∷ t) = ((b ≡ 43) ⊎ (b ≡ 45)) × K t

sign_of : (v : ℕ) → v < 2 → (v ≡ 0) ⊎ (v ≡ 1)
sign_of zero h = inl refl
sign_of (suc zero) h = inr refl
sign_of (suc (suc v)) h = absurd (omega arith)

to_sign : (K : List ℕ → Type 0) (t : List ℕ) → Then (λ v. v < 2) sign_text K t → SignThen K t
to_sign K t h = elim (sign_of h.0 h.2) [
  | inl e ↦ subst (SignThen K) (sym (h.3 ∙ ap (λ n. sign_text n ++ h.1) e)) (inl refl, h.4)
  | inr e ↦ subst (SignThen K) (sym (h.3 ∙ ap (λ n. sign_text n ++ h.1) e)) (inr refl, h.4)
]

from_sign : (K : List ℕ → Type 0) (t : List ℕ) → SignThen K t → Then (λ v. v < 2) sign_text K t
from_sign K [] h = absurd h
from_sign K (b ∷ t) h = elim h.0 [
  | inl e ↦ (0, t, omega arith, ap (λ c. c ∷ t) e, h.1)
  | inr e ↦ (1, t, omega arith, ap (λ c. c ∷ t) e, h.1)
]

sign_no : (K : List ℕ → Type 0) (u : List ℕ) (left : ℕ) → Live K → sign_at u ≡ Err left → Stuck (SignThen K) u left
unfolding sign_at
sign_no K [] left l e = ((43 ∷ l.0, (inl refl, l.1)), (λ h. h), cc)
sign_no K (b ∷ u) left l e = by (nat_eq b 43) (nat_eq b 45) refl refl
  where
    by : (s m : Bool) → nat_eq b 43 ≡ s → nat_eq b 45 ≡ m → Stuck (SignThen K) (b ∷ u) left
    by true m h k = let e2 = rw h at e in absurd cc
    by false true h k = let e2 = rw (h, k) at e in absurd cc
    by false false h k = let e2 = rw (h, k) at e in
        inl ((43 ∷ l.0, (inl refl, l.1)), (λ t c. elim c.0 [ inl x ↦ eqb-false b 43 h x | inr x ↦ eqb-false b 45 k x ]), cc)

sign_head : (v : ℕ) (K : List ℕ → Type 0) → v < 2 → (t : List ℕ) → K t → SignThen K (sign_text v ++ t)
sign_head v K h t k = to_sign K (sign_text v ++ t) (v, t, h, refl, k)

sign_on : (K : List ℕ → Type 0) (u : List ℕ) (v : ℕ) (rest : List ℕ) (left : ℕ) → sign_at u ≡ Ok (v, rest) → Stuck K rest left → Stuck (SignThen K) u left
sign_on K u v rest left e s =
    let t = sign_takes u v rest e in
    subst (λ xs. Stuck (SignThen K) xs left) (sym t.1)
    (elim (sign_of v t.0) [
      | inl z ↦ subst (λ n. Stuck (SignThen K) (sign_text n ++ rest) left) (sym z) (inr (stuck_same K (λ x. SignThen K (43 ∷ x)) rest left (λ x k. (inl refl, k)) (λ x k. k.1) s))
      | inr z ↦ subst (λ n. Stuck (SignThen K) (sign_text n ++ rest) left) (sym z) (inr (stuck_same K (λ x. SignThen K (45 ∷ x)) rest left (λ x k. (inr refl, k)) (λ x k. k.1) s))
    ])

pub sign_reads : (K : List ℕ → Type 0) → Reads (λ v. v < 2) sign_text sign_at K
sign_reads K = record {
  takes = sign_takes;
  no = λ u left l e. stuck_same (SignThen K) (Then (λ v. v < 2) sign_text K) u left (from_sign K) (to_sign K) (sign_no K u left l e);
  on = λ u v rest left e s. stuck_same (SignThen K) (Then (λ v. v < 2) sign_text K) u left (from_sign K) (to_sign K) (sign_on K u v rest left e s);
}

pub sign_again : (v : ℕ) (rest : List ℕ) → v < 2 → sign_at (sign_text v ++ rest) ≡ Ok (v, rest)
unfolding sign_at
sign_again v rest h = elim (sign_of v h) [
  | inl e ↦ subst (λ n. sign_at (sign_text n ++ rest) ≡ Ok (n, rest)) (sym e) refl
  | inr e ↦ subst (λ n. sign_at (sign_text n ++ rest) ≡ Ok (n, rest)) (sym e) refl
]

-- a digit in base 16

abbrev pub one_digit : ℕ → List ℕ
one_digit d = hex_digit d ∷ []

-- what a byte is as a digit
hex_low : (b : ℕ) → is_ascii_digit b ≡ true → (b - 48 < 16) × (hex_digit (b - 48) ≡ b)
hex_low b h =
    let lo : 48 ≤ b = grind (arith, nat_tests, h) in
    let hi : b ≤ 57 = grind (arith, nat_tests, h) in
    let t : nat_lt (b - 48) 10 ≡ true = grind (arith, nat_tests) in
    (omega arith, rw t (omega arith))

hex_high : (b : ℕ) → (nat_le 97 b && nat_le b 102) ≡ true → (b - 87 < 16) × (hex_digit (b - 87) ≡ b)
hex_high b h =
    let lo : 97 ≤ b = grind (arith, nat_tests, h) in
    let hi : b ≤ 102 = grind (arith, nat_tests, h) in
    let t : nat_lt (b - 87) 10 ≡ false = grind (arith, nat_tests) in
    (omega arith, rw t (omega arith))

digit_is : (d : ℕ) → d < 10 → hex_digit d ≡ 48 + d
digit_is d h = let t : nat_lt d 10 ≡ true = grind (arith, nat_tests, h) in rw t refl

letter_is : (d : ℕ) → 10 ≤ d → hex_digit d ≡ 87 + d
letter_is d h = let t : nat_lt d 10 ≡ false = grind (arith, nat_tests, h) in rw t refl

low_test : (d : ℕ) → d < 10 → is_ascii_digit (48 + d) ≡ true
low_test d h = grind (arith, nat_tests, h)

high_test : (d : ℕ) → 10 ≤ d → is_ascii_digit (87 + d) ≡ false
high_test d h = grind (arith, nat_tests, h)

letter_test : (d : ℕ) → 10 ≤ d → d < 16 → (nat_le 97 (87 + d) && nat_le (87 + d) 102) ≡ true
letter_test d h k = grind (arith, nat_tests, h, k)

pub hex_digit_again : (d : ℕ) (rest : List ℕ) → d < 16 → hex_digit_at (hex_digit d ∷ rest) ≡ Ok (d, rest)
unfolding hex_digit_at
hex_digit_again d rest h = by (nat_lt d 10) refl
  where
    by : (s : Bool) → nat_lt d 10 ≡ s → hex_digit_at (hex_digit d ∷ rest) ≡ Ok (d, rest)
    by true e =
        let small : d < 10 = grind (arith, nat_tests, e) in
        let back : 48 + d - 48 ≡ d = omega arith in
        ap (λ c. hex_digit_at (c ∷ rest)) (digit_is d small) ∙ rw (low_test d small) (ap (λ n. got (n, rest)) back)
    by false e =
        let big : 10 ≤ d = grind (arith, nat_tests, e) in
        let back : 87 + d - 87 ≡ d = omega arith in
        ap (λ c. hex_digit_at (c ∷ rest)) (letter_is d big) ∙ rw (high_test d big, letter_test d big h) (ap (λ n. got (n, rest)) back)

hex_digit_takes : (u : List ℕ) (v : ℕ) (rest : List ℕ) → hex_digit_at u ≡ Ok (v, rest) → (v < 16) × (u ≡ one_digit v ++ rest)
unfolding hex_digit_at
hex_digit_takes [] v rest e = absurd cc
hex_digit_takes (b ∷ u) v rest e = by (is_ascii_digit b) (nat_le 97 b && nat_le b 102) refl refl
  where
    given : (d : ℕ) → (d < 16) × (hex_digit d ≡ b) → got (d, u) ≡ Ok (v, rest) → (v < 16) × (b ∷ u ≡ one_digit v ++ rest)
    given d k e2 =
        let q : ◌≡◌ {A = ℕ × List ℕ} (d, u) (v, rest) = cc in
        let v_is : d ≡ v = ap (λ (y : ℕ × List ℕ). y.0) q in
        let u_is : u ≡ rest = ap (λ (y : ℕ × List ℕ). y.1) q in
        (subst (λ n. n < 16) v_is k.0, ap (λ c. c ∷ u) (sym k.1 ∙ ap hex_digit v_is) ∙ ap (λ xs. hex_digit v ∷ xs) u_is)

    by : (s m : Bool) → is_ascii_digit b ≡ s → (nat_le 97 b && nat_le b 102) ≡ m → (v < 16) × (b ∷ u ≡ one_digit v ++ rest)
    by true m h k = given (b - 48) (hex_low b h) (rw h at e)
    by false true h k = given (b - 87) (hex_high b k) (rw (h, k) at e)
    by false false h k = let e2 = rw (h, k) at e in absurd cc

-- no digit begins with this byte
hex_dead : (b : ℕ) (u t : List ℕ) (K : List ℕ → Type 0) (left : ℕ) → hex_digit_at (b ∷ u) ≡ Err left → Then (λ v. v < 16) one_digit K (b ∷ t) → ⊥
unfolding hex_digit_at
hex_dead b u t K left e h =
    let f : b ≡ hex_digit h.0 = cc in
    let again = hex_digit_again h.0 u h.2 in
    let e2 : hex_digit_at (hex_digit h.0 ∷ u) ≡ Err left = subst (λ c. hex_digit_at (c ∷ u) ≡ Err left) f e in
    absurd cc

hex_left : (b : ℕ) (u : List ℕ) (left : ℕ) → hex_digit_at (b ∷ u) ≡ Err left → left ≡ suc (length u)
unfolding hex_digit_at
hex_left b u left e = by (is_ascii_digit b) (nat_le 97 b && nat_le b 102) refl refl
  where
    by : (s m : Bool) → is_ascii_digit b ≡ s → (nat_le 97 b && nat_le b 102) ≡ m → left ≡ suc (length u)
    by true m h k = let e2 = rw h at e in absurd cc
    by false true h k = let e2 = rw (h, k) at e in absurd cc
    by false false h k = let e2 : lost (suc (length u)) ≡ Err left = rw (h, k) at e in cc

hex_digit_no : (K : List ℕ → Type 0) (u : List ℕ) (left : ℕ) → Live K → hex_digit_at u ≡ Err left → Stuck (Then (λ v. v < 16) one_digit K) u left
unfolding hex_digit_at
hex_digit_no K [] left l e = (then_live (λ v. v < 16) one_digit K 0 (omega arith) l, (λ h. absurd cc), cc)
hex_digit_no K (b ∷ u) left l e = inl (then_live (λ v. v < 16) one_digit K 0 (omega arith) l, (λ t h. hex_dead b u t K left e h), hex_left b u left e)

hex_digit_one : (d e : ℕ) (u : List ℕ) → d < 16 → e < 16 → hex_digit d ≡ hex_digit e → d ≡ e
hex_digit_one d e u h k x =
    let a = hex_digit_again d u h in
    let b = hex_digit_again e u k in
    let c : got (d, u) ≡ got (e, u) = sym a ∙ (ap (λ (y : ℕ). hex_digit_at (y ∷ u)) x ∙ b) in
    let q : ◌≡◌ {A = ℕ × List ℕ} (d, u) (e, u) = cc in
    ap (λ (y : ℕ × List ℕ). y.0) q

hex_digit_on : (K : List ℕ → Type 0) (u : List ℕ) (v : ℕ) (rest : List ℕ) (left : ℕ) → hex_digit_at u ≡ Ok (v, rest) → Stuck K rest left → Stuck (Then (λ v. v < 16) one_digit K) u left
hex_digit_on K u v rest left e s =
    let t = hex_digit_takes u v rest e in
    subst (λ xs. Stuck (Then (λ v. v < 16) one_digit K) xs left) (sym t.1)
    (inr (stuck_same K (λ x. Then (λ v. v < 16) one_digit K (hex_digit v ∷ x)) rest left
    (λ x k. (v, x, t.0, refl, k))
    (λ x k. let e2 : x ≡ k.1 = cc in subst K (sym e2) k.4) s))

hex_digit_reads : (K : List ℕ → Type 0) → Reads (λ v. v < 16) one_digit hex_digit_at K
hex_digit_reads K = record { takes = hex_digit_takes; no = hex_digit_no K; on = hex_digit_on K }

-- a byte of two digits

abbrev TwoThen : (List ℕ → Type 0) → List ℕ → Type 0
TwoThen K = Then (λ v. v < 16) one_digit (Then (λ v. v < 16) one_digit K)

to_two : (K : List ℕ → Type 0) (t : List ℕ) → Then (λ v. v < 256) byte_text K t → TwoThen K t
to_two K t h =
    let small : h.0 < 256 = h.2 in
    (h.0 / 16, one_digit (h.0 % 16) ++ h.1, omega arith, h.3, (h.0 % 16, h.1, omega arith, refl, h.4))

two_text : (a b : ℕ) → a < 16 → b < 16 → byte_text (16 * a + b) ≡ hex_digit a ∷ hex_digit b ∷ []
two_text a b h k =
    let e : (16 * a + b) / 16 ≡ a = omega arith in
    let f : (16 * a + b) % 16 ≡ b = omega arith in
    ap (λ n. hex_digit n ∷ hex_digit ((16 * a + b) % 16) ∷ []) e ∙ ap (λ n. hex_digit a ∷ hex_digit n ∷ []) f

from_two : (K : List ℕ → Type 0) (t : List ℕ) → TwoThen K t → Then (λ v. v < 256) byte_text K t
from_two K t h =
    let a : h.0 < 16 = h.2 in
    let b : h.4.0 < 16 = h.4.2 in
    (16 * h.0 + h.4.0, h.4.1, omega arith, h.3 ∙ (ap (λ xs. hex_digit h.0 ∷ xs) h.4.3 ∙ ap (λ xs. xs ++ h.4.1) (sym (two_text h.0 h.4.0 a b))), h.4.4)

abbrev low_of : ℕ × List ℕ → ℕ × List ℕ → Read ℕ
low_of high low = Ok (16 * high.0 + low.0, low.1)

abbrev low_at : ℕ × List ℕ → Read ℕ
low_at high = hex_digit_at high.1 >>= low_of high

hex_is : (u : List ℕ) → hex_at u ≡ (hex_digit_at u >>= low_at)
unfolding hex_at
hex_is u = refl

pub record TwoOk (u : List ℕ) (v : ℕ) (rest : List ℕ) : Type 0 where
  pub a : ℕ
  pub b : ℕ
  pub mid : List ℕ
  pub first : hex_digit_at u ≡ Ok (a, mid)
  pub then : hex_digit_at mid ≡ Ok (b, rest)
  pub value : v ≡ 16 * a + b

two_ok : (u : List ℕ) (v : ℕ) (rest : List ℕ) → hex_at u ≡ Ok (v, rest) → TwoOk u v rest
two_ok u v rest e =
    let x = bind_ok (hex_digit_at u) low_at (v, rest) (sym (hex_is u) ∙ e) in
    let y = bind_ok (hex_digit_at x.value.1) (low_of x.value) (v, rest) x.then in
    let z : low_of x.value y.value ≡ Ok (v, rest) = y.then in
    let q : ◌≡◌ {A = ℕ × List ℕ} (16 * x.value.0 + y.value.0, y.value.1) (v, rest) = cc in
    record { a = x.value.0; b = y.value.0; mid = x.value.1; first = x.first; then = y.first ∙ ap (λ xs. got (y.value.0, xs)) (ap (λ (p : ℕ × List ℕ). p.1) q); value = sym (ap (λ (p : ℕ × List ℕ). p.0) q) }

hex_takes : (u : List ℕ) (v : ℕ) (rest : List ℕ) → hex_at u ≡ Ok (v, rest) → (v < 256) × (u ≡ byte_text v ++ rest)
hex_takes u v rest e =
    let o = two_ok u v rest e in
    let a = hex_digit_takes u o.a o.mid o.first in
    let b = hex_digit_takes o.mid o.b rest o.then in
    let al : o.a < 16 = a.0 in
    let bl : o.b < 16 = b.0 in
    let is : v ≡ 16 * o.a + o.b = o.value in
    (omega arith, a.1 ∙ (ap (λ xs. hex_digit o.a ∷ xs) b.1 ∙ ap (λ xs. xs ++ rest) (sym (ap byte_text is ∙ two_text o.a o.b al bl))))

hex_no : (K : List ℕ → Type 0) (u : List ℕ) (left : ℕ) → Live K → hex_at u ≡ Err left → Stuck (TwoThen K) u left
hex_no K u left l e =
    let M = Then (λ v. v < 16) one_digit K in
    elim (bind_err (hex_digit_at u) low_at left (sym (hex_is u) ∙ e)) [
      | inl h ↦ hex_digit_no M u left (then_live (λ v. v < 16) one_digit K 0 (omega arith) l) h
      | inr h ↦ elim (bind_err (hex_digit_at h.value.1) (low_of h.value) left h.then) [
        | inl k ↦ hex_digit_on M u h.value.0 h.value.1 left h.first (hex_digit_no K h.value.1 left l k)
        | inr k ↦ let z : low_of h.value k.value ≡ Err left = k.then in absurd cc
      ]
    ]

pub hex_reads : (K : List ℕ → Type 0) → Reads (λ v. v < 256) byte_text hex_at K
hex_reads K = record {
  takes = hex_takes;
  no = λ u left l e. stuck_same (TwoThen K) (Then (λ v. v < 256) byte_text K) u left (from_two K) (to_two K) (hex_no K u left l e);
  on = λ u v rest left e s.
      let o = two_ok u v rest e in
      stuck_same (TwoThen K) (Then (λ v. v < 256) byte_text K) u left (from_two K) (to_two K)
      (hex_digit_on (Then (λ v. v < 16) one_digit K) u o.a o.mid left o.first (hex_digit_on K o.mid o.b rest left o.then s));
}

pub hex_again : (v : ℕ) (rest : List ℕ) → v < 256 → hex_at (byte_text v ++ rest) ≡ Ok (v, rest)
unfolding hex_at
hex_again v rest h =
    let a = hex_digit_again (v / 16) (hex_digit (v % 16) ∷ rest) (omega arith) in
    let b = hex_digit_again (v % 16) rest (omega arith) in
    let e : 16 * (v / 16) + v % 16 ≡ v = omega arith in
    rw a (rw b (ap (λ n. got (n, rest)) e))

-- a word

to_choice : (ws : List (List ℕ)) (k v : ℕ) (K : ℕ → List ℕ → Type 0) (t u : List ℕ) → v < length ws → t ≡ get_or ws v [] ++ u → K (k + v) u → Choice ws k K t
to_choice [] k v K t u h e x = absurd (omega arith)
to_choice (w ∷ ws) k zero K t u h e x = let z : k + 0 ≡ k = omega arith in inl (u, e, subst (λ n. K n u) z x)
to_choice (w ∷ ws) k (suc v) K t u h e x = let z : k + suc v ≡ suc k + v = omega arith in inr (to_choice ws (suc k) v K t u (omega arith) e (subst (λ n. K n u) z x))

pub record Chosen (ws : List (List ℕ)) (k : ℕ) (K : ℕ → List ℕ → Type 0) (t : List ℕ) : Type 0 where
  pub at : ℕ
  pub rest : List ℕ
  pub below : at < length ws
  pub split : t ≡ get_or ws at [] ++ rest
  pub said : K (k + at) rest

pub from_choice : (ws : List (List ℕ)) (k : ℕ) (K : ℕ → List ℕ → Type 0) (t : List ℕ) → Choice ws k K t → Chosen ws k K t
from_choice [] k K t c = absurd c
from_choice (w ∷ ws) k K t (inl c) = let z : k ≡ k + 0 = omega arith in record { at = 0; rest = c.0; below = omega arith; split = c.1; said = subst (λ n. K n c.0) z c.2 }
from_choice (w ∷ ws) k K t (inr c) =
    let r = from_choice ws (suc k) K t c in
    let z : suc k + r.at ≡ k + suc r.at = omega arith in
    record { at = suc r.at; rest = r.rest; below = omega (arith, r.below); split = r.split; said = subst (λ n. K n r.rest) z r.said }

pub choice_of : (ws : List (List ℕ)) (v : ℕ) (K : ℕ → List ℕ → Type 0) (t u : List ℕ) → v < length ws → t ≡ get_or ws v [] ++ u → K v u → Choice ws 0 K t
choice_of ws v K t u h e x = let z : v ≡ 0 + v = omega arith in to_choice ws 0 v K t u h e (subst (λ n. K n u) z x)

module _ (w : List ℕ) (ws : List (List ℕ)) (a : apart (w ∷ ws) ≡ true) (K : List ℕ → Type 0) where
  abbrev F : ℕ → Type 0
  F v = v < length (w ∷ ws)

  abbrev x : ℕ → List ℕ
  x v = get_or (w ∷ ws) v []

  to_word : (t : List ℕ) → Then F x K t → Choice (w ∷ ws) 0 (λ i. K) t
  to_word t h = choice_of (w ∷ ws) h.0 (λ i. K) t h.1 h.2 h.3 h.4

  from_word : (t : List ℕ) → Choice (w ∷ ws) 0 (λ i. K) t → Then F x K t
  from_word t c = let r = from_choice (w ∷ ws) 0 (λ i. K) t c in (r.at, r.rest, r.below, r.split, r.said)

  word_takes : (u : List ℕ) (v : ℕ) (rest : List ℕ) → word_at 0 0 (w ∷ ws) u ≡ Ok (v, rest) → F v × (u ≡ x v ++ rest)
  word_takes u v rest e =
      let f = word_found (λ i. K) (w ∷ ws) 0 0 v u rest a e in
      let z : v - 0 ≡ v = omega arith in
      (omega (arith, f.below), f.split ∙ ap (λ xs. xs ++ rest) (f.is ∙ ap (λ n. get_or (w ∷ ws) n []) z))

  pub word_reads : Reads F x (λ u. word_at 0 0 (w ∷ ws) u) K
  word_reads = record {
    takes = word_takes;
    no = λ u left l e. stuck_same (Choice (w ∷ ws) 0 (λ i. K)) (Then F x K) u left from_word to_word (word_no w ws 0 (λ i. K) u left (λ j p q. l) e);
    on = λ u v rest left e s. stuck_same (Choice (w ∷ ws) 0 (λ i. K)) (Then F x K) u left from_word to_word (word_on (λ i. K) (w ∷ ws) 0 0 v u rest left a e s);
  }

-- a number with or without a sign is read again

signed_plus_again : (n : ℕ) (rest : List ℕ) → n < number_limit → Bare rest → signed_at (decimal n ++ rest) ≡ Ok (n, rest)
unfolding signed_at
signed_plus_again n rest small bare =
    let s = number_spelled n small in
    let le = digit_least s.first s.digit in
    let e : nat_eq s.first 45 ≡ false = grind (arith, nat_tests, le) in
    ap (λ (xs : List ℕ). signed_at (xs ++ rest)) s.split
    ∙ rw e (ap (λ (xs : List ℕ). number_at 0 (xs ++ rest)) (sym s.split) ∙ number_again 0 n rest (omega arith) (omega arith) small bare)

signed_minus_again : (n : ℕ) (rest : List ℕ) → n < number_limit → 1 ≤ n → Bare rest → signed_at (45 ∷ decimal n ++ rest) ≡ Ok (n + number_limit, rest)
unfolding signed_at
signed_minus_again n rest small one bare = rw (number_again 1 n rest (omega arith) one small bare) refl

above : (n : ℕ) → number_limit ≤ n → n ≢ number_limit → 1 ≤ n - number_limit
above n le ne = grind (arith, le, ne)

pub signed_again : (v : ℕ) (rest : List ℕ) → SignedFits v → Bare rest → signed_at (signed_text v ++ rest) ≡ Ok (v, rest)
signed_again v rest h bare = by (nat_lt v number_limit) refl
  where
    by : (s : Bool) → nat_lt v number_limit ≡ s → signed_at (signed_text v ++ rest) ≡ Ok (v, rest)
    by true e =
        let small : v < number_limit = grind (arith, nat_tests, e) in
        ap (λ xs. signed_at (xs ++ rest)) (signed_low v small) ∙ signed_plus_again v rest small bare
    by false e =
        let big : number_limit ≤ v = grind (arith, nat_tests, e) in
        let back : v - number_limit + number_limit ≡ v = omega arith in
        let below : v < number_limit + number_limit = h.0 in
        ap (λ xs. signed_at (xs ++ rest)) (ap signed_text (sym back) ∙ signed_high (v - number_limit))
        ∙ (signed_minus_again (v - number_limit) rest (omega arith) (above v big h.1) bare ∙ ap (λ n. got (n, rest)) back)
