-- What reading one part does in any language.
use Rattle.std.proofs.Common.{◌≡◌, ◌≢◌, ℕ, ◌+◌, ◌-◌, ◌≤◌, ◌<◌, ◌⊎◌, inl, inr, List, [], ◌∷◌, ◌++◌, Result, Ok, Err, Bool, true, false, refl, sym, ap, subst, ◌∙◌, arith}
use Rattle.std.specs.Prelude.{nat_eq, nat_lt}
use Rattle.std.specs.Fmt.{decimal}
use Rattle.std.proofs.lemmas.Bool.Decides.{nat_tests}
use Rattle.std.proofs.lemmas.Bool.{eqb-true, eqb-false, eq-eqb}
use Rattle.text_forms.specs.Forms.{number_limit, signed_text}
use Rattle.text_forms.specs.Reading.{Read, ◌>>=◌, number_at, byte_at, raised, signed_at}
use Rattle.form_codec.specs.Stuck.{Live, Stuck}
use Rattle.form_codec.proofs.Stuck_same.{stuck_same}
use Rattle.form_codec.proofs.Digits.{Plain, NumberThen, number_spelled, number_takes, number_no, number_on, got, lost, digit_least}

-- a spelling of a value, and then a text of the language
abbrev pub Then : (ℕ → Type 0) → (ℕ → List ℕ) → (List ℕ → Type 0) → List ℕ → Type 0
Then F x K t = (v : ℕ) × (u : List ℕ) × F v × (t ≡ x v ++ u) × K u

-- reading takes a spelling, and gets stuck just where the language does
pub record Reads (F : ℕ → Type 0) (x : ℕ → List ℕ) (r : List ℕ → Read ℕ) (K : List ℕ → Type 0) : Type 0 where
  pub takes : (u : List ℕ) (v : ℕ) (rest : List ℕ) → r u ≡ Ok (v, rest) → F v × (u ≡ x v ++ rest)
  pub no : (u : List ℕ) (left : ℕ) → Live K → r u ≡ Err left → Stuck (Then F x K) u left
  pub on : (u : List ℕ) (v : ℕ) (rest : List ℕ) (left : ℕ) → r u ≡ Ok (v, rest) → Stuck K rest left → Stuck (Then F x K) u left

pub record BindOk {A B : Type 0} (r : Result A ℕ) (f : A → Result B ℕ) (y : B) : Type 0 where
  pub value : A
  pub first : r ≡ Ok value
  pub then : f value ≡ Ok y

pub bind_ok : {A B : Type 0} (r : Result A ℕ) (f : A → Result B ℕ) (y : B) → (r >>= f) ≡ Ok y → BindOk r f y
bind_ok (Ok x) f y e = record { value = x; first = refl; then = e }
bind_ok (Err l) f y e = absurd cc

pub record BindThen {A B : Type 0} (r : Result A ℕ) (f : A → Result B ℕ) (left : ℕ) : Type 0 where
  pub value : A
  pub first : r ≡ Ok value
  pub then : f value ≡ Err left

pub bind_err : {A B : Type 0} (r : Result A ℕ) (f : A → Result B ℕ) (left : ℕ) → (r >>= f) ≡ Err left → (r ≡ Err left) ⊎ BindThen r f left
bind_err (Ok x) f left e = inr (record { value = x; first = refl; then = e })
bind_err {A} (Err l) f left e = let h : l ≡ left = cc in inl (ap (λ (n : ℕ). again n) h)
  where
    again : ℕ → Result A ℕ
    again n = Err n

-- a byte
abbrev pub Lead : ℕ → (List ℕ → Type 0) → List ℕ → Type 0
Lead c M [] = ⊥
Lead c M (b ∷ u) = (b ≡ c) × M u

byte_takes : (c : ℕ) (u rest : List ℕ) → byte_at c u ≡ Ok rest → u ≡ c ∷ rest
unfolding byte_at
byte_takes c [] rest e = absurd cc
byte_takes c (b ∷ u) rest e = by (nat_eq b c) refl
  where
    by : (s : Bool) → nat_eq b c ≡ s → b ∷ u ≡ c ∷ rest
    by true h = let k = eqb-true b c h in let e2 = rw h at e in cc
    by false h = let e2 = rw h at e in absurd cc

pub byte_self : (c : ℕ) (u : List ℕ) → byte_at c (c ∷ u) ≡ Ok u
unfolding byte_at
byte_self c u = rw (eq-eqb c c refl) refl

byte_no : (c : ℕ) (M : List ℕ → Type 0) (u : List ℕ) (left : ℕ) → Live M → byte_at c u ≡ Err left → Stuck (Lead c M) u left
unfolding byte_at
byte_no c M [] left live e = ((c ∷ live.0, (refl, live.1)), (λ h. h), cc)
byte_no c M (b ∷ u) left live e = by (nat_eq b c) refl
  where
    by : (s : Bool) → nat_eq b c ≡ s → Stuck (Lead c M) (b ∷ u) left
    by true h = let e2 = rw h at e in absurd cc
    by false h = let e2 = rw h at e in inl ((c ∷ live.0, (refl, live.1)), (λ t k. eqb-false b c h k.0), cc)

byte_on : (c : ℕ) (M : List ℕ → Type 0) (u rest : List ℕ) (left : ℕ) → byte_at c u ≡ Ok rest → Stuck M rest left → Stuck (Lead c M) u left
byte_on c M u rest left e s = subst (λ xs. Stuck (Lead c M) xs left) (sym (byte_takes c u rest e)) (inr (stuck_same M (λ t. Lead c M (c ∷ t)) rest left (λ t h. (refl, h)) (λ t h. h.1) s))

module _ (c : ℕ) (F : ℕ → Type 0) (x : ℕ → List ℕ) (K : List ℕ → Type 0) where
  abbrev led : ℕ → List ℕ
  led v = c ∷ x v

  to_lead : (t : List ℕ) → Then F led K t → Lead c (Then F x K) t
  to_lead t h = subst (Lead c (Then F x K)) (sym h.3) (refl, (h.0, h.1, h.2, refl, h.4))

  from_lead : (t : List ℕ) → Lead c (Then F x K) t → Then F led K t
  from_lead [] h = absurd h
  from_lead (b ∷ t) h =
      let e : b ≡ c = h.0 in
      let e2 : t ≡ x h.1.0 ++ h.1.1 = h.1.3 in
      (h.1.0, h.1.1, h.1.2, cc, h.1.4)

  -- a byte and then what reads
  pub lead_reads : (r : List ℕ → Read ℕ) → (Live K → Live (Then F x K)) → Reads F x r K → Reads F led (λ u. byte_at c u >>= r) K
  lead_reads r live k = record {
    takes = λ u v rest e.
        let b = bind_ok (byte_at c u) r (v, rest) e in
        let t = k.takes b.value v rest b.then in
        (t.0, byte_takes c u b.value b.first ∙ ap (λ xs. c ∷ xs) t.1);
    no = λ u left l e. stuck_same (Lead c (Then F x K)) (Then F led K) u left from_lead to_lead
        (elim (bind_err (byte_at c u) r left e) [
          | inl h ↦ byte_no c (Then F x K) u left (live l) h
          | inr h ↦ byte_on c (Then F x K) u h.value left h.first (k.no h.value left l h.then)
        ]);
    on = λ u v rest left e s. stuck_same (Lead c (Then F x K)) (Then F led K) u left from_lead to_lead
        (let b = bind_ok (byte_at c u) r (v, rest) e in
        byte_on c (Then F x K) u b.value left b.first (k.on b.value v rest left b.then s));
  }

-- a number
to_number : (K : List ℕ → Type 0) (t : List ℕ) → Then (λ v. v < number_limit) decimal K t → NumberThen 0 K t
to_number K t h = (h.0, h.1, omega arith, h.2, h.3, h.4)

from_number : (K : List ℕ → Type 0) (t : List ℕ) → NumberThen 0 K t → Then (λ v. v < number_limit) decimal K t
from_number K t h = (h.0, h.1, h.3, h.4, h.5)

pub number_reads : (K : List ℕ → Type 0) → Plain K → Reads (λ v. v < number_limit) decimal (number_at 0) K
number_reads K plain = record {
  takes = λ u v rest e. let h = number_takes 0 u v rest e in (h.1, h.2);
  no = λ u left l e. stuck_same (NumberThen 0 K) (Then (λ v. v < number_limit) decimal K) u left (from_number K) (to_number K) (number_no 0 K u left (omega arith) l e);
  on = λ u v rest left e s. stuck_same (NumberThen 0 K) (Then (λ v. v < number_limit) decimal K) u left (from_number K) (to_number K) (number_on 0 K u v rest left (omega arith) plain e s);
}

-- a number that may have a sign
abbrev pub SignedFits : ℕ → Type 0
SignedFits v = (v < number_limit + number_limit) × (v ≢ number_limit)

abbrev SignedThen : (List ℕ → Type 0) → List ℕ → Type 0
SignedThen K [] = ⊥
SignedThen K (b ∷ t) = ((b ≡ 45) × NumberThen 1 K t) ⊎ NumberThen 0 K (b ∷ t)

number_not_minus : (K : List ℕ → Type 0) (t : List ℕ) → NumberThen 0 K (45 ∷ t) → ⊥
number_not_minus K t h =
    let s = number_spelled h.0 h.3 in
    let e : 45 ∷ t ≡ (s.first ∷ s.ds) ++ h.1 = h.4 ∙ ap (λ (xs : List ℕ). xs ++ h.1) s.split in
    let f : 45 ≡ s.first = cc in
    let le = digit_least s.first s.digit in
    omega arith

number_not_empty : (K : List ℕ → Type 0) → NumberThen 0 K [] → ⊥
number_not_empty K h =
    let s = number_spelled h.0 h.3 in
    let e : [] ≡ (s.first ∷ s.ds) ++ h.1 = h.4 ∙ ap (λ (xs : List ℕ). xs ++ h.1) s.split in
    absurd cc

pub signed_low : (v : ℕ) → v < number_limit → signed_text v ≡ decimal v
signed_low v h = let e : nat_lt v number_limit ≡ true = grind (arith, nat_tests, h) in rw e refl

pub signed_high : (n : ℕ) → signed_text (n + number_limit) ≡ 45 ∷ decimal n
signed_high n =
    let e : nat_lt (n + number_limit) number_limit ≡ false = grind (arith, nat_tests) in
    let e2 : n + number_limit - number_limit ≡ n = omega arith in
    rw e (ap (λ m. 45 ∷ decimal m) e2)

signed_minus : (K : List ℕ → Type 0) (t u : List ℕ) (n : ℕ) → n < number_limit → 1 ≤ n → t ≡ 45 ∷ decimal n ++ u → K u → SignedThen K t
signed_minus K t u n small one e k = subst (SignedThen K) (sym e) (inl (refl, (n, u, one, small, refl, k)))

signed_plus : (K : List ℕ → Type 0) (t : List ℕ) → NumberThen 0 K t → SignedThen K t
signed_plus K [] h = number_not_empty K h
signed_plus K (b ∷ t) h = inr h

to_signed : (K : List ℕ → Type 0) (t : List ℕ) → Then SignedFits signed_text K t → SignedThen K t
to_signed K t h = by (nat_lt h.0 number_limit) refl
  where
    by : (s : Bool) → nat_lt h.0 number_limit ≡ s → SignedThen K t
    by true e =
        let small : h.0 < number_limit = grind (arith, nat_tests, e) in
        signed_plus K t (h.0, h.1, omega arith, small, h.3 ∙ ap (λ xs. xs ++ h.1) (signed_low h.0 small), h.4)
    by false e =
        let big : number_limit ≤ h.0 = grind (arith, nat_tests, e) in
        let back : h.0 - number_limit + number_limit ≡ h.0 = omega arith in
        let other : h.0 ≢ number_limit = h.2.1 in
        let below : h.0 < number_limit + number_limit = h.2.0 in
        signed_minus K t h.1 (h.0 - number_limit) (omega arith) (above h.0 big other) (h.3 ∙ ap (λ xs. xs ++ h.1) (ap signed_text (sym back) ∙ signed_high (h.0 - number_limit))) h.4
      where
        above : (n : ℕ) → number_limit ≤ n → n ≢ number_limit → 1 ≤ n - number_limit
        above n le ne = grind (arith, le, ne)

from_signed : (K : List ℕ → Type 0) (t : List ℕ) → SignedThen K t → Then SignedFits signed_text K t
from_signed K [] h = absurd h
from_signed K (b ∷ t) (inl h) =
    let n : ℕ = h.1.0 in
    let small : n < number_limit = h.1.3 in
    let one : 1 ≤ n = h.1.2 in
    let e : b ≡ 45 = h.0 in
    let e2 : t ≡ decimal n ++ h.1.1 = h.1.4 in
    (n + number_limit, h.1.1, (omega arith, λ k. absurd (omega arith)), ap (λ c. c ∷ t) e ∙ (ap (λ xs. 45 ∷ xs) e2 ∙ ap (λ xs. xs ++ h.1.1) (sym (signed_high n))), h.1.5)
from_signed K (b ∷ t) (inr h) =
    let small : h.0 < number_limit = h.3 in
    (h.0, h.1, (omega arith, λ k. absurd (omega arith)), h.4 ∙ ap (λ xs. xs ++ h.1) (sym (signed_low h.0 small)), h.5)

pub raised_ok : (r : Read ℕ) (v : ℕ) (rest : List ℕ) → (r >>= λ x. got (raised x)) ≡ Ok (v, rest) → (n : ℕ) × (r ≡ Ok (n, rest)) × (v ≡ n + number_limit)
raised_ok (Ok x) v rest e =
    let p : raised x ≡ (v, rest) = cc in
    let q : x.1 ≡ rest = ap (λ (y : ℕ × List ℕ). y.1) p in
    (x.0, ap (λ xs. got (x.0, xs)) q, sym (ap (λ (y : ℕ × List ℕ). y.0) p))
raised_ok (Err l) v rest e = absurd cc

raised_err : (r : Read ℕ) (left : ℕ) → (r >>= λ x. got (raised x)) ≡ Err left → r ≡ Err left
raised_err (Ok x) left e = absurd cc
raised_err (Err l) left e = let h : l ≡ left = cc in ap lost h

signed_takes : (u : List ℕ) (v : ℕ) (rest : List ℕ) → signed_at u ≡ Ok (v, rest) → SignedFits v × (u ≡ signed_text v ++ rest)
unfolding signed_at
signed_takes [] v rest e = absurd cc
signed_takes (b ∷ u) v rest e = by (nat_eq b 45) refl
  where
    by : (s : Bool) → nat_eq b 45 ≡ s → SignedFits v × (b ∷ u ≡ signed_text v ++ rest)
    by true h =
        let r = raised_ok (number_at 1 u) v rest (rw h at e) in
        let t = number_takes 1 u r.0 rest r.1 in
        let v_is : v ≡ r.0 + number_limit = r.2 in
        let small : r.0 < number_limit = t.1 in
        let one : 1 ≤ r.0 = t.0 in
        let e2 : b ≡ 45 = eqb-true b 45 h in
        ((omega arith, λ k. absurd (omega arith)), ap (λ c. c ∷ u) e2 ∙ (ap (λ xs. 45 ∷ xs) t.2 ∙ ap (λ xs. xs ++ rest) (sym (ap signed_text v_is ∙ signed_high r.0))))
    by false h =
        let t = number_takes 0 (b ∷ u) v rest (rw h at e) in
        let small : v < number_limit = t.1 in
        ((omega arith, λ k. absurd (omega arith)), t.2 ∙ ap (λ xs. xs ++ rest) (sym (signed_low v small)))

pub then_live : (F : ℕ → Type 0) (x : ℕ → List ℕ) (K : List ℕ → Type 0) (v : ℕ) → F v → Live K → Live (Then F x K)
then_live F x K v fits l = (x v ++ l.0, (v, l.0, fits, refl, l.1))

signed_live : (K : List ℕ → Type 0) → Live K → Live (Then SignedFits signed_text K)
signed_live K l = then_live SignedFits signed_text K 0 (omega arith, λ e. absurd (omega arith)) l

signed_stuck : (K : List ℕ → Type 0) (b : ℕ) (u : List ℕ) (left : ℕ) → nat_eq b 45 ≡ false → Stuck (NumberThen 0 K) (b ∷ u) left → Stuck (SignedThen K) (b ∷ u) left
signed_stuck K b u left h (inl s) = inl ((s.0.0, signed_plus K s.0.0 s.0.1), (λ t k. elim k [ inl y ↦ eqb-false b 45 h y.0 | inr y ↦ s.1 t y ]), s.2)
signed_stuck K b u left h (inr s) = inr (stuck_same (λ t. NumberThen 0 K (b ∷ t)) (λ t. SignedThen K (b ∷ t)) u left (λ t k. inr k) (λ t k. elim k [ inl y ↦ absurd (eqb-false b 45 h y.0) | inr y ↦ y ]) s)

minus_stuck : (K : List ℕ → Type 0) (b : ℕ) (u : List ℕ) (left : ℕ) → nat_eq b 45 ≡ true → Stuck (NumberThen 1 K) u left → Stuck (SignedThen K) (b ∷ u) left
minus_stuck K b u left h s = inr (stuck_same (NumberThen 1 K) (λ t. SignedThen K (b ∷ t)) u left (λ t k. inl (eqb-true b 45 h, k))
    (λ t k. elim k [ inl y ↦ y.1 | inr y ↦ absurd (number_not_minus K t (subst (λ c. NumberThen 0 K (c ∷ t)) (eqb-true b 45 h) y)) ]) s)

signed_no : (K : List ℕ → Type 0) (u : List ℕ) (left : ℕ) → Live K → signed_at u ≡ Err left → Stuck (SignedThen K) u left
unfolding signed_at
signed_no K [] left l e = let m = signed_live K l in ((m.0, to_signed K m.0 m.1), (λ h. h), cc)
signed_no K (b ∷ u) left l e = by (nat_eq b 45) refl
  where
    by : (s : Bool) → nat_eq b 45 ≡ s → Stuck (SignedThen K) (b ∷ u) left
    by true h = minus_stuck K b u left h (number_no 1 K u left (omega arith) l (raised_err (number_at 1 u) left (rw h at e)))
    by false h = signed_stuck K b u left h (number_no 0 K (b ∷ u) left (omega arith) l (rw h at e))

signed_on : (K : List ℕ → Type 0) (u : List ℕ) (v : ℕ) (rest : List ℕ) (left : ℕ) → Plain K → signed_at u ≡ Ok (v, rest) → Stuck K rest left → Stuck (SignedThen K) u left
unfolding signed_at
signed_on K [] v rest left plain e s = absurd cc
signed_on K (b ∷ u) v rest left plain e s = by (nat_eq b 45) refl
  where
    by : (d : Bool) → nat_eq b 45 ≡ d → Stuck (SignedThen K) (b ∷ u) left
    by true h =
        let r = raised_ok (number_at 1 u) v rest (rw h at e) in
        minus_stuck K b u left h (number_on 1 K u r.0 rest left (omega arith) plain r.1 s)
    by false h = signed_stuck K b u left h (number_on 0 K (b ∷ u) v rest left (omega arith) plain (rw h at e) s)

pub signed_reads : (K : List ℕ → Type 0) → Plain K → Reads SignedFits signed_text signed_at K
signed_reads K plain = record {
  takes = signed_takes;
  no = λ u left l e. stuck_same (SignedThen K) (Then SignedFits signed_text K) u left (from_signed K) (to_signed K) (signed_no K u left l e);
  on = λ u v rest left e s. stuck_same (SignedThen K) (Then SignedFits signed_text K) u left (from_signed K) (to_signed K) (signed_on K u v rest left plain e s);
}
