-- Numbers: their digits, and where a text of them gets stuck.
use Rattle.std.proofs.Common.{◌≡◌, ℕ, zero, suc, ◌+◌, ◌-◌, ◌*◌, ◌^◌, ◌≤◌, ◌<◌, ◌⊎◌, inl, inr, List, [], ◌∷◌, ◌++◌, length, Ok, Err, Bool, true, false, ◌&&◌, refl, sym, ap, subst, ◌∙◌, arith, rules, get_or}
use Rattle.std.specs.Prelude.{nat_le}
use Rattle.std.specs.Char.{is_ascii_digit}
use Rattle.std.specs.Str.{all_ascii_digits}
use Rattle.std.specs.Fmt.{decimal}
use Rattle.std.proofs.lemmas.Str.Parse.{IsNumeralModel, numerals_by_fold, digits_value_short}
use Rattle.std.proofs.lemmas.Fmt.{decimal-digits_value, digits_decimal, digits_value-decimal, length-decimal-le, first_decimal, decimal_nonempty, decimal_digit}
use Rattle.std.proofs.lemmas.Bool.Decides.{nat_tests}
use Rattle.std.proofs.lemmas.Bool.{and_from}
use Rattle.text_forms.specs.Forms.{number_limit}
use Rattle.text_forms.specs.Reading.{Read, digits_at, more_digits, number_at}
use Rattle.form_codec.specs.Stuck.{Live, Stuck}
use Rattle.form_codec.proofs.Stuck_same.{stuck_same}

abbrev pub read_on : ℕ → List ℕ → ℕ
read_on n [] = n
read_on n (c ∷ cs) = read_on (10 * n + (c - 48)) cs

pub own : IsNumeralModel (λ ds. all_ascii_digits ds ≡ true) (read_on 0)
own = numerals_by_fold _ (search rules) read_on (search rules)

-- a list that does not begin with a digit
abbrev pub Bare : List ℕ → Type 0
Bare [] = Unit {0}
Bare (b ∷ u) = is_ascii_digit b ≡ false

-- a language of which no text begins with a digit
abbrev pub Plain : (List ℕ → Type 0) → Type 0
Plain K = (b : ℕ) (t : List ℕ) → K (b ∷ t) → is_ascii_digit b ≡ false

-- reading at most k digits takes digits
pub record Taken (n k : ℕ) (u : List ℕ) : Type 0 where
  pub ds : List ℕ
  pub digits : all_ascii_digits ds ≡ true
  pub few : length ds ≤ k
  pub split : u ≡ ds ++ (digits_at n k u).1
  pub value : (digits_at n k u).0 ≡ read_on n ds

pub first_true : (a b : Bool) → (a && b) ≡ true → a ≡ true
first_true true b h = refl
first_true false b h = h

pub second_true : (a b : Bool) → (a && b) ≡ true → b ≡ true
second_true true b h = h
second_true false true h = refl
second_true false false h = h

taken_by : (n k b : ℕ) (u : List ℕ) → Taken (10 * n + (b - 48)) k u → (d : Bool) → is_ascii_digit b ≡ d → Taken n (suc k) (b ∷ u)
unfolding digits_at
taken_by n k b u t true e = record {
  ds = b ∷ t.ds;
  digits = and_from (is_ascii_digit b) (all_ascii_digits t.ds) e t.digits;
  few = omega (arith, t.few);
  split = rw e (ap (λ xs. b ∷ xs) t.split);
  value = rw e t.value;
}
taken_by n k b u t false e = record { ds = []; digits = refl; few = omega arith; split = rw e refl; value = rw e refl }

pub digits_taken : (n k : ℕ) (u : List ℕ) → Taken n k u
unfolding digits_at
digits_taken n k [] = record { ds = []; digits = refl; few = omega arith; split = refl; value = refl }
digits_taken n zero (b ∷ u) = record { ds = []; digits = refl; few = omega arith; split = refl; value = refl }
digits_taken n (suc k) (b ∷ u) = taken_by n k b u (digits_taken (10 * n + (b - 48)) k u) (is_ascii_digit b) refl

-- digits are read again
pub digits_again : (n k : ℕ) (ds rest : List ℕ) → all_ascii_digits ds ≡ true → length ds ≤ k → Bare rest → digits_at n k (ds ++ rest) ≡ (read_on n ds, rest)
unfolding digits_at
digits_again n zero [] [] d few bare = refl
digits_again n (suc k) [] [] d few bare = refl
digits_again n zero [] (b ∷ rest) d few bare = refl
digits_again n (suc k) [] (b ∷ rest) d few bare = rw bare refl
digits_again n zero (b ∷ ds) rest d few bare = absurd (omega arith)
digits_again n (suc k) (b ∷ ds) rest d few bare =
    let e : is_ascii_digit b ≡ true = first_true (is_ascii_digit b) (all_ascii_digits ds) d in
    rw e (digits_again (10 * n + (b - 48)) k ds rest (second_true (is_ascii_digit b) (all_ascii_digits ds) d) (omega arith) bare)

-- at most k digits and then a text of the language
abbrev pub DigitsThen : ℕ → (List ℕ → Type 0) → List ℕ → Type 0
DigitsThen zero K t = K t
DigitsThen (suc k) K [] = K []
DigitsThen (suc k) K (b ∷ t) = K (b ∷ t) ⊎ ((is_ascii_digit b ≡ true) × DigitsThen k K t)

or_later : (k : ℕ) (K : List ℕ → Type 0) (t : List ℕ) → K t → DigitsThen (suc k) K t
or_later k K [] h = h
or_later k K (c ∷ t) h = inl h

pub not_both : {A : Type 0} → (c : Bool) → c ≡ true → c ≡ false → A
not_both c h k = absurd cc

stuck_by : (n k : ℕ) (K : List ℕ → Type 0) (b : ℕ) (u : List ℕ) (left : ℕ) → Plain K
    → (Stuck K (digits_at (10 * n + (b - 48)) k u).1 left → Stuck (DigitsThen k K) u left)
    → (d : Bool) → is_ascii_digit b ≡ d → Stuck K (digits_at n (suc k) (b ∷ u)).1 left → Stuck (DigitsThen (suc k) K) (b ∷ u) left
unfolding digits_at
stuck_by n k K b u left plain more true e s =
    inr (stuck_same (DigitsThen k K) (λ t. DigitsThen (suc k) K (b ∷ t)) u left (λ t h. inr (e, h))
    (λ t h. elim h [ inl x ↦ not_both (is_ascii_digit b) e (plain b t x) | inr x ↦ x.1 ])
    (more (rw e at s)))
stuck_by n k K b u left plain more false e s =
    elim (rw e at s) [
      | inl x ↦ inl ((x.0.0, or_later k K x.0.0 x.0.1), (λ t h. elim h [ inl y ↦ x.1 t y | inr y ↦ not_both (is_ascii_digit b) y.0 e ]), x.2)
      | inr x ↦ inr (stuck_same (λ t. K (b ∷ t)) (λ t. DigitsThen (suc k) K (b ∷ t)) u left (λ t h. inl h) (λ t h. elim h [ inl y ↦ y | inr y ↦ not_both (is_ascii_digit b) y.0 e ]) x)
    ]

pub digits_stuck : (n k : ℕ) (K : List ℕ → Type 0) (u : List ℕ) (left : ℕ) → Plain K → Stuck K (digits_at n k u).1 left → Stuck (DigitsThen k K) u left
unfolding digits_at
digits_stuck n zero K [] left plain s = s
digits_stuck n zero K (b ∷ u) left plain s = s
digits_stuck n (suc k) K [] left plain s = ((s.0.0, or_later k K s.0.0 s.0.1), s.1, s.2)
digits_stuck n (suc k) K (b ∷ u) left plain s = stuck_by n k K b u left plain (digits_stuck (10 * n + (b - 48)) k K u left plain) (is_ascii_digit b) refl s

-- digits and then a text of the language
pub digits_then : (k : ℕ) (K : List ℕ → Type 0) (ds t : List ℕ) → all_ascii_digits ds ≡ true → length ds ≤ k → K t → DigitsThen k K (ds ++ t)
digits_then zero K [] t d few h = h
digits_then zero K (b ∷ ds) t d few h = absurd (omega arith)
digits_then (suc k) K [] t d few h = or_later k K t h
digits_then (suc k) K (b ∷ ds) t d few h = inr (first_true (is_ascii_digit b) (all_ascii_digits ds) d, digits_then k K ds t (second_true (is_ascii_digit b) (all_ascii_digits ds) d) (omega arith) h)

pub record Split (k : ℕ) (K : List ℕ → Type 0) (t : List ℕ) : Type 0 where
  pub ds : List ℕ
  pub rest : List ℕ
  pub digits : all_ascii_digits ds ≡ true
  pub few : length ds ≤ k
  pub split : t ≡ ds ++ rest
  pub said : K rest

pub then_digits : (k : ℕ) (K : List ℕ → Type 0) (t : List ℕ) → DigitsThen k K t → Split k K t
then_digits zero K t h = record { ds = []; rest = t; digits = refl; few = omega arith; split = refl; said = h }
then_digits (suc k) K [] h = record { ds = []; rest = []; digits = refl; few = omega arith; split = refl; said = h }
then_digits (suc k) K (b ∷ t) (inl h) = record { ds = []; rest = b ∷ t; digits = refl; few = omega arith; split = refl; said = h }
then_digits (suc k) K (b ∷ t) (inr h) =
    let s = then_digits k K t h.1 in
    record { ds = b ∷ s.ds; rest = s.rest; digits = and_from (is_ascii_digit b) (all_ascii_digits s.ds) h.0 s.digits; few = omega (arith, s.few); split = ap (λ xs. b ∷ xs) s.split; said = s.said }

-- a number and then a text of the language
abbrev pub NumberThen : ℕ → (List ℕ → Type 0) → List ℕ → Type 0
NumberThen least K t = (n : ℕ) × (u : List ℕ) × (least ≤ n) × (n < number_limit) × (t ≡ decimal n ++ u) × K u

abbrev pub starts : ℕ → ℕ → Bool
starts least b = is_ascii_digit b && nat_le (48 + least) b

-- the first digit, then others
abbrev pub FirstThen : ℕ → (List ℕ → Type 0) → List ℕ → Type 0
FirstThen least K [] = ⊥
FirstThen least K (b ∷ u) = (starts least b ≡ true) × DigitsThen (more_digits b) K u

-- the digits of a number
pub record Spelled (n : ℕ) : Type 0 where
  pub first : ℕ
  pub ds : List ℕ
  pub split : decimal n ≡ first ∷ ds
  pub digit : is_ascii_digit first ≡ true
  pub digits : all_ascii_digits ds ≡ true
  pub few : length ds ≤ more_digits first
  pub least : 0 < n → 48 < first
  pub value : read_on (first - 48) ds ≡ n

pub digit_least : (b : ℕ) → is_ascii_digit b ≡ true → 48 ≤ b
digit_least b h = grind (arith, nat_tests, h)

zero_alone : (n b : ℕ) (ds : List ℕ) → n < 2 ^ 64 → decimal n ≡ b ∷ ds → b ≡ 48 → length ds ≡ 0
zero_alone zero b ds wide e h = omega (arith, ap length (sym (decimal_digit 0 (omega arith)) ∙ e))
zero_alone (suc n) b ds wide e h =
    let f = first_decimal (suc n) (omega arith) wide in
    absurd (omega (arith, f, ap (λ (xs : List ℕ). get_or xs 0 0) e))

few_by : (b : ℕ) (ds : List ℕ) → length ds ≤ 12 → (b ≡ 48 → length ds ≡ 0) → length ds ≤ more_digits b
few_by b ds few alone = grind (arith, nat_tests, few, alone)

pub number_spelled : (n : ℕ) → n < number_limit → Spelled n
number_spelled n small = by (decimal n) refl
  where
    wide : n < 2 ^ 64
    wide = omega arith

    by : (xs : List ℕ) → decimal n ≡ xs → Spelled n
    by [] e = absurd (omega (arith, decimal_nonempty n wide, ap length e))
    by (b ∷ ds) e =
        let all : all_ascii_digits (b ∷ ds) ≡ true = subst (λ (xs : List ℕ). all_ascii_digits xs ≡ true) e (digits_decimal own n wide) in
        let few : length (b ∷ ds) ≤ 13 = subst (λ (xs : List ℕ). length xs ≤ 13) e (length-decimal-le 13 n (omega arith) small wide) in
        let value : read_on 0 (b ∷ ds) ≡ n = subst (λ (xs : List ℕ). read_on 0 xs ≡ n) e (digits_value-decimal own n wide) in
        let start : 10 * 0 + (b - 48) ≡ b - 48 = omega arith in
        record {
          first = b;
          ds = ds;
          split = e;
          digit = first_true (is_ascii_digit b) (all_ascii_digits ds) all;
          digits = second_true (is_ascii_digit b) (all_ascii_digits ds) all;
          few = few_by b ds (omega arith) (zero_alone n b ds wide e);
          least = λ pos. omega (arith, first_decimal n pos wide, ap (λ (xs : List ℕ). get_or xs 0 0) e);
          value = ap (λ m. read_on m ds) (sym start) ∙ value;
        }

alone_by : (b : ℕ) (ds : List ℕ) → length ds ≤ more_digits b → b ≡ 48 → length (b ∷ ds) ≡ 1
alone_by b ds few e = grind (arith, nat_tests, few, e)

most_by : (b : ℕ) (ds : List ℕ) → length ds ≤ more_digits b → length (b ∷ ds) ≤ 13
most_by b ds few = grind (arith, nat_tests, few)

pub number_is : (b : ℕ) (ds : List ℕ) → is_ascii_digit b ≡ true → all_ascii_digits ds ≡ true → length ds ≤ more_digits b → (decimal (read_on (b - 48) ds) ≡ b ∷ ds) × (read_on (b - 48) ds < number_limit)
number_is b ds h d few =
    let all : all_ascii_digits (b ∷ ds) ≡ true = and_from (is_ascii_digit b) (all_ascii_digits ds) h d in
    let start : 10 * 0 + (b - 48) ≡ b - 48 = omega arith in
    let small : read_on 0 (b ∷ ds) < 10 ^ 13 = digits_value_short own (b ∷ ds) 13 all (most_by b ds few) in
    let same : decimal (read_on 0 (b ∷ ds)) ≡ b ∷ ds = decimal-digits_value own (b ∷ ds) all (omega arith) (alone_by b ds few) (omega arith) in
    (ap (λ m. decimal (read_on m ds)) (sym start) ∙ same, subst (λ m. read_on m ds < number_limit) start small)

starts_by : (least b : ℕ) → least ≤ 1 → is_ascii_digit b ≡ true → (0 < least → 48 < b) → starts least b ≡ true
starts_by least b one d h = let k = digit_least b d in rw d (grind (arith, nat_tests, k, h))

starts_digit : (least b : ℕ) → starts least b ≡ true → is_ascii_digit b ≡ true
starts_digit least b h = first_true (is_ascii_digit b) (nat_le (48 + least) b) h

read_on_least : (n : ℕ) (ds : List ℕ) → n ≤ read_on n ds
read_on_least n [] = omega arith
read_on_least n (d ∷ ds) = let h = read_on_least (10 * n + (d - 48)) ds in omega arith

value_least : (least b : ℕ) (ds : List ℕ) → starts least b ≡ true → least ≤ read_on (b - 48) ds
value_least least b ds h =
    let h2 = second_true (is_ascii_digit b) (nat_le (48 + least) b) h in
    let le : 48 + least ≤ b = grind (arith, nat_tests, h2) in
    let more = read_on_least (b - 48) ds in
    omega arith

to_first : (least : ℕ) (K : List ℕ → Type 0) (t : List ℕ) → least ≤ 1 → NumberThen least K t → FirstThen least K t
to_first least K t one h =
    let s = number_spelled h.0 h.3 in
    subst (FirstThen least K) (sym (h.4 ∙ ap (λ (xs : List ℕ). xs ++ h.1) s.split))
    (starts_by least s.first one s.digit (λ pos. s.least (omega (arith, h.2))), digits_then (more_digits s.first) K s.ds h.1 s.digits s.few h.5)

from_first : (least : ℕ) (K : List ℕ → Type 0) (t : List ℕ) → FirstThen least K t → NumberThen least K t
from_first least K [] h = absurd h
from_first least K (b ∷ t) h =
    let s = then_digits (more_digits b) K t h.1 in
    let k = number_is b s.ds (starts_digit least b h.0) s.digits s.few in
    (read_on (b - 48) s.ds, s.rest, value_least least b s.ds h.0, k.1, ap (λ xs. b ∷ xs) s.split ∙ ap (λ xs. xs ++ s.rest) (sym k.0), s.said)

first_live : (least : ℕ) (K : List ℕ → Type 0) → least ≤ 1 → Live K → Live (FirstThen least K)
first_live least K one live = (49 ∷ live.0, (starts_by least 49 one refl (λ pos. omega arith), later 12 live.0 live.1))
  where
    later : (k : ℕ) (t : List ℕ) → K t → DigitsThen k K t
    later zero t h = h
    later (suc k) t h = or_later k K t h

abbrev pub got : ℕ × List ℕ → Read ℕ
got x = Ok x

abbrev pub lost : ℕ → Read ℕ
lost left = Err left

-- the laws of reading a number
pub number_takes : (least : ℕ) (u : List ℕ) (v : ℕ) (rest : List ℕ) → number_at least u ≡ Ok (v, rest) → (least ≤ v) × (v < number_limit) × (u ≡ decimal v ++ rest)
unfolding number_at
number_takes least [] v rest e = absurd cc
number_takes least (b ∷ u) v rest e = by (starts least b) refl
  where
    by : (s : Bool) → starts least b ≡ s → (least ≤ v) × (v < number_limit) × (b ∷ u ≡ decimal v ++ rest)
    by false h = let e2 = rw h at e in absurd cc
    by true h =
        let e2 : got (digits_at (b - 48) (more_digits b) u) ≡ Ok (v, rest) = rw h at e in
        let t = digits_taken (b - 48) (more_digits b) u in
        let k = number_is b t.ds (starts_digit least b h) t.digits t.few in
        let p : digits_at (b - 48) (more_digits b) u ≡ (v, rest) = cc in
        let value : read_on (b - 48) t.ds ≡ v = sym t.value ∙ ap (λ (x : ℕ × List ℕ). x.0) p in
        let split : u ≡ t.ds ++ rest = t.split ∙ ap (λ (x : ℕ × List ℕ). t.ds ++ x.1) p in (
          subst (λ n. least ≤ n) value (value_least least b t.ds h),
          subst (λ n. n < number_limit) value k.1,
          ap (λ xs. b ∷ xs) split ∙ ap (λ xs. xs ++ rest) (sym k.0 ∙ ap decimal value),
        )

pub number_again : (least v : ℕ) (rest : List ℕ) → least ≤ 1 → least ≤ v → v < number_limit → Bare rest → number_at least (decimal v ++ rest) ≡ Ok (v, rest)
unfolding number_at
number_again least v rest one le small bare =
    let s = number_spelled v small in
    let h : starts least s.first ≡ true = starts_by least s.first one s.digit (λ pos. s.least (omega arith)) in
    ap (λ (xs : List ℕ). number_at least (xs ++ rest)) s.split
    ∙ rw h (ap Ok (digits_again (s.first - 48) (more_digits s.first) s.ds rest s.digits s.few bare ∙ ap (λ n. (n, rest)) s.value))

pub number_no : (least : ℕ) (K : List ℕ → Type 0) (u : List ℕ) (left : ℕ) → least ≤ 1 → Live K → number_at least u ≡ Err left → Stuck (NumberThen least K) u left
unfolding number_at
number_no least K u left one live e = stuck_same (FirstThen least K) (NumberThen least K) u left (from_first least K) (λ t. to_first least K t one) (by u e)
  where
    by : (u : List ℕ) → number_at least u ≡ Err left → Stuck (FirstThen least K) u left
    by [] e = (first_live least K one live, (λ h. h), cc)
    by (b ∷ u) e = test (starts least b) refl
      where
        test : (s : Bool) → starts least b ≡ s → Stuck (FirstThen least K) (b ∷ u) left
        test true h = let e2 = rw h at e in absurd cc
        test false h =
            let e2 : lost (length (b ∷ u)) ≡ Err left = rw h at e in
            inl (first_live least K one live, (λ t f. not_both (starts least b) f.0 h), cc)

pub number_on : (least : ℕ) (K : List ℕ → Type 0) (u : List ℕ) (v : ℕ) (rest : List ℕ) (left : ℕ) → least ≤ 1 → Plain K → number_at least u ≡ Ok (v, rest) → Stuck K rest left → Stuck (NumberThen least K) u left
unfolding number_at
number_on least K [] v rest left one plain e s = absurd cc
number_on least K (b ∷ u) v rest left one plain e s = stuck_same (FirstThen least K) (NumberThen least K) (b ∷ u) left (from_first least K) (λ t. to_first least K t one) (test (starts least b) refl)
  where
    test : (d : Bool) → starts least b ≡ d → Stuck (FirstThen least K) (b ∷ u) left
    test false h = let e2 = rw h at e in absurd cc
    test true h =
        let e2 : got (digits_at (b - 48) (more_digits b) u) ≡ Ok (v, rest) = rw h at e in
        let p : digits_at (b - 48) (more_digits b) u ≡ (v, rest) = cc in
        inr (stuck_same (DigitsThen (more_digits b) K) (λ t. FirstThen least K (b ∷ t)) u left (λ t d. (h, d)) (λ t f. f.1)
        (digits_stuck (b - 48) (more_digits b) K u left plain (subst (λ (xs : List ℕ). Stuck K xs left) (sym (ap (λ (x : ℕ × List ℕ). x.1) p)) s)))
