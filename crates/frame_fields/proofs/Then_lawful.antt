-- The laws of a form: what is read is spelled so, what is spelled so is read, and a field out of its range is near.
use Rattle.std.proofs.Common.{◌≡◌, ℕ, zero, suc, ◌+◌, ◌*◌, ◌^◌, ◌<◌, ◌≤◌, Bool, true, false, ◌&&◌, cond, ltb, leb, List, [], ◌∷◌, ◌++◌, length, get_or, take, drop, Option, Some, None, Result, Ok, Err, refl, sym, ap, subst, ◌∙◌, append_assoc, arith, inl, inr}
use Rattle.std.specs.Prelude.{◌⊎◌, IfSome}
use Rattle.std.specs.List.{flat_map, AllByRecursion}
use Rattle.std.proofs.lemmas.Bool.{cases_lt, ltb-false, le-ltb}
use Rattle.std.proofs.lemmas.List.{drop_at, take-append-drop, length-append, length-take, get_or-drop, get_or-take, get_or_past}
use Rattle.std.proofs.lemmas.List.Concat.{flat_map-cons}
use Rattle.std.proofs.lemmas.Nat.{mul-le, be_bytes_2, be_bytes_4, be_bytes_8, from_be_bytes-to_be_bytes_2, from_be_bytes-to_be_bytes_4, from_be_bytes-to_be_bytes_8}
use Rattle.byteorder.specs.Endian.{big_number}
use Rattle.definitions.specs.declared.frame.Unread.{Unread}
use Rattle.definitions.specs.declared.frame.Unread.TheVariants.{Short, Out}
use Rattle.definitions.specs.FrameFields.{Form, spelled, ◌>>=◌, number_at, number, as_read, as_form, test_read, only, then_read, after, ◌▸◌, items_at, listed, maybe_read, maybe_spell, maybe}

abbrev pub IsBytes : List ℕ → Type 0
IsBytes bytes = (i : ℕ) → get_or bytes i 0 < 256

IsBytes-drop : (n : ℕ) (bytes : List ℕ) → IsBytes bytes → IsBytes (drop n bytes)
IsBytes-drop n bytes h i = rw get_or-drop (h (n + i))

IsBytes-take : (n : ℕ) (bytes : List ℕ) → IsBytes bytes → IsBytes (take n bytes)
IsBytes-take n bytes h i =
    elim (cases_lt i n) [
      | inl lt ↦ rw (get_or-take n bytes i 0 lt) (h i)
      | inr le ↦ rw (get_or_past (take n bytes) i 0 (omega (arith, length-take n bytes))) (omega arith)
    ]

-- the value of a step that did not fail
pub bind_ok : {A B : Type 0} (r : Result A Unread) (f : A → Result B Unread) (y : B) → (r >>= f) ≡ Ok y → (x : A) × (r ≡ Ok x) × (f x ≡ Ok y)
bind_ok (Ok x) f y e = (x, refl, e)
bind_ok (Err d) f y e = absurd cc

-- what failed
pub bind_err : {A B : Type 0} (r : Result A Unread) (f : A → Result B Unread) (d : Unread) → (r >>= f) ≡ Err d → (r ≡ Err d) ⊎ ((x : A) × (r ≡ Ok x) × (f x ≡ Err d))
bind_err (Ok x) f d e = inr (x, refl, e)
bind_err (Err c) f d e = inl cc

abbrev done : {A : Type 0} → A → Result A Unread
done x = Ok x

abbrev failed : {A : Type 0} → Unread → Result A Unread
failed d = Err d

pub ok_is : {A : Type 0} (x y : A) → done x ≡ done y → x ≡ y
ok_is x y e = cc

pub ok_no_err : {A : Type 0} (x : A) (d : Unread) → done x ≡ failed d → ⊥
ok_no_err x d e = cc

pub short_no_out : {A : Type 0} (left : ℕ) → failed {A = A} Short ≡ failed {A = A} (Out left) → ⊥
short_no_out left e = cc

pub out_is : {A : Type 0} (a b : ℕ) → failed {A = A} (Out a) ≡ failed {A = A} (Out b) → a ≡ b
out_is a b e = cc

-- which way a test went
pub chosen : {A : Type 0} (b : Bool) (x y z : A) → cond b x y ≡ z → ((b ≡ true) × (x ≡ z)) ⊎ ((b ≡ false) × (y ≡ z))
chosen true x y z e = inl (refl, e)
chosen false x y z e = inr (refl, e)

both_true : (a b : Bool) → (a && b) ≡ true → (a ≡ true) × (b ≡ true)
both_true true true e = (refl, refl)
both_true true false e = absurd cc
both_true false b e = absurd cc

-- what a reader took from the front
pub record Takes (bytes text rest : List ℕ) : Type 0 where
  pub parts : bytes ≡ text ++ rest
  pub rest_fits : IsBytes rest

pub Takes-then : (a x b y c : List ℕ) → Takes a x b → Takes b y c → Takes a (x ++ y) c
Takes-then a x b y c p q = record { parts = p.parts ∙ ap (λ (t : List ℕ). x ++ t) q.parts ∙ sym (append_assoc x y c); rest_fits = q.rest_fits }

-- A field out of its range begins among the first bytes, so many at most.
pub record Near (bytes : List ℕ) (left most : ℕ) : Type 0 where
  pub within : left ≤ length bytes
  pub near : length bytes < left + most

-- The laws of a form, whose spellings have at most so many bytes.
pub record Lawful {A : Type 0} (f : Form A) (most : ℕ) : Type 0 where
  pub takes : (bytes : List ℕ) (x : A) (rest : List ℕ) → IsBytes bytes → f.read bytes ≡ Ok (x, rest) → Takes bytes (f.spell x) rest × f.fits x
  pub again : (x : A) (rest : List ℕ) → f.fits x → f.read (f.spell x ++ rest) ≡ Ok (x, rest)
  pub far : (bytes : List ℕ) (left : ℕ) → IsBytes bytes → f.read bytes ≡ Err (Out left) → Near bytes left most
  pub size : (x : A) → f.fits x → length (f.spell x) ≤ most

-- ---- numbers

pub record IsWide (n : ℕ) : Type 0 where
  pub some : 0 < n
  pub len : (x : ℕ) → length (spelled n x) ≡ n
  pub back : (bytes : List ℕ) → length bytes ≡ n → IsBytes bytes → spelled n (big_number n bytes) ≡ bytes
  pub again : (x : ℕ) (rest : List ℕ) → x < 256 ^ n → big_number n (spelled n x ++ rest) ≡ x
  pub first : (bytes : List ℕ) → big_number n (take n bytes) ≡ big_number n bytes

single : (bytes : List ℕ) → length bytes ≡ 1 → IsBytes bytes → spelled 1 (big_number 1 bytes) ≡ bytes
unfolding spelled
single [] len fits = absurd (omega (arith, len))
single (b ∷ []) len fits = ap (λ (x : ℕ). x ∷ []) (omega (arith, fits 0))
single (b ∷ c ∷ bytes) len fits = absurd (omega (arith, len))

pub wide1 : IsWide 1
unfolding spelled
wide1 = record {
  some = omega arith;
  len = λ x. refl;
  back = single;
  again = λ x rest lt. omega arith;
  first = λ bytes. omega (arith, get_or-take 1 bytes 0 0 (omega arith));
}

pub wide2 : IsWide 2
unfolding spelled
wide2 = record {
  some = omega arith;
  len = λ x. refl;
  back = λ bytes len fits. be_bytes_2 bytes (big_number 2 bytes) len fits (omega arith);
  again = λ x rest lt. omega (arith, from_be_bytes-to_be_bytes_2 x lt);
  first = λ bytes. omega (arith, get_or-take 2 bytes 0 0 (omega arith), get_or-take 2 bytes 1 0 (omega arith));
}

pub wide4 : IsWide 4
unfolding spelled
wide4 = record {
  some = omega arith;
  len = λ x. refl;
  back = λ bytes len fits. be_bytes_4 bytes (big_number 4 bytes) len fits (omega arith);
  again = λ x rest lt. omega (arith, from_be_bytes-to_be_bytes_4 x lt);
  first = λ bytes. omega (arith, get_or-take 4 bytes 0 0 (omega arith), get_or-take 4 bytes 1 0 (omega arith), get_or-take 4 bytes 2 0 (omega arith), get_or-take 4 bytes 3 0 (omega arith));
}

pub wide8 : IsWide 8
unfolding spelled
wide8 = record {
  some = omega arith;
  len = λ x. refl;
  back = λ bytes len fits. be_bytes_8 bytes (big_number 8 bytes) len fits (omega arith);
  again = λ x rest lt. omega (arith, from_be_bytes-to_be_bytes_8 x lt);
  first = λ bytes. omega (arith, get_or-take 8 bytes 0 0 (omega arith), get_or-take 8 bytes 1 0 (omega arith), get_or-take 8 bytes 2 0 (omega arith), get_or-take 8 bytes 3 0 (omega arith), get_or-take 8 bytes 4 0 (omega arith), get_or-take 8 bytes 5 0 (omega arith), get_or-take 8 bytes 6 0 (omega arith), get_or-take 8 bytes 7 0 (omega arith));
}

record Read (n lo hi : ℕ) (bytes : List ℕ) (x : ℕ) (rest : List ℕ) : Type 0 where
  long : n ≤ length bytes
  value : big_number n bytes ≡ x
  others : drop n bytes ≡ rest
  least : lo ≤ x
  most : x ≤ hi

in_range : (lo x hi : ℕ) → (leb lo x && leb x hi) ≡ true → (lo ≤ x) × (x ≤ hi)
in_range lo x hi e = let b = both_true (leb lo x) (leb x hi) e in (grind (arith, b.0), grind (arith, b.1))

range_in : (lo x hi : ℕ) → lo ≤ x → x ≤ hi → (leb lo x && leb x hi) ≡ true
range_in lo x hi p q = grind arith

number_read : (n lo hi : ℕ) (bytes : List ℕ) (x : ℕ) (rest : List ℕ) → number_at n lo hi bytes ≡ Ok (x, rest) → Read n lo hi bytes x rest
unfolding number_at
number_read n lo hi bytes x rest e =
    elim (chosen (ltb (length bytes) n) (Err Short) (cond (leb lo (big_number n bytes) && leb (big_number n bytes) hi) (Ok (big_number n bytes, drop n bytes)) (Err (Out (length bytes)))) (Ok (x, rest)) e) [
      | inl t ↦ absurd (ok_no_err (x, rest) Short (sym t.1))
      | inr t ↦ elim (chosen (leb lo (big_number n bytes) && leb (big_number n bytes) hi) (Ok (big_number n bytes, drop n bytes)) (Err (Out (length bytes))) (Ok (x, rest)) t.1) [
        | inl u ↦
            let p = ok_is (big_number n bytes, drop n bytes) (x, rest) u.1 in
            let r = in_range lo (big_number n bytes) hi u.0 in
            let v : big_number n bytes ≡ x = ap (λ (q : ℕ × List ℕ). q.0) p in
            record { long = ltb-false _ _ t.0; value = v; others = ap (λ (q : ℕ × List ℕ). q.1) p; least = rw (← v) r.0; most = rw (← v) r.1 }
        | inr u ↦ absurd (ok_no_err (x, rest) (Out (length bytes)) (sym u.1))
      ]
    ]

number_err : (n lo hi : ℕ) (bytes : List ℕ) (left : ℕ) → number_at n lo hi bytes ≡ Err (Out left) → left ≡ length bytes
unfolding number_at
number_err n lo hi bytes left e =
    elim (chosen (ltb (length bytes) n) (Err Short) (cond (leb lo (big_number n bytes) && leb (big_number n bytes) hi) (Ok (big_number n bytes, drop n bytes)) (Err (Out (length bytes)))) (Err (Out left)) e) [
      | inl t ↦ absurd (short_no_out {A = ℕ × List ℕ} left t.1)
      | inr t ↦ elim (chosen (leb lo (big_number n bytes) && leb (big_number n bytes) hi) (Ok (big_number n bytes, drop n bytes)) (Err (Out (length bytes))) (Err (Out left)) t.1) [
        | inl u ↦ absurd (ok_no_err (big_number n bytes, drop n bytes) (Out left) u.1)
        | inr u ↦ sym (out_is {A = ℕ × List ℕ} (length bytes) left u.1)
      ]
    ]

number_takes : (n lo hi : ℕ) → IsWide n → (bytes : List ℕ) (x : ℕ) (rest : List ℕ) → IsBytes bytes → number_at n lo hi bytes ≡ Ok (x, rest) → Takes bytes (spelled n x) rest × ((lo ≤ x) × (x ≤ hi))
number_takes n lo hi wide bytes x rest fits e =
    let r = number_read n lo hi bytes x rest e in
    let whole : spelled n x ≡ take n bytes = rw (← r.value, ← wide.first bytes) (wide.back (take n bytes) (omega (arith, length-take n bytes, r.long)) (IsBytes-take n bytes fits)) in
    (record { parts = rw (whole, ← r.others) (sym (take-append-drop n bytes)); rest_fits = rw (← r.others) (IsBytes-drop n bytes fits) }, (r.least, r.most))

number_again : (n lo hi : ℕ) → IsWide n → hi < 256 ^ n → (x : ℕ) (rest : List ℕ) → (lo ≤ x) × (x ≤ hi) → number_at n lo hi (spelled n x ++ rest) ≡ Ok (x, rest)
unfolding number_at
number_again n lo hi wide small x rest fits =
    let len = wide.len x in
    let long : ltb (length (spelled n x ++ rest)) n ≡ false = le-ltb _ _ (omega (arith, length-append (spelled n x) rest)) in
    let value = wide.again x rest (omega (arith, fits.1)) in
    rw (long, value, range_in lo x hi fits.0 fits.1, drop_at (spelled n x) rest n len) refl

pub number_lawful : (n lo hi : ℕ) → IsWide n → hi < 256 ^ n → Lawful (number n lo hi) n
number_lawful n lo hi wide small = record {
  takes = number_takes n lo hi wide;
  again = number_again n lo hi wide small;
  far = λ bytes left fits e. let k = number_err n lo hi bytes left e in record { within = omega (arith, k); near = omega (arith, k, wide.some) };
  size = λ x fits. omega (arith, wide.len x);
}

-- ---- forms made of others

module _ {A B : Type 0} (to : A → B) (from : B → A) (f : Form A) (most : ℕ) (law : Lawful f most) (same : (x : A) → f.fits x → from (to x) ≡ x) where
  as_takes : (bytes : List ℕ) (y : B) (rest : List ℕ) → IsBytes bytes → as_read to (f.read bytes) ≡ Ok (y, rest) → Takes bytes (f.spell (from y)) rest × (f.fits (from y) × (to (from y) ≡ y))
  as_takes bytes y rest fits e =
      let a = bind_ok (f.read bytes) (λ x. Ok (to x.0, x.1)) (y, rest) e in
      let t = law.takes bytes a.0.0 a.0.1 fits a.1 in
      let s = same a.0.0 t.1 in
      let made : Takes bytes (f.spell (from (to a.0.0))) a.0.1 × (f.fits (from (to a.0.0)) × (to (from (to a.0.0)) ≡ to a.0.0)) = (subst (λ (x : A). Takes bytes (f.spell x) a.0.1) (sym s) t.0, (subst f.fits (sym s) t.1, ap to s)) in
      subst (λ (p : B × List ℕ). Takes bytes (f.spell (from p.0)) p.1 × (f.fits (from p.0) × (to (from p.0) ≡ p.0))) (ok_is (to a.0.0, a.0.1) (y, rest) a.2) made

  as_far : (bytes : List ℕ) (left : ℕ) → IsBytes bytes → as_read to (f.read bytes) ≡ Err (Out left) → Near bytes left most
  as_far bytes left fits e =
      elim (bind_err (f.read bytes) (λ x. Ok (to x.0, x.1)) (Out left) e) [
        | inl h ↦ law.far bytes left fits h
        | inr h ↦ absurd (ok_no_err (to h.0.0, h.0.1) (Out left) h.2)
      ]

  as_again : (y : B) (rest : List ℕ) → f.fits (from y) × (to (from y) ≡ y) → as_read to (f.read (f.spell (from y) ++ rest)) ≡ Ok (y, rest)
  as_again y rest fits = rw (law.again (from y) rest fits.0, fits.1) refl

  pub as_lawful : Lawful (as_form to from f) most
  as_lawful = record { takes = as_takes; again = as_again; far = as_far; size = λ y fits. law.size (from y) fits.0 }

module _ {A : Type 0} (test : A → Bool) (f : Form A) (most : ℕ) (some : 0 < most) (law : Lawful f most) where
  only_takes : (bytes : List ℕ) (x : A) (rest : List ℕ) → IsBytes bytes → test_read test bytes (f.read bytes) ≡ Ok (x, rest) → Takes bytes (f.spell x) rest × (f.fits x × (test x ≡ true))
  only_takes bytes x rest fits e =
      let a = bind_ok (f.read bytes) (λ y. cond (test y.0) (Ok y) (Err (Out (length bytes)))) (x, rest) e in
      let t = law.takes bytes a.0.0 a.0.1 fits a.1 in
      elim (chosen (test a.0.0) (Ok a.0) (Err (Out (length bytes))) (Ok (x, rest)) a.2) [
        | inl h ↦ subst (λ (p : A × List ℕ). Takes bytes (f.spell p.0) p.1 × (f.fits p.0 × (test p.0 ≡ true))) (ok_is a.0 (x, rest) h.1) (t.0, (t.1, h.0))
        | inr h ↦ absurd (ok_no_err (x, rest) (Out (length bytes)) (sym h.1))
      ]

  only_far : (bytes : List ℕ) (left : ℕ) → IsBytes bytes → test_read test bytes (f.read bytes) ≡ Err (Out left) → Near bytes left most
  only_far bytes left fits e =
      elim (bind_err (f.read bytes) (λ y. cond (test y.0) (Ok y) (Err (Out (length bytes)))) (Out left) e) [
        | inl h ↦ law.far bytes left fits h
        | inr h ↦ elim (chosen (test h.0.0) (Ok h.0) (Err (Out (length bytes))) (Err (Out left)) h.2) [
          | inl g ↦ absurd (ok_no_err h.0 (Out left) g.1)
          | inr g ↦ let k = out_is {A = A × List ℕ} (length bytes) left g.1 in record { within = omega (arith, k); near = omega (arith, k, some) }
        ]
      ]

  only_again : (x : A) (rest : List ℕ) → f.fits x × (test x ≡ true) → test_read test (f.spell x ++ rest) (f.read (f.spell x ++ rest)) ≡ Ok (x, rest)
  only_again x rest fits = rw (law.again x rest fits.0, fits.1) refl

  pub only_lawful : Lawful (only test f) most
  only_lawful = record { takes = only_takes; again = only_again; far = only_far; size = λ x fits. law.size x fits.0 }

module _ {A B : Type 0} (f : Form A) (g : A → Form B) (most more : ℕ) (law : Lawful f most) (laws : (x : A) → f.fits x → Lawful (g x) more) where
  after_takes : (bytes : List ℕ) (z : A × B) (rest : List ℕ) → IsBytes bytes → then_read (f.read bytes) (λ x r. (g x).read r) ≡ Ok (z, rest) → Takes bytes (f.spell z.0 ++ (g z.0).spell z.1) rest × (f.fits z.0 × (g z.0).fits z.1)
  after_takes bytes z rest fits e =
      let a = bind_ok (f.read bytes) (λ x. (g x.0).read x.1 >>= λ y. Ok ((x.0, y.0), y.1)) (z, rest) e in
      let b = bind_ok ((g a.0.0).read a.0.1) (λ y. Ok ((a.0.0, y.0), y.1)) (z, rest) a.2 in
      let s = law.takes bytes a.0.0 a.0.1 fits a.1 in
      let t = (laws a.0.0 s.1).takes a.0.1 b.0.0 b.0.1 s.0.rest_fits b.1 in
      let both = Takes-then bytes (f.spell a.0.0) a.0.1 ((g a.0.0).spell b.0.0) b.0.1 s.0 t.0 in
      subst (λ (p : (A × B) × List ℕ). Takes bytes (f.spell p.0.0 ++ (g p.0.0).spell p.0.1) p.1 × (f.fits p.0.0 × (g p.0.0).fits p.0.1)) (ok_is ((a.0.0, b.0.0), b.0.1) (z, rest) b.2) (both, (s.1, t.1))

  after_far : (bytes : List ℕ) (left : ℕ) → IsBytes bytes → then_read (f.read bytes) (λ x r. (g x).read r) ≡ Err (Out left) → Near bytes left (most + more)
  after_far bytes left fits e =
      elim (bind_err (f.read bytes) (λ x. (g x.0).read x.1 >>= λ y. Ok ((x.0, y.0), y.1)) (Out left) e) [
        | inl h ↦ let n = law.far bytes left fits h in record { within = n.within; near = omega (arith, n.near) }
        | inr h ↦
            let s = law.takes bytes h.0.0 h.0.1 fits h.1 in
            let long : length bytes ≡ length (f.spell h.0.0) + length h.0.1 = ap length s.0.parts ∙ length-append (f.spell h.0.0) h.0.1 in
            elim (bind_err ((g h.0.0).read h.0.1) (λ y. Ok ((h.0.0, y.0), y.1)) (Out left) h.2) [
              | inl k ↦ let n = (laws h.0.0 s.1).far h.0.1 left s.0.rest_fits k in record { within = omega (arith, n.within, long); near = omega (arith, n.near, long, law.size h.0.0 s.1) }
              | inr k ↦ absurd (ok_no_err ((h.0.0, k.0.0), k.0.1) (Out left) k.2)
            ]
      ]

  after_again : (z : A × B) (rest : List ℕ) → f.fits z.0 × (g z.0).fits z.1 → then_read (f.read ((f.spell z.0 ++ (g z.0).spell z.1) ++ rest)) (λ x r. (g x).read r) ≡ Ok (z, rest)
  after_again z rest fits = rw (append_assoc (f.spell z.0) ((g z.0).spell z.1) rest, law.again z.0 ((g z.0).spell z.1 ++ rest) fits.0, (laws z.0 fits.0).again z.1 rest fits.1) refl

  after_size : (z : A × B) → f.fits z.0 × (g z.0).fits z.1 → length (f.spell z.0 ++ (g z.0).spell z.1) ≤ most + more
  after_size z fits = omega (arith, length-append (f.spell z.0) ((g z.0).spell z.1), law.size z.0 fits.0, (laws z.0 fits.0).size z.1 fits.1)

  pub after_lawful : Lawful (after f g) (most + more)
  after_lawful = record { takes = after_takes; again = after_again; far = after_far; size = after_size }

pub then_lawful : {A B : Type 0} (f : Form A) (g : Form B) (most more : ℕ) → Lawful f most → Lawful g more → Lawful (f ▸ g) (most + more)
then_lawful f g most more law laws = after_lawful f (λ _. g) most more law (λ x h. laws)

-- ---- lists

suc-mul : (k m : ℕ) → suc k * m ≡ k * m + m
suc-mul k m = grind arith

module _ {A : Type 0} (f : Form A) (most : ℕ) (law : Lawful f most) where
  items_takes : (k : ℕ) (bytes : List ℕ) (xs : List A) (rest : List ℕ) → IsBytes bytes → items_at f k bytes ≡ Ok (xs, rest) → Takes bytes (flat_map f.spell xs) rest × (length xs ≡ k) × AllByRecursion f.fits xs
  unfolding items_at
  items_takes zero bytes xs rest fits e =
      subst (λ (p : List A × List ℕ). Takes bytes (flat_map f.spell p.0) p.1 × (length p.0 ≡ 0) × AllByRecursion f.fits p.0) (ok_is ([], bytes) (xs, rest) e) (record { parts = refl; rest_fits = fits }, refl, tt)
  items_takes (suc k) bytes xs rest fits e =
      let a = bind_ok (f.read bytes) (λ x. items_at f k x.1 >>= λ y. Ok (x.0 ∷ y.0, y.1)) (xs, rest) e in
      let b = bind_ok (items_at f k a.0.1) (λ y. Ok (a.0.0 ∷ y.0, y.1)) (xs, rest) a.2 in
      let s = law.takes bytes a.0.0 a.0.1 fits a.1 in
      let t = items_takes k a.0.1 b.0.0 b.0.1 s.0.rest_fits b.1 in
      let both = Takes-then bytes (f.spell a.0.0) a.0.1 (flat_map f.spell b.0.0) b.0.1 s.0 t.0 in
      let made : List A × List ℕ = (a.0.0 ∷ b.0.0, b.0.1) in
      subst (λ (p : List A × List ℕ). Takes bytes (flat_map f.spell p.0) p.1 × (length p.0 ≡ suc k) × AllByRecursion f.fits p.0) (ok_is made (xs, rest) b.2) (rw flat_map-cons both, ap suc t.1, (s.1, t.2))

  items_again : (xs : List A) (rest : List ℕ) → AllByRecursion f.fits xs → items_at f (length xs) (flat_map f.spell xs ++ rest) ≡ Ok (xs, rest)
  unfolding items_at
  items_again [] rest fits = refl
  items_again (x ∷ xs) rest fits =
      let regrouped : flat_map f.spell (x ∷ xs) ++ rest ≡ f.spell x ++ (flat_map f.spell xs ++ rest) = ap (λ (t : List ℕ). t ++ rest) (flat_map-cons f.spell x xs) ∙ append_assoc (f.spell x) (flat_map f.spell xs) rest in
      ap (items_at f (suc (length xs))) regrouped ∙ rw (law.again x (flat_map f.spell xs ++ rest) fits.0, items_again xs rest fits.1) refl

  items_size : (xs : List A) → AllByRecursion f.fits xs → length (flat_map f.spell xs) ≤ length xs * most
  items_size [] fits = omega arith
  items_size (x ∷ xs) fits =
      let one : length (flat_map f.spell (x ∷ xs)) ≡ length (f.spell x) + length (flat_map f.spell xs) = ap length (flat_map-cons f.spell x xs) ∙ length-append (f.spell x) (flat_map f.spell xs) in
      let product : suc (length xs) * most ≡ length xs * most + most = suc-mul (length xs) most in
      omega (arith, one, product, law.size x fits.0, items_size xs fits.1)

  items_far : (k : ℕ) (bytes : List ℕ) (left : ℕ) → IsBytes bytes → items_at f k bytes ≡ Err (Out left) → Near bytes left (k * most)
  unfolding items_at
  items_far zero bytes left fits e = absurd (ok_no_err {A = List A × List ℕ} ([], bytes) (Out left) e)
  items_far (suc k) bytes left fits e =
      let product : suc k * most ≡ k * most + most = suc-mul k most in
      elim (bind_err (f.read bytes) (λ x. items_at f k x.1 >>= λ y. Ok (x.0 ∷ y.0, y.1)) (Out left) e) [
        | inl h ↦ let n = law.far bytes left fits h in record { within = n.within; near = omega (arith, n.near, product) }
        | inr h ↦
            let s = law.takes bytes h.0.0 h.0.1 fits h.1 in
            let long : length bytes ≡ length (f.spell h.0.0) + length h.0.1 = ap length s.0.parts ∙ length-append (f.spell h.0.0) h.0.1 in
            elim (bind_err (items_at f k h.0.1) (λ y. Ok (h.0.0 ∷ y.0, y.1)) (Out left) h.2) [
              | inl g ↦ let n = items_far k h.0.1 left s.0.rest_fits g in record { within = omega (arith, n.within, long); near = omega (arith, n.near, long, product, law.size h.0.0 s.1) }
              | inr g ↦ absurd (ok_no_err (h.0.0 ∷ g.0.0, g.0.1) (Out left) g.2)
            ]
      ]

module _ {A : Type 0} (n lo hi : ℕ) (wide : IsWide n) (small : hi < 256 ^ n) (f : Form A) (most : ℕ) (law : Lawful f most) where
  count : Lawful (number n lo hi) n
  count = number_lawful n lo hi wide small

  product : (k : ℕ) → k ≤ hi → k * most ≤ hi * most
  product k le = mul-le k most hi most le (omega arith)

  listed_takes : (bytes : List ℕ) (xs : List A) (rest : List ℕ) → IsBytes bytes → (number_at n lo hi bytes >>= λ x. items_at f x.0 x.1) ≡ Ok (xs, rest) → Takes bytes (spelled n (length xs) ++ flat_map f.spell xs) rest × ((lo ≤ length xs) × (length xs ≤ hi) × AllByRecursion f.fits xs)
  listed_takes bytes xs rest fits e =
      let a = bind_ok (number_at n lo hi bytes) (λ x. items_at f x.0 x.1) (xs, rest) e in
      let s = count.takes bytes a.0.0 a.0.1 fits a.1 in
      let t = items_takes f most law a.0.0 a.0.1 xs rest s.0.rest_fits a.2 in
      let both = Takes-then bytes (spelled n a.0.0) a.0.1 (flat_map f.spell xs) rest s.0 t.0 in
      (subst (λ (k : ℕ). Takes bytes (spelled n k ++ flat_map f.spell xs) rest) (sym t.1) both, (rw t.1 s.1.0, rw t.1 s.1.1, t.2))

  listed_far : (bytes : List ℕ) (left : ℕ) → IsBytes bytes → (number_at n lo hi bytes >>= λ x. items_at f x.0 x.1) ≡ Err (Out left) → Near bytes left (n + hi * most)
  listed_far bytes left fits e =
      elim (bind_err (number_at n lo hi bytes) (λ x. items_at f x.0 x.1) (Out left) e) [
        | inl h ↦ let near = count.far bytes left fits h in record { within = near.within; near = omega (arith, near.near) }
        | inr h ↦
            let s = count.takes bytes h.0.0 h.0.1 fits h.1 in
            let long : length bytes ≡ length (spelled n h.0.0) + length h.0.1 = ap length s.0.parts ∙ length-append (spelled n h.0.0) h.0.1 in
            let near = items_far f most law h.0.0 h.0.1 left s.0.rest_fits h.2 in
            record { within = omega (arith, near.within, long); near = omega (arith, near.near, long, product h.0.0 s.1.1, wide.len h.0.0) }
      ]

  listed_again : (xs : List A) (rest : List ℕ) → (lo ≤ length xs) × (length xs ≤ hi) × AllByRecursion f.fits xs → (number_at n lo hi ((spelled n (length xs) ++ flat_map f.spell xs) ++ rest) >>= λ x. items_at f x.0 x.1) ≡ Ok (xs, rest)
  listed_again xs rest fits = rw (append_assoc (spelled n (length xs)) (flat_map f.spell xs) rest, count.again (length xs) (flat_map f.spell xs ++ rest) (fits.0, fits.1)) (items_again f most law xs rest fits.2)

  listed_size : (xs : List A) → (lo ≤ length xs) × (length xs ≤ hi) × AllByRecursion f.fits xs → length (spelled n (length xs) ++ flat_map f.spell xs) ≤ n + hi * most
  listed_size xs fits = omega (arith, length-append (spelled n (length xs)) (flat_map f.spell xs), wide.len (length xs), items_size f most law xs fits.2, product (length xs) fits.1)

  pub listed_lawful : Lawful (listed n lo hi f) (n + hi * most)
  listed_lawful = record { takes = listed_takes; again = listed_again; far = listed_far; size = listed_size }

-- ---- what may be absent

module _ {A : Type 0} (f : Form A) (most : ℕ) (law : Lawful f most) where
  flag : Lawful (number 1 0 1) 1
  flag = number_lawful 1 0 1 wide1 (omega arith)

  behind_takes : (n : ℕ) → n ≤ 1 → (bytes : List ℕ) (x : Option A) (rest : List ℕ) (all : List ℕ) → Takes all (spelled 1 n) bytes → maybe_read f n bytes ≡ Ok (x, rest) → Takes all (maybe_spell f x) rest × IfSome x f.fits
  behind_takes zero le bytes x rest all taken e =
      subst (λ (p : Option A × List ℕ). Takes all (maybe_spell f p.0) p.1 × IfSome p.0 f.fits) (ok_is (None, bytes) (x, rest) e) (taken, tt)
  behind_takes (suc zero) le bytes x rest all taken e =
      let a = bind_ok (f.read bytes) (λ y. Ok (Some y.0, y.1)) (x, rest) e in
      let s = law.takes bytes a.0.0 a.0.1 taken.rest_fits a.1 in
      subst (λ (p : Option A × List ℕ). Takes all (maybe_spell f p.0) p.1 × IfSome p.0 f.fits) (ok_is (Some a.0.0, a.0.1) (x, rest) a.2) (Takes-then all (spelled 1 1) bytes (f.spell a.0.0) a.0.1 taken s.0, s.1)
  behind_takes (suc (suc n)) le bytes x rest all taken e = absurd (omega (arith, le))

  maybe_takes : (bytes : List ℕ) (x : Option A) (rest : List ℕ) → IsBytes bytes → (number_at 1 0 1 bytes >>= λ y. maybe_read f y.0 y.1) ≡ Ok (x, rest) → Takes bytes (maybe_spell f x) rest × IfSome x f.fits
  maybe_takes bytes x rest fits e =
      let a = bind_ok (number_at 1 0 1 bytes) (λ y. maybe_read f y.0 y.1) (x, rest) e in
      let s = flag.takes bytes a.0.0 a.0.1 fits a.1 in
      behind_takes a.0.0 s.1.1 a.0.1 x rest bytes s.0 a.2

  behind_far : (n : ℕ) (bytes : List ℕ) (left : ℕ) → IsBytes bytes → maybe_read f n bytes ≡ Err (Out left) → Near bytes left most
  behind_far zero bytes left fits e = absurd (ok_no_err {A = Option A × List ℕ} (None, bytes) (Out left) e)
  behind_far (suc n) bytes left fits e =
      elim (bind_err (f.read bytes) (λ y. Ok (Some y.0, y.1)) (Out left) e) [
        | inl h ↦ law.far bytes left fits h
        | inr h ↦ absurd (ok_no_err {A = Option A × List ℕ} (Some h.0.0, h.0.1) (Out left) h.2)
      ]

  maybe_far : (bytes : List ℕ) (left : ℕ) → IsBytes bytes → (number_at 1 0 1 bytes >>= λ y. maybe_read f y.0 y.1) ≡ Err (Out left) → Near bytes left (1 + most)
  maybe_far bytes left fits e =
      elim (bind_err (number_at 1 0 1 bytes) (λ y. maybe_read f y.0 y.1) (Out left) e) [
        | inl h ↦ let near = flag.far bytes left fits h in record { within = near.within; near = omega (arith, near.near) }
        | inr h ↦
            let s = flag.takes bytes h.0.0 h.0.1 fits h.1 in
            let long : length bytes ≡ length (spelled 1 h.0.0) + length h.0.1 = ap length s.0.parts ∙ length-append (spelled 1 h.0.0) h.0.1 in
            let near = behind_far h.0.0 h.0.1 left s.0.rest_fits h.2 in
            record { within = omega (arith, near.within, long); near = omega (arith, near.near, long, wide1.len h.0.0) }
      ]

  maybe_again : (x : Option A) (rest : List ℕ) → IfSome x f.fits → (number_at 1 0 1 (maybe_spell f x ++ rest) >>= λ y. maybe_read f y.0 y.1) ≡ Ok (x, rest)
  maybe_again None rest fits = rw (flag.again 0 rest (omega arith, omega arith)) refl
  maybe_again (Some x) rest fits = rw (append_assoc (spelled 1 1) (f.spell x) rest, flag.again 1 (f.spell x ++ rest) (omega arith, omega arith), law.again x rest fits) refl

  maybe_size : (x : Option A) → IfSome x f.fits → length (maybe_spell f x) ≤ 1 + most
  maybe_size None fits = omega (arith, wide1.len 0)
  maybe_size (Some x) fits = omega (arith, length-append (spelled 1 1) (f.spell x), wide1.len 1, law.size x fits)

  pub maybe_lawful : Lawful (maybe f) (1 + most)
  maybe_lawful = record { takes = maybe_takes; again = maybe_again; far = maybe_far; size = maybe_size }
