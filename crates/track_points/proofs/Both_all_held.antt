-- Cutting and intersecting.
use Rattle.std.proofs.Common.{◌≡◌, ℕ, suc, ◌+◌, ◌<◌, min, max, Bool, true, false, not, ◌&&◌, ◌||◌, List, [], ◌∷◌, ◌++◌, length, length-append, drop, drop-cons, get_or, if◌then◌else◌, refl, ap, arith, nat_eq, nat_lt, nat_le}
use Rattle.std.proofs.lemmas.Bool.Decides.{nat_tests}
use Rattle.list_laws.proofs.By_test.{by_test}
use Rattle.track_points.specs.declared.ids.Range.{Range}
use Rattle.track_points.specs.Sets.{in_range, held, apart, all_apart, separate}
use Rattle.track_points.specs.Lists.{meets, minus, minus_all, both, both_all}

-- a range, or a list of ranges, within a range
abbrev pub within : Range → Range → Bool
within q x = nat_eq x.seg.0 q.seg.0 && (nat_le q.lo x.lo && (nat_lt x.lo x.hi && nat_le x.hi q.hi))

unfoldable pub all_within : Range → List Range → Bool
all_within q [] = true
all_within q (x ∷ xs) = within q x && all_within q xs

pub within_apart : (p q x : Range) → within q x ≡ true → apart p q ≡ true → (apart p x ≡ true) × (apart x p ≡ true)
within_apart p q x w a = (grind (arith, nat_tests), grind (arith, nat_tests))

pub all_within_apart : (p q : Range) (xs : List Range) → all_within q xs ≡ true → apart p q ≡ true → all_apart p xs ≡ true
unfolding all_within all_apart
all_within_apart p q [] w a = refl
all_within_apart p q (x ∷ xs) w a =
    let t : within q x && all_within q xs ≡ true = w in
    let i = all_within_apart p q xs (grind arith) a in
    let u = within_apart p q x (grind arith) a in rw (u.0, i) refl

pub all_within_wider : (p q : Range) (xs : List Range) → all_within q xs ≡ true → within p q ≡ true → all_within p xs ≡ true
unfolding all_within
all_within_wider p q [] w a = refl
all_within_wider p q (x ∷ xs) w a =
    let t : within q x && all_within q xs ≡ true = w in
    let i = all_within_wider p q xs (grind arith) a in
    let u : within p x ≡ true = grind (arith, nat_tests) in rw (u, i) refl

pub all_within_append : (q : Range) (xs ys : List Range) → all_within q xs ≡ true → all_within q ys ≡ true → all_within q (xs ++ ys) ≡ true
unfolding all_within
all_within_append q [] ys a b = b
all_within_append q (x ∷ xs) ys a b =
    let t : within q x && all_within q xs ≡ true = a in
    let i = all_within_append q xs ys (grind arith) b in let u : within q x ≡ true = grind arith in rw (u, i) refl

pub all_apart_append : (q : Range) (xs ys : List Range) → all_apart q xs ≡ true → all_apart q ys ≡ true → all_apart q (xs ++ ys) ≡ true
unfolding all_apart
all_apart_append q [] ys a b = b
all_apart_append q (x ∷ xs) ys a b =
    let t : apart q x && all_apart q xs ≡ true = a in
    let i = all_apart_append q xs ys (grind arith) b in let u : apart q x ≡ true = grind arith in rw (u, i) refl

pub all_apart_narrower : (q x : Range) (ys : List Range) → within q x ≡ true → all_apart q ys ≡ true → all_apart x ys ≡ true
unfolding all_apart
all_apart_narrower q x [] w a = refl
all_apart_narrower q x (y ∷ ys) w a =
    let t : apart q y && all_apart q ys ≡ true = a in
    let i = all_apart_narrower q x ys w (grind arith) in let u : apart x y ≡ true = grind (arith, nat_tests) in rw (u, i) refl

pub separate_append : (q : Range) (xs ys : List Range) → all_within q xs ≡ true → all_apart q ys ≡ true → separate xs ≡ true → separate ys ≡ true → separate (xs ++ ys) ≡ true
unfolding separate all_within
separate_append q [] ys w a d e = e
separate_append q (x ∷ xs) ys w a d e =
    let t : within q x && all_within q xs ≡ true = w in
    let u : nat_lt x.lo x.hi && (all_apart x xs && separate xs) ≡ true = d in
    let i = separate_append q xs ys (grind arith) a (grind arith) e in
    let f = all_apart_append x xs ys (grind arith) (all_apart_narrower q x ys (grind arith) a) in
    let g : nat_lt x.lo x.hi ≡ true = grind arith in rw (f, g, i) refl

pub held_append : (xs ys : List Range) (s mm : ℕ) → held (xs ++ ys) s mm ≡ (held xs s mm || held ys s mm)
unfolding held
held_append [] ys s mm = refl
held_append (x ∷ xs) ys s mm = rw (held_append xs ys s mm) (by_test (in_range x s mm) (λ y. rw y refl) (λ n. rw n refl))

-- the same in spite of a test
pub if_within : (q : Range) (b : Bool) (xs : List Range) → (b ≡ true → all_within q xs ≡ true) → all_within q (if b then xs else []) ≡ true
unfolding all_within
if_within q true xs f = f refl
if_within q false xs f = refl

pub if_separate : (b : Bool) (xs : List Range) → (b ≡ true → separate xs ≡ true) → separate (if b then xs else []) ≡ true
unfolding separate
if_separate true xs f = f refl
if_separate false xs f = refl

pub if_held : (b : Bool) (xs : List Range) (s mm : ℕ) → held (if b then xs else []) s mm ≡ (b && held xs s mm)
unfolding held
if_held true xs s mm = refl
if_held false xs s mm = refl

-- Cutting.

pub minus_within : (q : Range) (rs : List Range) → q.lo < q.hi → all_within q (minus q rs) ≡ true
unfolding minus all_within
minus_within q [] h = grind (arith, nat_tests)
minus_within q (r ∷ rs) h =
    let left : Range = record { seg = q.seg; lo = q.lo; hi = r.lo } in
    let right : Range = record { seg = q.seg; lo = r.hi; hi = q.hi } in
    by_test (meets q r)
    (λ y. rw y (all_within_append q (if nat_lt q.lo r.lo then minus left rs else []) (if nat_lt r.hi q.hi then minus right rs else [])
    (if_within q (nat_lt q.lo r.lo) (minus left rs) (λ b. all_within_wider q left (minus left rs) (minus_within left rs (grind (arith, nat_tests))) (grind (arith, nat_tests))))
    (if_within q (nat_lt r.hi q.hi) (minus right rs) (λ b. all_within_wider q right (minus right rs) (minus_within right rs (grind (arith, nat_tests))) (grind (arith, nat_tests))))))
    (λ n. rw n (minus_within q rs h))

pub minus_separate : (q : Range) (rs : List Range) → q.lo < q.hi → separate rs ≡ true → separate (minus q rs) ≡ true
unfolding minus separate all_apart
minus_separate q [] h e = grind (arith, nat_tests)
minus_separate q (r ∷ rs) h e =
    let t : nat_lt r.lo r.hi && (all_apart r rs && separate rs) ≡ true = e in
    let e2 : separate rs ≡ true = grind arith in
    let left : Range = record { seg = q.seg; lo = q.lo; hi = r.lo } in
    let right : Range = record { seg = q.seg; lo = r.hi; hi = q.hi } in
    by_test (meets q r)
    (λ y. rw y (separate_append left (if nat_lt q.lo r.lo then minus left rs else []) (if nat_lt r.hi q.hi then minus right rs else [])
    (if_within left (nat_lt q.lo r.lo) (minus left rs) (λ b. minus_within left rs (grind (arith, nat_tests))))
    (all_within_apart left right (if nat_lt r.hi q.hi then minus right rs else []) (if_within right (nat_lt r.hi q.hi) (minus right rs) (λ b. minus_within right rs (grind (arith, nat_tests)))) (grind (arith, nat_tests)))
    (if_separate (nat_lt q.lo r.lo) (minus left rs) (λ b. minus_separate left rs (grind (arith, nat_tests)) e2))
    (if_separate (nat_lt r.hi q.hi) (minus right rs) (λ b. minus_separate right rs (grind (arith, nat_tests)) e2))))
    (λ n. rw n (minus_separate q rs h e2))

pub minus_held : (q : Range) (rs : List Range) (s mm : ℕ) → q.lo < q.hi → separate rs ≡ true → held (minus q rs) s mm ≡ (in_range q s mm && not (held rs s mm))
unfolding minus held separate
minus_held q [] s mm h e = by_test (in_range q s mm) (λ y. rw y refl) (λ n. rw n refl)
minus_held q (r ∷ rs) s mm h e =
    let t : nat_lt r.lo r.hi && (all_apart r rs && separate rs) ≡ true = e in
    let e2 : separate rs ≡ true = grind arith in
    let left : Range = record { seg = q.seg; lo = q.lo; hi = r.lo } in
    let right : Range = record { seg = q.seg; lo = r.hi; hi = q.hi } in
    by_test (meets q r)
    (λ y. rw (
      y,
      held_append (if nat_lt q.lo r.lo then minus left rs else []) (if nat_lt r.hi q.hi then minus right rs else []) s mm,
      if_held (nat_lt q.lo r.lo) (minus left rs) s mm,
      if_held (nat_lt r.hi q.hi) (minus right rs) s mm,
    )
    (halves y (held rs s mm)
    (λ b. minus_held left rs s mm (grind (arith, nat_tests)) e2)
    (λ b. minus_held right rs s mm (grind (arith, nat_tests)) e2)))
    (λ n. let i = minus_held q rs s mm h e2 in rw (n, i) (grind (arith, nat_tests)))
  where
    halves : meets q r ≡ true → (b : Bool)
        → (nat_lt q.lo r.lo ≡ true → held (minus (record { seg = q.seg; lo = q.lo; hi = r.lo }) rs) s mm ≡ (in_range (record { seg = q.seg; lo = q.lo; hi = r.lo }) s mm && not b))
        → (nat_lt r.hi q.hi ≡ true → held (minus (record { seg = q.seg; lo = r.hi; hi = q.hi }) rs) s mm ≡ (in_range (record { seg = q.seg; lo = r.hi; hi = q.hi }) s mm && not b))
        → ((nat_lt q.lo r.lo && held (minus (record { seg = q.seg; lo = q.lo; hi = r.lo }) rs) s mm) || (nat_lt r.hi q.hi && held (minus (record { seg = q.seg; lo = r.hi; hi = q.hi }) rs) s mm))
        ≡ (in_range q s mm && not (in_range r s mm || b))
    halves y b f g =
        by_test (nat_lt q.lo r.lo)
        (λ a. let f1 = f a in by_test (nat_lt r.hi q.hi)
        (λ c. let g1 = g c in rw (a, c, f1, g1) (by_test b (λ d. rw d (grind (arith, nat_tests))) (λ d. rw d (grind (arith, nat_tests)))))
        (λ c. rw (a, c, f1) (by_test b (λ d. rw d (grind (arith, nat_tests))) (λ d. rw d (grind (arith, nat_tests))))))
        (λ a. by_test (nat_lt r.hi q.hi)
        (λ c. let g1 = g c in rw (a, c, g1) (by_test b (λ d. rw d (grind (arith, nat_tests))) (λ d. rw d (grind (arith, nat_tests)))))
        (λ c. rw (a, c) (by_test b (λ d. rw d (grind (arith, nat_tests))) (λ d. rw d (grind (arith, nat_tests))))))

pub minus_all_apart : (p : Range) (qs rs : List Range) → separate qs ≡ true → all_apart p qs ≡ true → all_apart p (minus_all qs rs) ≡ true
unfolding separate all_apart minus_all
minus_all_apart p [] rs d a = refl
minus_all_apart p (q ∷ qs) rs d a =
    let t : nat_lt q.lo q.hi && (all_apart q qs && separate qs) ≡ true = d in
    let u : apart p q && all_apart p qs ≡ true = a in
    all_apart_append p (minus q rs) (minus_all qs rs)
    (all_within_apart p q (minus q rs) (minus_within q rs (grind (arith, nat_tests))) (grind arith))
    (minus_all_apart p qs rs (grind arith) (grind arith))

pub minus_all_separate : (qs rs : List Range) → separate qs ≡ true → separate rs ≡ true → separate (minus_all qs rs) ≡ true
unfolding separate minus_all
minus_all_separate [] rs d e = refl
minus_all_separate (q ∷ qs) rs d e =
    let t : nat_lt q.lo q.hi && (all_apart q qs && separate qs) ≡ true = d in
    let lt : q.lo < q.hi = grind (arith, nat_tests) in
    separate_append q (minus q rs) (minus_all qs rs) (minus_within q rs lt) (minus_all_apart q qs rs (grind arith) (grind arith))
    (minus_separate q rs lt e) (minus_all_separate qs rs (grind arith) e)

pub minus_all_held : (qs rs : List Range) (s mm : ℕ) → separate qs ≡ true → separate rs ≡ true → held (minus_all qs rs) s mm ≡ (held qs s mm && not (held rs s mm))
unfolding separate minus_all held
minus_all_held [] rs s mm d e = refl
minus_all_held (q ∷ qs) rs s mm d e =
    let t : nat_lt q.lo q.hi && (all_apart q qs && separate qs) ≡ true = d in
    rw (held_append (minus q rs) (minus_all qs rs) s mm, minus_held q rs s mm (grind (arith, nat_tests)) e, minus_all_held qs rs s mm (grind arith) e)
    (grind arith)

-- Intersecting.

pub both_within : (q : Range) (rs : List Range) → q.lo < q.hi → separate rs ≡ true → all_within q (both q rs) ≡ true
unfolding both all_within separate
both_within q [] h e = refl
both_within q (r ∷ rs) h e =
    let t : nat_lt r.lo r.hi && (all_apart r rs && separate rs) ≡ true = e in
    let i = both_within q rs h (grind arith) in
    by_test (meets q r)
    (λ y. let x : Range = record { seg = q.seg; lo = max q.lo r.lo; hi = min q.hi r.hi } in
    let w : within q x ≡ true = grind (arith, nat_tests) in rw (y, i) (grind arith))
    (λ n. rw n i)

pub both_apart : (p q : Range) (rs : List Range) → q.lo < q.hi → separate rs ≡ true → all_apart p rs ≡ true → all_apart p (both q rs) ≡ true
unfolding both all_apart separate
both_apart p q [] h e a = refl
both_apart p q (r ∷ rs) h e a =
    let t : nat_lt r.lo r.hi && (all_apart r rs && separate rs) ≡ true = e in
    let u : apart p r && all_apart p rs ≡ true = a in
    let i = both_apart p q rs h (grind arith) (grind arith) in
    by_test (meets q r)
    (λ y. let x : Range = record { seg = q.seg; lo = max q.lo r.lo; hi = min q.hi r.hi } in
    let w : apart p x ≡ true = grind (arith, nat_tests) in rw (y, i) (grind arith))
    (λ n. rw n i)

pub both_separate : (q : Range) (rs : List Range) → q.lo < q.hi → separate rs ≡ true → separate (both q rs) ≡ true
unfolding both separate
both_separate q [] h e = refl
both_separate q (r ∷ rs) h e =
    let t : nat_lt r.lo r.hi && (all_apart r rs && separate rs) ≡ true = e in
    let i = both_separate q rs h (grind arith) in
    by_test (meets q r)
    (λ y. let x : Range = record { seg = q.seg; lo = max q.lo r.lo; hi = min q.hi r.hi } in
    let f = all_apart_narrower r x (both q rs) (grind (arith, nat_tests)) (both_apart r q rs h (grind arith) (grind arith)) in
    let g : nat_lt x.lo x.hi ≡ true = grind (arith, nat_tests) in rw (y, i) (grind arith))
    (λ n. rw n i)

pub both_held : (q : Range) (rs : List Range) (s mm : ℕ) → held (both q rs) s mm ≡ (in_range q s mm && held rs s mm)
unfolding both held
both_held q [] s mm = by_test (in_range q s mm) (λ y. rw y refl) (λ n. rw n refl)
both_held q (r ∷ rs) s mm =
    let i = both_held q rs s mm in
    by_test (meets q r)
    (λ y. rw (y, i) (by_test (held rs s mm) (λ d. rw d (grind (arith, nat_tests))) (λ d. rw d (grind (arith, nat_tests)))))
    (λ n. rw (n, i) (by_test (held rs s mm) (λ d. rw d (grind (arith, nat_tests))) (λ d. rw d (grind (arith, nat_tests)))))

pub common_room : (q : Range) (others : List Range) (i : ℕ) (out init : List Range) (d : Range) → i < length others → meets q (get_or others i d) ≡ true
    → out ++ both q (drop i others) ≡ init ++ both q others → 24 < length out + 1 → 24 < length init + length (both q others)
unfolding both
common_room q others i out init d lt m e h =
    let x = get_or others i d in
    let f : out ++ both q (x ∷ drop (suc i) others) ≡ init ++ both q others = rw (drop-cons others i d lt) at e in
    let g : out ++ (record { seg = q.seg; lo = max q.lo x.lo; hi = min q.hi x.hi } ∷ both q (drop (suc i) others)) ≡ init ++ both q others = rw m at f in
    let l = ap length g in
    let l1 = length-append out (record { seg = q.seg; lo = max q.lo x.lo; hi = min q.hi x.hi } ∷ both q (drop (suc i) others)) in
    let l2 = length-append init (both q others) in
    omega arith

pub both_all_apart : (p : Range) (qs rs : List Range) → separate qs ≡ true → separate rs ≡ true → all_apart p qs ≡ true → all_apart p (both_all qs rs) ≡ true
unfolding separate all_apart both_all
both_all_apart p [] rs d e a = refl
both_all_apart p (q ∷ qs) rs d e a =
    let t : nat_lt q.lo q.hi && (all_apart q qs && separate qs) ≡ true = d in
    let u : apart p q && all_apart p qs ≡ true = a in
    all_apart_append p (both q rs) (both_all qs rs)
    (all_within_apart p q (both q rs) (both_within q rs (grind (arith, nat_tests)) e) (grind arith))
    (both_all_apart p qs rs (grind arith) e (grind arith))

pub both_all_separate : (qs rs : List Range) → separate qs ≡ true → separate rs ≡ true → separate (both_all qs rs) ≡ true
unfolding separate both_all
both_all_separate [] rs d e = refl
both_all_separate (q ∷ qs) rs d e =
    let t : nat_lt q.lo q.hi && (all_apart q qs && separate qs) ≡ true = d in
    let lt : q.lo < q.hi = grind (arith, nat_tests) in
    separate_append q (both q rs) (both_all qs rs) (both_within q rs lt e) (both_all_apart q qs rs (grind arith) e (grind arith))
    (both_separate q rs lt e) (both_all_separate qs rs (grind arith) e)

pub both_all_held : (qs rs : List Range) (s mm : ℕ) → held (both_all qs rs) s mm ≡ (held qs s mm && held rs s mm)
unfolding both_all held
both_all_held [] rs s mm = refl
both_all_held (q ∷ qs) rs s mm =
    rw (held_append (both q rs) (both_all qs rs) s mm, both_held q rs s mm, both_all_held qs rs s mm) (grind arith)
