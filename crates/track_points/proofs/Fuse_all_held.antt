-- Fusing.
use Rattle.std.proofs.Common.{◌≡◌, ℕ, suc, ◌+◌, ◌<◌, ◌≤◌, true, false, ◌&&◌, ◌||◌, List, [], ◌∷◌, length, drop, drop-cons, get_or, refl, arith, nat_lt}
use Rattle.std.proofs.lemmas.Bool.Decides.{nat_tests}
use Rattle.list_laws.proofs.By_test.{by_test}
use Rattle.track_points.specs.declared.ids.Range.{Range}
use Rattle.track_points.specs.Sets.{in_range, held, apart, all_apart, separate}
use Rattle.track_points.specs.Lists.{hull, fuse, fuse_all}

pub in_hull : (r q : Range) (s mm : ℕ) → r.lo < r.hi → q.lo < q.hi → apart r q ≡ false → in_range (hull r q) s mm ≡ (in_range r s mm || in_range q s mm)
in_hull r q s mm a b e = grind (arith, nat_tests)

pub apart_hull : (p r q : Range) → r.lo < r.hi → q.lo < q.hi → p.lo < p.hi → apart r q ≡ false → apart p r ≡ true → apart p q ≡ true → apart p (hull r q) ≡ true
apart_hull p r q a b c e f g = grind (arith, nat_tests)

-- fusing keeps apart what is apart from both
pub fuse_apart : (p r : Range) (qs : List Range) → p.lo < p.hi → r.lo < r.hi → separate qs ≡ true → apart p r ≡ true → all_apart p qs ≡ true → all_apart p (fuse r qs) ≡ true
unfolding separate all_apart fuse
fuse_apart p r [] a b e f g = rw f refl
fuse_apart p r (q ∷ qs) a b e f g =
    let t : nat_lt q.lo q.hi && (all_apart q qs && separate qs) ≡ true = e in
    let u : apart p q && all_apart p qs ≡ true = g in
    by_test (apart r q)
    (λ y. let i = fuse_apart p r qs a b (grind arith) f (grind arith) in
    let v : apart p q ≡ true = grind arith in rw (y, v, i) refl)
    (λ n. rw n (fuse_apart p (hull r q) qs a (grind (arith, nat_tests)) (grind arith) (apart_hull p r q b (grind (arith, nat_tests)) a n f (grind arith)) (grind arith)))

pub fuse_separate : (r : Range) (qs : List Range) → r.lo < r.hi → separate qs ≡ true → separate (fuse r qs) ≡ true
unfolding separate fuse all_apart
fuse_separate r [] a e = let t : nat_lt r.lo r.hi ≡ true = grind (arith, nat_tests) in rw t refl
fuse_separate r (q ∷ qs) a e =
    let t : nat_lt q.lo q.hi && (all_apart q qs && separate qs) ≡ true = e in
    by_test (apart r q)
    (λ y. let i = fuse_separate r qs a (grind arith) in
    let f = fuse_apart q r qs (grind (arith, nat_tests)) a (grind arith) (grind (arith, nat_tests)) (grind arith) in
    let v : nat_lt q.lo q.hi ≡ true = grind arith in rw (y, v, f, i) refl)
    (λ n. rw n (fuse_separate (hull r q) qs (grind (arith, nat_tests)) (grind arith)))

pub fuse_held : (r : Range) (qs : List Range) (s mm : ℕ) → r.lo < r.hi → separate qs ≡ true → held (fuse r qs) s mm ≡ (held qs s mm || in_range r s mm)
unfolding separate fuse held
fuse_held r [] s mm a e = grind arith
fuse_held r (q ∷ qs) s mm a e =
    let t : nat_lt q.lo q.hi && (all_apart q qs && separate qs) ≡ true = e in
    by_test (apart r q)
    (λ y. let i = fuse_held r qs s mm a (grind arith) in rw (y, i) (by_test (in_range q s mm) (λ z. rw z refl) (λ z. rw z refl)))
    (λ n. let i = fuse_held (hull r q) qs s mm (grind (arith, nat_tests)) (grind arith) in
    let h = in_hull r q s mm a (grind (arith, nat_tests)) n in
    rw (n, i, h) (grind arith))

pub fuse_length : (r : Range) (qs : List Range) → length (fuse r qs) ≤ length qs + 1
unfolding fuse
fuse_length r [] = omega arith
fuse_length r (q ∷ qs) = by_test (apart r q)
    (λ y. let i = fuse_length r qs in rw y (omega arith))
    (λ n. let i = fuse_length (hull r q) qs in rw n (omega arith))

pub fuse_all_separate : (rs qs : List Range) → separate rs ≡ true → separate qs ≡ true → separate (fuse_all rs qs) ≡ true
unfolding separate fuse_all
fuse_all_separate [] qs d e = e
fuse_all_separate (r ∷ rs) qs d e =
    let t : nat_lt r.lo r.hi && (all_apart r rs && separate rs) ≡ true = d in
    fuse_all_separate rs (fuse r qs) (grind arith) (fuse_separate r qs (grind (arith, nat_tests)) e)

pub fuse_all_held : (rs qs : List Range) (s mm : ℕ) → separate rs ≡ true → separate qs ≡ true → held (fuse_all rs qs) s mm ≡ (held qs s mm || held rs s mm)
unfolding separate fuse_all held
fuse_all_held [] qs s mm d e = grind arith
fuse_all_held (r ∷ rs) qs s mm d e =
    let t : nat_lt r.lo r.hi && (all_apart r rs && separate rs) ≡ true = d in
    let lt : r.lo < r.hi = grind (arith, nat_tests) in
    rw (fuse_all_held rs (fuse r qs) s mm (grind arith) (fuse_separate r qs lt e), fuse_held r qs s mm lt e) (grind arith)

pub fuse_all_step : (others : List Range) (i : ℕ) (d : Range) (wide : List Range) → i < length others
    → fuse_all (drop (i + 1) others) (fuse (get_or others i d) wide) ≡ fuse_all (drop i others) wide
unfolding fuse_all
fuse_all_step others i d wide h = let e : i + 1 ≡ suc i = omega arith in rw (e, drop-cons others i d h) refl
