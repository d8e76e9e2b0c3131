-- Meeting.
use Rattle.std.proofs.Common.{◌≡◌, ℕ, ◌<◌, max, true, false, ◌&&◌, ◌||◌, List, [], ◌∷◌, refl, arith, nat_eq, nat_lt}
use Rattle.std.proofs.lemmas.Bool.Decides.{nat_tests}
use Rattle.list_laws.proofs.By_test.{by_test}
use Rattle.track_points.specs.declared.ids.SwitchId.{SwitchId}
use Rattle.track_points.specs.declared.ids.Range.{Range}
use Rattle.track_points.specs.Sets.{in_range, held, separate, all_apart, token_in, Points, Disjoint}
use Rattle.track_points.specs.Lists.{meets, meets_any, any_meets, any_token}

pub none_met : (q : Range) (rs : List Range) (s mm : ℕ) → meets_any q rs ≡ false → (in_range q s mm && held rs s mm) ≡ false
unfolding meets_any held
none_met q [] s mm e = by_test (in_range q s mm) (λ y. rw y refl) (λ n. rw n refl)
none_met q (r ∷ rs) s mm e =
    let t : (meets q r || meets_any q rs) ≡ false = e in
    let i = none_met q rs s mm (grind arith) in
    let m : meets q r ≡ false = grind arith in
    by_test (in_range q s mm)
    (λ y. let n : in_range r s mm ≡ false = grind (arith, nat_tests) in rw (y, n) (grind arith))
    (λ n. rw n refl)

pub none_meet : (qs rs : List Range) (s mm : ℕ) → any_meets qs rs ≡ false → (held qs s mm && held rs s mm) ≡ false
unfolding any_meets held
none_meet [] rs s mm e = refl
none_meet (q ∷ qs) rs s mm e =
    let t : (meets_any q rs || any_meets qs rs) ≡ false = e in
    let i = none_meet qs rs s mm (grind arith) in let j = none_met q rs s mm (grind arith) in grind arith

pub one_met : (q : Range) (rs : List Range) → q.lo < q.hi → separate rs ≡ true → meets_any q rs ≡ true → ((mm : ℕ) → (in_range q q.seg.0 mm && held rs q.seg.0 mm) ≡ false) → ⊥
unfolding meets_any held separate
one_met q [] h d e f = absurd (cc)
one_met q (r ∷ rs) h d e f =
    let t : (meets q r || meets_any q rs) ≡ true = e in
    let u : nat_lt r.lo r.hi && (all_apart r rs && separate rs) ≡ true = d in
    by_test (meets q r)
    (λ y. let g : (in_range q q.seg.0 (max q.lo r.lo) && (in_range r q.seg.0 (max q.lo r.lo) || held rs q.seg.0 (max q.lo r.lo))) ≡ false = f (max q.lo r.lo) in
    let a : in_range q q.seg.0 (max q.lo r.lo) ≡ true = grind (arith, nat_tests) in
    let b : in_range r q.seg.0 (max q.lo r.lo) ≡ true = grind (arith, nat_tests) in grind arith)
    (λ n. one_met q rs h (grind arith) (grind arith) (λ mm. let g : (in_range q q.seg.0 mm && (in_range r q.seg.0 mm || held rs q.seg.0 mm)) ≡ false = f mm in grind arith))

pub some_meet : (qs rs : List Range) → separate qs ≡ true → separate rs ≡ true → any_meets qs rs ≡ true → ((s mm : ℕ) → (held qs s mm && held rs s mm) ≡ false) → ⊥
unfolding any_meets held separate
some_meet [] rs c d e f = absurd (cc)
some_meet (q ∷ qs) rs c d e f =
    let t : (meets_any q rs || any_meets qs rs) ≡ true = e in
    let u : nat_lt q.lo q.hi && (all_apart q qs && separate qs) ≡ true = c in
    by_test (meets_any q rs)
    (λ y. one_met q rs (grind (arith, nat_tests)) d y (λ mm. let g : ((in_range q q.seg.0 mm || held qs q.seg.0 mm) && held rs q.seg.0 mm) ≡ false = f q.seg.0 mm in grind arith))
    (λ n. some_meet qs rs (grind arith) d (grind arith) (λ s mm. let g : ((in_range q s mm || held qs s mm) && held rs s mm) ≡ false = f s mm in grind arith))

pub none_shared : (ts us : List SwitchId) (w : ℕ) → any_token ts us ≡ false → (token_in ts w && token_in us w) ≡ false
unfolding any_token token_in
none_shared [] us w e = refl
none_shared (t ∷ ts) us w e =
    let x : (token_in us t.0 || any_token ts us) ≡ false = e in
    let i = none_shared ts us w (grind arith) in
    by_test (nat_eq t.0 w)
    (λ y. let q : t.0 ≡ w = grind (arith, nat_tests) in let z : token_in us w ≡ false = rw (← q) (grind arith) in rw (y, z) refl)
    (λ n. rw n i)

pub one_shared : (ts us : List SwitchId) → any_token ts us ≡ true → ((w : ℕ) → (token_in ts w && token_in us w) ≡ false) → ⊥
unfolding any_token token_in
one_shared [] us e f = absurd (cc)
one_shared (t ∷ ts) us e f =
    let x : (token_in us t.0 || any_token ts us) ≡ true = e in
    let s : nat_eq t.0 t.0 ≡ true = grind (arith, nat_tests) in
    by_test (token_in us t.0)
    (λ y. let g : ((nat_eq t.0 t.0 || token_in ts t.0) && token_in us t.0) ≡ false = f t.0 in grind arith)
    (λ n. one_shared ts us (grind arith) (λ w. let g : ((nat_eq t.0 w || token_in ts w) && token_in us w) ≡ false = f w in grind arith))

pub apart_points : (a b : Points) → any_meets a.ranges b.ranges ≡ false → any_token a.tokens b.tokens ≡ false → Disjoint a b
apart_points a b e f = record { cell = λ s mm. none_meet a.ranges b.ranges s mm e; token = λ w. none_shared a.tokens b.tokens w f }
