-- The walk over some steps finds the first place that passes, from one on.
use Rattle.std.proofs.Common.{◌≡◌, ℕ, ◌+◌, ◌-◌, ◌<◌, ◌≤◌, Bool, true, false, List, [], ◌∷◌, arith, nat_lt}
use Rattle.std.proofs.lemmas.Bool.Decides.{nat_tests}
use Rattle.list_laws.proofs.By_test.{by_test}
use Rattle.track_points.specs.declared.ids.DirSeg.{DirSeg}
use Rattle.track_points.specs.Points.{Lengths, total}
use Rattle.zone_reach.specs.Walk.{first_place}

-- the least number from `from` on and below n that passes, or n
pub record IsNearest (test : ℕ → Bool) (n from q : ℕ) : Type 0 where
  pub within : q ≤ n
  pub after : q < n → from ≤ q
  pub there : q < n → test q ≡ true
  pub before : (k : ℕ) → from ≤ k → k < q → test k ≡ false

pub nearest_same : (a b : ℕ → Bool) (n from q : ℕ) → ((k : ℕ) → k < n → b k ≡ a k) → IsNearest a n from q → IsNearest b n from q
nearest_same a b n from q e i = record {
  within = i.within;
  after = i.after;
  there = λ h. rw (e q h) (i.there h);
  before = λ k f h. let w = i.within in rw (e k (omega arith)) (i.before k f h);
}

pub nearest_none : (a : ℕ → Bool) (n from : ℕ) → ((k : ℕ) → k < n → a k ≡ false) → IsNearest a n from n
nearest_none a n from e = record { within = omega arith; after = λ h. absurd (omega arith); there = λ h. absurd (omega arith); before = λ k f h. e k h }

-- a test of places on steps, which is one of offsets on each
pub record IsTested (len : Lengths) (on : DirSeg → ℕ → Bool) (at : List DirSeg → ℕ → Bool) : Type 0 where
  pub none : (p : ℕ) → at [] p ≡ false
  pub here : (st : DirSeg) (asked : List DirSeg) (p : ℕ) → p < len st.seg.0 → at (st ∷ asked) p ≡ on st p
  pub beyond : (st : DirSeg) (asked : List DirSeg) (p : ℕ) → len st.seg.0 ≤ p → at (st ∷ asked) p ≡ at asked (p - len st.seg.0)

-- on a step it stops, or it goes on after it
module _ (here rest all : ℕ → Bool) (len n from q : ℕ) (h : (p : ℕ) → p < len → all p ≡ here p) (b : (p : ℕ) → len ≤ p → all p ≡ rest (p - len)) (i : IsNearest here len from q) where
  stops_here : q < len → IsNearest all (len + n) from q
  stops_here lt = record {
    within = omega arith;
    after = λ k. i.after lt;
    there = λ k. rw (h q lt) (i.there lt);
    before = λ k f l. rw (h k (omega arith)) (i.before k f l);
  }

  goes_on : len ≤ q → (r : ℕ) → IsNearest rest n (from - len) r → IsNearest all (len + n) from (len + r)
  goes_on ge r j = record {
    within = let w = j.within in omega arith;
    after = λ k. let a = j.after (omega arith) in omega arith;
    there = λ k. let e : len + r - len ≡ r = omega arith in rw (b (len + r) (omega arith), e) (j.there (omega arith));
    before = λ k f l. by_test (nat_lt k len)
        (λ y. let lt : k < len = grind (arith, nat_tests) in rw (h k lt) (i.before k f (omega arith)))
        (λ x. let le : len ≤ k = grind (arith, nat_tests) in rw (b k le) (j.before (k - len) (omega arith) (omega arith)));
  }

module _ (len : Lengths) (on : DirSeg → ℕ → Bool) (at : List DirSeg → ℕ → Bool) (tested : IsTested len on at) where
  -- nothing passes beyond the end of the steps
  pub none_behind : (asked : List DirSeg) (p : ℕ) → total len asked ≤ p → at asked p ≡ false
  unfolding total
  none_behind [] p h = tested.none p
  none_behind (st ∷ asked) p h = rw (tested.beyond st asked p (omega arith)) (none_behind asked (p - len st.seg.0) (omega arith))

  pub first_place_is : (near : DirSeg → ℕ → ℕ) → ((st : DirSeg) (from : ℕ) → IsNearest (on st) (len st.seg.0) from (near st from))
      → (asked : List DirSeg) (from : ℕ) → IsNearest (at asked) (total len asked) from (first_place len near asked from)
  unfolding first_place total
  first_place_is near nearest [] from =
      record { within = omega arith; after = λ h. absurd (omega arith); there = λ h. absurd (omega arith); before = λ k f h. absurd (omega arith) }
  first_place_is near nearest (st ∷ asked) from =
      by_test (nat_lt (near st from) (len st.seg.0))
      (λ y. rw y (stops_here (on st) (at asked) (at (st ∷ asked)) (len st.seg.0) (total len asked) from _ (tested.here st asked) (tested.beyond st asked) (nearest st from) (grind (arith, nat_tests))))
      (λ x. rw x (goes_on (on st) (at asked) (at (st ∷ asked)) (len st.seg.0) (total len asked) from _ (tested.here st asked) (tested.beyond st asked) (nearest st from) (grind (arith, nat_tests))
      (first_place len near asked (from - len st.seg.0)) (first_place_is near nearest asked (from - len st.seg.0))))
