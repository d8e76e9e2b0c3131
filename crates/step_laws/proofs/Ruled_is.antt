-- What a rule makes of fronts that are a range: a range again, within it, with every front that passes.
use Rattle.std.proofs.Common.{◌≡◌, ℕ, zero, suc, ◌+◌, ◌<◌, ◌≤◌, min, Bool, true, false, ◌&&◌, refl, sym, ◌∙◌, ap, subst, arith, nat_eq}
use Rattle.std.proofs.Math.Path.{fun_ext}
use Rattle.std.proofs.lemmas.Bool.Decides.{nat_tests}
use Rattle.std.proofs.lemmas.Bool.{and_parts}
use Rattle.list_laws.proofs.By_test.{by_test}
use Rattle.track_points.specs.Points.{some_below}
use Rattle.track_points.proofs.Some_found.{some_at, some_found}
use Rattle.envelope.specs.declared.fronts.Fronts.{Fronts}
use Rattle.envelope.specs.Fronts.{is_front, grown}
use Rattle.envelope.proofs.Range_hull.{IsRange}
use Rattle.envelope.proofs.Kept_hull.{grown_range}
use Rattle.definitions.specs.Numbers.{first, last}
use Rattle.definitions.specs.Farther.{kept_or_all}
use Rattle.way_laws.proofs.First_is.{first_is, first_only, first_at_most}
use Rattle.definitions.specs.Account.{filled, ruled}

-- The last number that passes.

pub record IsLast (test : ℕ → Bool) (n d : ℕ) : Type 0 where
  pub below : d < n
  pub there : test d ≡ true
  pub most : (k : ℕ) → k < n → test k ≡ true → k ≤ d

pub last_is : (test : ℕ → Bool) (n : ℕ) → some_below test n ≡ true → IsLast test n (last test n)
unfolding last some_below
last_is test zero h = absurd cc
last_is test (suc n) h = by_test (test n)
    (λ y. rw y (record { below = omega arith; there = y; most = λ k b t. omega (arith, b) }))
    (λ x. let r = last_is test n (rw x at h) in rw x (record {
      below = let b = r.below in omega (arith, b);
      there = r.there;
      most = λ k b t. by_test (nat_eq k n)
          (λ y. let e : k ≡ n = grind (arith, nat_tests) in absurd (let c : true ≡ false = sym t ∙ ap test e ∙ x in cc))
          (λ m. r.most k (grind (arith, nat_tests)) t);
    }))

-- what passes both ends of a filled set
pub filled_range : (test : ℕ → Bool) (n : ℕ) → some_below test n ≡ true → IsRange (filled n test) (first test n) (last test n)
filled_range test n h = record { is = λ p. rw h refl }

-- the first and the last number of a range
pub range_first : (test : ℕ → Bool) (lo hi n : ℕ) → IsRange test lo hi → lo ≤ hi → hi < n → first test n ≡ lo
range_first test lo hi n r o h =
    first_only test n (first test n) lo (first_is test n)
    (record {
      within = omega (arith, o, h);
      there = λ b. let e = r.is lo in grind (arith, nat_tests);
      before = λ k b. let e = r.is k in grind (arith, nat_tests);
    })

pub range_last : (test : ℕ → Bool) (lo hi n : ℕ) → IsRange test lo hi → lo ≤ hi → hi < n → last test n ≡ hi
range_last test lo hi n r o h =
    let e = r.is hi in
    let at : test hi ≡ true = grind (arith, nat_tests) in
    let l = last_is test n (some_at test n hi h at) in
    let a = l.most hi h at in
    let b = r.is (last test n) in
    let c = l.there in
    grind (arith, nat_tests)

pub range_grown : (test : ℕ → Bool) (lo hi moved end : ℕ) → IsRange test lo hi → lo ≤ hi → hi ≤ end → IsRange (grown test moved end) lo (min (hi + moved) end)
range_grown test lo hi moved end r o h =
    let fronts : Fronts = record { lo = lo; hi = hi; at = 0 } in
    let same : test ≡ is_front fronts = fun_ext (λ p. r.is p) in
    subst (λ (f : ℕ → Bool). IsRange (grown f moved end) lo (min (hi + moved) end)) (sym same) (grown_range fronts moved end o h)

-- what is left of a range: a range within it, with each of its places that passes
pub record Left (test : ℕ → Bool) (lo hi : ℕ) (Pass : ℕ → Type 0) : Type 0 where
  pub lo2 : ℕ
  pub hi2 : ℕ
  pub is : IsRange test lo2 hi2
  pub ordered : lo2 ≤ hi2
  pub least : lo ≤ lo2
  pub most : hi2 ≤ hi
  pub each : (p : ℕ) → lo ≤ p → p ≤ hi → Pass p → (lo2 ≤ p) × (p ≤ hi2)

-- where a place passes, so do both ends
pub record Ruled (end : ℕ) (keep fronts : ℕ → Bool) (lo hi : ℕ) : Type 0 where
  pub left : Left (ruled end keep fronts) lo hi (λ p. keep p ≡ true)
  pub ends : (p : ℕ) → lo ≤ p → p ≤ hi → keep p ≡ true → (keep left.lo2 ≡ true) × (keep left.hi2 ≡ true)

module _ (end : ℕ) (keep fronts : ℕ → Bool) (lo hi : ℕ) (r : IsRange fronts lo hi) (o : lo ≤ hi) (h : hi ≤ end) where
  abbrev rule : ℕ → Bool
  rule f = fronts f && keep f

  abbrev left : ℕ → Bool
  left = kept_or_all end (λ f. fronts f && keep f) fronts

  in_range : (p : ℕ) → fronts p ≡ true → (lo ≤ p) × (p ≤ hi)
  in_range p e = let i = r.is p in (grind (arith, nat_tests), grind (arith, nat_tests))

  of_range : (p : ℕ) → lo ≤ p → p ≤ hi → fronts p ≡ true
  of_range p a b = let i = r.is p in grind (arith, nat_tests)

  some_left : some_below (λ f. fronts f && keep f) (end + 1) ≡ true → Ruled end keep fronts lo hi
  some_left some =
      let n = end + 1 in
      let same : kept_or_all end (λ f. fronts f && keep f) fronts ≡ (λ f. fronts f && keep f) = fun_ext (λ f. rw some refl) in
      let found = some_found rule n some in
      let l = last_is rule n some in
      let f = first_is rule n in
      let at_most = first_at_most rule n found.at found.passes in
      let b = found.below in
      let below : first rule n < n = omega (arith, at_most, b) in
      let a = in_range (first rule n) (and_parts (fronts (first rule n)) (keep (first rule n)) (f.there below)).0 in
      let z = in_range (last rule n) (and_parts (fronts (last rule n)) (keep (last rule n)) l.there).0 in
      let fl = first_at_most rule n (last rule n) l.there in
      record {
        left = record {
          lo2 = first rule n;
          hi2 = last rule n;
          is = subst (λ (g : ℕ → Bool). IsRange (filled (end + 1) g) (first rule n) (last rule n)) (sym same) (filled_range rule n some);
          ordered = fl;
          least = a.0;
          most = z.1;
          each = λ p x y k.
              let e = of_range p x y in
              let t : rule p ≡ true = rw (e, k) refl in
              (first_at_most rule n p t, l.most p (omega (arith, y, h)) t);
        };
        ends = λ p x y k. ((and_parts (fronts (first rule n)) (keep (first rule n)) (f.there below)).1, (and_parts (fronts (last rule n)) (keep (last rule n)) l.there).1);
      }

  pub none_range : some_below (λ f. fronts f && keep f) (end + 1) ≡ false → IsRange (ruled end keep fronts) lo hi
  none_range none =
      let n = end + 1 in
      let same : kept_or_all end (λ f. fronts f && keep f) fronts ≡ fronts = fun_ext (λ f. rw none refl) in
      let some = some_at fronts n lo (omega (arith, o, h)) (of_range lo (omega arith) o) in
      let a = range_first fronts lo hi n r o (omega (arith, h)) in
      let z = range_last fronts lo hi n r o (omega (arith, h)) in
      subst (λ (g : ℕ → Bool). IsRange (filled (end + 1) g) lo hi) (sym same)
      (subst (λ (x : ℕ). IsRange (filled (end + 1) fronts) x hi) a
      (subst (λ (x : ℕ). IsRange (filled (end + 1) fronts) (first fronts n) x) z (filled_range fronts n some)))

  none_left : some_below (λ f. fronts f && keep f) (end + 1) ≡ false → Ruled end keep fronts lo hi
  none_left none = record {
    left = record { lo2 = lo; hi2 = hi; is = none_range none; ordered = o; least = omega arith; most = omega arith; each = λ p x y k. (x, y) };
    ends = λ p x y k.
        let t : rule p ≡ true = rw (of_range p x y, k) refl in
        absurd (let c : true ≡ false = sym (some_at rule (end + 1) p (omega (arith, y, h)) t) ∙ none in cc);
  }

  pub ruled_is : Ruled end keep fronts lo hi
  ruled_is = by_test (some_below rule (end + 1)) some_left none_left
