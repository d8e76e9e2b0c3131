-- The farthest authority of some numbers: what holds of each holds of it, and it is the last where none ends farther.
use Rattle.std.proofs.Common.{◌≡◌, ℕ, zero, suc, ◌+◌, ◌-◌, ◌<◌, ◌≤◌, List, Option, Some, None, true, false, refl, ◌∙◌, ap, arith}
use Rattle.std.proofs.lemmas.Bool.Decides.{nat_tests}
use Rattle.std.specs.Prelude.{nat_lt}
use Rattle.list_laws.proofs.By_test.{by_test}
use Rattle.track_points.specs.declared.ids.DirSeg.{DirSeg}
use Rattle.track_points.specs.Points.{Lengths}
use Rattle.definitions.specs.World.{Authority, authority_end}
use Rattle.definitions.specs.Farther.{farther}
use Rattle.definitions.specs.Account.{farthest}
use Rattle.journey_laws.proofs.Invariant.{SomeIs}

module _ (Q : Authority → Type 0) (len : Lengths) (steps : List DirSeg) where
  farther_has : (a b : Option Authority) → SomeIs Q a → SomeIs Q b → SomeIs Q (farther len steps a b)
  farther_has None b h k = k
  farther_has (Some a) None h k = h
  farther_has (Some a) (Some b) h k = by_test (nat_lt (authority_end len steps a) (authority_end len steps b))
      (λ y. rw y k)
      (λ m. rw m h)

  pub farthest_has : (reads : ℕ → Option Authority) (from n : ℕ) → ((k : ℕ) → from ≤ k → k < from + n → SomeIs Q (reads k)) → SomeIs Q (farthest len steps reads from n)
  unfolding farthest
  farthest_has reads from zero h = tt
  farthest_has reads from (suc n) h =
      farther_has (reads (from + n)) (farthest len steps reads from n) (h (from + n) (omega arith) (omega arith)) (farthest_has reads from n (λ k a b. h k a (omega (arith, b))))

module _ (len : Lengths) (steps : List DirSeg) where
  not_farther : (a : Authority) (b : Option Authority) → SomeIs (λ c. authority_end len steps c ≤ authority_end len steps a) b → farther len steps (Some a) b ≡ Some a
  not_farther a None h = refl
  not_farther a (Some b) h = let no : nat_lt (authority_end len steps a) (authority_end len steps b) ≡ false = grind (arith, nat_tests) in rw no refl

  pub farthest_last : (reads : ℕ → Option Authority) (from last : ℕ) (a : Authority) → from ≤ last → reads last ≡ Some a
      → ((k : ℕ) → from ≤ k → k ≤ last → SomeIs (λ c. authority_end len steps c ≤ authority_end len steps a) (reads k)) → farthest len steps reads from (last + 1 - from) ≡ Some a
  unfolding farthest
  farthest_last reads from last a le is h =
      let n : last + 1 - from ≡ suc (last - from) = omega (arith, le) in
      let at : from + (last - from) ≡ last = omega (arith, le) in
      let rest = farthest len steps reads from (last - from) in
      ap (λ (k : ℕ). farthest len steps reads from k) n
      ∙ ap (λ (k : ℕ). farther len steps (reads k) rest) at
      ∙ ap (λ (x : Option Authority). farther len steps x rest) is
      ∙ not_farther a rest (farthest_has (λ c. authority_end len steps c ≤ authority_end len steps a) len steps reads from (last - from) (λ k b l. h k b (omega (arith, l, at))))

  -- one more number, whose authority ends nearer
  pub farthest_nearer : (reads : ℕ → Option Authority) (from last : ℕ) (a b : Authority) → from ≤ last → farthest len steps reads from (last + 1 - from) ≡ Some a
      → reads (last + 1) ≡ Some b → authority_end len steps b < authority_end len steps a → farthest len steps reads from (last + 1 + 1 - from) ≡ Some a
  unfolding farthest
  farthest_nearer reads from last a b le is other nearer =
      let n : last + 1 + 1 - from ≡ suc (last + 1 - from) = omega (arith, le) in
      let at : from + (last + 1 - from) ≡ last + 1 = omega (arith, le) in
      let yes : nat_lt (authority_end len steps b) (authority_end len steps a) ≡ true = grind (arith, nat_tests) in
      ap (λ (k : ℕ). farthest len steps reads from k) n
      ∙ ap (λ (k : ℕ). farther len steps (reads k) (farthest len steps reads from (last + 1 - from))) at
      ∙ ap (λ (x : Option Authority). farther len steps x (farthest len steps reads from (last + 1 - from))) other
      ∙ ap (farther len steps (Some b)) is
      ∙ (rw yes refl)

  pub farthest_none : (reads : ℕ → Option Authority) (from n : ℕ) → ((k : ℕ) → reads k ≡ None) → farthest len steps reads from n ≡ None
  unfolding farthest
  farthest_none reads from zero h = refl
  farthest_none reads from (suc n) h = rw (h (from + n), farthest_none reads from n h) refl
