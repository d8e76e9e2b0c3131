-- The greatest of some ends: none is greater, and one has it.
use Rattle.std.proofs.Common.{◌≡◌, ℕ, zero, suc, ◌+◌, ◌<◌, ◌≤◌, arith, nat_eq}
use Rattle.std.proofs.lemmas.Bool.Decides.{nat_tests}
use Rattle.list_laws.proofs.By_test.{by_test}
use Rattle.authority_ledger.specs.Numbers.{greatest_of}

pub most : (ends : ℕ → ℕ) (from n end : ℕ) → ((k : ℕ) → k < n → ends (from + k) ≤ end) → greatest_of ends from n ≤ end
unfolding greatest_of
most ends from zero end h = omega arith
most ends from (suc n) end h =
    let a = h n (omega arith) in
    let b = most ends from n end (λ k l. h k (omega (arith, l))) in
    omega (arith, a, b)

pub least : (ends : ℕ → ℕ) (from n k : ℕ) → k < n → ends (from + k) ≤ greatest_of ends from n
unfolding greatest_of
least ends from zero k l = absurd (omega (arith, l))
least ends from (suc n) k l =
    by_test (nat_eq k n)
    (λ y. let e : k ≡ n = grind (arith, nat_tests) in rw e (omega arith))
    (λ m. let i = least ends from n k (grind (arith, nat_tests)) in omega (arith, i))
