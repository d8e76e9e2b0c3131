-- What an item keeps that breaks no rule, rule by rule.
use Rattle.std.proofs.Common.{◌≡◌, List, false}
use Rattle.list_laws.proofs.By_test.{by_test}
use Rattle.definitions.specs.declared.item.Item.{Item}
use Rattle.definitions.specs.Numbers.{least}
use Rattle.definitions.specs.Rules.{is_again, names_unknown, is_out_of_range, is_too_many, uses_again, joins_itself, has_no_stops, rule_of}

pub record Unbroken (items : List Item) (i : Item) : Type 0 where
  pub once : is_again items i ≡ false
  pub known : names_unknown items i ≡ false
  pub within : is_out_of_range items i ≡ false
  pub few : is_too_many items i ≡ false
  pub free : uses_again items i ≡ false
  pub apart : joins_itself items i ≡ false
  pub stops : has_no_stops items i ≡ false

pub unbroken : (items : List Item) (i : Item) → rule_of items i ≡ 0 → Unbroken items i
unfolding rule_of least
unbroken items i h =
    by_test (is_again items i) (λ y. absurd (let e : 2 ≡ 0 = rw y at h in cc))
    (λ a. by_test (names_unknown items i) (λ y. absurd (let e : 3 ≡ 0 = rw (a, y) at h in cc))
    (λ b. by_test (is_out_of_range items i) (λ y. absurd (let e : 4 ≡ 0 = rw (a, b, y) at h in cc))
    (λ c. by_test (is_too_many items i) (λ y. absurd (let e : 5 ≡ 0 = rw (a, b, c, y) at h in cc))
    (λ d. by_test (uses_again items i) (λ y. absurd (let e : 6 ≡ 0 = rw (a, b, c, d, y) at h in cc))
    (λ f. by_test (joins_itself items i) (λ y. absurd (let e : 8 ≡ 0 = rw (a, b, c, d, f, y) at h in cc))
    (λ g. by_test (has_no_stops items i) (λ y. absurd (let e : 18 ≡ 0 = rw (a, b, c, d, f, g, y) at h in cc))
    (λ o. record { once = a; known = b; within = c; few = d; free = f; apart = g; stops = o })))))))
