-- The least possible front, and with it the least rear, never goes back, where the longest authority does not end before it.
use Rattle.std.proofs.Common.{◌≡◌, ℕ, ◌+◌, ◌≤◌, ◌∷◌, true, false, ap, arith}
use Rattle.std.proofs.lemmas.Bool.Decides.{nat_tests}
use Rattle.std.specs.Prelude.{nat_lt}
use Rattle.list_laws.proofs.By_test.{by_test}
use Rattle.definitions.specs.Track.{Line}
use Rattle.definitions.specs.Numbers.{first}
use Rattle.definitions.specs.Story.{Transition, Story}
use Rattle.definitions.specs.World.{Facts}
use Rattle.definitions.specs.Control.{grants_entry, known_facts}
use Rattle.definitions.specs.Longest.{longest_end}
use Rattle.definitions.specs.Fronts.{possible_front, least_rear}
use Rattle.definitions.specs.Zones.{zone_id}
use Rattle.way_laws.proofs.First_is.{first_is}
use Rattle.step_laws.proofs.Fronts_numbers.{fronts_numbers}
use Rattle.step_laws.proofs.Fronts_from.{fronts_from}
use Rattle.journey_laws.proofs.Invariant.{FrontsAre}

pub rear_grows : (line : Line) (t : ℕ) (s : Story) (x : Transition) (k : FrontsAre line t s) → grants_entry (zone_id line) t x ≡ false → known_facts (zone_id line) t (x ∷ s) ≡ known_facts (zone_id line) t s
    → k.lo ≤ longest_end line t (x ∷ s) → least_rear line (zone_id line) t s ≤ least_rear line (zone_id line) t (x ∷ s)
rear_grows line t s x k granted facts grown =
    let z = zone_id line in
    let within = k.within in
    let ordered = k.ordered in
    let old = (fronts_numbers line t s k).least in
    let n = longest_end line t (x ∷ s) + 1 in
    let test = possible_front line z t (x ∷ s) in
    let d = first test n in
    let f = first_is test n in
    let low : k.lo ≤ d = by_test (nat_lt d n)
    (λ y. fronts_from line z t s k.lo x granted from d (f.there (grind (arith, nat_tests))))
    (λ l. grind (arith, nat_tests)) in
    let e = ap (λ (a : Facts). a.long) facts in
    omega (arith, old, low, e)
  where
    from : (f : ℕ) → possible_front line (zone_id line) t s f ≡ true → k.lo ≤ f
    from f h = let i = k.is f in grind (arith, nat_tests)
