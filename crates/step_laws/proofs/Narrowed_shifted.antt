-- The same fronts as places from a later start on: what a report leaves of them is the same.
use Rattle.std.proofs.Common.{◌≡◌, ℕ, ◌-◌, ◌≤◌, Bool, true, false, refl, ◌∙◌, ap, arith}
use Rattle.std.proofs.lemmas.Int.{ints}
use Rattle.std.specs.Prelude.{ℤ, pos, ◌+ℤ◌, ◌-ℤ◌, nat_abs}
use Rattle.std.specs.Int.{int_min}
use Rattle.std.specs.Int.Signed.{le_z, lt_z}
use Rattle.list_laws.proofs.By_test.{by_test}
use Rattle.envelope.specs.declared.fronts.Fronts.{Fronts}
use Rattle.envelope.proofs.Kept_hull.{are_ends}
use Rattle.envelope.specs.Ends.{least_left, greatest_left, narrowed}

-- the fronts that a report leaves, by its estimate
abbrev pub narrowed_to : Fronts → ℤ → ℕ → ℕ → Bool → Fronts
narrowed_to fronts est err moved integrity = narrowed fronts (least_left fronts.lo est err integrity) (greatest_left fronts.hi est err moved)

pub least_above : (lo : ℕ) (est : ℤ) (err : ℕ) (integrity : Bool) (n : ℕ) → pos n ≡ least_left lo est err integrity → lo ≤ n
least_above lo est err true n e = grind (arith, ints)
least_above lo est err false n e = grind (arith, ints)

least_shifted : (lo on : ℕ) (est : ℤ) (err : ℕ) (integrity : Bool) → on ≤ lo → least_left (lo - on) (est -ℤ pos on) err integrity ≡ least_left lo est err integrity -ℤ pos on
least_shifted lo on est err true h = grind (arith, ints)
least_shifted lo on est err false h = grind (arith, ints)

place_shifted : (n on : ℕ) → on ≤ n → pos (n - on) ≡ pos n -ℤ pos on
place_shifted n on h = grind (arith, ints)

one_shifted : (a on b : ℤ) → a -ℤ on +ℤ b ≡ a +ℤ b -ℤ on
one_shifted a on b = omega (arith, ints)

sum_shifted : (a on b c : ℤ) → a -ℤ on +ℤ b +ℤ c ≡ a +ℤ b +ℤ c -ℤ on
sum_shifted a on b c = ap (λ (n : ℤ). n +ℤ c) (one_shifted a on b) ∙ one_shifted (a +ℤ b) on c

min_shifted : (a b on : ℤ) → int_min (a -ℤ on) (b -ℤ on) ≡ int_min a b -ℤ on
min_shifted a b on = grind (arith, ints)

greatest_shifted : (hi on : ℕ) (est : ℤ) (err moved : ℕ) → on ≤ hi → greatest_left (hi - on) (est -ℤ pos on) err moved ≡ greatest_left hi est err moved -ℤ pos on
greatest_shifted hi on est err moved h =
    ap (λ (n : ℤ). int_min n (est -ℤ pos on +ℤ pos err +ℤ pos moved)) (place_shifted hi on h)
    ∙ (ap (λ (n : ℤ). int_min (pos hi -ℤ pos on) n) (sum_shifted est (pos on) (pos err) (pos moved)) ∙ min_shifted (pos hi) (est +ℤ pos err +ℤ pos moved) (pos on))

order_shifted : (a b : ℤ) (on : ℕ) → le_z (a -ℤ pos on) (b -ℤ pos on) ≡ le_z a b
order_shifted a b on = grind (arith, ints)

abs_shifted : (a : ℤ) (n on : ℕ) → pos n ≡ a → on ≤ n → nat_abs (a -ℤ pos on) ≡ nat_abs a - on
abs_shifted a n on e h = let d : a -ℤ pos on ≡ pos (n - on) = grind (arith, ints) in ap nat_abs d ∙ ap (λ (z : ℤ). nat_abs z - on) e

pub narrowed_shifted : (fronts : Fronts) (on : ℕ) (est : ℤ) (err moved : ℕ) (integrity : Bool) → on ≤ fronts.lo → fronts.lo ≤ fronts.hi
    → narrowed_to (record { lo = fronts.lo - on; hi = fronts.hi - on; at = fronts.at }) (est -ℤ pos on) err moved integrity
    ≡ (record { lo = (narrowed_to fronts est err moved integrity).lo - on; hi = (narrowed_to fronts est err moved integrity).hi - on; at = fronts.at })
narrowed_shifted fronts on est err moved integrity h o =
    let least = least_left fronts.lo est err integrity in
    let most = greatest_left fronts.hi est err moved in
    let a = least_shifted fronts.lo on est err integrity h in
    let b = greatest_shifted fronts.hi on est err moved (omega (arith, h, o)) in
    let c = order_shifted least most on in
    by_test (le_z least most)
    (λ y.
    let e = are_ends fronts.lo est err integrity least most refl (turned least most y) in
    let l = least_above fronts.lo est err integrity (nat_abs least) e.least in
    let r = e.ordered in
    let f = abs_shifted least (nat_abs least) on e.least (omega (arith, l, h)) in
    let g = abs_shifted most (nat_abs most) on e.greatest (omega (arith, l, r, h)) in
    rw (a, b, c, y, f, g) refl)
    (λ n. rw (a, b, c, n) refl)
  where
    turned : (a b : ℤ) → le_z a b ≡ true → lt_z b a ≡ false
    turned a b h = grind (arith, ints)
