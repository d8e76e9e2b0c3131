-- The offset of a report whose field is not refused is in its range.
use Rattle.std.proofs.Common.{◌≡◌, ℕ, suc, ◌+◌, ◌-◌, true, false, ◌&&◌, refl, ◌∙◌, ap, arith}
use Rattle.std.proofs.Math.IntN.{+ℤ_idl}
use Rattle.std.proofs.lemmas.Bool.Decides.{nat_tests}
use Rattle.std.proofs.lemmas.Bool.{and_parts, leb-true, le-leb, le-ltb}
use Rattle.std.specs.Int.Signed.{le_z}
use Rattle.std.specs.Prelude.{ℤ, pos, negsuc, ◌-ℤ◌, nat_lt, nat_le}
use Rattle.list_laws.proofs.By_test.{by_test}
use Rattle.text_forms.specs.Forms.{number_limit}
use Rattle.definitions.specs.Track.{ranged}
use Rattle.definitions.specs.EventFields.{offset_of, is_offset}

negative : (d : ℕ) → pos 0 -ℤ pos (suc d) ≡ negsuc d
negative d = +ℤ_idl (negsuc d)

below_zero : (v d : ℕ) → nat_lt v number_limit ≡ false → v - number_limit ≡ suc d → offset_of v ≡ negsuc d
below_zero v d above by = rw (above, by) (negative d)

pub offset_ranged : (v : ℕ) → is_offset v ≡ true → (le_z (pos 0 -ℤ pos 1000000) (offset_of v) && le_z (offset_of v) (pos 11000000)) ≡ true
offset_ranged v h = by_test (nat_le v 11000000)
    (λ y.
    let below : nat_lt v number_limit ≡ true = grind (arith, nat_tests) in
    rw (below, y) refl)
    (λ n.
    let k : ranged (number_limit + 1) (number_limit + 1000000) v ≡ true = rw n at h in
    let r = and_parts (nat_le (number_limit + 1) v) (nat_le v (number_limit + 1000000)) k in
    let lo = leb-true (number_limit + 1) v r.0 in
    let hi = leb-true v (number_limit + 1000000) r.1 in
    let above : nat_lt v number_limit ≡ false = le-ltb v number_limit (omega (arith, lo)) in
    let j = v - number_limit - 1 in
    let by : v - number_limit ≡ suc j = omega (arith, lo) in
    let is : offset_of v ≡ negsuc j = below_zero v j above by in
    ap (λ (o : ℤ). le_z (pos 0 -ℤ pos 1000000) o && le_z o (pos 11000000)) is ∙ below j (le-leb j 999999 (omega (arith, lo, hi))))
  where
    below : (j : ℕ) → nat_le j 999999 ≡ true → (le_z (pos 0 -ℤ pos 1000000) (negsuc j) && le_z (negsuc j) (pos 11000000)) ≡ true
    below j h = rw h refl
