-- An offset of a report fits a frame.
use Rattle.std.proofs.Common.{◌≡◌, ℤ, ◌-◌, ◌≤◌, suc, true, false, refl, arith}
use Rattle.std.proofs.lemmas.Bool.Decides.{nat_tests}
use Rattle.std.specs.Prelude.{pos, negsuc, ◌-ℤ◌, nat_lt}
use Rattle.std.specs.Int.Signed.{le_z}
use Rattle.definitions.specs.FrameLayouts.{any, offset}

pub offset_fits : (z : ℤ) → le_z (pos 0 -ℤ pos 1000000) z ≡ true → le_z z (pos 11000000) ≡ true → offset.fits z
unfolding offset any
offset_fits (pos n) low high =
    let most : n ≤ 11000000 = grind (arith, nat_tests) in
    let bits : nat_lt n 2147483648 ≡ true = grind (arith, nat_tests) in
    let within : nat_lt 11000000 n ≡ false = grind (arith, nat_tests) in
    (((omega arith, omega (arith, most)), rw bits refl), rw within refl)
offset_fits (negsuc n) low high =
    let most : n ≤ 999999 = grind (arith, nat_tests) in
    let bits : nat_lt (4294967296 - suc n) 2147483648 ≡ false = grind (arith, nat_tests) in
    let back : 4294967296 - suc (4294967296 - suc n) ≡ n = omega (arith, most) in
    let within : nat_lt 999999 n ≡ false = grind (arith, nat_tests) in
    (((omega arith, omega (arith, most)), rw (bits, back) refl), rw within refl)
