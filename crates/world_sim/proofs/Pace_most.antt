-- How fast a train is at most that moves no farther than it can.
use Rattle.std.proofs.Common.{ℕ, ◌*◌, ◌/◌, ◌<◌, ◌≤◌, arith, nat_eq}
use Rattle.std.specs.Int.{div_ceil}
use Rattle.std.proofs.Math.Nat.{lt_of_mul-lt-mul_right, mul-le-mul_right}
use Rattle.std.proofs.lemmas.Grind.{div_ceil_times}
use Rattle.std.proofs.lemmas.Bool.Decides.{nat_tests}
use Rattle.list_laws.proofs.By_test.{by_test}
use Rattle.plain_state.specs.declared.Pace.{Pace}
use Rattle.plain_state.specs.World.{paced}

pub pace_most : (ms mm : ℕ) → 0 < mm → mm ≤ 60000 * ms / 1000 → (0 < ms) × (div_ceil (mm * 1000) ms ≤ 60000)
pace_most ms mm some h =
    let p : 0 < ms = omega arith in
    let most : mm * 1000 ≤ 60000 * ms = omega arith in
    let t = (div_ceil_times (mm * 1000) ms p).1 in
    let l : div_ceil (mm * 1000) ms * ms < 60001 * ms = omega arith in
    let b = lt_of_mul-lt-mul_right ms l in
    (p, omega arith)

-- at a greatest speed that has a stop
pub slower : (v ms mm : ℕ) → v ≤ 60000 → mm ≤ v * ms / 1000 → mm ≤ 60000 * ms / 1000
slower v ms mm l h = let m = mul-le-mul_right ms l in omega arith

pub pace_stops : (ms clock mm : ℕ) (pace : Pace) → mm ≤ 60000 * ms / 1000 → pace.speed ≤ 60000 → (paced ms clock mm pace).speed ≤ 60000
pace_stops ms clock mm pace h l = by_test (nat_eq mm 0)
    (λ y. rw y l)
    (λ n. rw n (pace_most ms mm (grind (arith, nat_tests)) h).1)
