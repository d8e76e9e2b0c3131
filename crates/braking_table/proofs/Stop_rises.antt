-- How far a train goes until it stands, by arithmetic, and that it goes farther from a greater speed.
use Rattle.std.proofs.Common.{◌≡◌, ◌<◌, ◌≤◌, ℕ, zero, suc, ◌+◌, ◌*◌, ◌-◌, ◌/◌, ◌%◌, inl, inr, min, max, map, refl, ap, ◌∙◌, arith}
use Rattle.std.proofs.Math.Nat.{add-suc, add-zero}
use Rattle.std.proofs.Math.Numerals.{add-one}
use Rattle.std.proofs.lemmas.List.Sums.{sum_by-cons}
use Rattle.std.proofs.lemmas.Nat.{div-add-mod', le-div}
use Rattle.std.proofs.lemmas.Bool.{cases_lt, cases_eq}
use Rattle.std.specs.Int.{div_ceil}
use Rattle.std.specs.List.{sum_by, range_with_len}
use Rattle.braking_table.specs.declared.table.Brake.{Brake}
use Rattle.braking_table.specs.Brake.{in_a_tick, top_speed, speed_after, ticks_to_stand, speeds, ticks, greater_end, hundredths_of, stop_of}

-- the sum over n ticks from tick a on of the greater end, where f is the speed after some ticks
abbrev way_from : (ℕ → ℕ) → ℕ → ℕ → ℕ
way_from f a n = sum_by greater_end (ticks (map f (range_with_len a (suc n))))

-- the same from the first tick on
abbrev way : (ℕ → ℕ) → ℕ → ℕ
way f zero = 0
way f (suc n) = way f n + max (f n) (f (suc n))

first_of_all : (f : ℕ → ℕ) (a n : ℕ) → way_from f a (suc n) ≡ max (f a) (f (a + 1)) + way_from f (a + 1) n
first_of_all f a n = sum_by-cons greater_end (f a, f (a + 1)) (ticks (map f (range_with_len (a + 1) (suc n))))

one_more : (f : ℕ → ℕ) (a n j : ℕ) → a + n ≡ j → way_from f a (suc n) ≡ way_from f a n + max (f j) (f (suc j))
one_more f a zero j h =
    let e : a ≡ j = omega arith in
    rw (e, add-one j) (omega arith)
one_more f a (suc n) j h =
    first_of_all f a (suc n)
    ∙ rw (one_more f (a + 1) n j (omega arith), first_of_all f a n) (omega arith)

way_is : (f : ℕ → ℕ) (n : ℕ) → way_from f 0 n ≡ way f n
way_is f zero = refl
way_is f (suc n) = rw (one_more f 0 n n (omega arith), way_is f n) refl

-- ---- sums of two parts

way_in_parts : (f : ℕ → ℕ) (t n : ℕ) → way f (t + n) ≡ way f t + way (λ k. f (t + k)) n
way_in_parts f t zero = rw (add-zero t) (omega arith)
way_in_parts f t (suc n) =
    let i : way f (t + n) ≡ way f t + way (λ k. f (t + k)) n = way_in_parts f t n in
    rw (add-suc t n) (omega arith)

same_way : (f g : ℕ → ℕ) (n : ℕ) → ((k : ℕ) → k ≤ n → f k ≡ g k) → way f n ≡ way g n
same_way f g zero h = refl
same_way f g (suc n) h =
    let i : way f n ≡ way g n = same_way f g n (λ k l. h k (omega arith)) in
    let a : f n ≡ g n = h n (omega arith) in
    let b : f (suc n) ≡ g (suc n) = h (suc n) (omega arith) in
    omega arith

-- ---- the two parts of a stop

rising : (v r n : ℕ) → 2 * way (λ k. v + k * r) n ≡ n * (v + r + (v + n * r))
rising v r zero = omega arith
rising v r (suc n) =
    let i : 2 * way (λ k. v + k * r) n ≡ n * (v + r + (v + n * r)) = rising v r n in
    omega arith

falling : (w d n e : ℕ) → w ≡ e + n * d → 2 * way (λ k. w - k * d) (suc n) ≡ suc n * (w + e)
falling w d zero e h = omega arith
falling w d (suc n) e h =
    let i : 2 * way (λ k. w - k * d) (suc n) ≡ suc n * (w + (e + d)) = falling w d n (e + d) (omega arith) in
    let x : w - suc n * d ≡ e = omega arith in
    omega arith

-- where the speed falls to 0 exactly, one more tick adds nothing
fallen : (w d : ℕ) → 0 < d → way (λ k. w - k * d) (div_ceil w d) ≡ way (λ k. w - k * d) (suc (w / d))
fallen w d h = elim (cases_eq (w % d) 0) as (λ _. way (λ k. w - k * d) (div_ceil w d) ≡ way (λ k. w - k * d) (suc (w / d))) [
  | inl e ↦ let n : div_ceil w d ≡ w / d = omega arith in
      let q : w ≡ w / d * d = omega arith in
      rw n (omega arith)
  | inr e ↦ let n : div_ceil w d ≡ suc (w / d) = omega arith in rw n refl
]

all_fallen : (w d : ℕ) → 0 < d → way (λ k. w - k * d) (div_ceil w d) ≡ (w / d + 1) * (w + w % d) / 2
all_fallen w d h =
    let i : 2 * way (λ k. w - k * d) (suc (w / d)) ≡ suc (w / d) * (w + w % d) = falling w d (w / d) (w % d) (omega arith) in
    let e : (w / d + 1) * (w + w % d) ≡ suc (w / d) * (w + w % d) = omega arith in
    rw (fallen w d h, e, ← i) (omega arith)

-- ---- a whole stop

while_rising : (b : Brake) (v k : ℕ) → k ≤ b.ticks → speed_after b v k ≡ v + k * in_a_tick b.runaway
while_rising b v k h =
    let x : min k b.ticks ≡ k = omega arith in
    let y : k - b.ticks ≡ 0 = omega arith in
    rw (x, y) (omega arith)

while_falling : (b : Brake) (v k : ℕ) → speed_after b v (b.ticks + k) ≡ top_speed b v - k * in_a_tick b.rate
while_falling b v k =
    let x : min (b.ticks + k) b.ticks ≡ b.ticks = omega arith in
    let y : b.ticks + k - b.ticks ≡ k = omega arith in
    rw (x, y) refl

in_two_parts : (b : Brake) (v n : ℕ) →
    way (speed_after b v) (b.ticks + n) ≡ way (λ k. v + k * in_a_tick b.runaway) b.ticks + way (λ k. top_speed b v - k * in_a_tick b.rate) n
in_two_parts b v n =
    way_in_parts (speed_after b v) b.ticks n
    ∙ rw (
      same_way (speed_after b v) (λ k. v + k * in_a_tick b.runaway) b.ticks (while_rising b v),
      same_way (λ k. speed_after b v (b.ticks + k)) (λ k. top_speed b v - k * in_a_tick b.rate) n (λ k h. while_falling b v k),
    ) refl

all_risen : (v r t : ℕ) → way (λ k. v + k * r) t ≡ t * (v + r + (v + t * r)) / 2
all_risen v r t = rw (← rising v r t) (omega arith)

pub by_arithmetic : (b : Brake) (v : ℕ) → 100 ≤ b.rate →
    hundredths_of b v
    ≡ b.ticks * (v + in_a_tick b.runaway + top_speed b v) / 2
    + (top_speed b v / in_a_tick b.rate + 1) * (top_speed b v + top_speed b v % in_a_tick b.rate) / 2
unfolding speeds
by_arithmetic b v h =
    way_is (speed_after b v) (ticks_to_stand b v)
    ∙ in_two_parts b v (div_ceil (top_speed b v) (in_a_tick b.rate))
    ∙ rw (all_risen v (in_a_tick b.runaway) b.ticks, all_fallen (top_speed b v) (in_a_tick b.rate) (omega arith)) refl

-- ---- a greater speed

less_way : (f g : ℕ → ℕ) (n : ℕ) → ((k : ℕ) → f k ≤ g k) → way f n ≤ way g n
less_way f g zero h = omega arith
less_way f g (suc n) h =
    let i : way f n ≤ way g n = less_way f g n h in
    let a : f n ≤ g n = h n in
    let b : f (suc n) ≤ g (suc n) = h (suc n) in
    omega arith

shorter_way : (f : ℕ → ℕ) (m k : ℕ) → way f m ≤ way f (m + k)
shorter_way f m k = rw (way_in_parts f m k) (omega arith)

div_rises : (m n d : ℕ) → 0 < d → m ≤ n → m / d ≤ n / d
div_rises m n d h l = le-div (m / d) n d h (omega (arith, div-add-mod' m d))

div_ceil_rises : (m n d : ℕ) → 0 < d → m ≤ n → div_ceil m d ≤ div_ceil n d
div_ceil_rises m n d h l = elim (cases_lt (m / d) (n / d)) as (λ _. div_ceil m d ≤ div_ceil n d) [
  | inl a ↦ omega arith
  | inr a ↦ let e : m / d ≡ n / d = omega (arith, div_rises m n d h l) in
      let p = div-add-mod' m d in
      let q = div-add-mod' n d in
      omega (arith, ap (λ x. x * d) e)
]

way_rises : (b : Brake) (v w : ℕ) → 100 ≤ b.rate → v ≤ w → hundredths_of b v ≤ hundredths_of b w
unfolding speeds
way_rises b v w h l =
    let n : ticks_to_stand b v ≤ ticks_to_stand b w = omega (arith, div_ceil_rises (top_speed b v) (top_speed b w) (in_a_tick b.rate) (omega arith) (omega arith)) in
    let e : ticks_to_stand b v + (ticks_to_stand b w - ticks_to_stand b v) ≡ ticks_to_stand b w = omega arith in
    let x : way (speed_after b v) (ticks_to_stand b v) ≤ way (speed_after b w) (ticks_to_stand b v) =
    less_way (speed_after b v) (speed_after b w) (ticks_to_stand b v) (λ k. omega arith) in
    let y = rw e at (shorter_way (speed_after b w) (ticks_to_stand b v) (ticks_to_stand b w - ticks_to_stand b v)) in
    rw (way_is (speed_after b v) (ticks_to_stand b v), way_is (speed_after b w) (ticks_to_stand b w)) (omega arith)

pub stop_rises : (b : Brake) (v w : ℕ) → 100 ≤ b.rate → v ≤ w → stop_of b v ≤ stop_of b w
unfolding stop_of
stop_rises b v w h l = div_ceil_rises (hundredths_of b v) (hundredths_of b w) 100 (omega arith) (way_rises b v w h l)
