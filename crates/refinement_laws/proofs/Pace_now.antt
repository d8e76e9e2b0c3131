-- How fast a train went in the last step, by the pace that the world keeps.
use Rattle.std.proofs.Common.{◌≡◌, ℕ, ◌+◌, ◌*◌, ◌≤◌, [], ◌∷◌, true, false, ◌&&◌, refl, arith}
use Rattle.std.proofs.lemmas.Bool.Decides.{nat_tests}
use Rattle.std.proofs.lemmas.Bool.{eqb-true, and_parts}
use Rattle.std.proofs.Math.Nat.{zero-div, zero-mod}
use Rattle.std.specs.Prelude.{nat_eq, nat_le}
use Rattle.std.specs.Int.{div_ceil}
use Rattle.std.specs.List.{list_all}
use Rattle.list_laws.proofs.By_test.{by_test, eq_self}
use Rattle.definitions.specs.declared.event.Event.{Event}
use Rattle.definitions.specs.declared.event.Event.TheVariants.{Step}
use Rattle.definitions.specs.Track.{Line, ranged}
use Rattle.definitions.specs.Premises.{ascending, known_train, built}
use Rattle.definitions.specs.Story.{Transition, Story}
use Rattle.definitions.specs.World.{elapsed, clock, moved, mm_of, speed_in, speed_now}
use Rattle.plain_state.specs.declared.Pace.{Pace}
use Rattle.plain_state.specs.World.{paced, last_speed}
use Rattle.plain_state.specs.Refinement.{pace_of}

-- the pace is of no later than now, and tells the speed in the last step
pub record PaceIs (clock_ : ℕ) (pace : Pace) (speed : ℕ) : Type 0 where
  pub past : pace.at ≤ clock_
  pub is : last_speed clock_ pace ≡ speed

-- of every train
abbrev pub AllPaced : Story → Type 0
AllPaced s = (t : ℕ) → PaceIs (clock s) (pace_of t s) (speed_now t s)

none_moved : (ms : ℕ) → div_ceil (0 * 1000) ms ≡ 0
none_moved ms = rw (zero-div ms, zero-mod ms) refl

-- a step that does not move the train makes its pace old
pace_stepped : (clock_ ms mm : ℕ) (pace : Pace) → 1 ≤ ms → pace.at ≤ clock_ → PaceIs (clock_ + ms) (paced ms (clock_ + ms) mm pace) (div_ceil (mm * 1000) ms)
pace_stepped clock_ ms mm pace some past = by_test (nat_eq mm 0)
    (λ y.
    let none : mm ≡ 0 = eqb-true mm 0 y in
    let old : nat_eq pace.at (clock_ + ms) ≡ false = grind (arith, nat_tests) in
    record {
      past = rw y (omega (arith, past));
      is = rw y (rw old (rw none (rw (none_moved ms) refl)));
    })
    (λ n. record {
      past = rw n (omega arith);
      is = rw n (rw (eq_self (clock_ + ms)) refl);
    })

pace_still : (clock_ speed : ℕ) (pace : Pace) → PaceIs clock_ pace speed → PaceIs (clock_ + 0) pace speed
pace_still clock_ speed pace k = let e : clock_ + 0 ≡ clock_ = omega arith in rw e k

pace_next : (line : Line) (t clock_ speed : ℕ) (pace : Pace) (s : Story) (e : Event) → built line s e ≡ true → PaceIs clock_ pace speed
    → PaceIs (clock_ + elapsed e) (paced (elapsed e) (clock_ + elapsed e) (moved t e) pace) (speed_in t e speed)
pace_next line t clock_ speed pace s (Step ms moves) form k =
    let b = and_parts (ranged 1 60000 ms) (ascending 0 moves.items && list_all (known_train s) moves.items) form in
    let c = and_parts (nat_le 1 ms) (nat_le ms 60000) b.0 in
    let long = c.0 in
    pace_stepped clock_ ms (mm_of t moves.items) pace (grind (arith, nat_tests)) k.past
pace_next line t clock_ speed pace s e form k = pace_still clock_ speed pace k

pub pace_start : (t : ℕ) → PaceIs (clock []) (pace_of t []) (speed_now t [])
unfolding clock pace_of speed_now
pace_start t = record { past = omega arith; is = refl }

-- one event further
pub pace_step : (line : Line) (t : ℕ) (s : Story) (x : Transition) → built line s x.event ≡ true → PaceIs (clock s) (pace_of t s) (speed_now t s) → PaceIs (clock (x ∷ s)) (pace_of t (x ∷ s)) (speed_now t (x ∷ s))
unfolding clock pace_of speed_now
pace_step line t s x form k = pace_next line t (clock s) (speed_now t s) (pace_of t s) s x.event form k
