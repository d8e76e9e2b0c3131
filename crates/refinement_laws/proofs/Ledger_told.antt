-- The ledger of a train's numbers by its account, and what each step of the account makes of it. Its places are those of the journey.
use Rattle.std.proofs.Common.{◌≡◌, ℕ, ◌+◌, ◌-◌, ◌<◌, max, List, Option, Some, None, Bool, true, false, ◌&&◌, ◌||◌, refl, ◌∙◌, ap, arith, not, if◌then◌else◌}
use Rattle.std.proofs.lemmas.Bool.Decides.{nat_tests}
use Rattle.std.proofs.lemmas.Bool.{and_parts}
use Rattle.std.specs.Prelude.{nat_eq, nat_le, nat_lt}
use Rattle.list_laws.proofs.By_test.{by_test}
use Rattle.track_points.specs.declared.ids.DirSeg.{DirSeg}
use Rattle.track_points.specs.Points.{Lengths}
use Rattle.definitions.specs.Account.{Account, shrink_end, takes_shrink, is_new, answered, passed, based}
use Rattle.authority_ledger.specs.declared.ledger.Ledger.{Ledger}
use Rattle.authority_ledger.specs.declared.ledger.Shrink.{Shrink}
use Rattle.authority_ledger.specs.declared.ledger.Answered.{Answered}
use Rattle.authority_ledger.specs.declared.ledger.Answered.TheVariants.{Old, Noted, Shrunk, Stays}
use Rattle.authority_ledger.specs.Ledger.{longer, shorter, answer_of, new_answer, after_answer, shift_end, shifted}
use Rattle.plain_state.specs.Zone.{cut_by, checked}
use Rattle.plain_state.specs.Refinement.{pending_of}

-- the unanswered shrink
abbrev pub shrink_told : Lengths → List DirSeg → Account → Option Shrink
shrink_told len steps v = if nat_lt 0 v.shrink then Some (record { number = v.shrink; end = shrink_end len steps v }) else None

abbrev pub ledger_told : Lengths → List DirSeg → Account → Ledger
ledger_told len steps v = record { last = v.issued; answered = v.counted; pending = shrink_told len steps v }

-- a shrink that is unanswered has a number that is not counted
abbrev pub IsAhead : Account → Type 0
IsAhead v = 0 < v.shrink → v.counted < v.shrink

-- Places from a later start on.

pub pending_told : (len : Lengths) (steps : List DirSeg) (start : ℕ) (v : Account) → pending_of len steps start v ≡ shift_end start (shrink_told len steps v)
pending_told len steps start v = by_test (nat_lt 0 v.shrink) (λ y. rw y refl) (λ n. rw n refl)

pub shifted_twice : (a b : ℕ) (l : Ledger) → shifted b (shifted a l) ≡ shifted (a + b) l
shifted_twice a b l = ap (λ (p : Option Shrink). with_pending p) (twice l.pending)
  where
    with_pending : Option Shrink → Ledger
    with_pending p = record l { pending = p }

    twice : (p : Option Shrink) → shift_end b (shift_end a p) ≡ shift_end (a + b) p
    twice None = refl
    twice (Some s) = let e : s.end - a - b ≡ s.end - (a + b) = omega arith in ap (λ (n : ℕ). Some (record s { end = n })) e

-- what an answer comes to, by places from a later start on
abbrev pub answer_shifted : ℕ → Answered → Answered
answer_shifted mm (Shrunk end) = Shrunk (end - mm)
answer_shifted mm found = found

found_shifted : (mm number : ℕ) (taken : Bool) (p : Option Shrink) → new_answer number taken (shift_end mm p) ≡ answer_shifted mm (new_answer number taken p)
found_shifted mm number taken None = refl
found_shifted mm number taken (Some s) = by_test (nat_eq number s.number)
    (λ y. by_test taken (λ k. rw (y, k) refl) (λ k. rw (y, k) refl))
    (λ n. rw n refl)

pub answer_of_shifted : (mm number : ℕ) (taken : Bool) (l : Ledger) → answer_of number taken (shifted mm l) ≡ answer_shifted mm (answer_of number taken l)
answer_of_shifted mm number taken l = by_test (nat_le number l.answered || nat_lt l.last number)
    (λ y. rw y refl)
    (λ n. rw n (found_shifted mm number taken l.pending))

pub after_shifted : (mm number : ℕ) (found : Answered) (l : Ledger) → after_answer (answer_shifted mm found) number (shifted mm l) ≡ shifted mm (after_answer found number l)
after_shifted mm number Old l = refl
after_shifted mm number Noted l = refl
after_shifted mm number (Shrunk end) l = refl
after_shifted mm number Stays l = refl

pub checked_shifted : (mm lo : ℕ) (p : Option Shrink) (l : Ledger) → mm < lo → checked (lo - mm) (shift_end mm p) (shifted mm l) ≡ shifted mm (checked lo p l)
checked_shifted mm lo None l h = refl
checked_shifted mm lo (Some s) l h =
    let e : nat_lt (s.end - mm) (lo - mm) ≡ nat_lt s.end lo = grind (arith, nat_tests) in
    by_test (nat_lt s.end lo) (λ y. rw (e, y) refl) (λ n. rw (e, n) refl)

pub longer_shifted : (mm : ℕ) (l : Ledger) → l.pending ≡ None → longer (shifted mm l) ≡ shifted mm (longer l)
longer_shifted mm l none = rw none refl

pub shorter_shifted : (mm p : ℕ) (l : Ledger) → l.pending ≡ None → shorter p (shifted mm l) ≡ shifted mm (shorter (mm + p) l)
shorter_shifted mm p l none = let e : p ≡ mm + p - mm = omega arith in rw none (ap (λ (n : ℕ). shrunk n) e)
  where
    shrunk : ℕ → Ledger
    shrunk n = record { last = l.last + 1; answered = l.answered; pending = Some (record { number = l.last + 1; end = n }) }

-- Steps of the account.
module _ (len : Lengths) (steps : List DirSeg) where
  pub told_idle : (v : Account) → nat_lt 0 v.shrink ≡ false → shrink_told len steps v ≡ None
  told_idle v n = rw n refl

  -- an answer
  old_answer : (number : ℕ) (v : Account) → (nat_le number v.counted || nat_lt v.issued number) ≡ not (is_new number v)
  old_answer number v = grind (arith, nat_tests)

  pub takes_told : (number : ℕ) (taken : Bool) (v : Account) → takes_shrink number taken v ≡ true → answer_of number taken (ledger_told len steps v) ≡ Shrunk (shrink_end len steps v)
  takes_told number taken v h =
      let a = and_parts (is_new number v) (nat_eq number v.shrink && taken) h in
      let b = and_parts (nat_eq number v.shrink) taken a.1 in
      let new = a.0 in
      let its = b.0 in
      let y = b.1 in
      let some : nat_lt 0 v.shrink ≡ true = grind (arith, nat_tests) in
      rw (old_answer number v, new, some, its, y) refl

  pub untaken_told : (number : ℕ) (taken : Bool) (v : Account) → takes_shrink number taken v ≡ false → cut_by (answer_of number taken (ledger_told len steps v)) ≡ None
  untaken_told number taken v h = by_test (is_new number v)
      (λ new. by_test (nat_lt 0 v.shrink)
      (λ some. by_test (nat_eq number v.shrink)
      (λ its. by_test taken
      (λ y. absurd (let c : true ≡ false = rw (new, its, y) at h in cc))
      (λ y. rw (old_answer number v, new, some, its, y) refl))
      (λ other. rw (old_answer number v, new, some, other) refl))
      (λ none. rw (old_answer number v, new, none) refl))
      (λ old. rw (old_answer number v, old) refl)

  pub answered_told : (number : ℕ) (taken : Bool) (v : Account) → IsAhead v
      → after_answer (answer_of number taken (ledger_told len steps v)) number (ledger_told len steps v) ≡ ledger_told len steps (answered number taken v)
  answered_told number taken v ahead = by_test (is_new number v)
      (λ new. by_test (nat_lt 0 v.shrink)
      (λ some. by_test (nat_eq number v.shrink)
      (λ its.
      let e : number ≡ v.shrink = grind (arith, nat_tests) in
      let a = ahead (grind (arith, nat_tests)) in
      let m : max v.counted v.shrink ≡ number = omega (arith, a, e) in
      by_test taken
      (λ y. rw (old_answer number v, new, some, its, y) refl)
      (λ y. rw (old_answer number v, new, some, its, y, m) refl))
      (λ other. rw (old_answer number v, new, some, other, some) refl))
      (λ none.
      let other : nat_eq number v.shrink ≡ false = grind (arith, nat_tests) in
      rw (old_answer number v, new, none, other, none) refl))
      (λ old. rw (old_answer number v, old) refl)

  -- the check of the least front
  pub checked_told : (lo : ℕ) (v : Account) → IsAhead v → checked lo (shrink_told len steps v) (ledger_told len steps v) ≡ ledger_told len steps (passed len steps lo v)
  checked_told lo v ahead = by_test (nat_lt 0 v.shrink)
      (λ some.
      let a = ahead (grind (arith, nat_tests)) in
      let m : max v.counted v.shrink ≡ v.shrink = omega (arith, a) in
      by_test (nat_lt (shrink_end len steps v) lo)
      (λ y. rw (some, y, m) refl)
      (λ n. rw (some, n, some) refl))
      (λ none. rw (none, none) refl)

  -- the first number counted, and other fronts, change none of it
  pub based_told : (z now_ before : ℕ) (v : Account) → ledger_told len steps (based z now_ before v) ≡ ledger_told len steps v
  based_told z now_ before v = by_test (nat_eq before 0 && nat_lt 0 v.counted) (λ y. rw y refl) (λ n. rw n refl)

-- One more number.

pub longer_told : (len : Lengths) (steps steps2 : List DirSeg) (v w : Account) → w.issued ≡ v.issued + 1 → w.counted ≡ v.counted → nat_lt 0 v.shrink ≡ false → nat_lt 0 w.shrink ≡ false
    → ledger_told len steps2 w ≡ longer (ledger_told len steps v)
longer_told len steps steps2 v w issued counted idle idle2 = rw (idle, idle2, issued, counted) refl

pub shorter_told : (len : Lengths) (steps steps2 : List DirSeg) (v w : Account) (p : ℕ) → w.issued ≡ v.issued + 1 → w.counted ≡ v.counted → nat_lt 0 v.shrink ≡ false → w.shrink ≡ v.issued + 1 → shrink_end len steps2 w ≡ p
    → ledger_told len steps2 w ≡ shorter p (ledger_told len steps v)
shorter_told len steps steps2 v w p issued counted idle last end =
    let some : nat_lt 0 w.shrink ≡ true = grind (arith, nat_tests) in
    rw (idle, some) (ap (λ (n : ℕ). with_shrink w.issued w.counted w.shrink n) end ∙ (ap (λ (n : ℕ). with_shrink w.issued w.counted n p) last
    ∙ (ap (λ (n : ℕ). with_shrink w.issued n (v.issued + 1) p) counted ∙ ap (λ (n : ℕ). with_shrink n v.counted (v.issued + 1) p) issued)))
  where
    with_shrink : ℕ → ℕ → ℕ → ℕ → Ledger
    with_shrink last_ answered_ number end_ = record { last = last_; answered = answered_; pending = Some (record { number = number; end = end_ }) }
