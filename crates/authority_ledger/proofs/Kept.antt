-- The end that is kept is the greatest end: none from the greatest counted on is greater, and the last number has it, or the
-- one before an unanswered shrink.
use Rattle.std.proofs.Common.{◌≡◌, ℕ, ◌+◌, ◌-◌, ◌<◌, ◌≤◌, List, [], ◌∷◌, Bool, true, false, if◌then◌else◌, refl, sym, ap, subst, arith, nat_eq, nat_lt}
use Rattle.std.proofs.lemmas.Bool.Decides.{nat_tests}
use Rattle.list_laws.proofs.By_test.{by_test}
use Rattle.authority_ledger.specs.Numbers.{Call, Longer, Shorter, Answer, Shift, Numbers, greatest, with_at, begun, issue, issue_shrink, is_new, answered, moved, next, numbers, Suits, AllSuit}
use Rattle.authority_ledger.proofs.Greatest.{most, least}

pub record Kept (v : Numbers) (end : ℕ) : Type 0 where
  pub all : (n : ℕ) → v.counted ≤ n → n ≤ v.issued → v.ends n ≤ end
  -- the number that has the end
  pub top : ℕ
  pub top_is : v.ends top ≡ end
  pub counted_top : v.counted ≤ top
  pub idle : v.shrink ≡ 0 → top ≡ v.issued
  pub pending : 0 < v.shrink → top + 1 ≡ v.issued
  pub shrink_is : 0 < v.shrink → v.shrink ≡ v.issued
  pub stood_is : 0 < v.shrink → v.stood ≡ end

top_most : (v : Numbers) (end : ℕ) (k : Kept v end) → k.top ≤ v.issued
top_most v end k = by_test (nat_lt 0 v.shrink)
    (λ y. let p = k.pending (grind (arith, nat_tests)) in omega (arith, p))
    (λ n. let p = k.idle (grind (arith, nat_tests)) in omega (arith, p))

pub greatest_kept : (v : Numbers) (end : ℕ) → Kept v end → greatest v ≡ end
greatest_kept v end k =
    let a = k.counted_top in
    let b = top_most v end k in
    let e : v.counted + (k.top - v.counted) ≡ k.top = omega (arith, a) in
    let x = most v.ends v.counted (v.issued + 1 - v.counted) end (λ i l. k.all (v.counted + i) (omega arith) (omega (arith, l, a, b))) in
    let y = rw e at (least v.ends v.counted (v.issued + 1 - v.counted) (k.top - v.counted) (omega (arith, a, b))) in
    let z = k.top_is in
    omega (arith, x, y, z)

pub kept_first : (first : ℕ) → Kept (begun first) first
kept_first first = record {
  all = λ n h l. by_test (nat_eq n 1) (λ y. rw y (omega arith)) (λ m. rw m (omega arith));
  top = 1;
  top_is = refl;
  counted_top = omega arith;
  idle = λ h. refl;
  pending = λ h. absurd (omega (arith, h));
  shrink_is = λ h. absurd (omega (arith, h));
  stood_is = λ h. absurd (omega (arith, h));
}

module _ (v : Numbers) (end : ℕ) (k : Kept v end) where
  pub kept_longer : (to : ℕ) → v.shrink ≡ 0 → end ≤ to → Kept (issue to v) to
  kept_longer to idle le =
      let b = k.counted_top in
      let t = top_most v end k in
      let here : nat_eq (v.issued + 1) (v.issued + 1) ≡ true = grind (arith, nat_tests) in
      record {
        all = λ n h l. by_test (nat_eq n (v.issued + 1))
            (λ y. rw y (omega arith))
            (λ m. let w = k.all n h (grind (arith, nat_tests)) in rw m (omega (arith, w, le)));
        top = v.issued + 1;
        top_is = rw here refl;
        counted_top = omega (arith, b, t);
        idle = λ h. refl;
        pending = λ h. absurd (omega (arith, h, idle));
        shrink_is = λ h. absurd (omega (arith, h, idle));
        stood_is = λ h. absurd (omega (arith, h, idle));
      }

  pub kept_shorter : (to : ℕ) → v.shrink ≡ 0 → to < end → Kept (issue_shrink to v) end
  kept_shorter to idle less =
      let t = k.idle idle in
      let other : nat_eq k.top (v.issued + 1) ≡ false = grind (arith, nat_tests) in
      record {
        all = λ n h l. by_test (nat_eq n (v.issued + 1))
            (λ y. rw y (omega (arith, less)))
            (λ m. rw m (k.all n h (grind (arith, nat_tests))));
        top = k.top;
        top_is = rw other k.top_is;
        counted_top = k.counted_top;
        idle = λ h. absurd (omega (arith, h));
        pending = λ h. omega (arith, t);
        shrink_is = λ h. refl;
        stood_is = λ h. greatest_kept v end k;
      }

  -- an answer to another number than the shrink's
  pub kept_noted : (number : ℕ) → v.counted < number → number ≤ v.issued → nat_eq number v.shrink ≡ false → Kept (record v { counted = number }) end
  kept_noted number above issued other = record {
    all = λ n h l. k.all n (omega (arith, above, h)) l;
    top = k.top;
    top_is = k.top_is;
    counted_top = by_test (nat_lt 0 v.shrink)
        (λ y. let p = k.pending (grind (arith, nat_tests)) in let q = k.shrink_is (grind (arith, nat_tests)) in grind (arith, nat_tests))
        (λ m. let p = k.idle (grind (arith, nat_tests)) in omega (arith, p, issued));
    idle = k.idle;
    pending = k.pending;
    shrink_is = k.shrink_is;
    stood_is = k.stood_is;
  }

  -- the shrink is taken
  pub kept_taken : 0 < v.shrink → Kept (record v { counted = v.shrink; shrink = 0 }) (v.ends v.shrink)
  kept_taken some =
      let q = k.shrink_is some in
      record {
        all = λ n h l. let e : n ≡ v.shrink = omega (arith, h, l, q) in rw e (omega arith);
        top = v.shrink;
        top_is = refl;
        counted_top = omega arith;
        idle = λ h. q;
        pending = λ h. absurd (omega (arith, h));
        shrink_is = λ h. absurd (omega (arith, h));
        stood_is = λ h. absurd (omega (arith, h));
      }

  -- the shrink is refused
  pub kept_refused : 0 < v.shrink → Kept (record v { counted = v.shrink; shrink = 0; ends = with_at v.shrink v.stood v.ends }) end
  kept_refused some =
      let q = k.shrink_is some in
      let s = k.stood_is some in
      let here : nat_eq v.shrink v.shrink ≡ true = grind (arith, nat_tests) in
      record {
        all = λ n h l. let e : n ≡ v.shrink = omega (arith, h, l, q) in rw (e, here) (omega (arith, s));
        top = v.shrink;
        top_is = rw here s;
        counted_top = omega arith;
        idle = λ h. q;
        pending = λ h. absurd (omega (arith, h));
        shrink_is = λ h. absurd (omega (arith, h));
        stood_is = λ h. absurd (omega (arith, h));
      }

  pub kept_moved : (mm : ℕ) → Kept (moved mm v) (end - mm)
  kept_moved mm = record {
    all = λ n h l. let w = k.all n h l in omega (arith, w);
    top = k.top;
    top_is = ap (λ x. x - mm) k.top_is;
    counted_top = k.counted_top;
    idle = k.idle;
    pending = k.pending;
    shrink_is = k.shrink_is;
    stood_is = λ h. ap (λ x. x - mm) (k.stood_is h);
  }

-- the end after a call
abbrev pub next_end : Numbers → ℕ → Call → ℕ
next_end v end (Longer to) = if nat_eq v.shrink 0 then to else end
next_end v end (Shorter to) = end
next_end v end (Answer number taken) = if is_new number v then (if nat_eq number v.shrink then (if taken then v.ends v.shrink else end) else end) else end
next_end v end (Shift mm) = end - mm

-- an answer to the shrink
kept_settled : (v : Numbers) (end : ℕ) → Kept v end → (number : ℕ) (taken : Bool) → number ≡ v.shrink → nat_lt v.counted number ≡ true
    → Kept (if taken then record v { counted = number; shrink = 0 } else record v { counted = number; shrink = 0; ends = with_at number v.stood v.ends }) (if taken then v.ends v.shrink else end)
kept_settled v end k number true is above = rw is (kept_taken v end k (grind (arith, nat_tests)))
kept_settled v end k number false is above = rw is (kept_refused v end k (grind (arith, nat_tests)))

kept_answered : (v : Numbers) (end : ℕ) → Kept v end → (number : ℕ) (taken : Bool) → Kept (answered number taken v) (next_end v end (Answer number taken))
kept_answered v end k number taken = by_test (is_new number v)
    (λ new. by_test (nat_eq number v.shrink)
    (λ is. rw (new, is) (kept_settled v end k number taken (grind (arith, nat_tests)) (grind (arith, nat_tests))))
    (λ other. rw (new, other) (kept_noted v end k number (grind (arith, nat_tests)) (grind (arith, nat_tests)) other)))
    (λ old. rw old k)

pub kept_next : (v : Numbers) (end : ℕ) → Kept v end → (c : Call) → Suits c end → Kept (next c v) (next_end v end c)
kept_next v end k (Longer to) le = by_test (nat_eq v.shrink 0)
    (λ y. let idle : v.shrink ≡ 0 = grind (arith, nat_tests) in rw y (kept_longer v end k to idle le))
    (λ n. rw n k)
kept_next v end k (Shorter to) less = by_test (nat_eq v.shrink 0)
    (λ y. let idle : v.shrink ≡ 0 = grind (arith, nat_tests) in rw y (kept_shorter v end k to idle less))
    (λ n. rw n k)
kept_next v end k (Answer number taken) s = kept_answered v end k number taken
kept_next v end k (Shift mm) s = kept_moved v end k mm

-- after every history
pub kept_numbers : (first : ℕ) (calls : List Call) → AllSuit first calls → Kept (numbers first calls) (greatest (numbers first calls))
unfolding numbers AllSuit
kept_numbers first [] s = let k = kept_first first in subst (Kept (begun first)) (sym (greatest_kept (begun first) first k)) k
kept_numbers first (c ∷ calls) s =
    let v = numbers first calls in
    let k = kept_next v (greatest v) (kept_numbers first calls s.1) c s.0 in
    subst (Kept (next c v)) (sym (greatest_kept (next c v) (next_end v (greatest v) c) k)) k
