-- What a ledger tells after a call, and the end that is kept beside it.
use Rattle.std.proofs.Common.{◌≡◌, ℕ, ◌+◌, ◌-◌, [], Bool, true, false, ◌||◌, if◌then◌else◌, Option, Some, None, refl, sym, ap, subst, ◌∙◌, arith, nat_eq, nat_lt, nat_le}
use Rattle.std.proofs.lemmas.Bool.Decides.{nat_tests}
use Rattle.list_laws.proofs.By_test.{by_test}
use Rattle.authority_ledger.specs.declared.ledger.Ledger.{Ledger}
use Rattle.authority_ledger.specs.declared.ledger.Shrink.{Shrink}
use Rattle.authority_ledger.specs.declared.ledger.Answered.TheVariants.{Shrunk, Stays}
use Rattle.authority_ledger.specs.Ledger.{first_ledger, longer, shorter, answer_of, after_answer, shifted}
use Rattle.authority_ledger.specs.Numbers.{Call, Longer, Shorter, Answer, Shift, Numbers, greatest, with_at, begun, is_new, next, numbers, Suits, AllSuit, TellsPending, Tells}
use Rattle.authority_ledger.specs.Keeps.{answered_end, end_after, Keeps}
use Rattle.authority_ledger.proofs.Kept.{greatest_kept, kept_first, next_end, kept_next, kept_numbers}

abbrev pub ledger_after : Call → Ledger → Ledger
ledger_after (Longer to) l = longer l
ledger_after (Shorter to) l = shorter to l
ledger_after (Answer number taken) l = after_answer (answer_of number taken l) number l
ledger_after (Shift mm) l = shifted mm l

-- the three fields, and the end that is kept, after a call
record Told (l : Ledger) (end : ℕ) (v : Numbers) (kept : ℕ) : Type 0 where
  pub last_is : l.last ≡ v.issued
  pub answered_is : l.answered ≡ v.counted
  pub pending_is : TellsPending l.pending v
  pub end_is : end ≡ kept

abbrev After : Call → Ledger → ℕ → Numbers → Type 0
After c l end v = Told (ledger_after c l) (end_after c l end) (next c v) (next_end v end c)

module _ (end : ℕ) (v : Numbers) (last counted : ℕ) (a : last ≡ v.issued) (b : counted ≡ v.counted) where
  abbrev with_pending : Option Shrink → Ledger
  with_pending p = record { last = last; answered = counted; pending = p }

  told_longer : (to : ℕ) (p : Option Shrink) → TellsPending p v → After (Longer to) (with_pending p) end v
  told_longer to None h =
      let yes : nat_eq v.shrink 0 ≡ true = grind (arith, nat_tests, h) in
      rw yes (record { last_is = ap (λ n. n + 1) a; answered_is = b; pending_is = h; end_is = refl })
  told_longer to (Some s) h =
      let some = h.some in
      let no : nat_eq v.shrink 0 ≡ false = grind (arith, nat_tests) in
      rw no (record { last_is = a; answered_is = b; pending_is = h; end_is = refl })

  told_shorter : (to : ℕ) (p : Option Shrink) → TellsPending p v → After (Shorter to) (with_pending p) end v
  told_shorter to None h =
      let here : nat_eq (v.issued + 1) (v.issued + 1) ≡ true = grind (arith, nat_tests) in
      let yes : nat_eq v.shrink 0 ≡ true = grind (arith, nat_tests, h) in
      rw yes (record {
        last_is = ap (λ n. n + 1) a;
        answered_is = b;
        pending_is = record { some = omega arith; number = ap (λ n. n + 1) a; end = rw here refl };
        end_is = refl;
      })
  told_shorter to (Some s) h =
      let some = h.some in
      let no : nat_eq v.shrink 0 ≡ false = grind (arith, nat_tests) in
      rw no (record { last_is = a; answered_is = b; pending_is = h; end_is = refl })

  told_moved : (mm : ℕ) (p : Option Shrink) → TellsPending p v → After (Shift mm) (with_pending p) end v
  told_moved mm None h = record { last_is = a; answered_is = b; pending_is = h; end_is = refl }
  told_moved mm (Some s) h = record {
    last_is = a;
    answered_is = b;
    pending_is = record { some = h.some; number = h.number; end = ap (λ n. n - mm) h.end };
    end_is = refl;
  }

  -- an answer to the shrink
  told_settled : (number : ℕ) (s : Shrink) → TellsPending (Some s) v → (taken : Bool)
      → Told (after_answer (if taken then Shrunk s.end else Stays) number (with_pending (Some s))) (answered_end (if taken then Shrunk s.end else Stays) end)
      (if taken then record v { counted = number; shrink = 0 } else record v { counted = number; shrink = 0; ends = with_at number v.stood v.ends })
      (if taken then v.ends v.shrink else end)
  told_settled number s h true = record { last_is = a; answered_is = refl; pending_is = refl; end_is = h.end }
  told_settled number s h false = record { last_is = a; answered_is = refl; pending_is = refl; end_is = refl }

  -- a new answer
  told_new : (number : ℕ) (taken : Bool) (p : Option Shrink) → TellsPending p v → (nat_le number counted || nat_lt last number) ≡ false → is_new number v ≡ true
      → After (Answer number taken) (with_pending p) end v
  told_new number taken None h new new_v =
      let other : nat_eq number v.shrink ≡ false = grind (arith, nat_tests, h) in
      rw (new, new_v, other) (record { last_is = a; answered_is = refl; pending_is = h; end_is = refl })
  told_new number taken (Some s) h new new_v =
      let n = h.number in
      by_test (nat_eq number v.shrink)
      (λ is.
      let same : nat_eq number s.number ≡ true = grind (arith, nat_tests) in
      rw (new, new_v, is, same) (told_settled number s h taken))
      (λ other.
      let differs : nat_eq number s.number ≡ false = grind (arith, nat_tests) in
      rw (new, new_v, other, differs) (record { last_is = a; answered_is = refl; pending_is = record { some = h.some; number = h.number; end = h.end }; end_is = refl }))

  told_answer : (number : ℕ) (taken : Bool) (p : Option Shrink) → TellsPending p v → After (Answer number taken) (with_pending p) end v
  told_answer number taken p h = by_test (is_new number v)
      (λ new. told_new number taken p h (grind (arith, nat_tests)) new)
      (λ old.
      let also : (nat_le number counted || nat_lt last number) ≡ true = grind (arith, nat_tests) in
      rw (old, also) (record { last_is = a; answered_is = b; pending_is = h; end_is = refl }))

  told_after : (c : Call) (p : Option Shrink) → TellsPending p v → After c (with_pending p) end v
  told_after (Longer to) = told_longer to
  told_after (Shorter to) = told_shorter to
  told_after (Answer number taken) = told_answer number taken
  told_after (Shift mm) = told_moved mm

-- each call keeps the greatest end
keeps_after : (c : Call) (l : Ledger) → Keeps c l (ledger_after c l)
unfolding numbers AllSuit Keeps
keeps_after c l first end calls suits t =
    let v = numbers first calls in
    let e = t.end_is in
    let s : Suits c (greatest v) = subst (Suits c) e suits in
    let k = kept_next v (greatest v) (kept_numbers first calls t.suits) c s in
    let w = told_after (greatest v) v l.last l.answered t.last_is t.answered_is c l.pending t.pending_is in
    record {
      suits = (s, t.suits);
      last_is = w.last_is;
      answered_is = w.answered_is;
      pending_is = w.pending_is;
      end_is = ap (end_after c l) e ∙ w.end_is ∙ sym (greatest_kept (next c v) (next_end v (greatest v) c) k);
    }

pub keeps : (c : Call) (l after : Ledger) → after ≡ ledger_after c l → Keeps c l after
keeps c l after e = subst (Keeps c l) (sym e) (keeps_after c l)

pub tells_first : (end : ℕ) → Tells first_ledger end end []
unfolding numbers AllSuit
tells_first end = record { suits = tt; last_is = refl; answered_is = refl; pending_is = refl; end_is = sym (greatest_kept (begun end) end (kept_first end)) }
