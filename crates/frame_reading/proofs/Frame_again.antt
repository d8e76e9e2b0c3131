-- Frames: what is read is the one spelling of a message in range, what is spelled is read, and no field lies far.
use Rattle.std.proofs.Common.{◌≡◌, ℕ, zero, suc, ◌+◌, ◌≤◌, true, cond, List, [], ◌∷◌, ◌++◌, length, Result, Ok, Err, refl, sym, ap, subst, ◌∙◌, arith, inl, inr}
use Rattle.std.proofs.lemmas.List.{append-nil}
use Rattle.std.specs.Prelude.{IfOk}
use Rattle.definitions.specs.declared.message.Msg.{Msg}
use Rattle.definitions.specs.declared.message.Msg.TheVariants as says
use Rattle.definitions.specs.declared.outcome.FrameFault.{FrameFault}
use Rattle.definitions.specs.declared.outcome.FrameFault.TheVariants as faults
use Rattle.definitions.specs.declared.frame.Unread.{Unread}
use Rattle.definitions.specs.declared.frame.Unread.TheVariants.{Short, Out}
use Rattle.definitions.specs.FrameFields.{Form, as_read}
use Rattle.definitions.specs.FrameLayouts.{report, reading, time_told, entry_ask, ask, answer, gone, echo, order_told, auth, switch_cmd, lend_ask, lend, returned, hand, seen_told}
use Rattle.definitions.specs.Frames.{frame_of, Fits, body_at, whole, IsPlaced, frame_at, has_version, has_kind, report_of, reading_of, time_told_of, entry_ask_of, ask_of, answer_of, gone_of, echo_of, order_told_of, auth_of, switch_cmd_of, lend_ask_of, lend_of, returned_of, handed_of, seen_told_of}
use Rattle.frame_fields.proofs.Then_lawful.{IsBytes, Near, Lawful, bind_ok, bind_err, ok_is, ok_no_err, chosen}
use Rattle.frame_fields.proofs.Hand_lawful.{report_lawful, reading_lawful, time_told_lawful, entry_ask_lawful, ask_lawful, answer_lawful, gone_lawful, echo_lawful, order_told_lawful, auth_lawful, switch_cmd_lawful, lend_ask_lawful, lend_lawful, returned_lawful, hand_lawful, seen_told_lawful}

-- What holds of a kind: what is read of it is spelled so, and no field lies far.
pub record Told (version kind : ℕ) : Type 0 where
  pub takes : (bytes : List ℕ) (m : Msg) (rest : List ℕ) → IsBytes bytes → body_at version kind bytes ≡ Ok (m, rest) → ((version ∷ kind ∷ bytes ≡ frame_of m ++ rest) × Fits m)
  pub far : (bytes : List ℕ) (left : ℕ) → IsBytes bytes → body_at version kind bytes ≡ Err (Out left) → Near bytes left 126

module _ {A : Type 0} (version kind : ℕ) (f : Form A) (most : ℕ) (law : Lawful f most) (of : A → Msg) (reads : (bytes : List ℕ) → body_at version kind bytes ≡ as_read of (f.read bytes)) where
  module _ (few : most ≤ 126) (spells : (x : A) → frame_of (of x) ≡ version ∷ kind ∷ f.spell x) (fits : (x : A) → f.fits x → Fits (of x)) where
    told_takes : (bytes : List ℕ) (m : Msg) (rest : List ℕ) → IsBytes bytes → body_at version kind bytes ≡ Ok (m, rest) → ((version ∷ kind ∷ bytes ≡ frame_of m ++ rest) × Fits m)
    told_takes bytes m rest are e =
        let a = bind_ok (f.read bytes) (λ x. Ok (of x.0, x.1)) (m, rest) (sym (reads bytes) ∙ e) in
        let t = law.takes bytes a.0.0 a.0.1 are a.1 in
        let all : version ∷ kind ∷ bytes ≡ frame_of (of a.0.0) ++ a.0.1 = ap (λ (b : List ℕ). version ∷ kind ∷ b) t.0.parts ∙ ap (λ (s : List ℕ). s ++ a.0.1) (sym (spells a.0.0)) in
        subst (λ (p : Msg × List ℕ). (version ∷ kind ∷ bytes ≡ frame_of p.0 ++ p.1) × Fits p.0) (ok_is (of a.0.0, a.0.1) (m, rest) a.2) (all, fits a.0.0 t.1)

    told_far : (bytes : List ℕ) (left : ℕ) → IsBytes bytes → body_at version kind bytes ≡ Err (Out left) → Near bytes left 126
    told_far bytes left are e =
        elim (bind_err (f.read bytes) (λ x. Ok (of x.0, x.1)) (Out left) (sym (reads bytes) ∙ e)) [
          | inl h ↦ let n = law.far bytes left are h in record { within = n.within; near = omega (arith, n.near, few) }
          | inr h ↦ absurd (ok_no_err (of h.0.0, h.0.1) (Out left) h.2)
        ]

    told : Told version kind
    told = record { takes = told_takes; far = told_far }

  again : (is : has_version version ≡ true) (known : has_kind version kind ≡ true) (x : A) → f.fits x → frame_at (version ∷ kind ∷ f.spell x) ≡ Ok (of x)
  unfolding frame_at
  again is known x fits =
      let alone : f.read (f.spell x) ≡ Ok (x, []) = ap f.read (sym (append-nil (f.spell x))) ∙ law.again x [] fits in
      rw (is, known, reads (f.spell x), alone) refl

told_1 : Told 1 1
unfolding frame_of Fits body_at
told_1 = told 1 1 report 19 report_lawful report_of (λ bytes. refl) (omega arith) (λ x. refl) (λ x h. h)

told_2 : Told 1 2
unfolding frame_of Fits body_at
told_2 = told 1 2 reading 11 reading_lawful reading_of (λ bytes. refl) (omega arith) (λ x. refl) (λ x h. h)

told_3 : Told 1 3
unfolding frame_of Fits body_at
told_3 = told 1 3 time_told 10 time_told_lawful time_told_of (λ bytes. refl) (omega arith) (λ x. refl) (λ x h. h)

told_4 : Told 1 4
unfolding frame_of Fits body_at
told_4 = told 1 4 entry_ask 23 entry_ask_lawful entry_ask_of (λ bytes. refl) (omega arith) (λ x. refl) (λ x h. h)

told_5 : Told 1 5
unfolding frame_of Fits body_at
told_5 = told 1 5 ask 63 ask_lawful ask_of (λ bytes. refl) (omega arith) (λ x. refl) (λ x h. h)

told_6 : Told 1 6
unfolding frame_of Fits body_at
told_6 = told 1 6 answer 15 answer_lawful answer_of (λ bytes. refl) (omega arith) (λ x. refl) (λ x h. h)

told_7 : Told 1 7
unfolding frame_of Fits body_at
told_7 = told 1 7 gone 10 gone_lawful gone_of (λ bytes. refl) (omega arith) (λ x. refl) (λ x h. h)

told_8 : Told 1 8
unfolding frame_of Fits body_at
told_8 = told 1 8 echo 15 echo_lawful echo_of (λ bytes. refl) (omega arith) (λ x. refl) (λ x h. h)

told_9 : Told 1 9
unfolding frame_of Fits body_at
told_9 = told 1 9 order_told 17 order_told_lawful order_told_of (λ bytes. refl) (omega arith) (λ x. refl) (λ x h. h)

told_10 : Told 1 10
unfolding frame_of Fits body_at
told_10 = told 1 10 auth 67 auth_lawful auth_of (λ bytes. refl) (omega arith) (λ x. refl) (λ x h. h)

told_11 : Told 1 11
unfolding frame_of Fits body_at
told_11 = told 1 11 switch_cmd 7 switch_cmd_lawful switch_cmd_of (λ bytes. refl) (omega arith) (λ x. refl) (λ x h. h)

told_12 : Told 1 12
unfolding frame_of Fits body_at
told_12 = told 1 12 lend_ask 59 lend_ask_lawful lend_ask_of (λ bytes. refl) (omega arith) (λ x. refl) (λ x h. h)

told_13 : Told 1 13
unfolding frame_of Fits body_at
told_13 = told 1 13 lend 67 lend_lawful lend_of (λ bytes. refl) (omega arith) (λ x. refl) (λ x h. h)

told_14 : Told 1 14
unfolding frame_of Fits body_at
told_14 = told 1 14 returned 64 returned_lawful returned_of (λ bytes. refl) (omega arith) (λ x. refl) (λ x h. h)

told_15 : Told 1 15
unfolding frame_of Fits body_at
told_15 = told 1 15 hand 110 hand_lawful handed_of (λ bytes. refl) (omega arith) (λ x. refl) (λ x h. h)

told_16 : Told 1 16
unfolding frame_of Fits body_at
told_16 = told 1 16 seen_told 7 seen_told_lawful seen_told_of (λ bytes. refl) (omega arith) (λ x. refl) (λ x h. h)

-- each kind
pub each_1 : (kind : ℕ) → 1 ≤ kind → kind ≤ 16 → Told 1 kind
each_1 zero least most = absurd (omega (arith, least))
each_1 (suc zero) least most = told_1
each_1 (suc (suc zero)) least most = told_2
each_1 (suc (suc (suc zero))) least most = told_3
each_1 (suc (suc (suc (suc zero)))) least most = told_4
each_1 (suc (suc (suc (suc (suc zero))))) least most = told_5
each_1 (suc (suc (suc (suc (suc (suc zero)))))) least most = told_6
each_1 (suc (suc (suc (suc (suc (suc (suc zero))))))) least most = told_7
each_1 (suc (suc (suc (suc (suc (suc (suc (suc zero)))))))) least most = told_8
each_1 (suc (suc (suc (suc (suc (suc (suc (suc (suc zero))))))))) least most = told_9
each_1 (suc (suc (suc (suc (suc (suc (suc (suc (suc (suc zero)))))))))) least most = told_10
each_1 (suc (suc (suc (suc (suc (suc (suc (suc (suc (suc (suc zero))))))))))) least most = told_11
each_1 (suc (suc (suc (suc (suc (suc (suc (suc (suc (suc (suc (suc zero)))))))))))) least most = told_12
each_1 (suc (suc (suc (suc (suc (suc (suc (suc (suc (suc (suc (suc (suc zero))))))))))))) least most = told_13
each_1 (suc (suc (suc (suc (suc (suc (suc (suc (suc (suc (suc (suc (suc (suc zero)))))))))))))) least most = told_14
each_1 (suc (suc (suc (suc (suc (suc (suc (suc (suc (suc (suc (suc (suc (suc (suc zero))))))))))))))) least most = told_15
each_1 (suc (suc (suc (suc (suc (suc (suc (suc (suc (suc (suc (suc (suc (suc (suc (suc zero)))))))))))))))) least most = told_16
each_1 (suc (suc (suc (suc (suc (suc (suc (suc (suc (suc (suc (suc (suc (suc (suc (suc (suc n))))))))))))))))) least most = absurd (omega (arith, most))

kind_of_1 : (kind : ℕ) → has_kind 1 kind ≡ true → (1 ≤ kind) × (kind ≤ 16)
kind_of_1 kind e = (grind (arith, e), grind (arith, e))

version_least : (version : ℕ) → has_version version ≡ true → version ≤ 1
version_least version e = grind (arith, e)

pub each_told : (version kind : ℕ) → has_version version ≡ true → has_kind version kind ≡ true → Told version kind
each_told zero kind is known = absurd cc
each_told (suc zero) kind is known = let range = kind_of_1 kind known in each_1 kind range.0 range.1
each_told (suc (suc version)) kind is known = absurd (omega (arith, version_least (suc (suc version)) is))

pub frame_again : (m : Msg) → Fits m → frame_at (frame_of m) ≡ Ok m
unfolding frame_of Fits body_at
frame_again (says.Report train time mark offset integrity) fits = again 1 1 report 19 report_lawful report_of (λ bytes. refl) refl refl (train, (time, (mark, (offset, integrity)))) fits
frame_again (says.Reading section time free) fits = again 1 2 reading 11 reading_lawful reading_of (λ bytes. refl) refl refl (section, (time, free)) fits
frame_again (says.Time time train) fits = again 1 3 time_told 10 time_told_lawful time_told_of (λ bytes. refl) refl refl (time, train) fits
frame_again (says.EntryAsk train time length error speed equipped step) fits = again 1 4 entry_ask 23 entry_ask_lawful entry_ask_of (λ bytes. refl) refl refl (train, (time, ((length, (error, (speed, equipped))), step))) fits
frame_again (says.Ask train time steps to) fits = again 1 5 ask 63 ask_lawful ask_of (λ bytes. refl) refl refl (train, (time, (steps, to))) fits
frame_again (says.Answer train time number taken) fits = again 1 6 answer 15 answer_lawful answer_of (λ bytes. refl) refl refl (train, (time, (number, taken))) fits
frame_again (says.Gone train time) fits = again 1 7 gone 10 gone_lawful gone_of (λ bytes. refl) refl refl (train, time) fits
frame_again (says.Echo switch time number position) fits = again 1 8 echo 15 echo_lawful echo_of (λ bytes. refl) refl refl (switch, (time, (number, position))) fits
frame_again (says.Order time order) fits = again 1 9 order_told 17 order_told_lawful order_told_of (λ bytes. refl) refl refl (time, order) fits
frame_again (says.Auth train number mark path) fits = again 1 10 auth 67 auth_lawful auth_of (λ bytes. refl) refl refl (train, (number, (mark, path))) fits
frame_again (says.SwitchCmd switch number position) fits = again 1 11 switch_cmd 7 switch_cmd_lawful switch_cmd_of (λ bytes. refl) refl refl (switch, (number, position)) fits
frame_again (says.LendAsk train number steps to) fits = again 1 12 lend_ask 59 lend_ask_lawful lend_ask_of (λ bytes. refl) refl refl (train, (number, (steps, to))) fits
frame_again (says.Lend train number lent path) fits = again 1 13 lend 67 lend_lawful lend_of (λ bytes. refl) refl refl (train, (number, (lent, path))) fits
frame_again (says.Return train lent kept) fits = again 1 14 returned 64 returned_lawful returned_of (λ bytes. refl) refl refl (train, (lent, kept)) fits
frame_again (says.Hand h) fits = again 1 15 hand 110 hand_lawful handed_of (λ bytes. refl) refl refl h fits
frame_again (says.Seen train what number) fits = again 1 16 seen_told 7 seen_told_lawful seen_told_of (λ bytes. refl) refl refl (train, (what, number)) fits

abbrev done : Msg → Result Msg FrameFault
done m = Ok m

abbrev failed : FrameFault → Result Msg FrameFault
failed d = Err d

no_fault : (m : Msg) (d : FrameFault) → done m ≡ failed d → ⊥
no_fault m d e = cc

-- what a whole frame is read from
whole_ok : (total : ℕ) (read : Result (Msg × List ℕ) Unread) (m : Msg) → whole total read ≡ Ok m → read ≡ Ok (m, [])
whole_ok total (Ok (n, [])) m e = cc
whole_ok total (Ok (n, b ∷ rest)) m e = absurd cc
whole_ok total (Err unread) m e = absurd cc

are_rest : (a b : ℕ) (bytes : List ℕ) → IsBytes (a ∷ b ∷ bytes) → IsBytes bytes
are_rest a b bytes h i = h (suc (suc i))

pub frame_takes : (bytes : List ℕ) (m : Msg) → IsBytes bytes → frame_at bytes ≡ Ok m → Fits m × (bytes ≡ frame_of m)
unfolding frame_at
frame_takes [] m are e = absurd cc
frame_takes (version ∷ []) m are e =
    elim (chosen (has_version version) (Err faults.Short) (Err faults.Version) (Ok m) e) [
      | inl h ↦ absurd (no_fault m faults.Short (sym h.1))
      | inr h ↦ absurd (no_fault m faults.Version (sym h.1))
    ]
frame_takes (version ∷ kind ∷ rest) m are e =
    elim (chosen (has_version version) (cond (has_kind version kind) (whole (length rest + 2) (body_at version kind rest)) (Err faults.Kind)) (Err faults.Version) (Ok m) e) [
      | inl h ↦ elim (chosen (has_kind version kind) (whole (length rest + 2) (body_at version kind rest)) (Err faults.Kind) (Ok m) h.1) [
        | inl g ↦
            let t = (each_told version kind h.0 g.0).takes rest m [] (are_rest version kind rest are) (whole_ok (length rest + 2) (body_at version kind rest) m g.1) in
            (t.1, t.0 ∙ append-nil (frame_of m))
        | inr g ↦ absurd (no_fault m faults.Kind (sym g.1))
      ]
      | inr h ↦ absurd (no_fault m faults.Version (sym h.1))
    ]

pub is_found : (bytes : List ℕ) (r : Result Msg FrameFault) → IsBytes bytes → r ≡ frame_at bytes → IfOk r (λ m. Fits m × (bytes ≡ frame_of m))
is_found bytes (Ok m) are e = frame_takes bytes m are (sym e)
is_found bytes (Err f) are e = tt

-- the place of a field out of its range fits a byte
pub is_placed : (version kind : ℕ) (bytes : List ℕ) (unread : Unread) (total : ℕ) → IsBytes bytes → has_version version ≡ true → has_kind version kind ≡ true → total ≡ length bytes + 2 → body_at version kind bytes ≡ Err unread → IsPlaced total unread
is_placed version kind bytes Short total are is known long e = tt
is_placed version kind bytes (Out left) total are is known long e = let n = (each_told version kind is known).far bytes left are e in (omega (arith, n.within, long), omega (arith, n.near, long))

-- no two messages in range have one frame
done_is : (m n : Msg) → done m ≡ done n → m ≡ n
done_is m n e = cc

pub frame_alone : (m n : Msg) → Fits m → Fits n → frame_of m ≡ frame_of n → m ≡ n
frame_alone m n fits fit e = done_is m n (sym (frame_again m fits) ∙ ap frame_at e ∙ frame_again n fit)
