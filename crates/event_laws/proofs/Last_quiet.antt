-- The last number issued of a train's authorities: a transition that issues none leaves it, and none goes back.
use Rattle.std.proofs.Common.{◌≡◌, ℕ, ◌≤◌, List, [], ◌∷◌, true, false, refl, arith}
use Rattle.std.specs.Prelude.{nat_eq}
use Rattle.list_laws.proofs.By_test.{by_test}
use Rattle.definitions.specs.declared.message.Msg.{Msg}
use Rattle.definitions.specs.declared.message.Msg.TheVariants as msg
use Rattle.definitions.specs.Story.{Transition, Story, greatest_in, greatest_issued}
use Rattle.definitions.specs.World.{is_auth, auth_number}
use Rattle.event_laws.proofs.Issued_all.{AllIn, AllIssued, NoAuth}

pub number_none : (t : ℕ) (m : Msg) → is_auth t m ≡ false → auth_number t m ≡ 0
number_none t (msg.Auth u number mark path) h = rw h refl
number_none t _ h = refl

pub greatest_none : (t : ℕ) (issued : List (ℕ × Msg)) → NoAuth t issued → greatest_in (auth_number t) issued ≡ 0
unfolding AllIn greatest_in
greatest_none t [] h = refl
greatest_none t (x ∷ issued) h = rw (number_none t x.1 h.0, greatest_none t issued h.1) refl

pub last_quiet : (t : ℕ) (e : Transition) (s : Story) → NoAuth t e.issued → greatest_issued (auth_number t) (e ∷ s) ≡ greatest_issued (auth_number t) s
unfolding greatest_issued
last_quiet t e s h = let z = greatest_none t e.issued h in omega (arith, z)

pub last_grows : (t : ℕ) (e : Transition) (s : Story) → greatest_issued (auth_number t) s ≤ greatest_issued (auth_number t) (e ∷ s)
unfolding greatest_issued
last_grows t e s = omega arith

-- where each number is at least 1 and the last is 0, no authority was issued
abbrev pub Numbered : ℕ → Msg → Type 0
Numbered t (msg.Auth u number mark path) = nat_eq u.0 t ≡ true → 1 ≤ number
Numbered t _ = Unit {0}

unnumbered : (t : ℕ) (m : Msg) → Numbered t m → auth_number t m ≡ 0 → is_auth t m ≡ false
unnumbered t (msg.Auth u number mark path) h z = by_test (nat_eq u.0 t)
    (λ y. absurd (let one = h y in let none : number ≡ 0 = rw y at z in omega (arith, one, none)))
    (λ n. n)
unnumbered t _ h z = refl

in_unnumbered : (t : ℕ) (issued : List (ℕ × Msg)) → AllIn (Numbered t) issued → greatest_in (auth_number t) issued ≡ 0 → NoAuth t issued
unfolding AllIn greatest_in
in_unnumbered t [] h z = tt
in_unnumbered t (x ∷ issued) h z = (unnumbered t x.1 h.0 (omega arith), in_unnumbered t issued h.1 (omega arith))

pub none_issued : (t : ℕ) (s : Story) → AllIssued (Numbered t) s → greatest_issued (auth_number t) s ≡ 0 → AllIssued (λ m. is_auth t m ≡ false) s
unfolding AllIssued greatest_issued
none_issued t [] h z = tt
none_issued t (e ∷ s) h z = (in_unnumbered t e.issued h.0 (omega arith), none_issued t s h.1 (omega arith))
