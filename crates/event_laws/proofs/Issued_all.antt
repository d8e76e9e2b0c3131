-- What holds of every message that was issued.
use Rattle.std.proofs.Common.{◌≡◌, ℕ, zero, suc, List, [], ◌∷◌, ◌++◌, Some, Bool, true, false, refl, sym, ◌∙◌, subst}
use Rattle.std.specs.Prelude.{nat_eq, slice_get}
use Rattle.std.specs.List.{list_any}
use Rattle.std.proofs.lemmas.Bool.{or_parts}
use Rattle.std.proofs.lemmas.Option.{same_Some}
use Rattle.list_laws.proofs.By_test.{by_test}
use Rattle.definitions.specs.declared.message.Msg.{Msg}
use Rattle.definitions.specs.declared.message.Msg.TheVariants as msg
use Rattle.definitions.specs.Story.{Story, to_actor, sent, ever_issued}
use Rattle.definitions.specs.World.{Authority, is_auth}

unfoldable pub AllIn : (Msg → Type 0) → List (ℕ × Msg) → Type 0
AllIn P [] = Unit {0}
AllIn P (x ∷ issued) = P x.1 × AllIn P issued

unfoldable pub AllIssued : (Msg → Type 0) → Story → Type 0
AllIssued P [] = Unit {0}
AllIssued P (e ∷ s) = AllIn P e.issued × AllIssued P s

-- none is an authority of the train
abbrev pub NoAuth : ℕ → List (ℕ × Msg) → Type 0
NoAuth t issued = AllIn (λ m. is_auth t m ≡ false) issued

pub no_issue : (t : ℕ) (issued : List (ℕ × Msg)) → issued ≡ [] → NoAuth t issued
unfolding AllIn
no_issue t issued h = rw h tt

-- a property of each authority of a train
abbrev pub AuthHas : (Authority → Type 0) → ℕ → Msg → Type 0
AuthHas Q t (msg.Auth u number mark path) = nat_eq u.0 t ≡ true → Q (record { mark = mark; path = path })
AuthHas Q t _ = Unit {0}

-- of another message than an authority of the train all holds
pub auth_without : (Q : Authority → Type 0) (t : ℕ) (m : Msg) → is_auth t m ≡ false → AuthHas Q t m
auth_without Q t (msg.Auth u number mark path) h = λ y. absurd (let c : true ≡ false = sym y ∙ h in cc)
auth_without Q t _ h = tt

-- nothing, or one message that has a property
pub data AtMostOne (P : ℕ × Msg → Type 0) (issued : List (ℕ × Msg)) : Type 0 where
  says_nothing : issued ≡ [] → AtMostOne P issued
  says_one : (x : ℕ × Msg) → issued ≡ x ∷ [] → P x → AtMostOne P issued

pub each_issued : (P : ℕ × Msg → Type 0) (Q : Msg → Type 0) → ((x : ℕ × Msg) → P x → Q x.1) → (issued : List (ℕ × Msg)) → AtMostOne P issued → AllIn Q issued
unfolding AllIn
each_issued P Q w issued (says_nothing h) = rw h tt
each_issued P Q w issued (says_one x h p) = rw h (w x p, tt)

-- Of each message of a link.

unfoldable Each : (Msg → Type 0) → List Msg → Type 0
Each P [] = Unit {0}
Each P (m ∷ ms) = P m × Each P ms

each_joined : (P : Msg → Type 0) (xs ys : List Msg) → Each P xs → Each P ys → Each P (xs ++ ys)
unfolding Each
each_joined P [] ys a b = b
each_joined P (m ∷ xs) ys a b = (a.0, each_joined P xs ys a.1 b)

each_at : (P : Msg → Type 0) (xs : List Msg) (k : ℕ) (m : Msg) → Each P xs → slice_get xs k ≡ Some m → P m
unfolding Each
each_at P [] k m a h = absurd cc
each_at P (x ∷ xs) zero m a h = subst P (same_Some x m h) a.0
each_at P (x ∷ xs) (suc k) m a h = each_at P xs k m a.1 h

each_to : (P : Msg → Type 0) (to : ℕ) (issued : List (ℕ × Msg)) → AllIn P issued → Each P (to_actor to issued)
unfolding AllIn Each to_actor
each_to P to [] a = a
each_to P to (x ∷ issued) a = by_test (nat_eq x.0 to)
    (λ y. rw y (a.0, each_to P to issued a.1))
    (λ n. rw n (each_to P to issued a.1))

each_sent : (P : Msg → Type 0) (from to : ℕ) (s : Story) → AllIssued P s → Each P (sent from to s)
unfolding AllIssued Each sent
each_sent P from to [] a = tt
each_sent P from to (e ∷ s) a = by_test (nat_eq e.actor from)
    (λ y. rw y (each_joined P (sent from to s) (to_actor to e.issued) (each_sent P from to s a.1) (each_to P to e.issued a.0)))
    (λ n. rw n (each_sent P from to s a.1))

pub issued_all : (P : Msg → Type 0) (from to : ℕ) (s : Story) (k : ℕ) (m : Msg) → AllIssued P s → slice_get (sent from to s) k ≡ Some m → P m
issued_all P from to s k m a h = each_at P (sent from to s) k m (each_sent P from to s a) h

-- Of what is weaker.

pub in_all_weaker : (P Q : Msg → Type 0) → ((m : Msg) → P m → Q m) → (issued : List (ℕ × Msg)) → AllIn P issued → AllIn Q issued
unfolding AllIn
in_all_weaker P Q w [] a = a
in_all_weaker P Q w (x ∷ issued) a = (w x.1 a.0, in_all_weaker P Q w issued a.1)

pub all_weaker : (P Q : Msg → Type 0) → ((m : Msg) → P m → Q m) → (s : Story) → AllIssued P s → AllIssued Q s
unfolding AllIssued
all_weaker P Q w [] a = a
all_weaker P Q w (e ∷ s) a = (in_all_weaker P Q w e.issued a.0, all_weaker P Q w s a.1)

-- Of two things that hold.

in_both : (P Q : Msg → Type 0) (issued : List (ℕ × Msg)) → AllIn P issued → AllIn Q issued → AllIn (λ m. P m × Q m) issued
unfolding AllIn
in_both P Q [] a b = tt
in_both P Q (x ∷ issued) a b = ((a.0, b.0), in_both P Q issued a.1 b.1)

pub all_both : (P Q : Msg → Type 0) (s : Story) → AllIssued P s → AllIssued Q s → AllIssued (λ m. P m × Q m) s
unfolding AllIssued
all_both P Q [] a b = tt
all_both P Q (e ∷ s) a b = (in_both P Q e.issued a.0 b.0, all_both P Q s a.1 b.1)

-- Of a test.

pub in_all_false : (test : Msg → Bool) (issued : List (ℕ × Msg)) → list_any (λ (x : ℕ × Msg). test x.1) issued ≡ false → AllIn (λ m. test m ≡ false) issued
unfolding AllIn
in_all_false test [] h = tt
in_all_false test (x ∷ issued) h =
    let k = or_parts (test x.1) (list_any (λ (x : ℕ × Msg). test x.1) issued) h in (k.0, in_all_false test issued k.1)

pub in_false_all : (test : Msg → Bool) (issued : List (ℕ × Msg)) → AllIn (λ m. test m ≡ false) issued → list_any (λ (x : ℕ × Msg). test x.1) issued ≡ false
unfolding AllIn
in_false_all test [] a = refl
in_false_all test (x ∷ issued) a = let h = a.0 in rw h (in_false_all test issued a.1)

all_false : (test : Msg → Bool) (s : Story) → ever_issued test s ≡ false → AllIssued (λ m. test m ≡ false) s
unfolding AllIssued ever_issued
all_false test [] h = tt
all_false test (e ∷ s) h =
    let k = or_parts (list_any (λ (x : ℕ × Msg). test x.1) e.issued) (ever_issued test s) h in (in_all_false test e.issued k.0, all_false test s k.1)

false_all : (test : Msg → Bool) (s : Story) → AllIssued (λ m. test m ≡ false) s → ever_issued test s ≡ false
unfolding AllIssued ever_issued
false_all test [] a = refl
false_all test (e ∷ s) a = let h = in_false_all test e.issued a.0 in rw h (false_all test s a.1)
