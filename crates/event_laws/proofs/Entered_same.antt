-- The notions of a story, without their recursions.
use Rattle.std.proofs.Common.{◌≡◌, ℕ, ◌≤◌, List, [], ◌∷◌, Option, Some, None, Bool, true, false, refl, sym, ◌∙◌, arith}
use Rattle.std.proofs.lemmas.Bool.Decides.{nat_tests}
use Rattle.std.proofs.lemmas.List.Folds.{list_any-append}
use Rattle.std.proofs.lemmas.Map.Keys.{any_passes_from_place}
use Rattle.std.specs.Prelude.{nat_eq, nat_le, slice_get}
use Rattle.std.specs.List.{list_any}
use Rattle.std.proofs.lemmas.Bool.{or_left, or_right}
use Rattle.list_laws.proofs.By_test.{by_or, by_test}
use Rattle.definitions.specs.declared.message.Msg.{Msg}
use Rattle.definitions.specs.Story.{Transition, Story, or_else, to_actor, sent, ever_issued, greatest_in, greatest_issued, ever, first_told}
use Rattle.definitions.specs.World.{enters, entered}

-- What went out on a link was issued.

pub to_actor_any : (test : Msg → Bool) (to : ℕ) (issued : List (ℕ × Msg)) → list_any test (to_actor to issued) ≡ true → list_any (λ (x : ℕ × Msg). test x.1) issued ≡ true
unfolding to_actor
to_actor_any test to [] h = h
to_actor_any test to (x ∷ issued) h = by_test (nat_eq x.0 to)
    (λ y. by_or (test x.1) (list_any test (to_actor to issued)) (rw y at h)
    (λ a. or_left (test x.1) (list_any (λ (x : ℕ × Msg). test x.1) issued) a)
    (λ b. or_right (test x.1) (list_any (λ (x : ℕ × Msg). test x.1) issued) (to_actor_any test to issued b)))
    (λ n. or_right (test x.1) (list_any (λ (x : ℕ × Msg). test x.1) issued) (to_actor_any test to issued (rw n at h)))

pub sent_any : (test : Msg → Bool) (from to : ℕ) (s : Story) → list_any test (sent from to s) ≡ true → ever_issued test s ≡ true
unfolding sent ever_issued
sent_any test from to [] h = h
sent_any test from to (e ∷ s) h = by_test (nat_eq e.actor from)
    (λ y. by_or (list_any test (sent from to s)) (list_any test (to_actor to e.issued)) (sym (list_any-append test (sent from to s) (to_actor to e.issued)) ∙ (rw y at h))
    (λ a. or_right (list_any (λ (x : ℕ × Msg). test x.1) e.issued) (ever_issued test s) (sent_any test from to s a))
    (λ b. or_left (list_any (λ (x : ℕ × Msg). test x.1) e.issued) (ever_issued test s) (to_actor_any test to e.issued b)))
    (λ n. or_right (list_any (λ (x : ℕ × Msg). test x.1) e.issued) (ever_issued test s) (sent_any test from to s (rw n at h)))

-- a message of a link that passes was issued
pub was_issued : (test : Msg → Bool) (from to : ℕ) (s : Story) (k : ℕ) (m : Msg) → slice_get (sent from to s) k ≡ Some m → test m ≡ true → ever_issued test s ≡ true
was_issued test from to s k m h e = sent_any test from to s (any_passes_from_place test (sent from to s) k m h e)

-- Greatest numbers.

pub in_most : (number : Msg → ℕ) (n : ℕ) (issued : List (ℕ × Msg)) → list_any (λ (x : ℕ × Msg). nat_le n (number x.1)) issued ≡ true → n ≤ greatest_in number issued
unfolding greatest_in
in_most number n [] h = absurd cc
in_most number n (x ∷ issued) h = by_test (nat_le n (number x.1))
    (λ y. grind (arith, nat_tests))
    (λ e. let r = in_most number n issued (rw e at h) in omega arith)

pub ever_most : (number : Msg → ℕ) (n : ℕ) (s : Story) → ever_issued (λ m. nat_le n (number m)) s ≡ true → n ≤ greatest_issued number s
unfolding ever_issued greatest_issued
ever_most number n [] h = absurd cc
ever_most number n (e ∷ s) h = by_test (list_any (λ (x : ℕ × Msg). nat_le n (number x.1)) e.issued)
    (λ y. let r = in_most number n e.issued y in omega arith)
    (λ x. let r = ever_most number n s (rw x at h) in omega arith)

-- the number of a message of a link is at most the greatest that was issued
pub number_most : (number : Msg → ℕ) (from to : ℕ) (s : Story) (k : ℕ) (m : Msg) → slice_get (sent from to s) k ≡ Some m → number m ≤ greatest_issued number s
number_most number from to s k m h = ever_most number (number m) s (was_issued (λ x. nat_le (number m) (number x)) from to s k m h (grind (arith, nat_tests)))

-- a stronger test never passed where a weaker one never did
pub in_weaker : (f g : Msg → Bool) → ((m : Msg) → f m ≡ true → g m ≡ true) → (issued : List (ℕ × Msg)) → list_any (λ (x : ℕ × Msg). f x.1) issued ≡ true → list_any (λ (x : ℕ × Msg). g x.1) issued ≡ true
in_weaker f g w [] h = h
in_weaker f g w (x ∷ issued) h = by_or (f x.1) (list_any (λ (x : ℕ × Msg). f x.1) issued) h
    (λ a. or_left (g x.1) (list_any (λ (x : ℕ × Msg). g x.1) issued) (w x.1 a))
    (λ b. or_right (g x.1) (list_any (λ (x : ℕ × Msg). g x.1) issued) (in_weaker f g w issued b))

pub ever_weaker : (f g : Msg → Bool) → ((m : Msg) → f m ≡ true → g m ≡ true) → (s : Story) → ever_issued f s ≡ true → ever_issued g s ≡ true
unfolding ever_issued
ever_weaker f g w [] h = h
ever_weaker f g w (e ∷ s) h = by_or (list_any (λ (x : ℕ × Msg). f x.1) e.issued) (ever_issued f s) h
    (λ a. or_left (list_any (λ (x : ℕ × Msg). g x.1) e.issued) (ever_issued g s) (in_weaker f g w e.issued a))
    (λ b. or_right (list_any (λ (x : ℕ × Msg). g x.1) e.issued) (ever_issued g s) (ever_weaker f g w s b))

-- What was told first.

-- what was told first stays
pub told_stays : {A : Type 0} (tells : Transition → Option A) (e : Transition) (s : Story) (x : A) → first_told tells s ≡ Some x → first_told tells (e ∷ s) ≡ Some x
unfolding first_told
told_stays tells e s x h = rw h refl

pub told_now : {A : Type 0} (tells : Transition → Option A) (e : Transition) (s : Story) → first_told tells s ≡ None → first_told tells (e ∷ s) ≡ tells e
unfolding first_told
told_now tells e s h = rw h refl

pub or_none : {A : Type 0} (x : Option A) → or_else x None ≡ x
or_none None = refl
or_none (Some x) = refl

pub same_told : {A : Type 0} (tells : Transition → Option A) (e : Transition) (s : Story) → tells e ≡ None → first_told tells (e ∷ s) ≡ first_told tells s
unfolding first_told
same_told tells e s h = rw h (or_none (first_told tells s))

-- Entries that do not pass leave a test as it was, and so do issued messages that do not.

pub ever_same : (test : Transition → Bool) (e : Transition) (s : Story) → test e ≡ false → ever test (e ∷ s) ≡ ever test s
unfolding ever
ever_same test e s h = rw h refl

pub ever_now : (test : Transition → Bool) (e : Transition) (s : Story) → test e ≡ true → ever test (e ∷ s) ≡ true
unfolding ever
ever_now test e s h = rw h refl

pub ever_stays : (test : Transition → Bool) (e : Transition) (s : Story) → ever test s ≡ true → ever test (e ∷ s) ≡ true
unfolding ever
ever_stays test e s h = or_right (test e) (ever test s) h

pub entered_same : (t : ℕ) (e : Transition) (s : Story) → enters t e.event ≡ false → entered t (e ∷ s) ≡ entered t s
entered_same t e s h = ever_same (λ (x : Transition). enters t x.event) e s h
