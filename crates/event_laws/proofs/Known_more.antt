-- The trains that a zone knows: one more where it grants an entry, and the same where it does not.
use Rattle.std.proofs.Common.{◌≡◌, ℕ, zero, suc, ◌<◌, ◌≤◌, max, Bool, true, false, ◌||◌, List, [], ◌∷◌, ◌++◌, Option, Some, refl, sym, ◌∙◌, ap, subst, arith, nat_eq, nat_lt}
use Rattle.std.specs.Prelude.{filter}
use Rattle.std.specs.List.{list_any, list_all}
use Rattle.std.proofs.lemmas.Bool.{eqb-true, or_right, and_parts}
use Rattle.std.proofs.lemmas.Bool.Decides.{nat_tests}
use Rattle.std.proofs.lemmas.List.{append-nil}
use Rattle.std.proofs.lemmas.List.Elements.{filter-append, filter_agree}
use Rattle.std.proofs.lemmas.List.Folds.{list_any-append, list_all-append}
use Rattle.list_laws.proofs.Placed.{placed, placed_last, placed_before}
use Rattle.list_laws.proofs.By_test.{by_test}
use Rattle.definitions.specs.declared.message.Msg.{Msg}
use Rattle.definitions.specs.declared.message.Msg.TheVariants as msg
use Rattle.definitions.specs.Numbers.{numbers_below}
use Rattle.definitions.specs.Story.{Transition, Story, ever}
use Rattle.definitions.specs.Control.{grants_entry, asks_entry, asker, controls, knows, greatest_known, known_trains}
use Rattle.event_laws.proofs.Controls_same.{controls_knows}

-- Numbers that pass, ascending.

filter_none : (f : ℕ → Bool) → filter f (numbers_below 0) ≡ []
unfolding numbers_below
filter_none f = refl

filter_yes : (f : ℕ → Bool) (n : ℕ) → f n ≡ true → filter f (numbers_below (suc n)) ≡ filter f (numbers_below n) ++ n ∷ []
unfolding numbers_below
filter_yes f n h = filter-append f (numbers_below n) (n ∷ []) ∙ rw h refl

filter_no : (f : ℕ → Bool) (n : ℕ) → f n ≡ false → filter f (numbers_below (suc n)) ≡ filter f (numbers_below n)
unfolding numbers_below
filter_no f n h = filter-append f (numbers_below n) (n ∷ []) ∙ rw h (append-nil (filter f (numbers_below n)))

same_below : (f g : ℕ → Bool) (n : ℕ) → ((k : ℕ) → k < n → f k ≡ g k) → filter f (numbers_below n) ≡ filter g (numbers_below n)
same_below f g zero e = filter_none f ∙ sym (filter_none g)
same_below f g (suc n) e =
    let rest = same_below f g n (λ k h. e k (omega arith)) in
    let here = e n (omega arith) in
    by_test (f n)
    (λ y. filter_yes f n y ∙ (ap (λ (xs : List ℕ). xs ++ n ∷ []) rest ∙ sym (filter_yes g n (sym here ∙ y))))
    (λ z. filter_no f n z ∙ (rest ∙ sym (filter_no g n (sym here ∙ z))))

-- numbers that do not pass may follow
more_below : (f : ℕ → Bool) (n m : ℕ) → n ≤ m → ((k : ℕ) → n ≤ k → f k ≡ false) → filter f (numbers_below m) ≡ filter f (numbers_below n)
more_below f n zero h none = let e : n ≡ 0 = omega arith in rw e refl
more_below f n (suc m) h none = by_test (nat_eq n (suc m))
    (λ y. let e : n ≡ suc m = grind (arith, nat_tests) in rw e refl)
    (λ z. let le : n ≤ m = grind (arith, nat_tests) in filter_no f m (none m le) ∙ more_below f n m le none)

all_below : (f : ℕ → Bool) (n u : ℕ) → n ≤ u → list_all (λ x. nat_lt x u) (filter f (numbers_below n)) ≡ true
all_below f zero u h = rw (filter_none f) refl
all_below f (suc n) u h =
    let rest = all_below f n u (omega arith) in
    let lt : nat_lt n u ≡ true = grind (arith, nat_tests) in
    by_test (f n)
    (λ y. rw (filter_yes f n y, list_all-append (λ x. nat_lt x u) (filter f (numbers_below n)) (n ∷ []), rest, lt) refl)
    (λ z. rw (filter_no f n z) rest)

-- one number more that passes
filter_more : (f : ℕ → Bool) (u n : ℕ) → u < n → f u ≡ false → filter (λ t. nat_eq u t || f t) (numbers_below n) ≡ placed u (filter f (numbers_below n))
filter_more f u zero h fresh = absurd (omega arith)
filter_more f u (suc n) h fresh =
    let g : ℕ → Bool = λ t. nat_eq u t || f t in
    by_test (nat_eq u n)
    (λ y.
    let e : u ≡ n = eqb-true u n y in
    let old : f n ≡ false = subst (λ (k : ℕ). f k ≡ false) e fresh in
    let new : g n ≡ true = rw y refl in
    filter_yes g n new
    ∙ (ap (λ (xs : List ℕ). xs ++ n ∷ []) (same_below g f n (λ k lt. let away : nat_eq u k ≡ false = grind (arith, nat_tests) in rw away refl))
    ∙ (ap (λ (k : ℕ). filter f (numbers_below n) ++ k ∷ []) (sym e)
    ∙ (sym (placed_last u (filter f (numbers_below n)) (all_below f n u (omega arith)))
    ∙ sym (ap (λ (xs : List ℕ). placed u xs) (filter_no f n old))))))
    (λ z.
    let lt : u < n = grind (arith, nat_tests) in
    let rest = filter_more f u n lt fresh in
    by_test (f n)
    (λ y.
    let new : g n ≡ true = rw (z, y) refl in
    filter_yes g n new
    ∙ (ap (λ (xs : List ℕ). xs ++ n ∷ []) rest
    ∙ (sym (placed_before u n (filter f (numbers_below n)) lt)
    ∙ sym (ap (λ (xs : List ℕ). placed u xs) (filter_yes f n y)))))
    (λ x.
    let new : g n ≡ false = rw (z, x) refl in
    filter_no g n new ∙ (rest ∙ sym (ap (λ (xs : List ℕ). placed u xs) (filter_no f n x)))))

-- what passes is among them
abbrev pub is_among : ℕ → List ℕ → Bool
is_among u xs = list_any (λ v. nat_eq v u) xs

among_below : (f : ℕ → Bool) (u n : ℕ) → u < n → f u ≡ true → is_among u (filter f (numbers_below n)) ≡ true
among_below f u zero h y = absurd (omega arith)
among_below f u (suc n) h y = by_test (nat_eq u n)
    (λ e.
    let same : u ≡ n = eqb-true u n e in
    let passes : f n ≡ true = subst (λ (k : ℕ). f k ≡ true) same y in
    let here : nat_eq n u ≡ true = grind (arith, nat_tests) in
    rw (filter_yes f n passes, list_any-append (λ v. nat_eq v u) (filter f (numbers_below n)) (n ∷ []), here) (or_right (is_among u (filter f (numbers_below n))) true refl))
    (λ z.
    let rest = among_below f u n (grind (arith, nat_tests)) y in
    by_test (f n)
    (λ x. rw (filter_yes f n x, list_any-append (λ v. nat_eq v u) (filter f (numbers_below n)) (n ∷ []), rest) refl)
    (λ x. rw (filter_no f n x) rest))

-- Whom a zone knows.

asker_is : (u : ℕ) (took : Option (ℕ × Msg)) → asks_entry u took ≡ true → asker took ≡ u
asker_is u (Some (from, msg.EntryAsk v time long error speed equipped step)) h = eqb-true v.0 u h
asker_is u _ h = absurd cc

pub asked_by : (z u : ℕ) (e : Transition) → grants_entry z u e ≡ true → asker e.took ≡ u
asked_by z u e h = asker_is u e.took (and_parts (asks_entry u e.took) _ (and_parts (nat_eq e.actor z) _ h).1).0

-- an entry is granted to the train that asked
grants_asker : (z u : ℕ) (e : Transition) → grants_entry z u e ≡ true → grants_entry z (asker e.took) e ≡ true
grants_asker z u e h = subst (λ (n : ℕ). grants_entry z n e ≡ true) (sym (asked_by z u e h)) h

known_small : (z t : ℕ) (s : Story) → knows z t s ≡ true → t ≤ greatest_known z s
unfolding ever greatest_known
known_small z t [] h = absurd cc
known_small z t (e ∷ s) h = by_test (grants_entry z t e)
    (λ y. let same = asked_by z t e y in rw (grants_asker z t e y) (omega arith))
    (λ n.
    let old = known_small z t s (rw n at h) in
    by_test (grants_entry z (asker e.took) e) (λ y. rw y (omega arith)) (λ m. rw m old))

none_above : (z : ℕ) (s : Story) (k : ℕ) → greatest_known z s < k → knows z k s ≡ false
none_above z s k h = by_test (knows z k s) (λ y. let l = known_small z k s y in absurd (omega arith)) (λ n. n)

-- whoever controls a train knows it
pub controls_known : (z u : ℕ) (s : Story) → controls z u s ≡ true → is_among u (known_trains z s) ≡ true
controls_known z u s h =
    let known : knows z u s ≡ true = sym (controls_knows z u s) ∙ h in
    let l = known_small z u s known in
    among_below (λ t. knows z t s) u (suc (greatest_known z s)) (omega arith) known

granted_alone : (z t : ℕ) (e : Transition) → grants_entry z (asker e.took) e ≡ true → grants_entry z t e ≡ nat_eq (asker e.took) t
granted_alone z t e h = by_test (nat_eq (asker e.took) t)
    (λ y. rw y (subst (λ (n : ℕ). grants_entry z n e ≡ true) (eqb-true (asker e.took) t y) h))
    (λ n. by_test (grants_entry z t e)
    (λ g. absurd (let same = asked_by z t e g in let y : nat_eq (asker e.took) t ≡ true = grind (arith, nat_tests) in cc))
    (λ g. rw (n, g) refl))

not_granted : (z t : ℕ) (e : Transition) → grants_entry z (asker e.took) e ≡ false → grants_entry z t e ≡ false
not_granted z t e h = by_test (grants_entry z t e) (λ g. absurd (let y = grants_asker z t e g in cc)) (λ n. n)

pub known_more : (z : ℕ) (x : Transition) (s : Story) → grants_entry z (asker x.took) x ≡ true → knows z (asker x.took) s ≡ false → known_trains z (x ∷ s) ≡ placed (asker x.took) (known_trains z s)
unfolding ever greatest_known
known_more z x s h fresh =
    let u = asker x.took in
    let most = greatest_known z s in
    rw h
    (filter_agree (λ t. grants_entry z t x || knows z t s) (λ t. nat_eq u t || knows z t s) (λ t. ap (λ (b : Bool). b || knows z t s) (granted_alone z t x h)) (numbers_below (suc (max u most)))
    ∙ (filter_more (λ t. knows z t s) u (suc (max u most)) (omega arith) fresh
    ∙ ap (λ (xs : List ℕ). placed u xs) (more_below (λ t. knows z t s) (suc most) (suc (max u most)) (omega arith) (λ k le. none_above z s k (omega arith)))))

pub known_still : (z : ℕ) (x : Transition) (s : Story) → grants_entry z (asker x.took) x ≡ false → known_trains z (x ∷ s) ≡ known_trains z s
unfolding ever greatest_known
known_still z x s h =
    rw h (filter_agree (λ t. grants_entry z t x || knows z t s) (λ t. knows z t s) (λ t. ap (λ (b : Bool). b || knows z t s) (not_granted z t x h)) (numbers_below (suc (greatest_known z s))))
