-- Walks over trains, by one train more.
use Rattle.std.proofs.Common.{◌≡◌, ℕ, ◌+◌, ◌<◌, min, Bool, List, [], ◌∷◌, ◌++◌, length, take, get_or, Option, Some, None, if◌then◌else◌, refl, sym, ap, ◌∙◌, arith, nat_eq, add-one}
use Rattle.std.proofs.Math.Seq.{take-suc}
use Rattle.list_laws.proofs.By_test.{by_test}
use Rattle.track_points.specs.declared.ids.DirSeg.{DirSeg}
use Rattle.track_points.specs.Points.{Lengths}
use Rattle.definitions.specs.Authority.{less_of}
use Rattle.plain_state.specs.declared.Controlled.{Controlled}
use Rattle.plain_state.specs.Zone.{least_train}
use Rattle.zone_reach.specs.Held.{near_train, near_trains}

-- one more of a list
taken_more : (xs : List Controlled) (i : ℕ) (x : Controlled) → i < length xs → x ≡ get_or xs i x → take (i + 1) xs ≡ take i xs ++ x ∷ []
taken_more xs i x l e = ap (λ (n : ℕ). take n xs) (add-one i) ∙ (take-suc xs i x l ∙ ap (λ (y : Controlled). take i xs ++ y ∷ []) (sym e))

near_last : (len : Lengths) (t : ℕ) (xs : List Controlled) (x : Controlled) (st : DirSeg) (from : ℕ)
    → near_trains len t (xs ++ x ∷ []) st from ≡ (if nat_eq x.id.0 t then near_trains len t xs st from else min (near_train len x st from) (near_trains len t xs st from))
unfolding near_trains
near_last len t [] x st from = refl
near_last len t (y ∷ ys) x st from =
    let i = near_last len t ys x st from in
    by_test (nat_eq y.id.0 t)
    (λ a. rw a i)
    (λ b. by_test (nat_eq x.id.0 t)
    (λ c. let r = rw c at i in rw (b, c, r) refl)
    (λ d. let r = rw d at i in rw (b, d, r) (omega arith)))

pub near_more : (len : Lengths) (t : ℕ) (xs : List Controlled) (i : ℕ) (x : Controlled) (st : DirSeg) (from : ℕ) → i < length xs → x ≡ get_or xs i x
    → near_trains len t (take (i + 1) xs) st from ≡ (if nat_eq x.id.0 t then near_trains len t (take i xs) st from else min (near_train len x st from) (near_trains len t (take i xs) st from))
near_more len t xs i x st from l e = ap (λ ys. near_trains len t ys st from) (taken_more xs i x l e) ∙ near_last len t (take i xs) x st from

less_swap : (a b : ℕ) (least : Option ℕ) → less_of a (Some (less_of b least)) ≡ less_of b (Some (less_of a least))
less_swap a b None = omega arith
less_swap a b (Some c) = omega arith

least_last : (test : Controlled → Bool) (xs : List Controlled) (x : Controlled) → least_train test (xs ++ x ∷ []) ≡ (if test x then Some (less_of x.id.0 (least_train test xs)) else least_train test xs)
unfolding least_train
least_last test [] x = refl
least_last test (y ∷ ys) x =
    let i = least_last test ys x in
    by_test (test y)
    (λ a. by_test (test x)
    (λ c. let r = rw c at i in rw (a, c, r) (ap (λ (n : ℕ). Some n) (less_swap y.id.0 x.id.0 (least_train test ys))))
    (λ d. let r = rw d at i in rw (a, d, r) refl))
    (λ b. rw b i)

pub least_more : (test : Controlled → Bool) (xs : List Controlled) (i : ℕ) (x : Controlled) → i < length xs → x ≡ get_or xs i x
    → least_train test (take (i + 1) xs) ≡ (if test x then Some (less_of x.id.0 (least_train test (take i xs))) else least_train test (take i xs))
least_more test xs i x l e = ap (least_train test) (taken_more xs i x l e) ∙ least_last test (take i xs) x
