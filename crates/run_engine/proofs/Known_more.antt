-- The trains that are declared, by a table and as a list.
use Rattle.std.proofs.Common.{◌≡◌, ℕ, ◌<◌, ◌≤◌, length, arith, ◌∷◌, ◌++◌, List, [], Bool, true, false, ◌||◌, Option, Some, None, refl, sym, ◌∙◌, ap, reverse, nat_eq}
use Rattle.std.specs.Prelude.{is_some, if◌then◌else◌}
use Rattle.std.specs.Option.{option_or}
use Rattle.std.proofs.lemmas.List.{reverse-append, length-append, length-reverse}
use Rattle.definitions.specs.EventFields.{has_train}
use Rattle.world_sim.specs.Places.{place_of}

pub known_none : (places xs : List ℕ) → ((id : ℕ) → place_of places id ≡ None) → xs ≡ [] → (id : ℕ) → is_some (place_of places id) ≡ has_train (reverse xs) id
unfolding has_train
known_none places xs none is id = rw is (ap (λ (o : Option ℕ). is_some o) (none id))

some_or : (a : Option ℕ) (place : ℕ) (b : Bool) → is_some (option_or a (if b then Some place else None)) ≡ (b || is_some a)
some_or None place true = refl
some_or None place false = refl
some_or (Some x) place true = refl
some_or (Some x) place false = refl

has_more : (t : ℕ) (xs : List ℕ) (id : ℕ) → has_train (t ∷ xs) id ≡ (nat_eq t id || has_train xs id)
unfolding has_train
has_more t xs id = refl

pub known_more : (places more xs ys : List ℕ) (t place : ℕ) → ((id : ℕ) → is_some (place_of places id) ≡ has_train (reverse xs) id)
    → ((id : ℕ) → place_of more id ≡ option_or (place_of places id) (if nat_eq t id then Some place else None)) → ys ≡ xs ++ t ∷ [] → (id : ℕ) → is_some (place_of more id) ≡ has_train (reverse ys) id
known_more places more xs ys t place known put is id =
    ap (λ (o : Option ℕ). is_some o) (put id)
    ∙ (some_or (place_of places id) place (nat_eq t id)
    ∙ (ap (λ (b : Bool). nat_eq t id || b) (known id)
    ∙ (sym (has_more t (reverse xs) id) ∙ ap (λ (zs : List ℕ). has_train zs id) (sym (ap reverse is ∙ reverse-append xs (t ∷ []))))))

pub one_longer : (xs ys now_ : List ℕ) (t : ℕ) → ys ≡ xs ++ t ∷ [] → reverse xs ≡ now_ → length now_ < 256 → length ys ≤ 256
one_longer xs ys now_ t is view few =
    let all = ap length is in
    let more = length-append xs (t ∷ []) in
    let back = length-reverse xs in
    let same = ap length view in
    omega arith
