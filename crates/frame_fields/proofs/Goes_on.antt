-- Reading values one after the other, as a loop does.
use Rattle.std.proofs.Common.{◌≡◌, ℕ, suc, ◌-◌, ◌+◌, ◌≤◌, ◌<◌, List, [], ◌∷◌, ◌++◌, Result, Ok, Err, refl, sym, ap, ◌∙◌, append_assoc, arith}
use Rattle.std.proofs.lemmas.List.{append-nil}
use Rattle.definitions.specs.declared.frame.Unread.{Unread}
use Rattle.definitions.specs.FrameFields.{Form, ◌>>=◌, items_at, with_front}

regroup : {A : Type 0} (front : List A) (n : A) (read : Result (List A × List ℕ) Unread) → with_front front (read >>= λ x. Ok (n ∷ x.0, x.1)) ≡ with_front (front ++ n ∷ []) read
regroup {A} front n (Ok x) = ap (λ (ns : List A). Ok (ns, x.1)) (simp append_assoc)
regroup front n (Err f) = refl

module _ {A : Type 0} (f : Form A) (front : List A) (count i : ℕ) (bytes : List ℕ) (total : Result (List A × List ℕ) Unread) (so_far : with_front front (items_at f (count - i) bytes) ≡ total) where
  pub goes_on : (n : A) (after : List ℕ) → i < count → f.read bytes ≡ Ok (n, after) → with_front (front ++ n ∷ []) (items_at f (count - (i + 1)) after) ≡ total
  unfolding items_at
  goes_on n after lt h =
      let k : count - i ≡ suc (count - (i + 1)) = omega arith in
      let one : with_front front (items_at f (count - i) bytes) ≡ with_front (front ++ n ∷ []) (items_at f (count - (i + 1)) after) = rw (k, h) (regroup front n (items_at f (count - (i + 1)) after)) in
      sym one ∙ so_far

  pub ends : (e : Unread) → i < count → f.read bytes ≡ Err e → total ≡ Err e
  unfolding items_at
  ends e lt h =
      let k : count - i ≡ suc (count - (i + 1)) = omega arith in
      let one : with_front front (items_at f (count - i) bytes) ≡ Err e = rw (k, h) refl in
      sym so_far ∙ one

  pub is_done : count ≤ i → total ≡ Ok (front, bytes)
  unfolding items_at
  is_done le =
      let k : count - i ≡ 0 = omega arith in
      let one : with_front front (items_at f (count - i) bytes) ≡ Ok (front, bytes) = rw k (ap (λ (ns : List A). Ok (ns, bytes)) (append-nil front)) in
      sym so_far ∙ one
