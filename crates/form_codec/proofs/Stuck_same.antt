-- Laws on where a text gets stuck.
use Rattle.std.proofs.Common.{◌≡◌, ℕ, suc, ◌+◌, ◌-◌, ◌≤◌, ◌<◌, inl, inr, List, [], ◌∷◌, ◌++◌, length, take, drop, refl, sym, ap, subst, ◌∙◌, arith, length-append, append_assoc}
use Rattle.std.proofs.lemmas.List.{take-append-drop, take-take}
use Rattle.text_forms.specs.Language.{Continues, IsColumn, IsRefused, most_bytes}
use Rattle.form_codec.specs.Stuck.{Live, Stuck}

pub stuck_same : (K M : List ℕ → Type 0) (u : List ℕ) (left : ℕ) → ((t : List ℕ) → K t → M t) → ((t : List ℕ) → M t → K t) → Stuck K u left → Stuck M u left
stuck_same K M [] left to from s = ((s.0.0, to s.0.0 s.0.1), λ m. s.1 (from [] m), s.2)
stuck_same K M (b ∷ u) left to from (inl s) = inl ((s.0.0, to s.0.0 s.0.1), λ t m. s.1 t (from (b ∷ t) m), s.2)
stuck_same K M (b ∷ u) left to from (inr s) = inr (stuck_same (λ t. K (b ∷ t)) (λ t. M (b ∷ t)) u left (λ t. to (b ∷ t)) (λ t. from (b ∷ t)) s)

pub stuck_front : (w : List ℕ) (K : List ℕ → Type 0) (u : List ℕ) (left : ℕ) → Stuck (λ t. K (w ++ t)) u left → Stuck K (w ++ u) left
stuck_front [] K u left s = s
stuck_front (b ∷ w) K u left s = inr (stuck_front w (λ t. K (b ∷ t)) u left s)

pub stuck_not : (K : List ℕ → Type 0) (u : List ℕ) (left : ℕ) → Stuck K u left → K u → ⊥
stuck_not K [] left s k = s.1 k
stuck_not K (b ∷ u) left (inl s) k = s.1 u k
stuck_not K (b ∷ u) left (inr s) k = stuck_not (λ t. K (b ∷ t)) u left s k

-- a text that is stuck here
abbrev pub Dead : (List ℕ → Type 0) → List ℕ → Type 0
Dead K [] = K [] → ⊥
Dead K (b ∷ u) = (t : List ℕ) → K (b ∷ t) → ⊥

pub stuck_here : (K : List ℕ → Type 0) (u : List ℕ) → Live K → Dead K u → Stuck K u (length u)
stuck_here K [] live dead = (live, dead, refl)
stuck_here K (b ∷ u) live dead = inl (live, dead, refl)

pub record Cut (K : List ℕ → Type 0) (u : List ℕ) (left : ℕ) : Type 0 where
  pub front : List ℕ
  pub rest : List ℕ
  pub split : u ≡ front ++ rest
  pub long : length rest ≡ left
  pub live : Continues K front
  pub dead : Dead (λ t. K (front ++ t)) rest

pub stuck_cut : (K : List ℕ → Type 0) (u : List ℕ) (left : ℕ) → Stuck K u left → Cut K u left
stuck_cut K [] left s = record { front = []; rest = []; split = refl; long = sym s.2; live = s.0; dead = s.1 }
stuck_cut K (b ∷ u) left (inl s) = record { front = []; rest = b ∷ u; split = refl; long = sym s.2; live = s.0; dead = s.1 }
stuck_cut K (b ∷ u) left (inr s) =
    let c = stuck_cut (λ t. K (b ∷ t)) u left s in
    record { front = b ∷ c.front; rest = c.rest; split = ap (λ xs. b ∷ xs) c.split; long = c.long; live = c.live; dead = c.dead }

take_front : (a r : List ℕ) → take (length a) (a ++ r) ≡ a
take_front [] r = refl
take_front (x ∷ a) r = ap (λ xs. x ∷ xs) (take_front a r)

take_one : (a r : List ℕ) (b : ℕ) → take (suc (length a)) (a ++ b ∷ r) ≡ a ++ b ∷ []
take_one [] r b = refl
take_one (x ∷ a) r b = ap (λ xs. x ∷ xs) (take_one a r b)

column_at : (L : List ℕ → Type 0) (a r : List ℕ) → Continues L a → Dead (λ t. L (a ++ t)) r → IsColumn L (a ++ r) (length a + 1)
column_at L a [] live dead = record {
  from = omega arith;
  to = omega (arith, length-append a []);
  before = subst (λ (xs : List ℕ). Continues L xs) (sym (ap (λ n. take n (a ++ [])) le ∙ take_front a [])) live;
  byte = λ h. absurd (omega (arith, length-append a []));
  end = λ h said. dead said;
}
  where
    le : length a + 1 - 1 ≡ length a
    le = omega arith
column_at L a (b ∷ r) live dead = record {
  from = omega arith;
  to = omega (arith, length-append a (b ∷ r));
  before = subst (λ (xs : List ℕ). Continues L xs) (sym (ap (λ n. take n (a ++ b ∷ r)) le ∙ take_front a (b ∷ r))) live;
  byte = λ h c. dead c.0 (subst L (append_assoc a (b ∷ []) c.0) (subst (λ (xs : List ℕ). L (xs ++ c.0)) (ap (λ n. take n (a ++ b ∷ r)) one ∙ take_one a r b) c.1));
  end = λ h. absurd (omega (arith, length-append a (b ∷ r)));
}
  where
    le : length a + 1 - 1 ≡ length a
    le = omega arith

    one : length a + 1 ≡ suc (length a)
    one = omega arith

-- where a text is stuck is its column
pub stuck_column : (L : List ℕ → Type 0) (u : List ℕ) (left : ℕ) → Stuck L u left → IsColumn L u (length u - left + 1)
stuck_column L u left s =
    let c = stuck_cut L u left s in
    let e : length u - left + 1 ≡ length c.front + 1 = omega (arith, ap length c.split, length-append c.front c.rest, c.long) in
    subst (λ (n : ℕ). IsColumn L u n) (sym e)
    (subst (λ (xs : List ℕ). IsColumn L xs (length c.front + 1)) (sym c.split) (column_at L c.front c.rest c.live c.dead))

pub continues_less : (L : List ℕ → Type 0) (u : List ℕ) (k n : ℕ) → k ≤ n → Continues L (take n u) → Continues L (take k u)
continues_less L u k n h c =
    (drop k (take n u) ++ c.0, subst L (ap (λ xs. xs ++ c.0) (sym again) ∙ append_assoc (take k u) (drop k (take n u)) c.0) c.1)
  where
    again : take k u ++ drop k (take n u) ≡ take n u
    again = ap (λ xs. xs ++ drop k (take n u)) (sym (take-take k n u h)) ∙ take-append-drop k (take n u)

pub said_long : (L : List ℕ → Type 0) (u : List ℕ) → L u → Continues L (take most_bytes u)
said_long L u h = (drop most_bytes u, subst L (sym (take-append-drop most_bytes u)) h)

pub refused_long : (L : List ℕ → Type 0) (u : List ℕ) (column : ℕ) → most_bytes + 1 < column → IsColumn L u column → IsRefused L u (most_bytes + 1)
refused_long L u column h c = inr (refl, omega (arith, c.to), continues_less L u most_bytes (column - 1) (omega arith) c.before)

pub stuck_left : (K : List ℕ → Type 0) (u : List ℕ) (left : ℕ) → Stuck K u left → left ≤ length u
stuck_left K u left s = let c = stuck_cut K u left s in omega (arith, ap length c.split, length-append c.front c.rest, c.long)
