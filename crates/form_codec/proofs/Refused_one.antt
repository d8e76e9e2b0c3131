-- Laws on columns: a text that is refused has one, and is none of the language.
use Rattle.std.proofs.Common.{◌≡◌, ℕ, ◌+◌, ◌-◌, ◌≤◌, ◌<◌, inl, inr, List, ◌++◌, length, take, drop, Result, Err, sym, ap, subst, ◌∙◌, arith}
use Rattle.std.proofs.lemmas.Bool.{cases_lt, cases_order}
use Rattle.std.proofs.lemmas.List.{take_all, take-append-drop, take-take, length-take}
use Rattle.text_forms.specs.Language.{Continues, IsColumn, IsRefused, most_bytes}
use Rattle.form_codec.specs.declared.fault.TextFault.{TextFault}
use Rattle.form_codec.proofs.Stuck_same.{continues_less}

-- what continues past a column
past_column : (L : List ℕ → Type 0) (u : List ℕ) (c n : ℕ) → c ≤ n → c ≤ length u → IsColumn L u c → Continues L (take n u) → ⊥
past_column L u c n le short h live = h.byte short (continues_less L u c n le live)

earlier_never : (L : List ℕ → Type 0) (u : List ℕ) (c d : ℕ) → c < d → IsColumn L u c → IsColumn L u d → ⊥
earlier_never L u c d lt h k = past_column L u c (d - 1) (omega arith) (omega (arith, k.to)) h k.before

column_one : (L : List ℕ → Type 0) (u : List ℕ) (c d : ℕ) → IsColumn L u c → IsColumn L u d → c ≡ d
column_one L u c d h k = elim (cases_order c d) [
  | inl e ↦ e
  | inr (inl lt) ↦ absurd (earlier_never L u c d lt h k)
  | inr (inr lt) ↦ absurd (earlier_never L u d c lt k h)
]

long_column : (L : List ℕ → Type 0) (u : List ℕ) (c : ℕ) → c ≤ most_bytes + 1 → most_bytes < length u → IsColumn L u c → Continues L (take most_bytes u) → c ≡ most_bytes + 1
long_column L u c le long h live = elim (cases_lt most_bytes c) [
  | inl lt ↦ omega arith
  | inr short ↦ absurd (past_column L u c most_bytes short (omega arith) h live)
]

-- a text is refused at one column
pub refused_one : (L : List ℕ → Type 0) (u : List ℕ) (c d : ℕ) → IsRefused L u c → IsRefused L u d → c ≡ d
refused_one L u c d (inl h) (inl k) = column_one L u c d h.1 k.1
refused_one L u c d (inl h) (inr k) = long_column L u c h.0 k.1 h.1 k.2 ∙ sym k.0
refused_one L u c d (inr h) (inl k) = h.0 ∙ sym (long_column L u d k.0 h.1 k.1 h.2)
refused_one L u c d (inr h) (inr k) = h.0 ∙ sym k.0

abbrev pub refusal : ℕ → Result ℕ TextFault
refusal c = Err (record { column = c })

-- so is its refusal
pub refusal_one : (L : List ℕ → Type 0) (u : List ℕ) (c d : ℕ) → IsRefused L u c → IsRefused L u d → refusal c ≡ refusal d
refusal_one L u c d h k = ap refusal (refused_one L u c d h k)

said_continues : (L : List ℕ → Type 0) (u : List ℕ) (n : ℕ) → L u → Continues L (take n u)
said_continues L u n h = (drop n u, subst L (sym (take-append-drop n u)) h)

column_not : (L : List ℕ → Type 0) (u : List ℕ) (c : ℕ) → IsColumn L u c → L u → ⊥
column_not L u c h said = elim (cases_lt (length u) c) [
  | inl lt ↦ h.end (omega (arith, h.to)) said
  | inr le ↦ h.byte le (said_continues L u c said)
]

-- a text that is refused is none of the language, or too long
pub refused_not : (L : List ℕ → Type 0) (u : List ℕ) (c : ℕ) → IsRefused L u c → L u → length u ≤ most_bytes → ⊥
refused_not L u c (inl h) said short = column_not L u c h.1 said
refused_not L u c (inr h) said short = let long = h.1 in absurd (omega arith)

continues_same : (L M : List ℕ → Type 0) (u : List ℕ) → ((t : List ℕ) → L t → M t) → Continues L u → Continues M u
continues_same L M u to c = (c.0, to (u ++ c.0) c.1)

column_same : (L M : List ℕ → Type 0) (u : List ℕ) (c : ℕ) → ((t : List ℕ) → L t → M t) → ((t : List ℕ) → M t → L t) → IsColumn L u c → IsColumn M u c
column_same L M u c to from h = record {
  from = h.from;
  to = h.to;
  before = continues_same L M (take (c - 1) u) to h.before;
  byte = λ le k. h.byte le (continues_same M L (take c u) from k);
  end = λ e k. h.end e (from u k);
}

-- two languages with the same texts refuse at the same columns
pub refused_same : (L M : List ℕ → Type 0) (u : List ℕ) (c : ℕ) → ((t : List ℕ) → L t → M t) → ((t : List ℕ) → M t → L t) → IsRefused L u c → IsRefused M u c
refused_same L M u c to from (inl h) = inl (h.0, column_same L M u c to from h.1)
refused_same L M u c to from (inr h) = inr (h.0, h.1, continues_same L M (take most_bytes u) to h.2)

-- a text is refused where its first 4,097 bytes are
pub refused_front : (L : List ℕ → Type 0) (u : List ℕ) (c : ℕ) → IsRefused L u c → IsRefused L (take (most_bytes + 1) u) c
refused_front L u c (inl h) =
    let long = length-take (most_bytes + 1) u in
    let k = h.1 in
    inl (
      h.0,
      record {
        from = k.from;
        to = omega (arith, h.0, k.to, long);
        before = subst (Continues L) (sym (take-take (c - 1) (most_bytes + 1) u (omega (arith, h.0)))) k.before;
        byte = λ le live. k.byte (omega (arith, le, long)) (subst (Continues L) (take-take c (most_bytes + 1) u h.0) live);
        end = λ e said. let short : length u ≤ most_bytes + 1 = omega (arith, e, h.0, long) in k.end (omega (arith, e, h.0, long)) (subst L (take_all (most_bytes + 1) u short) said);
      },
    )
refused_front L u c (inr h) =
    let long = length-take (most_bytes + 1) u in
    inr (h.0, omega (arith, h.1, long), subst (Continues L) (sym (take-take most_bytes (most_bytes + 1) u (omega arith))) h.2)
