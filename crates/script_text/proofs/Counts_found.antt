-- The column of a field, byte by byte.
use Rattle.std.proofs.Common.{◌≡◌, ◌≢◌, ℕ, zero, suc, ◌+◌, ◌-◌, ◌≤◌, ◌<◌, List, [], ◌∷◌, length, drop, Bool, true, false, if◌then◌else◌, nat_eq, slice_index_or, refl, ap, arith}
use Rattle.std.proofs.lemmas.Bool.Decides.{nat_tests}
use Rattle.definitions.specs.EventFields.{field_column}

-- so many bytes are before the column, and so many spaces are still to come
pub record Counts (fields : ℕ) (text : List ℕ) (before left index : ℕ) : Type 0 where
  pub most : before ≤ index
  pub same : field_column fields text ≡ before + field_column left (drop index text)

pub counts_none : (fields : ℕ) (text : List ℕ) → Counts fields text 0 fields 0
counts_none fields text = record { most = omega arith; same = omega arith }

add_one : (n : ℕ) → suc n ≡ n + 1
add_one n = omega arith

column_next : (k i : ℕ) (text : List ℕ) → i < length text → field_column (suc k) (drop i text) ≡ (if nat_eq (slice_index_or text i 0) 32 then field_column k (drop (suc i) text) else field_column (suc k) (drop (suc i) text)) + 1
unfolding field_column
column_next k i [] h = absurd (omega arith)
column_next k zero (b ∷ text) h = refl
column_next k (suc i) (b ∷ text) h = column_next k i text (omega arith)

by_space : (b : Bool) (x y : ℕ) → b ≡ true → (if b then x else y) ≡ x
by_space true x y h = refl
by_space false x y h = absurd cc

by_other : (b : Bool) (x y : ℕ) → b ≡ false → (if b then x else y) ≡ y
by_other true x y h = absurd cc
by_other false x y h = refl

pub counts_space : (fields : ℕ) (text : List ℕ) (before left index : ℕ) → index < length text → left ≢ 0 → slice_index_or text index 0 ≡ 32 → Counts fields text before left index → Counts fields text (before + 1) (left - 1) (index + 1)
counts_space fields text before zero index lt n s h = absurd (n refl)
counts_space fields text before (suc k) index lt n s h =
    let e = column_next k index text lt in
    let t : nat_eq (slice_index_or text index 0) 32 ≡ true = grind (arith, nat_tests, s) in
    let m = by_space (nat_eq (slice_index_or text index 0) 32) (field_column k (drop (suc index) text)) (field_column (suc k) (drop (suc index) text)) t in
    let d = ap (λ n. field_column k (drop n text)) (add_one index) in
    let less : suc k - 1 ≡ k = omega arith in
    rw less (record { most = omega (arith, h.most); same = omega (arith, h.same, e, m, d) })

pub counts_other : (fields : ℕ) (text : List ℕ) (before left index : ℕ) → index < length text → left ≢ 0 → slice_index_or text index 0 ≢ 32 → Counts fields text before left index → Counts fields text (before + 1) left (index + 1)
counts_other fields text before zero index lt n s h = absurd (n refl)
counts_other fields text before (suc k) index lt n s h =
    let e = column_next k index text lt in
    let t : nat_eq (slice_index_or text index 0) 32 ≡ false = grind (arith, nat_tests, s) in
    let m = by_other (nat_eq (slice_index_or text index 0) 32) (field_column k (drop (suc index) text)) (field_column (suc k) (drop (suc index) text)) t in
    let d = ap (λ n. field_column (suc k) (drop n text)) (add_one index) in
    record { most = omega (arith, h.most); same = omega (arith, h.same, e, m, d) }

column_zero : (text : List ℕ) → field_column 0 text ≡ 1
unfolding field_column
column_zero text = refl

column_end : (left i : ℕ) (text : List ℕ) → length text ≤ i → field_column left (drop i text) ≡ 1
unfolding field_column
column_end zero i text h = refl
column_end (suc k) zero [] h = refl
column_end (suc k) (suc i) [] h = refl
column_end (suc k) zero (b ∷ text) h = absurd (omega arith)
column_end (suc k) (suc i) (b ∷ text) h = column_end (suc k) i text (omega arith)

pub counts_found : (fields : ℕ) (text : List ℕ) (before left index : ℕ) → left ≡ 0 → Counts fields text before left index → before + 1 ≡ field_column fields text
counts_found fields text before zero index e h = omega (arith, h.same, column_zero (drop index text))
counts_found fields text before (suc left) index e h = absurd (omega arith)

pub counts_end : (fields : ℕ) (text : List ℕ) (before left index : ℕ) → length text ≤ index → Counts fields text before left index → before + 1 ≡ field_column fields text
counts_end fields text before left index e h = omega (arith, h.same, column_end left index text e)
