-- Reading on lists answers what the grammar tells, also of a text that is too long.
use Rattle.std.proofs.Common.{◌≡◌, ℕ, ◌+◌, ◌-◌, ◌≤◌, ◌<◌, inl, inr, List, length, min, nat_lt, Bool, true, false, if◌then◌else◌, Result, Ok, Err, refl, ap, ◌∙◌, arith}
use Rattle.std.proofs.lemmas.Bool.{cases_lt}
use Rattle.std.proofs.lemmas.Bool.Decides.{nat_tests}
use Rattle.std.proofs.lemmas.List.{take_all}
use Rattle.std.proofs.Math.Nat.{min-eq_left, min-eq_right}
use Rattle.text_forms.specs.Forms.{Form, Says, IsText}
use Rattle.text_forms.specs.Language.{IsColumn, IsRefused, most_bytes}
use Rattle.text_forms.specs.Reading.{line_at, telling, form_from, form_at}
use Rattle.text_forms.specs.Tables.{is_table}
use Rattle.form_codec.proofs.Refused_one.{refused_one, refused_not, refused_front}
use Rattle.form_codec.proofs.Stuck_same.{said_long, refused_long}
use Rattle.form_codec.proofs.Line_takes.{line_takes, line_again, line_column}

abbrev found : ℕ × List ℕ → Result (ℕ × List ℕ) ℕ
found x = Ok x

abbrev lost : ℕ → Result (ℕ × List ℕ) ℕ
lost k = Err k

-- a text that a form spells
pub form_taken : (fs : List Form) (text vs : List ℕ) (i : ℕ) → is_table fs ≡ true → Says fs i vs text → length text ≤ most_bytes → form_at fs text ≡ Ok (i, vs)
unfolding form_at
form_taken fs text vs i t s short =
    let all : telling text ≡ text = take_all (most_bytes + 1) text (omega arith) in
    let few : nat_lt most_bytes (length text) ≡ false = grind (arith, nat_tests) in
    rw (all, line_again fs text i vs t s, few) refl

long_by : (fs : List Form) (u : List ℕ) (x : ℕ × List ℕ) (k : ℕ) (b : Bool) → nat_lt most_bytes (length u) ≡ b → Says fs x.0 x.1 u → IsRefused (IsText fs) u k → (if b then lost (most_bytes + 1) else found x) ≡ Err k
long_by fs u x k true e s h =
    let long : most_bytes < length u = grind (arith, nat_tests) in
    ap lost (refused_one (IsText fs) u (most_bytes + 1) k (inr (refl, long, said_long (IsText fs) u (record { form = x.0; values = x.1; says = s }))) h)
long_by fs u x k false e s h =
    let short : length u ≤ most_bytes = grind (arith, nat_tests) in
    absurd (refused_not (IsText fs) u k h (record { form = x.0; values = x.1; says = s }) short)

column_by : (fs : List Form) (u : List ℕ) (c k : ℕ) → IsColumn (IsText fs) u c → IsRefused (IsText fs) u k → min c (most_bytes + 1) ≡ k
column_by fs u c k h r = elim (cases_lt (most_bytes + 1) c) [
  | inl long ↦ let le : most_bytes + 1 ≤ c = omega arith in min-eq_right le ∙ refused_one (IsText fs) u (most_bytes + 1) k (refused_long (IsText fs) u c long h) r
  | inr le ↦ min-eq_left le ∙ refused_one (IsText fs) u c k (inl (le, h)) r
]

by_line : (fs : List Form) (u : List ℕ) (k : ℕ) → is_table fs ≡ true → IsRefused (IsText fs) u k → (r : Result (ℕ × List ℕ) ℕ) → line_at fs u ≡ r → form_from (length u) r ≡ Err k
by_line fs u k t h (Ok x) e = long_by fs u x k (nat_lt most_bytes (length u)) refl (line_takes fs u x.0 x.1 t e) h
by_line fs u k t h (Err left) e = ap lost (column_by fs u (length u - left + 1) k (line_column fs u left t e) h)

-- a text that the table refuses
pub form_refused : (fs : List Form) (text : List ℕ) (k : ℕ) → is_table fs ≡ true → IsRefused (IsText fs) text k → form_at fs text ≡ Err k
unfolding form_at
form_refused fs text k t h = by_line fs (telling text) k t (refused_front (IsText fs) text k h) (line_at fs (telling text)) refl
