-- What reading a text line by a table of forms does: the theorem.
use Rattle.std.proofs.Common.{◌≡◌, ℕ, zero, suc, ◌+◌, ◌-◌, ◌<◌, inl, inr, List, [], ◌∷◌, ◌++◌, length, Result, Ok, Err, true, refl, sym, ap, subst, ◌∙◌, arith, get_or}
use Rattle.text_forms.specs.Language.{IsColumn}
use Rattle.text_forms.specs.Forms.{spelled, Form, parts_of, Spells, Says, IsText, words}
use Rattle.text_forms.specs.Reading.{Read, ◌>>=◌, word_at, fields_in, line_at}
use Rattle.text_forms.specs.Tables.{apart, is_clear, all_clear, is_table}
use Rattle.form_codec.specs.Stuck.{Live, Stuck}
use Rattle.form_codec.proofs.Stuck_same.{stuck_same, stuck_column}
use Rattle.form_codec.proofs.Digits.{first_true, second_true}
use Rattle.form_codec.proofs.Word_found.{Choice, word_found, word_on, word_again, word_no}
use Rattle.form_codec.proofs.Then_live.{bind_ok, bind_err}
use Rattle.form_codec.proofs.Sign_reads.{choice_of, from_choice}
use Rattle.form_codec.proofs.Groups.{FormThen, clear_is, form_live, fields_no, fields_takes, fields_again, Spelling, form_spelled, spelled_form}

-- the texts after the word of the form of this place
abbrev FormIn : List Form → ℕ → List ℕ → Type 0
FormIn [] i u = ⊥
FormIn (f ∷ fs) zero u = FormThen f u
FormIn (f ∷ fs) (suc i) u = FormIn fs i u

to_spells : (f : Form) (vs u : List ℕ) → Spelling f vs u → Spells f vs (f.word ++ u)
to_spells f vs u s = record { count = s.count; least = s.least_is; most = s.most_is; fit = s.fit; spelled = ap (λ xs. f.word ++ xs) s.split }

of_spells : (f : Form) (vs text : List ℕ) (s : Spells f vs text) → Spelling f vs (spelled (parts_of f s.count) vs)
of_spells f vs text s = record { count = s.count; least_is = s.least; most_is = s.most; fit = s.fit; split = refl }

-- a text line, by its form's word and what is after it
record Parted (fs : List Form) (i : ℕ) (vs text : List ℕ) : Type 0 where
  rest : List ℕ
  below : i < length (words fs)
  split : text ≡ get_or (words fs) i [] ++ rest
  said : FormIn fs i rest
  reads : all_clear fs ≡ true → fields_in fs i rest ≡ Ok vs

parted : (fs : List Form) (i : ℕ) (vs text : List ℕ) → Says fs i vs text → Parted fs i vs text
unfolding Says fields_in all_clear
parted [] i vs text s = absurd s
parted (f ∷ fs) zero vs text s =
    let sp = of_spells f vs text s in
    record { rest = spelled (parts_of f s.count) vs; below = omega arith; split = s.spelled; said = spelled_form f _ vs sp; reads = λ c. fields_again f _ vs (clear_is f (first_true (is_clear f) (all_clear fs) c)) sp }
parted (f ∷ fs) (suc i) vs text s =
    let p = parted fs i vs text s in
    record { rest = p.rest; below = omega (arith, p.below); split = p.split; said = p.said; reads = λ c. p.reads (second_true (is_clear f) (all_clear fs) c) }

says_read : (fs : List Form) (i : ℕ) (vs rest : List ℕ) → i < length (words fs) → fields_in fs i rest ≡ Ok vs → Says fs i vs (get_or (words fs) i [] ++ rest)
unfolding Says fields_in
says_read [] i vs rest h e = absurd (omega arith)
says_read (f ∷ fs) zero vs rest h e = to_spells f vs rest (fields_takes f rest vs e)
says_read (f ∷ fs) (suc i) vs rest h e = says_read fs i vs rest (omega arith) e

says_form : (fs : List Form) (i : ℕ) (rest : List ℕ) → FormIn fs i rest → (vs : List ℕ) × Says fs i vs (get_or (words fs) i [] ++ rest)
unfolding Says
says_form [] i rest h = absurd h
says_form (f ∷ fs) zero rest h = let s = form_spelled f rest h in (s.values, to_spells f s.values rest s.spelling)
says_form (f ∷ fs) (suc i) rest h = says_form fs i rest h

in_live : (fs : List Form) (i : ℕ) → all_clear fs ≡ true → i < length (words fs) → Live (FormIn fs i)
unfolding all_clear
in_live [] i c h = absurd (omega arith)
in_live (f ∷ fs) zero c h = form_live f (clear_is f (first_true (is_clear f) (all_clear fs) c))
in_live (f ∷ fs) (suc i) c h = in_live fs i (second_true (is_clear f) (all_clear fs) c) (omega arith)

in_no : (fs : List Form) (i : ℕ) (rest : List ℕ) (left : ℕ) → all_clear fs ≡ true → i < length (words fs) → fields_in fs i rest ≡ Err left → Stuck (FormIn fs i) rest left
unfolding all_clear fields_in
in_no [] i rest left c h e = absurd (omega arith)
in_no (f ∷ fs) zero rest left c h e = fields_no f rest left (clear_is f (first_true (is_clear f) (all_clear fs) c)) e
in_no (f ∷ fs) (suc i) rest left c h e = in_no fs i rest left (second_true (is_clear f) (all_clear fs) c) (omega arith) e

to_text : (fs : List Form) (t : List ℕ) → Choice (words fs) 0 (FormIn fs) t → IsText fs t
to_text fs t c =
    let r = from_choice (words fs) 0 (FormIn fs) t c in
    let z : 0 + r.at ≡ r.at = omega arith in
    let s = says_form fs r.at r.rest (subst (λ n. FormIn fs n r.rest) z r.said) in
    record { form = r.at; values = s.0; says = subst (λ xs. Says fs r.at s.0 xs) (sym r.split) s.1 }

from_text : (fs : List Form) (t : List ℕ) → IsText fs t → Choice (words fs) 0 (FormIn fs) t
from_text fs t x =
    let p = parted fs x.form x.values t x.says in
    choice_of (words fs) x.form (FormIn fs) t p.rest p.below p.split p.said

abbrev with_form : ℕ → List ℕ → Result (ℕ × List ℕ) ℕ
with_form i vs = Ok (i, vs)

abbrev fields_then : List Form → ℕ × List ℕ → Result (ℕ × List ℕ) ℕ
fields_then fs x = fields_in fs x.0 x.1 >>= with_form x.0

line_step : (fs : List Form) (u : List ℕ) → line_at fs u ≡ (word_at 0 0 (words fs) u >>= fields_then fs)
unfolding line_at
line_step fs u = refl

-- what a table has
record Table (fs : List Form) : Type 0 where
  words_apart : apart (words fs) ≡ true
  forms_clear : all_clear fs ≡ true

table_is : (fs : List Form) → is_table fs ≡ true → Table fs
unfolding is_table
table_is [] h = absurd cc
table_is (f ∷ fs) h = record { words_apart = first_true (apart (words (f ∷ fs))) (all_clear (f ∷ fs)) h; forms_clear = second_true (apart (words (f ∷ fs))) (all_clear (f ∷ fs)) h }

-- what is read is spelled so
pub line_takes : (fs : List Form) (text : List ℕ) (i : ℕ) (vs : List ℕ) → is_table fs ≡ true → line_at fs text ≡ Ok (i, vs) → Says fs i vs text
line_takes fs text i vs h e =
    let t = table_is fs h in
    let x = bind_ok (word_at 0 0 (words fs) text) (fields_then fs) (i, vs) (sym (line_step fs text) ∙ e) in
    let y = bind_ok (fields_in fs x.value.0 x.value.1) (with_form x.value.0) (i, vs) x.then in
    let z : with_form x.value.0 y.value ≡ Ok (i, vs) = y.then in
    let q : ◌≡◌ {A = ℕ × List ℕ} (x.value.0, y.value) (i, vs) = cc in
    let i_is : x.value.0 ≡ i = ap (λ (r : ℕ × List ℕ). r.0) q in
    let vs_is : y.value ≡ vs = ap (λ (r : ℕ × List ℕ). r.1) q in
    let f = word_found (FormIn fs) (words fs) 0 0 x.value.0 text x.value.1 t.words_apart x.first in
    let n : x.value.0 - 0 ≡ x.value.0 = omega arith in
    let below : x.value.0 < length (words fs) = omega (arith, f.below) in
    let s = says_read fs x.value.0 y.value x.value.1 below y.first in
    let split : text ≡ get_or (words fs) x.value.0 [] ++ x.value.1 = f.split ∙ ap (λ xs. xs ++ x.value.1) (f.is ∙ ap (λ k. get_or (words fs) k []) n) in
    subst (λ k. Says fs k vs text) i_is (subst (λ xs. Says fs x.value.0 xs text) vs_is (subst (λ xs. Says fs x.value.0 y.value xs) (sym split) s))

-- what is spelled so is read
pub line_again : (fs : List Form) (text : List ℕ) (i : ℕ) (vs : List ℕ) → is_table fs ≡ true → Says fs i vs text → line_at fs text ≡ Ok (i, vs)
line_again fs text i vs h s =
    let t = table_is fs h in
    let p = parted fs i vs text s in
    let z : 0 + i ≡ i = omega arith in
    let w : word_at 0 0 (words fs) (get_or (words fs) i [] ++ p.rest) ≡ Ok (i, p.rest) =
    word_again (words fs) 0 0 i p.rest t.words_apart p.below ∙ ap (λ n. found (n, p.rest)) z in
    line_step fs text
    ∙ (ap (λ xs. word_at 0 0 (words fs) xs >>= fields_then fs) p.split
    ∙ (ap (λ (x : Read ℕ). x >>= fields_then fs) w
    ∙ ap (λ (x : Result (List ℕ) ℕ). x >>= with_form i) (p.reads t.forms_clear)))
  where
    found : ℕ × List ℕ → Read ℕ
    found x = Ok x

in_apart : (f : Form) (fs : List Form) (text : List ℕ) (left : ℕ) → all_clear (f ∷ fs) ≡ true → word_at 0 0 (words (f ∷ fs)) text ≡ Err left → Stuck (Choice (words (f ∷ fs)) 0 (FormIn (f ∷ fs))) text left
in_apart f fs text left c e = word_no f.word (words fs) 0 (FormIn (f ∷ fs)) text left (λ j a b. in_live (f ∷ fs) j c (omega arith)) e

word_none : (fs : List Form) (text : List ℕ) (left : ℕ) → is_table fs ≡ true → word_at 0 0 (words fs) text ≡ Err left → Stuck (Choice (words fs) 0 (FormIn fs)) text left
unfolding is_table
word_none [] text left h e = absurd cc
word_none (f ∷ fs) text left h e = in_apart f fs text left (second_true (apart (words (f ∷ fs))) (all_clear (f ∷ fs)) h) e

never : (i left : ℕ) (vs : List ℕ) → with_form i vs ≡ Err left → ⊥
never i left vs e = absurd cc

pub line_no : (fs : List Form) (text : List ℕ) (left : ℕ) → is_table fs ≡ true → line_at fs text ≡ Err left → Stuck (IsText fs) text left
line_no fs text left h e =
    let t = table_is fs h in
    stuck_same (Choice (words fs) 0 (FormIn fs)) (IsText fs) text left (to_text fs) (from_text fs)
    (elim (bind_err (word_at 0 0 (words fs) text) (fields_then fs) left (sym (line_step fs text) ∙ e)) [
      | inl x ↦ word_none fs text left h x
      | inr x ↦
          let f = word_found (FormIn fs) (words fs) 0 0 x.value.0 text x.value.1 t.words_apart x.first in
          elim (bind_err (fields_in fs x.value.0 x.value.1) (with_form x.value.0) left x.then) [
            | inl y ↦ word_on (FormIn fs) (words fs) 0 0 x.value.0 text x.value.1 left t.words_apart x.first (in_no fs x.value.0 x.value.1 left t.forms_clear (omega (arith, f.below)) y)
            | inr y ↦ absurd (never x.value.0 left y.value y.then)
          ]
    ])

-- where nothing is read is the text's column
pub line_column : (fs : List Form) (text : List ℕ) (left : ℕ) → is_table fs ≡ true → line_at fs text ≡ Err left → IsColumn (IsText fs) text (length text - left + 1)
line_column fs text left h e = stuck_column (IsText fs) text left (line_no fs text left h e)

-- a text line has one form and one list of values
pub says_one : (fs : List Form) (text : List ℕ) (i j : ℕ) (vs ws : List ℕ) → is_table fs ≡ true → Says fs i vs text → Says fs j ws text → (i ≡ j) × (vs ≡ ws)
says_one fs text i j vs ws h s u =
    let e : with_form i vs ≡ with_form j ws = sym (line_again fs text i vs h s) ∙ line_again fs text j ws h u in
    let q : ◌≡◌ {A = ℕ × List ℕ} (i, vs) (j, ws) = cc in
    (ap (λ (r : ℕ × List ℕ). r.0) q, ap (λ (r : ℕ × List ℕ). r.1) q)
