-- The text of values, from its front, and that it is the form's spelling.
use Rattle.std.proofs.Common.{◌≡◌, ℕ, zero, suc, ◌-◌, ◌<◌, ◌≤◌, List, [], ◌∷◌, ◌++◌, length, take, drop, get_or, refl, sym, ap, subst, ◌∙◌, arith, Result, Ok, Err, IsOk, OnOk}
use Rattle.std.proofs.lemmas.List.{take_all}
use Rattle.text_forms.specs.declared.part.Part.{Part}
use Rattle.text_forms.specs.declared.row.Row.{Row}
use Rattle.text_forms.specs.Forms.{Form, part_text, PartFits, spelled, Fit, times, Spells, Says}
use Rattle.text_forms.specs.Rows.{form_of, forms}
use Rattle.form_codec.specs.Writing.{next_parts, first_text, FirstFits, later_parts, text_on, FitOn, form_text}

pub text_none : (group ps : List Part) (vs : List ℕ) → length vs < 1 → text_on group ps vs ≡ []
unfolding text_on
text_none group ps [] h = refl
text_none group ps (v ∷ vs) h = absurd (omega arith)

-- the next parts, one value and the others
pub record First (group ps : List Part) (vs : List ℕ) (next : List Part) (d : Part) : Type 0 where
  pub text : text_on group ps vs ≡ part_text (get_or next 0 d) (get_or vs 0 0) ++ text_on group (take (length next - 1) (drop 1 next)) (take (length vs - 1) (drop 1 vs))
  pub fits : PartFits (get_or next 0 d) (get_or vs 0 0)
  pub later : FitOn group (take (length next - 1) (drop 1 next)) (take (length vs - 1) (drop 1 vs))

pub text_some : (group ps : List Part) (vs : List ℕ) (next : List Part) (d : Part) → next ≡ next_parts group ps → 1 ≤ length vs → 1 ≤ length next → FitOn group ps vs → First group ps vs next d
unfolding text_on FitOn
text_some group ps [] next d e some more f = absurd (omega arith)
text_some group ps (v ∷ vs) [] d e some more f = absurd (omega arith)
text_some group ps (v ∷ vs) (p ∷ qs) d e some more f =
    let all : take (length (v ∷ vs) - 1) vs ≡ vs = take_all (length (v ∷ vs) - 1) vs (omega arith) in
    let same : take (length (p ∷ qs) - 1) qs ≡ qs = take_all (length (p ∷ qs) - 1) qs (omega arith) in
    let k = subst (λ xs. FirstFits xs v × FitOn group (later_parts xs) vs) (sym e) f in
    record {
      text = ap (λ xs. first_text xs v ++ text_on group (later_parts xs) vs) (sym e) ∙ (ap (λ xs. part_text p v ++ text_on group xs vs) (sym same) ∙ ap (λ xs. part_text p v ++ text_on group (take (length (p ∷ qs) - 1) qs) xs) (sym all));
      fits = k.0;
      later = subst (λ xs. FitOn group xs (take (length (v ∷ vs) - 1) vs)) (sym same) (subst (FitOn group qs) (sym all) k.1);
    }

pub never_none : (group ps : List Part) (vs : List ℕ) (next : List Part) → next ≡ next_parts group ps → 1 ≤ length vs → length next < 1 → FitOn group ps vs → ⊥
unfolding FitOn
never_none group ps [] next e some none f = absurd (omega arith)
never_none group ps (v ∷ vs) (p ∷ qs) e some none f = absurd (omega arith)
never_none group ps (v ∷ vs) [] e some none f = (subst (λ xs. FirstFits xs v × FitOn group (later_parts xs) vs) (sym e) f).0

-- the values of a form, written, are its spelling

pub record Same (group ps : List Part) (k : ℕ) (vs : List ℕ) : Type 0 where
  pub text : text_on group ps vs ≡ spelled (ps ++ times k group) vs
  pub fits : FitOn group ps vs

times_same : (group ps : List Part) (k : ℕ) (vs : List ℕ) → Fit (ps ++ times k group) vs → Same group ps k vs
unfolding text_on FitOn spelled Fit times
times_same group [] zero [] f = record { text = refl; fits = tt }
times_same group [] zero (v ∷ vs) f = absurd f
times_same [] [] (suc k) vs f = let m = times_same [] [] k vs f in record { text = m.text; fits = m.fits }
times_same (q ∷ qs) [] (suc k) [] f = absurd f
times_same (q ∷ qs) [] (suc k) (v ∷ vs) f =
    let m = times_same (q ∷ qs) qs k vs f.1 in
    record { text = ap (λ xs. part_text q v ++ xs) m.text; fits = (f.0, m.fits) }
times_same group (p ∷ ps) k [] f = absurd f
times_same group (p ∷ ps) k (v ∷ vs) f =
    let m = times_same group ps k vs f.1 in
    record { text = ap (λ xs. part_text p v ++ xs) m.text; fits = (f.0, m.fits) }

-- what is written of a form and values that spell a text is that text
pub written_spelled : (f : Form) (vs text : List ℕ) → Spells f vs text → (text ≡ form_text f vs) × FitOn f.group f.parts vs
written_spelled f vs text s =
    let m = times_same f.group f.parts s.count vs s.fit in
    (s.spelled ∙ ap (λ xs. f.word ++ xs) (sym m.text), m.fits)

pub on_ok : {A E : Type 0} (r : Result A E) (P : Type 0) → IsOk r → OnOk r P → P
on_ok (Ok x) P i h = h
on_ok (Err e) P i h = absurd cc

-- what is written by a row of a table is the text that its form says
pub row_written : (rows : List Row) (i : ℕ) (d : Row) (vs text : List ℕ) → Says (forms rows) i vs text → (text ≡ form_text (form_of (get_or rows i d)) vs) × FitOn (get_or rows i d).group.now (get_or rows i d).parts.now vs
unfolding Says
row_written [] i d vs text s = absurd s
row_written (r ∷ rows) zero d vs text s = written_spelled (form_of r) vs text s
row_written (r ∷ rows) (suc i) d vs text s = row_written rows i d vs text s

pub row_below : (rows : List Row) (i : ℕ) (vs text : List ℕ) → Says (forms rows) i vs text → i < length rows
unfolding Says
row_below [] i vs text s = absurd s
row_below (r ∷ rows) zero vs text s = omega arith
row_below (r ∷ rows) (suc i) vs text s = let h = row_below rows i vs text s in omega arith

pub fit_length : (ps : List Part) (vs : List ℕ) → Fit ps vs → length vs ≡ length ps
unfolding Fit
fit_length [] [] f = refl
fit_length [] (v ∷ vs) f = absurd f
fit_length (p ∷ ps) [] f = absurd f
fit_length (p ∷ ps) (v ∷ vs) f = ap suc (fit_length ps vs f.1)

-- a form with its values has one spelling
pub spelling_one : (fs : List Form) (i : ℕ) (vs s t : List ℕ) → Says fs i vs s → Says fs i vs t → s ≡ t
unfolding Says
spelling_one [] i vs s t h k = absurd h
spelling_one (f ∷ fs) zero vs s t h k = (written_spelled f vs s h).0 ∙ sym (written_spelled f vs t k).0
spelling_one (f ∷ fs) (suc i) vs s t h k = spelling_one fs i vs s t h k
