-- Rows of a table, and what their form's reading does.
use Rattle.std.proofs.Common.{◌≡◌, ℕ, zero, suc, ◌+◌, ◌-◌, ◌*◌, ◌≤◌, ◌<◌, List, [], ◌∷◌, length, max, drop, get_or, Result, Ok, Err, Option, Some, None, true, refl, sym, ap, ◌∙◌, arith, inl, inr}
use Rattle.std.specs.Prelude.{nat_le}
use Rattle.std.proofs.lemmas.Bool.{leb-true}
use Rattle.text_forms.specs.declared.row.Row.{Row}
use Rattle.text_forms.specs.Language.{IsColumn, IsRefused, most_bytes}
use Rattle.text_forms.specs.Forms.{Form, Says, IsText, words}
use Rattle.text_forms.specs.Reading.{Read, after_word, common, word_at, fields_at, fields_in, line_at}
use Rattle.text_forms.specs.Tables.{is_table, has_room}
use Rattle.form_codec.specs.Finding.{find_at, best_of}
use Rattle.form_codec.specs.Sees.{PutForm}
use Rattle.text_forms.specs.Rows.{form_of, forms}
use Rattle.form_codec.proofs.Stuck_same.{stuck_left, said_long, refused_long}
use Rattle.form_codec.proofs.Digits.{first_true, second_true}
use Rattle.form_codec.proofs.Unpacked.{any_within, any_some, any_none}
use Rattle.form_codec.proofs.Line_takes.{line_takes, line_again, line_no, line_column}

pub row_fields : (rows : List Row) (i : ℕ) (d : Row) (u : List ℕ) → i < length rows → fields_in (forms rows) i u ≡ fields_at (form_of (get_or rows i d)) u
unfolding fields_in
row_fields [] i d u h = absurd (omega arith)
row_fields (r ∷ rows) zero d u h = refl
row_fields (r ∷ rows) (suc i) d u h = row_fields rows i d u (omega arith)

abbrev pub room_of : Row → ℕ
room_of r = length r.parts.now + r.most * length r.group.now

pub row_room : (rows : List Row) (i : ℕ) (d : Row) → i < length rows → has_room (forms rows) ≡ true → room_of (get_or rows i d) ≤ 2048
row_room [] i d h r = absurd (omega arith)
row_room (w ∷ rows) zero d h r = leb-true (room_of w) 2048 (first_true (nat_le (room_of w) 2048) (has_room (forms rows)) r)
row_room (w ∷ rows) (suc i) d h r = row_room rows i d (omega arith) (second_true (nat_le (room_of w) 2048) (has_room (forms rows)) r)

-- what stands for a row past the end
abbrev pub no_row : Row
no_row = record { word = record { ref_ptr = (0, 0); now = [] }; parts = record { ref_ptr = (0, 0); now = [] }; group = record { ref_ptr = (0, 0); now = [] }; least = 0; most = 0 }

pub words_length : (rows : List Row) → length (words (forms rows)) ≡ length rows
words_length [] = refl
words_length (r ∷ rows) = ap suc (words_length rows)

row_word : (rows : List Row) (k : ℕ) → get_or (words (forms rows)) k [] ≡ (get_or rows k no_row).word.now
row_word [] k = refl
row_word (r ∷ rows) zero = refl
row_word (r ∷ rows) (suc k) = row_word rows k

pub row_within : (rows : List Row) (u : List ℕ) (k : ℕ) → k ≡ 0 + find_at (words (forms rows)) u → k < length rows → length (get_or rows k no_row).word.now ≤ length u
row_within rows u k e h = any_within (words (forms rows)) u (get_or rows k no_row).word.now k e (omega (arith, words_length rows)) (row_word rows k)

pub row_some : (rows : List Row) (u back : List ℕ) (k : ℕ) → k ≡ 0 + find_at (words (forms rows)) u → k < length rows → back ≡ drop (length (get_or rows k no_row).word.now) u → word_at 0 0 (words (forms rows)) u ≡ Ok (k, back)
row_some rows u back k e h b = any_some (words (forms rows)) u (get_or rows k no_row).word.now back k e (omega (arith, words_length rows)) (row_word rows k) b

pub row_none : (rows : List Row) (u : List ℕ) (k both : ℕ) → k ≡ 0 + find_at (words (forms rows)) u → length rows ≤ k → both ≡ best_of 0 (words (forms rows)) u → word_at 0 0 (words (forms rows)) u ≡ Err (length u - both)
row_none rows u k both e h b = any_none (words (forms rows)) u k both e (omega (arith, words_length rows)) b

below_by : (w : List ℕ) (ws : List (List ℕ)) (k l v : ℕ) (u rest : List ℕ) → (word_at (suc k) (max l (common w u)) ws u ≡ Ok (v, rest) → v < suc k + length ws)
    → (o : Option (List ℕ)) → after_word w u ≡ o → word_at k l (w ∷ ws) u ≡ Ok (v, rest) → v < k + length (w ∷ ws)
unfolding word_at
below_by w ws k l v u rest more (Some r) h e =
    let e2 : found (k, r) ≡ Ok (v, rest) = rw h at e in
    let p : ◌≡◌ {A = ℕ × List ℕ} (k, r) (v, rest) = cc in
    let q : k ≡ v = ap (λ (x : ℕ × List ℕ). x.0) p in
    omega arith
  where
    found : ℕ × List ℕ → Read ℕ
    found x = Ok x
below_by w ws k l v u rest more None h e = let m = more (rw h at e) in omega arith

pub word_below : (ws : List (List ℕ)) (k l v : ℕ) (u rest : List ℕ) → word_at k l ws u ≡ Ok (v, rest) → v < k + length ws
unfolding word_at
word_below [] k l v u rest e = absurd cc
word_below (w ∷ ws) k l v u rest e = below_by w ws k l v u rest (word_below ws (suc k) (max l (common w u)) v u rest) (after_word w u) refl e

pub put_ok : (new : List ℕ) (i : ℕ) (r : Result (ℕ × List ℕ) ℕ) → PutForm new (Ok i) r → r ≡ Ok (i, new)
put_ok new i (Ok x) h = ap (λ n. found (n, x.1)) (sym h.0) ∙ ap (λ xs. found (i, xs)) (sym h.1)
  where
    found : ℕ × List ℕ → Result (ℕ × List ℕ) ℕ
    found x = Ok x
put_ok new i (Err l) h = absurd h

pub put_err : (new : List ℕ) (left : ℕ) (r : Result (ℕ × List ℕ) ℕ) → PutForm new (Err left) r → r ≡ Err left
put_err new left (Ok x) h = absurd h
put_err new left (Err l) h = ap lost (sym h)
  where
    lost : ℕ → Result (ℕ × List ℕ) ℕ
    lost n = Err n

-- what reading by a table gives

pub ok_only : (fs : List Form) (text new vs : List ℕ) (i j : ℕ) → is_table fs ≡ true → PutForm new (Ok i) (line_at fs text) → Says fs j vs text → (i ≡ j) × (new ≡ vs)
ok_only fs text new vs i j t h s =
    let e : found (i, new) ≡ found (j, vs) = sym (put_ok new i (line_at fs text) h) ∙ line_again fs text j vs t s in
    let q : ◌≡◌ {A = ℕ × List ℕ} (i, new) (j, vs) = cc in
    (ap (λ (r : ℕ × List ℕ). r.0) q, ap (λ (r : ℕ × List ℕ). r.1) q)
  where
    found : ℕ × List ℕ → Result (ℕ × List ℕ) ℕ
    found x = Ok x

pub ok_said : (fs : List Form) (text new : List ℕ) (i : ℕ) → is_table fs ≡ true → PutForm new (Ok i) (line_at fs text) → Says fs i new text
ok_said fs text new i t h = line_takes fs text i new t (put_ok new i (line_at fs text) h)

pub err_left : (fs : List Form) (text new : List ℕ) (left : ℕ) → is_table fs ≡ true → PutForm new (Err left) (line_at fs text) → left ≤ length text
err_left fs text new left t h = stuck_left (IsText fs) text left (line_no fs text left t (put_err new left (line_at fs text) h))

pub err_never : {A : Type 0} → (fs : List Form) (text new vs : List ℕ) (left i : ℕ) → is_table fs ≡ true → PutForm new (Err left) (line_at fs text) → Says fs i vs text → A
err_never fs text new vs left i t h s =
    let e : lost left ≡ found (i, vs) = sym (put_err new left (line_at fs text) h) ∙ line_again fs text i vs t s in
    absurd cc
  where
    found : ℕ × List ℕ → Result (ℕ × List ℕ) ℕ
    found x = Ok x

    lost : ℕ → Result (ℕ × List ℕ) ℕ
    lost n = Err n

pub err_column : (fs : List Form) (text new : List ℕ) (left : ℕ) → is_table fs ≡ true → PutForm new (Err left) (line_at fs text) → IsColumn (IsText fs) text (length text - left + 1)
err_column fs text new left t h = line_column fs text left t (put_err new left (line_at fs text) h)

pub long_refused : (fs : List Form) (text new : List ℕ) (i : ℕ) → is_table fs ≡ true → PutForm new (Ok i) (line_at fs text) → most_bytes < length text → IsRefused (IsText fs) text (most_bytes + 1)
long_refused fs text new i t h long = inr (refl, long, said_long (IsText fs) text (record { form = i; values = new; says = ok_said fs text new i t h }))

pub err_refused : (fs : List Form) (text new : List ℕ) (left : ℕ) → is_table fs ≡ true → PutForm new (Err left) (line_at fs text) → length text - left + 1 ≤ most_bytes + 1 → IsRefused (IsText fs) text (length text - left + 1)
err_refused fs text new left t h le = inl (le, err_column fs text new left t h)

pub err_long : (fs : List Form) (text new : List ℕ) (left : ℕ) → is_table fs ≡ true → PutForm new (Err left) (line_at fs text) → most_bytes + 1 < length text - left + 1 → IsRefused (IsText fs) text (most_bytes + 1)
err_long fs text new left t h lt = refused_long (IsText fs) text (length text - left + 1) lt (err_column fs text new left t h)
