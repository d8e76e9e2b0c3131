-- Reading from the front: a value and what follows, or how many bytes are left where nothing continues.
use Rattle.std.specs.Char.{is_ascii_digit}
use Rattle.std.specs.Prelude.{ℕ, zero, suc, ◌+◌, ◌-◌, ◌*◌, List, [], ◌∷◌, ◌++◌, Option, Some, None, Result, Ok, Err, if◌then◌else◌, ◌&&◌, nat_le, nat_lt, nat_eq, max, min, length, take}
use Rattle.text_forms.specs.Language.{most_bytes}
use Rattle.text_forms.specs.Forms.{number_limit, words_of, Form, words}
use Rattle.text_forms.specs.declared.part.Part.{Part}
use Rattle.text_forms.specs.declared.part.Part.TheVariants.{Number, Colon, Signed, Sign, Word, FirstByte, Byte}

abbrev pub Read : Type 0 → Type 0
Read A = Result (A × List ℕ) ℕ

infixl 10 ◌>>=◌
abbrev pub ◌>>=◌ : {A B : Type 0} → Result A ℕ → (A → Result B ℕ) → Result B ℕ
(Ok x) >>= f = f x
(Err e) >>= f = Err e

-- the digits that follow, at most k, after n
unfoldable pub digits_at : ℕ → ℕ → List ℕ → ℕ × List ℕ
digits_at n k [] = (n, [])
digits_at n zero (b ∷ bytes) = (n, b ∷ bytes)
digits_at n (suc k) (b ∷ bytes) = if is_ascii_digit b then digits_at (10 * n + (b - 48)) k bytes else (n, b ∷ bytes)

-- how many digits may follow a first digit
abbrev pub more_digits : ℕ → ℕ
more_digits b = if nat_eq b 48 then 0 else 12

-- a number whose first digit is at least that of `least`, 0 or 1
unfoldable pub number_at : ℕ → List ℕ → Read ℕ
number_at least [] = Err 0
number_at least (b ∷ bytes) =
    if is_ascii_digit b && nat_le (48 + least) b then Ok (digits_at (b - 48) (more_digits b) bytes) else Err (length (b ∷ bytes))

unfoldable pub byte_at : ℕ → List ℕ → Result (List ℕ) ℕ
byte_at want [] = Err 0
byte_at want (b ∷ bytes) = if nat_eq b want then Ok bytes else Err (length (b ∷ bytes))

abbrev pub raised : ℕ × List ℕ → ℕ × List ℕ
raised x = (x.0 + number_limit, x.1)

unfoldable pub signed_at : List ℕ → Read ℕ
signed_at [] = Err 0
signed_at (b ∷ bytes) =
    if nat_eq b 45 then (number_at 1 bytes >>= λ x. Ok (raised x)) else number_at 0 (b ∷ bytes)

unfoldable pub sign_at : List ℕ → Read ℕ
sign_at [] = Err 0
sign_at (b ∷ bytes) = if nat_eq b 43 then Ok (0, bytes) else if nat_eq b 45 then Ok (1, bytes) else Err (length (b ∷ bytes))

unfoldable pub hex_digit_at : List ℕ → Read ℕ
hex_digit_at [] = Err 0
hex_digit_at (b ∷ bytes) =
    if is_ascii_digit b then Ok (b - 48, bytes)
    else if nat_le 97 b && nat_le b 102 then Ok (b - 87, bytes)
    else Err (length (b ∷ bytes))

unfoldable pub hex_at : List ℕ → Read ℕ
hex_at bytes = do
  high ← hex_digit_at bytes
  low ← hex_digit_at high.1
  Ok (16 * high.0 + low.0, low.1)

-- what follows a word
unfoldable pub after_word : List ℕ → List ℕ → Option (List ℕ)
after_word [] bytes = Some bytes
after_word (w ∷ ws) [] = None
after_word (w ∷ ws) (b ∷ bytes) = if nat_eq b w then after_word ws bytes else None

-- how many bytes of a word the text begins with
unfoldable pub common : List ℕ → List ℕ → ℕ
common [] bytes = 0
common (w ∷ ws) [] = 0
common (w ∷ ws) (b ∷ bytes) = if nat_eq b w then suc (common ws bytes) else 0

abbrev pub word_or : ℕ → Option (List ℕ) → Read ℕ → Read ℕ
word_or k (Some rest) later = Ok (k, rest)
word_or k None later = later

-- the place of the word with which the text begins, counted from k, where longest is the most in common so far
unfoldable pub word_at : ℕ → ℕ → List (List ℕ) → List ℕ → Read ℕ
word_at k longest [] bytes = Err (length bytes - longest)
word_at k longest (w ∷ ws) bytes = word_or k (after_word w bytes) (word_at (suc k) (max longest (common w bytes)) ws bytes)

unfoldable pub part_at : Part → List ℕ → Read ℕ
part_at Number bytes = do
  rest ← byte_at 32 bytes
  number_at 0 rest
part_at Colon bytes = do
  rest ← byte_at 58 bytes
  number_at 0 rest
part_at Signed bytes = do
  rest ← byte_at 32 bytes
  signed_at rest
part_at Sign bytes = sign_at bytes
part_at (Word ws) bytes = word_at 0 0 (words_of ws) bytes
part_at FirstByte bytes = do
  rest ← byte_at 32 bytes
  hex_at rest
part_at Byte bytes = hex_at bytes

-- the values of parts, after those so far
unfoldable pub parts_at : List Part → List ℕ → Read (List ℕ)
parts_at [] bytes = Ok ([], bytes)
parts_at (p ∷ ps) bytes = do
  x ← part_at p bytes
  xs ← parts_at ps x.1
  Ok (x.0 ∷ xs.0, xs.1)

-- the values of a group that comes between so many and so many times, to the end of the text
unfoldable pub groups_at : List Part → ℕ → ℕ → List ℕ → Result (List ℕ) ℕ
groups_at group least most [] = if nat_eq least 0 then Ok [] else Err 0
groups_at group least zero (b ∷ bytes) = Err (length (b ∷ bytes))
groups_at group least (suc most) (b ∷ bytes) = do
  x ← parts_at group (b ∷ bytes)
  xs ← groups_at group (least - 1) most x.1
  Ok (x.0 ++ xs)

-- the values of a form whose word was read
unfoldable pub fields_at : Form → List ℕ → Result (List ℕ) ℕ
fields_at f bytes = do
  x ← parts_at f.parts bytes
  xs ← groups_at f.group f.least f.most x.1
  Ok (x.0 ++ xs)

-- the values of the form of this place in the table, whose word was read
unfoldable pub fields_in : List Form → ℕ → List ℕ → Result (List ℕ) ℕ
fields_in [] i bytes = Err 0
fields_in (f ∷ fs) zero bytes = fields_at f bytes
fields_in (f ∷ fs) (suc i) bytes = fields_in fs i bytes

-- a form's place in the table, and its values
unfoldable pub line_at : List Form → List ℕ → Result (ℕ × List ℕ) ℕ
line_at fs bytes = do
  x ← word_at 0 0 (words fs) bytes
  vs ← fields_in fs x.0 x.1
  Ok (x.0, vs)

-- the bytes of a text that tell what it says: those that a text may have, and one more
abbrev pub telling : List ℕ → List ℕ
telling text = take (most_bytes + 1) text

-- the form and the values of a text of so many bytes, by what reading gives; or the column at which it is refused
abbrev pub form_from : ℕ → Result (ℕ × List ℕ) ℕ → Result (ℕ × List ℕ) ℕ
form_from size (Ok x) = if nat_lt most_bytes size then Err (most_bytes + 1) else Ok x
form_from size (Err left) = Err (min (size - left + 1) (most_bytes + 1))

-- the place and the values of the form of the table that a text spells, or the column at which the table refuses it
unfoldable pub form_at : List Form → List ℕ → Result (ℕ × List ℕ) ℕ
form_at fs text = form_from (length (telling text)) (line_at fs (telling text))
