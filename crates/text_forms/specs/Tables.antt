-- The tests that a table of forms keeps to be read: no text is of two of its forms, each byte decides, and the values have room.
-- A table that is only written may have several forms of one word.
use Rattle.std.specs.Char.{is_ascii_digit}
use Rattle.std.specs.Prelude.{ℕ, ◌+◌, ◌*◌, List, [], ◌∷◌, length, Bool, true, false, ◌&&◌, ◌||◌, not, nat_le, nat_eq}
use Rattle.text_forms.specs.declared.part.Part.{Part}
use Rattle.text_forms.specs.declared.part.Part.TheVariants.{Number, Colon, Signed, Sign, Word, FirstByte, Byte}
use Rattle.text_forms.specs.Forms.{Form, words}
use Rattle.text_forms.specs.Language.{most_bytes}

-- one of the two is the beginning of the other
unfoldable pub alike : List ℕ → List ℕ → Bool
alike [] v = true
alike (a ∷ w) [] = true
alike (a ∷ w) (b ∷ v) = nat_eq a b && alike w v

unfoldable pub unlike_all : List ℕ → List (List ℕ) → Bool
unlike_all w [] = true
unlike_all w (v ∷ vs) = not (alike w v) && unlike_all w vs

-- no word is the beginning of another
unfoldable pub apart : List (List ℕ) → Bool
apart [] = true
apart (w ∷ ws) = unlike_all w ws && apart ws

abbrev pub is_plain : List ℕ → Bool
is_plain [] = false
is_plain (b ∷ w) = not (is_ascii_digit b)

-- no word is empty or begins with a digit
unfoldable pub plain_words : List (List ℕ) → Bool
plain_words [] = true
plain_words (w ∷ ws) = is_plain w && plain_words ws

-- parts after which a digit would be read on
abbrev pub ends_number : Part → Bool
ends_number Number = true
ends_number Colon = true
ends_number Signed = true
ends_number Sign = false
ends_number (Word ws) = false
ends_number FirstByte = false
ends_number Byte = false

-- parts that begin with no digit
abbrev pub starts_plain : Part → Bool
starts_plain Number = true
starts_plain Colon = true
starts_plain Signed = true
starts_plain Sign = true
starts_plain (Word ws) = true
starts_plain FirstByte = true
starts_plain Byte = false

-- parts that begin with no digit, where what follows does so
abbrev pub plain_parts : List Part → Bool → Bool
plain_parts [] next = next
plain_parts (p ∷ ps) next = starts_plain p

-- no digit follows a number
unfoldable pub clear : List Part → Bool → Bool
clear [] next = true
clear (p ∷ ps) next = (not (ends_number p) || plain_parts ps next) && clear ps next

abbrev pub is_filled : List Part → Bool
is_filled [] = false
is_filled (p ∷ ps) = true

-- a form that can be read byte by byte: no digit follows a number, and what is repeated is not empty
unfoldable pub is_clear : Form → Bool
is_clear f = clear f.parts (plain_parts f.group true) && (clear f.group (plain_parts f.group true) && (nat_le f.least f.most && (nat_eq f.most 0 || is_filled f.group)))

unfoldable pub all_clear : List Form → Bool
all_clear [] = true
all_clear (f ∷ fs) = is_clear f && all_clear fs

-- forms of which each text line is of at most one, with the same values
unfoldable pub is_table : List Form → Bool
is_table [] = false
is_table (f ∷ fs) = apart (words (f ∷ fs)) && all_clear (f ∷ fs)

-- the values of each form fit into a list of 2,048
abbrev pub has_room : List Form → Bool
has_room [] = true
has_room (f ∷ fs) = nat_le (length f.parts + f.most * length f.group) 2048 && has_room fs

-- a part has at most 16 bytes, so no text of the form is too long
abbrev pub is_short : Form → Bool
is_short f = nat_le (length f.word + 16 * (length f.parts + f.most * length f.group)) most_bytes

abbrev pub all_short : List Form → Bool
all_short [] = true
all_short (f ∷ fs) = is_short f && all_short fs
