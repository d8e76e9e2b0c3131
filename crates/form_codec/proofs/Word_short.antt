-- What each set of words keeps.
use Rattle.std.proofs.Common.{◌≡◌, ℕ, zero, suc, ◌≤◌, ◌<◌, List, [], ◌∷◌, length, Bool, true, ◌&&◌, refl, arith, get_or}
use Rattle.std.specs.Prelude.{nat_le, nat_lt}
use Rattle.std.proofs.lemmas.Bool.{leb-true, ltb-true}
use Rattle.text_forms.specs.declared.part.Words.{Words}
use Rattle.text_forms.specs.declared.part.Words.TheVariants.{Kind, Position, Direction, Occupancy, KeepFault, Answer, EntryRefusal, EntryObstacle, ShortRefusal, SwitchObstacle, FrameFault, FieldFault}
use Rattle.text_forms.specs.Forms.{words_of}
use Rattle.text_forms.specs.Tables.{apart, unlike_all, alike, plain_words}
use Rattle.form_codec.proofs.Digits.{first_true, second_true}

abbrev short_words : List (List ℕ) → Bool
short_words [] = true
short_words (w ∷ ws) = nat_le (length w) 16 && short_words ws

abbrev is_set : List (List ℕ) → Bool
is_set ws = apart ws && (plain_words ws && (short_words ws && nat_lt 0 (length ws)))

set_of : (ws : Words) → is_set (words_of ws) ≡ true
unfolding apart unlike_all alike plain_words
set_of Kind = refl
set_of Position = refl
set_of Direction = refl
set_of Occupancy = refl
set_of KeepFault = refl
set_of Answer = refl
set_of EntryRefusal = refl
set_of EntryObstacle = refl
set_of ShortRefusal = refl
set_of SwitchObstacle = refl
set_of FrameFault = refl
set_of FieldFault = refl

record WordSet (ws : List (List ℕ)) : Type 0 where
  words_apart : apart ws ≡ true
  words_plain : plain_words ws ≡ true
  words_short : short_words ws ≡ true
  words_some : nat_lt 0 (length ws) ≡ true

set_is : (ws : List (List ℕ)) → is_set ws ≡ true → WordSet ws
set_is ws h =
    let a = apart ws in
    let b = plain_words ws in
    let c = short_words ws in
    let d = nat_lt 0 (length ws) in
    let r = second_true a (b && (c && d)) h in
    let s = second_true b (c && d) r in
    record { words_apart = first_true a (b && (c && d)) h; words_plain = first_true b (c && d) r; words_short = first_true c d s; words_some = second_true c d s }

pub words_apart : (ws : Words) → apart (words_of ws) ≡ true
words_apart ws = (set_is (words_of ws) (set_of ws)).words_apart

pub words_plain : (ws : Words) → plain_words (words_of ws) ≡ true
words_plain ws = (set_is (words_of ws) (set_of ws)).words_plain

pub words_some : (ws : Words) → 0 < length (words_of ws)
words_some ws = ltb-true 0 (length (words_of ws)) (set_is (words_of ws) (set_of ws)).words_some

short_at : (ws : List (List ℕ)) (k : ℕ) → short_words ws ≡ true → length (get_or ws k []) ≤ 16
short_at [] k h = omega arith
short_at (w ∷ ws) zero h = leb-true (length w) 16 (first_true (nat_le (length w) 16) (short_words ws) h)
short_at (w ∷ ws) (suc k) h = short_at ws k (second_true (nat_le (length w) 16) (short_words ws) h)

-- a word of a set has at most 16 bytes
pub word_short : (ws : Words) (k : ℕ) → length (get_or (words_of ws) k []) ≤ 16
word_short ws k = short_at (words_of ws) k (set_is (words_of ws) (set_of ws)).words_short
