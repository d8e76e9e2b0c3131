-- The grammar of text lines as data: forms, and the one spelling of each with its values.
use Rattle.std.specs.Prelude.{◌≡◌, ◌≢◌, ℕ, zero, suc, ◌+◌, ◌-◌, ◌/◌, ◌%◌, ◌≤◌, ◌<◌, List, [], ◌∷◌, ◌++◌, length, get_or, nat_lt, nat_eq, if◌then◌else◌, codes}
use Rattle.std.specs.Fmt.{decimal}
use Rattle.text_forms.specs.declared.part.Part.{Part}
use Rattle.text_forms.specs.declared.part.Part.TheVariants.{Number, Colon, Signed, Sign, Word, FirstByte, Byte}
use Rattle.text_forms.specs.declared.part.Words.{Words}
use Rattle.text_forms.specs.declared.part.Words.TheVariants.{Kind, Position, Direction, Occupancy, KeepFault, Answer, EntryRefusal, EntryObstacle, ShortRefusal, SwitchObstacle, FrameFault, FieldFault}

abbrev pub words_of : Words → List (List ℕ)
words_of Kind = codes " eq" ∷ codes " un" ∷ []
words_of Position = codes " normal" ∷ codes " reverse" ∷ []
words_of Direction = codes " +" ∷ codes " -" ∷ []
words_of Occupancy = codes " free" ∷ codes " occ" ∷ []
words_of KeepFault = codes " old" ∷ codes " new" ∷ codes " get" ∷ []
words_of Answer = codes " taken" ∷ codes " refused" ∷ []
words_of EntryRefusal = codes " known" ∷ codes " toomany" ∷ codes " toolong" ∷ []
words_of EntryObstacle = codes " held" ∷ codes " notfree" ∷ []
words_of ShortRefusal = codes " away" ∷ codes " unequipped" ∷ codes " pending" ∷ codes " place" ∷ []
words_of SwitchObstacle = codes " held" ∷ codes " section" ∷ []
words_of FrameFault = codes " short" ∷ codes " version" ∷ codes " kind" ∷ codes " long" ∷ []
words_of FieldFault = codes " field" ∷ []

-- a number has at most 13 digits
abbrev pub number_limit : ℕ
number_limit = 10000000000000

abbrev pub signed_text : ℕ → List ℕ
signed_text v = if nat_lt v number_limit then decimal v else 45 ∷ decimal (v - number_limit)

abbrev pub sign_text : ℕ → List ℕ
sign_text v = if nat_eq v 0 then 43 ∷ [] else 45 ∷ []

abbrev pub hex_digit : ℕ → ℕ
hex_digit d = if nat_lt d 10 then 48 + d else 87 + d

abbrev pub byte_text : ℕ → List ℕ
byte_text v = hex_digit (v / 16) ∷ hex_digit (v % 16) ∷ []

-- the spelling of a part with this value
unfoldable pub part_text : Part → ℕ → List ℕ
part_text Number v = 32 ∷ decimal v
part_text Colon v = 58 ∷ decimal v
part_text Signed v = 32 ∷ signed_text v
part_text Sign v = sign_text v
part_text (Word ws) v = get_or (words_of ws) v []
part_text FirstByte v = 32 ∷ byte_text v
part_text Byte v = byte_text v

-- the values that a part may have
unfoldable pub PartFits : Part → ℕ → Type 0
PartFits Number v = v < number_limit
PartFits Colon v = v < number_limit
PartFits Signed v = (v < number_limit + number_limit) × (v ≢ number_limit)
PartFits Sign v = v < 2
PartFits (Word ws) v = v < length (words_of ws)
PartFits FirstByte v = v < 256
PartFits Byte v = v < 256

-- the spelling of parts with these values, one for each
unfoldable pub spelled : List Part → List ℕ → List ℕ
spelled [] vs = []
spelled (p ∷ ps) [] = []
spelled (p ∷ ps) (v ∷ vs) = part_text p v ++ spelled ps vs

unfoldable pub Fit : List Part → List ℕ → Type 0
Fit [] [] = Unit {0}
Fit [] (v ∷ vs) = ⊥
Fit (p ∷ ps) [] = ⊥
Fit (p ∷ ps) (v ∷ vs) = PartFits p v × Fit ps vs

-- a group of parts, so many times
unfoldable pub times : ℕ → List Part → List Part
times zero group = []
times (suc k) group = group ++ times k group

-- a form: its words, its parts, and a group of parts that comes between so many and so many times
pub record Form : Type 0 where
  pub word : List ℕ
  pub parts : List Part
  pub group : List Part
  pub least : ℕ
  pub most : ℕ

-- a word and parts
abbrev pub plain : List ℕ → List Part → Form
plain word parts = record { word = word; parts = parts; group = []; least = 0; most = 0 }

-- a word, parts, and a group of parts that comes between so many and so many times
abbrev pub repeated : List ℕ → List Part → List Part → ℕ → ℕ → Form
repeated word parts group least most = record { word = word; parts = parts; group = group; least = least; most = most }

-- the parts where the group comes so many times
abbrev pub parts_of : Form → ℕ → List Part
parts_of f k = f.parts ++ times k f.group

-- the text is a spelling of the form with these values
pub record Spells (f : Form) (vs : List ℕ) (text : List ℕ) : Type 0 where
  pub count : ℕ
  pub least : f.least ≤ count
  pub most : count ≤ f.most
  pub fit : Fit (parts_of f count) vs
  pub spelled : text ≡ f.word ++ spelled (parts_of f count) vs

-- the text is a spelling of the form of this place in the table
unfoldable pub Says : List Form → ℕ → List ℕ → List ℕ → Type 0
Says [] i vs text = ⊥
Says (f ∷ fs) zero vs text = Spells f vs text
Says (f ∷ fs) (suc i) vs text = Says fs i vs text

-- the texts of a table of forms
pub record IsText (fs : List Form) (text : List ℕ) : Type 0 where
  pub form : ℕ
  pub values : List ℕ
  pub says : Says fs form values text

abbrev pub words : List Form → List (List ℕ)
words [] = []
words (f ∷ fs) = f.word ∷ words fs
