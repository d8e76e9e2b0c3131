-- A document byte by byte. Of a text line at most 4,097 bytes are kept, and their number.
use Rattle.std.specs.Prelude.{◌≡◌, ℕ, ◌+◌, ◌-◌, List, [], ◌∷◌, ◌++◌, length, take, Bool, false, ◌||◌, if◌then◌else◌, nat_lt, nat_eq}
use Rattle.definitions.specs.Trace.{Reading, Step, is_over, input_limit, text_read, line_read, stage_ends, Given, behind, ended}

-- after the whole text lines: the front of the text line that has begun, and how many bytes it has
pub record Feed : Type 0 where
  pub reading : Reading
  pub kept : List ℕ
  pub size : ℕ

-- no text line has begun
abbrev pub opened : Reading → Feed
opened r = record { reading = r; kept = []; size = 0 }

-- a byte taken: where it leads, and the text that it gives
pub record Fed : Type 0 where
  pub next : Feed
  pub text : List ℕ

-- the byte that ends a text line
abbrev pub line_fed : Step → Fed
line_fed x = record { next = opened x.next; text = x.text }

-- one byte more of a text line, where there is room
abbrev pub kept_on : List ℕ → ℕ → List ℕ
kept_on kept b = if nat_lt (length kept) 4097 then kept ++ b ∷ [] else kept

-- a run of bytes more of a text line, as far as there is room
abbrev pub kept_run : List ℕ → List ℕ → List ℕ
kept_run kept run = kept ++ take (4097 - length kept) run

abbrev pub run_on : Feed → List ℕ → Feed
run_on f run = record f { kept = kept_run f.kept run; size = f.size + length run }

-- one byte more
unfoldable pub fed : Feed → ℕ → Fed
fed f b =
    if is_over f.reading.stage then record { next = f; text = [] }
    else if nat_lt input_limit (f.reading.bytes + (f.size + 1)) then line_fed (text_read f.reading (f.size + 1) f.kept)
    else if nat_eq b 10 then line_fed (text_read f.reading (f.size + 1) f.kept)
    else record { next = record f { kept = kept_on f.kept b; size = f.size + 1 }; text = [] }

-- the end of the input
unfoldable pub closed : Feed → Step
closed f = if nat_eq f.size 0 then record { next = f.reading; text = [] } else text_read f.reading f.size f.kept

-- what further bytes give
unfoldable pub fed_gives : Feed → List ℕ → Given
fed_gives f [] = behind (closed f).text (ended (stage_ends (closed f).next.number (closed f).next.stage))
fed_gives f (b ∷ bytes) = behind (fed f b).text (fed_gives (fed f b).next bytes)

-- where a piece leads
unfoldable pub feds : Feed → List ℕ → Feed
feds f [] = f
feds f (b ∷ bytes) = feds (fed f b).next bytes

-- the text that a piece gives
unfoldable pub feds_text : Feed → List ℕ → List ℕ
feds_text f [] = []
feds_text f (b ∷ bytes) = (fed f b).text ++ feds_text (fed f b).next bytes

-- a piece leads there, and gives that text
pub record Leads (f : Feed) (piece : List ℕ) (x : Fed) : Type 0 where
  pub next : feds f piece ≡ x.next
  pub text : feds_text f piece ≡ x.text

-- the bytes taken
abbrev pub total : Feed → ℕ
total f = f.reading.bytes + f.size

-- an LF is among the bytes
unfoldable pub ends_lf : List ℕ → Bool
ends_lf [] = false
ends_lf (b ∷ bytes) = nat_eq b 10 || ends_lf bytes

-- the text lines that an LF ends
unfoldable pub whole_lines : List (List ℕ) → List (List ℕ)
whole_lines [] = []
whole_lines (line ∷ lines) = if ends_lf line then line ∷ whole_lines lines else []

-- the text that text lines give
unfoldable pub lines_text : Reading → List (List ℕ) → List ℕ
lines_text r [] = []
lines_text r (line ∷ lines) = (line_read r line).text ++ lines_text (line_read r line).next lines
