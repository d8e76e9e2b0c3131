-- The first 4,097 bytes tell what a text line gives, among the items and in the script.
use Rattle.std.proofs.Common.{◌≡◌, ℕ, zero, suc, ◌+◌, ◌≤◌, ◌<◌, List, [], ◌∷◌, ◌++◌, length, take, Bool, true, false, ◌&&◌, refl, sym, ◌∙◌, ap, subst, length-append, arith}
use Rattle.std.proofs.lemmas.List.{take_all, take-append-le, length-take}
use Rattle.std.proofs.lemmas.Bool.{ltb-true, ltb-false, lt-ltb}
use Rattle.std.specs.Prelude.{nat_lt, nat_eq, bytes_eq, codes, Result, Ok, Err, if◌then◌else◌}
use Rattle.list_laws.proofs.By_test.{by_test}
use Rattle.text_forms.specs.Language.{most_bytes}
use Rattle.text_forms.specs.Forms.{Form}
use Rattle.text_forms.specs.Reading.{form_from, form_at}
use Rattle.definitions.specs.declared.item.Item.{Item}
use Rattle.definitions.specs.declared.event.Event.{Event}
use Rattle.definitions.specs.declared.document.Command.{Command}
use Rattle.definitions.specs.declared.document.ItemLine.{ItemLine}
use Rattle.definitions.specs.declared.document.ItemLine.TheVariants as says
use Rattle.definitions.specs.declared.document.EventLine.{EventLine}
use Rattle.definitions.specs.declared.document.EventLine.TheVariants as tells
use Rattle.definitions.specs.Track.{Line}
use Rattle.definitions.specs.World.{trains}
use Rattle.definitions.specs.Steps.{story_of}
use Rattle.definitions.specs.ItemText.{item_forms}
use Rattle.definitions.specs.ItemReading.{item_from, item_at}
use Rattle.definitions.specs.EventText.{event_forms}
use Rattle.definitions.specs.EventFields.{event_of, field_column, is_unbuilt}
use Rattle.definitions.specs.EventReading.{event_or, line_or, told}
use Rattle.definitions.specs.Grammar.{is_passed, said_item, item_line_of, event_line_of}
use Rattle.definitions.specs.Trace.{Stage, Items, Script, Checked, Over, Reading, among_items, in_script, in_check, stage_read, text_read}
use Rattle.byte_feed.specs.Feed.{kept_on}

-- A front says what the whole text says.

passed_front : (text : List ℕ) → is_passed (take 4097 text) ≡ is_passed text
passed_front [] = refl
passed_front (b ∷ text) = refl

word_front : (n : ℕ) (text word : List ℕ) → length word < n → bytes_eq (take n text) word ≡ bytes_eq text word
word_front zero text word h = absurd (omega arith)
word_front (suc n) [] word h = refl
word_front (suc n) (b ∷ text) [] h = refl
word_front (suc n) (b ∷ text) (w ∷ word) h = ap (λ same. nat_eq b w && same) (word_front n text word (omega arith))

front_again : (text : List ℕ) → take 4097 (take 4097 text) ≡ take 4097 text
front_again text = take_all 4097 (take 4097 text) (omega (arith, length-take 4097 text))

form_front : (fs : List Form) (text : List ℕ) → form_at fs (take 4097 text) ≡ form_at fs text
unfolding form_at
form_front fs text = rw (front_again text) refl

item_front : (text : List ℕ) → item_at (take 4097 text) ≡ item_at text
unfolding item_at
item_front text = ap item_from (form_front item_forms text)

pub item_line_front : (text : List ℕ) → item_line_of (take 4097 text) ≡ item_line_of text
unfolding item_line_of
item_line_front text = rw (passed_front text, word_front 4097 text (codes "script") (omega arith), word_front 4097 text (codes "plan") (omega arith), item_front text) refl

or_front : (text : List ℕ) (r : Result Event ℕ) → event_or (take 4097 text) r ≡ event_or text r
or_front text (Ok e) = refl
or_front text (Err k) = ap (λ (ys : List ℕ). Err (field_column k ys)) (front_again text)

told_front : (line : Line) (known text : List ℕ) (x : Result (ℕ × List ℕ) ℕ) → told line known (take 4097 text) x ≡ told line known text x
told_front line known text (Ok x) = ap (λ (r : Result Event ℕ). if is_unbuilt x.0 x.1 then tells.Unbuilt else line_or r) (or_front text (event_of line known x.0 x.1))
told_front line known text (Err column) = refl

pub event_line_front : (line : Line) (known text : List ℕ) → event_line_of line known (take 4097 text) ≡ event_line_of line known text
unfolding event_line_of
event_line_front line known text =
    ap (λ (p : Bool). if p then tells.Passed else told line known (take 4097 text) (form_at event_forms (take 4097 text))) (passed_front text)
    ∙ ap (λ (t : EventLine). if is_passed text then tells.Passed else t) (ap (told line known (take 4097 text)) (form_front event_forms text) ∙ told_front line known text (form_at event_forms text))

-- A longer text is no item, no word and no event, so it is not written again.

abbrev IsRefused : Result (ℕ × List ℕ) ℕ → Type 0
IsRefused (Ok x) = ⊥
IsRefused (Err column) = Unit {0}

from_long : (size : ℕ) (x : Result (ℕ × List ℕ) ℕ) → nat_lt most_bytes size ≡ true → IsRefused (form_from size x)
from_long size (Ok x) h = rw h tt
from_long size (Err left) h = tt

form_long : (fs : List Form) (text : List ℕ) → most_bytes < length text → IsRefused (form_at fs text)
unfolding form_at
form_long fs text h = from_long (length (take 4097 text)) _ (lt-ltb most_bytes (length (take 4097 text)) (omega (arith, length-take 4097 text)))

-- a text of a form has at most 4,096 bytes
pub form_short : (fs : List Form) (text : List ℕ) (x : ℕ × List ℕ) → form_at fs text ≡ Ok x → length text ≤ most_bytes
form_short fs text x h = by_test (nat_lt most_bytes (length text))
    (λ long. absurd (subst IsRefused h (form_long fs text (ltb-true most_bytes (length text) long))))
    (λ short. ltb-false most_bytes (length text) short)

word_short : (text word : List ℕ) → length word < length text → bytes_eq text word ≡ false
word_short [] word h = absurd (omega arith)
word_short (b ∷ text) [] h = refl
word_short (b ∷ text) (w ∷ word) h = by_test (nat_eq b w) (λ y. rw y (word_short text word (omega arith))) (λ n. rw n refl)

abbrev NoItem : ItemLine → Type 0
NoItem (says.Item i) = ⊥
NoItem says.Script = ⊥
NoItem _ = Unit {0}

refused_item : (x : Result (ℕ × List ℕ) ℕ) → IsRefused x → NoItem (said_item (item_from x))
refused_item (Ok x) h = absurd h
refused_item (Err column) h = tt

long_item : (text : List ℕ) → most_bytes < length text → NoItem (item_line_of text)
unfolding item_line_of item_at
long_item text h = by_test (is_passed text)
    (λ p. rw p tt)
    (λ p. by_test (bytes_eq text (codes "plan"))
    (λ q. rw (p, word_short text (codes "script") (omega arith), q) tt)
    (λ q. rw (p, word_short text (codes "script") (omega arith), q) (refused_item (form_at item_forms text) (form_long item_forms text h))))

abbrev NoEvent : EventLine → Type 0
NoEvent (tells.Event e) = ⊥
NoEvent _ = Unit {0}

refused_event : (line : Line) (known text : List ℕ) (x : Result (ℕ × List ℕ) ℕ) → IsRefused x → NoEvent (told line known text x)
refused_event line known text (Ok x) h = absurd h
refused_event line known text (Err column) h = tt

long_event : (line : Line) (known text : List ℕ) → most_bytes < length text → NoEvent (event_line_of line known text)
unfolding event_line_of
long_event line known text h = by_test (is_passed text)
    (λ p. rw p tt)
    (λ p. rw p (refused_event line known text (form_at event_forms text) (form_long event_forms text h)))

any_text : (c : Command) (n : ℕ) (items : List Item) (text other : List ℕ) (t : ItemLine) → NoItem t → among_items c n items text t ≡ among_items c n items other t
any_text c n items text other (says.Item i) h = absurd h
any_text c n items text other says.Script h = absurd h
any_text c n items text other _ h = refl

any_check : (n : ℕ) (line : Line) (known : List ℕ) (count : ℕ) (text other : List ℕ) (t : EventLine) → NoEvent t → in_check n line known count text t ≡ in_check n line known count other t
any_check n line known count text other (tells.Event e) h = absurd h
any_check n line known count text other _ h = refl

long_front : (c : Command) (n : ℕ) (s : Stage) (text : List ℕ) → most_bytes < length text → stage_read c n s (take 4097 text) ≡ stage_read c n s text
unfolding stage_read
long_front c n (Items items) text h = ap (among_items c n items (take 4097 text)) (item_line_front text) ∙ any_text c n items (take 4097 text) text (item_line_of text) (long_item text h)
long_front c n (Script line events count) text h = ap (in_script n line events count) (event_line_front line (trains (story_of line events)) text)
long_front c n (Checked line known count) text h = ap (in_check n line known count (take 4097 text)) (event_line_front line known text) ∙ any_check n line known count (take 4097 text) text (event_line_of line known text) (long_event line known text h)
long_front c n (Over ending) text h = refl

stage_front : (c : Command) (n : ℕ) (s : Stage) (text : List ℕ) → stage_read c n s (take 4097 text) ≡ stage_read c n s text
stage_front c n s text = by_test (nat_lt most_bytes (length text))
    (λ long. long_front c n s text (ltb-true most_bytes (length text) long))
    (λ short. ap (stage_read c n s) (take_all 4097 text (omega (arith, ltb-false most_bytes (length text) short))))

pub text_read_front : (r : Reading) (size : ℕ) (text : List ℕ) → text_read r size (take 4097 text) ≡ text_read r size text
unfolding text_read
text_read_front r size text = rw (stage_front r.command (r.number + 1) r.stage text) refl

pub kept_more : (part : List ℕ) (b : ℕ) → kept_on (take 4097 part) b ≡ take 4097 (part ++ b ∷ [])
kept_more part b = by_test (nat_lt (length (take 4097 part)) 4097)
    (λ short.
    let few : length part < 4097 = omega (arith, length-take 4097 part, ltb-true (length (take 4097 part)) 4097 short) in
    let more : length (part ++ b ∷ []) ≤ 4097 = omega (arith, length-append part (b ∷ [])) in
    rw short (ap (λ xs. xs ++ b ∷ []) (take_all 4097 part (omega arith)) ∙ sym (take_all 4097 (part ++ b ∷ []) more)))
    (λ full.
    let many : 4097 ≤ length part = omega (arith, length-take 4097 part, ltb-false (length (take 4097 part)) 4097 full) in
    rw full (sym (take-append-le 4097 part (b ∷ []) many)))
