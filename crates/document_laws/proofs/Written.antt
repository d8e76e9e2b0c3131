-- What a command writes of text lines that it passes on: a check those that say something.
use Rattle.std.proofs.Common.{◌≡◌, ℕ, List, [], ◌∷◌, ◌++◌, Bool, true, false, refl, sym, ◌∙◌, ap, append_assoc}
use Rattle.std.specs.Prelude.{bytes_eq, codes, Option, Some, None, Result, Ok, Err}
use Rattle.list_laws.proofs.By_test.{by_test}
use Rattle.text_forms.specs.Reading.{form_at}
use Rattle.definitions.specs.declared.event.Event.{Event}
use Rattle.definitions.specs.declared.item.Item.{Item}
use Rattle.definitions.specs.declared.line_item.LineItem.{LineItem}
use Rattle.definitions.specs.declared.document.Command.{Command}
use Rattle.definitions.specs.declared.document.Command.TheVariants as is
use Rattle.definitions.specs.declared.document.ItemLine.{ItemLine}
use Rattle.definitions.specs.declared.document.ItemLine.TheVariants as says
use Rattle.definitions.specs.declared.document.EventLine.{EventLine}
use Rattle.definitions.specs.declared.document.EventLine.TheVariants as tells
use Rattle.definitions.specs.declared.document.Ending.{Ending}
use Rattle.definitions.specs.Track.{Line}
use Rattle.definitions.specs.Lines.{text_of}
use Rattle.definitions.specs.Endings.{end_line}
use Rattle.definitions.specs.ItemText.{built_item}
use Rattle.definitions.specs.ItemReading.{item_at}
use Rattle.definitions.specs.EventText.{event_forms}
use Rattle.definitions.specs.EventFields.{event_of, is_unbuilt}
use Rattle.definitions.specs.EventReading.{event_or, line_or, told}
use Rattle.definitions.specs.Grammar.{is_passed, built_line, said_item, item_line_of, event_line_of}
use Rattle.definitions.specs.Trace.{again, behind, ended}
use Rattle.document_laws.specs.Whole.{kept_lines}
use Rattle.document_laws.specs.Refused.{items_ended}

-- A text line says nothing where it is passed over.

abbrev pub says_nothing : ItemLine → Bool
says_nothing says.Passed = true
says_nothing _ = false

built_says : (x : Option Item) → says_nothing (built_line x) ≡ false
built_says (Some i) = refl
built_says None = refl

item_says : (x : Result LineItem ℕ) → says_nothing (said_item x) ≡ false
item_says (Ok x) = built_says (built_item x)
item_says (Err column) = refl

pub passed_says : (text : List ℕ) → is_passed text ≡ says_nothing (item_line_of text)
unfolding item_line_of
passed_says text = by_test (is_passed text)
    (λ p. rw p refl)
    (λ p. by_test (bytes_eq text (codes "script"))
    (λ q. rw (p, q) refl)
    (λ q. by_test (bytes_eq text (codes "plan"))
    (λ u. rw (p, q, u) refl)
    (λ u. rw (p, q, u) (sym (item_says (item_at text))))))

abbrev pub tells_nothing : EventLine → Bool
tells_nothing tells.Passed = true
tells_nothing _ = false

line_tells : (x : Result Event ℕ) → tells_nothing (line_or x) ≡ false
line_tells (Ok e) = refl
line_tells (Err column) = refl

told_tells : (line : Line) (known text : List ℕ) (x : Result (ℕ × List ℕ) ℕ) → tells_nothing (told line known text x) ≡ false
told_tells line known text (Ok x) = by_test (is_unbuilt x.0 x.1)
    (λ y. rw y refl)
    (λ n. rw n (line_tells (event_or text (event_of line known x.0 x.1))))
told_tells line known text (Err column) = refl

pub passed_tells : (line : Line) (known text : List ℕ) → is_passed text ≡ tells_nothing (event_line_of line known text)
unfolding event_line_of
passed_tells line known text = by_test (is_passed text)
    (λ p. rw p refl)
    (λ p. rw p (sym (told_tells line known text (form_at event_forms text))))

-- What is written of text lines that are passed on.

abbrev pub written : Command → List (List ℕ) → List ℕ
written is.Run lines = []
written is.Check lines = kept_lines lines

pub written_none : (c : Command) → written c [] ≡ []
unfolding kept_lines
written_none is.Run = refl
written_none is.Check = refl

pub passed_written : (c : Command) (line : List ℕ) (lines : List (List ℕ)) → is_passed (text_of line) ≡ true → written c (line ∷ lines) ≡ written c lines
unfolding kept_lines
passed_written is.Run line lines h = refl
passed_written is.Check line lines h = rw h refl

pub said_written : (c : Command) (line : List ℕ) (lines : List (List ℕ)) → is_passed (text_of line) ≡ false → written c (line ∷ lines) ≡ again c (text_of line) ++ written c lines
unfolding kept_lines
said_written is.Run line lines h = refl
said_written is.Check line lines h = rw h (sym (append_assoc (text_of line) end_line (kept_lines lines)))

pub written_then : (c : Command) (lines rest : List (List ℕ)) → written c (lines ++ rest) ≡ written c lines ++ written c rest
unfolding kept_lines
written_then is.Run lines rest = refl
written_then is.Check [] rest = refl
written_then is.Check (l ∷ lines) rest = by_test (is_passed (text_of l))
    (λ p. rw p (written_then is.Check lines rest))
    (λ p. rw p (ap (λ (t : List ℕ). text_of l ++ (end_line ++ t)) (written_then is.Check lines rest)
    ∙ (ap (λ (t : List ℕ). text_of l ++ t) (sym (append_assoc end_line (kept_lines lines) (kept_lines rest)))
    ∙ sym (append_assoc (text_of l) (end_line ++ kept_lines lines) (kept_lines rest)))))

pub written_ended : (c : Command) (lines : List (List ℕ)) (ending : Ending) → behind (written c lines) (ended ending) ≡ items_ended c lines ending
written_ended is.Run lines ending = refl
written_ended is.Check lines ending = refl
