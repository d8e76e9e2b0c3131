-- What reading by the table of items tells of items.
use Rattle.std.proofs.Common.{◌≡◌, ℕ, ◌≤◌, List, length, Some, None, Result, Ok, Err, refl, sym, ap, subst, ◌∙◌}
use Rattle.text_forms.specs.declared.row.Row.{Row}
use Rattle.text_forms.specs.Forms.{Form, Says, IsText}
use Rattle.text_forms.specs.Language.{IsRefused, most_bytes}
use Rattle.text_forms.specs.Rows.{forms}
use Rattle.form_codec.specs.declared.fault.TextFault.{TextFault}
use Rattle.form_codec.proofs.Refused_one.{refused_one, refused_not, refused_same}
use Rattle.form_codec.proofs.Says_short.{says_short}
use Rattle.form_codec.proofs.Line_takes.{says_one}
use Rattle.form_codec.proofs.Form_taken.{form_taken, form_refused}
use Rattle.form_codec.proofs.Spelling_one.{spelling_one as text_one}
use Rattle.definitions.specs.declared.line_item.LineItem.{LineItem}
use Rattle.definitions.specs.ItemText.{item_forms, item_place, item_values, SaysItem, IsItem}
use Rattle.definitions.specs.ItemReading.{item_of, item_at}
use Rattle.line_text.proofs.Item_table.{item_table, item_short}
use Rattle.line_text.proofs.Item_said.{item_said, item_again, item_only, to_item, from_item}

-- by the rows, and by the values as a slice
pub said_at : (rows : List Row) (i : ℕ) (vs ws text : List ℕ) → forms rows ≡ item_forms → ws ≡ vs → Says (forms rows) i vs text → Says item_forms i ws text
said_at rows i vs ws text e h s = subst (λ xs. Says item_forms i xs text) (sym h) (subst (λ (fs : List Form). Says fs i vs text) e s)

same_item : (x y : LineItem) → Some x ≡ Some y → x ≡ y
same_item x y e = cc

-- the item of the values of a text is the one that the text says
pub some_said : (i : ℕ) (vs text : List ℕ) (x : LineItem) → Some x ≡ item_of i vs → Says item_forms i vs text → SaysItem x text
some_said i vs text x e s =
    let m = item_said i vs text s in
    subst (λ y. SaysItem y text) (sym (same_item x m.item (e ∙ m.read))) m.says

pub some_only : (i : ℕ) (vs text : List ℕ) (x y : LineItem) → Some x ≡ item_of i vs → Says item_forms i vs text → SaysItem y text → x ≡ y
some_only i vs text x y e s h =
    let o = says_one item_forms text i (item_place y) vs (item_values y) item_table s h in
    same_item x y (e ∙ item_only i vs y o.0 o.1)

pub none_never : (i : ℕ) (vs text : List ℕ) → None ≡ item_of i vs → Says item_forms i vs text → ⊥
none_never i vs text e s = let m = item_said i vs text s in absurd (wrong m.item (e ∙ m.read))
  where
    wrong : (x : LineItem) → None ≡ Some x → ⊥
    wrong x h = absurd cc

-- no item is too long
pub item_length : (x : LineItem) (text : List ℕ) → SaysItem x text → length text ≤ most_bytes
item_length x text s = says_short item_forms (item_place x) (item_values x) text item_short s

pub item_not : (x : LineItem) (text : List ℕ) (k : ℕ) → SaysItem x text → IsRefused IsItem text k → ⊥
item_not x text k s r = refused_not IsItem text k r (record { item = x; says = s }) (item_length x text s)

-- where the table refuses, the items do
pub item_refused : (rows : List Row) (text : List ℕ) (k : ℕ) → forms rows ≡ item_forms → IsRefused (IsText (forms rows)) text k → IsRefused IsItem text k
item_refused rows text k e r = refused_same (IsText item_forms) IsItem text k to_item from_item (subst (λ (fs : List Form). IsRefused (IsText fs) text k) e r)

abbrev pub refusal : ℕ → Result LineItem TextFault
refusal k = Err (record { column = k })

pub refusal_one : (text : List ℕ) (j k : ℕ) → IsRefused IsItem text j → IsRefused IsItem text k → refusal j ≡ refusal k
refusal_one text j k h r = ap refusal (refused_one IsItem text j k h r)

-- what was written is read back: an item has one spelling, and a text is that of one item

pub spelling_one : (x : LineItem) (s t : List ℕ) → SaysItem x s → SaysItem x t → s ≡ t
spelling_one x s t h k = text_one item_forms (item_place x) (item_values x) s t h k

pub item_one : (x y : LineItem) (text : List ℕ) → SaysItem x text → SaysItem y text → x ≡ y
item_one x y text h k = some_only (item_place x) (item_values x) text x y (sym (item_again x)) h k

-- reading on lists answers what the grammar tells

pub item_taken : (x : LineItem) (text : List ℕ) → SaysItem x text → item_at text ≡ Ok x
unfolding item_at
item_taken x text s = rw (form_taken item_forms text (item_values x) (item_place x) item_table s (item_length x text s), item_again x) refl

pub item_column : (text : List ℕ) (k : ℕ) → IsRefused IsItem text k → item_at text ≡ Err k
unfolding item_at
item_column text k h = rw (form_refused item_forms text k item_table (refused_same IsItem (IsText item_forms) text k from_item to_item h)) refl
