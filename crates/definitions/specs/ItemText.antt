-- The text of line items: the table of their forms, and the place and the values of each item in it.
use Rattle.std.specs.Prelude.{ℕ, List, [], ◌∷◌, Option, Some, None, codes}
use Rattle.text_forms.specs.declared.part.Part.TheVariants.{Number, Colon, Sign, Word}
use Rattle.text_forms.specs.declared.part.Words.TheVariants.{Direction}
use Rattle.text_forms.specs.Forms.{Form, plain, repeated, Says}
use Rattle.track_points.specs.declared.ids.Dir.{Dir}
use Rattle.track_points.specs.declared.ids.Dir.TheVariants.{Up, Down}
use Rattle.definitions.specs.declared.item.Item.{Item}
use Rattle.definitions.specs.declared.item.Item.TheVariants as known
use Rattle.definitions.specs.declared.line_item.SectionRange.{SectionRange}
use Rattle.definitions.specs.declared.line_item.LineItem.{LineItem}
use Rattle.definitions.specs.declared.line_item.LineItem.TheVariants.{Zone, Segment, Joint, Switch, Portal, Buffer, Section, Block, Brake, Silent}

-- an end is a number and a sign; a range of a section is a number and two more, each after a colon
unfoldable pub item_forms : List Form
item_forms =
    plain (codes "zone") (Number ∷ [])
    ∷ plain (codes "segment") (Number ∷ Number ∷ Number ∷ [])
    ∷ plain (codes "joint") (Number ∷ Sign ∷ Number ∷ Sign ∷ [])
    ∷ plain (codes "switch") (Number ∷ Number ∷ Sign ∷ Number ∷ Sign ∷ Number ∷ Sign ∷ Number ∷ [])
    ∷ plain (codes "portal") (Number ∷ Sign ∷ [])
    ∷ plain (codes "buffer") (Number ∷ Sign ∷ [])
    ∷ repeated (codes "section") (Number ∷ []) (Number ∷ Colon ∷ Colon ∷ []) 1 3
    ∷ repeated (codes "block") (Number ∷ Word Direction ∷ []) (Number ∷ []) 1 16
    ∷ plain (codes "brake") (Number ∷ Number ∷ Number ∷ [])
    ∷ plain (codes "silent") (Number ∷ [])
    ∷ []

-- the place of an item's form in the table
abbrev pub item_place : LineItem → ℕ
item_place (Zone z) = 0
item_place (Segment s z len) = 1
item_place (Joint a b) = 2
item_place (Switch w point normal reverse throat) = 3
item_place (Portal a) = 4
item_place (Buffer a) = 5
item_place (Section d ranges) = 6
item_place (Block b dir segments) = 7
item_place (Brake ticks runaway rate) = 8
item_place (Silent ms) = 9

abbrev pub sign_value : Dir → ℕ
sign_value Up = 0
sign_value Down = 1

unfoldable pub range_values : List SectionRange → List ℕ
range_values [] = []
range_values (r ∷ ranges) = r.segment ∷ r.lo ∷ r.hi ∷ range_values ranges

-- the values of an item's parts
abbrev pub item_values : LineItem → List ℕ
item_values (Zone z) = z ∷ []
item_values (Segment s z len) = s ∷ z ∷ len ∷ []
item_values (Joint a b) = a.segment ∷ sign_value a.dir ∷ b.segment ∷ sign_value b.dir ∷ []
item_values (Switch w point normal reverse throat) =
    w ∷ point.segment ∷ sign_value point.dir ∷ normal.segment ∷ sign_value normal.dir ∷ reverse.segment ∷ sign_value reverse.dir ∷ throat ∷ []
item_values (Portal a) = a.segment ∷ sign_value a.dir ∷ []
item_values (Buffer a) = a.segment ∷ sign_value a.dir ∷ []
item_values (Section d ranges) = d ∷ range_values ranges.items
item_values (Block b dir segments) = b ∷ sign_value dir ∷ segments.items
item_values (Brake ticks runaway rate) = ticks ∷ runaway ∷ rate ∷ []
item_values (Silent ms) = ms ∷ []

-- the text is the spelling of the item
abbrev pub SaysItem : LineItem → List ℕ → Type 0
SaysItem x text = Says item_forms (item_place x) (item_values x) text

-- the text is a line item
pub record IsItem (text : List ℕ) : Type 0 where
  pub item : LineItem
  pub says : SaysItem item text

-- the item whose meaning is built
abbrev pub built_item : LineItem → Option Item
built_item (Zone z) = Some (known.Zone z)
built_item (Segment s z len) = Some (known.Segment s z len)
built_item (Joint a b) = Some (known.Joint a b)
built_item (Switch w point normal reverse throat) = None
built_item (Portal a) = Some (known.Portal a)
built_item (Buffer a) = Some (known.Buffer a)
built_item (Section d ranges) = None
built_item (Block b dir segments) = None
built_item (Brake ticks runaway rate) = Some (known.Brake ticks runaway rate)
built_item (Silent ms) = Some (known.Silent ms)
