-- Line items read from their texts: the item that values stand for, form by form, and the column where a text is none.
use Rattle.std.specs.Prelude.{ℕ, zero, suc, List, [], ◌∷◌, Option, Some, None, Result, Ok, Err, nat_eq, if◌then◌else◌}
use Rattle.track_points.specs.declared.ids.Dir.{Dir}
use Rattle.track_points.specs.declared.ids.Dir.TheVariants.{Up, Down}
use Rattle.text_forms.specs.Reading.{form_at}
use Rattle.definitions.specs.declared.item.End.{End}
use Rattle.definitions.specs.declared.line_item.SectionRange.{SectionRange}
use Rattle.definitions.specs.declared.line_item.LineItem.{LineItem}
use Rattle.definitions.specs.declared.line_item.LineItem.TheVariants.{Zone, Segment, Joint, Switch, Portal, Buffer, Section, Block, Brake, Silent}
use Rattle.definitions.specs.ItemText.{item_forms}

abbrev pub dir_of : ℕ → Dir
dir_of v = if nat_eq v 0 then Up else Down

abbrev pub end_of : ℕ → ℕ → End
end_of segment sign = record { segment = segment; dir = dir_of sign }

abbrev pub zone_of : List ℕ → Option LineItem
zone_of (z ∷ []) = Some (Zone z)
zone_of vs = None

abbrev pub segment_of : List ℕ → Option LineItem
segment_of (s ∷ z ∷ len ∷ []) = Some (Segment s z len)
segment_of vs = None

abbrev pub joint_of : List ℕ → Option LineItem
joint_of (a ∷ x ∷ b ∷ y ∷ []) = Some (Joint (end_of a x) (end_of b y))
joint_of vs = None

abbrev pub switch_of : List ℕ → Option LineItem
switch_of (w ∷ p ∷ x ∷ n ∷ y ∷ r ∷ z ∷ throat ∷ []) = Some (Switch w (end_of p x) (end_of n y) (end_of r z) throat)
switch_of vs = None

abbrev pub portal_of : List ℕ → Option LineItem
portal_of (s ∷ x ∷ []) = Some (Portal (end_of s x))
portal_of vs = None

abbrev pub buffer_of : List ℕ → Option LineItem
buffer_of (s ∷ x ∷ []) = Some (Buffer (end_of s x))
buffer_of vs = None

-- a range for each three values
unfoldable pub ranges_of : List ℕ → List SectionRange
ranges_of (s ∷ lo ∷ hi ∷ vs) = record { segment = s; lo = lo; hi = hi } ∷ ranges_of vs
ranges_of vs = []

abbrev pub section_of : List ℕ → Option LineItem
section_of (d ∷ vs) = Some (Section d (record { items = ranges_of vs }))
section_of [] = None

abbrev pub block_of : List ℕ → Option LineItem
block_of (b ∷ x ∷ vs) = Some (Block b (dir_of x) (record { items = vs }))
block_of vs = None

abbrev pub brake_of : List ℕ → Option LineItem
brake_of (t ∷ a ∷ r ∷ []) = Some (Brake t a r)
brake_of vs = None

abbrev pub silent_of : List ℕ → Option LineItem
silent_of (ms ∷ []) = Some (Silent ms)
silent_of vs = None

-- by the places of the table
abbrev pub item_of : ℕ → List ℕ → Option LineItem
item_of zero vs = zone_of vs
item_of (suc zero) vs = segment_of vs
item_of (suc (suc zero)) vs = joint_of vs
item_of (suc (suc (suc zero))) vs = switch_of vs
item_of (suc (suc (suc (suc zero)))) vs = portal_of vs
item_of (suc (suc (suc (suc (suc zero))))) vs = buffer_of vs
item_of (suc (suc (suc (suc (suc (suc zero)))))) vs = section_of vs
item_of (suc (suc (suc (suc (suc (suc (suc zero))))))) vs = block_of vs
item_of (suc (suc (suc (suc (suc (suc (suc (suc zero)))))))) vs = brake_of vs
item_of (suc (suc (suc (suc (suc (suc (suc (suc (suc zero))))))))) vs = silent_of vs
item_of i vs = None

-- an item; the values of a form of the table are always those of one
abbrev pub item_or : Option LineItem → Result LineItem ℕ
item_or (Some x) = Ok x
item_or None = Err 1

abbrev pub item_from : Result (ℕ × List ℕ) ℕ → Result LineItem ℕ
item_from (Ok x) = item_or (item_of x.0 x.1)
item_from (Err column) = Err column

-- the item that a text is, or the column at which the items refuse it
unfoldable pub item_at : List ℕ → Result LineItem ℕ
item_at text = item_from (form_at item_forms text)
