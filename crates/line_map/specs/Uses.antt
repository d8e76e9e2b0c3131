-- What uses an end of a segment.
use Rattle.std.specs.Prelude.{Bool, true, false, [], ◌∷◌, if◌then◌else◌}
use Rattle.definitions.specs.declared.item.End.{End}
use Rattle.definitions.specs.declared.item.Item.{Item}
use Rattle.definitions.specs.declared.item.Item.TheVariants.{Zone, Segment, Joint, Brake, Silent}
use Rattle.definitions.specs.declared.item.Item.TheVariants as item
use Rattle.definitions.specs.Track.{Line, end_eq}
use Rattle.line_map.specs.declared.ends.EndUse.{EndUse}
use Rattle.line_map.specs.declared.ends.EndUse.TheVariants.{Free, Joined, Portal, Buffer}

-- of two uses the first, and where that is none the second
abbrev pub first_use : EndUse → EndUse → EndUse
first_use Free u = u
first_use (Joined e) u = Joined e
first_use Portal u = Portal
first_use Buffer u = Buffer

abbrev pub is_free : EndUse → Bool
is_free Free = true
is_free (Joined e) = false
is_free Portal = false
is_free Buffer = false

-- how an item uses an end
abbrev pub use_in : End → Item → EndUse
use_in e (Zone z) = Free
use_in e (Segment s z len) = Free
use_in e (Joint a b) = if end_eq a e then Joined b else if end_eq b e then Joined a else Free
use_in e (item.Portal a) = if end_eq a e then Portal else Free
use_in e (item.Buffer a) = if end_eq a e then Buffer else Free
use_in e (Brake ticks runaway rate) = Free
use_in e (Silent ms) = Free

-- how the first item that uses an end does; free where none does
unfoldable pub use_of : Line → End → EndUse
use_of [] e = Free
use_of (i ∷ items) e = first_use (use_in e i) (use_of items e)
