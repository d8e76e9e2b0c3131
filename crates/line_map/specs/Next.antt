-- What follows a step.
use Rattle.std.specs.Prelude.{◌≡◌, ◌≤◌, ⊤, [], ◌∷◌, Bool, true, false, if◌then◌else◌, Option, Some, None}
use Rattle.track_points.specs.declared.ids.DirSeg.{DirSeg}
use Rattle.definitions.specs.declared.item.End.{End}
use Rattle.definitions.specs.declared.item.Item.{Item}
use Rattle.definitions.specs.declared.item.Item.TheVariants.{Zone, Segment, Joint}
use Rattle.definitions.specs.declared.item.Item.TheVariants as item
use Rattle.definitions.specs.Track.{Line, end_eq, uses, flip, exit_of}
use Rattle.line_map.specs.declared.ends.EndUse.{EndUse}
use Rattle.line_map.specs.declared.ends.EndUse.TheVariants.{Free, Joined}
use Rattle.line_map.specs.declared.ends.EndUse.TheVariants as used
use Rattle.line_map.specs.declared.line.After.{After}
use Rattle.line_map.specs.declared.line.After.TheVariants.{Plain, Portal, Buffer}

-- the step that comes in at an end
abbrev pub step_in : End → DirSeg
step_in e = record { seg = record { 0 = e.segment }; dir = flip e.dir }

-- what an item that uses the end leads to
abbrev pub after_item : End → Item → After
after_item e (Joint a b) = if end_eq a e then Plain (step_in b) else Plain (step_in a)
after_item e (item.Portal a) = Portal
after_item e _ = Buffer

-- the segments of a joint have ids, as in a valid line
abbrev pub FitsIds : Item → Type 0
FitsIds (Joint a b) = (a.segment ≤ 32767) × (b.segment ≤ 32767)
FitsIds _ = ⊤

abbrev pub FitsUse : EndUse → Type 0
FitsUse (Joined e) = e.segment ≤ 32767
FitsUse _ = ⊤

-- what an end leads to, by what uses it
abbrev pub after_use : EndUse → After
after_use Free = Buffer
after_use (Joined e) = Plain (step_in e)
after_use used.Portal = Portal
after_use used.Buffer = Buffer

-- a joint uses an end, and its other end passes a test
abbrev pub joins_where : (End → Bool) → EndUse → Bool
joins_where test Free = false
joins_where test (Joined e) = test e
joins_where test used.Portal = false
joins_where test used.Buffer = false

abbrev pub is_portal_use : EndUse → Bool
is_portal_use Free = false
is_portal_use (Joined e) = false
is_portal_use used.Portal = true
is_portal_use used.Buffer = false

-- what follows a step: by the first item that uses its exit end. An end is used at most once (rule 6) and every end
-- is used (rule 7), so in a valid line there is exactly one such item; where there is none, this says Buffer.
unfoldable pub after_end : Line → End → After
after_end [] e = Buffer
after_end (i ∷ line) e = if uses e i then after_item e i else after_end line e

abbrev pub after_of : Line → DirSeg → After
after_of line step = after_end line (exit_of step)

-- a step comes next exactly where a step follows, and that one
abbrev pub AfterIs : Option DirSeg → After → Type 0
AfterIs (Some b) (Plain c) = b ≡ c
AfterIs (Some b) _ = ⊥
AfterIs None (Plain c) = ⊥
AfterIs None _ = ⊤
