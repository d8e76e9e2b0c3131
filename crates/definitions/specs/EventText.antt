-- The text of events: the table of their forms, and the place and the values of each event in it.
use Rattle.std.specs.Prelude.{ℕ, ℤ, pos, negsuc, suc, ◌+◌, List, [], ◌∷◌, Bool, true, false, codes}
use Rattle.text_forms.specs.declared.part.Part.TheVariants.{Number, Signed, Sign, Word, FirstByte, Byte}
use Rattle.text_forms.specs.declared.part.Words.TheVariants as sets
use Rattle.text_forms.specs.Forms.{Form, plain, repeated, number_limit, Says}
use Rattle.track_points.specs.declared.ids.TrainId.{TrainId}
use Rattle.track_points.specs.declared.ids.DirSeg.{DirSeg}
use Rattle.definitions.specs.ItemText.{sign_value}
use Rattle.definitions.specs.declared.event.Kind.{Kind}
use Rattle.definitions.specs.declared.event.Kind.TheVariants as kinds
use Rattle.definitions.specs.declared.event.Occupancy.{Occupancy}
use Rattle.definitions.specs.declared.event.Occupancy.TheVariants as shows
use Rattle.track_points.specs.declared.ids.Position.{Position}
use Rattle.track_points.specs.declared.ids.Position.TheVariants as lies
use Rattle.definitions.specs.declared.event.KeepFail.{KeepFail}
use Rattle.definitions.specs.declared.event.KeepFail.TheVariants as fails
use Rattle.definitions.specs.declared.event.Event.{Event}
use Rattle.definitions.specs.declared.event.Event.TheVariants as is

-- a step is a number and a sign; those of an ask begin with its third number, and its last number has no sign
unfoldable pub event_forms : List Form
event_forms =
    plain (codes "train") (Number ∷ Number ∷ Number ∷ Number ∷ Word sets.Kind ∷ [])
    ∷ plain (codes "entry") (Number ∷ Number ∷ Sign ∷ [])
    ∷ plain (codes "enter") (Number ∷ [])
    ∷ repeated (codes "step") (Number ∷ []) (Number ∷ Number ∷ []) 0 1023
    ∷ plain (codes "report") (Number ∷ Number ∷ Number ∷ Sign ∷ Signed ∷ Number ∷ [])
    ∷ plain (codes "detect") (Number ∷ Word sets.Occupancy ∷ [])
    ∷ plain (codes "scan") []
    ∷ plain (codes "time") (Number ∷ Number ∷ [])
    ∷ repeated (codes "ask") (Number ∷ Number ∷ Number ∷ []) (Sign ∷ Number ∷ []) 1 24
    ∷ plain (codes "order close") (Number ∷ [])
    ∷ plain (codes "order open") (Number ∷ [])
    ∷ plain (codes "order turn") (Number ∷ Word sets.Direction ∷ [])
    ∷ plain (codes "order set") (Number ∷ Word sets.Position ∷ [])
    ∷ plain (codes "order short") (Number ∷ Number ∷ Number ∷ Sign ∷ Signed ∷ [])
    ∷ plain (codes "echo") (Number ∷ [])
    ∷ plain (codes "leave") (Number ∷ [])
    ∷ plain (codes "take") (Number ∷ Number ∷ Number ∷ [])
    ∷ plain (codes "deliver") (Number ∷ [])
    ∷ plain (codes "restart") (Number ∷ [])
    ∷ plain (codes "keepfail") (Number ∷ Word sets.KeepFault ∷ [])
    ∷ repeated (codes "noise") (Number ∷ Number ∷ FirstByte ∷ []) (Byte ∷ []) 0 127
    ∷ plain (codes "round") (Number ∷ [])
    ∷ plain (codes "lost") (Number ∷ Number ∷ Number ∷ [])
    ∷ []

abbrev pub kind_value : Kind → ℕ
kind_value kinds.Equipped = 0
kind_value kinds.Unequipped = 1

abbrev pub occupancy_value : Occupancy → ℕ
occupancy_value shows.Free = 0
occupancy_value shows.Occupied = 1

abbrev pub position_value : Position → ℕ
position_value lies.Normal = 0
position_value lies.Reverse = 1

abbrev pub keep_value : KeepFail → ℕ
keep_value fails.PutOld = 0
keep_value fails.PutNew = 1
keep_value fails.Get = 2

abbrev pub flag_value : Bool → ℕ
flag_value false = 0
flag_value true = 1

-- a number with a `-` has a value above those without
abbrev pub offset_value : ℤ → ℕ
offset_value (pos n) = n
offset_value (negsuc n) = number_limit + suc n

unfoldable pub step_values : List DirSeg → List ℕ → List ℕ
step_values [] more = more
step_values (st ∷ steps) more = st.seg.0 ∷ sign_value st.dir ∷ step_values steps more

unfoldable pub move_values : List (TrainId × ℕ) → List ℕ
move_values [] = []
move_values (m ∷ moves) = m.0.0 ∷ m.1 ∷ move_values moves

-- the place of an event's form in the table
abbrev pub event_place : Event → ℕ
event_place (is.Train t len err v kind) = 0
event_place (is.Entry t st) = 1
event_place (is.Enter t) = 2
event_place (is.Step ms moves) = 3
event_place (is.Report t z st off whole) = 4
event_place (is.Detect d shown) = 5
event_place is.Scan = 6
event_place (is.Time z t) = 7
event_place (is.Ask t z steps to) = 8
event_place (is.Close s) = 9
event_place (is.Open s) = 10
event_place (is.Turn b dir) = 11
event_place (is.Set w position) = 12
event_place (is.Shorten z t st off) = 13
event_place (is.Echo w) = 14
event_place (is.Leave t) = 15
event_place (is.Take to from n) = 16
event_place (is.Deliver to) = 17
event_place (is.Restart z) = 18
event_place (is.KeepFail z fault) = 19
event_place (is.Noise to from bytes) = 20
event_place (is.Round n) = 21
event_place (is.Lost from to n) = 22

-- the values of an event's parts
abbrev pub event_values : Event → List ℕ
event_values (is.Train t len err v kind) = t.0 ∷ len ∷ err ∷ v ∷ kind_value kind ∷ []
event_values (is.Entry t st) = t.0 ∷ st.seg.0 ∷ sign_value st.dir ∷ []
event_values (is.Enter t) = t.0 ∷ []
event_values (is.Step ms moves) = ms ∷ move_values moves.items
event_values (is.Report t z st off whole) = t.0 ∷ z.0 ∷ st.seg.0 ∷ sign_value st.dir ∷ offset_value off ∷ flag_value whole ∷ []
event_values (is.Detect d shown) = d.0 ∷ occupancy_value shown ∷ []
event_values is.Scan = []
event_values (is.Time z t) = z.0 ∷ t.0 ∷ []
event_values (is.Ask t z steps to) = t.0 ∷ z.0 ∷ step_values steps.items (to ∷ [])
event_values (is.Close s) = s.0 ∷ []
event_values (is.Open s) = s.0 ∷ []
event_values (is.Turn b dir) = b.0 ∷ sign_value dir ∷ []
event_values (is.Set w position) = w.0 ∷ position_value position ∷ []
event_values (is.Shorten z t st off) = z.0 ∷ t.0 ∷ st.seg.0 ∷ sign_value st.dir ∷ off ∷ []
event_values (is.Echo w) = w.0 ∷ []
event_values (is.Leave t) = t.0 ∷ []
event_values (is.Take to from n) = to ∷ from ∷ n ∷ []
event_values (is.Deliver to) = to ∷ []
event_values (is.Restart z) = z.0 ∷ []
event_values (is.KeepFail z fault) = z.0 ∷ keep_value fault ∷ []
event_values (is.Noise to from bytes) = to ∷ from ∷ bytes.items
event_values (is.Round n) = n ∷ []
event_values (is.Lost from to n) = from ∷ to ∷ n ∷ []

-- the text is the spelling of the event
abbrev pub SaysEvent : Event → List ℕ → Type 0
SaysEvent x text = Says event_forms (event_place x) (event_values x) text
