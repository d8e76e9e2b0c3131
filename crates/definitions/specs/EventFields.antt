-- The fields of events, tried from left to right: the event that the values of a form stand for, or its first refused field.
-- Fields are counted by the spaces before them.
use Rattle.std.specs.Prelude.{◌≡◌, ℕ, ℤ, pos, ◌-ℤ◌, zero, suc, ◌+◌, ◌-◌, ◌≤◌, List, [], ◌∷◌, length, Bool, true, false, ◌&&◌, ◌||◌, not, if◌then◌else◌, nat_eq, nat_lt, nat_le, Result, Ok, Err}
use Rattle.std.specs.List.{list_any}
use Rattle.text_forms.specs.Forms.{number_limit, Says}
use Rattle.text_forms.specs.Language.{most_bytes}
use Rattle.track_points.specs.declared.ids.TrainId.{TrainId}
use Rattle.track_points.specs.declared.ids.DirSeg.{DirSeg}
use Rattle.definitions.specs.Track.{Line, ranged, has_zone, has_segment, begins_at_portal}
use Rattle.definitions.specs.ItemReading.{dir_of}
use Rattle.definitions.specs.declared.event.Kind.{Kind}
use Rattle.definitions.specs.declared.event.Kind.TheVariants as kinds
use Rattle.definitions.specs.declared.event.Occupancy.{Occupancy}
use Rattle.definitions.specs.declared.event.Occupancy.TheVariants as shows
use Rattle.track_points.specs.declared.ids.Position.{Position}
use Rattle.track_points.specs.declared.ids.Position.TheVariants as lies
use Rattle.definitions.specs.declared.event.KeepFail.{KeepFail}
use Rattle.definitions.specs.declared.event.KeepFail.TheVariants as fails
use Rattle.definitions.specs.declared.event.Event.{Event}
use Rattle.definitions.specs.declared.event.Event.TheVariants as is
use Rattle.definitions.specs.EventText.{event_forms, event_place, event_values}

-- what is refused at field k where a test fails, else r
abbrev pub tried : {A : Type 0} → Bool → ℕ → Result A ℕ → Result A ℕ
tried true k r = r
tried false k r = Err k

-- what a field may name: a train declared so far; a zone or a segment of the line; an actor, 0 for the world or a zone

unfoldable pub has_train : List ℕ → ℕ → Bool
has_train [] t = false
has_train (x ∷ trains) t = nat_eq x t || has_train trains t

abbrev pub names_train : List ℕ → ℕ → Bool
names_train trains t = ranged 1 65535 t && has_train trains t

abbrev pub names_zone : Line → ℕ → Bool
names_zone line z = ranged 1 16 z && has_zone line z

abbrev pub names_segment : Line → ℕ → Bool
names_segment line s = ranged 1 32767 s && has_segment line s

abbrev pub names_actor : Line → ℕ → Bool
names_actor line a = nat_eq a 0 || names_zone line a

-- no line declares sections, blocks or switches yet

abbrev pub names_section : Line → ℕ → Bool
names_section line d = false

abbrev pub names_block : Line → ℕ → Bool
names_block line b = false

abbrev pub names_switch : Line → ℕ → Bool
names_switch line w = false

-- what values stand for

abbrev pub train_id : ℕ → TrainId
train_id t = record { 0 = t }

abbrev pub step_of : ℕ → ℕ → DirSeg
step_of segment sign = record { seg = record { 0 = segment }; dir = dir_of sign }

abbrev pub kind_of : ℕ → Kind
kind_of v = if nat_eq v 0 then kinds.Equipped else kinds.Unequipped

abbrev pub occupancy_of : ℕ → Occupancy
occupancy_of v = if nat_eq v 0 then shows.Free else shows.Occupied

abbrev pub position_of : ℕ → Position
position_of v = if nat_eq v 0 then lies.Normal else lies.Reverse

abbrev pub keep_of : ℕ → KeepFail
keep_of v = if nat_eq v 0 then fails.PutOld else if nat_eq v 1 then fails.PutNew else fails.Get

abbrev pub offset_of : ℕ → ℤ
offset_of v = if nat_lt v number_limit then pos v else pos 0 -ℤ pos (v - number_limit)

-- an offset of a report, from -1000000 to 11000000
abbrev pub is_offset : ℕ → Bool
is_offset v = nat_le v 11000000 || ranged (number_limit + 1) (number_limit + 1000000) v

-- lists

abbrev pub and_step : DirSeg → Result (List DirSeg × ℕ) ℕ → Result (List DirSeg × ℕ) ℕ
and_step st (Ok x) = Ok (st ∷ x.0, x.1)
and_step st (Err k) = Err k

-- the steps of an ask and the offset after them, from field k on
unfoldable pub asked_of : Line → ℕ → List ℕ → Result (List DirSeg × ℕ) ℕ
asked_of line k [] = Err k
asked_of line k (to ∷ []) = tried (ranged 1 10000000 to) k (Ok ([], to))
asked_of line k (s ∷ sign ∷ vs) = tried (names_segment line s) k (and_step (step_of s sign) (asked_of line (k + 1) vs))

abbrev pub and_move : TrainId × ℕ → Result (List (TrainId × ℕ)) ℕ → Result (List (TrainId × ℕ)) ℕ
and_move m (Ok moves) = Ok (m ∷ moves)
and_move m (Err k) = Err k

-- the moves of a step, at most so many more and of trains above the last, from field k on
unfoldable pub moves_of : List ℕ → ℕ → ℕ → ℕ → List ℕ → Result (List (TrainId × ℕ)) ℕ
moves_of trains more last k [] = Ok []
moves_of trains more last k (t ∷ []) = Err k
moves_of trains zero last k (t ∷ mm ∷ vs) = Err k
moves_of trains (suc more) last k (t ∷ mm ∷ vs) =
    tried (names_train trains t && nat_lt last t) k
    (tried (nat_le mm 3600000) (k + 1)
    (and_move (train_id t, mm) (moves_of trains more t (k + 2) vs)))

-- the events of each form

abbrev pub train_of : List ℕ → List ℕ → Result Event ℕ
train_of trains (t ∷ len ∷ err ∷ v ∷ kind ∷ []) =
    tried (ranged 1 65535 t && not (has_train trains t)) 1
    (tried (ranged 1 1000000 len) 2
    (tried (nat_lt err len) 3
    (tried (ranged 1 60000 v) 4
    (Ok (is.Train (train_id t) len err v (kind_of kind))))))
train_of trains vs = Err 0

abbrev pub entry_of : Line → List ℕ → List ℕ → Result Event ℕ
entry_of line trains (t ∷ s ∷ sign ∷ []) =
    tried (names_train trains t) 1
    (tried (ranged 1 32767 s && begins_at_portal line (step_of s sign)) 2
    (Ok (is.Entry (train_id t) (step_of s sign))))
entry_of line trains vs = Err 0

abbrev pub enter_of : List ℕ → List ℕ → Result Event ℕ
enter_of trains (t ∷ []) = tried (names_train trains t) 1 (Ok (is.Enter (train_id t)))
enter_of trains vs = Err 0

abbrev pub and_ms : ℕ → Result (List (TrainId × ℕ)) ℕ → Result Event ℕ
and_ms ms (Ok moves) = Ok (is.Step ms (record { items = moves }))
and_ms ms (Err k) = Err k

-- a step has at most 256 moves, so a further one is refused at its train
abbrev pub step_event_of : List ℕ → List ℕ → Result Event ℕ
step_event_of trains (ms ∷ vs) = tried (ranged 1 60000 ms) 1 (and_ms ms (moves_of trains 256 0 2 vs))
step_event_of trains [] = Err 0

abbrev pub report_of : Line → List ℕ → List ℕ → Result Event ℕ
report_of line trains (t ∷ z ∷ s ∷ sign ∷ off ∷ flag ∷ []) =
    tried (names_train trains t) 1
    (tried (names_zone line z) 2
    (tried (names_segment line s) 3
    (tried (is_offset off) 4
    (tried (nat_le flag 1) 5
    (Ok (is.Report (train_id t) (record { 0 = z }) (step_of s sign) (offset_of off) (nat_eq flag 1)))))))
report_of line trains vs = Err 0

abbrev pub detect_of : Line → List ℕ → Result Event ℕ
detect_of line (d ∷ shown ∷ []) = tried (names_section line d) 1 (Ok (is.Detect (record { 0 = d }) (occupancy_of shown)))
detect_of line vs = Err 0

abbrev pub scan_of : List ℕ → Result Event ℕ
scan_of [] = Ok is.Scan
scan_of vs = Err 0

abbrev pub time_of : Line → List ℕ → List ℕ → Result Event ℕ
time_of line trains (z ∷ t ∷ []) =
    tried (names_zone line z) 1
    (tried (nat_eq t 0 || names_train trains t) 2
    (Ok (is.Time (record { 0 = z }) (train_id t))))
time_of line trains vs = Err 0

abbrev pub and_asks : ℕ → ℕ → Result (List DirSeg × ℕ) ℕ → Result Event ℕ
and_asks t z (Ok x) = Ok (is.Ask (train_id t) (record { 0 = z }) (record { items = x.0 }) x.1)
and_asks t z (Err k) = Err k

abbrev pub ask_of : Line → List ℕ → List ℕ → Result Event ℕ
ask_of line trains (t ∷ z ∷ vs) =
    tried (names_train trains t) 1
    (tried (names_zone line z) 2
    (and_asks t z (asked_of line 3 vs)))
ask_of line trains vs = Err 0

-- the word of an order is two, so its fields begin with the second

abbrev pub close_of : Line → List ℕ → Result Event ℕ
close_of line (s ∷ []) = tried (names_segment line s) 2 (Ok (is.Close (record { 0 = s })))
close_of line vs = Err 0

abbrev pub open_of : Line → List ℕ → Result Event ℕ
open_of line (s ∷ []) = tried (names_segment line s) 2 (Ok (is.Open (record { 0 = s })))
open_of line vs = Err 0

abbrev pub turn_of : Line → List ℕ → Result Event ℕ
turn_of line (b ∷ sign ∷ []) = tried (names_block line b) 2 (Ok (is.Turn (record { 0 = b }) (dir_of sign)))
turn_of line vs = Err 0

abbrev pub set_of : Line → List ℕ → Result Event ℕ
set_of line (w ∷ position ∷ []) = tried (names_switch line w) 2 (Ok (is.Set (record { 0 = w }) (position_of position)))
set_of line vs = Err 0

abbrev pub shorten_of : Line → List ℕ → List ℕ → Result Event ℕ
shorten_of line trains (z ∷ t ∷ s ∷ sign ∷ off ∷ []) =
    tried (names_zone line z) 2
    (tried (names_train trains t) 3
    (tried (names_segment line s) 4
    (tried (ranged 1 10000000 off) 5
    (Ok (is.Shorten (record { 0 = z }) (train_id t) (step_of s sign) off)))))
shorten_of line trains vs = Err 0

abbrev pub echo_of : Line → List ℕ → Result Event ℕ
echo_of line (w ∷ []) = tried (names_switch line w) 1 (Ok (is.Echo (record { 0 = w })))
echo_of line vs = Err 0

abbrev pub leave_of : List ℕ → List ℕ → Result Event ℕ
leave_of trains (t ∷ []) = tried (names_train trains t) 1 (Ok (is.Leave (train_id t)))
leave_of trains vs = Err 0

abbrev pub take_of : Line → List ℕ → Result Event ℕ
take_of line (to ∷ from ∷ n ∷ []) =
    tried (names_actor line to) 1
    (tried (names_actor line from && not (nat_eq from to)) 2
    (tried (ranged 1 4294967295 n) 3
    (Ok (is.Take to from n))))
take_of line vs = Err 0

abbrev pub deliver_of : Line → List ℕ → Result Event ℕ
deliver_of line (to ∷ []) = tried (names_actor line to) 1 (Ok (is.Deliver to))
deliver_of line vs = Err 0

abbrev pub restart_of : Line → List ℕ → Result Event ℕ
restart_of line (z ∷ []) = tried (names_zone line z) 1 (Ok (is.Restart (record { 0 = z })))
restart_of line vs = Err 0

abbrev pub keep_fail_of : Line → List ℕ → Result Event ℕ
keep_fail_of line (z ∷ fault ∷ []) = tried (names_zone line z) 1 (Ok (is.KeepFail (record { 0 = z }) (keep_of fault)))
keep_fail_of line vs = Err 0

abbrev pub noise_of : Line → List ℕ → Result Event ℕ
noise_of line (to ∷ from ∷ bytes) =
    tried (names_actor line to) 1
    (tried (names_actor line from && not (nat_eq from to)) 2
    (Ok (is.Noise to from (record { items = bytes }))))
noise_of line vs = Err 0

abbrev pub round_of : List ℕ → Result Event ℕ
round_of (n ∷ []) = tried (ranged 1 2000 n) 1 (Ok (is.Round n))
round_of vs = Err 0

abbrev pub lost_of : Line → List ℕ → Result Event ℕ
lost_of line (from ∷ to ∷ n ∷ []) =
    tried (names_actor line from) 1
    (tried (names_actor line to && not (nat_eq to from)) 2
    (tried (ranged 1 4294967295 n) 3
    (Ok (is.Lost from to n))))
lost_of line vs = Err 0

-- by the places of the table
unfoldable pub event_of : Line → List ℕ → ℕ → List ℕ → Result Event ℕ
event_of line trains zero vs = train_of trains vs
event_of line trains (suc zero) vs = entry_of line trains vs
event_of line trains (suc (suc zero)) vs = enter_of trains vs
event_of line trains (suc (suc (suc zero))) vs = step_event_of trains vs
event_of line trains (suc (suc (suc (suc zero)))) vs = report_of line trains vs
event_of line trains (suc (suc (suc (suc (suc zero))))) vs = detect_of line vs
event_of line trains (suc (suc (suc (suc (suc (suc zero)))))) vs = scan_of vs
event_of line trains (suc (suc (suc (suc (suc (suc (suc zero))))))) vs = time_of line trains vs
event_of line trains (suc (suc (suc (suc (suc (suc (suc (suc zero)))))))) vs = ask_of line trains vs
event_of line trains (suc (suc (suc (suc (suc (suc (suc (suc (suc zero))))))))) vs = close_of line vs
event_of line trains (suc (suc (suc (suc (suc (suc (suc (suc (suc (suc zero)))))))))) vs = open_of line vs
event_of line trains (suc (suc (suc (suc (suc (suc (suc (suc (suc (suc (suc zero))))))))))) vs = turn_of line vs
event_of line trains (suc (suc (suc (suc (suc (suc (suc (suc (suc (suc (suc (suc zero)))))))))))) vs = set_of line vs
event_of line trains (suc (suc (suc (suc (suc (suc (suc (suc (suc (suc (suc (suc (suc zero))))))))))))) vs = shorten_of line trains vs
event_of line trains (suc (suc (suc (suc (suc (suc (suc (suc (suc (suc (suc (suc (suc (suc zero)))))))))))))) vs = echo_of line vs
event_of line trains (suc (suc (suc (suc (suc (suc (suc (suc (suc (suc (suc (suc (suc (suc (suc zero))))))))))))))) vs = leave_of trains vs
event_of line trains (suc (suc (suc (suc (suc (suc (suc (suc (suc (suc (suc (suc (suc (suc (suc (suc zero)))))))))))))))) vs = take_of line vs
event_of line trains (suc (suc (suc (suc (suc (suc (suc (suc (suc (suc (suc (suc (suc (suc (suc (suc (suc zero))))))))))))))))) vs = deliver_of line vs
event_of line trains (suc (suc (suc (suc (suc (suc (suc (suc (suc (suc (suc (suc (suc (suc (suc (suc (suc (suc zero)))))))))))))))))) vs = restart_of line vs
event_of line trains (suc (suc (suc (suc (suc (suc (suc (suc (suc (suc (suc (suc (suc (suc (suc (suc (suc (suc (suc zero))))))))))))))))))) vs = keep_fail_of line vs
event_of line trains (suc (suc (suc (suc (suc (suc (suc (suc (suc (suc (suc (suc (suc (suc (suc (suc (suc (suc (suc (suc zero)))))))))))))))))))) vs = noise_of line vs
event_of line trains (suc (suc (suc (suc (suc (suc (suc (suc (suc (suc (suc (suc (suc (suc (suc (suc (suc (suc (suc (suc (suc zero))))))))))))))))))))) vs = round_of vs
event_of line trains (suc (suc (suc (suc (suc (suc (suc (suc (suc (suc (suc (suc (suc (suc (suc (suc (suc (suc (suc (suc (suc (suc zero)))))))))))))))))))))) vs = lost_of line vs
event_of line trains i vs = Err 0

-- no field of the event is refused
abbrev pub Stands : Line → List ℕ → Event → Type 0
Stands line trains x = event_of line trains (event_place x) (event_values x) ≡ Ok x

-- the column of the field that has so many spaces before it
unfoldable pub field_column : ℕ → List ℕ → ℕ
field_column zero text = 1
field_column (suc k) [] = 1
field_column (suc k) (b ∷ text) = (if nat_eq b 32 then field_column k text else field_column (suc k) text) + 1

-- the text is of a form, and the first of its fields that is refused has this column
pub record FieldRefused (line : Line) (trains : List ℕ) (text : List ℕ) (column : ℕ) : Type 0 where
  pub form : ℕ
  pub values : List ℕ
  pub says : Says event_forms form values text
  pub short : length text ≤ most_bytes
  pub field : ℕ
  pub refused : event_of line trains form values ≡ Err field
  pub here : column ≡ field_column field text

-- the forms that have a meaning, by their places: train, entry, enter, step, report, time, ask, order close, order open, order
-- short, take, deliver, noise, round, lost
abbrev pub built_forms : List ℕ
built_forms = 0 ∷ 1 ∷ 2 ∷ 3 ∷ 4 ∷ 7 ∷ 8 ∷ 9 ∷ 10 ∷ 13 ∷ 16 ∷ 17 ∷ 20 ∷ 21 ∷ 22 ∷ []

-- a train of a kind that has no meaning yet
abbrev pub declares_unequipped : ℕ → List ℕ → Bool
declares_unequipped zero (t ∷ len ∷ err ∷ v ∷ kind ∷ []) = nat_eq kind 1
declares_unequipped i vs = false

-- the text is of the grammar, and has no meaning yet
abbrev pub is_unbuilt : ℕ → List ℕ → Bool
is_unbuilt i vs = not (list_any (nat_eq i) built_forms) || declares_unequipped i vs
