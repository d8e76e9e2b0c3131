-- Frames: the one spelling of each message, which messages have one, and what reading bytes from the left gives.
use Rattle.std.specs.Prelude.{⊤, ◌≤◌, ◌<◌, ℕ, ℤ, Bool, Option, ◌&&◌, ◌+◌, ◌-◌, List, [], ◌∷◌, length, Result, Ok, Err, nat_lt, ◌==◌, if◌then◌else◌}
use Rattle.arrayvec.specs.ArrayVec.{ArrayVec}
use Rattle.track_points.specs.declared.ids.TrainId.{TrainId}
use Rattle.track_points.specs.declared.ids.SectionId.{SectionId}
use Rattle.track_points.specs.declared.ids.SwitchId.{SwitchId}
use Rattle.track_points.specs.declared.ids.Position.{Position}
use Rattle.track_points.specs.declared.ids.DirSeg.{DirSeg}
use Rattle.track_points.specs.declared.path.Path.{Path}
use Rattle.definitions.specs.declared.message.SeenWhat.{SeenWhat}
use Rattle.definitions.specs.declared.message.Order.{Order}
use Rattle.definitions.specs.declared.message.Hand.{Hand}
use Rattle.definitions.specs.declared.message.Msg.{Msg}
use Rattle.definitions.specs.declared.message.Msg.TheVariants as says
use Rattle.definitions.specs.declared.outcome.FrameFault.{FrameFault}
use Rattle.definitions.specs.declared.outcome.FrameFault.TheVariants as faults
use Rattle.definitions.specs.declared.frame.Unread.{Unread}
use Rattle.definitions.specs.declared.frame.Unread.TheVariants.{Short, Out}
use Rattle.definitions.specs.FrameFields.{as_read}
use Rattle.definitions.specs.FrameLayouts.{report, reading, time_told, entry_ask, ask, answer, gone, echo, order_told, auth, switch_cmd, lend_ask, lend, returned, hand, seen_told}

-- ---- the one spelling

unfoldable pub frame_of : Msg → List ℕ
frame_of (says.Report train time mark offset integrity) = 1 ∷ 1 ∷ report.spell (train, (time, (mark, (offset, integrity))))
frame_of (says.Reading section time free) = 1 ∷ 2 ∷ reading.spell (section, (time, free))
frame_of (says.Time time train) = 1 ∷ 3 ∷ time_told.spell (time, train)
frame_of (says.EntryAsk train time length error speed equipped step) = 1 ∷ 4 ∷ entry_ask.spell (train, (time, ((length, (error, (speed, equipped))), step)))
frame_of (says.Ask train time steps to) = 1 ∷ 5 ∷ ask.spell (train, (time, (steps, to)))
frame_of (says.Answer train time number taken) = 1 ∷ 6 ∷ answer.spell (train, (time, (number, taken)))
frame_of (says.Gone train time) = 1 ∷ 7 ∷ gone.spell (train, time)
frame_of (says.Echo switch time number position) = 1 ∷ 8 ∷ echo.spell (switch, (time, (number, position)))
frame_of (says.Order time order) = 1 ∷ 9 ∷ order_told.spell (time, order)
frame_of (says.Auth train number mark path) = 1 ∷ 10 ∷ auth.spell (train, (number, (mark, path)))
frame_of (says.SwitchCmd switch number position) = 1 ∷ 11 ∷ switch_cmd.spell (switch, (number, position))
frame_of (says.LendAsk train number steps to) = 1 ∷ 12 ∷ lend_ask.spell (train, (number, (steps, to)))
frame_of (says.Lend train number lent path) = 1 ∷ 13 ∷ lend.spell (train, (number, (lent, path)))
frame_of (says.Return train lent kept) = 1 ∷ 14 ∷ returned.spell (train, (lent, kept))
frame_of (says.Hand h) = 1 ∷ 15 ∷ hand.spell h
frame_of (says.Seen train what number) = 1 ∷ 16 ∷ seen_told.spell (train, (what, number))

-- each field is in its range
unfoldable pub Fits : Msg → Type 0
Fits (says.Report train time mark offset integrity) = report.fits (train, (time, (mark, (offset, integrity))))
Fits (says.Reading section time free) = reading.fits (section, (time, free))
Fits (says.Time time train) = time_told.fits (time, train)
Fits (says.EntryAsk train time length error speed equipped step) = entry_ask.fits (train, (time, ((length, (error, (speed, equipped))), step)))
Fits (says.Ask train time steps to) = ask.fits (train, (time, (steps, to)))
Fits (says.Answer train time number taken) = answer.fits (train, (time, (number, taken)))
Fits (says.Gone train time) = gone.fits (train, time)
Fits (says.Echo switch time number position) = echo.fits (switch, (time, (number, position)))
Fits (says.Order time order) = order_told.fits (time, order)
Fits (says.Auth train number mark path) = auth.fits (train, (number, (mark, path)))
Fits (says.SwitchCmd switch number position) = switch_cmd.fits (switch, (number, position))
Fits (says.LendAsk train number steps to) = lend_ask.fits (train, (number, (steps, to)))
Fits (says.Lend train number lent path) = lend.fits (train, (number, (lent, path)))
Fits (says.Return train lent kept) = returned.fits (train, (lent, kept))
Fits (says.Hand h) = hand.fits h
Fits (says.Seen train what number) = seen_told.fits (train, (what, number))

-- ---- reading from the left

-- the message that the fields of a kind make
abbrev pub report_of : TrainId × (ℕ × (ℕ × (ℤ × Bool))) → Msg
report_of x = says.Report x.0 x.1.0 x.1.1.0 x.1.1.1.0 x.1.1.1.1

abbrev pub reading_of : SectionId × (ℕ × Bool) → Msg
reading_of x = says.Reading x.0 x.1.0 x.1.1

abbrev pub time_told_of : ℕ × TrainId → Msg
time_told_of x = says.Time x.0 x.1

abbrev pub entry_ask_of : TrainId × (ℕ × ((ℕ × (ℕ × (ℕ × Bool))) × DirSeg)) → Msg
entry_ask_of x = says.EntryAsk x.0 x.1.0 x.1.1.0.0 x.1.1.0.1.0 x.1.1.0.1.1.0 x.1.1.0.1.1.1 x.1.1.1

abbrev pub ask_of : TrainId × (ℕ × (ArrayVec DirSeg × ℕ)) → Msg
ask_of x = says.Ask x.0 x.1.0 x.1.1.0 x.1.1.1

abbrev pub answer_of : TrainId × (ℕ × (ℕ × Bool)) → Msg
answer_of x = says.Answer x.0 x.1.0 x.1.1.0 x.1.1.1

abbrev pub gone_of : TrainId × ℕ → Msg
gone_of x = says.Gone x.0 x.1

abbrev pub echo_of : SwitchId × (ℕ × (ℕ × Position)) → Msg
echo_of x = says.Echo x.0 x.1.0 x.1.1.0 x.1.1.1

abbrev pub order_told_of : ℕ × Order → Msg
order_told_of x = says.Order x.0 x.1

abbrev pub auth_of : TrainId × (ℕ × (ℕ × Path)) → Msg
auth_of x = says.Auth x.0 x.1.0 x.1.1.0 x.1.1.1

abbrev pub switch_cmd_of : SwitchId × (ℕ × Position) → Msg
switch_cmd_of x = says.SwitchCmd x.0 x.1.0 x.1.1

abbrev pub lend_ask_of : TrainId × (ℕ × (ArrayVec DirSeg × ℕ)) → Msg
lend_ask_of x = says.LendAsk x.0 x.1.0 x.1.1.0 x.1.1.1

abbrev pub lend_of : TrainId × (ℕ × (ℕ × Path)) → Msg
lend_of x = says.Lend x.0 x.1.0 x.1.1.0 x.1.1.1

abbrev pub returned_of : TrainId × (ℕ × Option Path) → Msg
returned_of x = says.Return x.0 x.1.0 x.1.1

abbrev pub handed_of : Hand → Msg
handed_of x = says.Hand x

abbrev pub seen_told_of : TrainId × (SeenWhat × ℕ) → Msg
seen_told_of x = says.Seen x.0 x.1.0 x.1.1

-- the fields of a kind that its version has
unfoldable pub body_at : ℕ → ℕ → List ℕ → Result (Msg × List ℕ) Unread
body_at version kind bytes =
    if kind == 1 then as_read report_of (report.read bytes)
    else if kind == 2 then as_read reading_of (reading.read bytes)
    else if kind == 3 then as_read time_told_of (time_told.read bytes)
    else if kind == 4 then as_read entry_ask_of (entry_ask.read bytes)
    else if kind == 5 then as_read ask_of (ask.read bytes)
    else if kind == 6 then as_read answer_of (answer.read bytes)
    else if kind == 7 then as_read gone_of (gone.read bytes)
    else if kind == 8 then as_read echo_of (echo.read bytes)
    else if kind == 9 then as_read order_told_of (order_told.read bytes)
    else if kind == 10 then as_read auth_of (auth.read bytes)
    else if kind == 11 then as_read switch_cmd_of (switch_cmd.read bytes)
    else if kind == 12 then as_read lend_ask_of (lend_ask.read bytes)
    else if kind == 13 then as_read lend_of (lend.read bytes)
    else if kind == 14 then as_read returned_of (returned.read bytes)
    else if kind == 15 then as_read handed_of (hand.read bytes)
    else as_read seen_told_of (seen_told.read bytes)

-- the fault of a frame of so many bytes: a field out of its range is told by the place of its first byte
abbrev pub placed : ℕ → Unread → FrameFault
placed total Short = faults.Short
placed total (Out left) = faults.Field (total - left)

-- the place fits a byte
abbrev pub IsPlaced : ℕ → Unread → Type 0
IsPlaced total Short = ⊤
IsPlaced total (Out left) = (left ≤ total) × (total < left + 256)

-- a whole frame of so many bytes: bytes that follow make it long
abbrev pub whole : ℕ → Result (Msg × List ℕ) Unread → Result Msg FrameFault
whole total (Ok (m, [])) = Ok m
whole total (Ok (m, b ∷ rest)) = Err faults.Long
whole total (Err unread) = Err (placed total unread)

-- the versions of frames, and the kinds that each has
abbrev pub has_version : ℕ → Bool
has_version version = version == 1

abbrev pub has_kind : ℕ → ℕ → Bool
has_kind version kind = nat_lt 0 kind && nat_lt kind 17

unfoldable pub frame_at : List ℕ → Result Msg FrameFault
frame_at [] = Err faults.Short
frame_at (version ∷ []) = if has_version version then Err faults.Short else Err faults.Version
frame_at (version ∷ kind ∷ rest) =
    if has_version version
    then (if has_kind version kind then whole (length rest + 2) (body_at version kind rest) else Err faults.Kind)
    else Err faults.Version
