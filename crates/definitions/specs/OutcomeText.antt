-- The text of outcome lines: the table of their forms, and the place and the values of each outcome in it.
use Rattle.std.specs.Prelude.{ℕ, zero, suc, List, [], ◌∷◌, ◌++◌, codes}
use Rattle.text_forms.specs.declared.part.Part.TheVariants.{Number, Sign, Word}
use Rattle.text_forms.specs.declared.part.Words.TheVariants as sets
use Rattle.text_forms.specs.Forms.{Form, plain, spelled}
use Rattle.definitions.specs.EventText.{position_value}
use Rattle.definitions.specs.ItemText.{sign_value}
use Rattle.definitions.specs.declared.outcome.Outcome.{Outcome}
use Rattle.definitions.specs.declared.outcome.Outcome.TheVariants as is
use Rattle.definitions.specs.declared.outcome.Refusal.{Refusal}
use Rattle.definitions.specs.declared.outcome.Refusal.TheVariants as refusals
use Rattle.definitions.specs.declared.outcome.Obstacle.{Obstacle}
use Rattle.definitions.specs.declared.outcome.Obstacle.TheVariants as stops
use Rattle.definitions.specs.declared.outcome.ShortRefusal.{ShortRefusal}
use Rattle.definitions.specs.declared.outcome.ShortRefusal.TheVariants as shorts
use Rattle.definitions.specs.declared.outcome.SwitchObstacle.{SwitchObstacle}
use Rattle.definitions.specs.declared.outcome.SwitchObstacle.TheVariants as bars
use Rattle.definitions.specs.declared.outcome.AnswerWord.{AnswerWord}
use Rattle.definitions.specs.declared.outcome.AnswerWord.TheVariants as answers
use Rattle.definitions.specs.declared.outcome.FrameFault.{FrameFault}
use Rattle.definitions.specs.declared.outcome.FrameFault.TheVariants as faults

-- a place is a step, a number and its sign, and an offset; an obstacle is its code
unfoldable pub outcome_forms : List Form
outcome_forms =
    plain (codes "entry") (Number ∷ Number ∷ Number ∷ [])
    ∷ plain (codes "noentry") (Number ∷ Number ∷ Word sets.EntryRefusal ∷ [])
    ∷ plain (codes "noentry") (Number ∷ Number ∷ Word sets.EntryObstacle ∷ Number ∷ [])
    ∷ plain (codes "grant") (Number ∷ Number ∷ Number ∷ Number ∷ Sign ∷ Number ∷ Number ∷ [])
    ∷ plain (codes "deny") (Number ∷ Number ∷ Number ∷ [])
    ∷ plain (codes "short") (Number ∷ Number ∷ Number ∷ Number ∷ Sign ∷ Number ∷ [])
    ∷ plain (codes "noshort") (Number ∷ Number ∷ Word sets.ShortRefusal ∷ [])
    ∷ plain (codes "place") (Number ∷ Number ∷ Number ∷ Sign ∷ Number ∷ Number ∷ Sign ∷ Number ∷ [])
    ∷ plain (codes "lend") (Number ∷ Number ∷ Number ∷ Number ∷ Sign ∷ Number ∷ Number ∷ [])
    ∷ plain (codes "nolend") (Number ∷ Number ∷ Number ∷ [])
    ∷ plain (codes "hand") (Number ∷ Number ∷ Number ∷ Number ∷ [])
    ∷ plain (codes "have") (Number ∷ Number ∷ Number ∷ [])
    ∷ plain (codes "gone") (Number ∷ Number ∷ [])
    ∷ plain (codes "switch") (Number ∷ Number ∷ Number ∷ Word sets.Position ∷ [])
    ∷ plain (codes "noswitch") (Number ∷ Number ∷ Word sets.SwitchObstacle ∷ Number ∷ [])
    ∷ plain (codes "turned") (Number ∷ Number ∷ Word sets.Direction ∷ [])
    ∷ plain (codes "noturn") (Number ∷ Number ∷ Number ∷ [])
    ∷ plain (codes "closed") (Number ∷ Number ∷ [])
    ∷ plain (codes "opened") (Number ∷ Number ∷ [])
    ∷ plain (codes "alarm stray") (Number ∷ Number ∷ [])
    ∷ plain (codes "alarm ahead") (Number ∷ Number ∷ Number ∷ [])
    ∷ plain (codes "alarm silent") (Number ∷ Number ∷ [])
    ∷ plain (codes "halted") (Number ∷ [])
    ∷ plain (codes "restart") (Number ∷ [])
    ∷ plain (codes "answer") (Number ∷ Number ∷ Word sets.Answer ∷ [])
    ∷ plain (codes "moved") (Number ∷ Number ∷ Word sets.Position ∷ [])
    ∷ plain (codes "derailed") (Number ∷ [])
    ∷ plain (codes "noise") (Number ∷ Word sets.FrameFault ∷ [])
    ∷ plain (codes "noise") (Number ∷ Word sets.FieldFault ∷ Number ∷ [])
    ∷ []

-- the code of an obstacle
abbrev pub code_of : Obstacle → ℕ
code_of stops.AskEnds = 1
code_of stops.TrackEnds = 2
code_of stops.Held = 3
code_of stops.Section = 4
code_of stops.Switch = 5
code_of stops.Traffic = 6
code_of stops.Closed = 7
code_of stops.NotLent = 8
code_of stops.Pending = 9
code_of stops.NotJoined = 10
code_of stops.Silent = 11
code_of stops.PathFull = 12

-- of a word that stands in a part: its place in the set

abbrev pub answer_value : AnswerWord → ℕ
answer_value answers.Taken = 0
answer_value answers.Refused = 1

abbrev pub short_value : ShortRefusal → ℕ
short_value shorts.Away = 0
short_value shorts.Unequipped = 1
short_value shorts.Pending = 2
short_value shorts.Place = 3

abbrev pub refusal_place : Refusal → ℕ
refusal_place (refusals.Held u) = 2
refusal_place (refusals.NotFree d) = 2
refusal_place refusal = 1

abbrev pub refusal_values : Refusal → List ℕ
refusal_values refusals.Known = 0 ∷ []
refusal_values refusals.TooMany = 1 ∷ []
refusal_values refusals.TooLong = 2 ∷ []
refusal_values (refusals.Held u) = 0 ∷ u.0 ∷ []
refusal_values (refusals.NotFree d) = 1 ∷ d.0 ∷ []

abbrev pub bar_values : SwitchObstacle → List ℕ
bar_values (bars.Held u) = 0 ∷ u.0 ∷ []
bar_values (bars.Section d) = 1 ∷ d.0 ∷ []

abbrev pub fault_place : FrameFault → ℕ
fault_place (faults.Field at) = 28
fault_place fault = 27

abbrev pub fault_values : FrameFault → List ℕ
fault_values faults.Short = 0 ∷ []
fault_values faults.Version = 1 ∷ []
fault_values faults.Kind = 2 ∷ []
fault_values faults.Long = 3 ∷ []
fault_values (faults.Field at) = 0 ∷ at ∷ []

-- the place of an outcome's form in the table
abbrev pub outcome_place : Outcome → ℕ
outcome_place (is.Entry z t n) = 0
outcome_place (is.NoEntry z t refusal) = refusal_place refusal
outcome_place (is.Grant z t n st off obstacle) = 3
outcome_place (is.Deny z t obstacle) = 4
outcome_place (is.Short z t n st off) = 5
outcome_place (is.NoShort z t refusal) = 6
outcome_place (is.Place z t rear rear_off front front_off) = 7
outcome_place (is.Lend z t n st off obstacle) = 8
outcome_place (is.NoLend z t obstacle) = 9
outcome_place (is.Hand z t epoch to) = 10
outcome_place (is.Have z t epoch) = 11
outcome_place (is.Gone z t) = 12
outcome_place (is.Switch z w n position) = 13
outcome_place (is.NoSwitch z w bar) = 14
outcome_place (is.Turned z b dir) = 15
outcome_place (is.NoTurn z b t) = 16
outcome_place (is.Closed z s) = 17
outcome_place (is.Opened z s) = 18
outcome_place (is.AlarmStray z d) = 19
outcome_place (is.AlarmAhead z d t) = 20
outcome_place (is.AlarmSilent z t) = 21
outcome_place (is.Halted z) = 22
outcome_place (is.Restart z) = 23
outcome_place (is.Answer t n word) = 24
outcome_place (is.Moved w n position) = 25
outcome_place (is.Derailed t) = 26
outcome_place (is.Noise to fault) = fault_place fault

-- the values of an outcome's parts
abbrev pub outcome_values : Outcome → List ℕ
outcome_values (is.Entry z t n) = z.0 ∷ t.0 ∷ n ∷ []
outcome_values (is.NoEntry z t refusal) = z.0 ∷ t.0 ∷ refusal_values refusal
outcome_values (is.Grant z t n st off obstacle) = z.0 ∷ t.0 ∷ n ∷ st.seg.0 ∷ sign_value st.dir ∷ off ∷ code_of obstacle ∷ []
outcome_values (is.Deny z t obstacle) = z.0 ∷ t.0 ∷ code_of obstacle ∷ []
outcome_values (is.Short z t n st off) = z.0 ∷ t.0 ∷ n ∷ st.seg.0 ∷ sign_value st.dir ∷ off ∷ []
outcome_values (is.NoShort z t refusal) = z.0 ∷ t.0 ∷ short_value refusal ∷ []
outcome_values (is.Place z t rear rear_off front front_off) =
    z.0 ∷ t.0 ∷ rear.seg.0 ∷ sign_value rear.dir ∷ rear_off ∷ front.seg.0 ∷ sign_value front.dir ∷ front_off ∷ []
outcome_values (is.Lend z t n st off obstacle) = z.0 ∷ t.0 ∷ n ∷ st.seg.0 ∷ sign_value st.dir ∷ off ∷ code_of obstacle ∷ []
outcome_values (is.NoLend z t obstacle) = z.0 ∷ t.0 ∷ code_of obstacle ∷ []
outcome_values (is.Hand z t epoch to) = z.0 ∷ t.0 ∷ epoch ∷ to.0 ∷ []
outcome_values (is.Have z t epoch) = z.0 ∷ t.0 ∷ epoch ∷ []
outcome_values (is.Gone z t) = z.0 ∷ t.0 ∷ []
outcome_values (is.Switch z w n position) = z.0 ∷ w.0 ∷ n ∷ position_value position ∷ []
outcome_values (is.NoSwitch z w bar) = z.0 ∷ w.0 ∷ bar_values bar
outcome_values (is.Turned z b dir) = z.0 ∷ b.0 ∷ sign_value dir ∷ []
outcome_values (is.NoTurn z b t) = z.0 ∷ b.0 ∷ t.0 ∷ []
outcome_values (is.Closed z s) = z.0 ∷ s.0 ∷ []
outcome_values (is.Opened z s) = z.0 ∷ s.0 ∷ []
outcome_values (is.AlarmStray z d) = z.0 ∷ d.0 ∷ []
outcome_values (is.AlarmAhead z d t) = z.0 ∷ d.0 ∷ t.0 ∷ []
outcome_values (is.AlarmSilent z t) = z.0 ∷ t.0 ∷ []
outcome_values (is.Halted z) = z.0 ∷ []
outcome_values (is.Restart z) = z.0 ∷ []
outcome_values (is.Answer t n word) = t.0 ∷ n ∷ answer_value word ∷ []
outcome_values (is.Moved w n position) = w.0 ∷ n ∷ position_value position ∷ []
outcome_values (is.Derailed t) = t.0 ∷ []
outcome_values (is.Noise to fault) = to ∷ fault_values fault

-- the spelling of the form of this place, which has no group, with these values
unfoldable pub plain_text : List Form → ℕ → List ℕ → List ℕ
plain_text [] i vs = []
plain_text (f ∷ fs) zero vs = f.word ++ spelled f.parts vs
plain_text (f ∷ fs) (suc i) vs = plain_text fs i vs

-- an outcome line, with its end
unfoldable pub outcome_text : Outcome → List ℕ
outcome_text x = plain_text outcome_forms (outcome_place x) (outcome_values x) ++ codes "\n"
