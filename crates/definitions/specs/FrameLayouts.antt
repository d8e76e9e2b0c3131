-- The fields of each kind of frame behind its version and its kind, in their order, with widths and ranges.
use Rattle.std.specs.Prelude.{ℕ, ◌+◌, ◌-◌, ◌*◌, ◌%◌, Bool, true, false, ◌&&◌, not, length, Option, ℤ, pos, negsuc, nat_lt, int_lt, ◌==◌, if◌then◌else◌}
use Rattle.std.specs.Int.{w32, cast_signed, cast_unsigned}
use Rattle.arrayvec.specs.ArrayVec.{ArrayVec}
use Rattle.track_points.specs.declared.ids.SectionId.{SectionId}
use Rattle.track_points.specs.declared.ids.TrainId.{TrainId}
use Rattle.track_points.specs.declared.ids.SwitchId.{SwitchId}
use Rattle.track_points.specs.declared.ids.Dir.{Dir}
use Rattle.track_points.specs.declared.ids.Dir.TheVariants.{Up, Down}
use Rattle.track_points.specs.declared.ids.Position.{Position}
use Rattle.track_points.specs.declared.ids.Position.TheVariants.{Normal, Reverse}
use Rattle.track_points.specs.declared.ids.DirSeg.{DirSeg}
use Rattle.track_points.specs.declared.path.Path.{Path}
use Rattle.definitions.specs.declared.message.SeenWhat.{SeenWhat}
use Rattle.definitions.specs.declared.message.SeenWhat.TheVariants as seen
use Rattle.definitions.specs.declared.message.Order.{Order}
use Rattle.definitions.specs.declared.message.Order.TheVariants as orders
use Rattle.definitions.specs.declared.message.Hand.{Hand}
use Rattle.definitions.specs.FrameFields.{Form, number, as_form, only, after, ◌▸◌, listed, maybe}

-- ---- fields

-- an id is at least 1
unfoldable pub id : Form ℕ
id = number 2 1 65535

abbrev pub train_of : ℕ → TrainId
train_of n = record { 0 = n }

unfoldable pub train : Form TrainId
train = as_form train_of (λ t. t.0) id

unfoldable pub section : Form SectionId
section = as_form (λ n. record { 0 = n }) (λ s. s.0) id

unfoldable pub switch : Form SwitchId
switch = as_form (λ n. record { 0 = n }) (λ w. w.0) id

-- 0 names no train
unfoldable pub any_train : Form TrainId
any_train = as_form train_of (λ t. t.0) (number 2 0 65535)

-- a time is below 2 ^ 40
unfoldable pub time : Form ℕ
time = number 8 0 1099511627775

-- a number of an authority, a command, an ask, a lend or an epoch
unfoldable pub ordinal : Form ℕ
ordinal = number 4 1 4294967295

unfoldable pub any : Form ℕ
any = number 4 0 4294967295

abbrev pub bool_of : ℕ → Bool
bool_of n = n == 1

abbrev pub bit_of : Bool → ℕ
bit_of true = 1
bit_of false = 0

-- a byte 0 or 1; the byte of flags, whose bit 0 alone is known
unfoldable pub yes : Form Bool
yes = as_form bool_of bit_of (number 1 0 1)

abbrev pub position_of : ℕ → Position
position_of n = if n == 1 then Reverse else Normal

abbrev pub position_number : Position → ℕ
position_number Normal = 0
position_number Reverse = 1

unfoldable pub position : Form Position
position = as_form position_of position_number (number 1 0 1)

abbrev pub dir_of : ℕ → Dir
dir_of n = if n == 1 then Down else Up

abbrev pub dir_number : Dir → ℕ
dir_number Up = 0
dir_number Down = 1

abbrev pub seen_of : ℕ → SeenWhat
seen_of n = if n == 1 then seen.Hand else seen.Return

abbrev pub seen_number : SeenWhat → ℕ
seen_number seen.Hand = 1
seen_number seen.Return = 2

unfoldable pub seen_what : Form SeenWhat
seen_what = as_form seen_of seen_number (number 1 1 2)

-- an offset in mm, from 1 km before the step to 1 km behind the longest
abbrev pub is_offset : ℤ → Bool
is_offset z = not (int_lt z (negsuc 999999)) && not (int_lt (pos 11000000) z)

unfoldable pub offset : Form ℤ
offset = only is_offset (as_form (cast_signed w32) (cast_unsigned w32) any)

-- a step: the low 15 bits are its segment, the top bit is set for Down
abbrev pub step_of : ℕ → DirSeg
step_of n = record { seg = record { 0 = n % 32768 }; dir = if nat_lt n 32768 then Up else Down }

abbrev pub step_number : DirSeg → ℕ
step_number st = st.seg.0 % 32768 + 32768 * dir_number st.dir

abbrev pub has_segment : DirSeg → Bool
has_segment st = nat_lt 0 st.seg.0

unfoldable pub step : Form DirSeg
step = only has_segment (as_form step_of step_number (number 2 0 65535))

unfoldable pub steps : Form (ArrayVec DirSeg)
steps = as_form (λ xs. record { items = xs }) (λ v. v.items) (listed 1 1 24 step)

-- the end of a path or of an ask, in mm on the last step
unfoldable pub end : Form ℕ
end = number 4 1 10000000

-- the least end of a path: it is behind the start, where both are on one step
abbrev pub least_end : ArrayVec DirSeg → ℕ → ℕ
least_end v from = if length v.items == 1 then from + 1 else 1

abbrev pub path_of : ArrayVec DirSeg × (ℕ × ℕ) → Path
path_of x = record { steps = x.0; from = x.1.0; to = x.1.1 }

unfoldable pub path : Form Path
path = as_form path_of (λ p. (p.steps, (p.from, p.to))) (after steps (λ v. after (number 4 0 9999999) (λ from. number 4 (least_end v from) 10000000)))

-- length, error, speed, and the flags with equipped
unfoldable pub facts : Form (ℕ × (ℕ × (ℕ × Bool)))
facts = after (number 4 1 1000000) (λ long. number 4 0 (long - 1) ▸ number 2 1 60000 ▸ yes)

-- ---- orders

-- Which b an order may have, and from where to where its c goes. Fields that an order does not use are 0.
abbrev pub fits_b : ℕ → ℕ → Bool
fits_b what b = if nat_lt what 3 then b == 0 else if nat_lt what 5 then nat_lt b 2 else nat_lt 0 (b % 32768)

abbrev pub c_least : ℕ → ℕ
c_least what = if what == 5 then 1 else 0

abbrev pub c_most : ℕ → ℕ
c_most what = if what == 5 then 10000000 else 0

unfoldable pub order_fields : Form (ℕ × (ℕ × (ℕ × ℕ)))
order_fields = after (number 1 1 5) (λ what. id ▸ only (fits_b what) (number 2 0 65535) ▸ number 4 (c_least what) (c_most what))

abbrev pub order_of : ℕ × (ℕ × (ℕ × ℕ)) → Order
order_of x =
    if x.0 == 1 then orders.Close (record { 0 = x.1.0 })
    else if x.0 == 2 then orders.Open (record { 0 = x.1.0 })
    else if x.0 == 3 then orders.Turn (record { 0 = x.1.0 }) (dir_of x.1.1.0)
    else if x.0 == 4 then orders.Set (record { 0 = x.1.0 }) (position_of x.1.1.0)
    else orders.Short (record { 0 = x.1.0 }) (step_of x.1.1.0) x.1.1.1

abbrev pub order_parts : Order → ℕ × (ℕ × (ℕ × ℕ))
order_parts (orders.Close s) = (1, (s.0, (0, 0)))
order_parts (orders.Open s) = (2, (s.0, (0, 0)))
order_parts (orders.Turn b d) = (3, (b.0, (dir_number d, 0)))
order_parts (orders.Set w p) = (4, (w.0, (position_number p, 0)))
order_parts (orders.Short t st off) = (5, (t.0, (step_number st, off)))

unfoldable pub order : Form Order
order = as_form order_of order_parts order_fields

-- ---- the kinds

unfoldable pub report : Form (TrainId × (ℕ × (ℕ × (ℤ × Bool))))
report = train ▸ time ▸ any ▸ offset ▸ yes

-- a Report of version 2 states how far the head is behind the crest
unfoldable pub reading : Form (SectionId × (ℕ × Bool))
reading = section ▸ time ▸ yes

unfoldable pub time_told : Form (ℕ × TrainId)
time_told = time ▸ any_train

unfoldable pub entry_ask : Form (TrainId × (ℕ × ((ℕ × (ℕ × (ℕ × Bool))) × DirSeg)))
entry_ask = train ▸ time ▸ facts ▸ step

unfoldable pub ask : Form (TrainId × (ℕ × (ArrayVec DirSeg × ℕ)))
ask = train ▸ time ▸ steps ▸ end

unfoldable pub answer : Form (TrainId × (ℕ × (ℕ × Bool)))
answer = train ▸ time ▸ ordinal ▸ yes

unfoldable pub gone : Form (TrainId × ℕ)
gone = train ▸ time

unfoldable pub echo : Form (SwitchId × (ℕ × (ℕ × Position)))
echo = switch ▸ time ▸ any ▸ position

unfoldable pub order_told : Form (ℕ × Order)
order_told = time ▸ order

unfoldable pub auth : Form (TrainId × (ℕ × (ℕ × Path)))
auth = train ▸ ordinal ▸ any ▸ path

unfoldable pub switch_cmd : Form (SwitchId × (ℕ × Position))
switch_cmd = switch ▸ ordinal ▸ position

unfoldable pub lend_ask : Form (TrainId × (ℕ × (ArrayVec DirSeg × ℕ)))
lend_ask = train ▸ ordinal ▸ steps ▸ end

unfoldable pub lend : Form (TrainId × (ℕ × (ℕ × Path)))
lend = train ▸ ordinal ▸ ordinal ▸ path

unfoldable pub returned : Form (TrainId × (ℕ × Option Path))
returned = train ▸ ordinal ▸ maybe path

-- the last number issued, and the greatest answered
unfoldable pub counts : Form (ℕ × ℕ)
counts = after ordinal (λ last. number 4 1 last)

-- the least and the greatest front
unfoldable pub fronts : Form (ℕ × ℕ)
fronts = after (number 4 0 240000000) (λ lo. number 4 lo 240000000)

-- the ask, the lend and the mark
unfoldable pub numbers : Form (ℕ × (ℕ × ℕ))
numbers = any ▸ ordinal ▸ any

-- a Hand behind its train
unfoldable pub hand_rest : Form (ℕ × (ℕ × ((ℕ × (ℕ × (ℕ × Bool))) × ((ℕ × ℕ) × ((ℕ × ℕ) × ((ℕ × (ℕ × ℕ)) × Path))))))
hand_rest = ordinal ▸ time ▸ facts ▸ counts ▸ fronts ▸ numbers ▸ path

abbrev pub hand_of : TrainId × (ℕ × (ℕ × ((ℕ × (ℕ × (ℕ × Bool))) × ((ℕ × ℕ) × ((ℕ × ℕ) × ((ℕ × (ℕ × ℕ)) × Path)))))) → Hand
hand_of x = record {
  train = x.0;
  epoch = x.1.0;
  time = x.1.1.0;
  length = x.1.1.1.0.0;
  error = x.1.1.1.0.1.0;
  speed = x.1.1.1.0.1.1.0;
  equipped = x.1.1.1.0.1.1.1;
  last = x.1.1.1.1.0.0;
  answered = x.1.1.1.1.0.1;
  lo = x.1.1.1.1.1.0.0;
  hi = x.1.1.1.1.1.0.1;
  ask = x.1.1.1.1.1.1.0.0;
  lend = x.1.1.1.1.1.1.0.1.0;
  mark = x.1.1.1.1.1.1.0.1.1;
  path = x.1.1.1.1.1.1.1;
}

abbrev pub hand_parts : Hand → TrainId × (ℕ × (ℕ × ((ℕ × (ℕ × (ℕ × Bool))) × ((ℕ × ℕ) × ((ℕ × ℕ) × ((ℕ × (ℕ × ℕ)) × Path))))))
hand_parts h = (h.train, (h.epoch, (h.time, ((h.length, (h.error, (h.speed, h.equipped))), ((h.last, h.answered), ((h.lo, h.hi), ((h.ask, (h.lend, h.mark)), h.path)))))))

unfoldable pub hand : Form Hand
hand = as_form hand_of hand_parts (train ▸ hand_rest)

unfoldable pub seen_told : Form (TrainId × (SeenWhat × ℕ))
seen_told = train ▸ seen_what ▸ ordinal

-- how many bytes have been written
abbrev pub size : ArrayVec ℕ → ℕ
size v = length v.items
