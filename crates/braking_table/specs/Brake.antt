-- How a train stops that is told to. A speed is a number of mm/s, and a tick lasts 10 ms.
use Rattle.std.specs.Prelude.{ℕ, suc, ◌+◌, ◌*◌, ◌-◌, ◌/◌, List, map, drop, min, max}
use Rattle.std.specs.Int.{div_ceil}
use Rattle.std.specs.List.{sum_by, zip, range_with_len}
use Rattle.braking_table.specs.declared.table.Brake.{Brake}

-- by how much the speed changes in a tick, at a rate in mm/s per second
abbrev pub in_a_tick : ℕ → ℕ
in_a_tick rate = rate / 100

-- the speed at the end of the runaway
abbrev pub top_speed : Brake → ℕ → ℕ
top_speed b v = v + b.ticks * in_a_tick b.runaway

-- the speed after k ticks: it rises in the ticks of the runaway and falls in those after them, at last to 0
abbrev pub speed_after : Brake → ℕ → ℕ → ℕ
speed_after b v k = v + min k b.ticks * in_a_tick b.runaway - (k - b.ticks) * in_a_tick b.rate

-- how many ticks it takes until the train stands
abbrev pub ticks_to_stand : Brake → ℕ → ℕ
ticks_to_stand b v = b.ticks + div_ceil (top_speed b v) (in_a_tick b.rate)

-- the speeds where the first tick begins and where each tick ends
unfoldable pub speeds : Brake → ℕ → List ℕ
speeds b v = map (speed_after b v) (range_with_len 0 (suc (ticks_to_stand b v)))

-- each tick, as the speeds at its two ends
abbrev pub ticks : List ℕ → List (ℕ × ℕ)
ticks ends = zip ends (drop 1 ends)

abbrev pub greater_end : ℕ × ℕ → ℕ
greater_end tick = max tick.0 tick.1

-- how far the train goes at most until it stands: in each tick at the greater of the tick's two speeds. In hundredths
-- of a mm, which are mm/s over a tick
abbrev pub hundredths_of : Brake → ℕ → ℕ
hundredths_of b v = sum_by greater_end (ticks (speeds b v))

-- the same in mm, rounded up
unfoldable pub stop_of : Brake → ℕ → ℕ
stop_of b v = div_ceil (hundredths_of b v) 100
