-- Which brakes have a table.
use Rattle.std.specs.Prelude.{◌≡◌, ℕ, ◌^◌, ◌-◌, ◌%◌, Bool, ◌||◌, not, nat_eq, nat_lt, if◌then◌else◌, Option, Some, None, Result, Ok, Err}
use Rattle.braking_table.specs.declared.table.Brake.{Brake}
use Rattle.braking_table.specs.declared.table.TableFault.{TableFault}
use Rattle.braking_table.specs.declared.table.TableFault.TheVariants.{Memory, Rate, Runaway, Far}
use Rattle.braking_table.specs.Brake.{stop_of}

-- whether a rate changes the speed by whole mm/s in each tick
abbrev pub is_whole : ℕ → Bool
is_whole rate = nat_eq (rate % 100) 0

-- the first reason for which a brake has no table
abbrev pub fault_of : Brake → Option TableFault
fault_of b =
    if nat_eq b.rate 0 || not (is_whole b.rate) then Some Rate
    else if not (is_whole b.runaway) then Some Runaway
    else if nat_lt (2 ^ 31 - 1) (stop_of b 60000) then Some Far
    else None

-- a table is made where there is no such reason, and else refused by the first; that takes no memory
abbrev pub Makes : Brake → Result Brake TableFault → Type 0
Makes b (Ok table) = (fault_of b ≡ None) × (table ≡ b)
Makes b (Err Memory) = ⊥
Makes b (Err fault) = fault_of b ≡ Some fault
