-- Closed segments: what a zone knows of them by the orders that it took.
use Rattle.std.specs.Prelude.{ℕ, [], ◌∷◌, if◌then◌else◌, Bool, false, ◌&&◌, ◌||◌, not, nat_eq, Option, Some}
use Rattle.definitions.specs.declared.message.Msg.{Msg}
use Rattle.definitions.specs.declared.message.Msg.TheVariants as msg
use Rattle.definitions.specs.declared.message.Order.{Order}
use Rattle.definitions.specs.declared.message.Order.TheVariants.{Close, Open}
use Rattle.definitions.specs.Story.{Story}

-- whether a segment is closed after an order
abbrev pub closed_by : ℕ → Order → Bool → Bool
closed_by seg (Close s) closed = nat_eq s.0 seg || closed
closed_by seg (Open s) closed = not (nat_eq s.0 seg) && closed
closed_by seg _ closed = closed

abbrev pub closed_after : ℕ → Option (ℕ × Msg) → Bool → Bool
closed_after seg (Some (from, msg.Order time order)) closed = closed_by seg order closed
closed_after seg _ closed = closed

-- Closed: the last of the orders on the segment that the zone took closes it
unfoldable pub is_closed : ℕ → ℕ → Story → Bool
is_closed z seg [] = false
is_closed z seg (e ∷ s) = if nat_eq e.actor z then closed_after seg e.took (is_closed z seg s) else is_closed z seg s
