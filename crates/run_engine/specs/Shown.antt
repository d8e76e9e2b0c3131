-- What the definitions see of the engine.
use Rattle.std.specs.Prelude.{◌≡◌, ℕ, ◌≤◌, List, [], Bool, true, false, count_by, Option, Some, None}
use Rattle.definitions.specs.declared.item.Item.{Item}
use Rattle.definitions.specs.declared.document.Ending.TheVariants as ends
use Rattle.definitions.specs.Rules.{is_any_zone}
use Rattle.definitions.specs.Trace.{Stage, Items, Script, Checked, Over, Reading, input_limit}
use Rattle.track_points.specs.declared.ids.TrainId.{TrainId}
use Rattle.definitions.specs.declared.event.Event.{Event}
use Rattle.definitions.specs.declared.event.Event.TheVariants.{Train}
use Rattle.run_engine.specs.declared.check.Check.{Check}
use Rattle.run_engine.specs.declared.stage.Stage as code
use Rattle.run_engine.specs.declared.stage.Stage.TheVariants as variants
use Rattle.run_engine.specs.declared.stage.Reading as code_reading

abbrev pub check_shown : Check → Stage
check_shown k = Checked k.line k.trains k.count

-- the train that an event declares
abbrev pub train_declared : Event → Option TrainId
train_declared (Train t long error speed kind) = Some t
train_declared _ = None

abbrev pub stage_shown : code.Stage → Stage
stage_shown (variants.Items builder) = Items builder
stage_shown (variants.Script system count) = Script system.line system.events count
stage_shown (variants.Checked check) = check_shown check
stage_shown (variants.Over ending) = Over ending

-- a stage that is among its items
abbrev pub IsItems : Stage → Type 0
IsItems (Items items) = Unit {0}
IsItems (Script line events count) = ⊥
IsItems (Checked line known count) = ⊥
IsItems (Over ending) = ⊥

-- the items that it has
abbrev pub items_of : Stage → List Item
items_of (Items items) = items
items_of (Script line events count) = line
items_of (Checked line known count) = line
items_of (Over ending) = []

abbrev pub reading_shown : code_reading.Reading → Reading
reading_shown r = record { command = r.command; number = r.number; bytes = r.bytes; stage = stage_shown r.stage }

-- no text line ends a document as done
abbrev pub done_early : Stage → Bool
done_early (Items items) = false
done_early (Script line events count) = false
done_early (Checked line known count) = false
done_early (Over (ends.Done n)) = true
done_early (Over ending) = false

-- after so many text lines: there is one zone at most, and no more events were read than text lines
abbrev pub Steady : ℕ → Stage → Type 0
Steady n (Items items) = count_by is_any_zone items ≤ 1
Steady n (Script line events count) = count ≤ n
Steady n (Checked line known count) = count ≤ n
Steady n (Over ending) = Unit {0}

-- the counts stay small
pub record Small (r : Reading) : Type 0 where
  pub number : r.number ≤ r.bytes
  pub bytes : r.bytes ≤ input_limit
  pub going : done_early r.stage ≡ false
  pub steady : Steady r.number r.stage
