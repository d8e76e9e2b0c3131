use Rattle.std.proofs.Common.{◌≡◌, ◌+◌, ◌*◌, ◌++◌, length, take}
use Rattle.std.specs.List.{flat_map}
use Rattle.definitions.specs.FrameFields.{spelled}
use Rattle.definitions.specs.FrameLayouts.{step}
use Rattle.frame_fields.proofs.writing.put_steps.Given as goal

abbrev pub invariant-loop-step : goal.invariant-loop-step
invariant-loop-step l =
    (l.out.items ≡ l.fn.out.items ++ (spelled 1 (length l.step-items) ++ flat_map step.spell (take l.step-index l.step-items)))
    × (length l.out.items ≡ length l.fn.out.items + 1 + 2 * l.step-index)
