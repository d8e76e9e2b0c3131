use Rattle.std.proofs.Common.{◌≡◌, ◌-◌, length}
use Rattle.definitions.specs.FrameFields.{items_at, with_front}
use Rattle.definitions.specs.FrameLayouts.{step}
use Rattle.frame_fields.proofs.reading.read_items.Given as goal

abbrev pub invariant-loop : goal.invariant-loop
invariant-loop l = (with_front l.out.items (items_at step (l.count - l.counter) l.rest) ≡ items_at step l.count l.bytes) × (length l.out.items ≡ l.counter)
