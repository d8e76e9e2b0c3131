use Rattle.std.proofs.Common.{refl}
use Rattle.definitions.specs.Rules.{builds}
use Rattle.line_map.proofs.builder.LineBuilder.new.Goals as goal

pub invariant_of-result : goal.invariant_of-result
unfolding builds
invariant_of-result c = record {
  builds = rw c.in_ok-index.ensures refl;
  empty = c.in_ok-order.ensures.items;
  room = c.in_ok-order.ensures.capacity;
}
