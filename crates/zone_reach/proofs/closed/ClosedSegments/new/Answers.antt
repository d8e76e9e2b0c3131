use Rattle.plain_state.specs.Plain.{none_closed}
use Rattle.zone_reach.proofs.closed.ClosedSegments.new.Goals as goal

pub returns : goal.returns
unfolding none_closed
returns c = c.in_ok-vec.ensures.items_if_clones_equal (λ y h. h)
