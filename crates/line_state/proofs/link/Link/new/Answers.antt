use Rattle.line_state.specs.Frames.{AreFrames}
use Rattle.line_state.proofs.link.Link.new.Goals as goal

pub invariant_of-result : goal.invariant_of-result
unfolding AreFrames
invariant_of-result c = rw c.new.ensures.items tt
