use Rattle.line_map.proofs.Segment_ok.{brake_sound}
use Rattle.line_map.proofs.line.Line.brake.Goals as goal

pub returns-clause-sound : goal.returns-clause-sound
returns-clause-sound c = rw c.brake.ensures (brake_sound c.self.inside.index c.self.invariant.valid)
