use Rattle.frame_reading.proofs.Frame_again.{frame_alone}
use Rattle.frame_reading.proofs.reading.one_frame_each.Goals as goal

pub returns : goal.returns
returns c = frame_alone
