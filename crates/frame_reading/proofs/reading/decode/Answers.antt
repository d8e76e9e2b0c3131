use Rattle.std.proofs.Common.{arith, ap, ◌∙◌}
use Rattle.definitions.specs.Frames.{frame_at}
use Rattle.frame_reading.proofs.Frame_again.{frame_again, is_found}
use Rattle.frame_reading.proofs.reading.decode.Goals as goal

pub returns-clause-found : goal.returns-clause-found
returns-clause-found c = is_found c.args.bytes.now c.frame.result (λ i. omega (arith, c.type_inv.bytes i)) c.frame.ensures

pub returns-clause-only : goal.returns-clause-only
returns-clause-only c = λ m fits e. c.frame.ensures ∙ ap frame_at e ∙ frame_again m fits
