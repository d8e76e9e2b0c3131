use Rattle.std.proofs.Common.{◌+◌, length, arith, refl}
use Rattle.frame_reading.proofs.Frame_again.{is_placed}
use Rattle.frame_reading.proofs.reading.rest_of.Goals as goal

pub fault_of-requires : goal.fault_of-requires
fault_of-requires c = is_placed c.args.version c.args.kind c.args.bytes.now c.in-Err.unread (length c.args.bytes.now + 2) (λ i. omega (arith, c.type_inv.bytes i)) c.requires.version c.requires.kind refl c.in-Err.ensures
