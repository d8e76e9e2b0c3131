use Rattle.std.proofs.Common.{arith}
use Rattle.form_codec.proofs.Unpacked.{unpacked, pair_of}
use Rattle.form_codec.proofs.tokens.digits_of.Goals as goal

pub split_at-requires : goal.split_at-requires
split_at-requires c = (unpacked c.args.so_far c.args.more c.args.bytes.now c.digits-packed.result (omega arith) c.digits-packed.ensures.value).within

pub returns-clause-value : goal.returns-clause-value
returns-clause-value c = pair_of c.args.so_far c.args.more c.args.bytes.now c.digits-packed.result c.split_at.result.1.now (omega arith) c.digits-packed.ensures.value c.split_at.ensures.back
