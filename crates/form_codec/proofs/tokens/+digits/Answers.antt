use Rattle.std.proofs.Common.{arith, lit<}
use Rattle.form_codec.proofs.Most_small.{digit_fits, digit_small, most_small}
use Rattle.form_codec.proofs.tokens.+digits.Goals as goal

pub overflow_mul-so_far : goal.overflow_mul-so_far
overflow_mul-so_far t c = let h = digit_fits c.args.so_far 0 c.args.more (omega arith) c.requires.most (lit< tt) c.requires.small in omega arith

pub overflow_add-so_far : goal.overflow_add-so_far
overflow_add-so_far t c = let h = digit_fits c.args.so_far c.from-digit.result c.args.more (omega arith) c.requires.most (omega (arith, c.from-digit.ensures)) c.requires.small in omega arith

pub digits-requires : goal.digits-requires
digits-requires t c = (omega arith, (digit_small c.args.so_far c.from-digit.result c.args.more (omega arith) c.requires.most (omega (arith, c.from-digit.ensures)) c.requires.small, (omega arith, omega arith)))

pub returns-in_default-clause-most : goal.returns-in_default-clause-most
returns-in_default-clause-most t c = let h = most_small c.args.so_far c.args.more c.requires.small in omega arith

pub returns-in_default-byte-clause-most : goal.returns-in_default-byte-clause-most
returns-in_default-byte-clause-most t c = let h = most_small c.args.so_far c.args.more c.requires.small in omega arith

pub overflow_mul-result : goal.overflow_mul-result
overflow_mul-result t c = let h = most_small c.args.so_far c.args.more c.requires.small in omega arith

pub overflow_add-result : goal.overflow_add-result
overflow_add-result t c = let h = most_small c.args.so_far c.args.more c.requires.small in omega arith

pub overflow_mul-result-in_default-byte : goal.overflow_mul-result-in_default-byte
overflow_mul-result-in_default-byte t c = let h = most_small c.args.so_far c.args.more c.requires.small in omega arith

pub overflow_add-result-in_default-byte : goal.overflow_add-result-in_default-byte
overflow_add-result-in_default-byte t c = let h = most_small c.args.so_far c.args.more c.requires.small in omega arith
