use Rattle.std.proofs.Common.{arith, ◌≤◌, length, get_or}
use Rattle.form_codec.proofs.Put_code.{part_err, part_ok}
use Rattle.text_forms.specs.declared.part.Part.TheVariants.{Number}
use Rattle.form_codec.proofs.read.+parts_left.Goals as goal

pub overflow_mul-result-in-Err : goal.overflow_mul-result-in-Err
overflow_mul-result-in-Err t c = let h : c.in-Err.left ≤ length c.args.bytes.now = part_err (get_or c.args.parts.now 0 Number) c.args.bytes.now c.in-Err.left c.in-Err.ensures in omega arith

pub overflow_add-result : goal.overflow_add-result
overflow_add-result t c = let h : c.in-Err.left ≤ length c.args.bytes.now = part_err (get_or c.args.parts.now 0 Number) c.args.bytes.now c.in-Err.left c.in-Err.ensures in omega arith

pub returns-in-Ok-clause-within : goal.returns-in-Ok-clause-within
returns-in-Ok-clause-within t c = let h = part_ok (get_or c.args.parts.now 0 Number) c.args.bytes.now c.in-Ok.value c.in-Ok.rest.now c.in-Ok.ensures in omega (arith, c.parts_left.ensures.within)

pub returns-in-Err-clause-within : goal.returns-in-Err-clause-within
returns-in-Err-clause-within t c = let h : c.in-Err.left ≤ length c.args.bytes.now = part_err (get_or c.args.parts.now 0 Number) c.args.bytes.now c.in-Err.left c.in-Err.ensures in omega arith
