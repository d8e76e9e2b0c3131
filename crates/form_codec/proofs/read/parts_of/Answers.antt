use Rattle.form_codec.proofs.Put_code.{put_code}
use Rattle.form_codec.proofs.read.parts_of.Goals as goal

pub returns-then-code-eq0-clause-read : goal.returns-then-code-eq0-clause-read
returns-then-code-eq0-clause-read c = put_code c.args.parts.now c.args.values.now.items c.parts_left-code.new.values.items c.args.bytes.now c.parts_left-code.result c.split_at.result.1 c.parts_left-code.ensures.read c.if-code-eq0.true c.split_at.ensures.back
