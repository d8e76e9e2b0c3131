use Rattle.std.proofs.Common.{arith, ◌-◌, ◌<◌, length, refl}
use Rattle.std.proofs.lemmas.Bool.Decides.{nat_tests}
use Rattle.form_codec.proofs.Put_groups.{put_groups}
use Rattle.form_codec.proofs.read.+groups.Goals as goal

pub returns-in-Ok : goal.returns-in-Ok
returns-in-Ok t c =
    let k = c.if-is_empty.ensures in
    let some : 0 < length c.args.bytes.now = grind (arith, nat_tests, k) in
    let more : 0 < c.args.most = omega arith in
    put_groups c.args.group.now c.args.least c.args.most c.args.bytes.now c.args.values.now.items c.parts_of.new.values.items c.groups.new.values.items c.in-Ok.rest c.groups.result
    c.saturating_sub.result (c.args.most - 1) some more c.saturating_sub.ensures refl c.in-Ok.ensures.read c.groups.ensures
