use Rattle.std.proofs.Common.{arith}
use Rattle.track_points.specs.declared.ids.Dir.TheVariants.{Up}
use Rattle.definitions.specs.Track.{seg_len}
use Rattle.way_laws.proofs.Rear_after.{front_beyond}
use Rattle.way_path.proofs.Rest_is.{rest_is}
use Rattle.way_path.proofs.on_steps.+front_on.Goals as goal

pub returns-else-place-len : goal.returns-else-place-len
returns-else-place-len t c =
    front_beyond (seg_len c.args.line.now) _ c.args.steps.now _ c.args.place c.length_of-len.result c.front_on.result.0 c.front_on.result.1
    (rest_is c.args.steps.now (record { seg = record { 0 = 0 }; dir = Up }) c.in-len1-up.len_at_least) c.length_of-len.ensures.len (omega arith) c.front_on.ensures
