use Rattle.track_points.specs.declared.ids.Dir.TheVariants.{Up}
use Rattle.definitions.specs.Track.{seg_len}
use Rattle.way_laws.proofs.Rear_after.{rear_beyond}
use Rattle.way_path.proofs.Rest_is.{rest_is}
use Rattle.way_path.proofs.on_steps.+rear_on.Goals as goal

pub returns-else-place-len : goal.returns-else-place-len
returns-else-place-len t c =
    rear_beyond (seg_len c.args.line.now) _ c.args.steps.now _ c.args.place c.length_of-len.result c.rear_on.result.0 c.rear_on.result.1
    (rest_is c.args.steps.now (record { seg = record { 0 = 0 }; dir = Up }) c.in-len1-up.len_at_least) c.length_of-len.ensures.len c.if-place-len.false c.rear_on.ensures
