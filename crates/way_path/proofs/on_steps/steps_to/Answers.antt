use Rattle.std.proofs.Common.{arith, length, refl, ◌≡◌}
use Rattle.definitions.specs.Track.{seg_len}
use Rattle.way_path.proofs.Rest_is.{few_steps_to}
use Rattle.way_path.proofs.on_steps.steps_to.Goals as goal

pub add_steps-requires : goal.add_steps-requires
add_steps-requires c =
    let h = few_steps_to (seg_len c.args.line.now) c.args.steps.now c.args.place in
    let r = c.requires in
    let e : length c.new-out.result.items ≡ 0 = rw c.new-out.ensures refl in omega arith
