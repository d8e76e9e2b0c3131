use Rattle.track_points.specs.Sets.{held}
use Rattle.way_path.proofs.As_points.{as_points}
use Rattle.way_path.proofs.points.points_of.Goals as goal

pub returns : goal.returns
unfolding held
returns c =
    let e = c.empty-set.ensures in
    as_points c.args.line.now c.args.zone c.add_points.new.set c.args.steps.now c.args.lo c.args.hi
    (rw e at c.add_points.ensures.tokens)
    (λ s mm. rw e at (c.add_points.ensures.cells s mm))
