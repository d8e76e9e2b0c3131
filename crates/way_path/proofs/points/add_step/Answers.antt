use Rattle.way_path.proofs.As_points.{not_full}
use Rattle.way_path.proofs.points.add_step.Goals as goal

pub unreachable-requires : goal.unreachable-requires
unreachable-requires c = not_full c.args.set.now c.cells_of.result c.requires.room c.in_default.ensures.err.needs
