use Rattle.std.proofs.Common.{sym, ◌∙◌}
use Rattle.track_points.specs.Sets.{has_cell}
use Rattle.way_path.proofs.As_points.{step_own, step_else}
use Rattle.way_path.proofs.points.add_step_of.Goals as goal

pub returns-then-is_of-clause-cells : goal.returns-then-is_of-clause-cells
returns-then-is_of-clause-cells c s mm =
    step_own c.args.line.now c.args.zone c.args.step c.args.from c.args.to s mm (has_cell c.args.set.now s mm) (has_cell c.add_step.new.set s mm)
    (sym c.is_of.ensures ∙ c.if-is_of.true) (c.add_step.ensures.cells s mm)

pub returns-else-is_of-clause-cells : goal.returns-else-is_of-clause-cells
returns-else-is_of-clause-cells c s mm =
    step_else c.args.line.now c.args.zone c.args.step c.args.from c.args.to s mm (has_cell c.args.set.now s mm) (sym c.is_of.ensures ∙ c.if-is_of.false)
