use Rattle.std.proofs.Common.{sym, ◌∙◌}
use Rattle.definitions.specs.Track.{seg_len}
use Rattle.zone_reach.proofs.Train_away.{train_away}
use Rattle.zone_reach.proofs.held.or_near_train.Goals as goal

pub returns-else-visits : goal.returns-else-visits
returns-else-visits c =
    let v = rw (c.as_slice.ensures.value, c.path.ensures.path) at (sym c.visits.ensures ∙ c.if-visits.false) in
    sym (train_away (seg_len c.args.line.now) c.args.other.now c.args.step c.args.from c.args.nearest v c.requires)
