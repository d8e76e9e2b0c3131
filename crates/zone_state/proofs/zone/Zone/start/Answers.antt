use Rattle.std.proofs.Common.{rules}
use Rattle.zone_state.proofs.Held_some.{none_on}
use Rattle.zone_state.proofs.zone.Zone.start.Goals as goal

pub returns-clause-fits : goal.returns-clause-fits
returns-clause-fits c = none_on c.args.line.now _ (search rules) (search rules)
