use Rattle.top_call.proofs.All_safe.{complete, refuses}
use Rattle.top_call.proofs.pump.run.Goals as goal

pub returns-clause-complete : goal.returns-clause-complete
returns-clause-complete g c = complete _ _ _ _ _ _ _ _ c.give.ensures.ran c.give.ensures.causes

pub returns-clause-refuses : goal.returns-clause-refuses
returns-clause-refuses g c = refuses _ _ _ _ _ _ _ _ c.give.ensures.ran c.give.ensures.causes
