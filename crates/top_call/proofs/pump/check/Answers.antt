use Rattle.top_call.proofs.All_safe.{complete_check, refuses_check}
use Rattle.top_call.proofs.pump.check.Goals as goal

pub returns-clause-complete : goal.returns-clause-complete
returns-clause-complete g c = complete_check _ _ _ _ _ _ _ _ c.give.ensures.ran c.give.ensures.causes

pub returns-clause-refuses : goal.returns-clause-refuses
returns-clause-refuses g c = refuses_check _ _ _ _ _ _ _ _ c.give.ensures.ran c.give.ensures.causes
