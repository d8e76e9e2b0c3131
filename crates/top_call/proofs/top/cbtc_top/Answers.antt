use Rattle.std.proofs.Common.{sym}
use Rattle.top_call.proofs.Under.{answered, safe, few}
use Rattle.top_call.proofs.top.cbtc_top.Goals as goal

pub returns-in-Some-Run-clause-answer : goal.returns-in-Some-Run-clause-answer
returns-in-Some-Run-clause-answer g c = rw (sym c.in-Some-Run.ensures, c.in-Some-Run.field-0-is) (answered _ _ _ _ _ c.run.ensures.ran)

pub returns-in-Some-Run-clause-read : goal.returns-in-Some-Run-clause-read
returns-in-Some-Run-clause-read g c = rw (sym c.in-Some-Run.ensures, c.in-Some-Run.field-0-is) c.run.ensures.read

pub returns-in-Some-Run-clause-complete : goal.returns-in-Some-Run-clause-complete
returns-in-Some-Run-clause-complete g c = rw (sym c.in-Some-Run.ensures, c.in-Some-Run.field-0-is) c.run.ensures.complete

pub returns-in-Some-Run-clause-refuses : goal.returns-in-Some-Run-clause-refuses
returns-in-Some-Run-clause-refuses g c = rw (sym c.in-Some-Run.ensures, c.in-Some-Run.field-0-is) c.run.ensures.refuses

pub returns-in-Some-Run-clause-safe : goal.returns-in-Some-Run-clause-safe
returns-in-Some-Run-clause-safe g c = c.run.ensures.safe

pub returns-in-Some-Run-clause-few : goal.returns-in-Some-Run-clause-few
returns-in-Some-Run-clause-few g c = c.run.ensures.few

pub returns-in-Some-Check-clause-answer : goal.returns-in-Some-Check-clause-answer
returns-in-Some-Check-clause-answer g c = rw (sym c.in-Some-Check.ensures, c.in-Some-Check.field-0-is) (answered _ _ _ _ _ c.check.ensures.ran)

pub returns-in-Some-Check-clause-read : goal.returns-in-Some-Check-clause-read
returns-in-Some-Check-clause-read g c = rw (sym c.in-Some-Check.ensures, c.in-Some-Check.field-0-is) c.check.ensures.read

pub returns-in-Some-Check-clause-complete : goal.returns-in-Some-Check-clause-complete
returns-in-Some-Check-clause-complete g c = rw (sym c.in-Some-Check.ensures, c.in-Some-Check.field-0-is) c.check.ensures.complete

pub returns-in-Some-Check-clause-refuses : goal.returns-in-Some-Check-clause-refuses
returns-in-Some-Check-clause-refuses g c = rw (sym c.in-Some-Check.ensures, c.in-Some-Check.field-0-is) c.check.ensures.refuses

pub returns-in-Some-Check-clause-safe : goal.returns-in-Some-Check-clause-safe
returns-in-Some-Check-clause-safe g c = safe _

pub returns-in-Some-Check-clause-few : goal.returns-in-Some-Check-clause-few
returns-in-Some-Check-clause-few g c = c.check.ensures.few

pub returns-in-None-clause-safe : goal.returns-in-None-clause-safe
returns-in-None-clause-safe g c = safe _

pub returns-in-None-clause-few : goal.returns-in-None-clause-few
returns-in-None-clause-few g c = few _
