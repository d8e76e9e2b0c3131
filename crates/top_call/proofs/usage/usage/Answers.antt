use Rattle.std.proofs.Common.{refl}
use Rattle.top_call.proofs.Told.{whole, part}
use Rattle.top_call.proofs.usage.usage.Goals as goal

pub returns-in-Ok-clause-gave : goal.returns-in-Ok-clause-gave
returns-in-Ok-clause-gave g c = (refl, (whole g.K.Sink.written g.K.Sink.faults _ _ _ _ c.in-Ok.ensures).0)

pub returns-in-Ok-clause-causes : goal.returns-in-Ok-clause-causes
returns-in-Ok-clause-causes g c = (refl, (whole g.K.Sink.written g.K.Sink.faults _ _ _ _ c.in-Ok.ensures).1)

pub returns-in-Err-clause-gave : goal.returns-in-Err-clause-gave
returns-in-Err-clause-gave g c = (part g.K.Sink.written g.K.Sink.faults _ _ _ _ c.in-Err.ensures).0

pub returns-in-Err-clause-causes : goal.returns-in-Err-clause-causes
returns-in-Err-clause-causes g c = let failed = part g.K.Sink.written g.K.Sink.faults _ _ _ _ c.in-Err.ensures in (refl, failed.1, failed.2)
