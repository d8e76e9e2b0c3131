use Rattle.std.proofs.Common.{refl}
use Rattle.run_engine.proofs.Other_text.{no_memory}
use Rattle.run_engine.proofs.feed.Teller.tell.Goals as goal

pub returns-in-Err-clause-sends : goal.returns-in-Err-clause-sends
returns-in-Err-clause-sends g c = no_memory g.K.Sink.written g.K.Sink.faults _ _ _ _ _ refl
