use Rattle.std.proofs.Common.{ap}
use Rattle.edge_io.specs.Memory.{InBuffer}
use Rattle.run_engine.proofs.Other_text.{from_none, ends, end_fails, gave_up}
use Rattle.run_engine.proofs.feed.Feed.end.Goals as goal

pub returns-in-Ok-flush-clause-does : goal.returns-in-Ok-flush-clause-does
returns-in-Ok-flush-clause-does g c =
    ends g.K.Sink.written g.K.Sink.faults _ _ _ _ _ _ _ _ (from_none g.K.Sink.written g.K.Sink.faults _ _ _ _ _ _ (ap (λ (b : InBuffer). b.text) c.clear.ensures) c.in-Ok.ensures.sends) c.in-Ok-flush.ensures.wrote

pub returns-in-Err-flush-clause-does : goal.returns-in-Err-flush-clause-does
returns-in-Err-flush-clause-does g c =
    end_fails g.K.Sink.written g.K.Sink.faults _ _ _ _ _ _ _ _ (from_none g.K.Sink.written g.K.Sink.faults _ _ _ _ _ _ (ap (λ (b : InBuffer). b.text) c.clear.ensures) c.in-Ok.ensures.sends) c.in-Err-flush.ensures.wrote

pub returns-in-Err-clause-does : goal.returns-in-Err-clause-does
returns-in-Err-clause-does g c =
    gave_up g.K.Sink.written g.K.Sink.faults _ _ _ _ _ _ _ _ _ (from_none g.K.Sink.written g.K.Sink.faults _ _ _ _ _ _ (ap (λ (b : InBuffer). b.text) c.clear.ensures) c.in-Err.ensures.sends) c.give_up.ensures
