use Rattle.std.proofs.Common.{sym, ap}
use Rattle.run_engine.specs.declared.reads.Reads.{Reads}
use Rattle.run_engine.specs.Reads.{again_by}
use Rattle.run_engine.proofs.Other_text.{nothing, then, stop, other_text}
use Rattle.run_engine.proofs.output.send_again.Goals as goal

pub returns-in-Ok : goal.returns-in-Ok
returns-in-Ok g c =
    other_text g.K.Sink.written g.K.Sink.faults _ _ _ _ _ _ _ (ap (λ (r : Reads). again_by r c.args.text.now) (sym c.in-Again.is))
    (then g.K.Sink.written g.K.Sink.faults _ _ _ _ _ _ _ _ _ _ c.in-Ok.ensures c.send_text-in-Ok.ensures)

pub returns-in-Err : goal.returns-in-Err
returns-in-Err g c =
    other_text g.K.Sink.written g.K.Sink.faults _ _ _ _ _ _ _ (ap (λ (r : Reads). again_by r c.args.text.now) (sym c.in-Again.is))
    (stop g.K.Sink.written g.K.Sink.faults _ _ _ _ _ _ _ _ _ c.in-Err.ensures)

pub returns-in-On : goal.returns-in-On
returns-in-On g c = nothing g.K.Sink.written g.K.Sink.faults _ _ _ _ (ap (λ (r : Reads). again_by r c.args.text.now) c.in-On.is)

pub returns-in-Ends : goal.returns-in-Ends
returns-in-Ends g c = nothing g.K.Sink.written g.K.Sink.faults _ _ _ _ (ap (λ (r : Reads). again_by r c.args.text.now) c.in-Ends.is)
