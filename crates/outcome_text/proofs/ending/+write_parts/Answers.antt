use Rattle.std.proofs.Common.{List, ℕ, Err, subst, sym}
use Rattle.edge_io.specs.Writing.{Wrote}
use Rattle.edge_io.proofs.Wrote_then.{then, stop}
use Rattle.outcome_text.proofs.Parts_first.{parts_none, parts_first}
use Rattle.outcome_text.proofs.ending.+write_parts.Goals as goal

pub returns-in-empty : goal.returns-in-empty
returns-in-empty g t c =
    subst (λ (s : List ℕ). Wrote g.K.Sink.written g.K.Sink.faults c.args.sink.now c.write_text.new.sink s c.write_text.result) (sym (parts_none c.args.parts.now c.args.last.now c.in-empty.len_below))
    c.write_text.ensures

pub returns-in-Ok : goal.returns-in-Ok
returns-in-Ok g t c =
    subst (λ (s : List ℕ). Wrote g.K.Sink.written g.K.Sink.faults c.args.sink.now c.write_parts.new.sink s c.write_parts.result) (sym (parts_first c.args.parts.now c.args.last.now _ c.in-len1-up.len_at_least))
    (then g.K.Sink.written g.K.Sink.faults _ _ _ _ _ _ _ c.in-Ok.ensures c.write_parts.ensures)

pub returns-in-Err : goal.returns-in-Err
returns-in-Err g t c =
    subst (λ (s : List ℕ). Wrote g.K.Sink.written g.K.Sink.faults c.args.sink.now c.write_part.new.sink s (Err c.in-Err.fault)) (sym (parts_first c.args.parts.now c.args.last.now _ c.in-len1-up.len_at_least))
    (stop g.K.Sink.written g.K.Sink.faults _ _ _ _ _ c.in-Err.ensures)
