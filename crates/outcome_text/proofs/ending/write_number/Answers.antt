use Rattle.std.proofs.Common.{ℕ, List, ◌∙◌, subst}
use Rattle.edge_io.specs.Writing.{Wrote}
use Rattle.outcome_text.proofs.ending.write_number.Goals as goal

pub returns : goal.returns
returns g c = subst (λ (t : List ℕ). Wrote g.K.Sink.written g.K.Sink.faults c.args.sink.now c.write_text.new.sink t c.write_text.result) (c.as_bytes.ensures.value ∙ c.format.ensures.text) c.write_text.ensures
