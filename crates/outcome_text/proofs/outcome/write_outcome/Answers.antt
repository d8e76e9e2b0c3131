use Rattle.std.proofs.Common.{ℕ, List, ◌∙◌, codes}
use Rattle.edge_io.proofs.Wrote_then.{then, stop}
use Rattle.definitions.specs.declared.outcome.Outcome.{Outcome}
use Rattle.definitions.specs.OutcomeText.{outcome_text, outcome_forms, outcome_place, outcome_values, plain_text}
use Rattle.outcome_text.proofs.Says_at.{says_at}
use Rattle.outcome_text.proofs.outcome.write_outcome.Goals as goal

abbrev said : Outcome → List ℕ
said x = plain_text outcome_forms (outcome_place x) (outcome_values x)

pub write_line-requires : goal.write_line-requires
write_line-requires g c = (said c.args.outcome.now, says_at c.outcome_rows.result.now c.place_of.result c.as_slice.result.now c.args.outcome.now c.outcome_rows.ensures c.place_of.ensures (c.as_slice.ensures.value ∙ c.values_of-values.ensures.is) c.values_of-values.ensures.fit)

pub returns-in-Ok : goal.returns-in-Ok
unfolding outcome_text
returns-in-Ok g c =
    then g.K.Sink.written g.K.Sink.faults _ _ _ (said c.args.outcome.now) (codes "\n") _ _
    (c.in-Ok.ensures (said c.args.outcome.now) (says_at c.outcome_rows.result.now c.place_of.result c.as_slice.result.now c.args.outcome.now c.outcome_rows.ensures c.place_of.ensures (c.as_slice.ensures.value ∙ c.values_of-values.ensures.is) c.values_of-values.ensures.fit)) c.write_text.ensures

pub returns-in-Err : goal.returns-in-Err
unfolding outcome_text
returns-in-Err g c =
    stop g.K.Sink.written g.K.Sink.faults _ _ (said c.args.outcome.now) (codes "\n") _
    (c.in-Err.ensures (said c.args.outcome.now) (says_at c.outcome_rows.result.now c.place_of.result c.as_slice.result.now c.args.outcome.now c.outcome_rows.ensures c.place_of.ensures (c.as_slice.ensures.value ∙ c.values_of-values.ensures.is) c.values_of-values.ensures.fit))
