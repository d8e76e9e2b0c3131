use Rattle.std.proofs.Common.{List, ℕ, Err, subst, sym, arith}
use Rattle.edge_io.specs.Writing.{Wrote}
use Rattle.edge_io.proofs.Wrote_then.{then, stop}
use Rattle.text_forms.specs.declared.part.Part.TheVariants.{Number}
use Rattle.form_codec.proofs.Spelling_one.{text_none, text_some, never_none}
use Rattle.form_codec.proofs.write.+write_values.Goals as goal

pub returns-in_default : goal.returns-in_default
returns-in_default g t c =
    subst (λ (s : List ℕ). Wrote g.K.Sink.written g.K.Sink.faults c.args.sink.now c.write_text.new.sink s c.write_text.result) (sym (text_none c.args.group.now c.args.parts.now c.args.values.now c.in_default.len_below))
    c.write_text.ensures

pub unreachable-requires : goal.unreachable-requires
unreachable-requires g t c = never_none c.args.group.now c.args.parts.now c.args.values.now c.next.result.now c.next.ensures c.in-len1-up.len_at_least c.in_default-next.len_below c.requires

pub write_part-requires : goal.write_part-requires
write_part-requires g t c = (text_some c.args.group.now c.args.parts.now c.args.values.now c.next.result.now Number c.next.ensures c.in-len1-up.len_at_least c.in-len1-up-next.len_at_least c.requires).fits

pub write_values-requires : goal.write_values-requires
write_values-requires g t c =
    let k = (text_some c.args.group.now c.args.parts.now c.args.values.now c.next.result.now Number c.next.ensures c.in-len1-up.len_at_least c.in-len1-up-next.len_at_least c.requires).later in
    λ κs h. (omega arith, (h, k))

pub returns-in-Ok : goal.returns-in-Ok
returns-in-Ok g t c =
    let f = text_some c.args.group.now c.args.parts.now c.args.values.now c.next.result.now Number c.next.ensures c.in-len1-up.len_at_least c.in-len1-up-next.len_at_least c.requires in
    subst (λ (s : List ℕ). Wrote g.K.Sink.written g.K.Sink.faults c.args.sink.now c.write_values.new.sink s c.write_values.result) (sym f.text)
    (then g.K.Sink.written g.K.Sink.faults _ _ _ _ _ _ _ c.in-Ok.ensures c.write_values.ensures)

pub returns-in-Err : goal.returns-in-Err
returns-in-Err g t c =
    let f = text_some c.args.group.now c.args.parts.now c.args.values.now c.next.result.now Number c.next.ensures c.in-len1-up.len_at_least c.in-len1-up-next.len_at_least c.requires in
    subst (λ (s : List ℕ). Wrote g.K.Sink.written g.K.Sink.faults c.args.sink.now c.write_part.new.sink s (Err c.in-Err.fault)) (sym f.text)
    (stop g.K.Sink.written g.K.Sink.faults _ _ _ _ _ c.in-Err.ensures)
