use Rattle.std.proofs.Common.{◌≡◌, ◌≤◌, ◌∙◌, ap, arith, length, ◌++◌}
use Rattle.std.proofs.lemmas.Fmt.{length-decimal-le}
use Rattle.std.specs.Fmt.{decimal}
use Rattle.form_codec.proofs.Spelling_one.{on_ok}
use Rattle.form_codec.proofs.write.put_number.Goals as goal

pub returns : goal.returns
returns c =
    let e : c.as_bytes-text.result.now ≡ decimal c.args.n = c.as_bytes-text.ensures.value ∙ c.format.ensures.text in
    let le : length (decimal c.args.n) ≤ 13 = length-decimal-le 13 c.args.n (omega arith) (omega arith) (omega arith) in
    let k = ap length e in
    on_ok c.try_extend_from_slice.result _ (c.try_extend_from_slice.ensures.variant.1 (omega arith)) c.try_extend_from_slice.ensures.ok ∙ ap (λ xs. c.args.out.now.items ++ xs) e
