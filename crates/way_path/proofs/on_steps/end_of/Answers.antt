use Rattle.std.proofs.Common.{◌≡◌, length, arith}
use Rattle.std.proofs.lemmas.Bool.Decides.{nat_tests}
use Rattle.definitions.specs.Track.{seg_len}
use Rattle.way_path.proofs.Rest_is.{ends_at}
use Rattle.way_path.proofs.on_steps.end_of.Goals as goal

pub returns-then-path-end : goal.returns-then-path-end
returns-then-path-end c =
    let some : length c.as_slice-steps.result.now ≡ 0 → ⊥ = λ z. let e = c.if-is_empty.ensures in grind (arith, nat_tests) in
    ends_at (seg_len c.args.line.now) c.args.path.now c.as_slice-steps.result.now c.first_len.result c.length_of.result c.place_of_last-end.result c.last_step.result
    c.as_slice-steps.ensures.value some c.first_len.ensures c.if-path-first_len.false c.last_step.ensures c.length_of.ensures.len c.if-path-length_of.false
    c.place_of_last-end.ensures.place c.if-path-end.true
