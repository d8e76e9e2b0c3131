use Rattle.std.proofs.Common.{arith}
use Rattle.std.proofs.lemmas.Result.{err_from_is_err_and}
use Rattle.definitions.specs.FrameFields.{items_at}
use Rattle.definitions.specs.FrameLayouts.{step}
use Rattle.frame_fields.proofs.Goes_on.{goes_on, ends, is_done}
use Rattle.frame_fields.proofs.reading.read_items.Goals as goal

pub returns-in_err-step : goal.returns-in_err-step
returns-in_err-step c =
    let p = err_from_is_err_and c.from_residual.result c.from_residual.ensures.1 in
    rw (p.1, p.2) (ends step c.loop.out.items c.args.count c.loop.counter c.loop.rest.now (items_at step c.args.count c.args.bytes.now) c.loop.invariant.0 c.in_err-step.field-0.0 c.loop-test.true c.in_err-step.ensures)

pub loop-preserved : goal.loop-preserved
loop-preserved c =
    (rw c.push.ensures.items (goes_on step c.loop.out.items c.args.count c.loop.counter c.loop.rest.now (items_at step c.args.count c.args.bytes.now) c.loop.invariant.0 c.in_ok-step.step c.in_ok-step.after.now c.loop-test.true c.in_ok-step.ensures), omega (arith, c.push.ensures.len, c.loop.invariant.1))

pub returns : goal.returns
returns c = is_done step c.loop.out.items c.args.count c.loop.counter c.loop.rest.now (items_at step c.args.count c.args.bytes.now) c.loop.invariant.0 c.loop-test.false
