use Rattle.std.proofs.Common.{arith, ◌∙◌}
use Rattle.world_sim.proofs.Stands_on.{followed, stands_on, reach_marks, goes_here}
use Rattle.world_sim.proofs.trains.moved.Goals as goal

pub follower-step-requires-clause-some : goal.follower-step-requires-clause-some
follower-step-requires-clause-some c =
    let e = c.from-in-loop-place.ensures in
    let s = c.seg_len.ensures.len in
    let h = c.loop-place-test.true in
    followed c.args.line.now c.args.head.step c.args.head.mark _ c.loop-place.step c.loop-place.mark c.loop-place.place c.loop-place.invariant (omega arith)

pub overflow_add-mark : goal.overflow_add-mark
overflow_add-mark c =
    let e = c.from-in-loop-place.ensures in
    let s = c.seg_len.ensures.len in
    let h = c.loop-place-test.true in
    let m = reach_marks c.args.line.now c.loop-place.step c.loop-place.mark c.loop-place.place c.loop-place.invariant.track (omega arith) in
    omega arith

pub loop-place-preserved : goal.loop-place-preserved
loop-place-preserved c =
    let e = c.from-in-loop-place.ensures in
    let s = c.seg_len.ensures.len in
    let h = c.loop-place-test.true in
    let f = c.from-place.ensures in
    let t = c.seg_len-in-loop-place.ensures.len in
    let some = c.seg_len-in-loop-place.ensures.some in
    stands_on c.args.line.now c.args.head.step c.args.head.mark _ c.loop-place.step c.follower-step.result c.loop-place.mark c.loop-place.place c.from-place.result c.requires.valid c.loop-place.invariant (f ∙ t) (omega arith) (omega arith) c.follower-step.ensures

pub returns : goal.returns
returns c =
    let e = c.from-in-loop-place.ensures in
    let s = c.seg_len.ensures.len in
    let h = c.loop-place-test.false in
    goes_here c.args.line.now c.loop-place.step c.loop-place.mark c.loop-place.place (omega arith) ∙ c.loop-place.invariant.same
