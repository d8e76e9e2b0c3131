use Rattle.std.proofs.Common.{arith}
use Rattle.run_engine.specs.Feeding.{feed_shown}
use Rattle.run_engine.proofs.More_next.{none_next, none_sends, more_next, more_sends, more_fails}
use Rattle.run_engine.proofs.feed.Feed.text_lines.Goals as goal

pub loop-done-init : goal.loop-done-init
loop-done-init g c = record {
  so_far = omega arith;
  next = none_next (feed_shown c.args.self.now);
  sends = none_sends g.K.Sink.written g.K.Sink.faults (feed_shown c.args.self.now) _ _;
  within = c.requires.within;
}

pub loop-done-preserved : goal.loop-done-preserved
loop-done-preserved g c =
    let back = c.split_at.ensures.back in
    record {
      so_far = omega (arith, c.in-Ok.ensures.count, c.split_at.ensures.back_len);
      next = more_next _ _ _ _ _ _ c.loop-done.invariant.next (rw back at c.in-Ok.ensures.next);
      sends = more_sends g.K.Sink.written g.K.Sink.faults _ _ _ _ _ _ _ _ _ _ _ c.loop-done.invariant.next c.loop-done.invariant.sends (rw back at c.in-Ok.ensures.sends);
      within = c.in-Ok.ensures.within;
    }

pub returns-in-Err-clause-sends : goal.returns-in-Err-clause-sends
returns-in-Err-clause-sends g c =
    more_fails g.K.Sink.written g.K.Sink.faults _ _ _ _ _ _ _ _ _ _ _ c.loop-done.invariant.next c.loop-done.invariant.sends (rw c.split_at.ensures.back at c.in-Err.ensures.sends)
