use Rattle.std.proofs.Common.{◌≡◌, ◌≤◌, false}
use Rattle.definitions.specs.Trace.{is_over}
use Rattle.byte_feed.specs.Feed.{total}
use Rattle.run_engine.specs.Feeding.{feed_shown, Within}
use Rattle.top_call.specs.Running.{Midway}
use Rattle.top_call.proofs.pump.pump.Given as goal

abbrev pub invariant-loop-turn : goal.invariant-loop-turn
invariant-loop-turn g l =
    record {
      midway : Midway (g.S.Source.left l.fn.src) (g.S.Source.left l.src) (feed_shown l.fn.feed) (feed_shown l.feed) (g.K.Sink.written l.fn.sink) (g.K.Sink.written l.sink);
      read : g.S.Source.faults l.src ≡ g.S.Source.faults l.fn.src;
      wrote : g.K.Sink.faults l.sink ≡ g.K.Sink.faults l.fn.sink;
      within : Within (feed_shown l.feed);
      on : is_over (feed_shown l.feed).reading.stage ≡ false;
      turns : l.turn ≤ total (feed_shown l.feed);
    }
