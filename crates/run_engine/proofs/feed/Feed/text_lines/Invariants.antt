use Rattle.std.proofs.Common.{◌≡◌, ◌≤◌, ◌-◌, length, take, Ok}
use Rattle.byte_feed.specs.Feed.{feds, feds_text}
use Rattle.run_engine.specs.Feeding.{feed_shown, Within}
use Rattle.run_engine.specs.Sends.{Sends}
use Rattle.run_engine.proofs.feed.Feed.text_lines.Given as goal

abbrev pub invariant-loop-done : goal.invariant-loop-done
invariant-loop-done g l =
    record {
      so_far : l.done ≤ length l.piece;
      next : feed_shown l.self ≡ feds (feed_shown l.fn.self) (take l.done l.piece);
      sends : Sends {X = Unit {0}} g.K.Sink.written g.K.Sink.faults l.fn.sink l.sink l.fn.self.teller.pending.text l.self.teller.pending.text (feds_text (feed_shown l.fn.self) (take l.done l.piece)) (Ok tt);
      within : Within (feed_shown l.self);
    }

abbrev pub decreases-loop-done : goal.decreases-loop-done
decreases-loop-done g l = length l.piece - l.done
