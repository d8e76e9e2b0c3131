-- A feed as the definitions see it.
use Rattle.std.specs.Prelude.{◌≡◌, ◌≤◌, ◌+◌, false}
use Rattle.run_engine.specs.declared.feed.Feed as code
use Rattle.definitions.specs.Trace.{input_limit}
use Rattle.byte_feed.specs.Feed.{Feed}
use Rattle.run_engine.specs.Shown.{reading_shown, done_early, Steady}

abbrev pub feed_shown : code.Feed → Feed
feed_shown f = record { reading = reading_shown f.teller.reading; kept = f.begun.kept.items; size = f.begun.size }

-- the bytes taken stay within the limit
pub record Within (f : Feed) : Type 0 where
  pub number : f.reading.number ≤ f.reading.bytes
  pub bytes : f.reading.bytes + f.size ≤ input_limit
  pub going : done_early f.reading.stage ≡ false
  pub steady : Steady f.reading.number f.reading.stage
