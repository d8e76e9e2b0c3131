use Rattle.std.proofs.Common.{◌∙◌, refl, ap, sym, arith}
use Rattle.byte_feed.specs.Feed.{feds, feds_text}
use Rattle.run_engine.specs.Feeding.{feed_shown}
use Rattle.top_call.proofs.Told.{told_ok, told_front, told_cause}
use Rattle.top_call.proofs.Midway_more.{midway_start, midway_more, midway_fails, midway_stays, midway_cut, midway_end, midway_over, not_stopped, counts}
use Rattle.top_call.proofs.pump.pump.Goals as goal

pub returns-then-is_over-clause-pumped : goal.returns-then-is_over-clause-pumped
returns-then-is_over-clause-pumped g c =
    let front = c.split_at.ensures.front in
    let f = feed_shown c.loop-turn.feed in
    let did = told_ok g.K.Sink.written g.K.Sink.faults _ _ _ _ _ c.in-Ok.ensures.does (ap (feds_text f) front) in
    midway_over _ _ _ _ _ _ (sym c.is_over.ensures ∙ c.if-is_over.true)
    (midway_more _ _ _ _ _ _ _ _ _ _ _ c.in-Bytes.ensures.bytes c.loop-turn.invariant.midway (c.in-Ok.ensures.next ∙ ap (feds f) front) did.0)

pub returns-then-is_over-clause-causes : goal.returns-then-is_over-clause-causes
returns-then-is_over-clause-causes g c =
    let did = told_ok g.K.Sink.written g.K.Sink.faults _ _ _ _ _ c.in-Ok.ensures.does refl in
    (c.in-Bytes.ensures.cause ∙ c.loop-turn.invariant.read, did.1 ∙ c.loop-turn.invariant.wrote)

pub returns-in-Err-clause-pumped : goal.returns-in-Err-clause-pumped
returns-in-Err-clause-pumped g c =
    let f = feed_shown c.loop-turn.feed in
    midway_cut _ _ _ _ _ _ _ _ _ _ _ _ c.in-Bytes.ensures.bytes c.loop-turn.invariant.midway
    (told_front g.K.Sink.written g.K.Sink.faults _ _ _ _ _ _ c.in-Err.ensures.does (ap (feds_text f) c.split_at.ensures.front))

pub returns-in-Err-clause-causes : goal.returns-in-Err-clause-causes
returns-in-Err-clause-causes g c = rw c.cut_by.ensures
    (told_cause g.K.Sink.written g.K.Sink.faults _ _ _ _ _ _ _ _ c.in-Err.ensures.does (c.in-Bytes.ensures.cause ∙ c.loop-turn.invariant.read) c.loop-turn.invariant.wrote)

pub returns-in-Failed-clause-pumped : goal.returns-in-Failed-clause-pumped
returns-in-Failed-clause-pumped g c = midway_fails _ _ _ _ _ _ _ _ _ refl c.loop-turn.invariant.midway

pub returns-in-Failed-clause-stop : goal.returns-in-Failed-clause-stop
returns-in-Failed-clause-stop g c = midway_stays _ _ _ _ _ _ _ _ c.in-Failed.ensures.bytes c.loop-turn.invariant.midway

pub returns-in-Err-clause-stop : goal.returns-in-Err-clause-stop
returns-in-Err-clause-stop g c = rw c.cut_by.ensures (not_stopped _ _)

pub loop-turn-preserved : goal.loop-turn-preserved
loop-turn-preserved g c =
    let front = c.split_at.ensures.front in
    let f = feed_shown c.loop-turn.feed in
    let did = told_ok g.K.Sink.written g.K.Sink.faults _ _ _ _ _ c.in-Ok.ensures.does (ap (feds_text f) front) in
    let on = sym c.is_over.ensures ∙ c.if-is_over.false in
    record {
      midway = midway_more _ _ _ _ _ _ _ _ _ _ _ c.in-Bytes.ensures.bytes c.loop-turn.invariant.midway (c.in-Ok.ensures.next ∙ ap (feds f) front) did.0;
      read = c.in-Bytes.ensures.cause ∙ c.loop-turn.invariant.read;
      wrote = did.1 ∙ c.loop-turn.invariant.wrote;
      within = c.in-Ok.ensures.within;
      on = on;
      turns = omega (arith, counts f (feed_shown c.take.new.self) _ c.in-Ok.ensures.next on, c.split_at.ensures.front_len, c.in-Bytes.ensures.within, c.loop-turn.invariant.turns);
    }

pub loop-turn-init : goal.loop-turn-init
loop-turn-init g c = record {
  midway = midway_start _ _ _;
  read = refl;
  wrote = refl;
  within = c.requires.within;
  on = c.requires.on;
  turns = omega arith;
}

pub returns-in-End-clause-pumped : goal.returns-in-End-clause-pumped
returns-in-End-clause-pumped g c = midway_end _ _ _ _ _ _ _ _ c.in-End.ensures.bytes c.loop-turn.invariant.midway
