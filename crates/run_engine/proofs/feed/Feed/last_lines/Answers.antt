use Rattle.std.proofs.Common.{◌∙◌, ◌++◌, Ok, Err, ap, subst}
use Rattle.definitions.specs.Trace.{stage_ends, Reading}
use Rattle.definitions.specs.Endings.{ending_text}
use Rattle.definitions.specs.declared.document.Ending.{Ending}
use Rattle.byte_feed.specs.Feed.{fed_gives, closed}
use Rattle.run_engine.specs.declared.output.Fault.TheVariants as faults
use Rattle.run_engine.specs.Feeding.{feed_shown}
use Rattle.run_engine.specs.Sends.{Sends}
use Rattle.run_engine.proofs.Other_text.{then, stop, buffered, buffer_full}
use Rattle.run_engine.proofs.feed.Feed.last_lines.Goals as goal

pub returns-in-Ok-write_ending-clause-ending : goal.returns-in-Ok-write_ending-clause-ending
unfolding fed_gives
returns-in-Ok-write_ending-clause-ending g c = c.end-ending.ensures ∙ ap (λ (r : Reading). stage_ends r.number r.stage) c.in-Ok.ensures.next

pub returns-in-Ok-write_ending-clause-sends : goal.returns-in-Ok-write_ending-clause-sends
unfolding fed_gives
returns-in-Ok-write_ending-clause-sends g c =
    let e = c.end-ending.ensures ∙ ap (λ (r : Reading). stage_ends r.number r.stage) c.in-Ok.ensures.next in
    let sink = c.close.new.sink in
    let old = c.close.new.self.teller.pending in
    let new = c.write_ending.new.sink in
    subst (λ (x : Ending). Sends {X = Ending} g.K.Sink.written g.K.Sink.faults c.args.sink.now sink c.args.self.now.teller.pending.text new.text ((closed (feed_shown c.args.self.now)).text ++ ending_text x) (Ok c.end-ending.result)) e
    (then g.K.Sink.written g.K.Sink.faults _ _ _ _ old.text _ _ (ending_text c.end-ending.result) _ _ c.in-Ok.ensures.sends (buffered g.K.Sink.written g.K.Sink.faults sink old new (ending_text c.end-ending.result) _ c.end-ending.result c.in-Ok-write_ending.ensures))

pub returns-in-Err-write_ending-clause-sends : goal.returns-in-Err-write_ending-clause-sends
unfolding fed_gives
returns-in-Err-write_ending-clause-sends g c =
    let e = c.end-ending.ensures ∙ ap (λ (r : Reading). stage_ends r.number r.stage) c.in-Ok.ensures.next in
    let sink = c.close.new.sink in
    let old = c.close.new.self.teller.pending in
    let new = c.write_ending.new.sink in
    subst (λ (x : Ending). Sends {X = Ending} g.K.Sink.written g.K.Sink.faults c.args.sink.now sink c.args.self.now.teller.pending.text new.text ((closed (feed_shown c.args.self.now)).text ++ ending_text x) (Err faults.Memory)) e
    (then g.K.Sink.written g.K.Sink.faults _ _ _ _ old.text _ _ (ending_text c.end-ending.result) _ _ c.in-Ok.ensures.sends (buffer_full g.K.Sink.written g.K.Sink.faults Ending sink old new (ending_text c.end-ending.result) _ c.in-Err-write_ending.ensures))

pub returns-in-Err-clause-sends : goal.returns-in-Err-clause-sends
unfolding fed_gives
returns-in-Err-clause-sends g c = stop g.K.Sink.written g.K.Sink.faults _ _ _ _ _ _ _ _ _ c.in-Err.ensures.sends
