use Rattle.std.proofs.Common.{◌∙◌, refl, sym, arith}
use Rattle.byte_feed.proofs.Leads_run.{leads_over}
use Rattle.run_engine.specs.Feeding.{feed_shown}
use Rattle.run_engine.proofs.Other_text.{nothing, stop, other_text, answers, fails}
use Rattle.run_engine.proofs.More_next.{led, ran, line_ahead, run_ahead, past_ahead, line_left}
use Rattle.run_engine.proofs.feed.Feed.line.Goals as goal

pub returns-then-is_over-clause-sends : goal.returns-then-is_over-clause-sends
returns-then-is_over-clause-sends g c =
    let f = feed_shown c.args.self.now in
    nothing g.K.Sink.written g.K.Sink.faults _ _ _ _ (led f c.args.rest.now _ (leads_over c.args.rest.now f (sym c.is_over.ensures ∙ c.if-is_over.true))).text

pub returns-then-is_over-clause-next : goal.returns-then-is_over-clause-next
returns-then-is_over-clause-next g c =
    let f = feed_shown c.args.self.now in
    sym (led f c.args.rest.now _ (leads_over c.args.rest.now f (sym c.is_over.ensures ∙ c.if-is_over.true))).next

pub returns-in-Ok-clause-sends : goal.returns-in-Ok-clause-sends
returns-in-Ok-clause-sends g c =
    let f = feed_shown c.args.self.now in
    let lead = line_ahead f c.args.rest.now _ c.in-Line.at (sym c.is_over.ensures ∙ c.if-is_over.false) (omega (arith, c.requires.within.bytes)) c.in-Line.ensures in
    other_text g.K.Sink.written g.K.Sink.faults _ _ _ _ _ _ _ (sym lead.text) (answers g.K.Sink.written g.K.Sink.faults _ _ _ _ _ _ _ (rw c.split_at.ensures.front at c.in-Ok.ensures.sends))

pub returns-in-Ok-clause-next : goal.returns-in-Ok-clause-next
returns-in-Ok-clause-next g c =
    let f = feed_shown c.args.self.now in
    let lead = line_ahead f c.args.rest.now _ c.in-Line.at (sym c.is_over.ensures ∙ c.if-is_over.false) (omega (arith, c.requires.within.bytes)) c.in-Line.ensures in
    (rw c.split_at.ensures.front at c.in-Ok.ensures.next) ∙ sym lead.next

pub returns-in-Err-clause-sends : goal.returns-in-Err-clause-sends
returns-in-Err-clause-sends g c =
    let f = feed_shown c.args.self.now in
    let lead = line_ahead f c.args.rest.now _ c.in-Line.at (sym c.is_over.ensures ∙ c.if-is_over.false) (omega (arith, c.requires.within.bytes)) c.in-Line.ensures in
    other_text g.K.Sink.written g.K.Sink.faults _ _ _ _ _ _ _ (line_left f c.args.rest.now _ _ lead.text) (stop g.K.Sink.written g.K.Sink.faults _ _ _ _ _ _ _ _ _ (rw c.split_at.ensures.front at c.in-Err.ensures.sends))

pub returns-in-Run-clause-sends : goal.returns-in-Run-clause-sends
returns-in-Run-clause-sends g c =
    let f = feed_shown c.args.self.now in
    let lead = run_ahead f c.args.rest.now _ (sym c.is_over.ensures ∙ c.if-is_over.false) (omega (arith, c.requires.within.bytes)) c.in-Run.ensures in
    nothing g.K.Sink.written g.K.Sink.faults _ _ _ _ lead.text

pub returns-in-Run-clause-next : goal.returns-in-Run-clause-next
returns-in-Run-clause-next g c =
    let f = feed_shown c.args.self.now in
    let lead = run_ahead f c.args.rest.now _ (sym c.is_over.ensures ∙ c.if-is_over.false) (omega (arith, c.requires.within.bytes)) c.in-Run.ensures in
    ran f _ c.args.rest.now refl c.add.ensures.kept c.add.ensures.size ∙ sym lead.next

pub returns-in-Ok-text_line-clause-sends : goal.returns-in-Ok-text_line-clause-sends
returns-in-Ok-text_line-clause-sends g c =
    let f = feed_shown c.args.self.now in
    let lead = past_ahead f c.args.rest.now _ _ _ (sym c.is_over.ensures ∙ c.if-is_over.false) (omega (arith, c.requires.within.bytes)) (omega (arith, c.requires.within.bytes)) c.in-Past.ensures in
    other_text g.K.Sink.written g.K.Sink.faults _ _ _ _ _ _ _ (sym (led f c.args.rest.now _ lead).text) (answers g.K.Sink.written g.K.Sink.faults _ _ _ _ _ _ _ c.in-Ok-text_line.ensures.sends)

pub returns-in-Ok-text_line-clause-next : goal.returns-in-Ok-text_line-clause-next
returns-in-Ok-text_line-clause-next g c =
    let f = feed_shown c.args.self.now in
    let lead = past_ahead f c.args.rest.now _ _ _ (sym c.is_over.ensures ∙ c.if-is_over.false) (omega (arith, c.requires.within.bytes)) (omega (arith, c.requires.within.bytes)) c.in-Past.ensures in
    c.in-Ok-text_line.ensures.next ∙ sym (led f c.args.rest.now _ lead).next

pub returns-in-Err-text_line-clause-sends : goal.returns-in-Err-text_line-clause-sends
returns-in-Err-text_line-clause-sends g c =
    let f = feed_shown c.args.self.now in
    let lead = past_ahead f c.args.rest.now _ _ _ (sym c.is_over.ensures ∙ c.if-is_over.false) (omega (arith, c.requires.within.bytes)) (omega (arith, c.requires.within.bytes)) c.in-Past.ensures in
    other_text g.K.Sink.written g.K.Sink.faults _ _ _ _ _ _ _ (sym lead.text) (fails g.K.Sink.written g.K.Sink.faults _ _ _ _ _ _ _ _ c.in-Err-text_line.ensures.sends)
