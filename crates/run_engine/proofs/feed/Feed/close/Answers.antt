use Rattle.std.proofs.Common.{◌∙◌, sym, ap}
use Rattle.std.proofs.lemmas.Bool.{ne_eqb}
use Rattle.definitions.specs.Trace.{Step}
use Rattle.byte_feed.specs.Feed.{Feed}
use Rattle.byte_feed.proofs.Trace_fed.{closed_none}
use Rattle.byte_feed.proofs.Leads_run.{closed_run}
use Rattle.run_engine.specs.Feeding.{feed_shown}
use Rattle.run_engine.proofs.Told_front.{on_ok}
use Rattle.run_engine.proofs.Other_text.{nothing, other_text}
use Rattle.run_engine.proofs.feed.Feed.close.Goals as goal

pub returns-then-self-eq0-clause-sends : goal.returns-then-self-eq0-clause-sends
returns-then-self-eq0-clause-sends g c =
    nothing g.K.Sink.written g.K.Sink.faults _ _ _ _
    (ap (λ (x : Step). x.text) (closed_none (feed_shown c.args.self.now) c.if-self-eq0.true))

pub returns-then-self-eq0-clause-next : goal.returns-then-self-eq0-clause-next
returns-then-self-eq0-clause-next g c = sym (ap (λ (x : Step). x.next) (closed_none (feed_shown c.args.self.now) c.if-self-eq0.true))

pub returns-clause-sends : goal.returns-clause-sends
returns-clause-sends g c =
    let f = feed_shown c.args.self.now in
    let is = closed_run f (ne_eqb _ _ c.if-self-eq0.false) in
    other_text g.K.Sink.written g.K.Sink.faults _ _ _ _ _ _ _ (ap (λ (x : Step). x.text) is) c.text_line.ensures.sends

pub returns-clause-next : goal.returns-clause-next
returns-clause-next g c =
    let f = feed_shown c.args.self.now in
    let is = closed_run f (ne_eqb _ _ c.if-self-eq0.false) in
    on_ok c.text_line.result (λ h. ap (λ (x : Feed). x.reading) h ∙ ap (λ (x : Step). x.next) is) c.text_line.ensures.next
