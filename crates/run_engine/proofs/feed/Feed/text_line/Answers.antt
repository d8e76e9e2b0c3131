use Rattle.std.proofs.Common.{◌≡◌, ◌∙◌, ℕ, List, OnOk, sym, ap, subst}
use Rattle.std.proofs.lemmas.Bool.{eqb-true}
use Rattle.definitions.specs.Trace.{text_read}
use Rattle.byte_feed.specs.Feed.{opened}
use Rattle.run_engine.specs.Feeding.{feed_shown}
use Rattle.run_engine.proofs.Other_text.{other_text}
use Rattle.run_engine.proofs.More_next.{begun_none}
use Rattle.run_engine.proofs.feed.Feed.text_line.Goals as goal

pub returns-then-is_empty-clause-sends : goal.returns-then-is_empty-clause-sends
returns-then-is_empty-clause-sends g c =
    let none = begun_none c.args.self.now.begun.kept.items c.args.run.now (eqb-true _ 0 (sym c.is_empty.ensures ∙ c.if-is_empty.true)) in
    other_text g.K.Sink.written g.K.Sink.faults _ _ _ _ _ _ _ (ap (λ (t : List ℕ). (text_read (feed_shown c.args.self.now).reading c.args.size t).text) none) c.run_line.ensures.sends

pub returns-then-is_empty-clause-next : goal.returns-then-is_empty-clause-next
returns-then-is_empty-clause-next g c =
    let none = begun_none c.args.self.now.begun.kept.items c.args.run.now (eqb-true _ 0 (sym c.is_empty.ensures ∙ c.if-is_empty.true)) in
    subst (λ (t : List ℕ). OnOk c.run_line.result (feed_shown c.run_line.new.self ≡ opened (text_read (feed_shown c.args.self.now).reading c.args.size t).next)) none c.run_line.ensures.next
