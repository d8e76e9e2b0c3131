use Rattle.std.proofs.Common.{◌∙◌, ◌+◌, ap, sym, subst, arith}
use Rattle.definitions.specs.Trace.{Stage, After, Step}
use Rattle.run_engine.specs.Shown.{reading_shown, done_early, Steady}
use Rattle.run_engine.proofs.Never_done.{never_done}
use Rattle.run_engine.proofs.Goes_read.{text_is}
use Rattle.run_engine.proofs.Steady_read.{steady_read}
use Rattle.run_engine.proofs.stage.Reading.text.Goals as goal

pub returns-clause-text : goal.returns-clause-text
returns-clause-text c =
    let r = reading_shown c.args.self.now in
    ap (λ (x : After). x.text) c.in_ok-reads.ensures
    ∙ sym (ap (λ (s : Step). s.text) (text_is r c.args.size c.args.text.now (sym c.is_over.ensures ∙ c.if-is_over.false) c.if-self-size-gt-INPUT_LIMIT.false))

pub returns-clause-next : goal.returns-clause-next
returns-clause-next c =
    let r = reading_shown c.args.self.now in
    let after = c.end_by.ensures ∙ ap (λ (x : After). x.stage) c.in_ok-reads.ensures in
    ap (λ (s : Stage). record { command = r.command; number = r.number + 1; bytes = r.bytes + c.args.size; stage = s }) after
    ∙ sym (ap (λ (s : Step). s.next) (text_is r c.args.size c.args.text.now (sym c.is_over.ensures ∙ c.if-is_over.false) c.if-self-size-gt-INPUT_LIMIT.false))

pub returns-clause-small : goal.returns-clause-small
returns-clause-small c =
    let r = reading_shown c.args.self.now in
    let after = c.end_by.ensures ∙ ap (λ (x : After). x.stage) c.in_ok-reads.ensures in
    record {
      number = omega (arith, c.requires.small.number, c.requires.some);
      bytes = c.if-self-size-gt-INPUT_LIMIT.false;
      going = ap done_early after ∙ never_done _ _ r.stage _ c.requires.small.going;
      steady = subst (λ (s : Stage). Steady (r.number + 1) s) (sym after) (steady_read _ _ _ r.stage _ c.requires.small.steady);
    }
