use Rattle.std.proofs.Common.{◌≡◌, ℕ, List, false, length, subst, arith}
use Rattle.std.proofs.lemmas.List.{take_all}
use Rattle.std.proofs.lemmas.Bool.{eqb-true}
use Rattle.byte_feed.specs.Feed.{ends_lf}
use Rattle.byte_feed.proofs.Leads_run.{no_lf_below}
use Rattle.run_engine.proofs.feed.look_ahead.Goals as goal

pub returns-then-at-left : goal.returns-then-at-left
returns-then-at-left c =
    let first = c.in-Some.ensures in
    (first.0.high, c.if-at-left.true, no_lf_below c.args.rest.now c.in-Some.at (λ k h. first.0.before k (omega arith) h), eqb-true _ 10 first.1)

pub returns-else-at-left : goal.returns-else-at-left
returns-else-at-left c =
    let first = c.in-Some.ensures in
    let far = c.if-at-left.false in
    (omega (arith, first.0.high, far), no_lf_below c.args.rest.now c.args.left (λ k h. first.0.before k (omega arith) (omega (arith, h, far))))

pub returns-then-rest-left : goal.returns-then-rest-left
returns-then-rest-left c =
    let rest = c.args.rest.now in
    (c.if-rest-left.true, subst (λ (xs : List ℕ). ends_lf xs ≡ false) (take_all (length rest) rest (omega arith)) (no_lf_below rest (length rest) (λ k h. c.in-None.ensures k (omega arith) h)))

pub returns-else-rest-left : goal.returns-else-rest-left
returns-else-rest-left c =
    let far = c.if-rest-left.false in
    (far, no_lf_below c.args.rest.now c.args.left (λ k h. c.in-None.ensures k (omega arith) (omega (arith, h, far))))
