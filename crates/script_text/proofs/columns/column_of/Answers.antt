use Rattle.std.proofs.Common.{arith, ◌+◌, sym, subst}
use Rattle.script_text.proofs.Counts_found.{Counts, counts_none, counts_space, counts_other, counts_found, counts_end}
use Rattle.script_text.proofs.columns.column_of.Goals.{then-byte-eq32, else-byte-eq32, else-loop-byte-test, then-loop-byte-test+then-left-eq0}
use Rattle.script_text.proofs.columns.column_of.Goals as goal

pub loop-byte-init : goal.loop-byte-init
loop-byte-init c = counts_none c.args.fields c.args.text.now

pub overflow_add-before : goal.overflow_add-before
overflow_add-before c = omega (arith, c.loop-byte.invariant.most)

pub loop-byte-preserved : goal.loop-byte-preserved
loop-byte-preserved c = elim c.if-byte-eq32.branch [
  | then-byte-eq32 w ↦ subst (λ n. Counts c.args.fields c.args.text.now (c.loop-byte.before + 1) n (c.loop-byte.byte-index + 1)) (sym w.left-is)
      (counts_space c.args.fields c.args.text.now c.loop-byte.before c.loop-byte.left c.loop-byte.byte-index c.loop-byte-test.true c.if-left-eq0.false w.if-byte-eq32.true c.loop-byte.invariant)
  | else-byte-eq32 w ↦ subst (λ n. Counts c.args.fields c.args.text.now (c.loop-byte.before + 1) n (c.loop-byte.byte-index + 1)) (sym w.left-is)
      (counts_other c.args.fields c.args.text.now c.loop-byte.before c.loop-byte.left c.loop-byte.byte-index c.loop-byte-test.true c.if-left-eq0.false w.if-byte-eq32.false c.loop-byte.invariant)
]

pub overflow_add-result : goal.overflow_add-result
overflow_add-result c = omega (arith, c.loop-byte.invariant.most)

pub returns : goal.returns
returns c = elim c.loop-byte-test.branch [
  | else-loop-byte-test w ↦ counts_end c.args.fields c.args.text.now c.loop-byte.before c.loop-byte.left c.loop-byte.byte-index w.loop-byte-test.false c.loop-byte.invariant
  | then-loop-byte-test+then-left-eq0 w ↦ counts_found c.args.fields c.args.text.now c.loop-byte.before c.loop-byte.left c.loop-byte.byte-index w.if-left-eq0.true c.loop-byte.invariant
]
