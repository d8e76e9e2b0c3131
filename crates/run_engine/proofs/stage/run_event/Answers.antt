use Rattle.std.proofs.Common.{◌∙◌, sym}
use Rattle.std.proofs.lemmas.Bool.{false≢true}
use Rattle.run_engine.proofs.Goes_read.{ends_read, goes_read, read_is}
use Rattle.run_engine.proofs.stage.run_event.Goals as goal

pub returns-in-TooMany : goal.returns-in-TooMany
returns-in-TooMany c = λ text. let l = (rw c.in-TooMany.is at c.in_ok-read.ensures).1 c.args.n in ends_read _ c.args.count.now c.args.system.now c.read.new.self _ _ _ _ c.requires.empty l text _ l.ending ∙ read_is _ _ _ _ _

pub returns-in-Events : goal.returns-in-Events
returns-in-Events c = λ text. let l = (rw c.in-Events.is at c.in_ok-read.ensures).1 c.args.n in ends_read _ c.args.count.now c.args.system.now c.read.new.self _ _ _ _ c.requires.empty l text _ l.ending ∙ read_is _ _ _ _ _

pub returns-in-Messages : goal.returns-in-Messages
returns-in-Messages c = λ text. let l = (rw c.in-Messages.is at c.in_ok-read.ensures).1 c.args.n in ends_read _ c.args.count.now c.args.system.now c.read.new.self _ _ _ _ c.requires.empty l text _ l.ending ∙ read_is _ _ _ _ _

pub returns-in-Premise : goal.returns-in-Premise
returns-in-Premise c = λ text. let l = (rw c.in-Premise.is at c.in_ok-read.ensures).1 c.args.n in ends_read _ c.args.count.now c.args.system.now c.read.new.self _ _ _ _ c.requires.empty l text _ l.ending ∙ read_is _ _ _ _ _

pub returns-in-Goes : goal.returns-in-Goes
returns-in-Goes c = λ text. let l = (rw c.in-Goes.is at c.in_ok-read.ensures).1 c.args.n in goes_read _ c.args.count.now c.args.system.now c.read.new.self _ _ _ _ c.requires.empty l text l.ending ∙ read_is _ _ _ _ _

pub unreachable-requires : goal.unreachable-requires
unreachable-requires c = false≢true (sym (rw c.in-Unbuilt.is at c.in_ok-read.ensures).0 ∙ c.requires.built)
