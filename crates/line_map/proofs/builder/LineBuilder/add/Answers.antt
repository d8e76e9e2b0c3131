use Rattle.std.proofs.Common.{sym, ◌∙◌}
use Rattle.line_map.proofs.Segment_ok.{builds_either}
use Rattle.line_map.proofs.builder.LineBuilder.add.Goals as goal

pub invariant_of-self : goal.invariant_of-self
invariant_of-self c = record {
  builds = builds_either c.self.inside.index c.add.new.self c.args.item.now c.add.result c.self.invariant.builds
      (sym c.breaks-rule.ensures ∙ c.if-rule-ne0.false) c.add.ensures.ok c.add.ensures.err;
  empty = c.self.invariant.empty;
  room = c.self.invariant.room;
}
