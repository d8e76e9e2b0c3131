use Rattle.std.proofs.Common.{sym, ◌∙◌, refl}
use Rattle.way_path.specs.Ways.{PlacedWay}
use Rattle.way_path.proofs.Dropped_is_way.{grown_is_way, grown_on_line}
use Rattle.way_path.proofs.way.Way.extend.Goals as goal

pub invariant_of-self : goal.invariant_of-self
invariant_of-self c =
    let old : PlacedWay = record { mark = c.self.inside.mark; path = c.self.inside.path; end = c.self.inside.end } in
    let v = rw c.as_slice-steps.ensures.value at (sym c.visits.ensures ∙ c.if-visits.false) in
    grown_is_way old _ c.args.step c.self.invariant v (rw (sym c.self.view_is) at c.requires.marks) c.push.ensures.items refl refl refl

pub returns-clause-on_line : goal.returns-clause-on_line
returns-clause-on_line c =
    let old : PlacedWay = record { mark = c.self.inside.mark; path = c.self.inside.path; end = c.self.inside.end } in
    let t = rw (c.last_step.ensures, c.as_slice-steps.ensures.value) at (sym c.follows.ensures ∙ c.if-not-follows.false) in
    grown_on_line c.args.line.now old _ c.args.step c.self.invariant (rw (sym c.self.view_is) at c.requires.on_line) t c.push.ensures.items refl refl
