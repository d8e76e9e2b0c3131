use Rattle.std.proofs.Common.{sym, refl}
use Rattle.definitions.specs.Track.{seg_len}
use Rattle.way_laws.proofs.Cut_front.{cut_end}
use Rattle.way_path.specs.Ways.{PlacedWay}
use Rattle.way_path.proofs.Dropped_is_way.{ended_is_way, ended_on_line}
use Rattle.way_path.proofs.way.Way.set_end.Goals as goal

pub invariant_of-self : goal.invariant_of-self
invariant_of-self c =
    let old : PlacedWay = record { mark = c.self.inside.mark; path = c.self.inside.path; end = c.self.inside.end } in
    let s = rw c.as_slice-2.ensures.value at c.steps_to-self-inside.ensures in
    ended_is_way (seg_len c.args.line.now) old _ c.args.place c.self.invariant (rw (sym c.self.view_is) at c.requires.from) s refl refl refl

pub returns-clause-on_line : goal.returns-clause-on_line
returns-clause-on_line c =
    let old : PlacedWay = record { mark = c.self.inside.mark; path = c.self.inside.path; end = c.self.inside.end } in
    let s = rw c.as_slice-2.ensures.value at c.steps_to-self-inside.ensures in
    ended_on_line c.args.line.now old _ c.args.place c.self.invariant (rw (sym c.self.view_is) at c.requires.on_line) (rw (sym c.self.view_is) at c.requires.on) s refl refl

pub returns-clause-end : goal.returns-clause-end
returns-clause-end c =
    let s = rw c.as_slice-2.ensures.value at c.steps_to-self-inside.ensures in
    let o = rw c.as_slice.ensures.value at c.offset_to-self-inside.ensures in
    rw (s, o) (sym (cut_end (seg_len c.args.line.now) c.self.inside.path.steps.items c.args.place (rw (sym c.self.view_is) at c.requires.on)))
