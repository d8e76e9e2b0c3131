use Rattle.std.proofs.Common.{◌<◌, ◌+◌, ◌-◌, ◌≡◌, sym, refl, arith}
use Rattle.definitions.specs.Track.{seg_len}
use Rattle.way_path.specs.Ways.{PlacedWay}
use Rattle.way_path.proofs.Dropped_is_way.{dropped_at, dropped_some, dropped_is_way, dropped_on_line, dropped_end}
use Rattle.way_path.proofs.way.Way.set_from.Goals as goal

pub returns-clause-dropped : goal.returns-clause-dropped
returns-clause-dropped c =
    let old : PlacedWay = record { mark = c.self.inside.mark; path = c.self.inside.path; end = c.self.inside.end } in
    let b = c.steps_before-count.ensures.before in
    let q : c.args.place < c.self.inside.end = rw (sym c.self.view_is) at c.requires.end in
    let from : c.args.place - c.steps_before-count.result.1 + c.steps_before-count.result.1 ≡ c.args.place = omega arith in
    let end : c.self.inside.end - c.steps_before-count.result.1 + c.steps_before-count.result.1 ≡ c.self.inside.end = omega arith in
    rw (← c.self.view_is)
    (dropped_at (seg_len c.args.line.now) old _ c.args.place c.steps_before-count.result.1 c.steps_before-count.result.0
    (rw c.as_slice.ensures.value at c.steps_before-count.ensures.count) (rw c.as_slice.ensures.value at c.steps_before-count.ensures.rest)
    (rw c.as_slice-2.ensures.value at c.steps_from-self-inside.ensures) refl from (rw c.as_slice.ensures.value at c.steps_before-count.ensures.first) end refl)

pub invariant_of-self : goal.invariant_of-self
invariant_of-self c =
    let old : PlacedWay = record { mark = c.self.inside.mark; path = c.self.inside.path; end = c.self.inside.end } in
    let s = dropped_some old.path.steps.items c.steps_from-self-inside.result.items c.steps_before-count.result.0 (rw c.as_slice.ensures.value at c.steps_before-count.ensures.count) (rw c.as_slice-2.ensures.value at c.steps_from-self-inside.ensures) in
    dropped_is_way (seg_len c.args.line.now) old _ c.args.place c.steps_before-count.result.1 c.self.invariant (rw (sym c.self.view_is) at (returns-clause-dropped c))
    (rw (sym c.self.view_is) at c.requires.end) s

pub returns-clause-on_line : goal.returns-clause-on_line
returns-clause-on_line c =
    dropped_on_line c.args.line.now c.args.self.now _ c.args.place c.steps_before-count.result.1 c.requires.on_line (returns-clause-dropped c)

pub returns-clause-end : goal.returns-clause-end
returns-clause-end c =
    let s = dropped_some c.self.inside.path.steps.items c.steps_from-self-inside.result.items c.steps_before-count.result.0
    (rw c.as_slice.ensures.value at c.steps_before-count.ensures.count) (rw c.as_slice-2.ensures.value at c.steps_from-self-inside.ensures) in
    dropped_end (seg_len c.args.line.now) c.args.self.now _ c.args.place c.steps_before-count.result.1 (returns-clause-dropped c) s
