use Rattle.std.proofs.Common.{◌≡◌, true, refl, sym, ap, w32, w64, rules}
use Rattle.std.proofs.lemmas.Int.{to_z-of_z}
use Rattle.definitions.specs.Track.{seg_len}
use Rattle.way_path.specs.Ways.{plain_way}
use Rattle.plain_state.specs.declared.Controlled.{Controlled}
use Rattle.plain_state.specs.Zone.{reported_by, has_mark}
use Rattle.zone_trains.specs.Trains.{AllFit}
use Rattle.zone_trains.proofs.Found_is.{found_is, absent, changed_is, read_same, fit_found, fit_here, fit_set, fit_again}
use Rattle.zone_trains.proofs.Marked.{marked, not_marked}
use Rattle.zone_state.proofs.Holds_set.{holds_set}
use Rattle.zone_state.proofs.Kept_put.{kept_train, kept_hold}
use Rattle.zone_state.proofs.zone.Zone.report.Goals as goal

pub use_report-hold-requires-clause-fits : goal.use_report-hold-requires-clause-fits
use_report-hold-requires-clause-fits c =
    let l = rw (sym c.self.view_is) at c.in-Some.ensures.within in
    let a : AllFit c.args.line.now c.self.inside.clock c.self.inside.trains.items = rw (sym c.self.view_is) at c.requires.fits.trains in
    fit_here c.args.line.now c.self.inside.clock c.self.inside.trains.items c.in-Some.i c.index_mut.result.now l c.index_mut.ensures.value a

pub use_report-hold-requires-clause-earlier : goal.use_report-hold-requires-clause-earlier
use_report-hold-requires-clause-earlier c =
    let l = rw (sym c.self.view_is) at c.in-Some.ensures.within in
    let a : AllFit c.args.line.now c.self.inside.clock c.self.inside.trains.items = rw (sym c.self.view_is) at c.requires.fits.trains in
    let t = (fit_found c.args.line.now c.self.inside.clock c.self.inside.trains.items c.in-Some.i c.index_mut.result.now l c.index_mut.ensures.value a).at in
    rw t (rw (sym c.self.view_is) at c.requires.earlier)

pub use_report-hold-requires-clause-place : goal.use_report-hold-requires-clause-place
use_report-hold-requires-clause-place c =
    let l = rw (sym c.self.view_is) at c.in-Some.ensures.within in
    let o = to_z-of_z w32 c.args.report.offset (search rules) in
    let s = read_same c.self.inside.trains.items c.in-Some.i c.index_mut.result.now c.index.result.now l c.index_mut.ensures.value c.index.ensures in
    let p = to_z-of_z w64 c.in-Some-place_of.place (search rules) in
    rw (s, p) (rw o at (sym c.in-Some-place_of.ensures))

pub invariant_of-self : goal.invariant_of-self
invariant_of-self c =
    let l = rw (sym c.self.view_is) at c.in-Some.ensures.within in
    let all = rw (sym c.self.view_is) at c.requires.fresh in (
      c.self.invariant.0,
      (
        c.self.invariant.1.0,
        rw c.fresh_train-self-inside.ensures
            (kept_hold _ c.self.inside.holds.items _ c.in-Some.i c.use_report-hold.result
            (kept_train c.self.inside.trains.items c.self.inside.holds.items c.self.inside.fresh c.in-Some.i c.index_mut.result.now c.use_report-hold.new.x c.index-in-Some-place_of.result.now c.self.invariant.1.1 all l c.index_mut.ensures.value
            (ap (λ (x : Controlled). x.id) c.use_report-hold.ensures.next) c.index-in-Some-place_of.ensures)),
      ),
    )

-- the way has the step that is named
used : (c : goal.After-self-in-Some-place_of-2-1) → has_mark (plain_way c.index_mut.result.now.way) c.args.report.mark ≡ true
used c =
    let l = rw (sym c.self.view_is) at c.in-Some.ensures.within in
    let o = to_z-of_z w32 c.args.report.offset (search rules) in
    let s = read_same c.self.inside.trains.items c.in-Some.i c.index_mut.result.now c.index.result.now l c.index_mut.ensures.value c.index.ensures in
    let m = (marked (seg_len c.args.line.now) c.index.result.now.way c.args.report.mark c.args.report.offset c.in-Some-place_of.place (rw o at (sym c.in-Some-place_of.ensures))).0 in
    rw (sym s) at m

pub returns-in-Some-place_of-clause-gives : goal.returns-in-Some-place_of-clause-gives
returns-in-Some-place_of-clause-gives c =
    let h = rw (sym c.self.view_is) at (sym c.in-Some.ensures.first) in
    let f = found_is c.args.train.0 c.self.inside.trains.items c.in-Some.i c.index_mut.result.now h c.index_mut.ensures.value in
    let k = used c in
    rw (← c.self.view_is, f, k) c.use_report-hold.ensures.gives

pub returns-in-Some-place_of-clause-next : goal.returns-in-Some-place_of-clause-next
returns-in-Some-place_of-clause-next c =
    let h = rw (sym c.self.view_is) at (sym c.in-Some.ensures.first) in
    let f = found_is c.args.train.0 c.self.inside.trains.items c.in-Some.i c.index_mut.result.now h c.index_mut.ensures.value in
    let k = used c in
    let e = changed_is c.args.train.0 (reported_by (seg_len c.args.line.now) c.args.report.time c.args.report.mark c.args.report.offset c.args.report.integrity) c.self.inside.trains.items c.in-Some.i c.index_mut.result.now c.use_report-hold.new.x h c.index_mut.ensures.value c.use_report-hold.ensures.next in
    rw (← c.self.view_is, f, k, e) refl

pub returns-in-Some-place_of-clause-fits : goal.returns-in-Some-place_of-clause-fits
returns-in-Some-place_of-clause-fits c =
    let g = rw (sym c.self.view_is) at c.requires.fits in
    let l = rw (sym c.self.view_is) at c.in-Some.ensures.within in
    let x = fit_found c.args.line.now c.self.inside.clock c.self.inside.trains.items c.in-Some.i c.index_mut.result.now l c.index_mut.ensures.value g.trains in
    record {
      trains = fit_set c.args.line.now c.self.inside.clock c.self.inside.trains.items c.in-Some.i c.use_report-hold.new.x g.trains
          (fit_again c.args.line.now c.self.inside.clock c.index_mut.result.now c.use_report-hold.new.x x c.use_report-hold.ensures.fits);
      holds = holds_set c.args.line.now c.self.inside.id c.self.inside.trains.items c.self.inside.holds.items c.in-Some.i c.use_report-hold.new.x c.use_report-hold.result g.holds c.use_report-hold.ensures.hold;
    }

pub returns-in_default-place_of-clause-gives : goal.returns-in_default-place_of-clause-gives
returns-in_default-place_of-clause-gives c =
    let h = rw (sym c.self.view_is) at (sym c.in-Some.ensures.first) in
    let o = to_z-of_z w32 c.args.report.offset (search rules) in
    let f = found_is c.args.train.0 c.self.inside.trains.items c.in-Some.i c.index.result.now h c.index.ensures in
    let n = not_marked (seg_len c.args.line.now) c.index.result.now.way c.args.report.mark c.args.report.offset (rw o at (sym c.in_default-place_of.ensures)) in
    rw (← c.self.view_is, f, n) c.requires.empty

pub returns-in_default-place_of-clause-next : goal.returns-in_default-place_of-clause-next
returns-in_default-place_of-clause-next c =
    let h = rw (sym c.self.view_is) at (sym c.in-Some.ensures.first) in
    let o = to_z-of_z w32 c.args.report.offset (search rules) in
    let f = found_is c.args.train.0 c.self.inside.trains.items c.in-Some.i c.index.result.now h c.index.ensures in
    let n = not_marked (seg_len c.args.line.now) c.index.result.now.way c.args.report.mark c.args.report.offset (rw o at (sym c.in_default-place_of.ensures)) in
    rw (← c.self.view_is, f, n) refl

pub returns-in_default-clause-gives : goal.returns-in_default-clause-gives
returns-in_default-clause-gives c =
    let h = rw (sym c.self.view_is) at (sym c.in_default.ensures.first) in
    let f = absent c.args.train.0 c.self.inside.trains.items h in
    rw (← c.self.view_is, f) c.requires.empty

pub returns-in_default-clause-next : goal.returns-in_default-clause-next
returns-in_default-clause-next c =
    let h = rw (sym c.self.view_is) at (sym c.in_default.ensures.first) in
    let f = absent c.args.train.0 c.self.inside.trains.items h in
    rw (← c.self.view_is, f) refl
