use Rattle.std.proofs.Common.{refl, sym, ap, ◌∙◌}
use Rattle.definitions.specs.Track.{seg_len}
use Rattle.plain_state.specs.declared.Controlled.{Controlled}
use Rattle.plain_state.specs.Zone.{shortened}
use Rattle.zone_trains.specs.Trains.{AllFit}
use Rattle.zone_trains.proofs.Found_is.{found_is, absent, changed_is, kept, fit_set, fit_found, fit_here, fit_again}
use Rattle.zone_state.proofs.Holds_set.{holds_stay}
use Rattle.zone_state.proofs.Kept_put.{kept_train}
use Rattle.zone_state.proofs.Shortened_same.{shortened_same}
use Rattle.zone_state.proofs.zone.Zone.short.Goals as goal

pub returns-in_default-clause-gives : goal.returns-in_default-clause-gives
returns-in_default-clause-gives c =
    let h = rw (sym c.self.view_is) at (sym c.in_default.ensures.first) in
    let f = absent c.args.train.0 c.self.inside.trains.items h in
    rw (← c.self.view_is, f) c.not_shortened.ensures

pub returns-in_default-clause-next : goal.returns-in_default-clause-next
returns-in_default-clause-next c =
    let h = rw (sym c.self.view_is) at (sym c.in_default.ensures.first) in
    rw (← c.self.view_is, kept c.args.train.0 (shortened (seg_len c.args.line.now) c.args.step c.args.off) c.self.inside.trains.items h) refl

pub take_short-requires-clause-fits : goal.take_short-requires-clause-fits
take_short-requires-clause-fits c =
    let l = rw (sym c.self.view_is) at c.in-Some.ensures.within in
    let a : AllFit c.args.line.now c.self.inside.clock c.self.inside.trains.items = rw (sym c.self.view_is) at c.requires.fits.trains in
    fit_here c.args.line.now c.self.inside.clock c.self.inside.trains.items c.in-Some.i c.index_mut.result.now l c.index_mut.ensures.value a

pub invariant_of-self : goal.invariant_of-self
invariant_of-self c =
    let l = rw (sym c.self.view_is) at c.in-Some.ensures.within in
    let all = rw (sym c.self.view_is) at c.requires.fresh in
    let same = shortened_same (seg_len c.args.line.now) c.args.step c.args.off c.index_mut.result.now in (
      c.self.invariant.0,
      (
        c.self.invariant.1.0,
        rw c.fresh_train-self-inside.ensures
            (kept_train c.self.inside.trains.items c.self.inside.holds.items c.self.inside.fresh c.in-Some.i c.index_mut.result.now c.take_short.new.x c.index.result.now c.self.invariant.1.1 all l c.index_mut.ensures.value
            (ap (λ (x : Controlled). x.id) c.take_short.ensures.next ∙ same.id) c.index.ensures),
      ),
    )

pub returns-clause-gives : goal.returns-clause-gives
returns-clause-gives c =
    let h = rw (sym c.self.view_is) at (sym c.in-Some.ensures.first) in
    let f = found_is c.args.train.0 c.self.inside.trains.items c.in-Some.i c.index_mut.result.now h c.index_mut.ensures.value in
    rw (← c.self.view_is, f) c.take_short.ensures.gives

pub returns-clause-next : goal.returns-clause-next
returns-clause-next c =
    let h = rw (sym c.self.view_is) at (sym c.in-Some.ensures.first) in
    let n = changed_is c.args.train.0 (shortened (seg_len c.args.line.now) c.args.step c.args.off) c.self.inside.trains.items c.in-Some.i c.index_mut.result.now c.take_short.new.x h c.index_mut.ensures.value c.take_short.ensures.next in
    rw (← c.self.view_is, n) refl

pub returns-clause-fits : goal.returns-clause-fits
returns-clause-fits c =
    let g = rw (sym c.self.view_is) at c.requires.fits in
    let l = rw (sym c.self.view_is) at c.in-Some.ensures.within in
    let x = fit_found c.args.line.now c.self.inside.clock c.self.inside.trains.items c.in-Some.i c.index_mut.result.now l c.index_mut.ensures.value g.trains in
    let same = shortened_same (seg_len c.args.line.now) c.args.step c.args.off c.index_mut.result.now in
    let w = ap (λ (y : Controlled). y.way) c.take_short.ensures.next ∙ (same.way ∙ ap (λ (y : Controlled). y.way) c.index_mut.ensures.value) in
    record {
      trains = fit_set c.args.line.now c.self.inside.clock c.self.inside.trains.items c.in-Some.i c.take_short.new.x g.trains
          (fit_again c.args.line.now c.self.inside.clock c.index_mut.result.now c.take_short.new.x x c.take_short.ensures.fits);
      holds = holds_stay c.args.line.now c.self.inside.id c.self.inside.trains.items c.self.inside.holds.items c.in-Some.i c.index_mut.result.now c.take_short.new.x w g.holds;
    }
