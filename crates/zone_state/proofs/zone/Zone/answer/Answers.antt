use Rattle.std.proofs.Common.{refl, sym, ap}
use Rattle.definitions.specs.Track.{seg_len}
use Rattle.plain_state.specs.declared.Controlled.{Controlled}
use Rattle.plain_state.specs.Zone.{answer}
use Rattle.zone_trains.specs.Trains.{AllFit}
use Rattle.zone_trains.proofs.Found_is.{changed_is, kept, fit_set, fit_found, fit_here, fit_again}
use Rattle.zone_state.proofs.Holds_set.{hold_found, holds_set}
use Rattle.zone_state.proofs.Kept_put.{kept_train, kept_hold}
use Rattle.zone_state.proofs.zone.Zone.answer.Goals as goal

pub take_answer-requires-clause-fits : goal.take_answer-requires-clause-fits
take_answer-requires-clause-fits c =
    let l = rw (sym c.self.view_is) at c.in-Some.ensures.within in
    let a : AllFit c.args.line.now c.self.inside.clock c.self.inside.trains.items = rw (sym c.self.view_is) at c.requires.fits.trains in
    fit_here c.args.line.now c.self.inside.clock c.self.inside.trains.items c.in-Some.i c.index_mut.result.now l c.index_mut.ensures.value a

pub take_answer-requires-clause-hold : goal.take_answer-requires-clause-hold
take_answer-requires-clause-hold c =
    let g = rw (sym c.self.view_is) at c.requires.fits in
    let l = rw (sym c.self.view_is) at c.in-Some.ensures.within in
    hold_found c.args.line.now c.self.inside.id c.self.inside.trains.items c.self.inside.holds.items c.in-Some.i c.index_mut.result.now c.index_mut-in-Some.result.now l c.index_mut.ensures.value c.index_mut-in-Some.ensures.value g.holds

pub invariant_of-self : goal.invariant_of-self
invariant_of-self c =
    let l = rw (sym c.self.view_is) at c.in-Some.ensures.within in
    let all = rw (sym c.self.view_is) at c.requires.fresh in (
      c.self.invariant.0,
      (
        c.self.invariant.1.0,
        rw c.fresh_train-self-inside.ensures
            (kept_hold _ c.self.inside.holds.items _ c.in-Some.i c.take_answer.new.hold
            (kept_train c.self.inside.trains.items c.self.inside.holds.items c.self.inside.fresh c.in-Some.i c.index_mut.result.now c.take_answer.new.x c.index.result.now c.self.invariant.1.1 all l c.index_mut.ensures.value
            (ap (λ (x : Controlled). x.id) c.take_answer.ensures.next) c.index.ensures)),
      ),
    )

pub returns-in-Some-clause-next : goal.returns-in-Some-clause-next
returns-in-Some-clause-next c =
    let h = rw (sym c.self.view_is) at (sym c.in-Some.ensures.first) in
    let n = changed_is c.args.train.0 (answer (seg_len c.args.line.now) c.args.number c.args.taken) c.self.inside.trains.items c.in-Some.i c.index_mut.result.now c.take_answer.new.x h c.index_mut.ensures.value c.take_answer.ensures.next in
    rw (← c.self.view_is, n) refl

pub returns-in-Some-clause-fits : goal.returns-in-Some-clause-fits
returns-in-Some-clause-fits c =
    let g = rw (sym c.self.view_is) at c.requires.fits in
    let l = rw (sym c.self.view_is) at c.in-Some.ensures.within in
    let x = fit_found c.args.line.now c.self.inside.clock c.self.inside.trains.items c.in-Some.i c.index_mut.result.now l c.index_mut.ensures.value g.trains in
    record {
      trains = fit_set c.args.line.now c.self.inside.clock c.self.inside.trains.items c.in-Some.i c.take_answer.new.x g.trains
          (fit_again c.args.line.now c.self.inside.clock c.index_mut.result.now c.take_answer.new.x x c.take_answer.ensures.fits);
      holds = holds_set c.args.line.now c.self.inside.id c.self.inside.trains.items c.self.inside.holds.items c.in-Some.i c.take_answer.new.x c.take_answer.new.hold g.holds c.take_answer.ensures.hold;
    }

pub returns-in_default-clause-next : goal.returns-in_default-clause-next
returns-in_default-clause-next c =
    let h = rw (sym c.self.view_is) at (sym c.in_default.ensures.first) in
    rw (← c.self.view_is, kept c.args.train.0 (answer (seg_len c.args.line.now) c.args.number c.args.taken) c.self.inside.trains.items h) refl
