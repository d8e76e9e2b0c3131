use Rattle.std.proofs.Common.{sym, arith}
use Rattle.zone_trains.specs.Trains.{AllFit}
use Rattle.zone_trains.proofs.Found_is.{fit_found}
use Rattle.zone_state.proofs.Held_some.{envelope_none, envelope_some}
use Rattle.zone_state.proofs.zone.Zone.envelope.Goals as goal

pub rear-requires : goal.rear-requires
rear-requires c =
    let l = rw (sym c.self.view_is) at c.in-Some.ensures.within in
    let a : AllFit c.args.line.now c.self.inside.clock c.self.inside.trains.items = rw (sym c.self.view_is) at c.requires.fits.trains in
    let f = fit_found c.args.line.now c.self.inside.clock c.self.inside.trains.items c.in-Some.i c.index-x.result.now l c.index-x.ensures a in
    let b = f.behind in omega arith

pub points-requires-clause-from : goal.points-requires-clause-from
points-requires-clause-from c =
    let l = rw (sym c.self.view_is) at c.in-Some.ensures.within in
    let a : AllFit c.args.line.now c.self.inside.clock c.self.inside.trains.items = rw (sym c.self.view_is) at c.requires.fits.trains in
    let f = fit_found c.args.line.now c.self.inside.clock c.self.inside.trains.items c.in-Some.i c.index-x.result.now l c.index-x.ensures a in
    let b = f.behind in let r = c.rear.ensures in omega arith

pub points-requires-clause-order : goal.points-requires-clause-order
points-requires-clause-order c =
    let l = rw (sym c.self.view_is) at c.in-Some.ensures.within in
    let a : AllFit c.args.line.now c.self.inside.clock c.self.inside.trains.items = rw (sym c.self.view_is) at c.requires.fits.trains in
    let f = fit_found c.args.line.now c.self.inside.clock c.self.inside.trains.items c.in-Some.i c.index-x.result.now l c.index-x.ensures a in
    let b = f.ordered in let r = c.rear.ensures in omega arith

pub points-requires-clause-end : goal.points-requires-clause-end
points-requires-clause-end c =
    let l = rw (sym c.self.view_is) at c.in-Some.ensures.within in
    let a : AllFit c.args.line.now c.self.inside.clock c.self.inside.trains.items = rw (sym c.self.view_is) at c.requires.fits.trains in
    (fit_found c.args.line.now c.self.inside.clock c.self.inside.trains.items c.in-Some.i c.index-x.result.now l c.index-x.ensures a).ahead

pub returns-in-None : goal.returns-in-None
returns-in-None c =
    let h = rw (sym c.self.view_is) at (sym c.in-None.ensures.first) in
    rw (← c.self.view_is) (envelope_none c.args.line.now c.args.train.0 c.self.inside.trains.items h)

pub returns-in-Some : goal.returns-in-Some
returns-in-Some c =
    let h = rw (sym c.self.view_is) at (sym c.in-Some.ensures.first) in
    rw (← c.self.view_is) (envelope_some c.args.line.now c.args.train.0 c.self.inside.trains.items c.in-Some.i c.index-x.result.now c.rear.result c.points.result h c.index-x.ensures c.rear.ensures c.points.ensures)
