use Rattle.std.proofs.Common.{sym}
use Rattle.zone_trains.specs.Trains.{AllFit}
use Rattle.zone_trains.proofs.Found_is.{found_is, fit_found, fit_path}
use Rattle.zone_trains.proofs.Checked_fits.{pair_some}
use Rattle.zone_state.proofs.zone.Zone.reach_of.Goals as goal

pub reach_from-requires-clause-fits : goal.reach_from-requires-clause-fits
reach_from-requires-clause-fits c =
    let l = rw (sym c.self.view_is) at c.requires.within in
    let e = rw c.as_slice-trains.ensures.value at c.index-trains-i.is in
    let a : AllFit c.args.line.now c.self.inside.clock c.self.inside.trains.items = rw (sym c.self.view_is) at c.requires.fits in
    let f = fit_found c.args.line.now c.self.inside.clock c.self.inside.trains.items c.args.i c.index-trains-i.result l e a in
    rw c.path-path.ensures.path (fit_path c.args.line.now c.self.inside.clock c.index-trains-i.result f)

pub returns-clause-reach : goal.returns-clause-reach
returns-clause-reach c =
    let h = rw (sym c.self.view_is) at c.requires.at in
    let e = rw c.as_slice-trains.ensures.value at c.index-trains-i.is in
    let f = found_is c.args.train.0 c.self.inside.trains.items c.args.i c.index-trains-i.result h e in
    rw (← c.self.view_is, f) (rw (c.as_slice-trains.ensures.value, c.path-path.ensures.path, c.is_silent-silent.ensures, c.silent.ensures, c.answered-ready.ensures, c.is_some-pending.ensures, c.pending.ensures, pair_some c.index-trains-i.result.ledger.pending) at c.reach_from.ensures.reach)

pub returns-clause-fits : goal.returns-clause-fits
returns-clause-fits c =
    let h = rw (sym c.self.view_is) at c.requires.at in
    let e = rw c.as_slice-trains.ensures.value at c.index-trains-i.is in
    let f = found_is c.args.train.0 c.self.inside.trains.items c.args.i c.index-trains-i.result h e in
    rw (← c.self.view_is, f) (rw c.path-path.ensures.path at c.reach_from.ensures.fits)
