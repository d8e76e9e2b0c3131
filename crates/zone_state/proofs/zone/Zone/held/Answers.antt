use Rattle.std.proofs.Common.{sym}
use Rattle.zone_state.proofs.Held_some.{held_none, held_some}
use Rattle.zone_state.proofs.zone.Zone.held.Goals as goal

pub returns-in-None : goal.returns-in-None
returns-in-None c =
    let h = rw (sym c.self.view_is) at (sym c.in-None.ensures.first) in
    rw (← c.self.view_is) (λ line f. held_none line c.self.inside.id c.args.train.0 c.self.inside.trains.items c.empty.result h c.empty.ensures)

pub returns-in-Some : goal.returns-in-Some
returns-in-Some c =
    let h = rw (sym c.self.view_is) at (sym c.in-Some.ensures.first) in
    let l = rw (sym c.self.view_is) at c.in-Some.ensures.within in
    rw (← c.self.view_is) (λ line f. held_some line c.self.inside.id c.args.train.0 c.self.inside.trains.items c.self.inside.holds.items c.in-Some.i c.copy.result c.index.result.now h l c.copy.ensures c.index.ensures f.fits.holds)
