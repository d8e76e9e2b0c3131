use Rattle.std.proofs.Common.{sym}
use Rattle.world_sim.proofs.Changed_is.{found_is, absent, kept_is}
use Rattle.world_sim.proofs.world.World.get.Goals as goal

pub returns-in-Some-clause-found : goal.returns-in-Some-clause-found
returns-in-Some-clause-found c =
    let h = rw (sym c.self.view_is) at (sym c.in-Some.ensures.first) in
    rw (← c.self.view_is) (sym (found_is c.args.train.0 c.self.inside.trains.items c.in-Some.i c.index.result.now h c.index.ensures))

pub returns-in-Some-clause-kept : goal.returns-in-Some-clause-kept
returns-in-Some-clause-kept c =
    let l = rw (sym c.self.view_is) at c.in-Some.ensures.within in
    kept_is c.self.inside.places c.self.inside.trains.items c.in-Some.i c.index.result.now c.self.invariant.1 l c.index.ensures

pub returns-in-None-clause-found : goal.returns-in-None-clause-found
returns-in-None-clause-found c =
    let h = rw (sym c.self.view_is) at (sym c.in-None.ensures.first) in
    rw (← c.self.view_is) (sym (absent c.args.train.0 c.self.inside.trains.items h))
