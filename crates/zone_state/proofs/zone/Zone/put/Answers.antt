use Rattle.std.proofs.Common.{◌≡◌, true, is_ok, rules, sym, refl}
use Rattle.zone_state.proofs.Placed_is.{placed_is, fit_placed}
use Rattle.zone_state.proofs.Holds_set.{holds_insert}
use Rattle.zone_state.proofs.Kept_put.{kept_put}
use Rattle.zone_state.proofs.zone.Zone.put.Goals as goal

pub invariant_of-self : goal.invariant_of-self
invariant_of-self c =
    let few = rw (sym c.self.view_is) at c.requires.few in
    let room = c.self.invariant.0 in
    let room2 = c.self.invariant.1.0 in
    let long = c.self.invariant.1.1.beside in
    let q = c.insert.ensures.succeeds in
    let q2 = c.insert-2.ensures.succeeds in
    let s : is_ok c.insert.result ≡ true = search rules in
    let s2 : is_ok c.insert-2.result ≡ true = search rules in
    let e = rw s at c.insert.ensures.items in
    let e2 = rw s2 at c.insert-2.ensures.items in
    let within = rw (sym c.self.view_is) at c.requires.place.within in
    let below = rw (sym c.self.view_is) at c.requires.place.below in
    let rest = rw (sym c.self.view_is) at c.requires.place.rest in
    (search rules, (search rules, rw (e, e2) (kept_put c.self.inside.trains.items c.self.inside.holds.items c.self.inside.fresh c.args.index c.args.x c.args.hold c.self.invariant.1.1 c.requires.fresh within below rest)))

pub returns-clause-next : goal.returns-clause-next
returns-clause-next c =
    let few = rw (sym c.self.view_is) at c.requires.few in
    let room = c.self.invariant.0 in
    let q = c.insert.ensures.succeeds in
    let s : is_ok c.insert.result ≡ true = search rules in
    let e = rw s at c.insert.ensures.items in
    let within = rw (sym c.self.view_is) at c.requires.place.within in
    let below = rw (sym c.self.view_is) at c.requires.place.below in
    let rest = rw (sym c.self.view_is) at c.requires.place.rest in
    rw (← c.self.view_is, e, placed_is c.args.x c.self.inside.trains.items c.args.index within below rest) refl

pub returns-clause-fits : goal.returns-clause-fits
returns-clause-fits c = λ line fit hold f.
    let g = rw (sym c.self.view_is) at f in
    let t = rw (sym c.self.view_is) at fit in
    let k = rw (sym c.self.view_is) at hold in
    let few = rw (sym c.self.view_is) at c.requires.few in
    let room = c.self.invariant.0 in
    let room2 = c.self.invariant.1.0 in
    let long = c.self.invariant.1.1.beside in
    let q = c.insert.ensures.succeeds in
    let q2 = c.insert-2.ensures.succeeds in
    let s : is_ok c.insert.result ≡ true = search rules in
    let s2 : is_ok c.insert-2.result ≡ true = search rules in
    let e = rw s at c.insert.ensures.items in
    let e2 = rw s2 at c.insert-2.ensures.items in
    record {
      trains = rw e (fit_placed line c.self.inside.clock c.args.x c.self.inside.trains.items c.args.index t g.trains);
      holds = rw (e, e2) (holds_insert line c.self.inside.id c.self.inside.trains.items c.self.inside.holds.items c.args.index c.args.x c.args.hold g.holds k);
    }
