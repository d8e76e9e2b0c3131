use Rattle.std.proofs.Common.{◌≡◌, false, refl, sym, ap, ◌∙◌, arith, nat_eq}
use Rattle.std.proofs.lemmas.Bool.Decides.{nat_tests}
use Rattle.std.proofs.lemmas.List.{get_or-set_same}
use Rattle.definitions.specs.Steps.{deny}
use Rattle.definitions.specs.Track.{seg_len}
use Rattle.plain_state.specs.declared.Controlled.{Controlled}
use Rattle.plain_state.specs.Zone.{find_controlled, fresh_train, lengthened, path_found}
use Rattle.zone_trains.specs.Trains.{AllFit, path_granted}
use Rattle.zone_state.specs.Zone.{ReachFitsFound}
use Rattle.zone_trains.proofs.Found_is.{found_is, absent, changed_is, passes_is, fit_found, fit_here, fit_set, fit_again}
use Rattle.zone_reach.specs.Reach.{reach_value}
use Rattle.list_laws.proofs.By_test.{none_of}
use Rattle.zone_trains.proofs.Granted_is.{granted_is, reach_free}
use Rattle.zone_state.proofs.Holds_set.{holds_set}
use Rattle.zone_state.proofs.Kept_put.{kept_train, kept_hold}
use Rattle.zone_state.proofs.zone.Zone.ask.Goals as goal

pub lengthen-hold-requires-clause-fits : goal.lengthen-hold-requires-clause-fits
lengthen-hold-requires-clause-fits c =
    let l = rw (sym c.self.view_is) at c.in-Some.ensures.within in
    let a : AllFit c.args.line.now c.self.inside.clock c.self.inside.trains.items = rw (sym c.self.view_is) at c.requires.fits.trains in
    fit_here c.args.line.now c.self.inside.clock c.self.inside.trains.items c.in-Some.i c.index_mut.result.now l c.index_mut.ensures.value a

pub lengthen-hold-requires-clause-fresh : goal.lengthen-hold-requires-clause-fresh
lengthen-hold-requires-clause-fresh c =
    let l = rw (sym c.self.view_is) at c.in-Some.ensures.within in
    passes_is fresh_train c.self.inside.trains.items c.in-Some.i c.index_mut.result.now l c.index_mut.ensures.value (rw (sym c.self.view_is) at c.requires.fresh)

pub lengthen-hold-requires-clause-reaches : goal.lengthen-hold-requires-clause-reaches
lengthen-hold-requires-clause-reaches c =
    let h = rw (sym c.self.view_is) at (sym c.in-Some.ensures.first) in
    let f = found_is c.args.train.0 c.self.inside.trains.items c.in-Some.i c.index_mut.result.now h c.index_mut.ensures.value in
    let a : ReachFitsFound c.args.line.now (path_found (find_controlled c.args.train.0 c.self.inside.trains.items)) c.args.asked.now c.reach_of-reach.result.distance = rw (sym c.self.view_is) at c.reach_of-reach.ensures.fits in
    rw f at a

pub lengthen-hold-requires-clause-none : goal.lengthen-hold-requires-clause-none
lengthen-hold-requires-clause-none c =
    let h = rw (sym c.self.view_is) at (sym c.in-Some.ensures.first) in
    let f = found_is c.args.train.0 c.self.inside.trains.items c.in-Some.i c.index_mut.result.now h c.index_mut.ensures.value in
    let r = rw (sym c.self.view_is) at c.reach_of-reach.ensures.reach in
    let u = reach_free c.args.line.now c.self.inside.id c.self.inside.clock c.self.inside.trains.items c.self.inside.closed c.args.train.0 c.args.asked.now c.args.to (reach_value c.reach_of-reach.result) r (let d = c.if-reach-eq0.false in omega arith) in
    none_of c.index_mut.result.now.ledger.pending (rw f at u)

pub invariant_of-self : goal.invariant_of-self
invariant_of-self c =
    let l = rw (sym c.self.view_is) at c.in-Some.ensures.within in
    let all = rw (sym c.self.view_is) at c.requires.fresh in (
      c.self.invariant.0,
      (
        c.self.invariant.1.0,
        rw c.fresh_train-self-inside.ensures
            (kept_hold _ c.self.inside.holds.items _ c.in-Some.i c.lengthen-hold.result
            (kept_train c.self.inside.trains.items c.self.inside.holds.items c.self.inside.fresh c.in-Some.i c.index_mut.result.now c.lengthen-hold.new.x c.index-2.result.now c.self.invariant.1.1 all l c.index_mut.ensures.value
            (ap (λ (x : Controlled). x.id) c.lengthen-hold.ensures.next) c.index-2.ensures)),
      ),
    )

pub returns-clause-gives : goal.returns-clause-gives
returns-clause-gives c =
    let h = rw (sym c.self.view_is) at (sym c.in-Some.ensures.first) in
    let l = rw (sym c.self.view_is) at c.in-Some.ensures.within in
    let f = found_is c.args.train.0 c.self.inside.trains.items c.in-Some.i c.index_mut.result.now h c.index_mut.ensures.value in
    let n : nat_eq c.reach_of-reach.result.distance 0 ≡ false = let d = c.if-reach-eq0.false in grind (arith, nat_tests) in
    let r = rw (sym c.self.view_is) at c.reach_of-reach.ensures.reach in
    let u = reach_free c.args.line.now c.self.inside.id c.self.inside.clock c.self.inside.trains.items c.self.inside.closed c.args.train.0 c.args.asked.now c.args.to (reach_value c.reach_of-reach.result) r (let d = c.if-reach-eq0.false in omega arith) in
    let x = c.index.ensures ∙ (get_or-set_same c.self.inside.trains.items c.in-Some.i c.lengthen-hold.new.x c.index.result.now l ∙ c.lengthen-hold.ensures.next) in
    rw (← c.reach_of-reach.ensures.reach, ← c.self.view_is, f, n)
    (c.granted.ensures ∙ (ap (λ (y : Controlled). path_granted c.self.inside.id c.args.train y c.reach_of-reach.result.obstacle) x
    ∙ granted_is (seg_len c.args.line.now) c.self.inside.id c.args.train c.args.asked.now (reach_value c.reach_of-reach.result) c.index_mut.result.now
    (none_of c.index_mut.result.now.ledger.pending (rw f at u))))

pub returns-clause-next : goal.returns-clause-next
returns-clause-next c =
    let h = rw (sym c.self.view_is) at (sym c.in-Some.ensures.first) in
    let n : nat_eq c.reach_of-reach.result.distance 0 ≡ false = let d = c.if-reach-eq0.false in grind (arith, nat_tests) in
    let e = changed_is c.args.train.0 (lengthened (seg_len c.args.line.now) c.args.asked.now c.reach_of-reach.result.distance) c.self.inside.trains.items c.in-Some.i c.index_mut.result.now c.lengthen-hold.new.x h c.index_mut.ensures.value c.lengthen-hold.ensures.next in
    rw (← c.reach_of-reach.ensures.reach, ← c.self.view_is, n, e) refl

pub returns-clause-fits : goal.returns-clause-fits
returns-clause-fits c =
    let g = rw (sym c.self.view_is) at c.requires.fits in
    let l = rw (sym c.self.view_is) at c.in-Some.ensures.within in
    let x = fit_found c.args.line.now c.self.inside.clock c.self.inside.trains.items c.in-Some.i c.index_mut.result.now l c.index_mut.ensures.value g.trains in
    record {
      trains = fit_set c.args.line.now c.self.inside.clock c.self.inside.trains.items c.in-Some.i c.lengthen-hold.new.x g.trains
          (fit_again c.args.line.now c.self.inside.clock c.index_mut.result.now c.lengthen-hold.new.x x c.lengthen-hold.ensures.fits);
      holds = holds_set c.args.line.now c.self.inside.id c.self.inside.trains.items c.self.inside.holds.items c.in-Some.i c.lengthen-hold.new.x c.lengthen-hold.result g.holds c.lengthen-hold.ensures.hold;
    }

pub returns-in_default-clause-gives : goal.returns-in_default-clause-gives
returns-in_default-clause-gives c =
    let h = rw (sym c.self.view_is) at (sym c.in_default.ensures.first) in
    let f = absent c.args.train.0 c.self.inside.trains.items h in
    rw (← c.self.view_is, f) (c.denied.ensures ∙ ap (deny c.self.inside.id c.args.train) c.barred.ensures.barred)

pub returns-in_default-clause-next : goal.returns-in_default-clause-next
returns-in_default-clause-next c =
    let h = rw (sym c.self.view_is) at (sym c.in_default.ensures.first) in
    let f = absent c.args.train.0 c.self.inside.trains.items h in
    rw (← c.self.view_is, f) refl
