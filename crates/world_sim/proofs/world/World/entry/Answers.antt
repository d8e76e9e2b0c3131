use Rattle.std.proofs.Common.{refl, sym, ap}
use Rattle.plain_state.specs.declared.WorldTrain.{WorldTrain}
use Rattle.plain_state.specs.World.{asked_at_portal}
use Rattle.world_sim.proofs.Changed_is.{found_is, absent, changed_is, unchanged, kept_is, kept_set}
use Rattle.world_sim.proofs.world.World.entry.Goals as goal

pub invariant_of-self : goal.invariant_of-self
invariant_of-self c =
    let l = rw (sym c.self.view_is) at c.in-Some.ensures.within in
    let k = kept_is c.self.inside.places c.self.inside.trains.items c.in-Some.i c.index_mut.result.now c.self.invariant.1 l c.index_mut.ensures.value in (
      c.self.invariant.0,
      kept_set c.self.inside.places c.self.inside.trains.items c.in-Some.i c.index_mut.result.now c.ask_entry.new.train c.self.invariant.1 c.index_mut.ensures.value
          (ap (λ (x : WorldTrain). x.id) c.ask_entry.ensures) (rw c.ask_entry.ensures k),
    )

pub returns-in-Some-clause-gives : goal.returns-in-Some-clause-gives
returns-in-Some-clause-gives c =
    let h = rw (sym c.self.view_is) at (sym c.in-Some.ensures.first) in
    rw (← c.self.view_is, found_is c.args.train.0 c.self.inside.trains.items c.in-Some.i c.index.result.now h c.index.ensures) c.request.ensures

pub returns-in-Some-clause-next : goal.returns-in-Some-clause-next
returns-in-Some-clause-next c =
    let h = rw (sym c.self.view_is) at (sym c.in-Some.ensures.first) in
    rw (← c.self.view_is, changed_is c.args.train.0 (asked_at_portal c.args.step) c.self.inside.trains.items c.in-Some.i c.index_mut.result.now c.ask_entry.new.train h c.index_mut.ensures.value c.ask_entry.ensures) refl

pub returns-in_default-clause-gives : goal.returns-in_default-clause-gives
returns-in_default-clause-gives c =
    let h = rw (sym c.self.view_is) at (sym c.in_default.ensures.first) in
    rw (← c.self.view_is, absent c.args.train.0 c.self.inside.trains.items h) c.requires

pub returns-in_default-clause-next : goal.returns-in_default-clause-next
returns-in_default-clause-next c =
    let h = rw (sym c.self.view_is) at (sym c.in_default.ensures.first) in
    rw (← c.self.view_is, unchanged c.args.train.0 (asked_at_portal c.args.step) c.self.inside.trains.items h) refl
