use Rattle.std.proofs.Common.{refl, sym, ap}
use Rattle.plain_state.specs.declared.WorldTrain.{WorldTrain}
use Rattle.plain_state.specs.World.{come_on}
use Rattle.world_sim.specs.World.{AllOn}
use Rattle.world_sim.proofs.Changed_is.{found_is, found_on, absent, changed_is, unchanged, kept_is, kept_set}
use Rattle.world_sim.proofs.Moves_on.{entry_fits}
use Rattle.world_sim.proofs.Stays_kept.{not_numbered, comes_on_kept}
use Rattle.world_sim.proofs.world.World.enter.Goals as goal

pub come_on-requires-clause-holds : goal.come_on-requires-clause-holds
come_on-requires-clause-holds c =
    let h = rw (sym c.self.view_is) at (sym c.in-Some.ensures.first) in
    let f = found_is c.args.train.0 c.self.inside.trains.items c.in-Some.i c.index_mut.result.now h c.index_mut.ensures.value in
    rw f at (rw (sym c.self.view_is) at c.requires.holds)

pub come_on-requires-clause-fits : goal.come_on-requires-clause-fits
come_on-requires-clause-fits c =
    let h = rw (sym c.self.view_is) at (sym c.in-Some.ensures.first) in
    let f = found_is c.args.train.0 c.self.inside.trains.items c.in-Some.i c.index_mut.result.now h c.index_mut.ensures.value in
    let each : AllOn c.args.line.now c.self.inside.trains.items = rw (sym c.self.view_is) at c.requires.each in
    let holds = rw f at (rw (sym c.self.view_is) at c.requires.holds) in
    let x = c.index_mut.result.now in
    entry_fits c.args.line.now x.train_length x.entry x.onboard.entry holds (found_on c.args.line.now c.args.train.0 x c.self.inside.trains.items f each).entry

pub come_on-requires-clause-before : goal.come_on-requires-clause-before
come_on-requires-clause-before c =
    let h = rw (sym c.self.view_is) at (sym c.in-Some.ensures.first) in
    let l = rw (sym c.self.view_is) at c.in-Some.ensures.within in
    let x = c.index_mut.result.now in
    let f = found_is c.args.train.0 c.self.inside.trains.items c.in-Some.i x h c.index_mut.ensures.value in
    let before = rw f at (rw (sym c.self.view_is) at c.requires.before) in
    not_numbered x (kept_is c.self.inside.places c.self.inside.trains.items c.in-Some.i x c.self.invariant.1 l c.index_mut.ensures.value) before

pub invariant_of-self : goal.invariant_of-self
invariant_of-self c =
    let h = rw (sym c.self.view_is) at (sym c.in-Some.ensures.first) in
    let l = rw (sym c.self.view_is) at c.in-Some.ensures.within in
    let x = c.index_mut.result.now in
    let f = found_is c.args.train.0 c.self.inside.trains.items c.in-Some.i x h c.index_mut.ensures.value in
    let each : AllOn c.args.line.now c.self.inside.trains.items = rw (sym c.self.view_is) at c.requires.each in
    let holds = rw f at (rw (sym c.self.view_is) at c.requires.holds) in
    let k = kept_is c.self.inside.places c.self.inside.trains.items c.in-Some.i x c.self.invariant.1 l c.index_mut.ensures.value in
    let entry = (found_on c.args.line.now c.args.train.0 x c.self.inside.trains.items f each).entry in (
      c.self.invariant.0,
      kept_set c.self.inside.places c.self.inside.trains.items c.in-Some.i x c.come_on.new.train c.self.invariant.1 c.index_mut.ensures.value
          (ap (λ (y : WorldTrain). y.id) c.come_on.ensures) (rw c.come_on.ensures (comes_on_kept c.args.line.now x entry holds k)),
    )

pub returns-in-Some-clause-gives : goal.returns-in-Some-clause-gives
returns-in-Some-clause-gives c =
    let h = rw (sym c.self.view_is) at (sym c.in-Some.ensures.first) in
    rw (← c.self.view_is, found_is c.args.train.0 c.self.inside.trains.items c.in-Some.i c.index.result.now h c.index.ensures) c.answer_entry.ensures

pub returns-in-Some-clause-next : goal.returns-in-Some-clause-next
returns-in-Some-clause-next c =
    let h = rw (sym c.self.view_is) at (sym c.in-Some.ensures.first) in
    rw (← c.self.view_is, changed_is c.args.train.0 come_on c.self.inside.trains.items c.in-Some.i c.index_mut.result.now c.come_on.new.train h c.index_mut.ensures.value c.come_on.ensures) refl

pub returns-in_default-clause-gives : goal.returns-in_default-clause-gives
returns-in_default-clause-gives c =
    let h = rw (sym c.self.view_is) at (sym c.in_default.ensures.first) in
    rw (← c.self.view_is, absent c.args.train.0 c.self.inside.trains.items h) c.requires.empty

pub returns-in_default-clause-next : goal.returns-in_default-clause-next
returns-in_default-clause-next c =
    let h = rw (sym c.self.view_is) at (sym c.in_default.ensures.first) in
    rw (← c.self.view_is, unchanged c.args.train.0 come_on c.self.inside.trains.items h) refl
