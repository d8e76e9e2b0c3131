use Rattle.std.proofs.Common.{◌≡◌, true, refl, sym, ap, arith, nat_le}
use Rattle.std.proofs.lemmas.Bool.{and_parts}
use Rattle.std.proofs.lemmas.Bool.Decides.{nat_tests}
use Rattle.plain_state.specs.declared.WorldTrain.{WorldTrain}
use Rattle.plain_state.specs.World.{moved_train, on_found, room_found, find_train}
use Rattle.plain_state.specs.Admits.{can_move_found, may_move_found}
use Rattle.world_sim.specs.World.{AllOn}
use Rattle.world_sim.proofs.Changed_is.{found_is, found_on, changed_is, unchanged, kept_is, kept_set}
use Rattle.world_sim.proofs.Stays_kept.{has_number, can_slower, moved_kept}
use Rattle.world_sim.proofs.world.World.move_on.Goals as goal

pub move_on-requires-clause-head : goal.move_on-requires-clause-head
move_on-requires-clause-head c =
    let h = rw (sym c.self.view_is) at (sym c.in-Some.ensures.first) in
    let f = found_is c.args.train.0 c.self.inside.trains.items c.in-Some.i c.index_mut.result.now h c.index_mut.ensures.value in
    let each : AllOn c.args.line.now c.self.inside.trains.items = rw (sym c.self.view_is) at c.requires.each in
    (found_on c.args.line.now c.args.train.0 c.index_mut.result.now c.self.inside.trains.items f each).head

pub move_on-requires-clause-room : goal.move_on-requires-clause-room
move_on-requires-clause-room c =
    let h = rw (sym c.self.view_is) at (sym c.in-Some.ensures.first) in
    let f = found_is c.args.train.0 c.self.inside.trains.items c.in-Some.i c.index_mut.result.now h c.index_mut.ensures.value in
    let may : may_move_found c.self.inside.trains.items (c.args.train, c.args.mm) ≡ true = rw (sym c.self.view_is) at c.requires.may in
    let k = and_parts (on_found (find_train c.args.train.0 c.self.inside.trains.items)) (nat_le c.args.mm (room_found (find_train c.args.train.0 c.self.inside.trains.items))) may in
    let t = rw f at k.1 in grind (arith, nat_tests)

pub move_on-requires-clause-entered : goal.move_on-requires-clause-entered
move_on-requires-clause-entered c =
    let h = rw (sym c.self.view_is) at (sym c.in-Some.ensures.first) in
    let l = rw (sym c.self.view_is) at c.in-Some.ensures.within in
    let x = c.index_mut.result.now in
    let f = found_is c.args.train.0 c.self.inside.trains.items c.in-Some.i x h c.index_mut.ensures.value in
    let may : may_move_found c.self.inside.trains.items (c.args.train, c.args.mm) ≡ true = rw (sym c.self.view_is) at c.requires.may in
    let k = and_parts (on_found (find_train c.args.train.0 c.self.inside.trains.items)) (nat_le c.args.mm (room_found (find_train c.args.train.0 c.self.inside.trains.items))) may in
    has_number x (kept_is c.self.inside.places c.self.inside.trains.items c.in-Some.i x c.self.invariant.1 l c.index_mut.ensures.value) (rw f at k.0)

pub move_on-requires-clause-speed : goal.move_on-requires-clause-speed
move_on-requires-clause-speed c =
    let h = rw (sym c.self.view_is) at (sym c.in-Some.ensures.first) in
    let l = rw (sym c.self.view_is) at c.in-Some.ensures.within in
    let x = c.index_mut.result.now in
    let f = found_is c.args.train.0 c.self.inside.trains.items c.in-Some.i x h c.index_mut.ensures.value in
    let can : can_move_found c.args.ms c.self.inside.trains.items (c.args.train, c.args.mm) ≡ true = rw (sym c.self.view_is) at c.requires.can in
    can_slower x c.args.ms c.args.mm (kept_is c.self.inside.places c.self.inside.trains.items c.in-Some.i x c.self.invariant.1 l c.index_mut.ensures.value) (rw f at can)

pub invariant_of-self : goal.invariant_of-self
invariant_of-self c =
    let l = rw (sym c.self.view_is) at c.in-Some.ensures.within in
    let h = rw (sym c.self.view_is) at (sym c.in-Some.ensures.first) in
    let x = c.index_mut.result.now in
    let f = found_is c.args.train.0 c.self.inside.trains.items c.in-Some.i x h c.index_mut.ensures.value in
    let k = kept_is c.self.inside.places c.self.inside.trains.items c.in-Some.i x c.self.invariant.1 l c.index_mut.ensures.value in
    let can : can_move_found c.args.ms c.self.inside.trains.items (c.args.train, c.args.mm) ≡ true = rw (sym c.self.view_is) at c.requires.can in
    let moved = moved_kept c.args.line.now c.args.ms c.self.inside.clock c.args.mm x (can_slower x c.args.ms c.args.mm k (rw f at can)) k in (
      c.self.invariant.0,
      kept_set c.self.inside.places c.self.inside.trains.items c.in-Some.i x c.move_on.new.train c.self.invariant.1 c.index_mut.ensures.value
          (ap (λ (y : WorldTrain). y.id) c.move_on.ensures) (rw c.move_on.ensures moved),
    )

pub returns-in-Some : goal.returns-in-Some
returns-in-Some c =
    let h = rw (sym c.self.view_is) at (sym c.in-Some.ensures.first) in
    rw (← c.self.view_is, changed_is c.args.train.0 (moved_train c.args.line.now c.args.ms c.self.inside.clock c.args.mm) c.self.inside.trains.items c.in-Some.i c.index_mut.result.now c.move_on.new.train h c.index_mut.ensures.value c.move_on.ensures) refl

pub returns-in_default : goal.returns-in_default
returns-in_default c =
    let h = rw (sym c.self.view_is) at (sym c.in_default.ensures.first) in
    rw (← c.self.view_is, unchanged c.args.train.0 (moved_train c.args.line.now c.args.ms c.self.inside.clock c.args.mm) c.self.inside.trains.items h) refl
