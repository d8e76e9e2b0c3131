use Rattle.std.proofs.Common.{refl, sym, ap, ◌∙◌}
use Rattle.braking_table.specs.Brake.{stop_of}
use Rattle.definitions.specs.Track.{seg_len}
use Rattle.plain_state.specs.World.{PlainWorld, took_auth}
use Rattle.world_sim.specs.World.{answering}
use Rattle.world_sim.proofs.Changed_is.{found_is, absent, unchanged, kept_is, kept_set}
use Rattle.world_sim.proofs.Stays_kept.{took_id, took_kept}
use Rattle.world_sim.proofs.Answers_is.{answers_is, takes_is}
use Rattle.world_sim.proofs.world.World.take_auth.Goals as goal

pub invariant_of-self : goal.invariant_of-self
invariant_of-self c =
    let l = rw (sym c.self.view_is) at c.in-Some.ensures.within in
    let x = c.index_mut-found.result.now in
    let k = kept_is c.self.inside.places c.self.inside.trains.items c.in-Some.i x c.self.invariant.1 l c.index_mut-found.ensures.value in
    let next = c.take_authority-verdict.ensures.next in
    let len = seg_len c.args.line.now in (
      c.self.invariant.0,
      kept_set c.self.inside.places c.self.inside.trains.items c.in-Some.i x c.take_authority-verdict.new.train c.self.invariant.1 c.index_mut-found.ensures.value
          (took_id len c.stop-stop.result c.args.from c.args.number c.args.mark c.args.path.now x c.take_authority-verdict.new.train next)
          (took_kept len c.stop-stop.result c.args.from c.args.number c.args.mark c.args.path.now x c.take_authority-verdict.new.train k next),
    )

pub returns-in-Some-clause-gives : goal.returns-in-Some-clause-gives
returns-in-Some-clause-gives c =
    let h = rw (sym c.self.view_is) at (sym c.in-Some.ensures.first) in
    let x = c.index_mut-found.result.now in
    let f = found_is c.args.train.0 c.self.inside.trains.items c.in-Some.i x h c.index_mut-found.ensures.value in
    let w : PlainWorld = record { brake = c.self.inside.stops; clock = c.self.inside.clock; trains = c.self.inside.trains.items } in
    let stop = c.stop-stop.ensures.exact ∙ ap (stop_of c.self.inside.stops) c.last_speed.ensures in
    rw (← c.self.view_is)
    (c.auth_answer.ensures
    ∙ (ap (answering c.self.inside.clock c.args.train c.args.from c.args.number) (rw stop at c.take_authority-verdict.ensures.answer)
    ∙ answers_is c.args.line.now w c.args.train c.args.from c.args.number c.args.mark c.args.path.now x f c.requires.fits))

pub returns-in-Some-clause-next : goal.returns-in-Some-clause-next
returns-in-Some-clause-next c =
    let h = rw (sym c.self.view_is) at (sym c.in-Some.ensures.first) in
    let x = c.index_mut-found.result.now in
    let f = found_is c.args.train.0 c.self.inside.trains.items c.in-Some.i x h c.index_mut-found.ensures.value in
    let w : PlainWorld = record { brake = c.self.inside.stops; clock = c.self.inside.clock; trains = c.self.inside.trains.items } in
    let stop = c.stop-stop.ensures.exact ∙ ap (stop_of c.self.inside.stops) c.last_speed.ensures in
    rw (← c.self.view_is)
    (takes_is c.args.line.now w c.args.train c.args.from c.args.number c.args.mark c.args.path.now c.in-Some.i x c.take_authority-verdict.new.train h c.index_mut-found.ensures.value f c.requires.fits
    (rw stop at c.take_authority-verdict.ensures.next))

pub returns-in_default-clause-gives : goal.returns-in_default-clause-gives
returns-in_default-clause-gives c =
    let h = rw (sym c.self.view_is) at (sym c.in_default.ensures.first) in
    let f = absent c.args.train.0 c.self.inside.trains.items h in
    rw (← c.self.view_is, c.requires.fits, f) c.requires.empty

pub returns-in_default-clause-next : goal.returns-in_default-clause-next
returns-in_default-clause-next c =
    let h = rw (sym c.self.view_is) at (sym c.in_default.ensures.first) in
    let f = absent c.args.train.0 c.self.inside.trains.items h in
    rw
    (← c.self.view_is, c.requires.fits, f, unchanged c.args.train.0 (took_auth (seg_len c.args.line.now) c.self.inside.stops c.self.inside.clock c.args.from c.args.number c.args.mark c.args.path.now) c.self.inside.trains.items h)
    refl
