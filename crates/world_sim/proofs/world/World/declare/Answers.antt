use Rattle.std.proofs.Common.{◌≡◌, length, true, is_ok, rules, sym}
use Rattle.plain_state.specs.World.{new_train}
use Rattle.world_sim.proofs.Changed_is.{kept_push}
use Rattle.world_sim.proofs.Stays_kept.{new_kept}
use Rattle.world_sim.proofs.world.World.declare.Goals as goal

pub invariant_of-self : goal.invariant_of-self
invariant_of-self c =
    let few = rw (sym c.self.view_is) at c.requires.room in
    let room = c.self.invariant.0 in
    let q = c.push.ensures.succeeds in
    let s : is_ok c.push.result ≡ true = search rules in
    let e = rw s at c.push.ensures.items in
    let x = new_train c.args.train c.args.train_length c.args.error c.args.speed in
    let kept = new_kept c.args.train c.args.train_length c.args.error c.args.speed c.requires.speed in
    let n : c.len.result ≡ length c.self.inside.trains.items = search rules in
    (search rules, rw (e, c.declared-declared.ensures) (kept_push c.self.inside.places c.put.new.self c.self.inside.trains.items c.len.result x c.self.invariant.1 n kept c.put.ensures))
