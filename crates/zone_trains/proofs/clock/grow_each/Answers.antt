use Rattle.std.proofs.Common.{◌<◌, length, arith}
use Rattle.std.proofs.lemmas.List.Edits.{map_over_more}
use Rattle.plain_state.specs.Zone.{grown_train}
use Rattle.zone_trains.proofs.Narrowed_stands.{still_as_was, grows_at, grows_own}
use Rattle.zone_trains.proofs.clock.grow_each.Goals as goal

pub grow-requires-clause-grows : goal.grow-requires-clause-grows
grow-requires-clause-grows c =
    let lt : c.loop-i.i < length c.args.trains.now = omega arith in
    let s = still_as_was (grown_train c.args.clock) c.args.trains.now c.loop-i.trains c.loop-i.i c.index-trains-i.result lt c.loop-i.invariant in
    rw s (grows_own c.args.before _ (grows_at c.args.before c.args.trains.now c.loop-i.i c.index-trains-i.result lt c.requires.grow))

pub grow-requires-clause-later : goal.grow-requires-clause-later
grow-requires-clause-later c =
    let lt : c.loop-i.i < length c.args.trains.now = omega arith in
    let s = still_as_was (grown_train c.args.clock) c.args.trains.now c.loop-i.trains c.loop-i.i c.index-trains-i.result lt c.loop-i.invariant in
    let a = (grows_at c.args.before c.args.trains.now c.loop-i.i c.index-trains-i.result lt c.requires.grow).at in
    rw (s, a) c.requires.later

pub loop-i-preserved : goal.loop-i-preserved
loop-i-preserved c =
    let lt : c.loop-i.i < length c.args.trains.now = omega arith in
    rw (c.grow.ensures, ← c.index-trains-i.is)
    (map_over_more (grown_train c.args.clock) c.args.trains.now c.loop-i.trains c.loop-i.i c.index-trains-i.result lt c.loop-i.invariant c.index-trains-i.is)
