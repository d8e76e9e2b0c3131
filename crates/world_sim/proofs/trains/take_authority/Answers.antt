use Rattle.std.proofs.Common.{◌≡◌, sym, subst, if◌then◌else◌}
use Rattle.definitions.specs.Track.{seg_len}
use Rattle.plain_state.specs.World.{acted_on_by, took_by}
use Rattle.world_sim.proofs.trains.take_authority.Goals as goal

pub returns-in-None-clause-next : goal.returns-in-None-clause-next
returns-in-None-clause-next c =
    subst
    (λ h. c.take_before.new.train ≡ (if acted_on_by (seg_len c.args.line.now) c.args.train.now h c.args.number c.args.mark c.args.path.now then took_by (seg_len c.args.line.now) c.args.stop c.args.from c.args.number c.args.mark c.args.path.now h c.args.train.now else c.args.train.now))
    (sym c.in-None.is)
    (c.take_before.ensures c.args.stop)

pub returns-in-Some-clause-next : goal.returns-in-Some-clause-next
returns-in-Some-clause-next c =
    subst
    (λ h. c.take_on_line.new.train ≡ (if acted_on_by (seg_len c.args.line.now) c.args.train.now h c.args.number c.args.mark c.args.path.now then took_by (seg_len c.args.line.now) c.args.stop c.args.from c.args.number c.args.mark c.args.path.now h c.args.train.now else c.args.train.now))
    (sym c.in-Some.is)
    (c.take_on_line.ensures.next c.args.from)
