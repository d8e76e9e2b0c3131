use Rattle.std.proofs.Common.{sym, subst}
use Rattle.definitions.specs.declared.message.Msg.TheVariants as msg
use Rattle.world_sim.specs.World.{IsWorldOn}
use Rattle.world_sim.proofs.Event_stays.{take_stays}
use Rattle.world_sim.proofs.world.World.take.Goals as goal

pub returns-then-fits_line-clause-on : goal.returns-then-fits_line-clause-on
returns-then-fits_line-clause-on c =
    subst (IsWorldOn c.args.line.now) (sym c.take_auth.ensures.next)
    (take_stays c.args.line.now c.args.self.now c.args.from (msg.Auth c.in-Auth.train c.in-Auth.number c.in-Auth.mark c.in-Auth.path) c.requires.on)
