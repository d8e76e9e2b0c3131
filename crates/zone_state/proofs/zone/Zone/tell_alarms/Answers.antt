use Rattle.zone_trains.proofs.Told.{told_still}
use Rattle.zone_state.proofs.zone.Zone.tell_alarms.Goals as goal

pub returns-else-before-self : goal.returns-else-before-self
returns-else-before-self c = rw (← c.self.view_is) (told_still _ c.self.inside.id c.args.before c.self.inside.clock c.self.inside.trains.items c.args.outs.now c.if-before-self.false)
