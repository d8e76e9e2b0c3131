use Rattle.std.proofs.Common.{Option, subst}
use Rattle.track_points.specs.declared.ids.ZoneId.{ZoneId}
use Rattle.line_map.specs.Order.{IsZoneAt}
use Rattle.line_system.proofs.Starts.{zone_at, no_zone_at}
use Rattle.line_system.proofs.system.zone_of_line.Goals as goal

pub unreachable-requires : goal.unreachable-requires
unreachable-requires c = no_zone_at c.args.line.now c.requires.valid (subst (λ (z : Option ZoneId). IsZoneAt c.args.line.now 0 z) c.in_default.is c.zone.ensures)

pub returns : goal.returns
returns c = zone_at c.args.line.now 0 c.in-Some.zone (subst (λ (z : Option ZoneId). IsZoneAt c.args.line.now 0 z) c.in-Some.is c.zone.ensures) c.requires.one
