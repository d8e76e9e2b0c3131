use Rattle.zone_state.specs.Zone.{IsZoneOn}
use Rattle.cbtc_tests.proofs.tests.zone.try_rows.Given as goal

abbrev pub invariant-loop-row : goal.invariant-loop-row
invariant-loop-row g l = IsZoneOn l.line l.zone
