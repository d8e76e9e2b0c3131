use Rattle.authority_ledger.specs.Ledger.{IsLedger}
use Rattle.cbtc_tests.proofs.tests.ledger.try_rows.Given as goal

abbrev pub invariant-loop-row : goal.invariant-loop-row
invariant-loop-row g l = IsLedger l.ledger
