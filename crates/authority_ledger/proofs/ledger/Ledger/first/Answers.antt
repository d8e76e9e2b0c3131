use Rattle.authority_ledger.proofs.ledger.Ledger.first.Goals as goal
use Rattle.authority_ledger.proofs.Told.{tells_first}

pub returns-clause-tells : goal.returns-clause-tells
returns-clause-tells c = tells_first
