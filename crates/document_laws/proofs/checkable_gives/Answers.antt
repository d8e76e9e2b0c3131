use Rattle.document_laws.proofs.Whole.{checkable_gives}
use Rattle.document_laws.proofs.checkable_gives.Goals as goal

pub returns : goal.returns
returns c = checkable_gives
