use Rattle.document_laws.proofs.Whole.{document_gives}
use Rattle.document_laws.proofs.document_gives.Goals as goal

pub returns : goal.returns
returns c = document_gives
