use Rattle.document_laws.proofs.Whole.{never_premise}
use Rattle.document_laws.proofs.never_premise.Goals as goal

pub returns : goal.returns
returns c = never_premise
