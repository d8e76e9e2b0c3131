use Rattle.document_laws.proofs.Whole.{checkable_gives_items}
use Rattle.document_laws.proofs.checkable_gives_items.Goals as goal

pub returns : goal.returns
returns c = checkable_gives_items
