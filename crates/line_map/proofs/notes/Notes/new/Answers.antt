use Rattle.std.proofs.Common.{refl}
use Rattle.line_map.proofs.Tells_more.{tells_none}
use Rattle.line_map.proofs.notes.Notes.new.Goals as goal

pub returns : goal.returns
returns c = tells_none _ refl refl refl refl c.in_ok-table.ensures
