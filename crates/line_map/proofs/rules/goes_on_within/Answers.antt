use Rattle.std.proofs.Common.{sym}
use Rattle.line_map.proofs.Follows_is.{goes_on}
use Rattle.line_map.proofs.rules.goes_on_within.Goals as goal

pub returns : goal.returns
returns c = rw (c.joins_zone.ensures, c.use_of.ensures) (sym (goes_on c.args.index.now c.args.z c.args.e c.requires))
