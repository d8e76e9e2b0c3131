use Rattle.std.proofs.Common.{arith, rules}
use Rattle.authority_ledger.specs.Ledger.{longer}
use Rattle.zone_trains.proofs.Checked_fits.{longer_fits}
use Rattle.zone_trains.proofs.Granted_is.{none_longer}
use Rattle.zone_trains.proofs.trains.lengthen.Goals as goal

pub returns-clause-fits : goal.returns-clause-fits
returns-clause-fits c =
    let n = c.lengthen_way.ensures.way in
    let f = c.requires.fits in
    let e = c.lengthen_way.ensures.ends in
    record {
      way = search rules;
      on_line = c.lengthen_way.ensures.on_line;
      ends = e;
      long = f.long;
      behind = rw n f.behind;
      ordered = f.ordered;
      ahead = let a = f.ahead in let b = c.lengthen_way.ensures.end in omega (arith, a, b);
      at = search rules;
      ledger = c.issue_longer.ensures.fits;
      shrink = rw c.issue_longer.ensures.after (longer_fits _ _ (longer c.args.x.now.ledger).pending (none_longer c.args.x.now.ledger c.requires.none));
    }
