use Rattle.std.proofs.Common.{◌≡◌, true, sym, ◌∙◌, rules, arith, nat_lt}
use Rattle.std.proofs.lemmas.Bool.Decides.{nat_tests}
use Rattle.definitions.specs.Track.{seg_len}
use Rattle.way_path.specs.Ways.{plain_way}
use Rattle.plain_state.specs.Zone.{end_pending}
use Rattle.zone_trains.proofs.Found_is.{found_is, absent}
use Rattle.zone_trains.proofs.Granted_is.{again_is}
use Rattle.zone_state.proofs.zone.Zone.send_again.Goals as goal

pub returns-in_default : goal.returns-in_default
returns-in_default c = let f = absent c.args.train.0 c.args.self.now.plain.trains (sym c.in_default.ensures.first) in rw f c.requires

pub returns-then-answered-last : goal.returns-then-answered-last
returns-then-answered-last c =
    let x = c.index-x.result.now in
    let h = rw (sym c.self.view_is) at (sym c.in-Some.ensures.first) in
    let f = found_is c.args.train.0 c.self.inside.trains.items c.in-Some.i x h c.index-x.ensures in
    let a = c.answered.ensures in
    let l = c.last.ensures in
    let b = c.if-answered-last.true in
    let t : nat_lt c.index-x.result.now.ledger.answered c.index-x.result.now.ledger.last ≡ true = grind (arith, nat_tests) in
    rw (← c.self.view_is, f, t)
    (rw (c.requires, c.last-then-answered-last.ensures, c.mark.ensures, c.last_path.ensures) at c.send.ensures
    ∙ again_is (seg_len c.args.line.now) c.args.train x.ledger.last (end_pending x.ledger.pending) (plain_way x.way))

pub returns-else-answered-last : goal.returns-else-answered-last
returns-else-answered-last c =
    let h = rw (sym c.self.view_is) at (sym c.in-Some.ensures.first) in
    let f = found_is c.args.train.0 c.self.inside.trains.items c.in-Some.i c.index-x.result.now h c.index-x.ensures in rw (← c.self.view_is, f) (search rules)
