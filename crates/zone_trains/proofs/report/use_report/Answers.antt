use Rattle.std.proofs.Common.{◌∙◌, rules, w64, subst, ap}
use Rattle.std.proofs.lemmas.Int.{to_z-of_z}
use Rattle.definitions.specs.Track.{seg_len}
use Rattle.plain_state.specs.Zone.{check, cut_at_rear}
use Rattle.zone_trains.specs.Trains.{TrainFits}
use Rattle.zone_trains.proofs.Marked.{marked}
use Rattle.zone_trains.proofs.Narrowed_stands.{narrowed_stands, narrowed_at}
use Rattle.zone_trains.proofs.report.use_report.Goals as goal

pub check-requires : goal.check-requires
check-requires c = rw c.narrow.ensures c.requires.fits.ledger

pub tell_place-requires-clause-stands : goal.tell_place-requires-clause-stands
tell_place-requires-clause-stands c =
    let p = to_z-of_z w64 c.args.place (search rules) in
    let e = c.check.ensures ∙ ap check (rw p at c.narrow.ensures) in
    rw e (narrowed_stands c.args.line.now c.args.x.now.fronts.at c.args.place c.args.report.time c.args.report.integrity c.args.x.now c.requires.fits)

pub cut-requires : goal.cut-requires
cut-requires c =
    let p = to_z-of_z w64 c.args.place (search rules) in
    let e = c.check.ensures ∙ ap check (rw p at c.narrow.ensures) in
    rw e (narrowed_stands c.args.line.now c.args.x.now.fronts.at c.args.place c.args.report.time c.args.report.integrity c.args.x.now c.requires.fits)

pub returns-clause-gives : goal.returns-clause-gives
returns-clause-gives c =
    let p = to_z-of_z w64 c.args.place (search rules) in
    let e = c.check.ensures ∙ ap check (rw p at c.narrow.ensures) in
    let m = marked (seg_len c.args.line.now) c.args.x.now.way c.args.report.mark c.args.report.offset c.args.place c.requires.place in
    rw m.1 (rw e at c.tell_place.ensures)

pub returns-clause-next : goal.returns-clause-next
returns-clause-next c =
    let p = to_z-of_z w64 c.args.place (search rules) in
    let e = c.check.ensures ∙ ap check (rw p at c.narrow.ensures) in
    let m = marked (seg_len c.args.line.now) c.args.x.now.way c.args.report.mark c.args.report.offset c.args.place c.requires.place in
    rw m.1 (c.cut.ensures.next ∙ ap (cut_at_rear (seg_len c.args.line.now)) e)

pub returns-clause-fits : goal.returns-clause-fits
returns-clause-fits c =
    let p = to_z-of_z w64 c.args.place (search rules) in
    let e = c.check.ensures ∙ ap check (rw p at c.narrow.ensures) in
    let a = narrowed_at c.args.place c.args.report.time c.args.report.integrity c.args.x.now c.requires.fits.ordered in
    let f = rw e at c.cut.ensures.fits in
    subst (λ n. TrainFits c.args.line.now n c.cut.new.x) a f
