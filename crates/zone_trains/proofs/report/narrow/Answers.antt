use Rattle.std.proofs.Common.{◌-◌, refl, rules, w64}
use Rattle.std.proofs.lemmas.Int.{to_z-of_z}
use Rattle.envelope.specs.Fronts.{farthest_move}
use Rattle.zone_trains.proofs.Narrowed_stands.{fronts_kept}
use Rattle.zone_trains.proofs.report.narrow.Goals as goal

pub returns : goal.returns
returns c =
    let p = to_z-of_z w64 c.args.place (search rules) in
    let f = fronts_kept c.args.x.now.fronts c.by_report.new.self c.args.place c.args.x.now.error (farthest_move c.args.x.now.speed (c.args.x.now.fronts.at - c.args.time)) c.args.integrity c.by_report.result
    c.requires.ordered (rw p at c.by_report.ensures.hull) (rw p at c.by_report.ensures.none) c.by_report.ensures.unchanged c.by_report.ensures.at in
    rw (f, c.max-x.ensures) refl
