use Rattle.std.proofs.Common.{◌≡◌, ap, arith}
use Rattle.plain_state.specs.Zone.{PlainZone}
use Rattle.zone_state.specs.Zone.{ZoneKept}
use Rattle.zone_state.proofs.Stepped_follows.{gives_one, stepped_follows, gave}
use Rattle.zone_state.proofs.zone.Zone.step.Goals as goal

pub tell_alarms-requires : goal.tell_alarms-requires
tell_alarms-requires c =
    let z : PlainZone = c.args.self.now.plain in
    let trains = ap (λ (p : PlainZone). p.trains) c.take.ensures.next in
    let one = gives_one c.args.line.now z c.args.from c.args.message.now in
    let few = (stepped_follows c.args.line.now z c.args.from c.args.message.now c.requires.fits.distinct c.requires.fits.few).few in
    rw (c.take.ensures.gives, trains) (omega (arith, one, few))

pub returns-clause-gives : goal.returns-clause-gives
returns-clause-gives c =
    let z : PlainZone = c.args.self.now.plain in
    let trains = ap (λ (p : PlainZone). p.trains) c.take.ensures.next in
    let clock = ap (λ (p : PlainZone). p.clock) c.take.ensures.next in
    let id = ap (λ (p : PlainZone). p.id) c.take.ensures.next in
    let before : c.self.inside.clock ≡ z.clock = ap (λ (k : ZoneKept). k.plain.clock) c.self.view_is in
    gave c.args.line.now z c.args.from c.args.message.now c.take.new.outs c.tell_alarms.new.outs c.take.new.self.plain.trains
    c.requires.fits.distinct c.requires.fits.few c.take.ensures.gives trains (rw (clock, id, before) at c.tell_alarms.ensures)

pub returns-clause-fits : goal.returns-clause-fits
returns-clause-fits c =
    let z : PlainZone = c.args.self.now.plain in
    let f = stepped_follows c.args.line.now z c.args.from c.args.message.now c.requires.fits.distinct c.requires.fits.few in
    let trains = ap (λ (p : PlainZone). p.trains) c.take.ensures.next in
    record { fits = c.take.ensures.fits; few = rw trains f.few; distinct = rw trains f.distinct }
