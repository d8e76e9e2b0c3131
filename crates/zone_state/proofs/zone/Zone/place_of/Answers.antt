use Rattle.zone_trains.specs.Trains.{IsPlace}
use Rattle.zone_trains.proofs.Found_is.{known_is}
use Rattle.zone_state.proofs.zone.Zone.place_of.Goals as goal

pub place_among-requires : goal.place_among-requires
place_among-requires c = rw c.as_slice.ensures.value c.self.invariant.1.1.ascend

pub returns-clause-place : goal.returns-clause-place
returns-clause-place c = rw (← c.self.view_is) (rw c.as_slice.ensures.value at c.place_among.ensures)

pub returns-clause-known : goal.returns-clause-known
returns-clause-known c =
    let place : IsPlace c.args.train.0 c.self.inside.trains.items c.place_among.result = rw c.as_slice.ensures.value at c.place_among.ensures in
    rw (← c.self.view_is) (known_is c.args.train.0 c.self.inside.trains.items c.place_among.result place)
