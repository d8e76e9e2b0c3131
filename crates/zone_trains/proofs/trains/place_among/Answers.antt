use Rattle.std.proofs.Common.{sym, ap, ◌∙◌, arith}
use Rattle.plain_state.specs.declared.Controlled.{Controlled}
use Rattle.zone_trains.proofs.Found_is.{index_is, goes_in, same_read}
use Rattle.zone_trains.proofs.trains.place_among.Goals as goal
use Rattle.zone_trains.proofs.trains.place_among.Goals.{else-i-trains-via-then-i-trains+else-trains-i, else-i-trains-via-else-i-trains}

pub returns-then-trains-i : goal.returns-then-trains-i
returns-then-trains-i c =
    (sym (index_is c.args.train.0 c.args.trains.now c.count_below-i.result c.index-trains-i.result c.if-i-trains.true c.count_below-i.ensures.below c.if-trains-i.true), c.if-i-trains.true)

pub returns-else-i-trains : goal.returns-else-i-trains
returns-else-i-trains c =
    let place = c.count_below-i in
    elim c.else-i-trains.branch [
      | else-i-trains-via-then-i-trains+else-trains-i w ↦
          goes_in c.args.train.0 c.args.trains.now place.result c.requires place.ensures.within place.ensures.below place.ensures.rest
          (λ l e same. w.if-trains-i.false (ap (λ (x : Controlled). x.id.0) (same_read c.args.trains.now place.result w.index-trains-i.result e l) ∙ same))
      | else-i-trains-via-else-i-trains w ↦
          goes_in c.args.train.0 c.args.trains.now place.result c.requires place.ensures.within place.ensures.below place.ensures.rest
          (λ l e same. let n = w.if-i-trains.false in absurd (omega arith))
    ]
