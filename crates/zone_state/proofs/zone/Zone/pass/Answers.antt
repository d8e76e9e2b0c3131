use Rattle.std.proofs.Common.{refl, sym, ◌∙◌}
use Rattle.plain_state.specs.Zone.{grown_train}
use Rattle.zone_trains.proofs.Narrowed_stands.{all_grown_fit}
use Rattle.zone_state.proofs.Passed_same.{none_passes}
use Rattle.zone_trains.proofs.Found_is.{written}
use Rattle.zone_state.proofs.Holds_set.{holds_mapped}
use Rattle.zone_state.proofs.Kept_put.{kept_grown}
use Rattle.zone_state.proofs.zone.Zone.pass.Goals as goal

pub invariant_of-self : goal.invariant_of-self
invariant_of-self c =
    let e = rw c.as_mut_slice.ensures.value at c.grow_each.ensures in
    let w = written c.self.inside.trains.len c.grow_each.new.trains c.self.inside.trains.items (c.grow_each.auto.trains ∙ c.as_mut_slice.ensures.len) in
    (c.self.invariant.0, (c.self.invariant.1.0, rw (w, e) (kept_grown c.args.time c.self.inside.trains.items c.self.inside.holds.items c.self.inside.fresh c.self.invariant.1.1)))

pub returns-then-self-time-clause-fits : goal.returns-then-self-time-clause-fits
returns-then-self-time-clause-fits c = λ line f.
    let g = rw (sym c.self.view_is) at f in
    let e = rw c.as_mut_slice.ensures.value at c.grow_each.ensures in
    let w = written c.self.inside.trains.len c.grow_each.new.trains c.self.inside.trains.items (c.grow_each.auto.trains ∙ c.as_mut_slice.ensures.len) in
    record {
      trains = rw (w, e) (all_grown_fit line c.self.inside.clock c.args.time c.self.inside.trains.items g.trains);
      holds = rw (w, e) (holds_mapped line c.self.inside.id (grown_train c.args.time) c.self.inside.trains.items c.self.inside.holds.items (λ x. refl) g.holds);
    }

pub returns-else-self-time-clause-next : goal.returns-else-self-time-clause-next
returns-else-self-time-clause-next c = none_passes c.args.time c.args.self.now (rw (← c.self.view_is) c.if-self-time.false) c.requires
