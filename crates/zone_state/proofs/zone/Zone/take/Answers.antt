use Rattle.std.proofs.Common.{◌≡◌, true, false, sym, ap, ◌∙◌, max}
use Rattle.plain_state.specs.Zone.{zone_acts_on}
use Rattle.zone_state.specs.Zone.{ZoneKept}
use Rattle.zone_trains.proofs.Narrowed_stands.{can_grow}
use Rattle.zone_state.proofs.After_follows.{fresh_grown}
use Rattle.zone_state.proofs.zone.Zone.take.Goals as goal

pub pass-requires : goal.pass-requires
pass-requires c = can_grow c.args.line.now c.args.self.now.plain.clock c.args.self.now.plain.trains c.requires.fits.trains

pub act-requires-clause-fresh : goal.act-requires-clause-fresh
act-requires-clause-fresh c =
    rw c.pass.ensures.next (fresh_grown (max c.args.self.now.plain.clock c.message_time.result) c.args.self.now.plain.trains ∙ c.acts_on-acted_on.ensures.fresh c.if-acted_on.true)

pub returns-then-acted_on-clause-gives : goal.returns-then-acted_on-clause-gives
returns-then-acted_on-clause-gives c =
    let h : zone_acts_on c.args.line.now c.args.self.now.plain c.args.from c.args.message.now ≡ true = sym c.acts_on-acted_on.ensures.acts_on ∙ c.if-acted_on.true in
    rw h (rw (c.pass.ensures.next, c.message_time.ensures) at c.act.ensures.gives)

pub returns-then-acted_on-clause-next : goal.returns-then-acted_on-clause-next
returns-then-acted_on-clause-next c =
    let h : zone_acts_on c.args.line.now c.args.self.now.plain c.args.from c.args.message.now ≡ true = sym c.acts_on-acted_on.ensures.acts_on ∙ c.if-acted_on.true in
    rw h (rw (c.pass.ensures.next, c.message_time.ensures) at c.act.ensures.next)

pub returns-else-acted_on-clause-gives : goal.returns-else-acted_on-clause-gives
returns-else-acted_on-clause-gives c =
    let h : zone_acts_on c.args.line.now c.args.self.now.plain c.args.from c.args.message.now ≡ false = sym c.acts_on-acted_on.ensures.acts_on ∙ c.if-acted_on.false in
    rw h c.requires.empty

pub returns-else-acted_on-clause-next : goal.returns-else-acted_on-clause-next
returns-else-acted_on-clause-next c =
    let h : zone_acts_on c.args.line.now c.args.self.now.plain c.args.from c.args.message.now ≡ false = sym c.acts_on-acted_on.ensures.acts_on ∙ c.if-acted_on.false in
    rw h (ap (λ (z : ZoneKept). z.plain) (rw c.message_time.ensures at c.pass.ensures.next))
