use Rattle.std.proofs.Common.{ℕ, Option, ◌∙◌, ap, subst}
use Rattle.definitions.specs.declared.message.Msg.{Msg}
use Rattle.line_state.specs.State.{Tally, parts, tally, TakenInRange}
use Rattle.line_state.proofs.Parts_moved.{room_for, posts_fit, zone_posts, zone_gives, zone_leads}
use Rattle.line_state.proofs.state.State.zone_takes.Goals as goal

pub step-requires-clause-range : goal.step-requires-clause-range
step-requires-clause-range c = subst (λ (r : Option Msg). TakenInRange r) c.message-message.ensures c.requires.range

pub post-requires-clause-room : goal.post-requires-clause-room
post-requires-clause-room c = room_for _ _ c.messages.ensures.few c.requires.room.to_world

pub post-requires-clause-fits : goal.post-requires-clause-fits
post-requires-clause-fits c =
    posts_fit _ c.step.new.outs _ c.messages.ensures.value
    (c.step.ensures.gives ∙ zone_gives c.args.line.now (parts c.args.self.now) c.args.to c.args.from _ c.message-message.result c.requires.zone c.message-message.ensures) c.requires.frames

pub returns-clause-gives : goal.returns-clause-gives
returns-clause-gives c = c.step.ensures.gives ∙ zone_gives c.args.line.now (parts c.args.self.now) c.args.to c.args.from _ c.message-message.result c.requires.zone c.message-message.ensures

pub returns-clause-next : goal.returns-clause-next
returns-clause-next c =
    zone_posts (parts c.args.self.now) c.step.new.self.plain _ c.messages.result.now c.step.new.outs _ c.post.new.link.messages c.post.ensures c.messages.ensures.value c.step.ensures.gives c.step.ensures.next
    ∙ zone_leads c.args.line.now (parts c.args.self.now) c.args.to c.args.from _ c.message-message.result c.requires.zone c.message-message.ensures

pub returns-clause-tally : goal.returns-clause-tally
returns-clause-tally c = let t : Tally = tally c.args.self.now in ap (λ (n : ℕ). record t { by_zone = n }) c.max-self.ensures
