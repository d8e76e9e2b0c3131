use Rattle.std.proofs.Common.{refl}
use Rattle.line_state.specs.State.{parts}
use Rattle.line_state.proofs.Parts_moved.{room_for, posts_fit, world_posts}
use Rattle.line_state.proofs.state.State.world_steps.Goals as goal

pub post-requires-clause-room : goal.post-requires-clause-room
post-requires-clause-room c = room_for _ _ c.messages.ensures.few c.requires.room.to_zone

pub post-requires-clause-fits : goal.post-requires-clause-fits
post-requires-clause-fits c = posts_fit _ c.step.new.outs _ c.messages.ensures.value c.step.ensures.gives c.requires.frames

pub returns-clause-gives : goal.returns-clause-gives
returns-clause-gives c = c.step.ensures.gives

pub returns-clause-next : goal.returns-clause-next
returns-clause-next c =
    world_posts (parts c.args.self.now) c.step.new.self _ c.id.result c.messages.result.now c.step.new.outs _ c.post.new.link.messages c.post.ensures c.id.ensures c.messages.ensures.value c.step.ensures.gives c.step.ensures.next

pub returns-clause-tally : goal.returns-clause-tally
returns-clause-tally c = refl
