use Rattle.std.proofs.Common.{ℕ, Option, ◌∙◌, ap, sym}
use Rattle.definitions.specs.declared.message.Msg.{Msg}
use Rattle.plain_state.specs.Plain.{taken_effect}
use Rattle.line_state.specs.State.{Tally, parts, plain, tally, parts_taken}
use Rattle.line_state.proofs.Parts_moved.{room_for, posts_fit, world_posts}
use Rattle.line_state.proofs.state.State.world_takes.Goals as goal

pub post-requires-clause-room : goal.post-requires-clause-room
post-requires-clause-room c = room_for _ _ c.messages.ensures.few c.requires.room.to_zone

pub post-requires-clause-fits : goal.post-requires-clause-fits
post-requires-clause-fits c =
    posts_fit _ c.take.new.outs _ c.messages.ensures.value
    (c.take.ensures.gives ∙ ap (λ (r : Option Msg). taken_effect c.args.line.now (plain c.args.self.now) 0 c.args.from r) (sym c.message-message.ensures)) c.requires.frames

pub returns-clause-gives : goal.returns-clause-gives
returns-clause-gives c = c.take.ensures.gives ∙ ap (λ (r : Option Msg). taken_effect c.args.line.now (plain c.args.self.now) 0 c.args.from r) (sym c.message-message.ensures)

pub returns-clause-next : goal.returns-clause-next
returns-clause-next c =
    world_posts (parts c.args.self.now) c.take.new.self _ c.id.result c.messages.result.now c.take.new.outs _ c.post.new.link.messages c.post.ensures c.id.ensures c.messages.ensures.value c.take.ensures.gives c.take.ensures.next
    ∙ ap (λ (r : Option Msg). parts_taken c.args.line.now (parts c.args.self.now) 0 c.args.from r) (sym c.message-message.ensures)

pub returns-clause-tally : goal.returns-clause-tally
returns-clause-tally c = let t : Tally = tally c.args.self.now in ap (λ (n : ℕ). record t { by_world = n }) c.max-self.ensures
