use Rattle.std.proofs.Common.{◌∙◌, ◌++◌, ◌∷◌, [], List, ap}
use Rattle.definitions.specs.declared.message.Msg.{Msg}
use Rattle.line_state.proofs.Read_there.{is_frame, more_frames, more_read}
use Rattle.line_state.proofs.link.Link.push.Goals as goal

pub invariant_of-self : goal.invariant_of-self
invariant_of-self c =
    rw c.push_reserved.ensures.items (more_frames _ c.framed-frame.result c.self.invariant (is_frame c.framed-frame.result.items c.args.message.now c.requires.fits c.framed-frame.ensures))

pub returns-clause-messages : goal.returns-clause-messages
returns-clause-messages c =
    rw c.push_reserved.ensures.items
    (more_read c.self.inside.frames.items c.framed-frame.result c.args.message.now c.requires.fits c.framed-frame.ensures
    ∙ ap (λ (ms : List Msg). ms ++ c.args.message.now ∷ []) (ap (λ l. l.messages) c.self.view_is))
