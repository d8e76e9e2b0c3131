use Rattle.std.proofs.Common.{◌≡◌, ℕ, ◌∙◌, ◌-◌, List, Some, ap, subst}
use Rattle.std.specs.Prelude.{slice_get}
use Rattle.arrayvec.specs.ArrayVec.{ArrayVec}
use Rattle.definitions.specs.declared.message.Msg.{Msg}
use Rattle.definitions.specs.Frames.{frame_at}
use Rattle.line_state.specs.Frames.{Linked}
use Rattle.line_state.proofs.Read_there.{message_there, read_there, read_once}
use Rattle.line_state.proofs.link.Link.message.Goals as goal

pub unreachable-requires : goal.unreachable-requires
unreachable-requires c =
    let there = subst (λ (fs : List (ArrayVec ℕ)). slice_get fs (c.args.number - 1) ≡ Some c.frame_of_ordinal.result.now) c.as_slice-frames.ensures.value c.frame_of_ordinal.ensures in
    let read = read_there c.self.inside.frames.items (c.args.number - 1) _ c.self.invariant there in
    c.in_default.not-Ok _ (c.decode.ensures.exact ∙ (ap frame_at c.as_slice.ensures.value ∙ read))

pub returns : goal.returns
returns c =
    let there = subst (λ (fs : List (ArrayVec ℕ)). slice_get fs (c.args.number - 1) ≡ Some c.frame_of_ordinal.result.now) c.as_slice-frames.ensures.value c.frame_of_ordinal.ensures in
    let read = c.decode.ensures.exact ∙ (ap frame_at c.as_slice.ensures.value ∙ read_there c.self.inside.frames.items (c.args.number - 1) _ c.self.invariant there) in
    let same = read_once _ _ c.decode.result read c.in-Ok.is in
    subst (λ (l : Linked). slice_get l.messages (c.args.number - 1) ≡ Some c.in-Ok.message) c.self.view_is
    (message_there c.self.inside.frames.items (c.args.number - 1) _ there ∙ ap (λ (m : Msg). Some m) same)
