use Rattle.std.proofs.Common.{◌≡◌, ℕ, ◌∙◌, ◌-◌, List, Some, ap, map, sym, subst}
use Rattle.std.specs.Prelude.{slice_get}
use Rattle.arrayvec.specs.ArrayVec.{ArrayVec}
use Rattle.definitions.specs.Frames.{frame_of}
use Rattle.line_state.specs.Frames.{Linked}
use Rattle.line_state.proofs.Read_there.{bytes_there}
use Rattle.line_state.proofs.link.Link.frame.Goals as goal

pub returns : goal.returns
returns c =
    let there = subst (λ (fs : List (ArrayVec ℕ)). slice_get fs (c.args.number - 1) ≡ Some c.frame_of_ordinal.result.now) c.as_slice-frames.ensures.value c.frame_of_ordinal.ensures in
    subst (λ (l : Linked). slice_get (map frame_of l.messages) (c.args.number - 1) ≡ Some c.as_slice.result.now) c.self.view_is
    (bytes_there c.self.inside.frames.items (c.args.number - 1) _ c.self.invariant there ∙ ap (λ (b : List ℕ). Some b) (sym c.as_slice.ensures.value))
