-- A path on a valid line fits a frame, where it begins before the end of the longest segment.
use Rattle.std.proofs.Common.{◌≡◌, ℕ, ◌≤◌, ◌<◌, List, [], ◌∷◌, length, true, refl, arith}
use Rattle.std.proofs.lemmas.Bool.Decides.{nat_tests}
use Rattle.std.specs.Prelude.{◌==◌}
use Rattle.std.specs.List.{list_all}
use Rattle.list_laws.proofs.By_test.{by_test}
use Rattle.track_points.specs.declared.ids.DirSeg.{DirSeg}
use Rattle.track_points.specs.declared.path.Path.{Path}
use Rattle.track_points.specs.Points.{Lengths, end_place, place_of_last}
use Rattle.definitions.specs.FrameLayouts.{least_end, path}
use Rattle.definitions.specs.Track.{Line, seg_len, last_step}
use Rattle.definitions.specs.Rules.{is_line}
use Rattle.definitions.specs.Premises.{on_line}
use Rattle.way_laws.proofs.Track_front.{last_on_line}
use Rattle.journey_laws.proofs.Invariant.{path_fits}
use Rattle.journey_laws.proofs.One_route.{path_parts}
use Rattle.safe_laws.proofs.Segment_ranges.{segment_ranges}
use Rattle.safe_laws.proofs.Steps_fit.{steps_fit}

-- on a single step the end is the offset
alone : (len : Lengths) (xs : List DirSeg) (to : ℕ) → length xs ≡ 1 → place_of_last len xs to ≡ to
unfolding place_of_last
alone len [] to h = refl
alone len (st ∷ []) to h = refl
alone len (st ∷ next ∷ xs) to h = absurd (omega (arith, h))

ends : (len : Lengths) (p : Path) → 0 < p.to → p.from < end_place len p → least_end p.steps p.from ≤ p.to
ends len p above order = by_test (length p.steps.items == 1)
    (λ y.
    let one : length p.steps.items ≡ 1 = grind (arith, nat_tests) in
    let same = alone len p.steps.items p.to one in
    rw y (omega (arith, order, same)))
    (λ n. rw n (omega (arith, above)))

pub path_in_frame : (line : Line) (p : Path) → is_line line ≡ true → path_fits line p ≡ true → list_all (on_line line) p.steps.items ≡ true → 0 < p.to → p.from ≤ 9999999 → path.fits p
unfolding path
path_in_frame line p l fits own above from =
    let k = path_parts line p fits in
    let to = k.to in
    let some = k.some in
    let last = (segment_ranges line (last_step p.steps.items).seg.0 l (last_on_line line p.steps.items k.some own)).short in
    ((steps_fit line p.steps l own (omega (arith, some)) k.few, ((omega arith, from), (ends (seg_len line) p above k.order, omega (arith, to, last)))), refl)
