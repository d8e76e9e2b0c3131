-- Fronts of a track cut at a place, and the track up to a place.
use Rattle.std.proofs.Common.{◌≡◌, ℕ, ◌+◌, ◌<◌, ◌≤◌, true, List, length, take, drop, Option, Some, sym, ap, subst, ◌∙◌, arith, nat_le}
use Rattle.std.proofs.lemmas.Bool.Decides.{nat_tests}
use Rattle.std.proofs.lemmas.List.{take-append-drop, length-take-le}
use Rattle.list_laws.proofs.By_test.{by_test}
use Rattle.track_points.specs.declared.ids.DirSeg.{DirSeg}
use Rattle.track_points.specs.Points.{Lengths, total, steps_to}
use Rattle.definitions.specs.Track.{Line, seg_len, track_from, track_to}
use Rattle.definitions.specs.Rules.{is_line}
use Rattle.definitions.specs.Premises.{on_line}
use Rattle.way_laws.proofs.Cut_front.{total_append}
use Rattle.way_laws.proofs.Cut_cut.{cut_more, cut_is_take, cut_enough}
use Rattle.way_laws.proofs.Track_front.{track_some, track_take, track_front, track_long, track_all_long, TrackFront, front_within, front_take}

-- the first of several steps are no longer than all
pub total_take : (len : Lengths) (n : ℕ) (steps : List DirSeg) → total len (take n steps) ≤ total len steps
total_take len n steps =
    let e = ap (total len) (take-append-drop n steps) in
    let t = total_append len (take n steps) (drop n steps) in omega arith

-- Two fronts of a track that both reach a place.
module _ (line : Line) (first : Option DirSeg) (len : Lengths) (a b : List DirSeg) (front_a : TrackFront line first a) (front_b : TrackFront line first b) where
  -- up to there they have the same steps
  pub fronts_cut : (p : ℕ) → 0 < length a → 0 < length b → p ≤ total len a → p ≤ total len b → steps_to len a p ≡ steps_to len b p
  fronts_cut p some_a some_b h k =
      by_test (nat_le (length a) (length b))
      (λ y. let e = front_within line first a b front_a front_b (grind (arith, nat_tests)) in
      sym (cut_more len a (drop (length a) b) p some_a h) ∙ ap (λ xs. steps_to len xs p) (sym e))
      (λ n. let e = front_within line first b a front_b front_a (grind (arith, nat_tests)) in
      ap (λ xs. steps_to len xs p) e ∙ cut_more len b (drop (length b) a) p some_b k)

-- what is cut from a front is one
pub cut_is_front : (line : Line) (first : Option DirSeg) (len : Lengths) (steps : List DirSeg) (p : ℕ) → TrackFront line first steps → TrackFront line first (steps_to len steps p)
cut_is_front line first len steps p f =
    subst (λ xs. TrackFront line first xs) (sym (cut_is_take len steps p)) (front_take line first (length (steps_to len steps p)) steps f)

pub journey_front : (line : Line) (first : Option DirSeg) (p : ℕ) → track_to line first p ≡ track_from line first (length (track_to line first p))
journey_front line first p = cut_is_front line first (seg_len line) (track_from line first (p + 1)) p (track_front line first (p + 1))

-- The journey from a step on that a valid line declares.
module _ (line : Line) (st : DirSeg) (valid : is_line line ≡ true) (on : on_line line st ≡ true) where
  abbrev len : Lengths
  len = seg_len line

  abbrev track : ℕ → List DirSeg
  track n = track_from line (Some st) n

  -- more steps of the track than mm are enough
  pub journey_any : (p n : ℕ) → p < n → track_to line (Some st) p ≡ steps_to (seg_len line) (track_from line (Some st) n) p
  journey_any p n h =
      ap (λ xs. steps_to len xs p) (sym (track_take line (Some st) (p + 1) n (omega arith)))
      ∙ cut_enough len (track n) p (p + 1) (track_all_long line st n valid on) (omega arith)

  -- the track that is looked at reaches as far as any front does
  pub track_reaches : (steps : List DirSeg) (p : ℕ) → TrackFront line (Some st) steps → p ≤ total (seg_len line) steps → p ≤ total (seg_len line) (track_from line (Some st) (p + 1))
  track_reaches steps p f h =
      by_test (nat_le (p + 1) (length steps))
      (λ y.
      let e : take (p + 1) steps ≡ track (p + 1) = ap (take (p + 1)) f ∙ track_take line (Some st) (p + 1) (length steps) (grind (arith, nat_tests)) in
      let l : length (take (p + 1) steps) ≡ p + 1 = length-take-le (p + 1) steps (grind (arith, nat_tests)) in
      let m = ap (λ xs. length xs) e in
      let t = track_long line st (p + 1) valid on in
      omega arith)
      (λ n.
      let e : take (length steps) (track (p + 1)) ≡ steps = track_take line (Some st) (length steps) (p + 1) (grind (arith, nat_tests)) ∙ sym f in
      let t = total_take len (length steps) (track (p + 1)) in
      let m = ap (total len) e in
      omega arith)

  -- the journey is cut from any front that reaches the place
  pub journey_cut : (steps : List DirSeg) (p : ℕ) → TrackFront line (Some st) steps → 0 < length steps → p ≤ total (seg_len line) steps
      → track_to line (Some st) p ≡ steps_to (seg_len line) steps p
  journey_cut steps p f some h =
      fronts_cut line (Some st) len (track (p + 1)) steps (track_front line (Some st) (p + 1)) f p (track_some line st (p + 1) (omega arith)) some (track_reaches steps p f h) h
