-- A journey that is led on is the track from its first step up to where its head comes.
use Rattle.std.proofs.Common.{◌≡◌, ℕ, zero, suc, ◌+◌, ◌-◌, ◌<◌, ◌≤◌, List, [], ◌∷◌, ◌++◌, length, Option, Some, None, true, refl, sym, ap, ◌∙◌, arith}
use Rattle.std.specs.List.{list_all}
use Rattle.std.proofs.lemmas.Bool.{and_parts}
use Rattle.track_points.specs.declared.ids.DirSeg.{DirSeg}
use Rattle.track_points.specs.Points.{total, steps_to}
use Rattle.definitions.specs.Track.{Line, seg_len, last_step, next_step, track_from, track_to, led}
use Rattle.definitions.specs.Rules.{is_line}
use Rattle.definitions.specs.Premises.{on_line}
use Rattle.definitions.specs.Ways.{chained}
use Rattle.way_laws.proofs.Cut_front.{cut_some}
use Rattle.way_laws.proofs.Track_front.{TrackFront, track_none, track_some, track_joined}
use Rattle.way_laws.proofs.Journey_cut.{cut_is_front, journey_any, journey_front, journey_cut}

last_more : (st : DirSeg) (steps : List DirSeg) → 0 < length steps → last_step (st ∷ steps) ≡ last_step steps
unfolding last_step
last_more st [] some = absurd (omega arith)
last_more st (x ∷ steps) some = refl

-- after the first steps of the track come those that follow the last of them
track_onward : (line : Line) (first : Option DirSeg) (n m : ℕ) → length (track_from line first (suc n)) ≡ suc n
    → track_from line first (suc n) ++ track_from line (next_step line (last_step (track_from line first (suc n)))) m ≡ track_from line first (suc n + m)
unfolding track_from last_step
track_onward line None n m h = absurd (omega (arith, h))
track_onward line (Some st) zero m h =
    let e : suc zero + m ≡ suc m = omega arith in
    ap (λ xs. (st ∷ xs) ++ track_from line (next_step line (last_step (st ∷ xs))) m) (track_none line (next_step line st))
    ∙ one
    ∙ ap (track_from line (Some st)) (sym e)
  where
    one : (st ∷ []) ++ track_from line (next_step line (last_step (st ∷ []))) m ≡ st ∷ track_from line (next_step line st) m
    one = refl
track_onward line (Some st) (suc n) m h =
    let i = track_onward line (next_step line st) n m (omega (arith, h)) in
    let rest = track_from line (next_step line st) (suc n) in
    let l = last_more st rest (omega (arith, h)) in
    let e : suc (suc n) + m ≡ suc (suc n + m) = omega arith in
    ap (λ x. (st ∷ rest) ++ track_from line (next_step line x) m) l ∙ ap (λ xs. st ∷ xs) i ∙ ap (track_from line (Some st)) (sym e)

module _ (line : Line) (st : DirSeg) (valid : is_line line ≡ true) (on : on_line line st ≡ true) where
  front_onward : (steps : List DirSeg) (m : ℕ) → TrackFront line (Some st) steps → 0 < length steps
      → steps ++ track_from line (next_step line (last_step steps)) m ≡ track_from line (Some st) (length steps + m)
  front_onward steps m f some =
      let e : length steps ≡ suc (length steps - 1) = omega arith in
      let g : steps ≡ track_from line (Some st) (suc (length steps - 1)) = f ∙ ap (track_from line (Some st)) e in
      let n = ap (λ (xs : List DirSeg). length xs) g in
      ap (λ xs. xs ++ track_from line (next_step line (last_step xs)) m) g
      ∙ track_onward line (Some st) (length steps - 1) m (omega (arith, n, e))
      ∙ ap (λ k. track_from line (Some st) (k + m)) (sym e)

  -- from any of its first steps on
  pub led_front : (steps : List DirSeg) (p : ℕ) → TrackFront line (Some st) steps → 0 < length steps → led (seg_len line) line steps p ≡ track_to line (Some st) p
  led_front [] p f some = absurd (omega arith)
  led_front (x ∷ steps) p f some =
      ap (λ xs. steps_to (seg_len line) xs p) (front_onward (x ∷ steps) (p + 1) f some)
      ∙ sym (journey_any line st valid on p (length (x ∷ steps) + (p + 1)) (omega arith))

  -- and so is a journey that is led on
  pub led_track : (h p : ℕ) → led (seg_len line) line (track_to line (Some st) h) p ≡ track_to line (Some st) p
  led_track h p =
      led_front (track_to line (Some st) h) p (journey_front line (Some st) h)
      (cut_some (seg_len line) (track_from line (Some st) (h + 1)) h (track_some line st (h + 1) (omega arith)))

  pub led_first : (p : ℕ) → led (seg_len line) line (st ∷ []) p ≡ track_to line (Some st) p
  unfolding track_from
  led_first p = led_front (st ∷ []) p first_front (omega arith)
    where
      first_front : TrackFront line (Some st) (st ∷ [])
      first_front = ap (λ xs. st ∷ xs) (sym (track_none line (next_step line st)))

-- Along a route of joined steps a journey stays the route up to the head.
pub led_on : (line : Line) (kept : List DirSeg) (h p : ℕ) → is_line line ≡ true → 0 < length kept → chained line kept ≡ true → list_all (on_line line) kept ≡ true → p ≤ total (seg_len line) kept
    → led (seg_len line) line (steps_to (seg_len line) kept h) p ≡ steps_to (seg_len line) kept p
led_on line [] h p valid some chain own room = absurd (omega arith)
led_on line (st ∷ rest) h p valid some chain own room =
    let len = seg_len line in
    let on = (and_parts (on_line line st) (list_all (on_line line) rest) own).0 in
    let front : TrackFront line (Some st) (st ∷ rest) = track_joined line st rest valid chain in
    led_front line st valid on (steps_to len (st ∷ rest) h) p (cut_is_front line (Some st) len (st ∷ rest) h front) (cut_some len (st ∷ rest) h some)
    ∙ journey_cut line st valid on (st ∷ rest) p front some room
