-- A head moves on along the steps that its journey is led on.
use Rattle.std.proofs.Common.{◌≡◌, ℕ, suc, ◌+◌, ◌-◌, ◌<◌, ◌≤◌, List, [], ◌∷◌, ◌++◌, length, take, Option, Some, true, false, refl, sym, ◌∙◌, ap, arith, append_assoc}
use Rattle.std.proofs.lemmas.Bool.Decides.{nat_tests}
use Rattle.std.proofs.lemmas.List.{length-take-le, length-append}
use Rattle.std.specs.Prelude.{nat_le}
use Rattle.std.specs.List.{list_all}
use Rattle.std.proofs.lemmas.Bool.{and_parts}
use Rattle.list_laws.proofs.By_test.{by_test}
use Rattle.track_points.specs.declared.ids.DirSeg.{DirSeg}
use Rattle.track_points.specs.Points.{Lengths, total, place_of_last, steps_to, offset_to}
use Rattle.definitions.specs.Track.{Line, seg_len, next_step, track_from, track_to, last_step, led}
use Rattle.definitions.specs.Rules.{is_line}
use Rattle.definitions.specs.Ways.{front_at}
use Rattle.definitions.specs.Premises.{on_line}
use Rattle.plain_state.specs.declared.Head.{Head}
use Rattle.plain_state.specs.World.{moved_on}
use Rattle.way_laws.proofs.Cut_front.{cut_first, cut_some, cut_end, total_append, last_behind, last_after, offset_above}
use Rattle.way_laws.proofs.Cut_cut.{cut_again, before_last}
use Rattle.way_laws.proofs.Track_front.{last_on_line, is_long, all_long, long_steps, long_total, track_some}
use Rattle.way_laws.proofs.Journey_cut.{journey_any}

-- where a head is at a place of some steps, the last of which it is on
abbrev pub head_at : Lengths → List DirSeg → ℕ → Option Head
head_at len steps at = Some (record { step = last_step steps; mark = length steps - 1; offset = offset_to len steps at })

-- Steps before, that a cut passes over.
cut_after : (len : Lengths) (before steps : List DirSeg) (q : ℕ) → 0 < q → steps_to len (before ++ steps) (total len before + q) ≡ before ++ steps_to len steps q
unfolding steps_to total
cut_after len [] steps q h = let e : 0 + q ≡ q = omega arith in rw e refl
cut_after len (st ∷ before) steps q h =
    let t : nat_le (len st.seg.0 + total len before + q) (len st.seg.0) ≡ false = grind (arith, nat_tests) in
    let e : len st.seg.0 + total len before + q - len st.seg.0 ≡ total len before + q = omega arith in
    rw (t, e) (ap (λ (xs : List DirSeg). st ∷ xs) (cut_after len before steps q h))

offset_after : (len : Lengths) (before steps : List DirSeg) (q : ℕ) → 0 < q → offset_to len (before ++ steps) (total len before + q) ≡ offset_to len steps q
unfolding offset_to total
offset_after len [] steps q h = let e : 0 + q ≡ q = omega arith in rw e refl
offset_after len (st ∷ before) steps q h =
    let t : nat_le (len st.seg.0 + total len before + q) (len st.seg.0) ≡ false = grind (arith, nat_tests) in
    let e : len st.seg.0 + total len before + q - len st.seg.0 ≡ total len before + q = omega arith in
    rw (t, e) (offset_after len before steps q h)

-- a front at the end of the cut steps is written on the last of them
front_last : (len : Lengths) (steps : List DirSeg) (q : ℕ) → q ≤ total len steps → front_at len (steps_to len steps q) q ≡ (last_step (steps_to len steps q), offset_to len (steps_to len steps q) q)
unfolding front_at steps_to offset_to total last_step
front_last len [] q h = refl
front_last len (st ∷ []) q h = by_test (nat_le q (len st.seg.0))
    (λ y. rw (y, y) refl)
    (λ n. absurd (grind (arith, nat_tests)))
front_last len (st ∷ next ∷ steps) q h = by_test (nat_le q (len st.seg.0))
    (λ y. rw (y, y) refl)
    (λ n.
    let f = cut_first len next steps (q - len st.seg.0) in
    let i = front_last len (next ∷ steps) (q - len st.seg.0) (omega arith) in
    let e = last_behind st next f.0 (steps_to len (next ∷ steps) (q - len st.seg.0)) f.1 in
    rw (n, n) (i ∙ ap (λ (x : DirSeg). (x, offset_to len (steps_to len (next ∷ steps) (q - len st.seg.0)) (q - len st.seg.0))) (sym e)))

some_steps : (xs : List DirSeg) → 0 < length xs → (st : DirSeg) × ((rest : List DirSeg) × (xs ≡ st ∷ rest))
some_steps [] h = absurd (omega arith)
some_steps (st ∷ rest) h = (st, (rest, refl))

-- the steps but the last, and the last
split_last : (xs : List DirSeg) → 0 < length xs → xs ≡ take (length xs - 1) xs ++ last_step xs ∷ []
unfolding last_step
split_last [] h = absurd (omega arith)
split_last (st ∷ []) h = refl
split_last (st ∷ next ∷ xs) h =
    let one : length (next ∷ xs) - 1 ≡ length xs = omega arith in
    let two : length (st ∷ next ∷ xs) - 1 ≡ suc (length xs) = omega arith in
    let i = split_last (next ∷ xs) (omega arith) ∙ ap (λ (n : ℕ). take n (next ∷ xs) ++ last_step (next ∷ xs) ∷ []) one in
    rw two (ap (λ (ys : List DirSeg). st ∷ ys) i)

led_some : (line : Line) (steps : List DirSeg) (p : ℕ) → 0 < length steps → led (seg_len line) line steps p ≡ steps_to (seg_len line) (steps ++ track_from line (next_step line (last_step steps)) (p + 1)) p
led_some line [] p h = absurd (omega arith)
led_some line (st ∷ steps) p h = refl

step_track : (line : Line) (st : DirSeg) (n : ℕ) → st ∷ track_from line (next_step line st) n ≡ track_from line (Some st) (suc n)
unfolding track_from
step_track line st n = refl

-- A head at the end of steps of the line, which lead on as far as it moves.
module _ (line : Line) (valid : is_line line ≡ true) (steps : List DirSeg) (own : list_all (on_line line) steps ≡ true) (at mm : ℕ) (steps_some : 0 < length steps) (some : 0 < at)
    (ends : steps_to (seg_len line) steps at ≡ steps) (room : at ≤ total (seg_len line) steps) (reach : at + mm ≤ total (seg_len line) (led (seg_len line) line steps (at + mm))) where
  abbrev len : Lengths
  len = seg_len line

  abbrev marked : ℕ
  marked = length steps - 1

  abbrev before : List DirSeg
  before = take marked steps

  abbrev st : DirSeg
  st = last_step steps

  abbrev off : ℕ
  off = offset_to len steps at

  abbrev q : ℕ
  q = off + mm

  place_of : total (seg_len line) before + off ≡ at
  place_of = sym (before_last len steps off) ∙ ap (λ (xs : List DirSeg). place_of_last len xs off) (sym ends) ∙ cut_end len steps at room

  before_number : length before ≡ marked
  before_number = length-take-le marked steps (omega arith)

  before_long : marked ≤ total (seg_len line) before
  before_long =
      let n = before_number in
      let s = split_last steps steps_some in
      let l = long_total len before (front_long before (st ∷ []) (ap (all_long len) (sym s) ∙ long_steps line steps valid own)) in
      omega (arith, n, l)
    where
      front_long : (xs ys : List DirSeg) → all_long len (xs ++ ys) ≡ true → all_long len xs ≡ true
      front_long [] ys h = refl
      front_long (x ∷ xs) ys h =
          let k = and_parts (is_long len x) (all_long len (xs ++ ys)) h in
          rw (k.0, front_long xs ys k.1) refl

  st_on : on_line line (last_step steps) ≡ true
  st_on = last_on_line line steps steps_some own

  above : 0 < offset_to (seg_len line) steps at
  above = offset_above len steps at some

  -- led on, it is what lay before the head's step, and the track from it on
  led_is : led (seg_len line) line steps (at + mm) ≡ before ++ track_to line (Some st) q
  led_is =
      let p = at + mm in
      let ahead = track_from line (next_step line st) (p + 1) in
      let place = place_of in
      let k : total len before + q ≡ p = omega (arith, place) in
      let less : q < suc (p + 1) = omega (arith, place) in
      led_some line steps p steps_some
      ∙ ap (λ (xs : List DirSeg). steps_to len (xs ++ ahead) p) (split_last steps steps_some)
      ∙ ap (λ (xs : List DirSeg). steps_to len xs p) (append_assoc before (st ∷ []) ahead)
      ∙ ap (λ (xs : List DirSeg). steps_to len (before ++ xs) p) (step_track line st (p + 1))
      ∙ ap (λ (m : ℕ). steps_to len (before ++ track_from line (Some st) (suc (p + 1))) m) (sym k)
      ∙ cut_after len before (track_from line (Some st) (suc (p + 1))) q (omega (arith, above))
      ∙ ap (λ (xs : List DirSeg). before ++ xs) (sym (journey_any line st valid st_on q (suc (p + 1)) less))

  -- so the head is where it moves to
  pub head_moved : head_at (seg_len line) (led (seg_len line) line steps (at + mm)) (at + mm) ≡ moved_on line mm (head_at (seg_len line) steps at)
  head_moved =
      let new = track_to line (Some st) q in
      let j = led_is in
      let p = place_of in
      let s = some_steps new (cut_some len (track_from line (Some st) (q + 1)) q (track_some line st (q + 1) (omega arith))) in
      let new_some : 0 < length new = let x = ap (λ (xs : List DirSeg). length xs) s.1.1 in omega (arith, x) in
      let k : total len before + q ≡ at + mm = omega (arith, p) in
      let b = before_number in
      let w = ap (total len) j ∙ total_append len before new in
      let again = cut_again len (track_from line (Some st) (q + 1)) q in
      let f : front_at len new q ≡ (last_step new, offset_to len new q) =
      ap (λ (xs : List DirSeg). front_at len xs q) (sym again) ∙ (front_last len new q (omega (arith, reach, w, k)) ∙ ap (λ (xs : List DirSeg). (last_step xs, offset_to len xs q)) again) in
      let one : last_step (led len line steps (at + mm)) ≡ (front_at len new q).0 =
      ap last_step j ∙ (last_after before new new_some ∙ ap (λ (x : DirSeg × ℕ). x.0) (sym f)) in
      let two : length (led len line steps (at + mm)) - 1 ≡ marked + (length new - 1) =
      let u = ap (λ (xs : List DirSeg). length xs) j in let v = length-append before new in omega (arith, u, v, new_some, b) in
      let three : offset_to len (led len line steps (at + mm)) (at + mm) ≡ (front_at len new q).1 =
      ap (λ (xs : List DirSeg). offset_to len xs (at + mm)) j ∙ (ap (λ (m : ℕ). offset_to len (before ++ new) m) (sym k)
      ∙ (offset_after len before new q (omega (arith, above)) ∙ ap (λ (x : DirSeg × ℕ). x.1) (sym f))) in
      rw (one, two, three) refl
