-- The way between two places of some steps: where it begins and ends, its steps and its points.
use Rattle.std.proofs.Common.{◌≡◌, ℕ, zero, suc, ◌+◌, ◌-◌, ◌<◌, ◌≤◌, false, List, [], ◌∷◌, ◌++◌, length, take, drop, refl, sym, ap, ◌∙◌, arith, nat_lt, nat_le}
use Rattle.std.proofs.lemmas.Bool.Decides.{nat_tests}
use Rattle.std.proofs.lemmas.List.{take-append-drop}
use Rattle.list_laws.proofs.By_test.{by_test}
use Rattle.track_points.specs.declared.ids.DirSeg.{DirSeg}
use Rattle.track_points.specs.declared.path.Path.{Path}
use Rattle.track_points.specs.Points.{Lengths, Layout, Point, total, has_between, end_place, path_has, steps_to, offset_to}
use Rattle.definitions.specs.Steps.{path_to}
use Rattle.definitions.specs.Ways.{PlainWay, first_len, steps_behind, way_between, rear_at, front_at}
use Rattle.way_laws.proofs.Cut_front.{cut_end, cut_first, cut_front, cut_points, cut_some, cut_total, total_append}
use Rattle.way_laws.proofs.Cut_cut.{points_after}
use Rattle.way_laws.proofs.Rear_after.{rear_after, rear_more, front_after, front_more}

-- The steps that lie wholly behind a place.

-- where the step on which a rear at the place stands begins
abbrev pub begin_of : Lengths → List DirSeg → ℕ → ℕ
begin_of len steps p = total len (take (steps_behind len steps p) steps)

pub behind_from : (len : Lengths) (steps : List DirSeg) (p : ℕ) → begin_of len steps p ≤ p
unfolding steps_behind total
behind_from len [] p = omega arith
behind_from len (st ∷ steps) p =
    by_test (nat_lt p (len st.seg.0))
    (λ y. rw y (omega arith))
    (λ n. rw n (let i = behind_from len steps (p - len st.seg.0) in grind (arith, nat_tests)))

pub behind_mark : (len : Lengths) (steps : List DirSeg) (p : ℕ) → p < total len steps → steps_behind len steps p < length steps
unfolding steps_behind total
behind_mark len [] p h = absurd (omega arith)
behind_mark len (st ∷ steps) p h =
    by_test (nat_lt p (len st.seg.0))
    (λ y. rw y (omega arith))
    (λ n. rw n (let i = behind_mark len steps (p - len st.seg.0) (grind (arith, nat_tests)) in omega arith))

-- the place lies on the first step that is not behind it
pub behind_first : (len : Lengths) (steps : List DirSeg) (p : ℕ) → p < total len steps
    → p < begin_of len steps p + first_len len (drop (steps_behind len steps p) steps)
unfolding steps_behind total
behind_first len [] p h = absurd (omega arith)
behind_first len (st ∷ steps) p h =
    by_test (nat_lt p (len st.seg.0))
    (λ y. rw y (grind (arith, nat_tests)))
    (λ n. rw n (let i = behind_first len steps (p - len st.seg.0) (grind (arith, nat_tests)) in grind (arith, nat_tests)))

-- that step, and the offset there, are where a rear at the place is written
pub behind_rear : (len : Lengths) (steps : List DirSeg) (p : ℕ) → p < total len steps
    → (rest : List DirSeg) × (drop (steps_behind len steps p) steps ≡ (rear_at len steps p).0 ∷ rest)
unfolding steps_behind total rear_at
behind_rear len [] p h = absurd (omega arith)
behind_rear len (st ∷ steps) p h =
    by_test (nat_lt p (len st.seg.0))
    (λ y. (steps, rw y refl))
    (λ n. let i = behind_rear len steps (p - len st.seg.0) (grind (arith, nat_tests)) in (i.0, rw n i.1))

pub behind_offset : (len : Lengths) (steps : List DirSeg) (p : ℕ) → (rear_at len steps p).1 ≡ p - begin_of len steps p
unfolding steps_behind total rear_at
behind_offset len [] p = omega arith
behind_offset len (st ∷ steps) p =
    by_test (nat_lt p (len st.seg.0))
    (λ y. rw y (omega arith))
    (λ n. rw n (behind_offset len steps (p - len st.seg.0) ∙ omega arith))

-- a place farther on has no fewer behind it
pub behind_more : (len : Lengths) (steps : List DirSeg) (p q : ℕ) → p ≤ q → steps_behind len steps p ≤ steps_behind len steps q
unfolding steps_behind
behind_more len [] p q h = omega arith
behind_more len (st ∷ steps) p q h =
    by_test (nat_lt p (len st.seg.0))
    (λ y. rw y (omega arith))
    (λ n. let m : nat_lt q (len st.seg.0) ≡ false = grind (arith, nat_tests) in
    rw (n, m) (let i = behind_more len steps (p - len st.seg.0) (q - len st.seg.0) (omega arith) in omega arith))

-- those that end at a place or before it lie behind it
pub behind_least : (len : Lengths) (steps : List DirSeg) (m more p : ℕ) → total len (take m steps) ≤ p → length steps ≤ m + more → length steps ≤ steps_behind len steps p + more
unfolding steps_behind total
behind_least len steps zero more p h k = omega arith
behind_least len [] (suc m) more p h k = omega arith
behind_least len (st ∷ steps) (suc m) more p h k =
    let n : nat_lt p (len st.seg.0) ≡ false = grind (arith, nat_tests) in
    rw n (let i = behind_least len steps m more (p - len st.seg.0) (omega arith) (omega arith) in omega (arith, i))

-- further steps beyond the place change nothing
pub behind_append : (len : Lengths) (steps more : List DirSeg) (p : ℕ) → p < total len steps → steps_behind len (steps ++ more) p ≡ steps_behind len steps p
unfolding steps_behind total
behind_append len [] more p h = absurd (omega arith)
behind_append len (st ∷ steps) more p h =
    by_test (nat_lt p (len st.seg.0))
    (λ y. rw y refl)
    (λ n. rw n (ap (λ (k : ℕ). suc k) (behind_append len steps more (p - len st.seg.0) (grind (arith, nat_tests)))))

-- Steps cut at a place farther on.

pub behind_take : (len : Lengths) (steps : List DirSeg) (p end : ℕ) → p < end
    → take (steps_behind len steps p) (steps_to len steps end) ≡ take (steps_behind len steps p) steps
unfolding steps_behind steps_to
behind_take len [] p end h = refl
behind_take len (st ∷ steps) p end h =
    by_test (nat_lt p (len st.seg.0))
    (λ y. rw y refl)
    (λ n. let m : nat_le end (len st.seg.0) ≡ false = grind (arith, nat_tests) in
    rw (n, m) (ap (λ xs. st ∷ xs) (behind_take len steps (p - len st.seg.0) (end - len st.seg.0) (grind (arith, nat_tests)))))

pub behind_cut : (len : Lengths) (steps : List DirSeg) (p end : ℕ) → p < end
    → drop (steps_behind len steps p) (steps_to len steps end) ≡ steps_to len (drop (steps_behind len steps p) steps) (end - begin_of len steps p)
unfolding steps_behind steps_to total
behind_cut len [] p end h = refl
behind_cut len (st ∷ steps) p end h =
    by_test (nat_lt p (len st.seg.0))
    (λ y. let e : end - 0 ≡ end = omega arith in rw (y, e) refl)
    (λ n. let m : nat_le end (len st.seg.0) ≡ false = grind (arith, nat_tests) in
    let e : end - (len st.seg.0 + begin_of len steps (p - len st.seg.0)) ≡ end - len st.seg.0 - begin_of len steps (p - len st.seg.0) = omega arith in
    rw (n, m, e) (behind_cut len steps (p - len st.seg.0) (end - len st.seg.0) (grind (arith, nat_tests))))

pub behind_offset_to : (len : Lengths) (steps : List DirSeg) (p end : ℕ) → p < end
    → offset_to len steps end ≡ offset_to len (drop (steps_behind len steps p) steps) (end - begin_of len steps p)
unfolding steps_behind offset_to total
behind_offset_to len [] p end h = let e : end - 0 ≡ end = omega arith in rw e refl
behind_offset_to len (st ∷ steps) p end h =
    by_test (nat_lt p (len st.seg.0))
    (λ y. let e : end - 0 ≡ end = omega arith in rw (y, e) refl)
    (λ n. let m : nat_le end (len st.seg.0) ≡ false = grind (arith, nat_tests) in
    let e : end - (len st.seg.0 + begin_of len steps (p - len st.seg.0)) ≡ end - len st.seg.0 - begin_of len steps (p - len st.seg.0) = omega arith in
    rw (n, m, e) (behind_offset_to len steps (p - len st.seg.0) (end - len st.seg.0) (grind (arith, nat_tests))))

-- The way between two places.

-- its path is the one of the steps from its first on, up to its end
pub between_is : (len : Lengths) (steps : List DirSeg) (rear end : ℕ) → rear < end
    → (way_between len steps rear end).path ≡ path_to len (rear - begin_of len steps rear) (drop (steps_behind len steps rear) steps) (end - begin_of len steps rear)
between_is len steps rear end h =
    ap (λ xs. path_of_steps xs (offset_to len steps end)) (behind_cut len steps rear end h)
    ∙ ap (λ off. path_of_steps (steps_to len (drop (steps_behind len steps rear) steps) (end - begin_of len steps rear)) off) (behind_offset_to len steps rear end h)
  where
    path_of_steps : List DirSeg → ℕ → Path
    path_of_steps xs off = record { steps = record { items = xs }; from = rear - begin_of len steps rear; to = off }

module _ (len : Lengths) (steps : List DirSeg) (rear end : ℕ) (order : rear < end) (room : end ≤ total len steps) where
  abbrev w : PlainWay
  w = way_between len steps rear end

  -- the steps from its first on, and where it ends on them
  abbrev onward : List DirSeg
  onward = drop (steps_behind len steps rear) steps

  abbrev reach : ℕ
  reach = end - begin_of len steps rear

  pub onward_total : begin_of len steps rear + total len onward ≡ total len steps
  onward_total = sym (total_append len (take (steps_behind len steps rear) steps) onward) ∙ ap (total len) (take-append-drop (steps_behind len steps rear) steps)

  onward_within : reach ≤ total len onward
  onward_within = let t = onward_total in omega arith

  onward_some : 0 < length onward
  onward_some = let r = behind_rear len steps rear (omega arith) in rw (r.1) (omega arith)

  pub between_some : 0 < length (way_between len steps rear end).path.steps.items
  between_some = rw (behind_cut len steps rear end order) (cut_some len onward reach onward_some)

  pub between_mark : (way_between len steps rear end).mark < length steps
  between_mark = behind_mark len steps rear (omega arith)

  pub between_from : total len (take (way_between len steps rear end).mark steps) + (way_between len steps rear end).path.from ≡ rear
  between_from = let b = behind_from len steps rear in omega arith

  -- its first step is that on which a rear at its beginning is written, and its first offset the one there
  pub between_rear : (rest : List DirSeg) × ((way_between len steps rear end).path.steps.items ≡ (rear_at len steps rear).0 ∷ rest)
  between_rear =
      let r = behind_rear len steps rear (omega arith) in
      let c = cut_first len (rear_at len steps rear).0 r.0 reach in
      (c.0, behind_cut len steps rear end order ∙ ap (λ xs. steps_to len xs reach) r.1 ∙ c.1)

  pub between_first : (way_between len steps rear end).path.from < first_len len (way_between len steps rear end).path.steps.items
  between_first =
      let r = behind_rear len steps rear (omega arith) in
      let f = behind_first len steps rear (omega arith) in
      let b = behind_from len steps rear in
      let e = between_rear in
      let one : first_len len onward ≡ len (rear_at len steps rear).0.seg.0 = ap (first_len len) r.1 in
      let two : first_len len w.path.steps.items ≡ len (rear_at len steps rear).0.seg.0 = ap (first_len len) e.1 in
      omega arith

  pub between_ends : end_place len (way_between len steps rear end).path ≡ end - begin_of len steps rear
  between_ends = ap (end_place len) (between_is len steps rear end order) ∙ cut_end len onward reach onward_within

  pub between_end : total len (take (way_between len steps rear end).mark steps) + end_place len (way_between len steps rear end).path ≡ end
  between_end = let e = between_ends in let b = behind_from len steps rear in omega arith

  pub between_within : end_place len (way_between len steps rear end).path ≤ total len (way_between len steps rear end).path.steps.items
  between_within = rw (between_ends, behind_cut len steps rear end order) (cut_total len onward reach onward_within)

  pub between_steps : take (way_between len steps rear end).mark steps ++ (way_between len steps rear end).path.steps.items ≡ steps_to len steps end
  between_steps =
      ap (λ xs. xs ++ w.path.steps.items) (sym (behind_take len steps rear end order)) ∙ take-append-drop (steps_behind len steps rear) (steps_to len steps end)

  -- a place of it, counted from its first step on, is written as on all steps
  pub between_rear_at : (p : ℕ) → begin_of len steps rear ≤ p → p < end
      → rear_at len (way_between len steps rear end).path.steps.items (p - total len (take (way_between len steps rear end).mark steps)) ≡ rear_at len steps p
  between_rear_at p h k =
      let before = take (steps_behind len steps rear) steps in
      let f = cut_front len onward reach in
      let t = cut_total len onward reach onward_within in
      let e : total len before + (p - total len before) ≡ p = omega arith in
      ap (λ xs. rear_at len xs (p - total len before)) (behind_cut len steps rear end order)
      ∙ sym (rear_more len (steps_to len onward reach) f.0 (p - total len before) (omega arith))
      ∙ ap (λ xs. rear_at len xs (p - total len before)) (sym f.1)
      ∙ sym (rear_after len before onward (p - total len before))
      ∙ ap (λ xs. rear_at len xs (total len before + (p - total len before))) (take-append-drop (steps_behind len steps rear) steps)
      ∙ ap (λ q. rear_at len steps q) e

  pub between_front_at : (p : ℕ) → begin_of len steps rear < p → p ≤ end
      → front_at len (way_between len steps rear end).path.steps.items (p - total len (take (way_between len steps rear end).mark steps)) ≡ front_at len steps p
  between_front_at p h k =
      let before = take (steps_behind len steps rear) steps in
      let f = cut_front len onward reach in
      let t = cut_total len onward reach onward_within in
      let e : total len before + (p - total len before) ≡ p = omega arith in
      ap (λ xs. front_at len xs (p - total len before)) (behind_cut len steps rear end order)
      ∙ sym (front_more len (steps_to len onward reach) f.0 (p - total len before) (omega arith) (omega arith))
      ∙ ap (λ xs. front_at len xs (p - total len before)) (sym f.1)
      ∙ sym (front_after len before onward (p - total len before) (omega arith))
      ∙ ap (λ xs. front_at len xs (total len before + (p - total len before))) (take-append-drop (steps_behind len steps rear) steps)
      ∙ ap (λ q. front_at len steps q) e

-- It has the points of the steps between the two places.
pub between_points : (layout : Layout) (steps : List DirSeg) (rear end : ℕ) → rear < end → end ≤ total layout.len steps → (point : Point)
    → path_has layout (way_between layout.len steps rear end).path point ≡ has_between layout steps rear end point
between_points layout steps rear end order room point =
    let len = layout.len in
    let before = take (steps_behind len steps rear) steps in
    let from = rear - begin_of len steps rear in
    let ahead = onward len steps rear end order room in
    let to = reach len steps rear end order room in
    let within = onward_within len steps rear end order room in
    let b = behind_from len steps rear in
    let lo : total len before + from ≡ rear = omega arith in
    let hi : total len before + to ≡ end = omega arith in
    ap (λ (q : Path). path_has layout q point) (between_is len steps rear end order)
    ∙ ap (λ hi. has_between layout (steps_to len ahead to) from hi point) (cut_end len ahead to within)
    ∙ cut_points point layout ahead from to within
    ∙ sym (points_after point layout before ahead from to)
    ∙ ap (λ xs. has_between layout xs (total len before + from) (total len before + to) point) (take-append-drop (steps_behind len steps rear) steps)
    ∙ ap (λ p. has_between layout steps p (total len before + to) point) lo
    ∙ ap (λ p. has_between layout steps rear p point) hi
