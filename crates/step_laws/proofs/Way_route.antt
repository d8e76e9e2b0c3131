-- A way between two places as the path of an authority.
use Rattle.std.proofs.Common.{◌≡◌, ℕ, zero, suc, ◌+◌, ◌-◌, ◌≤◌, ◌<◌, List, [], ◌∷◌, ◌++◌, length, take, drop, Bool, true, false, refl, sym, ◌∙◌, ap, subst, arith, append_assoc}
use Rattle.std.proofs.lemmas.Bool.Decides.{nat_tests}
use Rattle.std.proofs.lemmas.List.{take-append-drop, drop-append-le, drop-drop, length-append, length-drop, length-take}
use Rattle.std.proofs.lemmas.List.Folds.{list_all-append}
use Rattle.std.specs.Prelude.{nat_le, nat_lt}
use Rattle.std.specs.List.{list_all}
use Rattle.std.proofs.lemmas.Bool.{and_parts}
use Rattle.track_points.specs.declared.ids.DirSeg.{DirSeg}
use Rattle.track_points.specs.declared.path.Path.{Path}
use Rattle.track_points.specs.Points.{Lengths, total, end_place, no_segment_twice, steps_to}
use Rattle.definitions.specs.Track.{Line, seg_len, last_step}
use Rattle.definitions.specs.Premises.{on_line}
use Rattle.definitions.specs.Story.{Story}
use Rattle.definitions.specs.World.{is_declared, long_of, Authority, route, authority_end, journey}
use Rattle.definitions.specs.Ways.{PlainWay, steps_behind, way_between, chained, first_len}
use Rattle.journey_laws.proofs.Motion.{place}
use Rattle.way_laws.proofs.Cut_front.{cut_all, offset_above, cut_front, total_append, offset_within}
use Rattle.way_laws.proofs.Chained_front.{once_front, once_rest, chained_front, chained_rest}
use Rattle.way_laws.proofs.Between_points.{begin_of, behind_rear, between_is, between_some, between_mark, between_from, between_first, between_end, between_steps}
use Rattle.journey_laws.proofs.Invariant.{step_begin, path_fits, IsPath}

-- steps that lie wholly behind a place are counted
behind_least : (len : Lengths) (steps : List DirSeg) (m p : ℕ) → total len (take m steps) ≤ p → m ≤ length steps → m ≤ steps_behind len steps p
unfolding total steps_behind
behind_least len steps zero p h l = omega arith
behind_least len [] (suc m) p h l = absurd (omega arith)
behind_least len (st ∷ steps) (suc m) p h l =
    let no : nat_lt p (len st.seg.0) ≡ false = grind (arith, nat_tests) in
    let i = behind_least len steps m (p - len st.seg.0) (omega arith) (omega arith) in
    rw no (omega (arith, i))

pub all_behind : (test : DirSeg → Bool) (n : ℕ) (xs : List DirSeg) → list_all test xs ≡ true → list_all test (drop n xs) ≡ true
all_behind test n xs h =
    (and_parts (list_all test (take n xs)) (list_all test (drop n xs)) (sym (list_all-append test (take n xs) (drop n xs)) ∙ ap (list_all test) (take-append-drop n xs) ∙ h)).1

module _ (line : Line) (steps : List DirSeg) (rear end : ℕ) (order : rear < end) (room : end ≤ total (seg_len line) steps) where
  abbrev len : Lengths
  len = seg_len line

  abbrev w : PlainWay
  w = way_between len steps rear end

  -- its offset on the last step
  way_to : (way_between (seg_len line) steps rear end).path.to ≤ seg_len line (last_step (way_between (seg_len line) steps rear end).path.steps.items).seg.0
  way_to =
      let onward = drop (steps_behind len steps rear) steps in
      let reach = end - begin_of len steps rear in
      let r = behind_rear len steps rear (omega (arith, order, room)) in
      let some : 0 < length onward = rw (r.1) (omega arith) in
      let t = total_append len (take (steps_behind len steps rear) steps) onward in
      let e = ap (total len) (take-append-drop (steps_behind len steps rear) steps) in
      subst (λ (p : Path). p.to ≤ len (last_step p.steps.items).seg.0) (sym (between_is len steps rear end order)) (offset_within len onward reach some (omega (arith, t, e, room)))

  -- the steps of a way are some of those from a step behind its rear on
  way_among : (m : ℕ) → total (seg_len line) (take m steps) ≤ rear → m ≤ length steps
      → (before : List DirSeg) × ((beyond : List DirSeg) × (drop m steps ≡ before ++ ((way_between (seg_len line) steps rear end).path.steps.items ++ beyond)))
  way_among m behind l =
      let cut = steps_to len steps end in
      let front = cut_front len steps end in
      let k = steps_behind len steps rear in
      let le = behind_least len steps m rear behind l in
      let some = between_some len steps rear end order room in
      let dl = length-drop k cut in
      let e : m + (k - m) ≡ k = omega (arith, le) in
      let one : drop m steps ≡ drop m cut ++ front.0 = ap (drop m) front.1 ∙ drop-append-le m cut front.0 (omega (arith, le, some, dl)) in
      let two : drop m cut ≡ take (k - m) (drop m cut) ++ drop k cut =
      sym (take-append-drop (k - m) (drop m cut)) ∙ ap (λ (xs : List DirSeg). take (k - m) (drop m cut) ++ xs) (drop-drop (k - m) m cut ∙ ap (λ (i : ℕ). drop i cut) e) in
      (take (k - m) (drop m cut), (front.0, one ∙ ap (λ (xs : List DirSeg). xs ++ front.0) two ∙ append_assoc (take (k - m) (drop m cut)) (drop k cut) front.0))

  -- the way fits where the steps from there on do
  pub fits_between : (m : ℕ) → total (seg_len line) (take m steps) ≤ rear → m ≤ length steps → chained line (drop m steps) ≡ true → no_segment_twice (drop m steps) ≡ true → length (drop m steps) ≤ 24
      → path_fits line (way_between (seg_len line) steps rear end).path ≡ true
  fits_between m behind l chain once few =
      let a = way_among m behind l in
      let before = a.0 in
      let beyond = a.1.0 in
      let own = w.path.steps.items in
      let n1 = length-append before (own ++ beyond) in
      let n2 = length-append own beyond in
      let n3 = ap (λ (xs : List DirSeg). length xs) a.1.1 in
      let c : chained line own ≡ true = chained_front line own beyond (chained_rest line before (own ++ beyond) (sym (ap (chained line) a.1.1) ∙ chain)) in
      let o : no_segment_twice own ≡ true = once_front own beyond (once_rest before (own ++ beyond) (sym (ap no_segment_twice a.1.1) ∙ once)) in
      let s = between_some len steps rear end order room in
      let f = between_first len steps rear end order room in
      let to = way_to in
      let b = between_end len steps rear end order room in
      let r = between_from len steps rear end order room in
      let some : nat_lt 0 (length own) ≡ true = grind (arith, nat_tests) in
      let from : nat_le w.path.from (first_len len own) ≡ true = grind (arith, nat_tests) in
      let at : nat_le w.path.to (len (last_step own).seg.0) ≡ true = grind (arith, nat_tests) in
      let less : w.path.from < end_place len w.path = omega (arith, b, r, order) in
      let ahead : nat_lt w.path.from (end_place len w.path) ≡ true = grind (arith, nat_tests) in
      let most : nat_le (length own) 24 ≡ true = let q : length own ≤ 24 = omega (arith, n1, n2, n3, few) in grind (arith, nat_tests) in
      rw (c, o, some, from, at, ahead, most) refl

  -- an authority over a way, where the journey has the steps before it
  module _ (t : ℕ) (s : Story) (begins : take (steps_behind (seg_len line) steps rear) (journey line t s) ≡ take (steps_behind (seg_len line) steps rear) steps) where
    abbrev a : Authority
    a = record { mark = w.mark; path = w.path }

    way_mark : (way_between (seg_len line) steps rear end).mark ≤ length (journey line t s)
    way_mark =
        let m = between_mark len steps rear end order room in
        let e = ap (λ (xs : List DirSeg). length xs) begins in
        let l = length-take w.mark steps in
        let j = length-take w.mark (journey line t s) in
        omega (arith, m, e, l, j)

    pub way_begin : step_begin line t s (way_between (seg_len line) steps rear end).mark + (way_between (seg_len line) steps rear end).path.from ≡ rear
    way_begin =
        let e = ap (total len) begins in
        let r = between_from len steps rear end order room in
        omega (arith, e, r)

    pub way_end : authority_end (seg_len line) (journey line t s) (record { mark = (way_between (seg_len line) steps rear end).mark; path = (way_between (seg_len line) steps rear end).path }) ≡ end
    way_end =
        let e = ap (total len) begins in
        let b = between_end len steps rear end order room in
        omega (arith, e, b)

    pub way_route : route (journey line t s) (record { mark = (way_between (seg_len line) steps rear end).mark; path = (way_between (seg_len line) steps rear end).path }) ≡ steps_to (seg_len line) steps end
    way_route = ap (λ (xs : List DirSeg). xs ++ w.path.steps.items) begins ∙ between_steps len steps rear end order room

    pub way_path : is_declared t s ≡ true → path_fits line (way_between (seg_len line) steps rear end).path ≡ true → list_all (on_line line) steps ≡ true → rear + long_of t s ≤ place t s
        → IsPath line t s (record { mark = (way_between (seg_len line) steps rear end).mark; path = (way_between (seg_len line) steps rear end).path })
    way_path declared fits own behind =
        let m = way_begin in
        record {
          declared = declared;
          fits = fits;
          above = offset_above len steps end (omega (arith, order));
          own = all_behind (on_line line) w.mark (steps_to len steps end) (cut_all (on_line line) len steps end own);
          behind = omega (arith, m, behind);
          mark = way_mark;
        }
