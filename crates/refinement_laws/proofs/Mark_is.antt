-- Marks and places on a way: which of a route's steps are its own, and where they begin.
use Rattle.std.proofs.Common.{◌≡◌, ℕ, zero, suc, ◌+◌, ◌-◌, ◌<◌, ◌≤◌, List, [], ◌∷◌, length, take, drop, true, false, refl, sym, ◌∙◌, ap, arith}
use Rattle.std.proofs.lemmas.Bool.Decides.{nat_tests}
use Rattle.std.proofs.lemmas.Int.{ints}
use Rattle.std.proofs.lemmas.List.{length-take-le, length-append, take-append-le}
use Rattle.std.proofs.Math.Seq.{take-add}
use Rattle.std.proofs.Math.Bool.{and-false}
use Rattle.std.specs.Prelude.{ℤ, pos, ◌+ℤ◌, ◌-ℤ◌, nat_lt, nat_le}
use Rattle.list_laws.proofs.By_test.{by_test}
use Rattle.track_points.specs.declared.ids.DirSeg.{DirSeg}
use Rattle.track_points.specs.Points.{Lengths, total, steps_to}
use Rattle.definitions.specs.Farther.{on_way}
use Rattle.definitions.specs.Ways.{PlainWay, steps_behind, way_between}
use Rattle.plain_state.specs.Zone.{has_mark, reported_place}
use Rattle.way_laws.proofs.Cut_front.{cut_front, cut_total, total_append}
use Rattle.way_laws.proofs.Cut_cut.{cut_is_take}
use Rattle.way_laws.proofs.Between_points.{begin_of, behind_from, behind_append, between_mark, between_steps}

total_more : (len : Lengths) (xs : List DirSeg) (m n : ℕ) → m ≤ n → total len (take m xs) ≤ total len (take n xs)
unfolding total
total_more len [] m n h = let a : total len (take m []) ≡ 0 = none len m in let b : total len (take n []) ≡ 0 = none len n in omega (arith, a, b)
  where
    none : (len : Lengths) (k : ℕ) → total len (take k []) ≡ 0
    none len zero = refl
    none len (suc k) = refl
total_more len (st ∷ xs) zero n h = omega arith
total_more len (st ∷ xs) (suc m) zero h = absurd (omega arith)
total_more len (st ∷ xs) (suc m) (suc n) h = let i = total_more len xs m n (omega arith) in omega arith

-- the step on which a place stands ends behind it
behind_step : (len : Lengths) (xs : List DirSeg) (p : ℕ) → p < total len xs → p < total len (take (suc (steps_behind len xs p)) xs)
unfolding steps_behind total
behind_step len [] p h = absurd (omega arith)
behind_step len (st ∷ xs) p h = by_test (nat_lt p (len st.seg.0))
    (λ y. rw y (grind (arith, nat_tests)))
    (λ n. rw n (let i = behind_step len xs (p - len st.seg.0) (grind (arith, nat_tests)) in grind (arith, nat_tests)))

take_less : (len : Lengths) (st : DirSeg) (xs : List DirSeg) (k : ℕ) → total len (take k (st ∷ xs)) ≤ len st.seg.0 + total len (take (k - 1) xs)
unfolding total
take_less len st xs zero = omega arith
take_less len st xs (suc k) = let e : suc k - 1 ≡ k = omega arith in rw e (omega arith)

-- the last of the steps up to a place begins before it
cut_begins : (len : Lengths) (xs : List DirSeg) (p : ℕ) → 0 < p → total len (take (length (steps_to len xs p) - 1) xs) < p
unfolding steps_to total
cut_begins len [] p h = h
cut_begins len (st ∷ xs) p h = by_test (nat_le p (len st.seg.0))
    (λ y. rw y h)
    (λ n.
    let q : 0 < p - len st.seg.0 = grind (arith, nat_tests) in
    let i = cut_begins len xs (p - len st.seg.0) q in
    let l = take_less len st xs (length (steps_to len xs (p - len st.seg.0))) in
    let e : suc (length (steps_to len xs (p - len st.seg.0))) - 1 ≡ length (steps_to len xs (p - len st.seg.0)) = omega arith in
    rw n (rw e (omega (arith, i, l, q))))

-- the steps behind a place, counted from a later step on
behind_drop : (len : Lengths) (xs : List DirSeg) (m p : ℕ) → total len (take m xs) ≤ p → m ≤ length xs → m + steps_behind len (drop m xs) (p - total len (take m xs)) ≡ steps_behind len xs p
unfolding steps_behind total
behind_drop len xs zero p h k =
    let e : p - 0 ≡ p = omega arith in
    let z : 0 + steps_behind len xs p ≡ steps_behind len xs p = omega arith in
    ap (λ (n : ℕ). 0 + steps_behind len xs n) e ∙ z
behind_drop len [] (suc m) p h k = absurd (omega arith)
behind_drop len (st ∷ xs) (suc m) p h k =
    let t : nat_lt p (len st.seg.0) ≡ false = grind (arith, nat_tests) in
    let e : p - (len st.seg.0 + total len (take m xs)) ≡ p - len st.seg.0 - total len (take m xs) = omega arith in
    let i = behind_drop len xs m (p - len st.seg.0) (omega arith) (omega arith) in
    rw (t, e) (omega (arith, i))

module _ (len : Lengths) (steps : List DirSeg) (rear end : ℕ) (order : rear < end) (room : end ≤ total len steps) where
  abbrev w : PlainWay
  w = way_between len steps rear end

  abbrev cut : List DirSeg
  cut = steps_to len steps end

  pub way_number : (way_between len steps rear end).mark + length (way_between len steps rear end).path.steps.items ≡ length (steps_to len steps end)
  way_number =
      let b = between_mark len steps rear end order room in
      let e = ap (λ (xs : List DirSeg). length xs) (between_steps len steps rear end order room) in
      let a = length-append (take w.mark steps) w.path.steps.items in
      let l = length-take-le w.mark steps (omega (arith, b)) in
      omega (arith, e, a, l)

  pub cut_few : length (steps_to len steps end) ≤ length steps
  cut_few =
      let f = cut_front len steps end in
      let e = ap (λ (xs : List DirSeg). length xs) f.1 in
      let a = length-append cut f.0 in
      omega (arith, e, a)

  -- the first steps of a cut are those of all
  pub cut_place : (m : ℕ) → m ≤ length (steps_to len steps end) → total len (take m (steps_to len steps end)) ≡ total len (take m steps)
  cut_place m h =
      let f = cut_front len steps end in
      ap (total len) (sym (take-append-le m cut f.0 h) ∙ ap (take m) (sym f.1))

  -- its marks are those of its steps
  pub mark_is : (mark : ℕ) → has_mark (way_between len steps rear end) mark ≡ on_way len steps rear end mark
  mark_is mark =
      let n = way_number in
      let few = cut_few in
      let from = behind_from len steps rear in
      let next = behind_step len steps rear (omega (arith, order, room)) in
      let e : mark + 1 ≡ suc mark = omega arith in
      by_test (nat_le w.mark mark)
      (λ y.
      let a = total_more len steps (suc w.mark) (suc mark) (grind (arith, nat_tests)) in
      let past : nat_lt rear (total len (take (mark + 1) steps)) ≡ true = rw e (grind (arith, nat_tests)) in
      by_test (nat_lt (mark - w.mark) (length w.path.steps.items))
      (λ i.
      let inside : nat_lt mark (length steps) ≡ true = grind (arith, nat_tests) in
      let b = total_more len steps mark (length cut - 1) (grind (arith, nat_tests)) in
      let c = cut_begins len steps end (omega (arith, order)) in
      let before : nat_lt (total len (take mark steps)) end ≡ true = grind (arith, nat_tests) in
      rw (y, i, inside, past, before) refl)
      (λ o.
      let b = total_more len steps (length cut) mark (grind (arith, nat_tests)) in
      let c = cut_total len steps end room in
      let d = ap (total len) (cut_is_take len steps end) in
      let beyond : nat_lt (total len (take mark steps)) end ≡ false = grind (arith, nat_tests) in
      rw (y, o, past, beyond) (sym (and-false (nat_lt mark (length steps))))))
      (λ l.
      let a = total_more len steps (suc mark) w.mark (grind (arith, nat_tests)) in
      let behind : nat_lt rear (total len (take (mark + 1) steps)) ≡ false = rw e (grind (arith, nat_tests)) in
      rw (l, behind) (sym (and-false (nat_lt mark (length steps)))))

  -- the place of a step of it
  place_within : (mark : ℕ) → w.mark ≤ mark → mark ≤ length (steps_to len steps end) → total len (take (mark - (way_between len steps rear end).mark) (way_between len steps rear end).path.steps.items) + begin_of len steps rear ≡ total len (take mark steps)
  place_within mark a b =
      let e : mark ≡ w.mark + (mark - w.mark) = omega (arith, a) in
      let p = cut_place mark b in
      let q = cut_place w.mark (omega (arith, a, b)) in
      let s = ap (λ (k : ℕ). total len (take k cut)) e ∙ (ap (total len) (take-add w.mark (mark - w.mark) cut) ∙ total_append len (take w.mark cut) (take (mark - w.mark) (drop w.mark cut))) in
      omega (arith, p, q, s)

  -- the place that a report names, counted from where the way begins
  pub named_is : (mark : ℕ) (offset : ℤ) → has_mark (way_between len steps rear end) mark ≡ true → reported_place len (way_between len steps rear end) mark offset ≡ pos (total len (take mark steps)) +ℤ offset -ℤ pos (begin_of len steps rear)
  named_is mark offset h =
      let n = way_number in
      let p = place_within mark (grind (arith, nat_tests)) (grind (arith, nat_tests)) in
      less _ _ _ offset p
    where
      less : (x b y : ℕ) (o : ℤ) → x + b ≡ y → pos x +ℤ o ≡ pos y +ℤ o -ℤ pos b
      less x b y o e = grind (arith, ints)

  -- a rear farther on: the steps of the way that lie behind it
  pub behind_way : (rear2 : ℕ) → rear ≤ rear2 → rear2 < end
      → (way_between len steps rear end).mark + steps_behind len (way_between len steps rear end).path.steps.items (rear2 - begin_of len steps rear) ≡ steps_behind len steps rear2
  behind_way rear2 h k =
      let f = cut_front len steps end in
      let t = cut_total len steps end room in
      let b = behind_from len steps rear in
      let n = way_number in
      let q = cut_place w.mark (omega (arith, n)) in
      let one = behind_drop len cut w.mark rear2 (omega (arith, q, b, h)) (omega (arith, n)) in
      let two = behind_append len cut f.0 rear2 (omega (arith, k, t)) in
      let three = ap (λ (xs : List DirSeg). steps_behind len xs rear2) f.1 in
      let four = ap (λ (p : ℕ). w.mark + steps_behind len (drop w.mark cut) (rear2 - p)) q in
      sym four ∙ (one ∙ (sym two ∙ sym three))
