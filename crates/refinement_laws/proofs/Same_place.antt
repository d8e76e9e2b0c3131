-- Where a step of a journey begins, counted on an authority of the same route.
use Rattle.std.proofs.Common.{◌≡◌, ℕ, ◌+◌, ◌-◌, ◌<◌, ◌≤◌, List, ◌++◌, length, take, drop, sym, ◌∙◌, ap, arith}
use Rattle.std.proofs.lemmas.List.{length-take-le, length-append, take-append-le}
use Rattle.std.proofs.Math.Seq.{take-add, drop-append_seam, take-append_seam}
use Rattle.track_points.specs.declared.ids.DirSeg.{DirSeg}
use Rattle.track_points.specs.Points.{Lengths, total, steps_to}
use Rattle.way_laws.proofs.Cut_front.{cut_front, total_append}

-- the first steps of two fronts of the same steps are the same
same_first : (len : Lengths) (steps xs ys : List DirSeg) (p q n : ℕ) → xs ≡ steps_to len steps p → ys ≡ steps_to len steps q → n ≤ length xs → n ≤ length ys → take n xs ≡ take n ys
same_first len steps xs ys p q n a b h k =
    let f = cut_front len steps p in
    let g = cut_front len steps q in
    sym (take-append-le n xs f.0 h) ∙ ap (λ zs. take n (zs ++ f.0)) a ∙ ap (take n) (sym f.1) ∙ ap (take n) g.1 ∙ sym (ap (λ zs. take n (zs ++ g.0)) b) ∙ take-append-le n ys g.0 k

pub same_place : (len : Lengths) (steps journey items : List DirSeg) (mark p q : ℕ) → journey ≡ steps_to len steps p → take mark journey ++ items ≡ steps_to len steps q → mark ≤ length journey - 1 → length journey - 1 - mark < length items
    → total len (take mark journey) + total len (take (length journey - 1 - mark) items) ≡ total len (take (length journey - 1) journey)
same_place len steps journey items mark p q a b low high =
    let n = length journey - 1 in
    let i = n - mark in
    let before = take mark journey in
    let sum : mark + i ≡ n = omega (arith, low) in
    let m : length before ≡ mark = length-take-le mark journey (omega (arith, low)) in
    let l = length-append before items in
    let front : take mark (before ++ items) ≡ before = ap (λ (k : ℕ). take k (before ++ items)) (sym m) ∙ take-append_seam before items in
    let rest : drop mark (before ++ items) ≡ items = ap (λ (k : ℕ). drop k (before ++ items)) (sym m) ∙ drop-append_seam before items in
    let split : total len (take n (before ++ items)) ≡ total len before + total len (take i items) =
    ap (λ (k : ℕ). total len (take k (before ++ items))) (sym sum) ∙ ap (total len) (take-add mark i (before ++ items)) ∙ total_append len (take mark (before ++ items)) (take i (drop mark (before ++ items)))
    ∙ ap (λ xs. total len xs + total len (take i (drop mark (before ++ items)))) front ∙ ap (λ xs. total len before + total len (take i xs)) rest in
    sym split ∙ ap (total len) (same_first len steps (before ++ items) journey q p n b a (omega (arith, l, m, sum, high)) (omega arith))
