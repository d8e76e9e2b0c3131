-- The way between two places as its end moves on or back, and where its steps are cut or go on after its end.
use Rattle.std.proofs.Common.{◌≡◌, ℕ, ◌+◌, ◌-◌, ◌<◌, ◌≤◌, true, List, [], ◌∷◌, ◌++◌, length, take, drop, refl, sym, ap, ◌∙◌, arith}
use Rattle.std.proofs.lemmas.Bool.Decides.{nat_tests}
use Rattle.std.proofs.lemmas.List.{take-append-le}
use Rattle.std.specs.Prelude.{nat_le}
use Rattle.list_laws.proofs.By_test.{by_test}
use Rattle.track_points.specs.declared.ids.DirSeg.{DirSeg}
use Rattle.track_points.specs.declared.path.Path.{Path}
use Rattle.track_points.specs.Points.{Lengths, total, end_place, steps_to, offset_to}
use Rattle.definitions.specs.Steps.{path_to}
use Rattle.definitions.specs.Ways.{PlainWay, steps_behind, way_between}
use Rattle.way_laws.proofs.Cut_front.{cut_front, cut_total}
use Rattle.way_laws.proofs.Cut_cut.{cut_more, cut_cut, offset_more}
use Rattle.way_laws.proofs.Between_points.{begin_of, behind_from, behind_mark, behind_append, behind_cut, between_is, between_mark, between_ends}

-- a way that ends farther on: it begins where it did
pub between_longer : (len : Lengths) (steps : List DirSeg) (rear end d : ℕ) → rear < end → end ≤ total len steps
    → way_between len steps rear (end + d) ≡ record {
      mark = (way_between len steps rear end).mark;
      path = path_to len (way_between len steps rear end).path.from (drop (way_between len steps rear end).mark steps) (end_place len (way_between len steps rear end).path + d);
    }
between_longer len steps rear end d order room =
    let b = behind_from len steps rear in
    let f = between_ends len steps rear end order room in
    let e : end + d - begin_of len steps rear ≡ end_place len (way_between len steps rear end).path + d = omega (arith, b, f, order) in
    ap (λ path. way_of path) (between_is len steps rear (end + d) (omega arith))
    ∙ ap (λ p. way_of (path_to len (rear - begin_of len steps rear) (drop (steps_behind len steps rear) steps) p)) e
  where
    way_of : Path → PlainWay
    way_of path = record { mark = steps_behind len steps rear; path = path }

-- further steps after its end change nothing
pub between_append : (len : Lengths) (steps more : List DirSeg) (rear end : ℕ) → rear < end → end ≤ total len steps
    → way_between len (steps ++ more) rear end ≡ way_between len steps rear end
between_append len steps more rear end order room =
    let m = steps_behind len steps rear in
    let mark = between_mark len steps rear end order room in
    let some : 0 < length steps = omega arith in
    ap (λ n. way_of n (steps_to len (steps ++ more) end) (total len (take n (steps ++ more))) (offset_to len (steps ++ more) end)) (behind_append len steps more rear (omega arith))
    ∙ ap (λ xs. way_of m xs (total len (take m (steps ++ more))) (offset_to len (steps ++ more) end)) (cut_more len steps more end some room)
    ∙ ap (λ xs. way_of m (steps_to len steps end) (total len xs) (offset_to len (steps ++ more) end)) (take-append-le m steps more (omega arith))
    ∙ ap (λ off. way_of m (steps_to len steps end) (total len (take m steps)) off) (offset_more len steps more end some room)
  where
    way_of : ℕ → List DirSeg → ℕ → ℕ → PlainWay
    way_of n cut begin off = record { mark = n; path = record { steps = record { items = drop n cut }; from = rear - begin; to = off } }

-- nor does a cut at its end or beyond it
pub between_cut : (len : Lengths) (steps : List DirSeg) (rear end p : ℕ) → rear < end → end ≤ p → p ≤ total len steps → way_between len (steps_to len steps p) rear end ≡ way_between len steps rear end
between_cut len steps rear end p order le room =
    let f = cut_front len steps p in
    let t = cut_total len steps p room in
    sym (between_append len (steps_to len steps p) f.0 rear end order (omega (arith, le, t))) ∙ ap (λ xs. way_between len xs rear end) (sym f.1)

-- where it begins does not change either
pub begin_cut : (len : Lengths) (steps : List DirSeg) (rear p : ℕ) → rear < p → p ≤ total len steps → begin_of len (steps_to len steps p) rear ≡ begin_of len steps rear
begin_cut len steps rear p order room =
    let f = cut_front len steps p in
    let cut = steps_to len steps p in
    let t = cut_total len steps p room in
    let n = behind_append len cut f.0 rear (omega (arith, order, t)) in
    let m = behind_mark len cut rear (omega (arith, order, t)) in
    sym (ap (λ xs. total len (take (steps_behind len xs rear) xs)) f.1
    ∙ ap (λ i. total len (take i (cut ++ f.0))) n
    ∙ ap (total len) (take-append-le (steps_behind len cut rear) cut f.0 (omega (arith, m))))

-- a cut leaves the path to a place before it
offset_cut : (len : Lengths) (steps : List DirSeg) (p q : ℕ) → p ≤ q → offset_to len (steps_to len steps q) p ≡ offset_to len steps p
unfolding steps_to offset_to
offset_cut len [] p q h = refl
offset_cut len (st ∷ steps) p q h =
    by_test (nat_le q (len st.seg.0))
    (λ y. let n : nat_le p (len st.seg.0) ≡ true = grind (arith, nat_tests) in rw (y, n) refl)
    (λ n. by_test (nat_le p (len st.seg.0))
    (λ y. rw (n, y) refl)
    (λ m. rw (n, m) (offset_cut len steps (p - len st.seg.0) (q - len st.seg.0) (omega (arith, h)))))

path_cut : (len : Lengths) (from : ℕ) (steps : List DirSeg) (p q : ℕ) → p ≤ q → path_to len from (steps_to len steps q) p ≡ path_to len from steps p
path_cut len from steps p q h =
    ap (λ (xs : List DirSeg). path_of xs (offset_to len (steps_to len steps q) p)) (cut_cut len steps p q h) ∙ ap (path_of (steps_to len steps p)) (offset_cut len steps p q h)
  where
    path_of : List DirSeg → ℕ → Path
    path_of xs off = record { steps = record { items = xs }; from = from; to = off }

-- the way up to a place of it, counted from its first step on
pub between_nearer : (len : Lengths) (steps : List DirSeg) (rear end p : ℕ) → rear < begin_of len steps rear + p → begin_of len steps rear + p ≤ end
    → record { mark = (way_between len steps rear end).mark; path = path_to len (way_between len steps rear end).path.from (way_between len steps rear end).path.steps.items p }
    ≡ way_between len steps rear (begin_of len steps rear + p)
between_nearer len steps rear end p order near =
    let begin = begin_of len steps rear in
    let onward = drop (steps_behind len steps rear) steps in
    let e : begin + p - begin ≡ p = omega arith in
    ap (λ (xs : List DirSeg). way_of (path_to len (rear - begin) xs p)) (behind_cut len steps rear end (omega (arith, order, near)))
    ∙ ap way_of (path_cut len (rear - begin) onward p (end - begin) (omega (arith, near)))
    ∙ ap (λ (n : ℕ). way_of (path_to len (rear - begin) onward n)) (sym e)
    ∙ ap way_of (sym (between_is len steps rear (begin + p) order))
  where
    way_of : Path → PlainWay
    way_of path = record { mark = steps_behind len steps rear; path = path }
