-- Steps and places on them.
use Rattle.std.proofs.Common.{◌≡◌, ℕ, suc, zero, ◌+◌, ◌-◌, ◌<◌, ◌≤◌, true, false, not, ◌&&◌, ◌||◌, List, [], ◌∷◌, ◌++◌, length, take, drop, get_or, refl, sym, ap, ◌∙◌, arith, nat_eq, nat_lt, nat_le}
use Rattle.std.proofs.Math.Seq.{take-suc}
use Rattle.std.proofs.lemmas.List.{length-take-le, take_all}
use Rattle.std.proofs.lemmas.Bool.Decides.{nat_tests}
use Rattle.list_laws.proofs.By_test.{by_test}
use Rattle.track_points.specs.declared.ids.DirSeg.{DirSeg}
use Rattle.track_points.specs.declared.path.Path.{Path}
use Rattle.track_points.specs.Points.{Lengths, total, place_of_last, end_place, steps_to, visits, no_segment_twice}
use Rattle.definitions.specs.declared.item.Item.{Item}
use Rattle.definitions.specs.Track.{seg_len, zone_of, is_segment, has_segment, follows, joined, last_step}
use Rattle.definitions.specs.Ways.{chained, first_len, path_in_range}
use Rattle.way_laws.proofs.Cut_front.{last_place}
use Rattle.way_path.specs.Ways.{NotJoinedAt, RepeatedAt}

pub undeclared : (line : List Item) (s : ℕ) → has_segment line s ≡ false → seg_len line s ≡ 0
unfolding seg_len
undeclared [] s h = refl
undeclared (i ∷ line) s h =
    by_test (is_segment s i)
    (λ y. absurd (grind (arith, nat_tests)))
    (λ x. rw x (undeclared line s (grind (arith, nat_tests))))

pub in_no_zone : (line : List Item) (s : ℕ) → has_segment line s ≡ false → zone_of line s ≡ 0
unfolding zone_of
in_no_zone [] s h = refl
in_no_zone (i ∷ line) s h =
    by_test (is_segment s i)
    (λ y. absurd (grind (arith, nat_tests)))
    (λ x. rw x (in_no_zone line s (grind (arith, nat_tests))))

-- the place on a lone step
pub last_alone : (len : Lengths) (steps : List DirSeg) (off : ℕ) → length steps ≡ 1 → off ≡ place_of_last len steps off
unfolding place_of_last
last_alone len [] off h = absurd (omega arith)
last_alone len (st ∷ []) off h = refl
last_alone len (st ∷ next ∷ steps) off h = absurd (omega arith)

pub few_steps_to : (len : Lengths) (steps : List DirSeg) (p : ℕ) → length (steps_to len steps p) ≤ length steps
unfolding steps_to
few_steps_to len [] p = omega arith
few_steps_to len (st ∷ steps) p =
    by_test (nat_le p (len st.seg.0))
    (λ y. rw y (omega arith))
    (λ x. rw x (let r = few_steps_to len steps (p - len st.seg.0) in omega arith))

-- one more step is joined
pub joined_append : (line : List Item) (a : DirSeg) (steps : List DirSeg) (st : DirSeg) → joined line a (steps ++ st ∷ []) ≡ (joined line a steps && follows line (last_step (a ∷ steps)) st)
unfolding joined last_step
joined_append line a [] st = grind arith
joined_append line a (x ∷ steps) st = rw (joined_append line x steps st) (grind arith)

pub chained_append : (line : List Item) (steps : List DirSeg) (st : DirSeg) → 0 < length steps → chained line (steps ++ st ∷ []) ≡ (chained line steps && follows line (last_step steps) st)
chained_append line [] st h = absurd (omega arith)
chained_append line (a ∷ steps) st h = joined_append line a steps st

pub last_take : (steps : List DirSeg) (i : ℕ) (d : DirSeg) → i < length steps → last_step (take (suc i) steps) ≡ get_or steps i d
unfolding last_step
last_take [] i d h = absurd (omega arith)
last_take (st ∷ steps) zero d h = refl
last_take (st ∷ []) (suc i) d h = absurd (omega arith)
last_take (st ∷ next ∷ steps) (suc i) d h = last_take (next ∷ steps) i d (omega arith)

-- one more step is on no segment of those before it
pub visits_append : (a : List DirSeg) (st : DirSeg) (s : ℕ) → visits (a ++ st ∷ []) s ≡ (visits a s || nat_eq st.seg.0 s)
unfolding visits
visits_append [] st s = grind arith
visits_append (x ∷ a) st s = rw (visits_append a st s) (grind arith)

pub once_append : (a : List DirSeg) (st : DirSeg) → no_segment_twice (a ++ st ∷ []) ≡ (no_segment_twice a && not (visits a st.seg.0))
unfolding no_segment_twice visits
once_append [] st = refl
once_append (x ∷ a) st = rw (visits_append a st x.seg.0, once_append a st) (grind (arith, nat_tests))

-- the steps before an index, and one more of them
pub chained_first : (line : List Item) (steps : List DirSeg) → chained line (take 1 steps) ≡ true
unfolding joined
chained_first line [] = refl
chained_first line (st ∷ steps) = refl

pub chained_step : (line : List Item) (steps : List DirSeg) (i : ℕ) (d : DirSeg) → 1 ≤ i → i < length steps
    → chained line (take (i + 1) steps) ≡ (chained line (take i steps) && follows line (get_or steps (i - 1) d) (get_or steps i d))
chained_step line steps zero d h k = absurd (omega arith)
chained_step line steps (suc j) d h k =
    let q : suc j + 1 ≡ suc (suc j) = omega arith in
    let r : suc j - 1 ≡ j = omega arith in
    let l = length-take-le (suc j) steps (omega arith) in
    let a = chained_append line (take (suc j) steps) (get_or steps (suc j) d) (omega arith) in
    let e = last_take steps j d (omega arith) in
    rw (q, r, take-suc steps (suc j) d k) (a ∙ rw e refl)

pub not_joined_at : (line : List Item) (steps : List DirSeg) (i : ℕ) (d : DirSeg) → 1 ≤ i → i < length steps → chained line (take i steps) ≡ true
    → follows line (get_or steps (i - 1) d) (get_or steps i d) ≡ false → NotJoinedAt line steps i
not_joined_at line steps i d h k b f = record { there = k; before = b; with_it = rw (chained_step line steps i d h k, b, f) refl }

pub joined_more : (line : List Item) (steps : List DirSeg) (i : ℕ) (d : DirSeg) → 1 ≤ i → i < length steps → chained line (take i steps) ≡ true
    → follows line (get_or steps (i - 1) d) (get_or steps i d) ≡ true → chained line (take (i + 1) steps) ≡ true
joined_more line steps i d h k b f = rw (chained_step line steps i d h k, b, f) refl

pub once_step : (steps : List DirSeg) (i : ℕ) (d : DirSeg) → i < length steps
    → no_segment_twice (take (i + 1) steps) ≡ (no_segment_twice (take i steps) && not (visits (take i steps) (get_or steps i d).seg.0))
once_step steps i d k =
    let q : i + 1 ≡ suc i = omega arith in
    rw (q, take-suc steps i d k) (once_append (take i steps) (get_or steps i d))

pub repeated_at : (steps : List DirSeg) (i : ℕ) (d : DirSeg) → i < length steps → no_segment_twice (take i steps) ≡ true
    → visits (take i steps) (get_or steps i d).seg.0 ≡ true → RepeatedAt steps i
repeated_at steps i d k b v = record { there = k; before = b; with_it = rw (once_step steps i d k, b, v) refl }

pub once_more : (steps : List DirSeg) (i : ℕ) (d : DirSeg) → i < length steps → no_segment_twice (take i steps) ≡ true
    → visits (take i steps) (get_or steps i d).seg.0 ≡ false → no_segment_twice (take (i + 1) steps) ≡ true
once_more steps i d k b v = rw (once_step steps i d k, b, v) refl

pub once_none : no_segment_twice [] ≡ true
unfolding no_segment_twice
once_none = refl

-- the first step, and those after it
pub rest_is : (steps : List DirSeg) (d : DirSeg) → 1 ≤ length steps → steps ≡ get_or steps 0 d ∷ take (length steps - 1) (drop 1 steps)
rest_is [] d h = absurd (omega arith)
rest_is (st ∷ steps) d h = ap (λ xs. st ∷ xs) (sym (take_all (length (st ∷ steps) - 1) steps (omega arith)))

pub in_its_range : (len : Lengths) (path : Path) → 0 < length path.steps.items → path.from ≤ first_len len path.steps.items
    → path.to ≤ len (last_step path.steps.items).seg.0 → path.from < end_place len path → path_in_range len path ≡ true
in_its_range len path a b c d =
    let t1 : nat_lt 0 (length path.steps.items) ≡ true = grind (arith, nat_tests) in
    let t2 : nat_le path.from (first_len len path.steps.items) ≡ true = grind (arith, nat_tests) in
    let t3 : nat_le path.to (len (last_step path.steps.items).seg.0) ≡ true = grind (arith, nat_tests) in
    let t4 : nat_lt path.from (end_place len path) ≡ true = grind (arith, nat_tests) in
    rw (t1, t2, t3, t4) refl

-- a path with its end in its range
pub ends_at : (len : Lengths) (path : Path) (steps : List DirSeg) (n m end : ℕ) (st : DirSeg) → steps ≡ path.steps.items → (length steps ≡ 0 → ⊥)
    → n ≡ first_len len steps → path.from ≤ n → st ≡ last_step steps → m ≡ len st.seg.0 → path.to ≤ m → end ≡ place_of_last len steps path.to → path.from < end
    → (path_in_range len path ≡ true) × (end ≡ end_place len path) × (end ≤ total len path.steps.items)
ends_at len path steps n m end st s some a b c d e f g =
    let lt : 0 < length path.steps.items = let r = rw s at some in omega arith in
    let to : path.to ≤ len (last_step path.steps.items).seg.0 = rw (← s, ← c, ← d) e in
    let p : end ≡ end_place len path = rw s at f in
    (in_its_range len path lt (let x = rw s at a in omega arith) to (omega arith), p, rw p (last_place len path.steps.items path.to lt to))
