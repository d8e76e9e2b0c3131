-- A head that goes on along the track.
use Rattle.std.proofs.Common.{◌≡◌, ℕ, zero, suc, ◌+◌, ◌-◌, ◌<◌, ◌≤◌, ◌^◌, true, false, List, [], ◌∷◌, length, refl, sym, ap, subst, ◌∙◌, arith, nat_eq, nat_le, Option, Some, None}
use Rattle.std.proofs.lemmas.Bool.Decides.{nat_tests}
use Rattle.std.specs.Prelude.{is_some}
use Rattle.list_laws.proofs.By_test.{by_test}
use Rattle.track_points.specs.declared.ids.DirSeg.{DirSeg}
use Rattle.track_points.specs.Points.{Lengths, total, steps_to}
use Rattle.definitions.specs.Track.{Line, seg_len, next_step, track_from, track_to}
use Rattle.definitions.specs.Rules.{is_line}
use Rattle.definitions.specs.Premises.{on_line}
use Rattle.definitions.specs.Ways.{front_at}
use Rattle.plain_state.specs.declared.Head.{Head}
use Rattle.way_laws.proofs.Line_builds.{follower_on_line, long_on_line}
use Rattle.way_laws.proofs.Track_front.{next_follows}
use Rattle.way_laws.proofs.Journey_cut.{journey_any}
use Rattle.world_sim.specs.Trains.{Reaches, IsHeadOn, moved_to}

pub next_declared : (line : Line) (st b : DirSeg) → is_line line ≡ true → on_line line st ≡ true → next_step line st ≡ Some b → on_line line b ≡ true
next_declared line st b valid on e = follower_on_line line st b valid (next_follows line st b e)

track_here : (line : Line) (st : DirSeg) (p : ℕ) → p ≤ seg_len line st.seg.0 → track_to line (Some st) p ≡ st ∷ []
unfolding track_from steps_to
track_here line st p h =
    let q : p + 1 ≡ suc p = omega arith in
    let t : nat_le p (seg_len line st.seg.0) ≡ true = grind (arith, nat_tests) in
    rw (q, t) refl

track_on : (line : Line) (st b : DirSeg) (p : ℕ) → is_line line ≡ true → on_line line st ≡ true → next_step line st ≡ Some b → seg_len line st.seg.0 < p
    → 0 < seg_len line st.seg.0 → track_to line (Some st) p ≡ st ∷ track_to line (Some b) (p - seg_len line st.seg.0)
unfolding track_from steps_to
track_on line st b p valid on e h long =
    let q : p + 1 ≡ suc p = omega arith in
    let t : nat_le p (seg_len line st.seg.0) ≡ false = grind (arith, nat_tests) in
    let r = journey_any line b valid (next_declared line st b valid on e) (p - seg_len line st.seg.0) p (omega arith) in
    rw (q, t, e) (ap (λ xs. st ∷ xs) (sym r))

track_not_empty : (line : Line) (st : DirSeg) (p : ℕ) → 0 < length (track_to line (Some st) p)
unfolding track_from steps_to
track_not_empty line st p =
    let q : p + 1 ≡ suc p = omega arith in
    rw q (by_test (nat_le p (seg_len line st.seg.0)) (λ y. rw y (omega arith)) (λ n. rw n (omega arith)))

abbrev head_of : DirSeg × ℕ → ℕ → Head
head_of at mark = record { step = at.0; mark = mark; offset = at.1 }

front_here : (len : Lengths) (st : DirSeg) (p : ℕ) → p ≤ len st.seg.0 → front_at len (st ∷ []) p ≡ (st, p)
unfolding front_at
front_here len st p h = let t : nat_le p (len st.seg.0) ≡ true = grind (arith, nat_tests) in rw t refl

front_on : (len : Lengths) (st : DirSeg) (xs : List DirSeg) (p : ℕ) → len st.seg.0 < p → front_at len (st ∷ xs) p ≡ front_at len xs (p - len st.seg.0)
unfolding front_at
front_on len st xs p h = let t : nat_le p (len st.seg.0) ≡ false = grind (arith, nat_tests) in rw t refl

-- the head stays on the step
pub goes_here : (line : Line) (st : DirSeg) (mark p : ℕ) → p ≤ seg_len line st.seg.0 → record { step = st; mark = mark; offset = p } ≡ moved_to line st mark p
goes_here line st mark p h =
    let m : mark ≡ mark + (length (st ∷ []) - 1) = omega arith in
    let f : (st, p) ≡ front_at (seg_len line) (st ∷ []) p = sym (front_here (seg_len line) st p h) in
    ap (head_of (st, p)) m
    ∙ ap (λ at. head_of at (mark + (length (st ∷ []) - 1))) f
    ∙ ap (λ xs. head_of (front_at (seg_len line) xs p) (mark + (length xs - 1))) (sym (track_here line st p h))

-- the head goes on to the next step
pub goes_on : (line : Line) (st b : DirSeg) (mark p : ℕ) → is_line line ≡ true → on_line line st ≡ true → next_step line st ≡ Some b → seg_len line st.seg.0 < p
    → 0 < seg_len line st.seg.0 → moved_to line b (mark + 1) (p - seg_len line st.seg.0) ≡ moved_to line st mark p
goes_on line st b mark p valid on e h long =
    let rest = track_to line (Some b) (p - seg_len line st.seg.0) in
    let some = track_not_empty line b (p - seg_len line st.seg.0) in
    let m : mark + 1 + (length rest - 1) ≡ mark + (length (st ∷ rest) - 1) = omega arith in
    ap (head_of (front_at (seg_len line) rest (p - seg_len line st.seg.0))) m
    ∙ ap (λ at. head_of at (mark + (length (st ∷ rest) - 1))) (sym (front_on (seg_len line) st rest p h))
    ∙ ap (λ xs. head_of (front_at (seg_len line) xs p) (mark + (length xs - 1))) (sym (track_on line st b p valid on e h long))

total_more : (line : Line) (st : DirSeg) (n : ℕ)
    → total (seg_len line) (track_from line (Some st) (suc n)) ≡ seg_len line st.seg.0 + total (seg_len line) (track_from line (next_step line st) n)
unfolding total track_from
total_more line st n = refl

none_from : (line : Line) (first : Option DirSeg) → total (seg_len line) (track_from line first 0) ≡ 0
unfolding total track_from
none_from line None = refl
none_from line (Some st) = refl

none_behind : (line : Line) (n : ℕ) → total (seg_len line) (track_from line None n) ≡ 0
unfolding total track_from
none_behind line n = refl

-- track that reaches beyond a step goes on after it
reach_by : (line : Line) (st b : DirSeg) (mark p n : ℕ) → p ≤ total (seg_len line) (track_from line (Some st) n) → mark + n < 2 ^ 32 → next_step line st ≡ Some b
    → seg_len line st.seg.0 < p → Reaches line b (mark + 1) (p - seg_len line st.seg.0)
reach_by line st b mark p zero w m e h = let z = none_from line (Some st) in absurd (omega arith)
reach_by line st b mark p (suc n) w m e h =
    let t = total_more line st n ∙ ap (λ f. seg_len line st.seg.0 + total (seg_len line) (track_from line f n)) e in
    record { steps = n; within = omega arith; marks = omega arith }

pub reach_on : (line : Line) (st b : DirSeg) (mark p : ℕ) → Reaches line st mark p → next_step line st ≡ Some b → seg_len line st.seg.0 < p
    → Reaches line b (mark + 1) (p - seg_len line st.seg.0)
reach_on line st b mark p r e h = reach_by line st b mark p r.steps r.within r.marks e h

short_by : (line : Line) (st : DirSeg) (p n : ℕ) → p ≤ total (seg_len line) (track_from line (Some st) n) → next_step line st ≡ None → seg_len line st.seg.0 < p → ⊥
short_by line st p zero w e h = let z = none_from line (Some st) in absurd (omega arith)
short_by line st p (suc n) w e h =
    let t = total_more line st n ∙ ap (λ f. seg_len line st.seg.0 + total (seg_len line) (track_from line f n)) e in
    let z = none_behind line n in
    absurd (omega arith)

pub reach_no_more : (line : Line) (st : DirSeg) (mark p : ℕ) → Reaches line st mark p → next_step line st ≡ None → seg_len line st.seg.0 < p → ⊥
reach_no_more line st mark p r e h = short_by line st p r.steps r.within e h

-- a mark that can be counted on
pub reach_marks : (line : Line) (st : DirSeg) (mark p : ℕ) → Reaches line st mark p → seg_len line st.seg.0 < p → mark + 1 < 2 ^ 32
reach_marks line st mark p r h = by_test (nat_eq r.steps 0)
    (λ y.
    let z : r.steps ≡ 0 = grind (arith, nat_tests) in
    let k = none_from line (Some st) in
    let w : p ≤ total (seg_len line) (track_from line (Some st) 0) = subst (λ n. p ≤ total (seg_len line) (track_from line (Some st) n)) z r.within in
    absurd (omega arith))
    (λ n.
    let m = r.marks in
    grind (arith, nat_tests))

-- the step that follows, or none
by_next : {P : Type 0} (next : Option DirSeg) → (next ≡ None → P) → ((b : DirSeg) → next ≡ Some b → P) → P
by_next None f g = f refl
by_next (Some b) f g = g b refl

-- a head that goes on keeps track before it, as much as there is more
keeps_by : (line : Line) (st : DirSeg) (mark p more n : ℕ) → is_line line ≡ true → on_line line st ≡ true → 0 < p
    → p + more ≤ total (seg_len line) (track_from line (Some st) n) → mark + n < 2 ^ 32 → IsHeadOn line more (moved_to line st mark p)
keeps_by line st mark p more zero valid on h w m = let z = none_from line (Some st) in absurd (omega arith)
keeps_by line st mark p more (suc n) valid on h w m =
    let long = long_on_line line st valid on in
    let t = total_more line st n in
    by_test (nat_le p (seg_len line st.seg.0))
    (λ y.
    let here : p ≤ seg_len line st.seg.0 = grind (arith, nat_tests) in
    subst (IsHeadOn line more) (goes_here line st mark p here)
    (record { declared = on; above = h; on = here; track = record { steps = suc n; within = w; marks = m } }))
    (λ x.
    let far : seg_len line st.seg.0 < p = grind (arith, nat_tests) in
    by_next (next_step line st)
    (λ e.
    let f = ap (λ f. total (seg_len line) (track_from line f n)) e in
    let z = none_behind line n in
    absurd (omega arith))
    (λ b e.
    let f = ap (λ f. total (seg_len line) (track_from line f n)) e in
    subst (IsHeadOn line more) (goes_on line st b mark p valid on e far (omega arith))
    (keeps_by line b (mark + 1) (p - seg_len line st.seg.0) more n valid (next_declared line st b valid on e) (omega arith) (omega arith) (omega arith))))

pub keeps : (line : Line) (st : DirSeg) (mark p more : ℕ) → is_line line ≡ true → on_line line st ≡ true → 0 < p → Reaches line st mark (p + more)
    → IsHeadOn line more (moved_to line st mark p)
keeps line st mark p more valid on h r = keeps_by line st mark p more r.steps valid on h r.within r.marks

-- a place of the track from a step on, which is the same as one from the first step on
pub record Stands (line : Line) (first : DirSeg) (before p : ℕ) (st : DirSeg) (mark q : ℕ) : Type 0 where
  pub declared : on_line line st ≡ true
  pub track : Reaches line st mark q
  pub same : moved_to line st mark q ≡ moved_to line first before p

-- beyond the end of a step the next one follows
pub followed : (line : Line) (first : DirSeg) (before p : ℕ) (st : DirSeg) (mark q : ℕ) → Stands line first before p st mark q → seg_len line st.seg.0 < q → is_some (next_step line st) ≡ true
followed line first before p st mark q s h = by_next (next_step line st)
    (λ e. absurd (reach_no_more line st mark q s.track e h))
    (λ b e. rw e refl)

pub stands_on : (line : Line) (first : DirSeg) (before p : ℕ) (st b : DirSeg) (mark q n : ℕ) → is_line line ≡ true → Stands line first before p st mark q → n ≡ seg_len line st.seg.0 → 1 ≤ n → n < q
    → next_step line st ≡ Some b → Stands line first before p b (mark + 1) (q - n)
stands_on line first before p st b mark q n valid s e long h next = rw e (record {
  declared = next_declared line st b valid s.declared next;
  track = reach_on line st b mark q s.track next (omega arith);
  same = goes_on line st b mark q valid s.declared next (omega arith) (omega arith) ∙ s.same;
})
