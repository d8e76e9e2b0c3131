-- The walks over the trains find the first offset of a step that is held, and so the walk over the steps the first place.
use Rattle.std.proofs.Common.{◌≡◌, ℕ, suc, zero, ◌-◌, ◌<◌, ◌≤◌, min, Bool, true, false, ◌&&◌, ◌||◌, List, [], ◌∷◌, refl, sym, arith, nat_eq, nat_lt, nat_le}
use Rattle.std.proofs.lemmas.Bool.Decides.{nat_tests}
use Rattle.list_laws.proofs.By_test.{by_test, same_bool}
use Rattle.track_points.specs.declared.ids.Dir.{Dir}
use Rattle.track_points.specs.declared.ids.Dir.TheVariants.{Up, Down}
use Rattle.track_points.specs.declared.ids.DirSeg.{DirSeg}
use Rattle.track_points.specs.Points.{Lengths, Layout, Point, Cell, mm_at, total, some_below, has_between, path_has, end_place}
use Rattle.track_points.proofs.Some_found.{some_at, some_found}
use Rattle.definitions.specs.Track.{Line, seg_len, layout, zone_of}
use Rattle.definitions.specs.Limit.{on_step, passes}
use Rattle.plain_state.specs.declared.Controlled.{Controlled}
use Rattle.plain_state.specs.Zone.{held_else_plain, barring_plain, train_on}
use Rattle.zone_reach.specs.Held.{cells_on, first_in, near_step, near_steps, near_train, near_trains, near_on, first_held}
use Rattle.zone_reach.proofs.First_place_is.{IsNearest, nearest_same, nearest_none, IsTested, first_place_is, none_behind}
use Rattle.way_path.specs.Ways.{step_has}
use Rattle.way_path.proofs.As_points.{points_none, cells_first}
use Rattle.way_laws.proofs.No_throat.{cell_alone}

-- of two the nearer one
pub nearest_two : (a b : ℕ → Bool) (n from x y : ℕ) → IsNearest a n from x → IsNearest b n from y → IsNearest (λ k. a k || b k) n from (min x y)
nearest_two a b n from x y p q =
    let pw = p.within in let qw = q.within in
    by_test (nat_le x y)
    (λ yes. let e : min x y ≡ x = grind (arith, nat_tests) in let le : x ≤ y = grind (arith, nat_tests) in
    rw e record {
      within = pw;
      after = p.after;
      there = λ h. let t = p.there h in rw t refl;
      before = λ k f h. let c = p.before k f h in let d = q.before k f (omega arith) in rw (c, d) refl;
    })
    (λ no. let e : min x y ≡ y = grind (arith, nat_tests) in let le : y ≤ x = grind (arith, nat_tests) in
    rw e record {
      within = qw;
      after = q.after;
      there = λ h. let t = q.there h in grind arith;
      before = λ k f h. let c = p.before k f (omega arith) in let d = q.before k f h in rw (c, d) refl;
    })

covered : (len : ℕ) (a b : Dir) (lo hi from : ℕ)
    → IsNearest (λ k. nat_lt (mm_at len b k) len && (nat_le lo (mm_at len a (mm_at len b k)) && nat_lt (mm_at len a (mm_at len b k)) hi)) len from (first_in len b (cells_on len a lo hi) from)
covered len Up Up lo hi from = record { within = grind (arith, nat_tests); after = λ h. grind (arith, nat_tests); there = λ h. grind (arith, nat_tests); before = λ k f h. grind (arith, nat_tests) }
covered len Up Down lo hi from = record { within = grind (arith, nat_tests); after = λ h. grind (arith, nat_tests); there = λ h. grind (arith, nat_tests); before = λ k f h. grind (arith, nat_tests) }
covered len Down Up lo hi from = record { within = grind (arith, nat_tests); after = λ h. grind (arith, nat_tests); there = λ h. grind (arith, nat_tests); before = λ k f h. grind (arith, nat_tests) }
covered len Down Down lo hi from = record { within = grind (arith, nat_tests); after = λ h. grind (arith, nat_tests); there = λ h. grind (arith, nat_tests); before = λ k f h. grind (arith, nat_tests) }

-- the cell of an offset of a step
abbrev pub cell_on : Lengths → DirSeg → ℕ → Point
cell_on len st k = Cell st.seg.0 (mm_at (len st.seg.0) st.dir k)

step_is : (len : Lengths) (w : DirSeg) (lo hi : ℕ) (st : DirSeg) (from : ℕ)
    → IsNearest (λ k. step_has (len w.seg.0) w lo hi st.seg.0 (mm_at (len st.seg.0) st.dir k)) (len st.seg.0) from (near_step len w lo hi st from)
step_is len w lo hi st from =
    by_test (nat_eq w.seg.0 st.seg.0)
    (λ y. let e : w.seg.0 ≡ st.seg.0 = grind (arith, nat_tests) in
    let t : nat_eq st.seg.0 st.seg.0 ≡ true = grind (arith, nat_tests) in
    rw (e, t) (covered (len st.seg.0) w.dir st.dir lo hi from))
    (λ n. rw n (nearest_none (λ k. false) (len st.seg.0) from (λ k h. refl)))

steps_are : (layout : Layout) (steps : List DirSeg) (lo hi : ℕ) (st : DirSeg) (from : ℕ)
    → IsNearest (λ k. has_between layout steps lo hi (cell_on layout.len st k)) (layout.len st.seg.0) from (near_steps layout.len steps lo hi st from)
unfolding near_steps
steps_are layout [] lo hi st from = nearest_none _ (layout.len st.seg.0) from (λ k h. points_none (cell_on layout.len st k) layout lo hi)
steps_are layout (w ∷ steps) lo hi st from =
    let len = layout.len in
    nearest_same (λ k. step_has (len w.seg.0) w lo hi st.seg.0 (mm_at (len st.seg.0) st.dir k) || has_between layout steps (lo - len w.seg.0) (hi - len w.seg.0) (cell_on len st k)) _ _ _ _
    (λ k h. cells_first layout w steps lo hi st.seg.0 (mm_at (len st.seg.0) st.dir k))
    (nearest_two _ _ _ _ _ _ (step_is len w lo hi st from) (steps_are layout steps (lo - len w.seg.0) (hi - len w.seg.0) st from))

pub near_train_is : (layout : Layout) (x : Controlled) (st : DirSeg) (from : ℕ)
    → IsNearest (λ k. path_has layout x.way.path (cell_on layout.len st k)) (layout.len st.seg.0) from (near_train layout.len x st from)
near_train_is layout x st from = steps_are layout x.way.path.steps.items x.way.path.from (end_place layout.len x.way.path) st from

near_trains_are : (layout : Layout) (t : ℕ) (trains : List Controlled) (st : DirSeg) (from : ℕ)
    → IsNearest (λ k. held_else_plain layout trains t (cell_on layout.len st k)) (layout.len st.seg.0) from (near_trains layout.len t trains st from)
unfolding near_trains
near_trains_are layout t [] st from = nearest_none _ (layout.len st.seg.0) from (λ k h. refl)
near_trains_are layout t (x ∷ trains) st from =
    by_test (nat_eq x.id.0 t)
    (λ y. rw y (near_trains_are layout t trains st from))
    (λ n. rw n (nearest_two _ _ _ _ _ _ (near_train_is layout x st from) (near_trains_are layout t trains st from)))

-- a point of the zone's own that is held for another train
abbrev pub held_on_zone : Line → ℕ → List Controlled → ℕ → Point → Bool
held_on_zone line z trains t = (barring_plain line z trains [] t).held

pub on_is : (line : Line) (z : ℕ) (trains : List Controlled) (t : ℕ) (st : DirSeg) (from : ℕ)
    → IsNearest (λ k. held_on_zone line z trains t (cell_on (seg_len line) st k)) (seg_len line st.seg.0) from (near_on line z trains t st from)
on_is line z trains t st from =
    by_test (nat_eq (zone_of line st.seg.0) z)
    (λ y. rw y (near_trains_are (layout line) t trains st from))
    (λ n. rw n (nearest_none (λ k. false) (seg_len line st.seg.0) from (λ k h. refl)))

-- the place is held
abbrev pub held_at : Line → ℕ → List Controlled → ℕ → List DirSeg → ℕ → Bool
held_at line z trains t asked p = passes (layout line) (held_on_zone line z trains t) (on_step (seg_len line) asked p)

held_here : (line : Line) (z : ℕ) (trains : List Controlled) (t : ℕ) (st : DirSeg) (asked : List DirSeg) (p : ℕ) → p < seg_len line st.seg.0
    → held_at line z trains t (st ∷ asked) p ≡ held_on_zone line z trains t (cell_on (seg_len line) st p)
unfolding on_step
held_here line z trains t st asked p h =
    let y : nat_lt p (seg_len line st.seg.0) ≡ true = grind (arith, nat_tests) in
    rw y (cell_alone line (held_on_zone line z trains t) st.seg.0 (mm_at (seg_len line st.seg.0) st.dir p))

held_beyond : (line : Line) (z : ℕ) (trains : List Controlled) (t : ℕ) (st : DirSeg) (asked : List DirSeg) (p : ℕ) → seg_len line st.seg.0 ≤ p
    → held_at line z trains t (st ∷ asked) p ≡ held_at line z trains t asked (p - seg_len line st.seg.0)
unfolding on_step
held_beyond line z trains t st asked p h = let n : nat_lt p (seg_len line st.seg.0) ≡ false = grind (arith, nat_tests) in rw n refl

held_on : (line : Line) (z : ℕ) (trains : List Controlled) (t : ℕ) → IsTested (seg_len line) (λ st p. held_on_zone line z trains t (cell_on (seg_len line) st p)) (held_at line z trains t)
unfolding on_step
held_on line z trains t = record { none = λ p. refl; here = λ st asked p h. held_here line z trains t st asked p h; beyond = λ st asked p h. held_beyond line z trains t st asked p h }

-- nothing is held beyond the end of the steps
pub held_behind : (line : Line) (z : ℕ) (trains : List Controlled) (t : ℕ) (asked : List DirSeg) (p : ℕ) → total (seg_len line) asked ≤ p → held_at line z trains t asked p ≡ false
held_behind line z trains t = none_behind (seg_len line) _ _ (held_on line z trains t)

pub first_held_is : (line : Line) (z : ℕ) (trains : List Controlled) (t : ℕ) (asked : List DirSeg) (from : ℕ)
    → IsNearest (held_at line z trains t asked) (total (seg_len line) asked) from (first_held line z trains t asked from)
first_held_is line z trains t = first_place_is (seg_len line) _ _ (held_on line z trains t) (near_on line z trains t) (on_is line z trains t)

-- whether some number passes, by the first one
pub some_nearest : (test : ℕ → Bool) (n q : ℕ) → IsNearest test n 0 q → some_below test n ≡ nat_lt q n
some_nearest test n q i = same_bool _ _
    (λ h. let r = some_found test n h in let b = r.below in let p = r.passes in
    by_test (nat_lt q n) (λ y. y)
    (λ x. let f = i.before r.at (omega arith) (grind (arith, nat_tests)) in absurd (cc)))
    (λ h. let lt : q < n = grind (arith, nat_tests) in some_at test n q lt (i.there lt))

none_below : (n : ℕ) → some_below (λ k. false) n ≡ false
unfolding some_below
none_below zero = refl
none_below (suc n) = none_below n

-- a way has a cell of the zone's own segment where the walk finds one
pub train_on_own : (line : Line) (z s : ℕ) (x : Controlled) → zone_of line s ≡ z
    → nat_lt (near_train (seg_len line) x (record { seg = record { 0 = s }; dir = Up }) 0) (seg_len line s) ≡ train_on line z s x
train_on_own line z s x e =
    let y : nat_eq (zone_of line s) z ≡ true = grind (arith, nat_tests) in
    rw y (sym (some_nearest _ _ _ (near_train_is (layout line) x (record { seg = record { 0 = s }; dir = Up }) 0)))

-- and none of a segment of another zone's
pub train_on_else : (line : Line) (z s : ℕ) (x : Controlled) → (zone_of line s ≡ z → ⊥) → nat_eq (zone_of line s) z ≡ train_on line z s x
train_on_else line z s x e =
    let n : nat_eq (zone_of line s) z ≡ false = grind (arith, nat_tests) in
    rw n (sym (none_below (seg_len line s)))
