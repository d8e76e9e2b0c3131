-- No point is held for two trains.
use Rattle.std.proofs.Common.{◌≡◌, ℕ, zero, suc, ◌+◌, ◌-◌, ◌<◌, List, [], ◌∷◌, Option, Some, None, Bool, true, false, ◌&&◌, refl, sym, ◌∙◌, ap, subst, arith, not}
use Rattle.std.proofs.lemmas.Bool.{eqb-true, and_parts, or_left, or_right}
use Rattle.std.proofs.Math.Bool.{and-false}
use Rattle.std.specs.Prelude.{nat_eq, nat_lt, is_none}
use Rattle.std.specs.List.{list_any}
use Rattle.list_laws.proofs.By_test.{by_or, by_test}
use Rattle.track_points.specs.declared.ids.DirSeg.{DirSeg}
use Rattle.track_points.specs.declared.ids.Dir.{Dir}
use Rattle.track_points.specs.declared.ids.Dir.TheVariants.{Up, Down}
use Rattle.track_points.specs.declared.path.Path.{Path}
use Rattle.track_points.specs.Points.{Layout, Point, Cell, Token, is_switch, mm_at, some_below, cell_at, is_at, end_place, has_between}
use Rattle.track_points.proofs.Some_found.{some_at}
use Rattle.track_points.proofs.Cell_here.{cell_here}
use Rattle.track_points.proofs.Points_found.{points_found}
use Rattle.definitions.specs.Longest.{counted, is_pending}
use Rattle.definitions.specs.declared.event.Event.{Event}
use Rattle.definitions.specs.declared.message.Msg.{Msg}
use Rattle.definitions.specs.declared.message.Msg.TheVariants as msg
use Rattle.definitions.specs.declared.outcome.Obstacle.TheVariants.{Held}
use Rattle.definitions.specs.Track.{Line, seg_len, layout, owner}
use Rattle.definitions.specs.Ways.{PlainWay}
use Rattle.definitions.specs.Story.{Story}
use Rattle.definitions.specs.Control.{known_trains, controls, knows, knows_most, now_with}
use Rattle.definitions.specs.Fronts.{report_time, silent_by}
use Rattle.definitions.specs.Authority.{way, held, held_else, less_of, least_of, holder_of}
use Rattle.definitions.specs.Limit.{asked_way, continues, Ask, ask_of, on_step, token_passes, cell_passes, passes, stands, reach_on, reach_from, barring, limit}
use Rattle.definitions.specs.Steps.{effects}
use Rattle.definitions.specs.Safe.{IsReach, Granted, reached, portal_added, added_by, added}
use Rattle.way_laws.proofs.Cut_front.{none_between}
use Rattle.way_laws.proofs.Reach_granted.{reach_is}
use Rattle.way_laws.proofs.No_throat.{no_token}
use Rattle.event_laws.proofs.Known_more.{is_among, controls_known}
use Rattle.safe_laws.proofs.Held_points.{held_none}

none_passes : (test : ℕ → Bool) (xs : List ℕ) (u : ℕ) → list_any test xs ≡ false → is_among u xs ≡ true → test u ≡ false
none_passes test [] u h a = absurd cc
none_passes test (x ∷ xs) u h a =
    by_test (test x)
    (λ y. absurd (let z : true ≡ false = rw y at h in cc))
    (λ n. by_test (nat_eq x u)
    (λ y. let e : x ≡ u = eqb-true x u y in rw (← e) n)
    (λ m. none_passes test xs u (rw n at h) (rw m at a)))

least_none : (test : ℕ → Bool) (xs : List ℕ) (u : ℕ) → least_of test xs ≡ None → is_among u xs ≡ true → test u ≡ false
unfolding least_of
least_none test [] u h a = absurd cc
least_none test (x ∷ xs) u h a =
    by_test (test x)
    (λ y. absurd (let z : Some (less_of x (least_of test xs)) ≡ None = rw y at h in cc))
    (λ n. by_test (nat_eq x u)
    (λ y. let e : x ≡ u = eqb-true x u y in rw (← e) n)
    (λ m. least_none test xs u (rw n at h) (rw m at a)))

some_none : (test : ℕ → Bool) (n k : ℕ) → some_below test n ≡ false → k < n → test k ≡ false
some_none test n k h below = by_test (test k) (λ y. absurd (let z = some_at test n k below y in cc)) (λ m. m)

none_is : {A : Type 0} (x : Option A) → is_none x ≡ true → x ≡ None
none_is None h = refl
none_is (Some x) h = absurd cc

cell_same : (s m t n : ℕ) → (nat_eq s t && nat_eq m n) ≡ true → Cell s m ≡ Cell t n
cell_same s m t n h =
    let k = and_parts (nat_eq s t) (nat_eq m n) h in
    ap (λ (x : ℕ). Cell x m) (eqb-true s t k.0) ∙ ap (λ (x : ℕ). Cell t x) (eqb-true m n k.1)

token_at : (test : Point → Bool) (w : ℕ) (throat : Option ℕ) → is_switch w throat ≡ true → test (Token w) ≡ true → token_passes test throat ≡ true
token_at test w None h p = absurd cc
token_at test w (Some v) h p = subst (λ (x : ℕ). test (Token x) ≡ true) (sym (eqb-true v w h)) p

-- where a point at a cell passes, the cell does, or the token of its throat
cell_at_passes : (layout : Layout) (test : Point → Bool) (point : Point) (t n : ℕ) → is_at layout point (Some (Cell t n)) ≡ true → test point ≡ true → cell_passes layout test t n ≡ true
cell_at_passes layout test (Cell s m) t n h p =
    or_right (token_passes test (layout.throat t n)) (test (Cell t n)) (subst (λ (x : Point). test x ≡ true) (sym (cell_same t n s m h)) p)
cell_at_passes layout test (Token w) t n h p =
    or_left (token_passes test (layout.throat t n)) (test (Cell t n)) (token_at test w (layout.throat t n) h p)

on_passes : (test : Point → Bool) (point : Point) (layout : Layout) (steps : List DirSeg) (p : ℕ) → is_at layout point (cell_at layout.len steps p) ≡ true → test point ≡ true → passes layout test (on_step layout.len steps p) ≡ true
unfolding cell_at on_step
on_passes test point layout [] p h k = absurd cc
on_passes test point layout (st ∷ steps) p h k = by_test (nat_lt p (layout.len st.seg.0))
    (λ y. rw y (cell_at_passes layout test point st.seg.0 (mm_at (layout.len st.seg.0) st.dir p) (rw y at h) k))
    (λ n. rw n (on_passes test point layout steps (p - layout.len st.seg.0) (rw n at h) k))

-- A portal segment that nobody holds.

mm_below : (len : ℕ) (d : Dir) (p : ℕ) → p < len → mm_at len d p < len
mm_below len Up p h = h
mm_below len Down p h = omega arith

free_cell : (line : Line) (z u seg mm : ℕ) (s : Story) → holder_of line z s seg ≡ None → mm < seg_len line seg → held line z u s (Cell seg mm) ≡ false
free_cell line z u seg mm s free below = by_test (controls z u s)
    (λ c.
    let none : some_below (λ m. held line z u s (Cell seg m)) (seg_len line seg) ≡ false =
    least_none (λ v. some_below (λ m. held line z v s (Cell seg m)) (seg_len line seg)) (known_trains z s) u free (controls_known z u s c) in
    some_none (λ m. held line z u s (Cell seg m)) (seg_len line seg) mm none below)
    (λ n. held_none line z u s (Cell seg mm) n)

portal_free : (line : Line) (z u : ℕ) (step : DirSeg) (s : Story) (point : Point) → holder_of line z s step.seg.0 ≡ None → has_between (layout line) (step ∷ []) 0 (seg_len line step.seg.0) point ≡ true → held line z u s point ≡ false
portal_free line z u step s (Token w) free h = absurd (let e = sym (no_token line (step ∷ []) 0 (seg_len line step.seg.0) w) ∙ h in cc)
portal_free line z u step s (Cell seg mm) free h =
    let len = seg_len line in
    let r = points_found (Cell seg mm) (layout line) (step ∷ []) 0 (len step.seg.0) h in
    let at_cell : (nat_eq step.seg.0 seg && nat_eq (mm_at (len step.seg.0) step.dir r.place) mm) ≡ true = rw (cell_here len step [] r.place r.below) at r.passing in
    subst (λ (p : Point). held line z u s p ≡ false) (cell_same step.seg.0 (mm_at (len step.seg.0) step.dir r.place) seg mm at_cell)
    (free_cell line z u step.seg.0 (mm_at (len step.seg.0) step.dir r.place) s free (mm_below (len step.seg.0) step.dir r.place r.below))

-- A stretch up to the first obstacle.

and_right : (a b : Bool) → a ≡ true → (a && b) ≡ false → b ≡ false
and_right true b h n = n
and_right false b h n = absurd cc

not_else : (line : Line) (z t u : ℕ) (s : Story) (point : Point) → held_else line z t s point ≡ false → nat_eq u t ≡ false → held line z u s point ≡ false
not_else line z t u s point none other = by_test (controls z u s)
    (λ c.
    let f : (not (nat_eq u t) && held line z u s point) ≡ false = none_passes (λ v. not (nat_eq v t) && held line z v s point) (known_trains z s) u none (controls_known z u s c) in
    rw other at f)
    (λ n. held_none line z u s point n)

stretch_free : (line : Line) (z t u : ℕ) (pending silent : Bool) (path : Path) (asked : List DirSeg) (to : ℕ) (s : Story) (point : Point) → nat_eq (owner line point) z ≡ true → nat_eq u t ≡ false
    → has_between (layout line) (asked_way path.steps.items asked) (end_place (seg_len line) path) (end_place (seg_len line) path + (reach_from line (controls z t s && nat_lt 0 (counted line t s)) pending silent (Some path) asked to (barring line z t s)).distance) point ≡ true
    → held line z u s point ≡ false
stretch_free line z t u pending silent path asked to s point own other h =
    let len = seg_len line in
    let ready = controls z t s && nat_lt 0 (counted line t s) in
    let end = end_place len path in
    by_test (ready && continues line path.steps.items asked)
    (λ y. by_test pending
    (λ b.
    let g : has_between (layout line) (asked_way path.steps.items asked) end (end + 0) point ≡ true = rw (y, b) at h in
    nowhere g)
    (λ b. by_test silent
    (λ q.
    let g : has_between (layout line) (asked_way path.steps.items asked) end (end + 0) point ≡ true = rw (y, b, q) at h in
    nowhere g)
    (λ q.
    let ask : Ask = ask_of len path asked to (barring line z t s) in
    let is : IsReach (layout line) ask (reach_on (layout line) ask) = reach_is (layout line) ask in
    let g : has_between (layout line) (asked_way path.steps.items asked) end (end + (reach_on (layout line) ask).distance) point ≡ true = rw (y, b, q) at h in
    let r = points_found point (layout line) (asked_way path.steps.items asked) end (end + (reach_on (layout line) ask).distance) g in
    let from = r.from in let below = r.below in
    let near : r.place - end < (reach_on (layout line) ask).distance = omega arith in
    let here : end + (r.place - end) ≡ r.place = omega arith in
    let not_held : stands (layout line) ask Held r.place ≡ false = subst (λ (p : ℕ). stands (layout line) ask Held p ≡ false) here (is.none_nearer Held (r.place - end) near) in
    let none : (barring line z t s).held point ≡ false = by_test ((barring line z t s).held point)
    (λ y. absurd (let e = sym (on_passes (barring line z t s).held point (layout line) (asked_way path.steps.items asked) r.place r.passing y) ∙ not_held in cc))
    (λ m. m) in
    not_else line z t u s point (and_right (nat_eq (owner line point) z) (held_else line z t s point) own none) other)))
    (λ n.
    let g : has_between (layout line) (asked_way path.steps.items asked) end (end + 0) point ≡ true = rw n at h in
    nowhere g)
  where
    nowhere : has_between (layout line) (asked_way path.steps.items asked) (end_place (seg_len line) path) (end_place (seg_len line) path + 0) point ≡ true → held line z u s point ≡ false
    nowhere g =
        let len = seg_len line in
        let end = end_place len path in
        let e : end + 0 ≡ end = omega arith in
        let b : has_between (layout line) (asked_way path.steps.items asked) end end point ≡ true = rw e at g in
        absurd (let a = none_between point (layout line) (asked_way path.steps.items asked) end in let c : false ≡ true = sym a ∙ b in cc)

-- What a step adds is held for nobody else.

added_free : (line : Line) (y t u : ℕ) (s : Story) (m : Msg) (point : Point) → nat_eq (owner line point) y ≡ true → nat_eq u t ≡ false → added_by line y t s m point ≡ true → held line y u s point ≡ false
added_free line y t u s (msg.EntryAsk v time long error speed equipped step) point own other h =
    let a = and_parts (nat_eq v.0 t) (portal_added (layout line) (knows y t s) (knows_most y s) long step (holder_of line y s step.seg.0) point) h in
    let b = and_parts (not (knows y t s)) _ a.1 in
    let f = and_parts (not (knows_most y s)) _ b.1 in
    let c = and_parts (not (nat_lt (seg_len line step.seg.0) long)) _ f.1 in
    let d = and_parts (is_none (holder_of line y s step.seg.0)) (has_between (layout line) (step ∷ []) 0 (seg_len line step.seg.0) point) c.1 in
    portal_free line y u step s point (none_is (holder_of line y s step.seg.0) d.0) d.1
added_free line y t u s (msg.Ask v time steps to) point own other h =
    let a = and_parts (nat_eq v.0 t) (reached (layout line) (way line y t s) steps.items (limit line y t s (now_with y s (msg.Ask v time steps to)) steps.items to).distance point) h in
    by_way (way line y t s) refl a.1
  where
    by_way : (w : Option PlainWay) → way line y t s ≡ w
        → reached (layout line) (way line y t s) steps.items (limit line y t s (now_with y s (msg.Ask v time steps to)) steps.items to).distance point ≡ true → held line y u s point ≡ false
    by_way None is g = absurd (let z : false ≡ true = rw is at g in cc)
    by_way (Some w) is g =
        stretch_free line y t u (is_pending line t s) (silent_by line (report_time line y t s) (now_with y s (msg.Ask v time steps to))) w.path steps.items to s point own other (rw is at g)
added_free line y t u s _ point own other h = absurd cc

same_asker : (line : Line) (y z t u : ℕ) (s : Story) (m : Msg) (point : Point) → added_by line y t s m point ≡ true → added_by line z u s m point ≡ true → t ≡ u
same_asker line y z t u s (msg.EntryAsk v time long error speed equipped step) point h k =
    let a = and_parts (nat_eq v.0 t) _ h in
    let b = and_parts (nat_eq v.0 u) _ k in
    sym (eqb-true v.0 t a.0) ∙ eqb-true v.0 u b.0
same_asker line y z t u s (msg.Ask v time steps to) point h k =
    let a = and_parts (nat_eq v.0 t) _ h in
    let b = and_parts (nat_eq v.0 u) _ k in
    sym (eqb-true v.0 t a.0) ∙ eqb-true v.0 u b.0
same_asker line y z t u s _ point h k = absurd cc

-- The owner of a held point is who holds it.
holds_own : (line : Line) (z u : ℕ) (s : Story) (point : Point) → held line z u s point ≡ true → nat_eq (owner line point) z ≡ true
holds_own line z u s point h = (and_parts (nat_eq (owner line point) z) _ h).0

added_apart : (line : Line) (y z t u actor : ℕ) (took : Option (ℕ × Msg)) (s : Story) (point : Point) → (nat_eq (owner line point) y && added line y t s actor took point) ≡ true → held line z u s point ≡ true → t ≡ u
added_apart line y z t u zero took s point h k = absurd (let a = (and_parts (nat_eq (owner line point) y) false h).1 in cc)
added_apart line y z t u (suc a) None s point h k = absurd (let b = (and_parts (nat_eq (owner line point) y) false h).1 in cc)
added_apart line y z t u (suc a) (Some (from, m)) s point h k =
    let b = and_parts (nat_eq (owner line point) y) (nat_eq (suc a) y && added_by line y t s m point) h in
    let c = and_parts (nat_eq (suc a) y) (added_by line y t s m point) b.1 in
    let same : y ≡ z = sym (eqb-true (owner line point) y b.0) ∙ eqb-true (owner line point) z (holds_own line z u s point k) in
    let held_y : held line y u s point ≡ true = subst (λ (n : ℕ). held line n u s point ≡ true) (sym same) k in
    by_test (nat_eq u t)
    (λ e. sym (eqb-true u t e))
    (λ other. absurd (let free = added_free line y t u s m point b.0 other c.1 in cc))

added_both : (line : Line) (y z t u actor : ℕ) (took : Option (ℕ × Msg)) (s : Story) (point : Point) → (nat_eq (owner line point) y && added line y t s actor took point) ≡ true → (nat_eq (owner line point) z && added line z u s actor took point) ≡ true → t ≡ u
added_both line y z t u zero took s point h k = absurd (let a = (and_parts (nat_eq (owner line point) y) false h).1 in cc)
added_both line y z t u (suc a) None s point h k = absurd (let b = (and_parts (nat_eq (owner line point) y) false h).1 in cc)
added_both line y z t u (suc a) (Some (from, m)) s point h k =
    let b = and_parts (nat_eq (suc a) y) (added_by line y t s m point) (and_parts (nat_eq (owner line point) y) _ h).1 in
    let c = and_parts (nat_eq (suc a) z) (added_by line z u s m point) (and_parts (nat_eq (owner line point) z) _ k).1 in
    same_asker line y z t u s m point b.1 c.1

-- no point is held for two trains
abbrev pub Apart : Line → Story → Type 0
Apart line s = (y z t u : ℕ) (point : Point) → held line y t s point ≡ true → held line z u s point ≡ true → t ≡ u

none_at_start : (line : Line) (y t : ℕ) (point : Point) → held line y t [] point ≡ false
unfolding controls
none_at_start line y t point = and-false (nat_eq (owner line point) y)

pub apart_start : (line : Line) → Apart line []
apart_start line y z t u point h i = absurd (let a = none_at_start line y t point in let c : false ≡ true = sym a ∙ h in cc)

pub apart_step : (line : Line) (s : Story) (e : Event) → Granted line s e → Apart line s → Apart line (effects line s e ∷ s)
apart_step line s e g apart y z t u point h i =
    let t_now = g.exact y t point h in
    let u_now = g.exact z u point i in
    let actor = (effects line s e).actor in
    let took = (effects line s e).took in
    by_or (held line y t s point) (nat_eq (owner line point) y && added line y t s actor took point) t_now
    (λ t_old. by_or (held line z u s point) (nat_eq (owner line point) z && added line z u s actor took point) u_now
    (λ u_old. apart y z t u point t_old u_old)
    (λ u_new. sym (added_apart line z y u t actor took s point u_new t_old)))
    (λ t_new. by_or (held line z u s point) (nat_eq (owner line point) z && added line z u s actor took point) u_now
    (λ u_old. added_apart line y z t u actor took s point t_new u_old)
    (λ u_new. added_both line y z t u actor took s point t_new u_new))
