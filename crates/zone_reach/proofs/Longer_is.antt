-- Steps, the first of them, and ways that are lengthened by more of them.
use Rattle.std.proofs.Common.{◌≡◌, ℕ, suc, zero, ◌+◌, ◌<◌, ◌≤◌, ◌^◌, true, false, ◌&&◌, List, [], ◌∷◌, ◌++◌, length, take, drop, Result, Ok, Err, append_assoc, refl, sym, ap, ◌∙◌, arith}
use Rattle.std.specs.Prelude.{⊤}
use Rattle.std.proofs.Math.Seq.{take-append_seam}
use Rattle.std.proofs.lemmas.List.{append-nil, take_all, take-append-drop}
use Rattle.track_points.specs.declared.ids.DirSeg.{DirSeg}
use Rattle.track_points.specs.Points.{Lengths, total, end_place, steps_to, offset_to, visits, no_segment_twice}
use Rattle.definitions.specs.declared.item.Item.{Item}
use Rattle.definitions.specs.Track.{follows, joined, last_step}
use Rattle.definitions.specs.Limit.{asked_way}
use Rattle.way_path.specs.declared.way.WayFault.{WayFault}
use Rattle.way_path.specs.declared.way.WayFault.TheVariants.{NotJoined, Repeated, OutOfRange, Throats, Full}
use Rattle.definitions.specs.Steps.{path_to}
use Rattle.way_path.specs.Ways.{PlacedWay, Extends, EndsWithPath, ended_at}
use Rattle.way_laws.proofs.Chained_front.{once_front}
use Rattle.way_laws.proofs.Cut_cut.{cut_more, offset_more}
use Rattle.way_path.proofs.Rest_is.{once_append}
use Rattle.plain_state.specs.Zone.{longer_way}
use Rattle.zone_reach.specs.Reach.{with_steps}

-- up to a place of the first steps, all steps give the same
pub steps_first : (len : Lengths) (asked : List DirSeg) (n p : ℕ) → p ≤ total len (take n asked) → 0 < n → steps_to len (take n asked) p ≡ steps_to len asked p
steps_first len asked zero p h k = absurd (omega arith)
steps_first len [] (suc n) p h k = refl
steps_first len (st ∷ asked) (suc n) p h k =
    sym (cut_more len (take (suc n) (st ∷ asked)) (drop (suc n) (st ∷ asked)) p (omega arith) h) ∙ ap (λ xs. steps_to len xs p) (take-append-drop (suc n) (st ∷ asked))

pub offset_first : (len : Lengths) (asked : List DirSeg) (n p : ℕ) → p ≤ total len (take n asked) → 0 < n → offset_to len (take n asked) p ≡ offset_to len asked p
offset_first len asked zero p h k = absurd (omega arith)
offset_first len [] (suc n) p h k = refl
offset_first len (st ∷ asked) (suc n) p h k =
    sym (offset_more len (take (suc n) (st ∷ asked)) (drop (suc n) (st ∷ asked)) p (omega arith) h) ∙ ap (λ xs. offset_to len xs p) (take-append-drop (suc n) (st ∷ asked))

-- a way with more steps after its own

pub last_behind : (steps : List DirSeg) (st : DirSeg) → last_step (steps ++ st ∷ []) ≡ st
unfolding last_step
last_behind [] st = refl
last_behind (x ∷ []) st = refl
last_behind (x ∷ y ∷ steps) st = last_behind (y ∷ steps) st

-- with 24 steps, and with no more of them, it stays
pub stays_full : (way : PlacedWay) (more : List DirSeg) → length way.path.steps.items ≡ 24 → way ≡ with_steps way (take 24 (way.path.steps.items ++ more))
stays_full way more h = let e = rw h at (take-append_seam way.path.steps.items more) in rw e refl

pub stays_bare : (way : PlacedWay) (more : List DirSeg) → length way.path.steps.items ≤ 24 → length more < 1 → way ≡ with_steps way (take 24 (way.path.steps.items ++ more))
stays_bare way [] l h = rw (append-nil way.path.steps.items, take_all 24 way.path.steps.items l) refl
stays_bare way (x ∷ more) l h = absurd (omega arith)

-- a step that follows
pub joined_step : (line : List Item) (a st : DirSeg) (more rest : List DirSeg) → more ≡ st ∷ rest → joined line a more ≡ true → (follows line a st ≡ true) × (joined line st rest ≡ true)
unfolding joined
joined_step line a st more rest e h =
    let t : (follows line a st && joined line st rest) ≡ true = rw e at h in (grind arith, grind arith)

pub once_step : (steps more rest : List DirSeg) (st : DirSeg) → more ≡ st ∷ rest → no_segment_twice (steps ++ more) ≡ true
    → (visits steps st.seg.0 ≡ false) × (no_segment_twice ((steps ++ st ∷ []) ++ rest) ≡ true)
once_step steps more rest st e h =
    let t : no_segment_twice (steps ++ st ∷ rest) ≡ true = rw e at h in
    let u : no_segment_twice ((steps ++ st ∷ []) ++ rest) ≡ true = rw (append_assoc steps (st ∷ []) rest) t in
    let f = rw (once_append steps st) at (once_front (steps ++ st ∷ []) rest u) in
    (grind arith, u)

pub one_more : (old mid new : PlacedWay) (st : DirSeg) (more rest : List DirSeg) → more ≡ st ∷ rest → mid ≡ with_steps old (old.path.steps.items ++ st ∷ [])
    → new ≡ with_steps mid (take 24 (mid.path.steps.items ++ rest)) → new ≡ with_steps old (take 24 (old.path.steps.items ++ more))
one_more old mid new st more rest e m n = n ∙ rw (m, e, append_assoc old.path.steps.items (st ∷ []) rest) refl

-- where nothing is against a further step, it is added
pub extends_ok : (line : List Item) (old new : PlacedWay) (st : DirSeg) (r : Result ⊤ WayFault) → Extends line old st r new → length old.path.steps.items < 24
    → follows line (last_step old.path.steps.items) st ≡ true → visits old.path.steps.items st.seg.0 ≡ false
    → (r ≡ Ok tt) × (new ≡ with_steps old (old.path.steps.items ++ st ∷ []))
extends_ok line old new st (Ok tt) x l f v = (refl, x.3)
extends_ok line old new st (Err Full) x l f v = let a = x.0 in absurd (omega arith)
extends_ok line old new st (Err (NotJoined i)) x l f v = let a = x.1 in absurd (grind arith)
extends_ok line old new st (Err (Repeated i)) x l f v = let a = x.2 in absurd (grind arith)
extends_ok line old new st (Err OutOfRange) x l f v = absurd x
extends_ok line old new st (Err Throats) x l f v = absurd x

pub goes_on : (line : List Item) (old mid : PlacedWay) (st : DirSeg) (more rest : List DirSeg) → more ≡ st ∷ rest → mid ≡ with_steps old (old.path.steps.items ++ st ∷ [])
    → old.mark + 24 < 2 ^ 32 → joined line (last_step old.path.steps.items) more ≡ true → no_segment_twice (old.path.steps.items ++ more) ≡ true
    → (mid.mark + 24 < 2 ^ 32) × (joined line (last_step mid.path.steps.items) rest ≡ true) × (no_segment_twice (mid.path.steps.items ++ rest) ≡ true)
goes_on line old mid st more rest e m k j o = rw m (
  k,
  rw (last_behind old.path.steps.items st) ((joined_step line (last_step old.path.steps.items) st more rest e j).1),
  (once_step old.path.steps.items more rest st e o).1,
)

-- a way lengthened by its first 24 steps ends as by all of them
pub longer_is : (len : Lengths) (way new : PlacedWay) (asked : List DirSeg) (d place : ℕ) → place ≡ end_place len way.path + d
    → new ≡ ended_at len (with_steps way (take 24 (asked_way way.path.steps.items asked))) place
    → end_place len way.path + d ≤ total len (take 24 (asked_way way.path.steps.items asked)) → EndsWithPath len new → new ≡ longer_way len asked d way
longer_is len way new asked d place p n w ends =
    let whole = asked_way way.path.steps.items asked in
    let to = end_place len way.path + d in
    let is : new ≡ by_end to = n ∙ rw (p, steps_first len whole 24 to w (omega arith), offset_first len whole 24 to w (omega arith)) refl in
    is ∙ ap by_end (rw is at ends)
  where
    by_end : ℕ → PlacedWay
    by_end end = record {
      mark = way.mark;
      path = path_to len way.path.from (asked_way way.path.steps.items asked) (end_place len way.path + d);
      end = end;
    }
