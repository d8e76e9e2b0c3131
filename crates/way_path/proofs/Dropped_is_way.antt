-- Ways that change.
use Rattle.std.proofs.Common.{◌≡◌, ℕ, ◌+◌, ◌<◌, ◌≤◌, ◌^◌, true, false, List, [], ◌∷◌, ◌++◌, length, take, drop, length-append, length-drop, refl, sym, ap, ◌∙◌, arith}
use Rattle.std.proofs.lemmas.List.{take-append-drop, length-take-le}
use Rattle.track_points.specs.declared.ids.DirSeg.{DirSeg}
use Rattle.track_points.specs.Points.{Lengths, total, place_of_last, steps_to, visits, no_segment_twice}
use Rattle.definitions.specs.declared.item.Item.{Item}
use Rattle.definitions.specs.Track.{seg_len, follows, last_step}
use Rattle.definitions.specs.Ways.{chained, first_len}
use Rattle.way_laws.proofs.Cut_front.{cut_front, cut_some, cut_total, total_append}
use Rattle.way_laws.proofs.Chained_front.{once_front, once_rest, chained_front, chained_rest, first_stays}
use Rattle.way_path.specs.Ways.{PlacedWay, IsWay, OnLine, Dropped, EndsWithPath}
use Rattle.way_path.proofs.Rest_is.{chained_append, once_append, few_steps_to}

-- one more step
pub grown_is_way : (old new : PlacedWay) (step : DirSeg) → IsWay old → visits old.path.steps.items step.seg.0 ≡ false → old.mark + length old.path.steps.items + 1 < 2 ^ 32
    → new.path.steps.items ≡ old.path.steps.items ++ step ∷ [] → new.mark ≡ old.mark → new.path.from ≡ old.path.from → new.end ≡ old.end → IsWay new
grown_is_way old new step w v n s m f e =
    let l = ap (λ xs. length xs) s ∙ length-append old.path.steps.items (step ∷ []) in
    record {
      some = omega arith;
      once = rw (s, once_append old.path.steps.items step, w.once, v) refl;
      order = let o = w.order in omega arith;
      marks = omega arith;
    }

pub grown_on_line : (line : List Item) (old new : PlacedWay) (step : DirSeg) → IsWay old → OnLine line old → follows line (last_step old.path.steps.items) step ≡ true
    → new.path.steps.items ≡ old.path.steps.items ++ step ∷ [] → new.path.from ≡ old.path.from → new.end ≡ old.end → OnLine line new
grown_on_line line old new step w o t s f e = record {
  joined = rw (s, chained_append line old.path.steps.items step w.some, o.joined, t) refl;
  first = rw (s, f, first_stays (seg_len line) old.path.steps.items (step ∷ []) w.some) o.first;
  within = let a = ap (total (seg_len line)) s ∙ total_append (seg_len line) old.path.steps.items (step ∷ []) in let h = o.within in omega arith;
}

pub ended_is_way : (len : Lengths) (old new : PlacedWay) (place : ℕ) → IsWay old → old.path.from < place
    → new.path.steps.items ≡ steps_to len old.path.steps.items place → new.mark ≡ old.mark → new.path.from ≡ old.path.from → new.end ≡ place → IsWay new
ended_is_way len old new place w lt s m f e =
    let c = cut_front len old.path.steps.items place in
    record {
      some = rw s (cut_some len old.path.steps.items place w.some);
      once = rw s (once_front (steps_to len old.path.steps.items place) c.0 (sym (ap no_segment_twice c.1) ∙ w.once));
      order = omega arith;
      marks = let l = few_steps_to len old.path.steps.items place in let n = w.marks in let x = ap (λ xs. length xs) s in omega arith;
    }

pub ended_on_line : (line : List Item) (old new : PlacedWay) (place : ℕ) → IsWay old → OnLine line old → place ≤ total (seg_len line) old.path.steps.items
    → new.path.steps.items ≡ steps_to (seg_len line) old.path.steps.items place → new.path.from ≡ old.path.from → new.end ≡ place → OnLine line new
ended_on_line line old new place w o h s f e =
    let c = cut_front (seg_len line) old.path.steps.items place in
    let some = cut_some (seg_len line) old.path.steps.items place w.some in
    record {
      joined = rw s (chained_front line (steps_to (seg_len line) old.path.steps.items place) c.0 (sym (ap (chained line) c.1) ∙ o.joined));
      first = rw (s, f) (let q = ap (first_len (seg_len line)) c.1 ∙ first_stays (seg_len line) (steps_to (seg_len line) old.path.steps.items place) c.0 some in let b = o.first in omega arith);
      within = rw (s, e) (cut_total (seg_len line) old.path.steps.items place h);
    }

-- the first steps dropped
pub dropped_at : (len : Lengths) (old new : PlacedWay) (place mm count : ℕ) → count < length old.path.steps.items
    → mm + total len (drop count old.path.steps.items) ≡ total len old.path.steps.items → new.path.steps.items ≡ drop count old.path.steps.items
    → new.mark ≡ old.mark + count → new.path.from + mm ≡ place → place < mm + first_len len (drop count old.path.steps.items) → new.end + mm ≡ old.end
    → new.path.to ≡ old.path.to → Dropped len old new place mm
dropped_at len old new place mm count lt t s m f b e o =
    let cut = take-append-drop count old.path.steps.items in
    let l = length-take-le count old.path.steps.items (omega arith) in
    record {
      steps = take count old.path.steps.items;
      split = rw s (sym cut);
      dropped = let x = ap (total len) cut in let y = total_append len (take count old.path.steps.items) (drop count old.path.steps.items) in omega arith;
      mark = rw l m;
      from = f;
      first = rw s (omega arith);
      end = e;
      to = o;
    }

pub dropped_some : (old new : List DirSeg) (count : ℕ) → count < length old → new ≡ drop count old → 0 < length new
dropped_some old new count lt s = let l = length-drop count old in rw s (omega arith)

pub dropped_is_way : (len : Lengths) (old new : PlacedWay) (place mm : ℕ) → IsWay old → Dropped len old new place mm → place < old.end → 0 < length new.path.steps.items → IsWay new
dropped_is_way len old new place mm w d lt some = record {
  some = some;
  once = once_rest d.steps new.path.steps.items (rw d.split at w.once);
  order = let e = d.end in let f = d.from in omega arith;
  marks =
      let e = ap (λ xs. length xs) d.split ∙ length-append d.steps new.path.steps.items in
      let m = d.mark in let n = w.marks in omega arith;
}

pub dropped_on_line : (line : List Item) (old new : PlacedWay) (place mm : ℕ) → OnLine line old → Dropped (seg_len line) old new place mm → OnLine line new
dropped_on_line line old new place mm o d = record {
  joined = chained_rest line d.steps new.path.steps.items (sym (ap (chained line) d.split) ∙ o.joined);
  first = let f = d.first in omega arith;
  within =
      let t = ap (total (seg_len line)) d.split ∙ total_append (seg_len line) d.steps new.path.steps.items in
      let m = d.dropped in let e = d.end in let h = o.within in omega arith;
}

-- the end of what is left
pub place_after : (len : Lengths) (a b : List DirSeg) (off : ℕ) → 0 < length b → place_of_last len (a ++ b) off ≡ total len a + place_of_last len b off
unfolding place_of_last total
place_after len a [] off h = absurd (omega arith)
place_after len [] (y ∷ b) off h = omega arith
place_after len (st ∷ []) (y ∷ b) off h = omega arith
place_after len (st ∷ x ∷ a) (y ∷ b) off h = let i = place_after len (x ∷ a) (y ∷ b) off h in omega arith

pub dropped_end : (len : Lengths) (old new : PlacedWay) (place mm : ℕ) → Dropped len old new place mm → 0 < length new.path.steps.items
    → EndsWithPath len old → EndsWithPath len new
dropped_end len old new place mm d some h =
    let a = ap (λ xs. place_of_last len xs old.path.to) d.split ∙ place_after len d.steps new.path.steps.items old.path.to some in
    let e = d.end in let m = d.dropped in
    rw d.to (omega arith)
