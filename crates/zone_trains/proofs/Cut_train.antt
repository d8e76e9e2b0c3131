-- A way that is cut behind the rear of its train.
use Rattle.std.proofs.Common.{◌≡◌, ℕ, suc, ◌+◌, ◌-◌, ◌<◌, true, false, List, [], ◌∷◌, ◌++◌, length, take, drop, refl, ap, ◌∙◌, arith, nat_lt}
use Rattle.std.proofs.Math.Seq.{take-append_seam, drop-append_seam}
use Rattle.std.proofs.lemmas.Bool.Decides.{nat_tests}
use Rattle.track_points.specs.declared.ids.DirSeg.{DirSeg}
use Rattle.track_points.specs.Points.{Lengths, total}
use Rattle.definitions.specs.Ways.{first_len, steps_behind}
use Rattle.way_path.specs.Ways.{PlacedWay, EndsWithPath, Dropped, with_end}
use Rattle.authority_ledger.specs.Ledger.{shifted}
use Rattle.plain_state.specs.declared.Controlled.{Controlled}
use Rattle.plain_state.specs.Zone.{cut_at_rear}

-- where a place lies on the first of the steps after others, those others lie behind it
behind_split : (len : Lengths) (a b : List DirSeg) (q : ℕ) → q < first_len len b → steps_behind len (a ++ b) (total len a + q) ≡ length a
unfolding steps_behind total
behind_split len [] [] q h = absurd (omega arith)
behind_split len [] (st ∷ b) q h = let t : nat_lt (0 + q) (len st.seg.0) ≡ true = grind (arith, nat_tests) in rw t refl
behind_split len (st ∷ a) b q h =
    let t : nat_lt (len st.seg.0 + total len a + q) (len st.seg.0) ≡ false = grind (arith, nat_tests) in
    let e : len st.seg.0 + total len a + q - len st.seg.0 ≡ total len a + q = omega arith in
    rw (t, e) (ap suc (behind_split len a b q h))

dropped_count : (len : Lengths) (old new : PlacedWay) (rear mm : ℕ) (d : Dropped len old new rear mm) → steps_behind len old.path.steps.items rear ≡ length d.steps
dropped_count len old new rear mm d =
    let f = d.from in let m = d.dropped in
    let r : rear ≡ total len d.steps + new.path.from = omega arith in
    ap (λ xs. steps_behind len xs rear) d.split ∙ ap (steps_behind len (d.steps ++ new.path.steps.items)) r ∙ behind_split len d.steps new.path.steps.items new.path.from d.first

way_are : (len : Lengths) (new : PlacedWay) (mark from to : ℕ) → EndsWithPath len new → new.mark ≡ mark → new.path.from ≡ from → new.path.to ≡ to
    → new ≡ with_end len (record { mark = mark; path = record { steps = record { items = new.path.steps.items }; from = from; to = to } })
way_are len new mark from to e a b c = rw (← a, ← b, ← c) (ap (λ (n : ℕ). record { mark = new.mark; path = new.path; end = n }) e)

-- the train whose way begins at its rear
pub cut_train : (len : Lengths) (x : Controlled) (new : PlacedWay) (rear mm : ℕ) → Dropped len x.way new rear mm → EndsWithPath len new → rear + x.train_length ≡ x.fronts.lo
    → record x { way = new; fronts = record { lo = x.fronts.lo - mm; hi = x.fronts.hi - mm; at = x.fronts.at }; ledger = shifted mm x.ledger } ≡ cut_at_rear len x
cut_train len x new rear mm d ends r =
    let e : x.fronts.lo - x.train_length ≡ rear = omega arith in
    let n = dropped_count len x.way new rear mm d in
    let t : take (length d.steps) x.way.path.steps.items ≡ d.steps = ap (take (length d.steps)) d.split ∙ take-append_seam d.steps new.path.steps.items in
    let b : drop (length d.steps) x.way.path.steps.items ≡ new.path.steps.items = ap (drop (length d.steps)) d.split ∙ drop-append_seam d.steps new.path.steps.items in
    let f : new.path.from ≡ rear - mm = let g = d.from in omega arith in
    let w = way_are len new (x.way.mark + length d.steps) (rear - mm) x.way.path.to ends d.mark f d.to in
    rw (e, n, t, b, ← d.dropped) (ap cut_to w)
  where
    cut_to : PlacedWay → Controlled
    cut_to y = record x { way = y; fronts = record { lo = x.fronts.lo - mm; hi = x.fronts.hi - mm; at = x.fronts.at }; ledger = shifted mm x.ledger }
