-- A way that does not visit a segment bars nothing there.
use Rattle.std.proofs.Common.{◌≡◌, ℕ, ◌-◌, ◌≤◌, min, true, false, List, [], ◌∷◌, refl, sym, ◌∙◌, ap, arith, nat_eq, nat_lt}
use Rattle.std.proofs.lemmas.Bool.Decides.{nat_tests}
use Rattle.list_laws.proofs.By_test.{by_test}
use Rattle.track_points.specs.declared.ids.Dir.TheVariants.{Up}
use Rattle.track_points.specs.declared.ids.DirSeg.{DirSeg}
use Rattle.track_points.specs.Points.{Lengths, end_place, visits}
use Rattle.definitions.specs.Track.{Line, seg_len, zone_of}
use Rattle.plain_state.specs.Zone.{train_on}
use Rattle.plain_state.specs.declared.Controlled.{Controlled}
use Rattle.zone_reach.specs.Held.{near_steps, near_train, near_trains}
use Rattle.zone_reach.proofs.First_held_is.{train_on_own, train_on_else}

min_same : (n : ℕ) → min n n ≡ n
min_same n = omega arith

steps_away : (len : Lengths) (steps : List DirSeg) (lo hi : ℕ) (st : DirSeg) (from : ℕ) → visits steps st.seg.0 ≡ false → near_steps len steps lo hi st from ≡ len st.seg.0
unfolding near_steps visits
steps_away len [] lo hi st from h = refl
steps_away len (w ∷ steps) lo hi st from h = by_test (nat_eq w.seg.0 st.seg.0)
    (λ y. absurd (let z : true ≡ false = rw y at h in cc))
    (λ n.
    let rest = steps_away len steps (lo - len w.seg.0) (hi - len w.seg.0) st from (rw n at h) in
    rw (n, rest) (min_same (len st.seg.0)))

pub trains_within : (len : Lengths) (t : ℕ) (trains : List Controlled) (st : DirSeg) (from : ℕ) → near_trains len t trains st from ≤ len st.seg.0
unfolding near_trains
trains_within len t [] st from = omega arith
trains_within len t (x ∷ trains) st from =
    let rest = trains_within len t trains st from in
    by_test (nat_eq x.id.0 t) (λ y. rw y rest) (λ n. rw n (omega arith))

pub train_away : (len : Lengths) (x : Controlled) (st : DirSeg) (from nearest : ℕ) → visits x.way.path.steps.items st.seg.0 ≡ false → nearest ≤ len st.seg.0 → min (near_train len x st from) nearest ≡ nearest
train_away len x st from nearest h within =
    let away = steps_away len x.way.path.steps.items x.way.path.from (end_place len x.way.path) st from h in
    rw away (omega arith)

pub on_away : (line : Line) (z s : ℕ) (x : Controlled) → visits x.way.path.steps.items s ≡ false → train_on line z s x ≡ false
on_away line z s x h = by_test (nat_eq (zone_of line s) z)
    (λ y.
    let own : zone_of line s ≡ z = grind (arith, nat_tests) in
    let step : DirSeg = record { seg = record { 0 = s }; dir = Up } in
    let away : near_train (seg_len line) x step 0 ≡ seg_len line s = steps_away (seg_len line) x.way.path.steps.items x.way.path.from (end_place (seg_len line) x.way.path) step 0 h in
    let not_below : nat_lt (seg_len line s) (seg_len line s) ≡ false = grind (arith, nat_tests) in
    sym (train_on_own line z s x own) ∙ (ap (λ (n : ℕ). nat_lt n (seg_len line s)) away ∙ not_below))
    (λ n. sym (train_on_else line z s x (λ e. absurd (let same : nat_eq (zone_of line s) z ≡ true = grind (arith, nat_tests) in cc))) ∙ n)
