-- The journey of a controlled train has the steps before its way: the least rear is behind the train.
use Rattle.std.proofs.Common.{◌≡◌, ℕ, ◌+◌, ◌-◌, ◌≤◌, List, [], ◌∷◌, take, true, refl, sym, ◌∙◌, ap, arith}
use Rattle.std.proofs.lemmas.Bool.{and_parts}
use Rattle.list_laws.proofs.By_test.{by_test}
use Rattle.track_points.specs.declared.ids.DirSeg.{DirSeg}
use Rattle.track_points.specs.Points.{Lengths}
use Rattle.definitions.specs.Track.{Line, seg_len}
use Rattle.definitions.specs.Rules.{is_line}
use Rattle.definitions.specs.Story.{Story}
use Rattle.definitions.specs.World.{clock, facts_or, long_of, entered, head, journey}
use Rattle.definitions.specs.Control.{controls, known_facts, now_of}
use Rattle.definitions.specs.Longest.{longest_route}
use Rattle.definitions.specs.Fronts.{least_rear}
use Rattle.definitions.specs.Ways.{steps_behind}
use Rattle.definitions.specs.Zones.{zone_id}
use Rattle.way_laws.proofs.Track_front.{is_long, all_long, long_steps}
use Rattle.way_laws.proofs.Between_points.{behind_take}
use Rattle.journey_laws.proofs.Motion.{place, Motion}
use Rattle.journey_laws.proofs.Invariant.{ControlIs, FrontsAre, Authorized}
use Rattle.step_laws.proofs.Fronts_numbers.{least_rear_is}

none_behind : (len : Lengths) (steps : List DirSeg) → all_long len steps ≡ true → steps_behind len steps 0 ≡ 0
unfolding steps_behind
none_behind len [] h = refl
none_behind len (st ∷ steps) h = rw (and_parts (is_long len st) (all_long len steps) h).0 refl

module _ (line : Line) (t : ℕ) (s : Story) (m : Motion t s) (k : Authorized line t s) (control : controls (zone_id line) t s ≡ true) (f : FrontsAre line t s) where
  abbrev c : ControlIs line t s
  c = k.controlled control

  pub rear_before_least : least_rear line (zone_id line) t s ≡ f.lo - long_of t s
  rear_before_least =
      let r = least_rear_is line t s f in
      let known : (known_facts (zone_id line) t s).long ≡ long_of t s = ap (λ x. (facts_or x).long) (sym c.facts) in
      omega (arith, r, known)

  -- the least rear is behind the train's
  pub way_behind : least_rear line (zone_id line) t s + long_of t s ≤ place t s
  way_behind =
      let now_ = now_of (zone_id line) s in
      let r = rear_before_least in
      let long = f.long in
      let low = f.low in
      let later = m.forward now_ (now_ + clock s) (omega arith) in
      let last = m.past (now_ + clock s) (omega arith) in
      omega (arith, r, long, low, later, last)

  pub way_begins : is_line line ≡ true → take (steps_behind (seg_len line) (longest_route line t s) (least_rear line (zone_id line) t s)) (journey line t s)
      ≡ take (steps_behind (seg_len line) (longest_route line t s) (least_rear line (zone_id line) t s)) (longest_route line t s)
  way_begins valid =
      let rear = least_rear line (zone_id line) t s in
      let steps = longest_route line t s in
      let n = steps_behind (seg_len line) steps rear in
      by_test (entered t s)
      (λ on.
      let b = way_behind in
      let p : place t s ≡ head t s = rw on refl in
      let long = k.long_some c.declared in
      ap (take n) c.journey_on ∙ behind_take (seg_len line) steps rear (head t s) (omega (arith, b, p, long)))
      (λ off.
      let e = f.early off in
      let r = rear_before_least in
      let zero : rear ≡ 0 = omega (arith, e, r) in
      let none : n ≡ 0 = ap (steps_behind (seg_len line) steps) zero ∙ none_behind (seg_len line) steps (long_steps line steps valid c.of_line) in
      ap (λ (i : ℕ). take i (journey line t s)) none ∙ ap (λ (i : ℕ). take i steps) (sym none))
