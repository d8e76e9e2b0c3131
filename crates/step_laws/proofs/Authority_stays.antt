-- An authority stays one as the journey goes on, and the route that it lies on.
use Rattle.std.proofs.Common.{◌≡◌, ℕ, ◌≤◌, ◌∷◌, true, false, sym, ◌∙◌, ap, arith}
use Rattle.list_laws.proofs.By_test.{by_test}
use Rattle.track_points.specs.Points.{steps_to}
use Rattle.definitions.specs.Track.{Line, seg_len}
use Rattle.definitions.specs.Story.{Transition, Story}
use Rattle.definitions.specs.World.{is_declared, entered, head, journey, Authority, authority_end}
use Rattle.definitions.specs.Control.{controls}
use Rattle.definitions.specs.Zones.{zone_id}
use Rattle.definitions.specs.Longest.{longest_end, longest_route}
use Rattle.journey_laws.proofs.Motion.{place, Motion}
use Rattle.event_laws.proofs.Facts_stay.{declared_stays, long_stays, first_stays, entered_stays}
use Rattle.way_laws.proofs.Cut_cut.{cut_cut}
use Rattle.journey_laws.proofs.Invariant.{IsPath, is_path, AuthorityIs, FirstIs}
use Rattle.journey_laws.proofs.First_steps.{FirstSteps, journey_longer, begin_same, end_same, route_same}

-- a train that has not come on had not before
pub off_before : (t : ℕ) (x : Transition) (s : Story) → entered t (x ∷ s) ≡ false → entered t s ≡ false
off_before t x s off = by_test (entered t s)
    (λ y. absurd (let c : true ≡ false = sym (entered_stays t x s y) ∙ off in cc))
    (λ m. m)

-- One transition further the first steps of the journey stay.
module _ (line : Line) (t : ℕ) (x : Transition) (s : Story) (first : FirstSteps line t x s) where
  pub path_stays : (a : Authority) → place t s ≤ place t (x ∷ s) → IsPath line t s a → IsPath line t (x ∷ s) a
  path_stays a moved k =
      let m = begin_same line t x s first a.mark k.mark in
      let l = long_stays t x s k.declared in
      let behind = k.behind in
      let mark = k.mark in
      let longer = journey_longer line t x s first in
      record {
        declared = declared_stays t x s k.declared;
        fits = k.fits;
        above = k.above;
        own = k.own;
        behind = omega (arith, m, l, behind, moved);
        mark = omega (arith, mark, longer);
      }

  pub authority_stays : (a : Authority) → place t s ≤ place t (x ∷ s) → longest_end line t s ≤ longest_end line t (x ∷ s)
      → steps_to (seg_len line) (longest_route line t (x ∷ s)) (longest_end line t s) ≡ longest_route line t s → AuthorityIs line t s a → AuthorityIs line t (x ∷ s) a
  authority_stays a moved grown onward k =
      let len = seg_len line in
      let p = path_stays a moved (is_path line t s a k) in
      let e = end_same line t x s first a k.mark in
      let within = k.within in
      record {
        declared = p.declared;
        fits = p.fits;
        above = p.above;
        own = p.own;
        behind = p.behind;
        mark = p.mark;
        on = route_same line t x s first a k.mark ∙ k.on
            ∙ ap (λ xs. steps_to len xs (authority_end len (journey line t s) a)) (sym onward)
            ∙ cut_cut len (longest_route line t (x ∷ s)) (authority_end len (journey line t s) a) (longest_end line t s) within
            ∙ ap (steps_to len (longest_route line t (x ∷ s))) (sym e);
        within = omega (arith, e, within, grown);
      }

pub first_is_stays : (line : Line) (t : ℕ) (x : Transition) (s : Story) (a : Authority) → is_declared t s ≡ true → FirstIs line t s a → FirstIs line t (x ∷ s) a
first_is_stays line t x s a d k =
    let l = long_stays t x s d in
    let room = k.room in
    record {
      step = k.step;
      first = first_stays t x s k.step k.first;
      portal = k.portal;
      mark = k.mark;
      path = k.path;
      room = omega (arith, l, room);
    }

-- how the train moves at a transition: its head never goes back, nor beyond the longest end
pub record Going (line : Line) (t : ℕ) (s : Story) (x : Transition) : Type 0 where
  pub motion : Motion t s
  pub moved : is_declared t s ≡ true → place t s ≤ place t (x ∷ s)
  pub heads : head t s ≤ head t (x ∷ s)
  pub stops : controls (zone_id line) t s ≡ true → head t (x ∷ s) ≤ longest_end line t s
