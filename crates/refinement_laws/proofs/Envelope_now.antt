-- The envelope that the zone shows of a train is the one that the story tells.
use Rattle.std.proofs.Common.{◌≡◌, ℕ, ◌+◌, ◌-◌, ◌<◌, ◌≤◌, List, take, Some, true, sym, ◌∙◌, ap, subst, arith}
use Rattle.track_points.specs.declared.ids.DirSeg.{DirSeg}
use Rattle.track_points.specs.Points.{Layout, Point, total, has_between, steps_to}
use Rattle.track_points.proofs.Points_found.{points_within}
use Rattle.definitions.specs.Track.{Line, seg_len, layout}
use Rattle.definitions.specs.Rules.{is_line}
use Rattle.definitions.specs.Ways.{way_between}
use Rattle.definitions.specs.Story.{Story}
use Rattle.definitions.specs.Control.{known_facts}
use Rattle.definitions.specs.Longest.{longest_end, longest_route}
use Rattle.definitions.specs.Fronts.{least_rear}
use Rattle.definitions.specs.Authority.{envelope}
use Rattle.plain_state.specs.declared.Controlled.{Controlled}
use Rattle.plain_state.specs.Zone.{PlainZone, find_controlled, envelope_has}
use Rattle.definitions.specs.Zones.{zone_id}
use Rattle.plain_state.specs.Refinement.{ZoneRefines}
use Rattle.way_laws.proofs.Cut_front.{cut_front, cut_total}
use Rattle.way_laws.proofs.Cut_cut.{points_after}
use Rattle.way_laws.proofs.Between_points.{begin_of, behind_from, between_steps}
use Rattle.journey_laws.proofs.Invariant.{Invariant}
use Rattle.refinement_laws.proofs.Way_of.{way_of}
use Rattle.refinement_laws.proofs.Holds_are.{found_controls, found_kept}

-- places on a way, counted from where it begins, have the points of the steps there
way_points : (point : Point) (layout : Layout) (steps : List DirSeg) (rear end lo hi from to : ℕ) → rear < end → end ≤ total layout.len steps → rear ≤ lo → hi ≤ end → begin_of layout.len steps rear ≤ hi
    → from + begin_of layout.len steps rear ≡ lo → to + begin_of layout.len steps rear ≡ hi → has_between layout (way_between layout.len steps rear end).path.steps.items from to point ≡ has_between layout steps lo hi point
way_points point layout steps rear end lo hi from to order room behind within above one two =
    let w = way_between layout.len steps rear end in
    let before = take w.mark steps in
    let f = cut_front layout.len steps end in
    let t = cut_total layout.len steps end room in
    let low : total layout.len before + from ≡ lo = omega (arith, one) in
    let high : total layout.len before + to ≡ hi = omega (arith, two) in
    sym (points_after point layout before w.path.steps.items from to)
    ∙ (ap (λ (xs : List DirSeg). has_between layout xs (total layout.len before + from) (total layout.len before + to) point) (between_steps layout.len steps rear end order room)
    ∙ (ap (λ (p : ℕ). has_between layout (steps_to layout.len steps end) p (total layout.len before + to) point) low
    ∙ (ap (λ (p : ℕ). has_between layout (steps_to layout.len steps end) lo p point) high
    ∙ (sym (points_within point layout (steps_to layout.len steps end) f.0 lo hi (omega (arith, within, t)))
    ∙ ap (λ (xs : List DirSeg). has_between layout xs lo hi point) (sym f.1)))))

pub envelope_now : (line : Line) (s : Story) (z : PlainZone) → is_line line ≡ true → ZoneRefines line (zone_id line) s z → ((t : ℕ) → Invariant line t s) → (t : ℕ) (x : Controlled) (point : Point) → find_controlled t z.trains ≡ Some x
    → envelope_has (layout line) x point ≡ envelope line (zone_id line) t s point
envelope_now line s z valid k invariant t x point found =
    let len = seg_len line in
    let c = found_controls line s valid z.trains k.found invariant t x found in
    let w = way_of line t s valid (invariant t) c in
    let g = (invariant t).fronts c in
    let long = (known_facts (zone_id line) t s).long in
    let steps = longest_route line t s in
    let b = behind_from len steps (g.lo - long) in
    let order = w.order in
    let ordered = w.ordered in
    let within = w.within in
    subst (λ (y : Controlled). envelope_has (layout line) y point ≡ envelope line (zone_id line) t s point) (found_kept line s valid z.trains k.found invariant t x c found)
    (way_points point (layout line) steps (g.lo - long) (longest_end line t s) (g.lo - long) g.hi (g.lo - begin_of len steps (g.lo - long) - long) (g.hi - begin_of len steps (g.lo - long))
    (omega (arith, order, ordered, within)) w.room (omega arith) within (omega (arith, b, order, ordered)) (omega (arith, b)) (omega (arith, b, order, ordered))
    ∙ (ap (λ (n : ℕ). has_between (layout line) steps n g.hi point) (sym w.rear) ∙ ap (λ (n : ℕ). has_between (layout line) steps (least_rear line (zone_id line) t s) n point) (sym w.greatest)))
