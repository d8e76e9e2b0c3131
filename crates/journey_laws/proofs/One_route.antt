-- All of a train lies on one route, that of its longest authority, cut at a place: the journey at its head, each authority at
-- its end.
use Rattle.std.proofs.Common.{◌≡◌, ℕ, ◌+◌, ◌<◌, ◌≤◌, List, [], ◌∷◌, ◌++◌, length, take, Option, Some, None, true, false, ◌&&◌, refl, sym, ap, subst, ◌∙◌, arith}
use Rattle.std.proofs.lemmas.Bool.Decides.{nat_tests}
use Rattle.std.proofs.lemmas.List.{length-append}
use Rattle.std.proofs.lemmas.Option.{same_Some}
use Rattle.std.specs.Prelude.{nat_le, nat_lt, is_some}
use Rattle.std.specs.List.{list_all}
use Rattle.std.proofs.lemmas.Bool.{and_parts}
use Rattle.list_laws.proofs.By_test.{by_test}
use Rattle.track_points.specs.declared.ids.DirSeg.{DirSeg}
use Rattle.track_points.specs.declared.path.Path.{Path}
use Rattle.track_points.specs.Points.{total, end_place, place_of_last, steps_to, no_segment_twice}
use Rattle.definitions.specs.Track.{Line, seg_len, last_step}
use Rattle.definitions.specs.Premises.{on_line}
use Rattle.definitions.specs.Ways.{chained, first_len, path_in_range}
use Rattle.definitions.specs.Story.{Story}
use Rattle.definitions.specs.World.{entered, head, Authority, HeldPath, route, authority_end, entry_authority, held_end, limit_place, journey}
use Rattle.definitions.specs.Control.{controls, last_issued}
use Rattle.definitions.specs.Farther.{end_or_0, route_or_none}
use Rattle.definitions.specs.Longest.{longest_end, is_pending, shrink_place, longest_route}
use Rattle.definitions.specs.Zones.{zone_id}
use Rattle.way_laws.proofs.Cut_front.{last_place, place_after, last_after, cut_few, cut_whole, total_append}
use Rattle.journey_laws.proofs.Motion.{Motion}
use Rattle.journey_laws.proofs.Invariant.{path_fits, end_read, AuthorityIs, FirstIs, ControlIs, Authorized}

-- what a path that fits is
pub record PathParts (line : Line) (path : Path) : Type 0 where
  pub chain : chained line path.steps.items ≡ true
  pub once : no_segment_twice path.steps.items ≡ true
  pub some : 0 < length path.steps.items
  pub few : length path.steps.items ≤ 24
  pub from : path.from ≤ first_len (seg_len line) path.steps.items
  pub to : path.to ≤ seg_len line (last_step path.steps.items).seg.0
  pub order : path.from < end_place (seg_len line) path
  -- it ends on its steps
  pub within : end_place (seg_len line) path ≤ total (seg_len line) path.steps.items

pub path_parts : (line : Line) (path : Path) → path_fits line path ≡ true → PathParts line path
path_parts line path h =
    let len = seg_len line in
    let steps = path.steps.items in
    let a = and_parts (chained line steps) (no_segment_twice steps && (path_in_range len path && nat_le (length steps) 24)) h in
    let b = and_parts (no_segment_twice steps) (path_in_range len path && nat_le (length steps) 24) a.1 in
    let c = and_parts (path_in_range len path) (nat_le (length steps) 24) b.1 in
    let d = and_parts (nat_lt 0 (length steps)) (nat_le path.from (first_len len steps) && (nat_le path.to (len (last_step steps).seg.0) && nat_lt path.from (end_place len path))) c.0 in
    let f = and_parts (nat_le path.from (first_len len steps)) (nat_le path.to (len (last_step steps).seg.0) && nat_lt path.from (end_place len path)) d.1 in
    let g = and_parts (nat_le path.to (len (last_step steps).seg.0)) (nat_lt path.from (end_place len path)) f.1 in
    let some = d.0 in let from = f.0 in let to = g.0 in let order = g.1 in let few = c.1 in
    record {
      chain = a.0;
      once = b.0;
      some = grind (arith, nat_tests);
      few = grind (arith, nat_tests);
      from = grind (arith, nat_tests);
      to = grind (arith, nat_tests);
      order = grind (arith, nat_tests);
      within = last_place len steps path.to (grind (arith, nat_tests)) (grind (arith, nat_tests));
    }

-- The route of an authority whose path fits, whatever the steps before it.
module _ (line : Line) (steps : List DirSeg) (a : Authority) (fits : path_fits line a.path ≡ true) where
  pub route_some : 0 < length (route steps a)
  route_some =
      let some = (path_parts line a.path fits).some in
      let l = length-append (take a.mark steps) a.path.steps.items in
      omega (arith, some, l)

  -- it reaches to the end
  pub route_reaches : authority_end (seg_len line) steps a ≤ total (seg_len line) (route steps a)
  route_reaches =
      let w = (path_parts line a.path fits).within in
      let t = total_append (seg_len line) (take a.mark steps) a.path.steps.items in
      omega (arith, w, t)

  -- and is cut nowhere there
  pub route_whole : 0 < a.path.to → steps_to (seg_len line) (route steps a) (authority_end (seg_len line) steps a) ≡ route steps a
  route_whole above =
      let len = seg_len line in
      let p = path_parts line a.path fits in
      let to = p.to in
      let place_is : place_of_last len (route steps a) a.path.to ≡ authority_end len steps a = place_after len (take a.mark steps) a.path.steps.items a.path.to p.some in
      let last : a.path.to ≤ len (last_step (route steps a)).seg.0 = rw (last_after (take a.mark steps) a.path.steps.items p.some) to in
      ap (steps_to len (route steps a)) (sym place_is) ∙ cut_whole len (route steps a) a.path.to route_some above last

-- the route of an authority over a portal's segment, and where it ends
pub first_route : (line : Line) (t : ℕ) (s : Story) (steps : List DirSeg) (a : Authority) (f : FirstIs line t s a) → route steps a ≡ f.step ∷ []
first_route line t s steps a f = ap (λ (n : ℕ). take n steps ++ a.path.steps.items) f.mark ∙ ap (λ (p : Path). p.steps.items) f.path

pub first_end : (line : Line) (t : ℕ) (s : Story) (steps : List DirSeg) (a : Authority) (f : FirstIs line t s a) → authority_end (seg_len line) steps a ≡ seg_len line f.step.seg.0
unfolding total place_of_last
first_end line t s steps a f =
    ap (λ (n : ℕ). total (seg_len line) (take n steps) + end_place (seg_len line) a.path) f.mark
    ∙ ap (λ (p : Path). 0 + end_place (seg_len line) p) f.path
    ∙ (omega arith)

-- a train to which an authority was issued is controlled
pub numbered_controls : (line : Line) (t : ℕ) (s : Story) → Authorized line t s → 1 ≤ last_issued t s → controls (zone_id line) t s ≡ true
numbered_controls line t s k h = by_test (controls (zone_id line) t s)
    (λ y. y)
    (λ n. absurd (let none = k.unknown n in omega (arith, h, none)))

-- and so is one that has come on: it has taken an authority
pub on_controls : (line : Line) (t : ℕ) (s : Story) → Authorized line t s → entered t s ≡ true → controls (zone_id line) t s ≡ true
on_controls line t s k on = let g = some_held (entry_authority t s) refl (k.came_on on) in numbered_controls line t s k (k.entry g.0 g.1).issued
  where
    some_held : (g : Option HeldPath) → entry_authority t s ≡ g → is_some g ≡ true → (h : HeldPath) × (entry_authority t s ≡ Some h)
    some_held None is h = absurd cc
    some_held (Some g) is h = (g, is)

-- so one that its zone does not control has not
pub uncontrolled_off : (line : Line) (t : ℕ) (s : Story) → Authorized line t s → controls (zone_id line) t s ≡ false → entered t s ≡ false
uncontrolled_off line t s k free = by_test (entered t s)
    (λ y. absurd (let c : true ≡ false = sym (on_controls line t s k y) ∙ free in cc))
    (λ n. n)

-- the one route of a train, and where it ends: all steps of it lie before the end, and the journey is the part up to the head
pub record OneRoute (line : Line) (t : ℕ) (s : Story) (kept : List DirSeg) (end : ℕ) : Type 0 where
  pub some : 0 < length kept
  pub cut : kept ≡ steps_to (seg_len line) kept end
  pub reach : end ≤ total (seg_len line) kept
  pub chain : chained line kept ≡ true
  pub own : list_all (on_line line) kept ≡ true
  pub head_within : head t s ≤ end
  pub journey_on : journey line t s ≡ steps_to (seg_len line) kept (head t s)

-- A train that its zone controls.
module _ (line : Line) (t : ℕ) (s : Story) (k : Authorized line t s) (controlled : controls (zone_id line) t s ≡ true) where
  abbrev c : ControlIs line t s
  c = k.controlled controlled

  pub newest_end : longest_end line t s ≡ authority_end (seg_len line) (journey line t s) (k.controlled controlled).newest
  newest_end = ap (end_or_0 (seg_len line) (journey line t s)) c.longest_is

  pub newest_route : longest_route line t s ≡ route (journey line t s) (k.controlled controlled).newest
  newest_route = ap (route_or_none (journey line t s)) c.longest_is

  pub kept_some : 0 < length (longest_route line t s)
  kept_some = subst (λ (xs : List DirSeg). 0 < length xs) (sym newest_route) (route_some line (journey line t s) c.newest c.newest_is.fits)

  pub kept_reach : longest_end line t s ≤ total (seg_len line) (longest_route line t s)
  kept_reach =
      let r = route_reaches line (journey line t s) c.newest c.newest_is.fits in
      let e = newest_end in
      let n = ap (total (seg_len line)) newest_route in
      omega (arith, r, e, n)

  pub kept_cut : longest_route line t s ≡ steps_to (seg_len line) (longest_route line t s) (longest_end line t s)
  kept_cut = newest_route ∙ c.newest_is.on ∙ ap (steps_to (seg_len line) (longest_route line t s)) (sym newest_end)

  -- the journey has no more steps than it
  pub journey_few : length (journey line t s) ≤ length (longest_route line t s)
  journey_few =
      let e = ap (λ (xs : List DirSeg). length xs) c.journey_on in
      let f = cut_few (seg_len line) (longest_route line t s) (head t s) in
      omega (arith, e, f)

  -- the last number ends where the longest does, where no shrink is unanswered
  pub last_end : is_pending line t s ≡ false → end_read line t s (last_issued t s) ≡ longest_end line t s
  last_end idle = ap (end_or_0 (seg_len line) (journey line t s)) (c.top idle) ∙ sym newest_end

  -- a shrink that is unanswered ends before it
  pub shrink_before : is_pending line t s ≡ true → shrink_place line t s < longest_end line t s
  shrink_before y =
      let g = c.shrink y in
      let near = g.nearer in
      let e = ap (end_or_0 (seg_len line) (journey line t s)) g.shorter_is in
      omega (arith, near, e)

  -- before the train comes on the longest is over the portal segment
  pub portal_end : entered t s ≡ false → longest_end line t s ≡ seg_len line (k.controlled controlled).step.seg.0
  portal_end off =
      let f = (c.early off).1 in
      newest_end ∙ first_end line t s (journey line t s) c.newest f ∙ ap (λ (st : DirSeg). seg_len line st.seg.0) (same_Some f.step c.step (sym f.first ∙ c.first))

  -- an authority that ends where the longest does has its route
  pub longest_on : (a : Authority) → AuthorityIs line t s a → longest_end line t s ≡ authority_end (seg_len line) (journey line t s) a → longest_route line t s ≡ route (journey line t s) a
  longest_on a is end = kept_cut ∙ ap (steps_to (seg_len line) (longest_route line t s)) end ∙ sym is.on

  module _ (motion : Motion t s) where
    head_in : head t s ≤ longest_end line t s
    head_in = by_test (entered t s)
        (λ y.
        let l = k.limit y in
        let p : limit_place line t s ≡ authority_end (seg_len line) (journey line t s) l.held.authority = ap (held_end (seg_len line) (journey line t s)) l.is in
        let a = l.ahead in
        let b = l.authority.within in
        omega (arith, a, p, b))
        (λ off. let z = motion.unborn off in omega (arith, z))

    pub one_route : OneRoute line t s (longest_route line t s) (longest_end line t s)
    one_route = record {
      some = kept_some;
      cut = kept_cut;
      reach = kept_reach;
      chain = c.chain;
      own = c.of_line;
      head_within = head_in;
      journey_on = c.journey_on;
    }
