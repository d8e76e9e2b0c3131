-- A kept train whose way is lengthened, and one whose authority is issued anew.
use Rattle.std.proofs.Common.{◌≡◌, ℕ, ◌+◌, ◌-◌, ◌<◌, ◌≤◌, List, length, drop, Some, true, sym, ◌∙◌, ap, arith, None, take}
use Rattle.std.proofs.lemmas.List.{length-append, length-take}
use Rattle.track_points.specs.declared.ids.DirSeg.{DirSeg}
use Rattle.track_points.specs.declared.path.Path.{Path}
use Rattle.track_points.specs.Points.{Lengths, total, end_place, steps_to, offset_to}
use Rattle.definitions.specs.Track.{Line, seg_len}
use Rattle.definitions.specs.Rules.{is_line}
use Rattle.definitions.specs.Ways.{PlainWay, way_between}
use Rattle.definitions.specs.Story.{Story}
use Rattle.definitions.specs.World.{Authority, route, authority_end, journey}
use Rattle.definitions.specs.Control.{controls, Known, known_train, now_of}
use Rattle.definitions.specs.Longest.{longest_end, longest_route}
use Rattle.definitions.specs.Fronts.{report_time}
use Rattle.definitions.specs.Limit.{asked_way}
use Rattle.definitions.specs.Steps.{path_to}
use Rattle.authority_ledger.specs.declared.ledger.Ledger.{Ledger}
use Rattle.authority_ledger.specs.Ledger.{longer, shifted}
use Rattle.way_path.specs.Ways.{with_end}
use Rattle.plain_state.specs.declared.Controlled.{Controlled}
use Rattle.plain_state.specs.Zone.{lengthened}
use Rattle.definitions.specs.Zones.{zone_id}
use Rattle.plain_state.specs.Refinement.{zone_train}
use Rattle.way_laws.proofs.Cut_front.{cut_front, cut_some, cut_total}
use Rattle.way_laws.proofs.Cut_cut.{cut_again, offset_more}
use Rattle.way_laws.proofs.Between_points.{begin_of}
use Rattle.way_laws.proofs.Between_longer.{between_cut, begin_cut, between_longer}
use Rattle.journey_laws.proofs.Invariant.{AuthorityIs, Invariant}
use Rattle.journey_laws.proofs.One_route.{kept_cut, longest_on}
use Rattle.refinement_laws.proofs.Ledger_told.{longer_shifted}
use Rattle.refinement_laws.proofs.Zone_kept.{ledger_of, kept_train, zone_kept}

offset_again : (len : Lengths) (steps : List DirSeg) (p : ℕ) → 0 < length steps → p ≤ total len steps → offset_to len (steps_to len steps p) p ≡ offset_to len steps p
offset_again len steps p some h =
    let f = cut_front len steps p in
    let e = ap (λ (xs : List DirSeg). offset_to len xs p) f.1 in
    sym (e ∙ offset_more len (steps_to len steps p) f.0 p (cut_some len steps p some) (cut_total len steps p h))

path_again : (len : Lengths) (from : ℕ) (steps : List DirSeg) (p : ℕ) → 0 < length steps → p ≤ total len steps → path_to len from (steps_to len steps p) p ≡ path_to len from steps p
path_again len from steps p some h =
    ap (λ (xs : List DirSeg). path_of xs (offset_to len (steps_to len steps p) p)) (cut_again len steps p)
    ∙ ap (λ (n : ℕ). path_of (steps_to len steps p) n) (offset_again len steps p some h)
  where
    path_of : List DirSeg → ℕ → Path
    path_of xs n = record { steps = record { items = xs }; from = from; to = n }

-- the way to a farther end, by the asked way
longer_way : (len : Lengths) (steps asked : List DirSeg) (rear end d : ℕ) (w : PlainWay) → way_between len steps rear end ≡ w → rear < end → end ≤ total len steps
    → drop w.mark steps ≡ steps_to len asked (end_place len w.path + d) → 0 < length asked → end_place len w.path + d ≤ total len asked
    → way_between len steps rear (end + d) ≡ record { mark = w.mark; path = path_to len w.path.from asked (end_place len w.path + d) }
longer_way len steps asked rear end d w is order room items some h =
    let p = end_place len w.path + d in
    between_longer len steps rear end d order room
    ∙ (ap by_way is
    ∙ (ap (λ (xs : List DirSeg). by_path (path_to len w.path.from xs p)) items
    ∙ ap by_path (path_again len w.path.from asked p some h)))
  where
    by_way : PlainWay → PlainWay
    by_way x = record { mark = x.mark; path = path_to len x.path.from (drop x.mark steps) (end_place len x.path + d) }

    by_path : Path → PlainWay
    by_path x = record { mark = w.mark; path = x }

-- a kept train lengthened
kept_longer : (len : Lengths) (asked : List DirSeg) (t : ℕ) (known : Known) (a b : List DirSeg) (lo hi end d at report : ℕ) (numbers : Ledger) → numbers.pending ≡ None → begin_of len b (lo - known.facts.long) ≡ begin_of len a (lo - known.facts.long)
    → way_between len b (lo - known.facts.long) (end + d) ≡ record {
      mark = (way_between len a (lo - known.facts.long) end).mark;
      path = path_to len (way_between len a (lo - known.facts.long) end).path.from (asked_way (way_between len a (lo - known.facts.long) end).path.steps.items asked) (end_place len (way_between len a (lo - known.facts.long) end).path + d);
    }
    → kept_train len t known b lo hi (end + d) at report (longer numbers) ≡ lengthened len asked d (kept_train len t known a lo hi end at report numbers)
kept_longer len asked t known a b lo hi end d at report numbers none begins way_is =
    ap (λ (x : PlainWay). with_way x (begin_of len b (lo - known.facts.long)) (shifted (begin_of len b (lo - known.facts.long)) (longer numbers))) way_is
    ∙ (ap (λ (n : ℕ). with_way onward n (shifted n (longer numbers))) begins
    ∙ ap (λ (l : Ledger). with_way onward (begin_of len a (lo - known.facts.long)) l) (sym (longer_shifted (begin_of len a (lo - known.facts.long)) numbers none)))
  where
    onward : PlainWay
    onward = record {
      mark = (way_between len a (lo - known.facts.long) end).mark;
      path = path_to len (way_between len a (lo - known.facts.long) end).path.from (asked_way (way_between len a (lo - known.facts.long) end).path.steps.items asked) (end_place len (way_between len a (lo - known.facts.long) end).path + d);
    }

    with_way : PlainWay → ℕ → Ledger → Controlled
    with_way x n l = record {
      id = record { 0 = t };
      train_length = known.facts.long;
      error = known.facts.error;
      speed = known.facts.speed;
      way = with_end len x;
      fronts = record { lo = lo - n; hi = hi - n; at = at };
      report = report;
      equipped = known.equipped;
      ledger = l;
    }

-- lengthened onto a route that goes on from its own
pub kept_lengthened : (len : Lengths) (asked : List DirSeg) (t : ℕ) (known : Known) (a b : List DirSeg) (lo hi end d at report : ℕ) (numbers : Ledger) → numbers.pending ≡ None → a ≡ steps_to len b end
    → lo - known.facts.long < end → end ≤ total len b
    → drop (way_between len a (lo - known.facts.long) end).mark b ≡ steps_to len (asked_way (way_between len a (lo - known.facts.long) end).path.steps.items asked) (end_place len (way_between len a (lo - known.facts.long) end).path + d)
    → 0 < length (asked_way (way_between len a (lo - known.facts.long) end).path.steps.items asked)
    → end_place len (way_between len a (lo - known.facts.long) end).path + d ≤ total len (asked_way (way_between len a (lo - known.facts.long) end).path.steps.items asked)
    → kept_train len t known b lo hi (end + d) at report (longer numbers) ≡ lengthened len asked d (kept_train len t known a lo hi end at report numbers)
kept_lengthened len asked t known a b lo hi end d at report numbers none cut order room items some within =
    let rear = lo - known.facts.long in
    let same = sym (between_cut len b rear end end order (omega arith) room) ∙ ap (λ xs. way_between len xs rear end) (sym cut) in
    let begins = sym (begin_cut len b rear end order room) ∙ ap (λ xs. begin_of len xs rear) (sym cut) in
    kept_longer len asked t known a b lo hi end d at report numbers none begins
    (longer_way len b (asked_way (way_between len a rear end).path.steps.items asked) rear end d (way_between len a rear end) same order room items some within)

-- An authority that ends where the longest does.
module _ (line : Line) (t : ℕ) (s : Story) (valid : is_line line ≡ true) (invariant : Invariant line t s) (c : controls (zone_id line) t s ≡ true) (a : Authority) (is : AuthorityIs line t s a) (end : longest_end line t s ≡ authority_end (seg_len line) (journey line t s) a) where
  -- what is kept lies on its route
  pub route_kept : zone_train line t s ≡ Some (kept_train (seg_len line) t (known_train (zone_id line) t s) (route (journey line t s) a) (invariant.fronts c).lo (invariant.fronts c).hi (longest_end line t s)
      (now_of (zone_id line) s) (report_time line (zone_id line) t s) (ledger_of line t s))
  route_kept =
      zone_kept line t s valid invariant c
      ∙ ap (λ (xs : List DirSeg). Some (kept_train (seg_len line) t (known_train (zone_id line) t s) xs (invariant.fronts c).lo (invariant.fronts c).hi (longest_end line t s)
      (now_of (zone_id line) s) (report_time line (zone_id line) t s) (ledger_of line t s))) (longest_on line t s invariant.authorized c a is end)

  -- it has all steps up to the end
  pub route_steps : length (steps_to (seg_len line) (longest_route line t s) (longest_end line t s)) ≤ a.mark + length a.path.steps.items
  route_steps =
      let n = ap (λ (xs : List DirSeg). length xs) (sym (kept_cut line t s invariant.authorized c) ∙ longest_on line t s invariant.authorized c a is end) in
      let l = length-append (take a.mark (journey line t s)) a.path.steps.items in
      let m = length-take a.mark (journey line t s) in
      omega (arith, n, l, m)
