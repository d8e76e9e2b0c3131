-- A train that the zone keeps, by its ends on its one route.
use Rattle.std.proofs.Common.{◌≡◌, ℕ, ◌+◌, ◌-◌, ◌<◌, ◌≤◌, min, ◌∷◌, List, Option, Some, true, false, refl, sym, ◌∙◌, ap, arith}
use Rattle.track_points.specs.declared.ids.DirSeg.{DirSeg}
use Rattle.track_points.specs.Points.{Lengths, total, end_place}
use Rattle.envelope.specs.Fronts.{farthest_move}
use Rattle.definitions.specs.Track.{Line, seg_len}
use Rattle.definitions.specs.Rules.{is_line}
use Rattle.definitions.specs.Ways.{PlainWay, way_between}
use Rattle.definitions.specs.Story.{Transition, Story}
use Rattle.definitions.specs.World.{journey}
use Rattle.definitions.specs.Fold.{account}
use Rattle.definitions.specs.Control.{grants_entry, asked, controls, Known, known_train, known_facts, now_of, last_issued}
use Rattle.definitions.specs.Longest.{counted, longest_end, longest_route}
use Rattle.definitions.specs.Fronts.{greatest_front, report_time}
use Rattle.authority_ledger.specs.declared.ledger.Ledger.{Ledger}
use Rattle.authority_ledger.specs.declared.ledger.Shrink.{Shrink}
use Rattle.authority_ledger.specs.Ledger.{shifted}
use Rattle.way_path.specs.Ways.{with_end}
use Rattle.plain_state.specs.declared.Controlled.{Controlled}
use Rattle.plain_state.specs.Zone.{grown_train}
use Rattle.definitions.specs.Zones.{zone_id}
use Rattle.plain_state.specs.Refinement.{pending_of, zone_train_of, zone_train}
use Rattle.way_laws.proofs.Between_points.{begin_of, behind_from, between_ends}
use Rattle.event_laws.proofs.Account_next.{issued_is}
use Rattle.journey_laws.proofs.Invariant.{Invariant}
use Rattle.refinement_laws.proofs.Way_of.{way_of}
use Rattle.refinement_laws.proofs.Ledger_told.{ledger_told, pending_told}

-- its numbers, with places of the journey
abbrev pub ledger_of : Line → ℕ → Story → Ledger
ledger_of line t s = ledger_told (seg_len line) (journey line t s) (account line t s)

-- its rear is its length behind its least front; its way begins with the step on which that rear stands
abbrev pub kept_train : Lengths → ℕ → Known → List DirSeg → ℕ → ℕ → ℕ → ℕ → ℕ → Ledger → Controlled
kept_train len t known steps lo hi end at report numbers = record {
  id = record { 0 = t };
  train_length = known.facts.long;
  error = known.facts.error;
  speed = known.facts.speed;
  way = with_end len (way_between len steps (lo - known.facts.long) end);
  fronts = record {
    lo = lo - begin_of len steps (lo - known.facts.long);
    hi = hi - begin_of len steps (lo - known.facts.long);
    at = at;
  };
  report = report;
  equipped = known.equipped;
  ledger = shifted (begin_of len steps (lo - known.facts.long)) numbers;
}

-- the train of the zone is kept so
pub zone_kept : (line : Line) (t : ℕ) (s : Story) (valid : is_line line ≡ true) (invariant : Invariant line t s) (c : controls (zone_id line) t s ≡ true)
    → zone_train line t s ≡ Some (kept_train (seg_len line) t (known_train (zone_id line) t s) (longest_route line t s) (invariant.fronts c).lo (invariant.fronts c).hi (longest_end line t s)
    (now_of (zone_id line) s) (report_time line (zone_id line) t s) (ledger_of line t s))
zone_kept line t s valid invariant c =
    let z = zone_id line in
    let w = way_of line t s valid invariant c in
    let f = known_facts z t s in
    let begin = begin_of (seg_len line) (longest_route line t s) ((invariant.fronts c).lo - f.long) in
    let pending = pending_of (seg_len line) (journey line t s) begin (account line t s) in
    ap (λ (x : Option PlainWay). zone_train_of line z t s x) w.is
    ∙ (ap (λ (n : ℕ). Some (with_ends n (greatest_front line z t s) (with_numbers (last_issued t s) pending))) w.least
    ∙ (ap (λ (n : ℕ). Some (with_ends (invariant.fronts c).lo n (with_numbers (last_issued t s) pending))) w.greatest
    ∙ (ap (λ (n : ℕ). Some (with_ends (invariant.fronts c).lo (invariant.fronts c).hi (with_numbers n pending))) (sym (issued_is line t s))
    ∙ ap (λ (p : Option Shrink). Some (with_ends (invariant.fronts c).lo (invariant.fronts c).hi (with_numbers (account line t s).issued p))) (pending_told (seg_len line) (journey line t s) begin (account line t s)))))
  where
    with_numbers : ℕ → Option Shrink → Ledger
    with_numbers last pending = record { last = last; answered = counted line t s; pending = pending }

    with_ends : ℕ → ℕ → Ledger → Controlled
    with_ends lo hi numbers = record {
      id = record { 0 = t };
      train_length = (known_facts (zone_id line) t s).long;
      error = (known_facts (zone_id line) t s).error;
      speed = (known_facts (zone_id line) t s).speed;
      way = with_end (seg_len line) (way_between (seg_len line) (longest_route line t s) ((invariant.fronts c).lo - (known_facts (zone_id line) t s).long) (longest_end line t s));
      fronts = record {
        lo = lo - begin_of (seg_len line) (longest_route line t s) ((invariant.fronts c).lo - (known_facts (zone_id line) t s).long);
        hi = hi - begin_of (seg_len line) (longest_route line t s) ((invariant.fronts c).lo - (known_facts (zone_id line) t s).long);
        at = now_of (zone_id line) s;
      };
      report = report_time line (zone_id line) t s;
      equipped = (known_train (zone_id line) t s).equipped;
      ledger = numbers;
    }

-- growth moves the greatest front
pub kept_grown : (clock : ℕ) (len : Lengths) (t : ℕ) (k : Known) (steps : List DirSeg) (lo hi end at report : ℕ) (numbers : Ledger) → lo ≤ hi → hi ≤ end → lo - k.facts.long < end → end ≤ total len steps
    → grown_train clock (kept_train len t k steps lo hi end at report numbers)
    ≡ kept_train len t k steps lo (min (hi + farthest_move k.facts.speed (clock - at)) end) end clock report numbers
kept_grown clock len t k steps lo hi end at report numbers o w order room =
    let rear = lo - k.facts.long in
    let b = behind_from len steps rear in
    let e : min (hi - begin_of len steps rear + farthest_move k.facts.speed (clock - at)) (end_place len (way_between len steps rear end).path) ≡ min (hi + farthest_move k.facts.speed (clock - at)) end - begin_of len steps rear =
    ap (λ (n : ℕ). min (hi - begin_of len steps rear + farthest_move k.facts.speed (clock - at)) n) (between_ends len steps rear end order room)
    ∙ less hi end (begin_of len steps rear) (farthest_move k.facts.speed (clock - at)) (omega (arith, b, o)) w in
    ap (λ (n : ℕ). with_front n) e
  where
    less : (a b c d : ℕ) → c ≤ a → a ≤ b → min (a - c + d) (b - c) ≡ min (a + d) b - c
    less a b c d h k = omega (arith, h, k)

    with_front : ℕ → Controlled
    with_front n = record {
      id = record { 0 = t };
      train_length = k.facts.long;
      error = k.facts.error;
      speed = k.facts.speed;
      way = with_end len (way_between len steps (lo - k.facts.long) end);
      fronts = record { lo = lo - begin_of len steps (lo - k.facts.long); hi = n; at = clock };
      report = report;
      equipped = k.equipped;
      ledger = shifted (begin_of len steps (lo - k.facts.long)) numbers;
    }

-- what the zone knows of it, transition by transition
pub known_stays : (z t : ℕ) (x : Transition) (s : Story) → grants_entry z t x ≡ false → known_train z t (x ∷ s) ≡ known_train z t s
unfolding known_train
known_stays z t x s h = rw h refl

pub known_asked : (z t : ℕ) (x : Transition) (s : Story) → grants_entry z t x ≡ true → known_train z t (x ∷ s) ≡ asked x.took
unfolding known_train
known_asked z t x s h = rw h refl

-- after an event that leaves the longest route
pub zone_behind : (line : Line) (t : ℕ) (s s2 : Story) (valid : is_line line ≡ true) (sound2 : Invariant line t s2) (c2 : controls (zone_id line) t s2 ≡ true)
    → known_train (zone_id line) t s2 ≡ known_train (zone_id line) t s → longest_end line t s2 ≡ longest_end line t s → longest_route line t s2 ≡ longest_route line t s
    → zone_train line t s2 ≡ Some (kept_train (seg_len line) t (known_train (zone_id line) t s) (longest_route line t s) (sound2.fronts c2).lo (sound2.fronts c2).hi (longest_end line t s)
    (now_of (zone_id line) s2) (report_time line (zone_id line) t s2) (ledger_of line t s2))
zone_behind line t s s2 valid sound2 c2 known end route =
    let z = zone_id line in
    let len = seg_len line in
    zone_kept line t s2 valid sound2 c2
    ∙ (ap (λ (k : Known). Some (kept_train len t k (longest_route line t s2) (sound2.fronts c2).lo (sound2.fronts c2).hi (longest_end line t s2) (now_of z s2) (report_time line z t s2) (ledger_of line t s2))) known
    ∙ (ap (λ (n : ℕ). Some (kept_train len t (known_train z t s) (longest_route line t s2) (sound2.fronts c2).lo (sound2.fronts c2).hi n (now_of z s2) (report_time line z t s2) (ledger_of line t s2))) end
    ∙ ap (λ (xs : List DirSeg). Some (kept_train len t (known_train z t s) xs (sound2.fronts c2).lo (sound2.fronts c2).hi (longest_end line t s) (now_of z s2) (report_time line z t s2) (ledger_of line t s2))) route))
