-- What the zone's trains tell, their fronts grown or not, is what the story tells.
use Rattle.std.proofs.Common.{◌≡◌, ℕ, List, length, map, Option, Some, None, Bool, true, ◌&&◌, refl, sym, ◌∙◌, ap, not}
use Rattle.std.proofs.Math.Path.{fun_ext}
use Rattle.std.specs.Prelude.{nat_eq, nat_le, nat_lt, is_some}
use Rattle.std.specs.List.{list_any}
use Rattle.list_laws.proofs.By_test.{by_test}
use Rattle.track_points.specs.declared.ids.DirSeg.{DirSeg}
use Rattle.track_points.specs.Points.{Lengths, Point, Cell, some_below, path_has}
use Rattle.definitions.specs.Track.{Line, seg_len, layout, owner, zone_of}
use Rattle.definitions.specs.Rules.{is_line}
use Rattle.definitions.specs.Ways.{PlainWay}
use Rattle.definitions.specs.Story.{Story}
use Rattle.definitions.specs.Control.{controls, knows, knows_most, known_trains, last_issued}
use Rattle.definitions.specs.World.{journey}
use Rattle.definitions.specs.Account.{Account}
use Rattle.definitions.specs.Fold.{account}
use Rattle.definitions.specs.Longest.{counted, is_pending}
use Rattle.definitions.specs.Fronts.{report_time, silent_by}
use Rattle.definitions.specs.Authority.{way, way_start, way_has, held, held_else, least_of, holder_of}
use Rattle.definitions.specs.Closures.{is_closed}
use Rattle.definitions.specs.Limit.{Bars, reach_from, path_of, barring, limit}
use Rattle.way_path.specs.Ways.{plain_way}
use Rattle.plain_state.specs.declared.Controlled.{Controlled}
use Rattle.plain_state.specs.Zone.{PlainZone, find_controlled, way_found, path_found, last_found, ready_found, pending_found, silent_found, full, train_on, held_else_plain, closed_at, barring_plain, holder_plain, reach_plain, grown_train}
use Rattle.definitions.specs.Zones.{zone_id}
use Rattle.plain_state.specs.Refinement.{ids, Distinct, pending_of, zone_train_of, zone_train, ZoneRefines}
use Rattle.event_laws.proofs.Controls_same.{controls_knows}
use Rattle.journey_laws.proofs.Invariant.{Invariant}
use Rattle.plain_state.proofs.Found_changed.{mapped, any_is, least_is, ids_length, found_mapped, ids_mapped, distinct_mapped}
use Rattle.refinement_laws.proofs.Facts_is.{way_is_known, no_way_unknown}

-- the trains of a zone, their fronts grown at a clock
pub record Grown (line : Line) (s : Story) (clock : ℕ) (ways : List Controlled) : Type 0 where
  pub found : (t : ℕ) → find_controlled t ways ≡ mapped (grown_train clock) (zone_train line t s)
  pub known : ids ways ≡ known_trains (zone_id line) s
  pub distinct : Distinct ways

pub grown_of : (line : Line) (s : Story) (y : PlainZone) (clock : ℕ) → ZoneRefines line (zone_id line) s y → Grown line s clock (map (grown_train clock) y.trains)
grown_of line s y clock k = record {
  found = λ t. found_mapped t (grown_train clock) y.trains (λ x. refl) ∙ ap (λ (x : Option Controlled). mapped (grown_train clock) x) (k.found t);
  known = ids_mapped (grown_train clock) y.trains (λ x. refl) ∙ k.known;
  distinct = distinct_mapped (grown_train clock) y.trains (λ x. refl) k.distinct;
}

-- the closed segments that a zone keeps are those of its own that the story tells
abbrev pub Shut : Line → Story → List Bool → Type 0
Shut line s closed = (seg : ℕ) → nat_eq (zone_of line seg) (zone_id line) ≡ true → closed_at closed seg ≡ is_closed (zone_id line) seg s

-- a shrink is kept while one is unanswered
pending_is : (len : Lengths) (steps : List DirSeg) (start : ℕ) (v : Account) → is_some (pending_of len steps start v) ≡ nat_lt 0 v.shrink
pending_is len steps start v = by_test (nat_lt 0 v.shrink) (λ y. rw y refl) (λ n. rw n refl)

-- What is found of a train of the zone.
module _ (line : Line) (t : ℕ) (s : Story) (clock : ℕ) where
  abbrev train_by : Option PlainWay → Option Controlled
  train_by w = mapped (grown_train clock) (zone_train_of line (zone_id line) t s w)

  way_by : (w : Option PlainWay) → way_found (train_by w) ≡ w
  way_by None = refl
  way_by (Some w) = refl

  last_by : (w : Option PlainWay) → (w ≡ None → last_issued t s ≡ 0) → last_found (train_by w) ≡ last_issued t s
  last_by None h = sym (h refl)
  last_by (Some w) h = refl

  some_by : (w : Option PlainWay) → is_some (train_by w) ≡ is_some w
  some_by None = refl
  some_by (Some w) = refl

  reach_by : (w : Option PlainWay) (asked : List DirSeg) (to : ℕ) (now_ : ℕ) (bars : Bars)
      → reach_from line (ready_found (train_by w)) (pending_found (train_by w)) (silent_found line now_ (train_by w)) (path_found (train_by w)) asked to bars
      ≡ reach_from line (is_some w && nat_lt 0 (counted line t s)) (is_pending line t s) (silent_by line (report_time line (zone_id line) t s) now_) (path_of w) asked to bars
  reach_by None asked to now_ bars = refl
  reach_by (Some w) asked to now_ bars =
      ap (λ (b : Bool). reach_from line (nat_lt 0 (counted line t s)) b (silent_by line (report_time line (zone_id line) t s) now_) (Some w.path) asked to bars)
      (pending_is (seg_len line) (journey line t s) (way_start line t s w) (account line t s))

  id_by : (w : Option PlainWay) (x : Controlled) → train_by w ≡ Some x → x.id.0 ≡ t
  id_by None x e = absurd cc
  id_by (Some w) x e = ap (λ (y : Option Controlled). id_or y) (sym e)
    where
      id_or : Option Controlled → ℕ
      id_or None = t
      id_or (Some y) = y.id.0

module _ (line : Line) (s : Story) (valid : is_line line ≡ true) (invariant : (t : ℕ) → Invariant line t s) (clock : ℕ) (ways : List Controlled) (g : Grown line s clock ways) where
  pub way_now : (t : ℕ) → way_found (find_controlled t ways) ≡ way line (zone_id line) t s
  way_now t = ap (λ (x : Option Controlled). way_found x) (g.found t) ∙ way_by line t s clock (way line (zone_id line) t s)

  pub last_now : (t : ℕ) → last_found (find_controlled t ways) ≡ last_issued t s
  last_now t = ap (λ (x : Option Controlled). last_found x) (g.found t)
      ∙ last_by line t s clock (way line (zone_id line) t s) (λ h. (invariant t).authorized.unknown (no_way_unknown line (zone_id line) t s h))

  pub known_now : (t : ℕ) → is_some (find_controlled t ways) ≡ knows (zone_id line) t s
  known_now t = ap (λ (x : Option Controlled). is_some x) (g.found t) ∙ (some_by line t s clock (way line (zone_id line) t s) ∙ (way_is_known line (zone_id line) t s ∙ controls_knows (zone_id line) t s))

  pub full_now : full ways ≡ knows_most (zone_id line) s
  full_now = ap (λ (n : ℕ). nat_le 256 n) (sym (ids_length ways)) ∙ ap (λ (xs : List ℕ). nat_le 256 (length xs)) g.known

  -- a way that is found is what is held for its train
  held_found : (t : ℕ) (x : Controlled) (point : Point) → find_controlled t ways ≡ Some x → held line (zone_id line) t s point ≡ (nat_eq (owner line point) (zone_id line) && path_has (layout line) x.way.path point)
  held_found t x point found =
      let is : way line (zone_id line) t s ≡ Some (plain_way x.way) = sym (way_now t) ∙ ap (λ (y : Option Controlled). way_found y) found in
      ap (λ (w : Option PlainWay). nat_eq (owner line point) (zone_id line) && way_has (layout line) w point) is

  pub found_id : (t : ℕ) (x : Controlled) → find_controlled t ways ≡ Some x → x.id.0 ≡ t
  found_id t x found = id_by line t s clock (way line (zone_id line) t s) x (sym (g.found t) ∙ found)

  held_now : (t : ℕ) (point : Point) → (nat_eq (owner line point) (zone_id line) && held_else_plain (layout line) ways t point) ≡ (nat_eq (owner line point) (zone_id line) && held_else line (zone_id line) t s point)
  held_now t point = by_test (nat_eq (owner line point) (zone_id line))
      (λ own.
      let f : Controlled → Bool = λ x. not (nat_eq x.id.0 t) && path_has (layout line) x.way.path point in
      let k : ℕ → Bool = λ u. not (nat_eq u t) && held line (zone_id line) u s point in
      let same : list_any f ways ≡ list_any k (ids ways) = any_is f k ways g.distinct (λ u x found.
      ap (λ (i : ℕ). not (nat_eq i t) && path_has (layout line) x.way.path point) (found_id u x found)
      ∙ sym (ap (λ (b : Bool). not (nat_eq u t) && b) (held_found u x point found ∙ rw own refl))) in
      let listed : list_any k (ids ways) ≡ list_any k (known_trains (zone_id line) s) = ap (λ (xs : List ℕ). list_any k xs) g.known in
      ap (λ (b : Bool). nat_eq (owner line point) (zone_id line) && b) (same ∙ listed))
      (λ away. rw away refl)

  pub holder_now : (seg : ℕ) → holder_plain line (zone_id line) ways seg ≡ holder_of line (zone_id line) s seg
  holder_now seg =
      let k : ℕ → Bool = λ u. some_below (λ mm. held line (zone_id line) u s (Cell seg mm)) (seg_len line seg) in
      least_is (train_on line (zone_id line) seg) k ways g.distinct (λ u x found.
      ap (λ (test : ℕ → Bool). some_below test (seg_len line seg)) (fun_ext (λ mm. sym (held_found u x (Cell seg mm) found))))
      ∙ ap (λ (xs : List ℕ). least_of k xs) g.known

  -- what bars an ask: the points that are held for another train, and the closed segments
  barring_now : (t : ℕ) (closed : List Bool) → Shut line s closed → barring_plain line (zone_id line) ways closed t ≡ barring line (zone_id line) t s
  barring_now t closed shut =
      let z = zone_id line in
      ap (λ (test : Point → Bool). bars_of test (λ seg. nat_eq (zone_of line seg) z && closed_at closed seg)) (fun_ext (λ point. held_now t point))
      ∙ ap (λ (test : ℕ → Bool). bars_of (barring line z t s).held test) (fun_ext closed_now)
    where
      bars_of : (Point → Bool) → (ℕ → Bool) → Bars
      bars_of held_ closed_ = record { held = held_; closed = closed_ }

      closed_now : (seg : ℕ) → (nat_eq (zone_of line seg) (zone_id line) && closed_at closed seg) ≡ (nat_eq (zone_of line seg) (zone_id line) && is_closed (zone_id line) seg s)
      closed_now seg = by_test (nat_eq (zone_of line seg) (zone_id line))
          (λ own. ap (λ (b : Bool). nat_eq (zone_of line seg) (zone_id line) && b) (shut seg own))
          (λ away. rw away refl)

  pub reach_now : (t : ℕ) (asked : List DirSeg) (to now_ : ℕ) (closed : List Bool) → Shut line s closed → reach_plain line (zone_id line) now_ ways closed t asked to ≡ limit line (zone_id line) t s now_ asked to
  reach_now t asked to now_ closed shut =
      let z = zone_id line in
      let w = way line z t s in
      ap (λ (x : Option Controlled). reach_from line (ready_found x) (pending_found x) (silent_found line now_ x) (path_found x) asked to (barring_plain line z ways closed t)) (g.found t)
      ∙ (reach_by line t s clock w asked to now_ (barring_plain line z ways closed t)
      ∙ (ap (λ (b : Bool). reach_from line (b && nat_lt 0 (counted line t s)) (is_pending line t s) (silent_by line (report_time line z t s) now_) (path_of w) asked to (barring_plain line z ways closed t)) (way_is_known line z t s)
      ∙ ap (λ (bars : Bars). reach_from line (controls z t s && nat_lt 0 (counted line t s)) (is_pending line t s) (silent_by line (report_time line z t s) now_) (path_of w) asked to bars) (barring_now t closed shut)))
