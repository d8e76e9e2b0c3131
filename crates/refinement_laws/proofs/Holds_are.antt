-- What the zone shows of its trains is what the story tells: where their fronts may be, and what is held for them.
use Rattle.std.proofs.Common.{◌≡◌, ℕ, ◌-◌, ◌≤◌, List, Option, Some, None, true, ◌&&◌, refl, sym, ◌∙◌, ap, subst, arith}
use Rattle.std.proofs.lemmas.Bool.Decides.{nat_tests}
use Rattle.std.specs.Prelude.{nat_eq, nat_le, is_some}
use Rattle.list_laws.proofs.By_test.{by_test}
use Rattle.track_points.specs.Points.{Point}
use Rattle.envelope.specs.Fronts.{is_front}
use Rattle.definitions.specs.Track.{Line, seg_len, layout, owner}
use Rattle.definitions.specs.Rules.{is_line}
use Rattle.definitions.specs.Ways.{PlainWay}
use Rattle.definitions.specs.Story.{Story}
use Rattle.definitions.specs.Control.{controls, known_facts, known_train, now_of}
use Rattle.definitions.specs.Longest.{longest_end, longest_route}
use Rattle.definitions.specs.Fronts.{possible_front, report_time}
use Rattle.definitions.specs.Authority.{way, way_start, way_has, held}
use Rattle.way_path.specs.Ways.{plain_way}
use Rattle.plain_state.specs.declared.Controlled.{Controlled}
use Rattle.plain_state.specs.Zone.{find_controlled, hold_has}
use Rattle.definitions.specs.Zones.{zone_id}
use Rattle.plain_state.specs.Refinement.{zone_train_of, zone_train}
use Rattle.way_laws.proofs.Between_points.{begin_of, behind_from}
use Rattle.journey_laws.proofs.Invariant.{Invariant}
use Rattle.refinement_laws.proofs.Facts_is.{way_is_known}
use Rattle.refinement_laws.proofs.Zone_kept.{ledger_of, kept_train, zone_kept}

hold_of : (line : Line) (t : ℕ) (s : Story) (w : Option PlainWay) (point : Point) → hold_has line (zone_id line) (zone_train_of line (zone_id line) t s w) point ≡ (nat_eq (owner line point) (zone_id line) && way_has (layout line) w point)
hold_of line t s None point = by_test (nat_eq (owner line point) (zone_id line)) (λ a. rw a refl) (λ b. rw b refl)
hold_of line t s (Some w) point = refl

pub some_of : (line : Line) (t : ℕ) (s : Story) (w : Option PlainWay) (x : Controlled) → zone_train_of line (zone_id line) t s w ≡ Some x → is_some w ≡ true
some_of line t s None x e = absurd cc
some_of line t s (Some w) x e = refl

module _ (line : Line) (s : Story) (valid : is_line line ≡ true) (trains : List Controlled) (ways : (t : ℕ) → find_controlled t trains ≡ zone_train line t s) (invariant : (t : ℕ) → Invariant line t s) where
  pub found_controls : (t : ℕ) (x : Controlled) → find_controlled t trains ≡ Some x → controls (zone_id line) t s ≡ true
  found_controls t x found = sym (way_is_known line (zone_id line) t s) ∙ some_of line t s (way line (zone_id line) t s) x (sym (ways t) ∙ found)

  pub found_kept : (t : ℕ) (x : Controlled) (c : controls (zone_id line) t s ≡ true) → find_controlled t trains ≡ Some x
      → kept_train (seg_len line) t (known_train (zone_id line) t s) (longest_route line t s) ((invariant t).fronts c).lo ((invariant t).fronts c).hi (longest_end line t s)
      (now_of (zone_id line) s) (report_time line (zone_id line) t s) (ledger_of line t s) ≡ x
  found_kept t x c found = same _ x (sym (zone_kept line t s valid (invariant t) c) ∙ (sym (ways t) ∙ found))
    where
      same : (a b : Controlled) → Some a ≡ Some b → a ≡ b
      same a b h = cc

  pub fronts_are : (t f : ℕ) (x : Controlled) → find_controlled t trains ≡ Some x → (nat_le (way_start line t s (plain_way x.way)) f && is_front x.fronts (f - way_start line t s (plain_way x.way))) ≡ possible_front line (zone_id line) t s f
  fronts_are t f x found =
      let c = found_controls t x found in
      let g = (invariant t).fronts c in
      let b = behind_from (seg_len line) (longest_route line t s) (g.lo - (known_facts (zone_id line) t s).long) in
      subst (λ (y : Controlled). (nat_le (way_start line t s (plain_way y.way)) f && is_front y.fronts (f - way_start line t s (plain_way y.way))) ≡ possible_front line (zone_id line) t s f) (found_kept t x c found)
      (shifted g.lo g.hi (begin_of (seg_len line) (longest_route line t s) (g.lo - (known_facts (zone_id line) t s).long)) f (omega (arith, b)) g.ordered ∙ sym (g.is f))
    where
      shifted : (lo hi b f : ℕ) → b ≤ lo → lo ≤ hi → (nat_le b f && (nat_le (lo - b) (f - b) && nat_le (f - b) (hi - b))) ≡ (nat_le lo f && nat_le f hi)
      shifted lo hi b f h o = grind (arith, nat_tests)

  pub holds_are : (t : ℕ) (point : Point) → hold_has line (zone_id line) (find_controlled t trains) point ≡ held line (zone_id line) t s point
  holds_are t point =
      ap (λ (x : Option Controlled). hold_has line (zone_id line) x point) (ways t)
      ∙ hold_of line t s (way line (zone_id line) t s) point
