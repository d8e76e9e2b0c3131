-- What one event makes of the ends of the possible fronts, as numbers.
use Rattle.std.proofs.Common.{◌≡◌, ℕ, ◌+◌, ◌≤◌, ◌∷◌, Option, Some, Bool, true, false, ◌&&◌, sym, ◌∙◌, ap, arith}
use Rattle.std.proofs.lemmas.Bool.Decides.{nat_tests}
use Rattle.std.specs.Prelude.{ℤ, nat_eq, nat_le}
use Rattle.list_laws.proofs.By_test.{eq_by_order}
use Rattle.track_points.specs.declared.ids.TrainId.{TrainId}
use Rattle.envelope.proofs.Range_hull.{IsRange}
use Rattle.definitions.specs.declared.message.Msg.{Msg}
use Rattle.definitions.specs.declared.message.Msg.TheVariants as msg
use Rattle.definitions.specs.Track.{Line}
use Rattle.definitions.specs.Story.{Transition, Story}
use Rattle.definitions.specs.Control.{grants_entry, controls, asked_facts, known_facts}
use Rattle.definitions.specs.Fronts.{possible_front, fronts_taken, fronts_behind, is_used, least_rear}
use Rattle.definitions.specs.Fold.{account}
use Rattle.definitions.specs.Zones.{zone_id}
use Rattle.journey_laws.proofs.Invariant.{FrontsAre, ControlIs}
use Rattle.step_laws.proofs.Fronts_numbers.{takes_by, grown_to, fronts_unused, fronts_left, fronts_kept, least_rear_is}
use Rattle.event_laws.proofs.Account_next.{fronts_granted, fronts_idle, fronts_acted}
use Rattle.step_laws.proofs.Entry_fronts.{known_long}

-- a test that passes two ranges, neither of them empty, passes one
range_once : (test : ℕ → Bool) (lo hi lo2 hi2 : ℕ) → IsRange test lo hi → IsRange test lo2 hi2 → lo ≤ hi → lo2 ≤ hi2 → (lo ≡ lo2) × (hi ≡ hi2)
range_once test lo hi lo2 hi2 r q o p =
    let a = ends lo hi lo2 hi2 o (sym (q.is lo) ∙ r.is lo) (sym (q.is hi) ∙ r.is hi) in
    let b = ends lo2 hi2 lo hi p (sym (r.is lo2) ∙ q.is lo2) (sym (r.is hi2) ∙ q.is hi2) in
    let a0 = a.0 in
    let a1 = a.1 in
    let b0 = b.0 in
    let b1 = b.1 in
    (omega (arith, a0, b0), omega (arith, a1, b1))
  where
    ends : (lo hi lo2 hi2 : ℕ) → lo ≤ hi → (nat_le lo2 lo && nat_le lo hi2) ≡ (nat_le lo lo && nat_le lo hi) → (nat_le lo2 hi && nat_le hi hi2) ≡ (nat_le lo hi && nat_le hi hi)
        → (lo2 ≤ lo) × (hi ≤ hi2)
    ends lo hi lo2 hi2 o e f = (grind (arith, nat_tests), grind (arith, nat_tests))

-- the fronts of a longer story, which are a range
ends_once : (line : Line) (t : ℕ) (s : Story) (g : FrontsAre line t s) (test : ℕ → Bool) (lo hi : ℕ) → ((p : ℕ) → possible_front line (zone_id line) t s p ≡ test p)
    → IsRange test lo hi → lo ≤ hi → (g.lo ≡ lo) × (g.hi ≡ hi)
ends_once line t s g test lo hi e r o =
    range_once (possible_front line (zone_id line) t s) g.lo g.hi lo hi (record { is = g.is }) (record { is = λ p. e p ∙ r.is p }) g.ordered o

-- at the entry both are the length
pub ends_entered : (line : Line) (t : ℕ) (x : Transition) (s : Story) (g : FrontsAre line t (x ∷ s)) → grants_entry (zone_id line) t x ≡ true
    → (g.lo ≡ (asked_facts x.took).long) × (g.hi ≡ (asked_facts x.took).long)
ends_entered line t x s g h =
    let n = (asked_facts x.took).long in
    ends_once line t (x ∷ s) g (λ p. nat_eq p n) n n (λ p. fronts_granted line t x s (zone_id line) p h) (record { is = λ p. eq_by_order p n }) (omega arith)

module _ (line : Line) (t : ℕ) (x : Transition) (s : Story) (f : FrontsAre line t s) (g : FrontsAre line t (x ∷ s)) (none : grants_entry (zone_id line) t x ≡ false) where
  -- an event that is no step of the zone leaves them
  pub ends_idle : nat_eq x.actor (zone_id line) ≡ false → (g.lo ≡ f.lo) × (g.hi ≡ f.hi)
  ends_idle idle =
      ends_once line t (x ∷ s) g (possible_front line (zone_id line) t s) f.lo f.hi (λ p. fronts_idle line t x s (zone_id line) p idle) (record { is = f.is }) f.ordered

  -- a message that the zone takes
  module _ (from : ℕ) (m : Msg) (controlled : controls (zone_id line) t s ≡ true) (acts : nat_eq x.actor (zone_id line) ≡ true) (took : x.took ≡ Some (from, m)) where
    behind : (p : ℕ) → possible_front line (zone_id line) t (x ∷ s) p ≡ fronts_behind line (zone_id line) t s (possible_front line (zone_id line) t s) m p
    behind p =
        fronts_acted line t x s (zone_id line) p none acts controlled
        ∙ ap (λ (o : Option (ℕ × Msg)). fronts_taken line (zone_id line) t s (possible_front line (zone_id line) t s) o p) took

    -- where it is no used report, they grow
    pub ends_grown : is_used line (zone_id line) t s (possible_front line (zone_id line) t s) m ≡ false → takes_by t (account line t s) m ≡ false → (g.lo ≡ f.lo) × (g.hi ≡ grown_to line t s m f.hi)
    ends_grown h no_taker =
        let n = fronts_unused line t s m f h no_taker in
        ends_once line t (x ∷ s) g (fronts_behind line (zone_id line) t s (possible_front line (zone_id line) t s) m) f.lo (grown_to line t s m f.hi) behind n.is n.ordered

  -- where it is a used report, they grow, and the report narrows them
  pub ends_narrowed : (from : ℕ) (u : TrainId) (time mark : ℕ) (offset : ℤ) (integrity : Bool) → controls (zone_id line) t s ≡ true → nat_eq x.actor (zone_id line) ≡ true
      → x.took ≡ Some (from, msg.Report u time mark offset integrity)
      → is_used line (zone_id line) t s (possible_front line (zone_id line) t s) (msg.Report u time mark offset integrity) ≡ true
      → (g.lo ≡ (fronts_left line t s (msg.Report u time mark offset integrity) f.lo f.hi time mark offset integrity).lo)
      × (g.hi ≡ (fronts_left line t s (msg.Report u time mark offset integrity) f.lo f.hi time mark offset integrity).hi)
  ends_narrowed from u time mark offset integrity controlled acts took used =
      let m = msg.Report u time mark offset integrity in
      let n = (fronts_kept line t s u time mark offset integrity f used).numbers in
      let left = fronts_left line t s m f.lo f.hi time mark offset integrity in
      ends_once line t (x ∷ s) g (fronts_behind line (zone_id line) t s (possible_front line (zone_id line) t s) m) left.lo left.hi (behind from m controlled acts took) n.is n.ordered

-- The least front is the least rear and the length.
pub least_front_is : (line : Line) (t : ℕ) (s : Story) (f : FrontsAre line t s) → ControlIs line t s → least_rear line (zone_id line) t s + (known_facts (zone_id line) t s).long ≡ f.lo
least_front_is line t s f c =
    let r = least_rear_is line t s f in
    let k = known_long t s (known_facts (zone_id line) t s) c.facts in
    let l = f.long in
    omega (arith, r, k, l)
