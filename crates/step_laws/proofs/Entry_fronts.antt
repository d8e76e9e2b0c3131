-- The fronts of a train at its entry: its length alone, as it is not on the line.
use Rattle.std.proofs.Common.{◌≡◌, ℕ, ◌∷◌, Option, Some, true, false, refl, sym, ◌∙◌, ap, arith}
use Rattle.std.specs.Prelude.{nat_eq}
use Rattle.list_laws.proofs.By_test.{eq_by_order, by_test}
use Rattle.definitions.specs.declared.event.Event.{Event}
use Rattle.definitions.specs.Track.{Line}
use Rattle.definitions.specs.Story.{Story}
use Rattle.definitions.specs.World.{Facts, facts_or, facts_of, at_moment, long_of, error_of, speed_of, entered}
use Rattle.definitions.specs.Control.{grants_entry, controls, known_facts, now_of}
use Rattle.definitions.specs.Steps.{effects}
use Rattle.definitions.specs.Zones.{zone_id}
use Rattle.event_laws.proofs.Entered_same.{entered_same}
use Rattle.journey_laws.proofs.Motion.{place_at, Motion}
use Rattle.journey_laws.proofs.Invariant.{FrontsAre, Authorized, Invariant}
use Rattle.journey_laws.proofs.One_route.{uncontrolled_off, portal_end}
use Rattle.event_laws.proofs.Account_next.{fronts_granted}
use Rattle.event_laws.proofs.Controls_same.{known_granted}
use Rattle.event_laws.proofs.Grant_takes.{grant_takes}

-- A train that has not come on was at its length at every moment.
pub off_place : (t ms : ℕ) (s : Story) → Motion t s → entered t s ≡ false → place_at t ms s ≡ long_of t s
off_place t ms s m off =
    let e : entered t (at_moment ms s) ≡ false = by_test (entered t (at_moment ms s))
    (λ y. absurd (let c : true ≡ false = sym (m.on_now ms y) ∙ off in cc))
    (λ n. n) in
    rw e refl

pub known_long : (t : ℕ) (s : Story) (f : Facts) → facts_of t s ≡ Some f → long_of t s ≡ f.long
known_long t s f h = ap (λ (x : Option Facts). (facts_or x).long) h

pub known_speed : (t : ℕ) (s : Story) (f : Facts) → facts_of t s ≡ Some f → speed_of t s ≡ f.speed
known_speed t s f h = ap (λ (x : Option Facts). (facts_or x).speed) h

pub known_error : (t : ℕ) (s : Story) (f : Facts) → facts_of t s ≡ Some f → error_of t s ≡ f.error
known_error t s f h = ap (λ (x : Option Facts). (facts_or x).error) h

-- the fronts at the entry are the length alone
pub entry_fronts : (line : Line) (s : Story) (e : Event) (t : ℕ) → Invariant line t s → Motion t (effects line s e ∷ s) → Authorized line t (effects line s e ∷ s)
    → controls (zone_id line) t (effects line s e ∷ s) ≡ true → grants_entry (zone_id line) t (effects line s e) ≡ true → FrontsAre line t (effects line s e ∷ s)
entry_fronts line s e t invariant m auth c g =
    let z = zone_id line in
    let x = effects line s e in
    let k = auth.controlled c in
    let new = grant_takes line s e z t g in
    let off = entered_same t x s new.1 ∙ uncontrolled_off line t s invariant.authorized new.0 in
    let l = known_long t (x ∷ s) (known_facts z t (x ∷ s)) k.facts ∙ ap (λ (f : Facts). f.long) (known_granted z t x s g) in
    let p = off_place t (now_of z (x ∷ s)) (x ∷ s) m off in
    let r = k.room in
    let w = portal_end line t (x ∷ s) auth c off in
    record {
      lo = long_of t (x ∷ s);
      hi = long_of t (x ∷ s);
      is = λ f. fronts_granted line t x s z f g ∙ (ap (λ (n : ℕ). nat_eq f n) (sym l) ∙ eq_by_order f (long_of t (x ∷ s)));
      ordered = omega arith;
      within = omega (arith, r, w);
      long = omega arith;
      low = omega (arith, p);
      high = omega (arith, p);
      early = λ h. refl;
    }
