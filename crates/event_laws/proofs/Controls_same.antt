-- Who controls a train, what is known of it, and Now, transition by transition. Nothing ends control yet, so that a zone controls the trains that it knows.
use Rattle.std.proofs.Common.{◌≡◌, ℕ, [], ◌∷◌, max, Some, None, Bool, true, false, ◌||◌, refl, sym, ◌∙◌, ap}
use Rattle.std.specs.Prelude.{nat_eq}
use Rattle.std.proofs.lemmas.Bool.{or_right}
use Rattle.list_laws.proofs.By_test.{by_test}
use Rattle.definitions.specs.Track.{Line}
use Rattle.definitions.specs.Ways.{PlainWay}
use Rattle.definitions.specs.Story.{Transition, Story, ever}
use Rattle.definitions.specs.Control.{grants_entry, controls, knows, asked_facts, known_train, known_facts, now_of, took_time}
use Rattle.definitions.specs.Fronts.{report_time}
use Rattle.definitions.specs.Authority.{way}

pub controls_knows : (z t : ℕ) (s : Story) → controls z t s ≡ knows z t s
unfolding controls ever
controls_knows z t [] = refl
controls_knows z t (e ∷ s) = ap (λ (b : Bool). grants_entry z t e || b) (controls_knows z t s)

pub controls_same : (z t : ℕ) (e : Transition) (s : Story) → grants_entry z t e ≡ false → controls z t (e ∷ s) ≡ controls z t s
unfolding controls
controls_same z t e s h = rw h refl

pub controls_now : (z t : ℕ) (e : Transition) (s : Story) → grants_entry z t e ≡ true → controls z t (e ∷ s) ≡ true
unfolding controls
controls_now z t e s h = rw h refl

pub controls_stays : (z t : ℕ) (e : Transition) (s : Story) → controls z t s ≡ true → controls z t (e ∷ s) ≡ true
unfolding controls
controls_stays z t e s h = or_right (grants_entry z t e) (controls z t s) h

pub known_granted : (z t : ℕ) (x : Transition) (s : Story) → grants_entry z t x ≡ true → known_facts z t (x ∷ s) ≡ asked_facts x.took
unfolding known_train
known_granted z t x s h = rw (h, known_facts) refl

pub known_same : (z t : ℕ) (x : Transition) (s : Story) → grants_entry z t x ≡ false → known_facts z t (x ∷ s) ≡ known_facts z t s
unfolding known_train
known_same z t x s h = rw (h, known_facts) refl

pub now_idle : (z : ℕ) (x : Transition) (s : Story) → nat_eq x.actor z ≡ false → now_of z (x ∷ s) ≡ now_of z s
unfolding now_of
now_idle z x s n = rw n refl

pub now_acted : (z : ℕ) (x : Transition) (s : Story) → nat_eq x.actor z ≡ true → now_of z (x ∷ s) ≡ max (now_of z s) (took_time x.took)
unfolding now_of
now_acted z x s y = rw y refl

pub controls_before : (z t : ℕ) (x : Transition) (s : Story) → grants_entry z t x ≡ false → controls z t (x ∷ s) ≡ true → controls z t s ≡ true
controls_before z t x s h c = sym (controls_same z t x s h) ∙ c

-- the time of the last report, at a transition of another actor
pub report_idle : (line : Line) (z t : ℕ) (x : Transition) (s : Story) → grants_entry z t x ≡ false → nat_eq x.actor z ≡ false → report_time line z t (x ∷ s) ≡ report_time line z t s
unfolding report_time
report_idle line z t x s h n = rw (h, n) refl

-- a way is that of a controlled train
pub way_controls : (line : Line) (z t : ℕ) (s : Story) (w : PlainWay) → way line z t s ≡ Some w → controls z t s ≡ true
way_controls line z t s w is = by_test (controls z t s)
    (λ y. y)
    (λ n. absurd (let c : None ≡ Some w = rw n at is in cc))
