-- What is declared of a train stays, and so do its first request for entry and that it has come on.
use Rattle.std.proofs.Common.{◌≡◌, ℕ, Option, Some, None, true, ◌∷◌, refl, sym, ◌∙◌, ap}
use Rattle.std.specs.Prelude.{is_some}
use Rattle.track_points.specs.declared.ids.DirSeg.{DirSeg}
use Rattle.definitions.specs.Story.{Transition, Story}
use Rattle.definitions.specs.World.{Facts, facts_or, facts_in, facts_of, is_declared, long_of, error_of, speed_of, entry_in, first_entry, enters, entered}
use Rattle.event_laws.proofs.Entered_same.{told_stays, ever_stays}

pub facts_stay : (t : ℕ) (e : Transition) (s : Story) → is_declared t s ≡ true → facts_of t (e ∷ s) ≡ facts_of t s
facts_stay t e s h = stays (facts_of t s) refl h
  where
    stays : (f : Option Facts) → facts_of t s ≡ f → is_some f ≡ true → facts_of t (e ∷ s) ≡ facts_of t s
    stays None k i = absurd cc
    stays (Some f) k i = told_stays (λ (x : Transition). facts_in t x.event) e s f k ∙ sym k

pub declared_stays : (t : ℕ) (e : Transition) (s : Story) → is_declared t s ≡ true → is_declared t (e ∷ s) ≡ true
declared_stays t e s h = ap (λ (f : Option Facts). is_some f) (facts_stay t e s h) ∙ h

pub long_stays : (t : ℕ) (e : Transition) (s : Story) → is_declared t s ≡ true → long_of t (e ∷ s) ≡ long_of t s
long_stays t e s h = ap (λ (f : Option Facts). (facts_or f).long) (facts_stay t e s h)

pub error_stays : (t : ℕ) (e : Transition) (s : Story) → is_declared t s ≡ true → error_of t (e ∷ s) ≡ error_of t s
error_stays t e s h = ap (λ (f : Option Facts). (facts_or f).error) (facts_stay t e s h)

pub speed_stays : (t : ℕ) (e : Transition) (s : Story) → is_declared t s ≡ true → speed_of t (e ∷ s) ≡ speed_of t s
speed_stays t e s h = ap (λ (f : Option Facts). (facts_or f).speed) (facts_stay t e s h)

pub first_stays : (t : ℕ) (e : Transition) (s : Story) (st : DirSeg) → first_entry t s ≡ Some st → first_entry t (e ∷ s) ≡ Some st
first_stays t e s st h = told_stays (λ (x : Transition). entry_in t x.event) e s st h

pub entered_stays : (t : ℕ) (e : Transition) (s : Story) → entered t s ≡ true → entered t (e ∷ s) ≡ true
entered_stays t e s h = ever_stays (λ (x : Transition). enters t x.event) e s h
