-- What is declared of a train is in its ranges.
use Rattle.std.proofs.Common.{◌≡◌, ℕ, ◌≤◌, ◌<◌, List, [], ◌∷◌, Option, Some, None, true, refl, sym, ◌∙◌, ap, arith}
use Rattle.std.proofs.lemmas.Bool.{and_parts}
use Rattle.std.proofs.lemmas.Bool.Decides.{nat_tests}
use Rattle.std.specs.Prelude.{nat_eq, nat_lt, is_some}
use Rattle.list_laws.proofs.By_test.{by_test}
use Rattle.definitions.specs.declared.event.Event.{Event}
use Rattle.definitions.specs.declared.event.Event.TheVariants.{Train}
use Rattle.definitions.specs.Track.{Line, ranged}
use Rattle.definitions.specs.Story.{Story, or_else, first_told}
use Rattle.definitions.specs.World.{Facts, facts_in, facts_of, is_declared}
use Rattle.definitions.specs.Premises.{built}
use Rattle.definitions.specs.Steps.{effects, story_of}
use Rattle.definitions.specs.Safe.{Kept}
use Rattle.event_laws.proofs.Admitted.{admitted}
use Rattle.event_laws.proofs.By_does.{effect_event}

pub record FactsInRange (t : ℕ) (f : Facts) : Type 0 where
  pub some : 1 ≤ t
  pub id : t ≤ 65535
  pub long_some : 1 ≤ f.long
  pub long : f.long ≤ 1000000
  pub error : f.error < f.long
  pub speed_some : 1 ≤ f.speed
  pub speed : f.speed ≤ 60000

built_in : (line : Line) (s : Story) (e : Event) (t : ℕ) (f : Facts) → built line s e ≡ true → facts_in t e ≡ Some f → FactsInRange t f
built_in line s (Train u long error speed kind) t f h is = by_test (nat_eq u.0 t)
    (λ y.
    let a = and_parts (ranged 1 65535 u.0) _ h in
    let b = and_parts (ranged 1 1000000 long) _ a.1 in
    let c = and_parts (nat_lt error long) _ b.1 in
    let d = and_parts (ranged 1 60000 speed) _ c.1 in
    let id = a.0 in
    let length = b.0 in
    let off = c.0 in
    let fast = d.0 in
    let facts : record { long = long; error = error; speed = speed } ≡ f = let e : Some (record { long = long; error = error; speed = speed }) ≡ Some f = rw y at is in cc in
    rw (← facts) (record {
      some = grind (arith, nat_tests);
      id = grind (arith, nat_tests);
      long_some = grind (arith, nat_tests);
      long = grind (arith, nat_tests);
      error = grind (arith, nat_tests);
      speed_some = grind (arith, nat_tests);
      speed = grind (arith, nat_tests);
    }))
    (λ n. absurd (let e : None ≡ Some f = rw n at is in cc))
built_in line s _ t f h is = absurd cc

first_in : (t : ℕ) (old now : Option Facts) (f : Facts) → ((g : Facts) → old ≡ Some g → FactsInRange t g) → ((g : Facts) → now ≡ Some g → FactsInRange t g) → or_else old now ≡ Some f → FactsInRange t f
first_in t (Some g) now f before new is = before f is
first_in t None now f before new is = new f is

pub facts_in_range : (line : Line) (es : List Event) → Kept line es → (t : ℕ) (f : Facts) → facts_of t (story_of line es) ≡ Some f → FactsInRange t f
unfolding story_of Kept first_told
facts_in_range line [] k t f is = absurd cc
facts_in_range line (e ∷ es) k t f is =
    let s : Story = story_of line es in
    first_in t (facts_of t s) (facts_in t (effects line s e).event) f (facts_in_range line es k.1 t)
    (λ g h. built_in line s e t g (admitted line s e k.0).form (ap (λ (x : Event). facts_in t x) (sym (effect_event line s e)) ∙ h)) is

pub found_facts : (t : ℕ) (s : Story) → is_declared t s ≡ true → (f : Facts) × (facts_of t s ≡ Some f)
found_facts t s h = found (facts_of t s) refl h
  where
    found : (o : Option Facts) → facts_of t s ≡ o → is_some o ≡ true → (f : Facts) × (facts_of t s ≡ Some f)
    found None is h = absurd cc
    found (Some f) is h = (f, is)
