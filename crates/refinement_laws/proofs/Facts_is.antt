-- What the plain state tells of a train is what the story tells.
use Rattle.std.proofs.Common.{◌≡◌, ℕ, ◌-◌, Option, Some, None, true, false, refl, sym, ◌∙◌, ap, arith}
use Rattle.std.specs.Prelude.{is_some}
use Rattle.list_laws.proofs.By_test.{by_test}
use Rattle.track_points.specs.declared.ids.DirSeg.{DirSeg}
use Rattle.track_points.specs.Points.{Lengths}
use Rattle.definitions.specs.Track.{Line, seg_len}
use Rattle.definitions.specs.Story.{Story}
use Rattle.definitions.specs.Ways.{PlainWay}
use Rattle.definitions.specs.World.{Facts, facts_or, facts_of, is_declared, error_of, speed_of, first_entry, entered, head, HeldPath, entry_authority, last_number, last_taken, limit_place}
use Rattle.definitions.specs.Control.{controls}
use Rattle.definitions.specs.Authority.{way}
use Rattle.definitions.specs.Steps.{sender_of}
use Rattle.plain_state.specs.declared.Head.{Head}
use Rattle.plain_state.specs.declared.WorldTrain.{WorldTrain}
use Rattle.plain_state.specs.declared.Pace.{Pace}
use Rattle.onboard.specs.declared.onboard.Onboard.{Onboard}
use Rattle.plain_state.specs.World.{find_train, facts_found, entry_found, sender_found, authorized_found, head_found, on_found, number_found, taken_found, room_found, error_found, speed_found}
use Rattle.definitions.specs.Zones.{zone_id}
use Rattle.plain_state.specs.Plain.{Plain}
use Rattle.plain_state.specs.Refinement.{mm_of_entry, head_of, onboard_of, world_of, Refines}
use Rattle.journey_laws.proofs.Invariant.{Invariant}

-- A train that the zone does not control has no way, and one that it controls has.

pub no_way : (line : Line) (z t : ℕ) (s : Story) → controls z t s ≡ false → way line z t s ≡ None
no_way line z t s n = rw n refl

pub way_is_known : (line : Line) (z t : ℕ) (s : Story) → is_some (way line z t s) ≡ controls z t s
way_is_known line z t s = by_test (controls z t s) (λ y. rw y refl) (λ n. rw n refl)

pub no_way_unknown : (line : Line) (z t : ℕ) (s : Story) → way line z t s ≡ None → controls z t s ≡ false
no_way_unknown line z t s h = sym (way_is_known line z t s) ∙ ap (λ (x : Option PlainWay). is_some x) h

-- What is found of a train of the world.

facts_of_world : (t : ℕ) (f : Option Facts) (e : Option DirSeg) (a : Option ℕ) (h : Option Head) (p : Pace) (o : Onboard) → facts_found (world_of t f e a h p o) ≡ f
facts_of_world t None e a h p o = refl
facts_of_world t (Some f) e a h p o = refl

some_of_world : (t : ℕ) (f : Option Facts) (e : Option DirSeg) (a : Option ℕ) (h : Option Head) (p : Pace) (o : Onboard) → is_some (world_of t f e a h p o) ≡ is_some f
some_of_world t None e a h p o = refl
some_of_world t (Some f) e a h p o = refl

entry_of_world : (t : ℕ) (f : Option Facts) (e : Option DirSeg) (a : Option ℕ) (h : Option Head) (p : Pace) (o : Onboard) → (is_some f ≡ false → e ≡ None) → entry_found (world_of t f e a h p o) ≡ e
entry_of_world t None e a h p o none = sym (none refl)
entry_of_world t (Some f) e a h p o none = refl

sender_of_world : (t : ℕ) (f : Option Facts) (e : Option DirSeg) (a : Option ℕ) (h : Option Head) (p : Pace) (o : Onboard) → (is_some f ≡ false → a ≡ None) → sender_found (world_of t f e a h p o) ≡ a
sender_of_world t None e a h p o none = sym (none refl)
sender_of_world t (Some f) e a h p o none = refl

authorized_of_world : (t : ℕ) (f : Option Facts) (e : Option DirSeg) (a : Option ℕ) (h : Option Head) (p : Pace) (o : Onboard) → (is_some f ≡ false → o.entry ≡ None) → authorized_found (world_of t f e a h p o) ≡ is_some o.entry
authorized_of_world t None e a h p o none = ap (λ (x : Option ℕ). is_some x) (sym (none refl))
authorized_of_world t (Some f) e a h p o none = refl

head_of_world : (t : ℕ) (f : Option Facts) (e : Option DirSeg) (a : Option ℕ) (h : Option Head) (p : Pace) (o : Onboard) → (is_some f ≡ false → h ≡ None) → head_found (world_of t f e a h p o) ≡ h
head_of_world t None e a h p o none = sym (none refl)
head_of_world t (Some f) e a h p o none = refl

number_of_world : (t : ℕ) (f : Option Facts) (e : Option DirSeg) (a : Option ℕ) (h : Option Head) (p : Pace) (o : Onboard) → (is_some f ≡ false → o.last ≡ 0) → number_found (world_of t f e a h p o) ≡ o.last
number_of_world t None e a h p o none = sym (none refl)
number_of_world t (Some f) e a h p o none = refl

taken_of_world : (t : ℕ) (f : Option Facts) (e : Option DirSeg) (a : Option ℕ) (h : Option Head) (p : Pace) (o : Onboard) → is_some f ≡ true → taken_found (world_of t f e a h p o) ≡ o.taken
taken_of_world t None e a h p o some = absurd cc
taken_of_world t (Some f) e a h p o some = refl

room_of_world : (t : ℕ) (f : Option Facts) (e : Option DirSeg) (a : Option ℕ) (h : Option Head) (p : Pace) (o : Onboard) → is_some f ≡ true → room_found (world_of t f e a h p o) ≡ o.room
room_of_world t None e a h p o some = absurd cc
room_of_world t (Some f) e a h p o some = refl

error_of_world : (t : ℕ) (f : Option Facts) (e : Option DirSeg) (a : Option ℕ) (h : Option Head) (p : Pace) (o : Onboard) → error_found (world_of t f e a h p o) ≡ (facts_or f).error
error_of_world t None e a h p o = refl
error_of_world t (Some f) e a h p o = refl

speed_of_world : (t : ℕ) (f : Option Facts) (e : Option DirSeg) (a : Option ℕ) (h : Option Head) (p : Pace) (o : Onboard) → speed_found (world_of t f e a h p o) ≡ (facts_or f).speed
speed_of_world t None e a h p o = refl
speed_of_world t (Some f) e a h p o = refl

pub some_mm : (len : Lengths) (a : Option HeldPath) → is_some (mm_of_entry len a) ≡ is_some a
some_mm len None = refl
some_mm len (Some a) = refl

-- a train without facts has none of the rest
pub undeclared : (line : Line) (t : ℕ) (s : Story) → Invariant line t s → is_declared t s ≡ false → controls (zone_id line) t s ≡ false
undeclared line t s invariant h = by_test (controls (zone_id line) t s)
    (λ y. absurd (let c : true ≡ false = sym ((invariant.authorized.controlled y).declared) ∙ h in cc))
    (λ n. n)

pub no_entry_authority : (line : Line) (t : ℕ) (s : Story) → Invariant line t s → is_declared t s ≡ false → entry_authority t s ≡ None
no_entry_authority line t s invariant h = none (entry_authority t s) refl
  where
    none : (a : Option HeldPath) → entry_authority t s ≡ a → a ≡ None
    none None e = refl
    none (Some a) e = absurd (let c : true ≡ false = sym ((invariant.authorized.entry a e).path.declared) ∙ h in cc)

pub no_number : (line : Line) (t : ℕ) (s : Story) → Invariant line t s → is_declared t s ≡ false → last_number t s ≡ 0
no_number line t s invariant h =
    let a = invariant.authorized.last_most in
    let b = invariant.authorized.unknown (undeclared line t s invariant h) in
    omega (arith, a, b)

some_head : (line : Line) (t : ℕ) (s : Story) → is_some (head_of line t s) ≡ entered t s
some_head line t s = by_test (entered t s) (λ y. rw y refl) (λ n. rw n refl)

module _ (line : Line) (s : Story) (p : Plain) (k : Refines line s p) (invariant : (t : ℕ) → Invariant line t s) where
  pub facts_is : (t : ℕ) → facts_found (find_train t p.world.trains) ≡ facts_of t s
  facts_is t = ap (λ (x : Option WorldTrain). facts_found x) (k.trains t) ∙ facts_of_world t (facts_of t s) _ _ _ _ _

  pub declared_is : (t : ℕ) → is_some (find_train t p.world.trains) ≡ is_declared t s
  declared_is t = ap (λ (x : Option WorldTrain). is_some x) (k.trains t) ∙ some_of_world t (facts_of t s) _ _ _ _ _

  pub entry_is : (t : ℕ) → entry_found (find_train t p.world.trains) ≡ first_entry t s
  entry_is t = ap (λ (x : Option WorldTrain). entry_found x) (k.trains t) ∙ entry_of_world t (facts_of t s) (first_entry t s) _ _ _ _ (k.unasked t)

  pub sender_is : (t : ℕ) → sender_found (find_train t p.world.trains) ≡ sender_of (entry_authority t s)
  sender_is t = ap (λ (x : Option WorldTrain). sender_found x) (k.trains t)
      ∙ sender_of_world t (facts_of t s) _ (sender_of (entry_authority t s)) _ _ _ (λ h. ap (λ (a : Option HeldPath). sender_of a) (no_entry_authority line t s (invariant t) h))

  pub authorized_is : (t : ℕ) → authorized_found (find_train t p.world.trains) ≡ is_some (entry_authority t s)
  authorized_is t = ap (λ (x : Option WorldTrain). authorized_found x) (k.trains t)
      ∙ (authorized_of_world t (facts_of t s) _ _ _ _ (onboard_of line t s) (λ h. ap (λ (a : Option HeldPath). mm_of_entry (seg_len line) a) (no_entry_authority line t s (invariant t) h))
      ∙ some_mm (seg_len line) (entry_authority t s))

  pub head_is : (t : ℕ) → head_found (find_train t p.world.trains) ≡ head_of line t s
  head_is t = ap (λ (x : Option WorldTrain). head_found x) (k.trains t) ∙ head_of_world t (facts_of t s) _ _ (head_of line t s) _ _ (λ h. rw (k.stays_off t h) refl)

  pub on_is : (t : ℕ) → on_found (find_train t p.world.trains) ≡ entered t s
  on_is t = ap (λ (x : Option Head). is_some x) (head_is t) ∙ some_head line t s

  pub number_is : (t : ℕ) → number_found (find_train t p.world.trains) ≡ last_number t s
  number_is t = ap (λ (x : Option WorldTrain). number_found x) (k.trains t) ∙ number_of_world t (facts_of t s) _ _ _ _ (onboard_of line t s) (no_number line t s (invariant t))

  pub taken_is : (t : ℕ) → is_declared t s ≡ true → taken_found (find_train t p.world.trains) ≡ last_taken line t s
  taken_is t d = ap (λ (x : Option WorldTrain). taken_found x) (k.trains t) ∙ taken_of_world t (facts_of t s) _ _ _ _ (onboard_of line t s) d

  pub room_is : (t : ℕ) → is_declared t s ≡ true → room_found (find_train t p.world.trains) ≡ limit_place line t s - head t s
  room_is t d = ap (λ (x : Option WorldTrain). room_found x) (k.trains t) ∙ room_of_world t (facts_of t s) _ _ _ _ (onboard_of line t s) d

  pub error_is : (t : ℕ) → error_found (find_train t p.world.trains) ≡ error_of t s
  error_is t = ap (λ (x : Option WorldTrain). error_found x) (k.trains t) ∙ error_of_world t (facts_of t s) _ _ _ _ _

  pub speed_is : (t : ℕ) → speed_found (find_train t p.world.trains) ≡ speed_of t s
  speed_is t = ap (λ (x : Option WorldTrain). speed_found x) (k.trains t) ∙ speed_of_world t (facts_of t s) _ _ _ _ _
