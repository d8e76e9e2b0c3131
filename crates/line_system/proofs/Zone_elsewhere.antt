-- Messages go between the world and the one zone alone.
use Rattle.std.proofs.Common.{◌≡◌, ℕ, zero, suc, ◌-◌, ◌+◌, List, length, filter, flat_map, [], ◌∷◌, Option, Some, None, Bool, true, false, ◌&&◌, not, refl, sym, ◌∙◌, ap, subst, arith, nat_eq}
use Rattle.std.proofs.lemmas.Bool.{and_parts, not-true}
use Rattle.std.proofs.lemmas.Bool.Decides.{nat_tests}
use Rattle.std.proofs.Math.Dec.{eqb-suc-zero}
use Rattle.std.proofs.lemmas.Option.{same_Some}
use Rattle.list_laws.proofs.By_test.{by_test}
use Rattle.track_points.specs.declared.ids.DirSeg.{DirSeg}
use Rattle.track_points.specs.declared.ids.TrainId.{TrainId}
use Rattle.definitions.specs.declared.event.Event.{Event}
use Rattle.definitions.specs.declared.event.Event.TheVariants.{Entry, Enter, Ask, Report, Time, Close, Open, Shorten, Take, Noise}
use Rattle.definitions.specs.declared.message.Msg.{Msg}
use Rattle.definitions.specs.declared.message.Msg.TheVariants as msg
use Rattle.definitions.specs.declared.message.Order.TheVariants as orders
use Rattle.definitions.specs.Frames.{frame_at}
use Rattle.definitions.specs.Track.{Line, zone_of, has_zone, has_segment, is_actor, begins_at_portal}
use Rattle.definitions.specs.Story.{Transition, Story, sent, to_actor, first_told, by_world, world_took}
use Rattle.definitions.specs.World.{Facts, facts_of, clock, HeldPath, taken_entry, is_declared, entry_authority}
use Rattle.definitions.specs.Premises.{built}
use Rattle.definitions.specs.Safe.{IsLineOfOneZone, Kept}
use Rattle.definitions.specs.Steps.{Effect, nothing, sender_of, entering, requesting, hearing_noise, telling, reporting, world_takes, zone_takes, transition, taking, message, effects, story_of, taken_most, takes_from, takes_lost, due, sends_to, actors, deliveries}
use Rattle.definitions.specs.Zones.{zone_id}
use Rattle.event_laws.proofs.Issued_all.{AtMostOne, says_nothing, says_one}
use Rattle.event_laws.proofs.Zone_issues.{Grants, Replies, world_issues, zone_issues}
use Rattle.event_laws.proofs.By_does.{noise_issues}
use Rattle.way_laws.proofs.Line_builds.{portal_on_line}
use Rattle.journey_laws.proofs.Zone_only.{zone_only, zone_is, actor_zone}
use Rattle.refinement_laws.proofs.The_zone.{link_to_zone}
use Rattle.line_system.proofs.Taken_next.{actor_is}

unfoldable ToAll : ℕ → List (ℕ × Msg) → Type 0
ToAll to [] = Unit {0}
ToAll to (x ∷ issued) = (x.0 ≡ to) × ToAll to issued

to_none : (r to : ℕ) (issued : List (ℕ × Msg)) → ToAll r issued → nat_eq r to ≡ false → to_actor to issued ≡ []
unfolding ToAll to_actor
to_none r to [] a h = refl
to_none r to (x ∷ issued) a h =
    let other : nat_eq x.0 to ≡ false = ap (λ (n : ℕ). nat_eq n to) a.0 ∙ h in
    rw other (to_none r to issued a.1 h)

to_one : (P : ℕ × Msg → Type 0) (r : ℕ) → ((x : ℕ × Msg) → P x → x.0 ≡ r) → (issued : List (ℕ × Msg)) → AtMostOne P issued → ToAll r issued
unfolding ToAll
to_one P r w issued (says_nothing h) = rw h tt
to_one P r w issued (says_one x h p) = rw h (w x p, tt)

-- the world sends to the zone, and takes from it; a zone is the one, and sends to the world
record Addressed (line : Line) (x : Transition) : Type 0 where
  actor : nat_eq x.actor 0 ≡ false → x.actor ≡ zone_id line
  to_zone : nat_eq x.actor 0 ≡ true → ToAll (zone_id line) x.issued
  to_world : nat_eq x.actor 0 ≡ false → ToAll 0 x.issued
  took : (y : ℕ × Msg) → nat_eq x.actor 0 ≡ true → x.took ≡ Some y → y.0 ≡ zone_id line

unfoldable AllAddressed : Line → Story → Type 0
AllAddressed line [] = Unit {0}
AllAddressed line (x ∷ s) = Addressed line x × AllAddressed line s

-- who sent the entry authority

world_took_is : (a : ℕ) (took : Option (ℕ × Msg)) (y : ℕ × Msg) → by_world a took ≡ Some y → (nat_eq a 0 ≡ true) × (took ≡ Some y)
world_took_is zero took y h = (refl, h)
world_took_is (suc a) took y h = absurd cc

taken_zone : (z t : ℕ) (took : Option (ℕ × Msg)) (h : HeldPath) → taken_entry t took ≡ Some h → ((y : ℕ × Msg) → took ≡ Some y → y.0 ≡ z) → h.zone ≡ z
taken_zone z t None h is from = absurd cc
taken_zone z t (Some (a, msg.Auth u number mark path)) h is from = by_test (nat_eq u.0 t)
    (λ y. by_test (nat_eq number 1)
    (λ one. let e = rw (y, one) at is in sym (ap (λ (x : HeldPath). x.zone) (same_Some _ h e)) ∙ from (a, msg.Auth u number mark path) refl)
    (λ o. absurd (let e = rw (y, o) at is in cc)))
    (λ n. absurd (let e = rw n at is in cc))
taken_zone z t (Some (a, _)) h is from = absurd cc

module _ (line : Line) (t : ℕ) where
  entry_zone : (s : Story) → AllAddressed line s → (h : HeldPath) → entry_authority t s ≡ Some h → h.zone ≡ zone_id line
  unfolding first_told AllAddressed
  entry_zone [] a h is = absurd cc
  entry_zone (x ∷ s) a h is = by_first (entry_authority t s) refl (entry_zone s a.1 h)
    where
      by_first : (r : Option HeldPath) → entry_authority t s ≡ r → (entry_authority t s ≡ Some h → h.zone ≡ zone_id line) → h.zone ≡ zone_id line
      by_first (Some g) e before = before (let i = rw e at is in e ∙ i)
      by_first None e before =
          let i : taken_entry t (world_took x) ≡ Some h = rw e at is in
          taken_zone (zone_id line) t (world_took x) h i (λ y k. let w = world_took_is x.actor x.took y k in a.0.took y w.0 w.1)

middle : (a b c : Bool) → (a && (b && c)) ≡ true → b ≡ true
middle a b c h = (and_parts b c (and_parts a (b && c) h).1).0

-- by event

module _ (line : Line) (one : IsLineOfOneZone line) where
  own : (e : Event) (x : Effect) → ToAll (zone_id line) x.issued → Addressed line (transition e 0 None x)
  own e x to = record { actor = λ h. absurd cc; to_zone = λ h. to; to_world = λ h. absurd cc; took = λ y h k. absurd cc }

  silent : (e : Event) (a : ℕ) → (nat_eq a 0 ≡ false → a ≡ zone_id line) → Addressed line (transition e a None nothing)
  unfolding ToAll
  silent e a is = record { actor = is; to_zone = λ h. tt; to_world = λ h. tt; took = λ y h k. absurd cc }

  told : (z : ℕ) (m : Msg) → has_zone line z ≡ true → ToAll (zone_id line) ((z, m) ∷ [])
  unfolding ToAll
  told z m h = (zone_only line z one.one h, tt)

  ordered : (seg : ℕ) (m : Msg) → has_segment line seg ≡ true → ToAll (zone_id line) ((zone_of line seg, m) ∷ [])
  unfolding ToAll
  ordered seg m h = (zone_is line seg one h, tt)

  requested : (time : ℕ) (t : TrainId) (step : DirSeg) (f : Option Facts) → begins_at_portal line step ≡ true → ToAll (zone_id line) (requesting time t step (zone_of line step.seg.0) f).issued
  unfolding ToAll
  requested time t step None h = tt
  requested time t step (Some f) h = (zone_is line step.seg.0 one (portal_on_line line step one.valid h), tt)

  entered : (time : ℕ) (t : TrainId) (h : Option HeldPath) → ((g : HeldPath) → h ≡ Some g → g.zone ≡ zone_id line) → ToAll (zone_id line) (entering time t (sender_of h)).issued
  unfolding ToAll
  entered time t None is = tt
  entered time t (Some g) is = (is g refl, tt)

  module _ (s : Story) (to from number : ℕ) (link : (not (nat_eq to from) && (is_actor line to && is_actor line from)) ≡ true) where
    taken : (r : Option Msg) → Addressed line (taking line s (Take to from number) to from r)
    taken None = silent (Take to from number) to (λ h. actor_is line to one (and_parts (is_actor line to) (is_actor line from) (and_parts (not (nat_eq to from)) (is_actor line to && is_actor line from) link).1).0 h)
    taken (Some m) = by_taker to link
      where
        by_taker : (a : ℕ) → (not (nat_eq a from) && (is_actor line a && is_actor line from)) ≡ true → Addressed line (taking line s (Take to from number) a from (Some m))
        by_taker zero k =
            let a = and_parts (not (nat_eq 0 from)) (is_actor line 0 && is_actor line from) k in
            let apart = not-true (nat_eq 0 from) a.0 in
            let off : nat_eq from 0 ≡ false = grind (arith, nat_tests) in
            let sender = actor_is line from one (and_parts (is_actor line 0) (is_actor line from) a.1).1 off in
            record {
              actor = λ h. absurd cc;
              to_zone = λ h. to_one (Replies s from) (zone_id line) (λ x r. r.to_sender ∙ sender) (world_takes line s from m).issued (world_issues line s from m);
              to_world = λ h. absurd cc;
              took = λ y h e. sym (ap (λ (x : ℕ × Msg). x.0) (same_Some (from, m) y e)) ∙ sender;
            }
        by_taker (suc z) k =
            let a = and_parts (not (nat_eq (suc z) from)) (is_actor line (suc z) && is_actor line from) k in
            record {
              actor = λ h. actor_zone line z one (and_parts (is_actor line (suc z)) (is_actor line from) a.1).0;
              to_zone = λ h. absurd (let c : true ≡ false = sym h ∙ eqb-suc-zero z in cc);
              to_world = λ h. to_one (Grants s m) 0 (λ x g. g.to_world) (zone_takes line (suc z) from s m).issued (zone_issues line (suc z) from s m);
              took = λ y h e. absurd (let c : true ≡ false = sym h ∙ eqb-suc-zero z in cc);
            }

  addressed_next : (s : Story) (e : Event) → built line s e ≡ true → AllAddressed line s → Addressed line (effects line s e)
  unfolding ToAll
  addressed_next s (Take to from number) h a = taken s to from number h (message from to number s)
  addressed_next s (Entry t step) h a =
      own (Entry t step) (requesting (clock s) t step (zone_of line step.seg.0) (facts_of t.0 s)) (requested (clock s) t step (facts_of t.0 s) (and_parts (is_declared t.0 s) (begins_at_portal line step) h).1)
  addressed_next s (Enter t) h a = own (Enter t) (entering (clock s) t (sender_of (entry_authority t.0 s))) (entered (clock s) t (entry_authority t.0 s) (entry_zone line t.0 s a))
  addressed_next s (Ask t z steps to) h a =
      let m = msg.Ask t (clock s) steps to in
      own (Ask t z steps to) (telling z.0 m) (told z.0 m (middle (is_declared t.0 s) (has_zone line z.0) _ h))
  addressed_next s (Report t z step offset whole) h a =
      let m = reporting line s t offset whole in
      own (Report t z step offset whole) (telling z.0 m) (told z.0 m (middle (is_declared t.0 s) (has_zone line z.0) _ h))
  addressed_next s (Time z t) h a =
      let m = msg.Time (clock s) t in
      own (Time z t) (telling z.0 m) (told z.0 m (and_parts (has_zone line z.0) _ h).0)
  addressed_next s (Close seg) h a =
      let m = msg.Order (clock s) (orders.Close seg) in
      own (Close seg) (telling (zone_of line seg.0) m) (ordered seg.0 m h)
  addressed_next s (Open seg) h a =
      let m = msg.Order (clock s) (orders.Open seg) in
      own (Open seg) (telling (zone_of line seg.0) m) (ordered seg.0 m h)
  addressed_next s (Shorten z t st off) h a =
      let m = msg.Order (clock s) (orders.Short t st off) in
      own (Shorten z t st off) (telling z.0 m) (told z.0 m (and_parts (has_zone line z.0) _ h).0)
  addressed_next s (Noise to from bytes) h a = own (Noise to from bytes) (hearing_noise to (frame_at bytes.items)) (subst (ToAll (zone_id line)) (sym (noise_issues to (frame_at bytes.items))) tt)
  addressed_next s e h a = own e nothing tt

  addressed_story : (es : List Event) → Kept line es → AllAddressed line (story_of line es)
  unfolding AllAddressed story_of Kept
  addressed_story [] k = tt
  addressed_story (e ∷ es) k =
      let a = addressed_story es k.1 in
      (addressed_next (story_of line es) e (and_parts (built line (story_of line es) e) _ k.0).0 a, a)

flat_none : (f : ℕ → List Event) → ((x : ℕ) → f x ≡ []) → (xs : List ℕ) → flat_map f xs ≡ []
flat_none f none [] = refl
flat_none f none (x ∷ xs) = rw (none x) (flat_none f none xs)

no_takes : (to from : ℕ) (s : Story) → sent from to s ≡ [] → due to s from ≡ []
unfolding takes_from
no_takes to from s h =
    let none : length (sent from to s) - taken_most to from s ≡ 0 = rw h (omega arith) in
    ap (λ (n : ℕ). takes_from to from (taken_most to from s + 1) n) none

-- where no transition sends none went out
sent_none : (line : Line) (from to : ℕ) (s : Story) → ((x : Transition) → Addressed line x → nat_eq x.actor from ≡ true → to_actor to x.issued ≡ []) → AllAddressed line s → sent from to s ≡ []
unfolding AllAddressed sent
sent_none line from to [] none a = refl
sent_none line from to (x ∷ s) none a =
    let i = sent_none line from to s none a.1 in
    by_test (nat_eq x.actor from)
    (λ y. rw (y, i, none x a.0 y) refl)
    (λ n. rw n i)

module _ (line : Line) (one : IsLineOfOneZone line) (es : List Event) (k : Kept line es) where
  pub world_elsewhere : (to : ℕ) → nat_eq to (zone_id line) ≡ false → sent 0 to (story_of line es) ≡ []
  world_elsewhere to h = sent_none line 0 to (story_of line es)
      (λ x a is. to_none (zone_id line) to x.issued (a.to_zone is) (grind (arith, nat_tests)))
      (addressed_story line one es k)

  pub zone_elsewhere : (from to : ℕ) → nat_eq from 0 ≡ false → nat_eq to 0 ≡ false → sent from to (story_of line es) ≡ []
  zone_elsewhere from to f h = sent_none line from to (story_of line es)
      (λ x a is. to_none 0 to x.issued (a.to_world (grind (arith, nat_tests))) (grind (arith, nat_tests)))
      (addressed_story line one es k)

  pub other_elsewhere : (from to : ℕ) → nat_eq from 0 ≡ false → nat_eq from (zone_id line) ≡ false → sent from to (story_of line es) ≡ []
  other_elsewhere from to f h = sent_none line from to (story_of line es)
      (λ x a is.
      let off : nat_eq x.actor 0 ≡ false = grind (arith, nat_tests) in
      let zone = a.actor off in
      absurd (let c : nat_eq from (zone_id line) ≡ true = grind (arith, nat_tests) in cc))
      (addressed_story line one es k)

  -- so nothing is due to who is no actor of the line
  pub none_due : (to : ℕ) → is_actor line to ≡ false → deliveries line (story_of line es) to ≡ []
  none_due to off =
      let s : Story = story_of line es in
      let apart : nat_eq to 0 ≡ false = by_test (nat_eq to 0)
      (λ y. absurd (let c : true ≡ false = rw y at off in cc))
      (λ n. n) in
      let other : nat_eq to (zone_id line) ≡ false = by_test (nat_eq to (zone_id line))
      (λ y.
      let there : to ≡ zone_id line = grind (arith, nat_tests) in
      let actor : is_actor line to ≡ true = rw there (and_parts (is_actor line (zone_id line)) (is_actor line 0) (and_parts (not (nat_eq (zone_id line) 0)) (is_actor line (zone_id line) && is_actor line 0) (link_to_zone line one)).1).0 in
      absurd (let c : true ≡ false = sym actor ∙ off in cc))
      (λ n. n) in
      ap (λ (xs : List Event). filter (λ e. not (takes_lost s e)) xs) (flat_none (due to s) (λ from. no_takes to from s (by_test (nat_eq from 0)
      (λ y. let world : from ≡ 0 = grind (arith, nat_tests) in rw world (world_elsewhere to other))
      (λ n. zone_elsewhere from to n apart))) (filter (sends_to line to) actors))
