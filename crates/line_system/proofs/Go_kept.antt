-- What the state of a system tells of its story.
use Rattle.std.proofs.Common.{◌≡◌, ℕ, zero, suc, ◌+◌, ◌-◌, ◌*◌, ◌^◌, ◌<◌, ◌≤◌, Bool, true, false, ◌&&◌, ◌||◌, not, List, [], ◌∷◌, ◌++◌, length, Option, Some, None, refl, sym, ap, subst, ◌∙◌, arith, nat_eq, reverse}
use Rattle.std.specs.Prelude.{is_some, slice_get, if◌then◌else◌}
use Rattle.std.proofs.Math.Dec.{eqb-suc-zero}
use Rattle.std.proofs.lemmas.List.{reverse-append, length-reverse}
use Rattle.std.proofs.lemmas.Bool.{and_parts, not-true}
use Rattle.std.proofs.lemmas.Bool.Decides.{nat_tests}
use Rattle.definitions.specs.declared.event.Event.{Event}
use Rattle.definitions.specs.declared.event.Event.TheVariants.{Train, Step, Take, Deliver}
use Rattle.definitions.specs.declared.message.Msg.{Msg}
use Rattle.definitions.specs.Track.{Line, ranged, has_zone, is_actor}
use Rattle.definitions.specs.Story.{Story, sent}
use Rattle.definitions.specs.Safe.{IsLineOfOneZone, Kept}
use Rattle.definitions.specs.Trace.{stands_for, event_limit}
use Rattle.definitions.specs.Premises.{ascending, built, too_many, premise_of, admits}
use Rattle.definitions.specs.Steps.{Effect, effects, story_of, taken_most, is_lost, deliveries}
use Rattle.definitions.specs.Zones.{zone_id}
use Rattle.plain_state.specs.Plain.{Plain, is_link, takes_but, plain_effect}
use Rattle.plain_state.specs.Admits.{plain_built, plain_too_many, plain_premise}
use Rattle.world_sim.specs.World.{StepFits, IsBuilt, IsWorldOn}
use Rattle.zone_state.specs.Zone.{ZoneKept, IsZoneOn}
use Rattle.journey_laws.proofs.Invariant.{Invariant}
use Rattle.step_laws.proofs.Invariant_story.{invariant_story}
use Rattle.refinement_laws.proofs.Refines_next.{built_is, too_many_is, premise_is, effect_is, refines_next, issued_fit}
use Rattle.line_system.specs.History.{History}
use Rattle.line_state.specs.State.{Tally, Parts, links_of, plain_of, parts_next, tally_behind, counted, lost_to, TakenInRange, EventInRange, due_of}
use Rattle.line_state.specs.Frames.{AllFit}
use Rattle.line_system.specs.Kept.{KeepsLost, IsKept}
use Rattle.line_state.proofs.Read_there.{all_fit}
use Rattle.line_system.proofs.Zone_elsewhere.{world_elsewhere, zone_elsewhere, other_elsewhere, none_due}
use Rattle.line_system.proofs.Count_next.{both_next, count_next}
use Rattle.event_laws.proofs.Messages_most.{messages_most}
use Rattle.event_laws.proofs.Clock_most.{clock_most}
use Rattle.line_system.proofs.In_range.{in_range}
use Rattle.line_system.proofs.Parts_refined.{own_id, from_world, from_zone, parts_refined}
use Rattle.line_system.proofs.Taken_next.{actor_is, taken_next}
use Rattle.refinement_laws.proofs.Facts_is.{declared_is}
use Rattle.plain_state.specs.World.{find_train}
use Rattle.definitions.specs.World.{is_declared}
use Rattle.refinement_laws.proofs.The_zone.{zone_positive, link_to_zone, link_to_world}
use Rattle.list_laws.proofs.By_test.{by_test}
use Rattle.line_system.proofs.Sent_few.{sent_few}
use Rattle.plain_state.specs.Refinement.{Refines}
use Rattle.refinement_laws.proofs.Deliveries_zone.{deliveries_zone, deliveries_world}
use Rattle.journey_laws.proofs.Zone_only.{zone_only}

sounds : (line : Line) → IsLineOfOneZone line → (t : ℕ) → (ts : List Event) → Kept line ts → Invariant line t (story_of line ts)
sounds line l t ts h = invariant_story line t ts l h

pub built_plain : (line : Line) (es : List Event) (p : Parts) (u : Tally) (z : ZoneKept) (e : Event) → IsKept line es p u z → plain_built line (plain_of p) e ≡ built line (story_of line es) e
built_plain line es p u z e k = sym (built_is line es (plain_of p) e k.one_zone k.kept k.refines (sounds line k.one_zone))

pub too_many_plain : (line : Line) (es : List Event) (p : Parts) (u : Tally) (z : ZoneKept) (e : Event) → IsKept line es p u z → plain_too_many (plain_of p) e ≡ too_many (story_of line es) e
too_many_plain line es p u z e k = sym (too_many_is line es (plain_of p) e k.one_zone k.kept k.refines (sounds line k.one_zone))

pub premise_plain : (line : Line) (es : List Event) (p : Parts) (u : Tally) (z : ZoneKept) (e : Event) → IsKept line es p u z → built line (story_of line es) e ≡ true → plain_premise (plain_of p) e ≡ premise_of line (story_of line es) e
premise_plain line es p u z e k b = sym (premise_is line es (plain_of p) e k.one_zone k.kept k.refines (sounds line k.one_zone) b)

pub declared_plain : (line : Line) (es : List Event) (p : Parts) (u : Tally) (z : ZoneKept) (t : ℕ) → IsKept line es p u z → is_some (find_train t (plain_of p).world.trains) ≡ is_declared t (story_of line es)
declared_plain line es p u z t k = declared_is line (story_of line es) (plain_of p) k.refines (λ i. sounds line k.one_zone i es k.kept) t

all_three : (a b c : Bool) → a ≡ true → b ≡ false → c ≡ true → (a && (not b && c)) ≡ true
all_three a b c h k l = grind arith

is_admitted : (line : Line) (es : List Event) (e : Event) → built line (story_of line es) e ≡ true → too_many (story_of line es) e ≡ false → premise_of line (story_of line es) e ≡ 0
    → admits line (story_of line es) e ≡ true
is_admitted line es e b m h = all_three (built line (story_of line es) e) (too_many (story_of line es) e) (nat_eq (premise_of line (story_of line es) e) 0) b m (rw h refl)

-- an event that goes, over a history and its state
pub record Goes (h : History) (line : Line) (xs : List Event) (p : Parts) (u : Tally) (z : ZoneKept) (e : Event) : Type 0 where
  pub view : record { line = line; events = reverse xs } ≡ h
  pub keeps : IsKept line (reverse xs) p u z
  pub few : length xs < 200000
  pub built : built h.line (story_of h.line h.events) e ≡ true
  pub within : too_many (story_of h.line h.events) e ≡ false
  pub kept : premise_of h.line (story_of h.line h.events) e ≡ 0

-- the same fields keep the same
pub kept_same : (line : Line) (xs ys : List Event) (p q : Parts) (u v : Tally) (z y : ZoneKept) → ys ≡ xs → q ≡ p → v ≡ u → y ≡ z → IsKept line (reverse xs) p u z → IsKept line (reverse ys) q v y
kept_same line xs ys p q u v z y events parts taken zone k =
    subst (λ (es : List Event). IsKept line (reverse es) q v y) (sym events)
    (subst (λ (r : Parts). IsKept line (reverse xs) r v y) (sym parts)
    (subst (λ (w : Tally). IsKept line (reverse xs) p w y) (sym taken)
    (subst (λ (x : ZoneKept). IsKept line (reverse xs) p u x) (sym zone) k)))

pub reverse_next : (es : List Event) (e : Event) → reverse (es ++ e ∷ []) ≡ e ∷ reverse es
reverse_next es e = reverse-append es (e ∷ [])

abbrev pub as_history : Line → List Event → History
as_history line es = record { line = line; events = es }

-- an event that is built has the form that the world needs
form_fits : (line : Line) (s : Story) (e : Event) → built line s e ≡ true → IsBuilt e
form_fits line s (Train t long error speed kind) h = grind (arith, nat_tests)
form_fits line s (Step ms moves) h = (and_parts (ascending 0 moves.items) _ (and_parts (ranged 1 60000 ms) _ h).1).0
form_fits line s _ h = tt

-- an event that goes, once the fields of the system are these, which are the same
pub goes_same : (h : History) (line : Line) (xs ys : List Event) (p q : Parts) (u v : Tally) (z y : ZoneKept) (e : Event)
    → record { line = line; events = reverse xs } ≡ h → IsKept line (reverse xs) p u z → length xs < 200000
    → ys ≡ xs → q ≡ p → v ≡ u → y ≡ z
    → built h.line (story_of h.line h.events) e ≡ true → too_many (story_of h.line h.events) e ≡ false → premise_of h.line (story_of h.line h.events) e ≡ 0
    → Goes h line ys q v y e
goes_same h line xs ys p q u v z y e view keeps few events parts taken zone built within kept = record {
  view = ap (λ (es : List Event). as_history line (reverse es)) events ∙ view;
  keeps = kept_same line xs ys p q u v z y events parts taken zone keeps;
  few = subst (λ (es : List Event). length es < 200000) (sym events) few;
  built = built;
  within = within;
  kept = kept;
}

-- a declaration that is built and within the limit fits the world, and a step its clock
step_fits : (line : Line) (p : Plain) (e : Event) (n : ℕ) → plain_built line p e ≡ true → plain_too_many p e ≡ false → p.world.clock ≤ 60000 * n → n < 200000 → StepFits p.world e
step_fits line p (Train t long error speed kind) n b m c few = (grind (arith, nat_tests), grind (arith, nat_tests))
step_fits line p (Step ms moves) n b m c few = let most : ms ≤ 60000 = grind (arith, nat_tests) in omega arith
step_fits line p _ n b m c few = tt

message_in_range : (line : Line) (s : Story) (from to k : ℕ) (r : Option Msg) → ((t : ℕ) → Invariant line t s) → slice_get (sent from to s) k ≡ r → TakenInRange r
message_in_range line s from to k None invariant h = tt
message_in_range line s from to k (Some m) invariant h = in_range line s from to k m invariant h

-- the message that an event takes has its fields in their ranges
event_in_range : (line : Line) (s : Story) (p : Plain) (e : Event) → Refines line s p → ((t : ℕ) → Invariant line t s) → built line s e ≡ true → EventInRange p e
event_in_range line s p (Take to from number) k invariant h =
    message_in_range line s from to (number - 1) (slice_get (p.links from to) (number - 1)) invariant (ap (λ (ms : List Msg). slice_get ms (number - 1)) (sym (k.links from to h)))
event_in_range line s p _ k invariant h = tt

module _ (h : History) (line : Line) (xs : List Event) (p : Parts) (u : Tally) (z : ZoneKept) (e : Event) (g : Goes h line xs p u z e) where
  few_now : length (reverse xs) < 200000
  few_now = rw (length-reverse xs) g.few

  built_now : built line (story_of line (reverse xs)) e ≡ true
  built_now = subst (λ (y : History). built y.line (story_of y.line y.events) e ≡ true) (sym g.view) g.built

  within_now : too_many (story_of line (reverse xs)) e ≡ false
  within_now = subst (λ (y : History). too_many (story_of y.line y.events) e ≡ false) (sym g.view) g.within

  kept_now : premise_of line (story_of line (reverse xs)) e ≡ 0
  kept_now = subst (λ (y : History). premise_of y.line (story_of y.line y.events) e ≡ 0) (sym g.view) g.kept

  admitted_now : admits line (story_of line (reverse xs)) e ≡ true
  admitted_now = is_admitted line (reverse xs) e built_now within_now kept_now

  effect_now : ((effects line (story_of line (reverse xs)) e).issued ≡ (plain_effect line (plain_of p) e).issued) × ((effects line (story_of line (reverse xs)) e).lines ≡ (plain_effect line (plain_of p) e).lines)
  effect_now = effect_is line (reverse xs) (plain_of p) e g.keeps.one_zone (let f = few_now in omega arith) g.keeps.kept admitted_now g.keeps.refines (sounds line g.keeps.one_zone)

  pub go_kept : (ys : List Event) (q : Parts) (v : Tally) (y : ZoneKept) (x : Effect) → ys ≡ xs ++ e ∷ [] → q ≡ parts_next line p e → x ≡ plain_effect line (plain_of p) e → v ≡ counted (length x.issued) (tally_behind e u) → IsZoneOn line y → IsWorldOn line q.world
      → IsKept line (reverse ys) q v y
  unfolding Kept story_of
  go_kept ys q v y x more n gives t on world =
      let s : Story = story_of line (reverse xs) in
      let positive = zone_positive line g.keeps.one_zone in
      let ordinals = taken_next line s e u g.keeps.one_zone positive built_now g.keeps.taken_zone g.keeps.taken_world in
      let lost = both_next line s e u g.keeps.one_zone positive built_now (record { zone = g.keeps.lost_zone; world = g.keeps.lost_world }) in
      let few = few_now in
      rw (more, reverse_next xs e) (record {
        one_zone = g.keeps.one_zone;
        kept = (admitted_now, g.keeps.kept);
        few = omega arith;
        refines = rw n (parts_refined line (effects line s e ∷ s) g.keeps.one_zone p (own_id line s p g.keeps.one_zone g.keeps.refines) s e built_now
            (refines_next line (reverse xs) (plain_of p) e g.keeps.one_zone (omega arith) g.keeps.kept admitted_now g.keeps.refines (sounds line g.keeps.one_zone)));
        taken_zone = ap (λ (z : Tally). z.by_zone) t ∙ ordinals.0;
        taken_world = ap (λ (z : Tally). z.by_world) t ∙ ordinals.1;
        lost_zone = subst (λ (z : Tally). KeepsLost z.lost_to_zone 0 (zone_id line) (effects line s e ∷ s)) (sym t) lost.zone;
        lost_world = subst (λ (z : Tally). KeepsLost z.lost_to_world (zone_id line) 0 (effects line s e ∷ s)) (sym t) lost.world;
        count = ap (λ (z : Tally). z.messages) t ∙ count_next line s e u x.issued (ap (λ (z : Effect). z.issued) gives ∙ sym effect_now.0) g.keeps.count;
        on_line = on;
        world_on = world;
      })

  pub go_frames : AllFit (plain_effect line (plain_of p) e).issued
  go_frames = all_fit (plain_effect line (plain_of p) e).issued (issued_fit line (reverse xs) (plain_of p) e g.keeps.one_zone (let f = few_now in omega arith) g.keeps.kept admitted_now g.keeps.refines (sounds line g.keeps.one_zone))

  pub go_count : u.messages ≤ 1000000
  go_count =
      let count = g.keeps.count in
      let most = messages_most line (reverse xs) in
      let few = few_now in
      omega arith

  pub go_lines : (plain_effect line (plain_of p) e).lines ≡ (effects h.line (story_of h.line h.events) e).lines
  go_lines = sym effect_now.1 ∙ ap (λ (y : History). (effects y.line (story_of y.line y.events) e).lines) g.view

  pub go_issued : (plain_effect line (plain_of p) e).issued ≡ (effects h.line (story_of h.line h.events) e).issued
  go_issued = sym effect_now.0 ∙ ap (λ (y : History). (effects y.line (story_of y.line y.events) e).issued) g.view

  pub go_premise : plain_premise (plain_of p) e ≡ 0
  go_premise = sym (premise_is line (reverse xs) (plain_of p) e g.keeps.one_zone g.keeps.kept g.keeps.refines (sounds line g.keeps.one_zone) built_now) ∙ kept_now

  pub go_built : plain_built line (plain_of p) e ≡ true
  go_built = sym (built_is line (reverse xs) (plain_of p) e g.keeps.one_zone g.keeps.kept g.keeps.refines (sounds line g.keeps.one_zone)) ∙ built_now

  pub go_room : plain_too_many (plain_of p) e ≡ false
  go_room = sym (too_many_is line (reverse xs) (plain_of p) e g.keeps.one_zone g.keeps.kept g.keeps.refines (sounds line g.keeps.one_zone)) ∙ within_now

  pub go_clock : p.world.clock ≤ 60000 * length xs
  go_clock =
      let c = clock_most line (reverse xs) g.keeps.kept in
      let t = g.keeps.refines.time in
      let n = length-reverse xs in
      omega arith

  pub go_fits : StepFits p.world e
  go_fits = step_fits line (plain_of p) e (length xs) go_built go_room go_clock g.few

  pub go_form : IsBuilt e
  go_form = form_fits line (story_of line (reverse xs)) e built_now

  pub go_range : EventInRange (plain_of p) e
  go_range = event_in_range line (story_of line (reverse xs)) (plain_of p) e g.keeps.refines (λ t. invariant_story line t (reverse xs) g.keeps.one_zone g.keeps.kept) built_now

pub go_longer : (h : History) (line : Line) (xs ys : List Event) (e : Event) → record { line = line; events = reverse xs } ≡ h → ys ≡ xs ++ e ∷ []
    → as_history line (reverse ys) ≡ as_history h.line (e ∷ h.events)
go_longer h line xs ys e view more =
    rw (more, reverse_next xs e) (subst (λ (g : History). as_history line (e ∷ reverse xs) ≡ as_history g.line (e ∷ g.events)) view refl)

-- what is due to an actor, by the ordinals that a system keeps

zone_actor : (line : Line) (to : ℕ) → is_actor line (suc to) ≡ true → has_zone line (suc to) ≡ true
zone_actor line to act = ap (λ (b : Bool). b || has_zone line (suc to)) (sym (eqb-suc-zero to)) ∙ act

due_other : (p : Parts) (u : Tally) (to : ℕ) → due_of p u (suc to) ≡ (0, u.by_zone, length p.to_zone)
due_other p u to = ap (λ (b : Bool). if b then (p.zone.id, u.by_world, length p.to_world) else (0, u.by_zone, length p.to_zone)) (eqb-suc-zero to)

-- which messages of a link are lost, by its history
abbrev pub lost_of : History → ℕ → ℕ → ℕ → Bool
lost_of h from to number = is_lost from to number (story_of h.line h.events)

-- the takes that a delivery to an actor stands for, by what is due
abbrev dues : (ℕ → ℕ → ℕ → Bool) → ℕ → ℕ × ℕ × ℕ → List Event
dues lost to d = takes_but (lost d.0 to) to d.0 (d.1 + 1) (d.2 - d.1)

due_at : (line : Line) (es : List Event) (p : Parts) (u : Tally) (z : ZoneKept) (to : ℕ) → IsKept line es p u z → is_actor line to ≡ true
    → deliveries line (story_of line es) to ≡ dues (lost_of (as_history line es)) to (due_of p u to)
due_at line es p u z zero k act =
    let ordinal = k.taken_world in
    let zone = own_id line (story_of line es) p k.one_zone k.refines in
    deliveries_world line k.one_zone (story_of line es) (plain_of p) k.refines (λ n. is_lost (zone_id line) 0 n (story_of line es)) (λ n. refl)
    ∙ (ap (λ (ms : List Msg). takes_but (λ n. is_lost (zone_id line) 0 n (story_of line es)) 0 (zone_id line) (taken_most 0 (zone_id line) (story_of line es) + 1) (length ms - taken_most 0 (zone_id line) (story_of line es))) (from_zone line k.one_zone p zone)
    ∙ (ap (λ (n : ℕ). dues (lost_of (as_history line es)) 0 (zone_id line, n, length p.to_world)) (sym ordinal)
    ∙ ap (λ (f : ℕ). dues (lost_of (as_history line es)) 0 (f, u.by_world, length p.to_world)) (sym zone)))
due_at line es p u z (suc to) k act =
    let there : suc to ≡ zone_id line = zone_only line (suc to) k.one_zone.one (zone_actor line to act) in
    let ordinal = k.taken_zone in
    let zone = own_id line (story_of line es) p k.one_zone k.refines in
    ap (λ (a : ℕ). deliveries line (story_of line es) a) there
    ∙ (deliveries_zone line k.one_zone (story_of line es) (plain_of p) k.refines (λ n. is_lost 0 (zone_id line) n (story_of line es)) (λ n. refl)
    ∙ (ap (λ (ms : List Msg). takes_but (λ n. is_lost 0 (zone_id line) n (story_of line es)) (zone_id line) 0 (taken_most (zone_id line) 0 (story_of line es) + 1) (length ms - taken_most (zone_id line) 0 (story_of line es))) (from_world line k.one_zone p zone)
    ∙ (ap (λ (n : ℕ). dues (lost_of (as_history line es)) (zone_id line) (0, n, length p.to_zone)) (sym ordinal)
    ∙ (ap (λ (a : ℕ). dues (lost_of (as_history line es)) a (0, u.by_zone, length p.to_zone)) (sym there)
    ∙ ap (λ (d : ℕ × ℕ × ℕ). dues (lost_of (as_history line es)) (suc to) d) (sym (due_other p u to))))))

module _ (h : History) (line : Line) (xs : List Event) (p : Parts) (u : Tally) (z : ZoneKept) (view : record { line = line; events = reverse xs } ≡ h) (k : IsKept line (reverse xs) p u z) where
  pub due_is : (to from taken sent : ℕ) → is_actor h.line to ≡ true → (from, taken, sent) ≡ due_of p u to → deliveries h.line (story_of h.line h.events) to ≡ takes_but (lost_of h from to) to from (taken + 1) (sent - taken)
  due_is to from taken sent act is =
      let here = subst (λ (y : History). is_actor y.line to ≡ true) (sym view) act in
      let at = due_at line (reverse xs) p u z to k here ∙ ap (λ (d : ℕ × ℕ × ℕ). dues (lost_of (as_history line (reverse xs))) to d) (sym is) in
      subst (λ (y : History). deliveries y.line (story_of y.line y.events) to ≡ takes_but (lost_of y from to) to from (taken + 1) (sent - taken)) view at

  -- the sender sends to the actor
  pub due_link : (to from taken sent : ℕ) → is_actor h.line to ≡ true → (from, taken, sent) ≡ due_of p u to → is_link h.line to from ≡ true
  due_link to from taken sent act is =
      let here = subst (λ (y : History). is_actor y.line to ≡ true) (sym view) act in
      let zone = own_id line (story_of line (reverse xs)) p k.one_zone k.refines in
      subst (λ (y : History). is_link y.line to from ≡ true) view (by_test (nat_eq to 0)
      (λ y.
      let none : to ≡ 0 = grind (arith, nat_tests) in
      let sender : from ≡ zone_id line = rw y at (ap (λ (d : ℕ × ℕ × ℕ). d.0) is) ∙ zone in
      rw (none, sender) (link_to_world line k.one_zone))
      (λ n.
      let there : to ≡ zone_id line = actor_is line to k.one_zone here n in
      let sender : from ≡ 0 = rw n at (ap (λ (d : ℕ × ℕ × ℕ). d.0) is) in
      rw (there, sender) (link_to_zone line k.one_zone)))

  -- what went out on a link, whether it is one of the line or not
  pub sent_is : (from to : ℕ) → links_of p from to ≡ sent from to (story_of h.line h.events)
  sent_is from to =
      let s : Story = story_of line (reverse xs) in
      let id = own_id line s p k.one_zone k.refines in
      subst (λ (y : History). links_of p from to ≡ sent from to (story_of y.line y.events)) view (by_test (nat_eq from 0)
      (λ y.
      let world : from ≡ 0 = grind (arith, nat_tests) in
      by_test (nat_eq to p.zone.id)
      (λ w.
      let there : to ≡ zone_id line = grind (arith, nat_tests) in
      rw (world, there) (k.refines.links 0 (zone_id line) (link_to_zone line k.one_zone)))
      (λ w.
      let there : nat_eq to (zone_id line) ≡ false = grind (arith, nat_tests) in
      rw (y, w, world) (sym (world_elsewhere line k.one_zone (reverse xs) k.kept to there))))
      (λ n. by_test (nat_eq from p.zone.id)
      (λ w.
      let zone : from ≡ zone_id line = grind (arith, nat_tests) in
      by_test (nat_eq to 0)
      (λ v. let world : to ≡ 0 = grind (arith, nat_tests) in rw (world, zone) (k.refines.links (zone_id line) 0 (link_to_world line k.one_zone)))
      (λ v. rw (n, w, v) (sym (zone_elsewhere line k.one_zone (reverse xs) k.kept from to n v))))
      (λ w.
      let other : nat_eq from (zone_id line) ≡ false = grind (arith, nat_tests) in
      rw (n, w) (sym (other_elsewhere line k.one_zone (reverse xs) k.kept from to n other)))))

  pub sent_most : (from to n : ℕ) → n ≡ length (links_of p from to) → n < 2 ^ 32
  sent_most from to n is =
      let same = ap length (sent_is from to) in
      let most = sent_few h.line from to h.events in
      let few = subst (λ (y : History). length y.events ≤ event_limit) view k.few in
      omega arith

  -- nothing is due to who is no actor of the line
  pub dues_none : (to : ℕ) → is_actor line to ≡ false → deliveries h.line (story_of h.line h.events) to ≡ []
  dues_none to off = subst (λ (y : History). deliveries y.line (story_of y.line y.events) to ≡ []) view (none_due line k.one_zone (reverse xs) k.kept to off)

  -- no more messages are due than there may be events
  pub due_few : (to from taken sent : ℕ) → (from, taken, sent) ≡ due_of p u to → sent ≤ 200000
  due_few to from taken sent is =
      let id = own_id line (story_of line (reverse xs)) p k.one_zone k.refines in
      let a = ap length (sym (from_world line k.one_zone p id) ∙ k.refines.links 0 (zone_id line) (link_to_zone line k.one_zone)) in
      let b = ap length (sym (from_zone line k.one_zone p id) ∙ k.refines.links (zone_id line) 0 (link_to_world line k.one_zone)) in
      let c = sent_few line 0 (zone_id line) (reverse xs) in
      let d = sent_few line (zone_id line) 0 (reverse xs) in
      let last = ap (λ (d : ℕ × ℕ × ℕ). d.2) is in
      let few = k.few in
      by_test (nat_eq to 0)
      (λ y. let most = rw y at last in omega arith)
      (λ n. let most = rw n at last in omega arith)

  -- which messages are lost
  pub lost_is : (from to number : ℕ) → is_link h.line to from ≡ true → number ≤ 200000 → lost_to to u number ≡ lost_of h from to number
  lost_is from to number link few =
      let here = subst (λ (y : History). is_link y.line to from ≡ true) (sym view) link in
      let a = and_parts (not (nat_eq to from)) (is_actor line to && is_actor line from) here in
      let b = and_parts (is_actor line to) (is_actor line from) a.1 in
      let apart = not-true (nat_eq to from) a.0 in
      subst (λ (y : History). lost_to to u number ≡ lost_of y from to number) view (by_test (nat_eq to 0)
      (λ y.
      let none : to ≡ 0 = grind (arith, nat_tests) in
      let off : nat_eq from 0 ≡ false = grind (arith, nat_tests) in
      let zone = actor_is line from k.one_zone b.1 off in
      rw (none, zone) (k.lost_world.agree number few))
      (λ n.
      let there = actor_is line to k.one_zone b.0 n in
      let world : from ≡ 0 = by_test (nat_eq from 0)
      (λ y. grind (arith, nat_tests))
      (λ o. let same = actor_is line from k.one_zone b.1 o in absurd (let again : nat_eq to from ≡ true = grind (arith, nat_tests) in cc)) in
      rw n (rw (there, world) (k.lost_zone.agree number few))))

-- An event that is no delivery stands for itself.
pub stands_alone : (line : Line) (s : Story) (e : Event) → ((to : ℕ) → e ≡ Deliver to → ⊥) → stands_for line s e ≡ e ∷ []
stands_alone line s (Deliver to) other = absurd (other to refl)
stands_alone line s _ other = refl
