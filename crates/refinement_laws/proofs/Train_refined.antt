-- The plain state follows the world's events.
use Rattle.std.proofs.Common.{◌≡◌, ℕ, suc, ◌-◌, [], ◌∷◌, ◌++◌, length, Option, Some, None, true, false, refl, sym, ◌∙◌, ap, subst, arith}
use Rattle.std.proofs.lemmas.Bool.{eqb-true}
use Rattle.std.specs.Prelude.{nat_eq}
use Rattle.list_laws.proofs.By_test.{by_test, none_of}
use Rattle.track_points.specs.declared.ids.DirSeg.{DirSeg}
use Rattle.track_points.specs.declared.ids.TrainId.{TrainId}
use Rattle.definitions.specs.declared.event.Event.TheVariants.{Train, Entry}
use Rattle.definitions.specs.declared.event.Kind.{Kind}
use Rattle.definitions.specs.Track.{Line, seg_len, led}
use Rattle.definitions.specs.Story.{Transition, Story, or_else, first_told}
use Rattle.definitions.specs.World.{Facts, facts_in, facts_of, is_declared, first_entry, enters, entered, head, HeldPath, entry_authority, last_number, last_taken, limit_held, limit_place, clock, journey}
use Rattle.definitions.specs.World as ts
use Rattle.definitions.specs.Steps.{Effect, nothing, requesting, sender_of, transition}
use Rattle.definitions.specs.Safe.{IsLineOfOneZone}
use Rattle.plain_state.specs.declared.Head.{Head}
use Rattle.plain_state.specs.declared.Pace.{Pace}
use Rattle.onboard.specs.declared.onboard.Onboard.{Onboard}
use Rattle.plain_state.specs.declared.WorldTrain.{WorldTrain}
use Rattle.plain_state.specs.World.{find_train, change_train, new_train, asked_at_portal}
use Rattle.plain_state.specs.Plain.{Plain, by_world as world_next}
use Rattle.plain_state.specs.Refinement.{head_of, pace_of, onboard_of, world_of, world_train, Refines}
use Rattle.event_laws.proofs.Entered_same.{told_now, entered_same, or_none}
use Rattle.event_laws.proofs.Issued_all.{AllIn, NoAuth}
use Rattle.journey_laws.proofs.Journey_track.{journey_ends, journey_led, led_still}
use Rattle.journey_laws.proofs.Invariant.{Invariant}
use Rattle.journey_laws.proofs.One_route.{on_controls}
use Rattle.journey_laws.proofs.First_steps.{controlled_some, controlled_reaches}
use Rattle.refinement_laws.proofs.Find_change.{find_change, find_other, find_append, length_change, length_append}
use Rattle.plain_state.proofs.Found_changed.{mapped}
use Rattle.refinement_laws.proofs.Facts_is.{no_entry_authority, no_number}
use Rattle.event_laws.proofs.Still_world.{head_same, heads_same, last_still, limit_still, authority_still, facts_still, entry_still, undeclared_before, unasked_same, off_same, authorized_same, as_many, clock_still}
use Rattle.refinement_laws.proofs.World_moves.{world_same, world_refined}
use Rattle.refinement_laws.proofs.Train_made.{made, is_made, pace_still, taken_none}
use Rattle.refinement_laws.proofs.Limit_same.{off_limit, off_taken, off_pace}

-- A train is declared.

abbrev train_entry : TrainId → ℕ → ℕ → ℕ → Kind → Transition
train_entry u long error speed kind = transition (Train u long error speed kind) 0 None nothing

train_found : (line : Line) (t : ℕ) (u : TrainId) (long error speed : ℕ) (kind : Kind) (s : Story) (p : Plain) → is_declared u.0 s ≡ false → Refines line s p → Invariant line t s
    → find_train t (p.world.trains ++ new_train u long error speed ∷ []) ≡ world_train line t (train_entry u long error speed kind ∷ s)
train_found line t u long error speed kind s p first k invariant =
    let x = train_entry u long error speed kind in
    by_test (nat_eq u.0 t)
    (λ its.
    let same : u.0 ≡ t = eqb-true u.0 t its in
    let undeclared : is_declared t s ≡ false = subst (λ (i : ℕ). is_declared i s ≡ false) same first in
    let none : facts_of t s ≡ None = none_of (facts_of t s) undeclared in
    let stays = k.stays_off t undeclared in
    let before : find_train t p.world.trains ≡ None = k.trains t ∙ ap (λ (f : Option Facts). world_of t f (first_entry t s) (sender_of (entry_authority t s)) (head_of line t s) (pace_of t s) (onboard_of line t s)) none in
    let left : find_train t (p.world.trains ++ new_train u long error speed ∷ []) ≡ Some (new_train u long error speed) =
    find_append t p.world.trains (new_train u long error speed) ∙ rw (before, its) refl in
    let facts : facts_of t (x ∷ s) ≡ Some (record { long = long; error = error; speed = speed }) = told_now (λ (y : Transition). facts_in t y.event) x s none ∙ rw its refl in
    let entry : first_entry t (x ∷ s) ≡ None = entry_still t x s refl ∙ k.unasked t undeclared in
    let authority : entry_authority t (x ∷ s) ≡ None = authority_still t x s refl ∙ no_entry_authority line t s invariant undeclared in
    let on : entered t (x ∷ s) ≡ false = entered_same t x s refl ∙ stays in
    let limit : limit_held line t (x ∷ s) ≡ None = limit_still line t x s refl refl ∙ off_limit line t s stays in
    let last : last_number t (x ∷ s) ≡ 0 = last_still t x s refl refl ∙ no_number line t s invariant undeclared in
    let pace : pace_of t (x ∷ s) ≡ record { speed = 0; at = 0 } = pace_still t x s refl ∙ off_pace t s stays (invariant.motion.unborn stays) in
    let taken : last_taken line t (x ∷ s) ≡ false = taken_none line t x s refl refl ∙ off_taken line t s stays in
    let room : 0 ≡ limit_place line t (x ∷ s) - head t (x ∷ s) = rw limit (none_left (head t (x ∷ s))) in
    left ∙ (ap (λ (n : ℕ). made (seg_len line) n (Some (record { long = long; error = error; speed = speed })) None None None (record { speed = 0; at = 0 }) 0 0 false) same
    ∙ is_made line t (x ∷ s) (sym facts) (sym entry) (sym authority) (rw on refl) (sym pace) room (sym last) (sym taken)))
    (λ other.
    find_append t p.world.trains (new_train u long error speed)
    ∙ (rw other (or_none (find_train t p.world.trains)
    ∙ (k.trains t ∙ sym (world_same line t x s (record { facts = rw other refl; entry = refl; off = refl; still = refl; taken = refl }))))))
  where
    none_left : (n : ℕ) → 0 ≡ 0 - n
    none_left n = omega arith

one_more : (u : TrainId) (long error speed : ℕ) (kind : Kind) (s : Story) → length (ts.trains (train_entry u long error speed kind ∷ s)) ≡ suc (length (ts.trains s))
unfolding ts.trains
one_more u long error speed kind s = refl

pub train_refined : (line : Line) (u : TrainId) (long error speed : ℕ) (kind : Kind) (s : Story) (p : Plain) → IsLineOfOneZone line → is_declared u.0 s ≡ false → Refines line s p → ((t : ℕ) → Invariant line t s)
    → ((t : ℕ) → Invariant line t (train_entry u long error speed kind ∷ s))
    → Refines line (train_entry u long error speed kind ∷ s) (world_next p (record { brake = p.world.brake; clock = p.world.clock; trains = p.world.trains ++ new_train u long error speed ∷ [] }) nothing)
unfolding AllIn
train_refined line u long error speed kind s p one first k invariant after =
    let x = train_entry u long error speed kind in
    let trains = p.world.trains ++ new_train u long error speed ∷ [] in
    world_refined line s p x p.world.clock trains nothing one k (record {
      by_world = refl;
      time = k.time ∙ clock_still x s refl;
      found = λ t. train_found line t u long error speed kind s p first k (invariant t);
      silent = λ t. tt;
      heads = λ t. heads_same t x s refl refl;
      count = length_append p.world.trains (new_train u long error speed) ∙ (ap (λ (n : ℕ). suc n) k.count ∙ sym (one_more u long error speed kind s));
      unasked = λ t. unasked_same t x s refl (k.unasked t);
      stays_off = λ t. off_same t x s refl (k.stays_off t);
      authorized = λ t. authorized_same t x s refl (k.authorized t);
    }) invariant after refl

-- A train asks for entry.

abbrev entry_entry : ℕ → TrainId → DirSeg → ℕ → Option Facts → Transition
entry_entry ms u step zone f = transition (Entry u step) 0 None (requesting ms u step zone f)

mapped_entry : (t : ℕ) (step : DirSeg) (f : Option Facts) (e : Option DirSeg) (a : Option ℕ) (h : Option Head) (q : Pace) (o : Onboard) → mapped (asked_at_portal step) (world_of t f e a h q o) ≡ world_of t f (or_else e (Some step)) a h q o
mapped_entry t step None e a h q o = refl
mapped_entry t step (Some f) e a h q o = refl

first_next : (t ms : ℕ) (u : TrainId) (step : DirSeg) (zone : ℕ) (f : Option Facts) (s : Story) → nat_eq u.0 t ≡ true → first_entry t (entry_entry ms u step zone f ∷ s) ≡ or_else (first_entry t s) (Some step)
unfolding first_told
first_next t ms u step zone f s its = rw its refl

-- the head and the room of a train on the line do not change with a further request
same_journey : (line : Line) (t : ℕ) (x : Transition) (s : Story) → Invariant line t s → entered t s ≡ true → head t (x ∷ s) ≡ head t s → journey line t (x ∷ s) ≡ journey line t s
same_journey line t x s invariant on same =
    let c = on_controls line t s invariant.authorized on in
    let some = controlled_some line t s invariant.authorized c invariant.motion in
    let room = controlled_reaches line t s invariant.authorized c invariant.motion in
    journey_led line t x s some room
    ∙ ap (led (seg_len line) line (journey line t s)) same
    ∙ led_still line (journey line t s) (head t s) some room (journey_ends line t s)

same_head : (line : Line) (t : ℕ) (x : Transition) (s : Story) → Invariant line t s → enters t x.event ≡ false → head t (x ∷ s) ≡ head t s → limit_held line t (x ∷ s) ≡ limit_held line t s
    → (head_of line t (x ∷ s) ≡ head_of line t s) × (limit_place line t (x ∷ s) ≡ limit_place line t s)
same_head line t x s invariant off same limit = by_test (entered t s)
    (λ on.
    let j = same_journey line t x s invariant on same in
    (rw (entered_same t x s off, j, same) refl, rw (j, limit) refl))
    (λ n.
    let none = off_limit line t s n in
    (rw (entered_same t x s off, n) refl, rw (limit, none) refl))

entry_found_now : (line : Line) (t ms : ℕ) (u : TrainId) (step : DirSeg) (zone : ℕ) (f : Option Facts) (s : Story) (p : Plain) → Refines line s p → Invariant line t s
    → find_train t (change_train u.0 (asked_at_portal step) p.world.trains) ≡ world_train line t (entry_entry ms u step zone f ∷ s)
entry_found_now line t ms u step zone f s p k invariant =
    let x = entry_entry ms u step zone f in
    by_test (nat_eq u.0 t)
    (λ its.
    let same : u.0 ≡ t = eqb-true u.0 t its in
    let parts = same_head line t x s invariant refl (head_same t x s refl refl) (limit_still line t x s refl refl) in
    let room : limit_place line t s - head t s ≡ limit_place line t (x ∷ s) - head t (x ∷ s) = let l = parts.1 in let h = head_same t x s refl refl in omega (arith, l, h) in
    ap (λ (n : ℕ). find_train t (change_train n (asked_at_portal step) p.world.trains)) same
    ∙ (find_change t (asked_at_portal step) p.world.trains (λ y. refl)
    ∙ (ap (λ (y : Option WorldTrain). mapped (asked_at_portal step) y) (k.trains t)
    ∙ (mapped_entry t step (facts_of t s) (first_entry t s) (sender_of (entry_authority t s)) (head_of line t s) (pace_of t s) (onboard_of line t s)
    ∙ is_made line t (x ∷ s) (sym (facts_still t x s refl)) (sym (first_next t ms u step zone f s its)) (sym (authority_still t x s refl)) (sym parts.0) (sym (pace_still t x s refl)) room (sym (last_still t x s refl refl)) (sym (taken_none line t x s refl refl))))))
    (λ other. find_other t u.0 (asked_at_portal step) p.world.trains (λ y. refl) other
    ∙ (k.trains t ∙ sym (world_same line t x s (record { facts = refl; entry = rw other refl; off = refl; still = refl; taken = refl }))))

pub entry_refined : (line : Line) (ms : ℕ) (u : TrainId) (step : DirSeg) (zone : ℕ) (f : Option Facts) (s : Story) (p : Plain) (y : Effect) → IsLineOfOneZone line → is_declared u.0 s ≡ true → Refines line s p → ((t : ℕ) → Invariant line t s)
    → ((t : ℕ) → Invariant line t (entry_entry ms u step zone f ∷ s)) → ((t : ℕ) → NoAuth t (requesting ms u step zone f).issued) → y.issued ≡ (requesting ms u step zone f).issued
    → Refines line (entry_entry ms u step zone f ∷ s) (world_next p (record { brake = p.world.brake; clock = p.world.clock; trains = change_train u.0 (asked_at_portal step) p.world.trains }) y)
entry_refined line ms u step zone f s p y one declared k invariant after silent is =
    let x = entry_entry ms u step zone f in
    world_refined line s p x p.world.clock (change_train u.0 (asked_at_portal step) p.world.trains) y one k (record {
      by_world = refl;
      time = k.time ∙ clock_still x s refl;
      found = λ t. entry_found_now line t ms u step zone f s p k (invariant t);
      silent = silent;
      heads = λ t. heads_same t x s refl refl;
      count = length_change u.0 (asked_at_portal step) p.world.trains ∙ (k.count ∙ sym (as_many x s refl));
      unasked = λ t d. by_test (nat_eq u.0 t)
          (λ its.
          let same : u.0 ≡ t = eqb-true u.0 t its in
          absurd (let a : is_declared t s ≡ false = undeclared_before t x s d in let b : is_declared t s ≡ true = subst (λ (n : ℕ). is_declared n s ≡ true) same declared in cc))
          (λ other. unasked_same t x s (rw other refl) (k.unasked t) d);
      stays_off = λ t. off_same t x s refl (k.stays_off t);
      authorized = λ t. authorized_same t x s refl (k.authorized t);
    }) invariant after is
