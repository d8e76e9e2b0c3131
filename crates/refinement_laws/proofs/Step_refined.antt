-- The plain state follows a train that comes on, trains that move, and what the world tells a zone.
use Rattle.std.proofs.Common.{◌≡◌, ℕ, ◌+◌, ◌-◌, ◌≤◌, List, [], ◌∷◌, length, take, Option, Some, None, Bool, true, false, ◌||◌, refl, sym, ◌∙◌, ap, subst, arith, if◌then◌else◌}
use Rattle.std.proofs.lemmas.Bool.Decides.{nat_tests}
use Rattle.std.proofs.lemmas.Bool.{eqb-true, leb-true, and_parts}
use Rattle.std.specs.Prelude.{nat_eq, nat_lt, nat_le, is_some}
use Rattle.std.specs.List.{list_all}
use Rattle.list_laws.proofs.By_test.{by_test}
use Rattle.arrayvec.specs.ArrayVec.{ArrayVec}
use Rattle.track_points.specs.declared.ids.DirSeg.{DirSeg}
use Rattle.track_points.specs.declared.ids.TrainId.{TrainId}
use Rattle.track_points.specs.declared.path.Path.{Path}
use Rattle.track_points.specs.Points.{Lengths, total}
use Rattle.definitions.specs.declared.event.Event.TheVariants.{Enter, Step}
use Rattle.definitions.specs.Track.{Line, seg_len}
use Rattle.definitions.specs.Ways.{path_in_range}
use Rattle.definitions.specs.Story.{Transition, Story}
use Rattle.definitions.specs.World.{Facts, facts_or, facts_of, is_declared, first_entry, enters, entered, mm_of, elapsed, head, long_of, HeldPath, entry_authority, last_number, last_taken, limit_held, limit_place, held_end, clock, journey}
use Rattle.definitions.specs.World as ts
use Rattle.definitions.specs.Premises.{ascending, may_move}
use Rattle.definitions.specs.Steps.{Effect, nothing, entering, sender_of, transition}
use Rattle.definitions.specs.Safe.{IsLineOfOneZone}
use Rattle.plain_state.specs.declared.Head.{Head}
use Rattle.plain_state.specs.declared.Pace.{Pace}
use Rattle.onboard.specs.declared.onboard.Onboard.{Onboard}
use Rattle.onboard.specs.Decision.{mm_or_0}
use Rattle.onboard.specs.Decision as onboard
use Rattle.plain_state.specs.declared.WorldTrain.{WorldTrain}
use Rattle.plain_state.specs.World.{find_train, change_train, head_at_entry, come_on, moved_on, paced, moved_train, trains_moved}
use Rattle.plain_state.specs.Plain.{Plain, by_world as world_next}
use Rattle.plain_state.specs.Refinement.{mm_of_entry, head_of, pace_of, onboard_of, world_of, world_train, Refines}
use Rattle.event_laws.proofs.Entered_same.{ever_now}
use Rattle.journey_laws.proofs.Motion.{heads_rise}
use Rattle.event_laws.proofs.Issued_all.{AllIn, NoAuth}
use Rattle.journey_laws.proofs.Invariant.{Invariant}
use Rattle.refinement_laws.proofs.Find_change.{find_change, find_other, length_change}
use Rattle.plain_state.proofs.Found_changed.{mapped}
use Rattle.event_laws.proofs.Still_world.{heads_same, StillWorld, last_still, limit_still, authority_still, facts_still, entry_still, undeclared_before, authority_stays, unasked_same, off_same, authorized_same, as_many, clock_still}
use Rattle.refinement_laws.proofs.World_moves.{world_same, world_refined}
use Rattle.refinement_laws.proofs.Head_moved.{head_at}
use Rattle.refinement_laws.proofs.Train_made.{made, is_made, pace_still, taken_none}
use Rattle.refinement_laws.proofs.Accepts_now.{range_of}
use Rattle.refinement_laws.proofs.Limit_same.{head_moves, limit_same, head_at_length, journey_entered}

-- A train comes on.

abbrev enter_entry : ℕ → TrainId → Option ℕ → Transition
enter_entry ms u a = transition (Enter u) 0 None (entering ms u a)

mapped_on : (t : ℕ) (f : Facts) (e : Option DirSeg) (a : Option ℕ) (h : Option Head) (q : Pace) (o : Onboard)
    → mapped come_on (world_of t (Some f) e a h q o) ≡ world_of t (Some f) e a (head_at_entry e f.long) q (onboard.come_on f.long o)
mapped_on t f e a h q o = refl

-- the mm that are kept of the entry authority are the place of its end
kept_end : (len : Lengths) (steps : List DirSeg) (h : HeldPath) → h.authority.mark ≡ 0 → h.authority.path.from ≡ 0 → path_in_range len h.authority.path ≡ true → mm_or_0 (mm_of_entry len (Some h)) ≡ held_end len steps (Some h)
unfolding total
kept_end len steps h e from fits =
    let none : total len (take h.authority.mark steps) ≡ 0 = ap (λ (n : ℕ). total len (take n steps)) e in
    rw fits (omega (arith, none, from))

module _ (line : Line) (t ms : ℕ) (u : TrainId) (a : Option ℕ) (s : Story) (its : nat_eq u.0 t ≡ true) where
  abbrev x : Transition
  x = enter_entry ms u a

  on_next : entered t (enter_entry ms u a ∷ s) ≡ true
  on_next = ever_now (λ (e : Transition). enters t e.event) x s its

  last_next : last_number t (enter_entry ms u a ∷ s) ≡ 1
  unfolding last_number
  last_next = rw its refl

  limit_next : limit_held line t (enter_entry ms u a ∷ s) ≡ entry_authority t s
  unfolding limit_held
  limit_next = rw its refl

  taken_next : last_taken line t (enter_entry ms u a ∷ s) ≡ true
  unfolding last_taken
  taken_next = rw its refl

  head_next : head t (enter_entry ms u a ∷ s) ≡ long_of t s
  unfolding head
  head_next = rw its refl

  enter_now : (h : HeldPath) (f : Facts) → entry_authority t s ≡ Some h → facts_of t s ≡ Some f → entered t s ≡ false → Invariant line t s
      → mapped come_on (world_train line t s) ≡ world_train line t (enter_entry ms u a ∷ s)
  enter_now h f held fact fresh invariant =
      let e = invariant.authorized.entry h held in
      let len = seg_len line in
      let long : long_of t s ≡ f.long = ap (λ (y : Option Facts). (facts_or y).long) fact in
      let room = e.first.room in
      let st = e.first.step in
      let head_is = head_next in
      let journey_next : journey line t (x ∷ s) ≡ st ∷ [] = journey_entered line t x s st invariant.motion e.first.first fresh (omega (arith, head_is, room)) in
      let at_entry : head_at len (st ∷ []) f.long ≡ head_at_entry (first_entry t s) f.long =
      head_at_length line st f.long (omega (arith, long, room)) ∙ sym (ap (λ (y : Option DirSeg). head_at_entry y f.long) e.first.first) in
      let from : h.authority.path.from ≡ 0 = ap (λ (q : Path). q.from) e.first.path in
      let fits = range_of line h.authority.path e.path.fits in
      let limit_is = kept_end len (st ∷ []) h e.first.mark from fits in
      let limit2 : limit_place line t (x ∷ s) ≡ held_end len (st ∷ []) (Some h) = rw (journey_next, limit_next, held) refl in
      let room : mm_or_0 (mm_of_entry len (Some h)) - f.long ≡ limit_place line t (x ∷ s) - head t (x ∷ s) = omega (arith, limit_is, limit2, head_is, long) in
      let head2 : head_at_entry (first_entry t s) f.long ≡ head_of line t (x ∷ s) = sym at_entry ∙ rw (on_next, journey_next, head_next, long) refl in
      ap (λ (y : Option Facts). mapped come_on (world_of t y (first_entry t s) (sender_of (entry_authority t s)) (head_of line t s) (pace_of t s) (onboard_of line t s))) fact
      ∙ (ap (λ (y : Option HeldPath). made len t (Some f) (first_entry t s) y (head_at_entry (first_entry t s) f.long) (pace_of t s) (mm_or_0 (mm_of_entry len y) - f.long) 1 true) held
      ∙ is_made line t (x ∷ s) (sym (facts_still t x s refl ∙ fact)) (sym (entry_still t x s refl)) (sym (authority_still t x s refl ∙ held)) head2 (sym (pace_still t x s refl)) room (sym last_next) (sym taken_next))

some_value : {A : Type 0} (o : Option A) → is_some o ≡ true → (x : A) × (o ≡ Some x)
some_value None h = absurd cc
some_value (Some x) h = (x, refl)

enter_found : (line : Line) (t ms : ℕ) (u : TrainId) (a : Option ℕ) (s : Story) (p : Plain) → is_declared u.0 s ≡ true → is_some (entry_authority u.0 s) ≡ true → entered u.0 s ≡ false → Refines line s p → Invariant line t s
    → find_train t (change_train u.0 come_on p.world.trains) ≡ world_train line t (enter_entry ms u a ∷ s)
enter_found line t ms u a s p declared some fresh k invariant =
    let x = enter_entry ms u a in
    by_test (nat_eq u.0 t)
    (λ its.
    let same : u.0 ≡ t = eqb-true u.0 t its in
    let h = some_value (entry_authority t s) (subst (λ (n : ℕ). is_some (entry_authority n s) ≡ true) same some) in
    let f = some_value (facts_of t s) (subst (λ (n : ℕ). is_declared n s ≡ true) same declared) in
    ap (λ (n : ℕ). find_train t (change_train n come_on p.world.trains)) same
    ∙ (find_change t come_on p.world.trains (λ y. refl)
    ∙ (ap (λ (y : Option WorldTrain). mapped come_on y) (k.trains t)
    ∙ enter_now line t ms u a s its h.0 f.0 h.1 f.1 (subst (λ (n : ℕ). entered n s ≡ false) same fresh) invariant)))
    (λ other. find_other t u.0 come_on p.world.trains (λ y. refl) other
    ∙ (k.trains t ∙ sym (world_same line t x s (record { facts = refl; entry = refl; off = other; still = refl; taken = refl }))))

pub enter_refined : (line : Line) (ms : ℕ) (u : TrainId) (a : Option ℕ) (s : Story) (p : Plain) (y : Effect) → IsLineOfOneZone line → is_declared u.0 s ≡ true → is_some (entry_authority u.0 s) ≡ true → entered u.0 s ≡ false → Refines line s p → ((t : ℕ) → Invariant line t s)
    → ((t : ℕ) → Invariant line t (enter_entry ms u a ∷ s)) → ((t : ℕ) → NoAuth t (entering ms u a).issued) → y.issued ≡ (entering ms u a).issued
    → Refines line (enter_entry ms u a ∷ s) (world_next p (record { brake = p.world.brake; clock = p.world.clock; trains = change_train u.0 come_on p.world.trains }) y)
enter_refined line ms u a s p y one declared some fresh k invariant after silent is =
    let x = enter_entry ms u a in
    world_refined line s p x p.world.clock (change_train u.0 come_on p.world.trains) y one k (record {
      by_world = refl;
      time = k.time ∙ clock_still x s refl;
      found = λ t. enter_found line t ms u a s p declared some fresh k (invariant t);
      silent = silent;
      heads = λ t. heads_rise t x s (invariant t).motion (λ its. subst (λ (n : ℕ). entered n s ≡ false) (eqb-true u.0 t its) fresh);
      count = length_change u.0 come_on p.world.trains ∙ (k.count ∙ sym (as_many x s refl));
      unasked = λ t. unasked_same t x s refl (k.unasked t);
      stays_off = λ t d. by_test (nat_eq u.0 t)
          (λ its.
          let same : u.0 ≡ t = eqb-true u.0 t its in
          absurd (let z : is_declared t s ≡ false = undeclared_before t x s d in let b : is_declared t s ≡ true = subst (λ (n : ℕ). is_declared n s ≡ true) same declared in cc))
          (λ other. off_same t x s other (k.stays_off t) d);
      authorized = λ t d. by_test (nat_eq u.0 t)
          (λ its.
          let same : u.0 ≡ t = eqb-true u.0 t its in
          authority_stays t x s (subst (λ (n : ℕ). is_some (entry_authority n s) ≡ true) same some))
          (λ other. authorized_same t x s other (k.authorized t) d);
    }) invariant after is

-- What leaves the trains as they are.
pub still_refined : (line : Line) (s : Story) (p : Plain) (x : Transition) (y : Effect) → IsLineOfOneZone line → x.actor ≡ 0 → elapsed x.event ≡ 0 → ((t : ℕ) → StillWorld t x) → ts.with_train x.event (ts.trains s) ≡ ts.trains s → ((t : ℕ) → NoAuth t x.issued)
    → Refines line s p → ((t : ℕ) → Invariant line t s) → ((t : ℕ) → Invariant line t (x ∷ s)) → y.issued ≡ x.issued → Refines line (x ∷ s) (world_next p p.world y)
still_refined line s p x y one world time still many silent k invariant after is =
    world_refined line s p x p.world.clock p.world.trains y one k (record {
      by_world = world;
      time = k.time ∙ clock_still x s time;
      found = λ t. k.trains t ∙ sym (world_same line t x s (still t));
      silent = silent;
      heads = λ t. heads_same t x s (still t).off (still t).still;
      count = k.count ∙ sym (as_many x s many);
      unasked = λ t. unasked_same t x s (still t).entry (k.unasked t);
      stays_off = λ t. off_same t x s (still t).off (k.stays_off t);
      authorized = λ t. authorized_same t x s (still t).off (k.authorized t);
    }) invariant after is

-- Trains move.

unfoldable moves_it : ℕ → List (TrainId × ℕ) → Bool
moves_it t [] = false
moves_it t (x ∷ moves) = nat_eq x.0.0 t || moves_it t moves

moves_none : (t n : ℕ) (moves : List (TrainId × ℕ)) → ascending n moves ≡ true → t ≤ n → moves_it t moves ≡ false
unfolding ascending moves_it
moves_none t n [] a h = refl
moves_none t n (x ∷ moves) a h =
    let k = and_parts (nat_lt n x.0.0) (ascending x.0.0 moves) a in
    let y = k.0 in
    let other : nat_eq x.0.0 t ≡ false = grind (arith, nat_tests) in
    rw other (moves_none t x.0.0 moves k.1 (grind (arith, nat_tests)))

still_mm : (t : ℕ) (moves : List (TrainId × ℕ)) → moves_it t moves ≡ false → mm_of t moves ≡ 0
unfolding moves_it mm_of
still_mm t [] h = refl
still_mm t (x ∷ moves) h = by_test (nat_eq x.0.0 t)
    (λ y. absurd (let c : true ≡ false = rw y at h in cc))
    (λ n. rw n (still_mm t moves (rw n at h)))

move_found : (line : Line) (ms now t n : ℕ) (moves : List (TrainId × ℕ)) (xs : List WorldTrain) → ascending n moves ≡ true
    → find_train t (trains_moved line ms now moves xs) ≡ (if moves_it t moves then mapped (moved_train line ms now (mm_of t moves)) (find_train t xs) else find_train t xs)
unfolding ascending moves_it mm_of trains_moved
move_found line ms now t n [] xs a = refl
move_found line ms now t n (x ∷ moves) xs a =
    let k = and_parts (nat_lt n x.0.0) (ascending x.0.0 moves) a in
    let i = move_found line ms now t x.0.0 moves (change_train x.0.0 (moved_train line ms now x.1) xs) k.1 in
    by_test (nat_eq x.0.0 t)
    (λ y.
    let e : x.0.0 ≡ t = eqb-true x.0.0 t y in
    let none = moves_none t x.0.0 moves k.1 (omega (arith, e)) in
    let one : find_train t (trains_moved line ms now moves (change_train x.0.0 (moved_train line ms now x.1) xs)) ≡ find_train t (change_train x.0.0 (moved_train line ms now x.1) xs) = rw none at i in
    rw y (one ∙ (ap (λ (m : ℕ). find_train t (change_train m (moved_train line ms now x.1) xs)) e ∙ find_change t (moved_train line ms now x.1) xs (λ z. refl))))
    (λ o. rw o (rw (find_other t x.0.0 (moved_train line ms now x.1) xs (λ z. refl) o) at i))

moving_ahead : (line : Line) (t : ℕ) (s : Story) (moves : List (TrainId × ℕ)) → list_all (may_move line s) moves ≡ true → moves_it t moves ≡ true → (entered t s ≡ true) × (head t s + mm_of t moves ≤ limit_place line t s)
unfolding moves_it mm_of
moving_ahead line t s [] h m = absurd cc
moving_ahead line t s (x ∷ moves) h m =
    let k = and_parts (may_move line s x) (list_all (may_move line s) moves) h in
    by_test (nat_eq x.0.0 t)
    (λ y.
    let e : x.0.0 ≡ t = eqb-true x.0.0 t y in
    let b = and_parts (entered x.0.0 s) (nat_le (head x.0.0 s + x.1) (limit_place line x.0.0 s)) k.0 in
    rw y (subst (λ (i : ℕ). (entered i s ≡ true) × (head i s + x.1 ≤ limit_place line i s)) e (b.0, leb-true _ _ b.1)))
    (λ n. rw n (moving_ahead line t s moves k.1 (rw n at m)))

length_moved : (line : Line) (ms now : ℕ) (moves : List (TrainId × ℕ)) (xs : List WorldTrain) → length (trains_moved line ms now moves xs) ≡ length xs
unfolding trains_moved
length_moved line ms now [] xs = refl
length_moved line ms now (x ∷ moves) xs = length_moved line ms now moves (change_train x.0.0 (moved_train line ms now x.1) xs) ∙ length_change x.0.0 (moved_train line ms now x.1) xs

mapped_moved : (line : Line) (ms now t mm : ℕ) (f : Option Facts) (e : Option DirSeg) (a : Option ℕ) (h : Option Head) (q : Pace) (o : Onboard)
    → mapped (moved_train line ms now mm) (world_of t f e a h q o) ≡ world_of t f e a (moved_on line mm h) (paced ms now mm q) (record o { room = o.room - mm })
mapped_moved line ms now t mm None e a h q o = refl
mapped_moved line ms now t mm (Some f) e a h q o = refl

abbrev step_entry : ℕ → ArrayVec (TrainId × ℕ) → Transition
step_entry ms moves = transition (Step ms moves) 0 None nothing

head_stepped : (t ms : ℕ) (moves : ArrayVec (TrainId × ℕ)) (s : Story) → head t (step_entry ms moves ∷ s) ≡ head t s + mm_of t moves.items
unfolding head
head_stepped t ms moves s = refl

pace_stepped : (t ms : ℕ) (moves : ArrayVec (TrainId × ℕ)) (s : Story) → pace_of t (step_entry ms moves ∷ s) ≡ paced ms (clock s + ms) (mm_of t moves.items) (pace_of t s)
unfolding pace_of clock
pace_stepped t ms moves s = refl

step_moved : (line : Line) (t ms : ℕ) (moves : ArrayVec (TrainId × ℕ)) (s : Story) → IsLineOfOneZone line → entered t s ≡ true → Invariant line t s → Invariant line t (step_entry ms moves ∷ s)
    → mapped (moved_train line ms (clock s + ms) (mm_of t moves.items)) (world_train line t s) ≡ world_train line t (step_entry ms moves ∷ s)
unfolding AllIn
step_moved line t ms moves s one on invariant after =
    let x = step_entry ms moves in
    let mm = mm_of t moves.items in
    let last = last_still t x s refl refl in
    let head_now = head_stepped t ms moves s in
    let limit = limit_same line t x s invariant on (omega (arith, head_now)) (limit_still line t x s refl refl) in
    let room : limit_place line t s - head t s - mm ≡ limit_place line t (x ∷ s) - head t (x ∷ s) = omega (arith, limit, head_now) in
    mapped_moved line ms (clock s + ms) t mm (facts_of t s) (first_entry t s) (sender_of (entry_authority t s)) (head_of line t s) (pace_of t s) (onboard_of line t s)
    ∙ is_made line t (x ∷ s) (sym (facts_still t x s refl)) (sym (entry_still t x s refl)) (sym (authority_still t x s refl)) (sym (head_moves line t x s one.valid invariant after on refl))
    (sym (pace_stepped t ms moves s)) room (sym last) (sym (taken_none line t x s refl refl))

step_found : (line : Line) (t ms : ℕ) (moves : ArrayVec (TrainId × ℕ)) (s : Story) (p : Plain) → IsLineOfOneZone line → ascending 0 moves.items ≡ true → list_all (may_move line s) moves.items ≡ true → Refines line s p → Invariant line t s → Invariant line t (step_entry ms moves ∷ s)
    → find_train t (trains_moved line ms (p.world.clock + ms) moves.items p.world.trains) ≡ world_train line t (step_entry ms moves ∷ s)
step_found line t ms moves s p one order may k invariant after =
    let x = step_entry ms moves in
    ap (λ (now : ℕ). find_train t (trains_moved line ms (now + ms) moves.items p.world.trains)) k.time
    ∙ (move_found line ms (clock s + ms) t 0 moves.items p.world.trains order
    ∙ by_test (moves_it t moves.items)
    (λ y.
    let a = moving_ahead line t s moves.items may y in
    rw y (ap (λ (z : Option WorldTrain). mapped (moved_train line ms (clock s + ms) (mm_of t moves.items)) z) (k.trains t) ∙ step_moved line t ms moves s one a.0 invariant after))
    (λ n. rw n (k.trains t ∙ sym (world_same line t x s (record { facts = refl; entry = refl; off = refl; still = still_mm t moves.items n; taken = refl })))))

clock_stepped : (ms : ℕ) (moves : ArrayVec (TrainId × ℕ)) (s : Story) → clock (step_entry ms moves ∷ s) ≡ clock s + ms
unfolding clock
clock_stepped ms moves s = refl

pub step_refined : (line : Line) (ms : ℕ) (moves : ArrayVec (TrainId × ℕ)) (s : Story) (p : Plain) → IsLineOfOneZone line → ascending 0 moves.items ≡ true → list_all (may_move line s) moves.items ≡ true → Refines line s p → ((t : ℕ) → Invariant line t s)
    → ((t : ℕ) → Invariant line t (step_entry ms moves ∷ s)) → Refines line (step_entry ms moves ∷ s) (world_next p (record { brake = p.world.brake; clock = p.world.clock + ms; trains = trains_moved line ms (p.world.clock + ms) moves.items p.world.trains }) nothing)
unfolding AllIn
step_refined line ms moves s p one order may k invariant after =
    let x = step_entry ms moves in
    world_refined line s p x (p.world.clock + ms) (trains_moved line ms (p.world.clock + ms) moves.items p.world.trains) nothing one k (record {
      by_world = refl;
      time = ap (λ (n : ℕ). n + ms) k.time ∙ sym (clock_stepped ms moves s);
      found = λ t. step_found line t ms moves s p one order may k (invariant t) (after t);
      silent = λ t. tt;
      heads = λ t. let h = head_stepped t ms moves s in omega (arith, h);
      count = length_moved line ms (p.world.clock + ms) moves.items p.world.trains ∙ (k.count ∙ sym (as_many x s refl));
      unasked = λ t. unasked_same t x s refl (k.unasked t);
      stays_off = λ t. off_same t x s refl (k.stays_off t);
      authorized = λ t. authorized_same t x s refl (k.authorized t);
    }) invariant after refl
