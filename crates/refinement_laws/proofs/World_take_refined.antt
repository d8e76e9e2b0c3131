-- The plain state follows the world's takes.
use Rattle.std.proofs.Common.{◌≡◌, ℕ, ◌-◌, ◌<◌, max, List, [], ◌∷◌, length, Option, Some, None, Bool, true, false, ◌&&◌, ◌||◌, refl, sym, ◌∙◌, ap, subst, arith, if◌then◌else◌}
use Rattle.std.proofs.lemmas.Bool.Decides.{nat_tests}
use Rattle.std.proofs.lemmas.Bool.{eqb-true, leb-true, and_parts}
use Rattle.std.specs.Prelude.{nat_eq, nat_lt, nat_le, slice_get, is_some}
use Rattle.list_laws.proofs.By_test.{by_test}
use Rattle.braking_table.specs.declared.table.Brake.{Brake}
use Rattle.braking_table.specs.Brake.{stop_of}
use Rattle.track_points.specs.declared.ids.DirSeg.{DirSeg}
use Rattle.track_points.specs.declared.ids.TrainId.{TrainId}
use Rattle.track_points.specs.declared.path.Path.{Path}
use Rattle.track_points.specs.Points.{Lengths}
use Rattle.definitions.specs.declared.event.Event.TheVariants.{Take}
use Rattle.definitions.specs.declared.message.Msg.{Msg}
use Rattle.definitions.specs.declared.message.Msg.TheVariants as msg
use Rattle.definitions.specs.Track.{Line, seg_len, brake_of, last_step}
use Rattle.definitions.specs.Story.{Transition, Story, or_else, sent, first_told, world_took}
use Rattle.definitions.specs.World.{Facts, facts_of, first_entry, clock, entered, head, journey, Authority, HeldPath, taken_entry, taken_number, taken_path, entry_authority, limit_held, limit_place, held_end, authority_begin, authority_end, last_number, last_taken, is_step, lies_on, stopping_place, speed_now, accepts, accepts_some}
use Rattle.definitions.specs.Premises.{head_offset}
use Rattle.definitions.specs.Steps.{Effect, nothing, transition, sender_of, world_takes}
use Rattle.definitions.specs.Safe.{IsLineOfOneZone}
use Rattle.event_laws.proofs.Zone_issues.{world_none}
use Rattle.plain_state.specs.declared.Head.{Head}
use Rattle.plain_state.specs.declared.Pace.{Pace}
use Rattle.plain_state.specs.declared.WorldTrain.{WorldTrain}
use Rattle.onboard.specs.declared.onboard.Onboard.{Onboard}
use Rattle.onboard.specs.Decision.{room_to, decided}
use Rattle.plain_state.specs.World.{find_train, change_train, last_speed, takes_at, keeps_entry, took_by, took_auth, trains_after}
use Rattle.plain_state.specs.Plain.{Plain, by_world as world_next}
use Rattle.plain_state.specs.Refinement.{head_of, pace_of, onboard_of, world_of, world_train, Refines}
use Rattle.event_laws.proofs.Entered_same.{entered_same}
use Rattle.event_laws.proofs.Issued_all.{issued_all, NoAuth, no_issue}
use Rattle.journey_laws.proofs.Invariant.{AuthorityIs, AuthIs, AuthTrue, Invariant}
use Rattle.refinement_laws.proofs.Find_change.{find_change, find_other, length_change}
use Rattle.plain_state.proofs.Found_changed.{mapped}
use Rattle.event_laws.proofs.Still_world.{head_same, heads_same, journey_still, facts_still, entry_still, limit_kept, limit_next, limit_refused, number_next, number_off, as_many, unasked_same, off_same, authorized_same, clock_still}
use Rattle.refinement_laws.proofs.World_moves.{world_same, world_refined}
use Rattle.refinement_laws.proofs.Limit_same.{off_limit, off_taken}
use Rattle.refinement_laws.proofs.Train_made.{made, is_made, pace_still, taken_still, taken_new}
use Rattle.refinement_laws.proofs.Pace_now.{PaceIs, AllPaced}
use Rattle.refinement_laws.proofs.Decides_now.{step_within}
use Rattle.refinement_laws.proofs.Accepts_now.{head_there, head_on_path, accepts_so}
use Rattle.refinement_laws.proofs.Step_refined.{still_refined}

abbrev pub take_transition : ℕ → ℕ → ℕ → Msg → Effect → Transition
take_transition to from number m x = transition (Take to from number) to (Some (from, m)) x

-- The world takes an authority.

abbrev held_by : ℕ → ℕ → Path → HeldPath
held_by from mark path = record { zone = from; authority = record { mark = mark; path = path } }

-- before it has come on a train keeps the first one of number 1
mapped_off : (len : Lengths) (brake : Brake) (clock_ t from n mark : ℕ) (path : Path) (f : Option Facts) (e : Option DirSeg) (a : Option HeldPath) (q : Pace) (room last : ℕ) (taken : Bool)
    → mapped (took_auth len brake clock_ from n mark path) (made len t f e a None q room last taken) ≡ made len t f e (or_else a (if nat_eq n 1 then Some (held_by from mark path) else None)) None q room last taken
mapped_off len brake clock_ t from n mark path None e a q room last taken = refl
mapped_off len brake clock_ t from n mark path (Some f) e (Some a) q room last taken = by_test (nat_eq n 1) (λ y. rw y refl) (λ z. rw z refl)
mapped_off len brake clock_ t from n mark path (Some f) e None q room last taken = by_test (nat_eq n 1) (λ y. rw y refl) (λ z. rw z refl)

-- on the line it decides
mapped_on : (len : Lengths) (brake : Brake) (clock_ t from n mark : ℕ) (path : Path) (f : Option Facts) (e : Option DirSeg) (a : Option ℕ) (h : Head) (q : Pace) (o : Onboard)
    → mapped (took_auth len brake clock_ from n mark path) (world_of t f e a (Some h) q o)
    ≡ world_of t f e a (Some h) q (decided (takes_at len (stop_of brake (last_speed clock_ q)) mark path h o) n (room_to len mark path h.mark h.offset) o)
mapped_on len brake clock_ t from n mark path None e a h q o = refl
mapped_on len brake clock_ t from n mark path (Some f) e a h q o = refl

or_same : {A : Type 0} (x y : Option A) → is_some x ≡ true → or_else x y ≡ x
or_same None y h = absurd cc
or_same (Some x) y h = refl

module _ (line : Line) (from number : ℕ) (u : TrainId) (n mark : ℕ) (path : Path) (y : Effect) (s : Story) where
  abbrev x : Transition
  x = take_transition 0 from number (msg.Auth u n mark path) y

  abbrev a : Authority
  a = record { mark = mark; path = path }

  abbrev len : Lengths
  len = seg_len line

  module _ (t : ℕ) (its : nat_eq u.0 t ≡ true) where
    number_is : taken_number t (world_took (take_transition 0 from number (msg.Auth u n mark path) y)) ≡ n
    number_is = rw its refl

    path_is : taken_path t (world_took (take_transition 0 from number (msg.Auth u n mark path) y)) ≡ Some (held_by from mark path)
    path_is = rw its refl

    first_is : (if nat_eq n 1 then Some (held_by from mark path) else None) ≡ taken_entry t (Some (from, msg.Auth u n mark path))
    first_is = by_test (nat_eq n 1) (λ b. rw (its, b) refl) (λ b. rw (its, b) refl)

    authority_next : entry_authority t (take_transition 0 from number (msg.Auth u n mark path) y ∷ s) ≡ or_else (entry_authority t s) (taken_entry t (Some (from, msg.Auth u n mark path)))
    unfolding first_told
    authority_next = refl

    -- before it has come on
    took_off : (brake : Brake) (clock_ : ℕ) → entered t s ≡ false → mapped (took_auth (seg_len line) brake clock_ from n mark path) (world_train line t s) ≡ world_train line t (take_transition 0 from number (msg.Auth u n mark path) y ∷ s)
    took_off brake clock_ off =
        let none : head_of line t s ≡ None = rw off refl in
        let off2 : entered t (x ∷ s) ≡ false = entered_same t x s refl ∙ off in
        let limit = off_limit line t s off in
        let limit2 = off_limit line t (x ∷ s) off2 in
        let h = head_same t x s refl refl in
        let room : limit_place line t s - head t s ≡ limit_place line t (x ∷ s) - head t (x ∷ s) = rw (limit, limit2, h) refl in
        ap (λ (h : Option Head). mapped (took_auth len brake clock_ from n mark path) (world_of t (facts_of t s) (first_entry t s) (sender_of (entry_authority t s)) h (pace_of t s) (onboard_of line t s))) none
        ∙ (mapped_off len brake clock_ t from n mark path (facts_of t s) (first_entry t s) (entry_authority t s) (pace_of t s) (limit_place line t s - head t s) (last_number t s) (last_taken line t s)
        ∙ is_made line t (x ∷ s) (sym (facts_still t x s refl)) (sym (entry_still t x s refl)) (ap (λ (k : Option HeldPath). or_else (entry_authority t s) k) first_is ∙ sym authority_next)
        (rw off2 refl) (sym (pace_still t x s refl)) room (sym (number_off t x s refl off)) (off_taken line t s off ∙ sym (off_taken line t (x ∷ s) off2)))

    -- on the line
    module _ (on : entered t s ≡ true) (invariant : Invariant line t s) (ahead : last_number t s < n → AuthorityIs line t s (record { mark = mark; path = path })) where
      abbrev h : Head
      h = head_there line t s invariant on

      abbrev journey_same : journey line t (take_transition 0 from number (msg.Auth u n mark path) y ∷ s) ≡ journey line t s
      journey_same = journey_still line t x s refl

      some_accepts : accepts_some line t s (limit_place line t s) (taken_path t (world_took (take_transition 0 from number (msg.Auth u n mark path) y))) ≡ accepts line t s (limit_place line t s) (record { mark = mark; path = path })
      some_accepts = ap (λ (k : Option HeldPath). accepts_some line t s (limit_place line t s) k) path_is

      last_is : last_number t (take_transition 0 from number (msg.Auth u n mark path) y ∷ s) ≡ max (last_number t s) n
      last_is = number_next t x s refl on ∙ ap (λ (k : ℕ). max (last_number t s) k) number_is

      limit_as : limit_held line t (take_transition 0 from number (msg.Auth u n mark path) y ∷ s) ≡ limit_held line t s → limit_place line t (take_transition 0 from number (msg.Auth u n mark path) y ∷ s) ≡ limit_place line t s
      limit_as same = ap (λ (k : Option HeldPath). held_end len (journey line t (x ∷ s)) k) same ∙ ap (λ (xs : List DirSeg). held_end len xs (limit_held line t s)) journey_same

      -- what it keeps after its decision
      abbrev IsDecided : ℕ → ℕ → Bool → Type 0
      IsDecided room last taken = (room ≡ limit_place line t (x ∷ s) - head t (x ∷ s)) × ((last ≡ last_number t (x ∷ s)) × (taken ≡ last_taken line t (x ∷ s)))

      old_number : nat_lt (last_number t s) n ≡ false → IsDecided (limit_place line t s - head t s) (last_number t s) (last_taken line t s)
      old_number old =
          let still : nat_lt (last_number t s) (taken_number t (world_took x)) ≡ false = ap (λ (k : ℕ). nat_lt (last_number t s) k) number_is ∙ old in
          let limit = limit_as (limit_kept line t x s refl still) in
          let same = head_same t x s refl refl in
          let last = last_is in
          (omega (arith, limit, same), (grind (arith, nat_tests), sym (taken_still line t x s refl still)))

      new_number : nat_lt (last_number t s) n ≡ true → nat_lt (last_number t s) (taken_number t (world_took (take_transition 0 from number (msg.Auth u n mark path) y))) ≡ true
      new_number new = ap (λ (k : ℕ). nat_lt (last_number t s) k) number_is ∙ new

      refused_number : nat_lt (last_number t s) n ≡ true → accepts line t s (limit_place line t s) (record { mark = mark; path = path }) ≡ false → IsDecided (limit_place line t s - head t s) n false
      refused_number new not_so =
          let refused = some_accepts ∙ not_so in
          let limit = limit_as (limit_refused line t x s refl refused) in
          let same = head_same t x s refl refl in
          let last = last_is in
          (omega (arith, limit, same), (grind (arith, nat_tests), sym (taken_new line t x s refl on (new_number new) ∙ refused)))

      taken_room : AuthorityIs line t s (record { mark = mark; path = path }) → accepts line t s (limit_place line t s) (record { mark = mark; path = path }) ≡ true
          → room_to (seg_len line) mark path (length (journey line t s) - 1) (head_offset line t s) ≡ authority_end (seg_len line) (journey line t s) (record { mark = mark; path = path }) - head t s
      taken_room is so =
          let steps = journey line t s in
          let i = length steps - 1 - mark in
          let there = is_step (last_step steps) (slice_get path.steps.items i) in
          let b = and_parts (lies_on len steps (head t s) a) (nat_le (limit_place line t s) (authority_end len steps a) || nat_le (stopping_place line t s) (authority_end len steps a)) so in
          let c = and_parts (nat_le mark (length steps - 1)) (there && (nat_le (authority_begin len steps a) (head t s) && nat_le (head t s) (authority_end len steps a))) b.0 in
          let d = and_parts there (nat_le (authority_begin len steps a) (head t s) && nat_le (head t s) (authority_end len steps a)) c.1 in
          let place = head_on_path line t s invariant on mark path is (leb-true mark (length steps - 1) c.0) (step_within (last_step steps) path.steps.items i d.0) in
          omega (arith, place)

      accepted_number : nat_lt (last_number t s) n ≡ true → accepts line t s (limit_place line t s) (record { mark = mark; path = path }) ≡ true
          → IsDecided (room_to (seg_len line) mark path (length (journey line t s) - 1) (head_offset line t s)) n true
      accepted_number new so =
          let accepted = some_accepts ∙ so in
          let limit : limit_place line t (x ∷ s) ≡ authority_end len (journey line t s) a =
          ap (λ (k : Option HeldPath). held_end len (journey line t (x ∷ s)) k) (limit_next line t x s refl on (new_number new) accepted ∙ path_is) ∙ ap (λ (xs : List DirSeg). authority_end len xs a) journey_same in
          let same = head_same t x s refl refl in
          let last = last_is in
          let room = taken_room (ahead (grind (arith, nat_tests))) so in
          (omega (arith, limit, same, room), (grind (arith, nat_tests), sym (taken_new line t x s refl on (new_number new) ∙ accepted)))

      kept_so : {room last : ℕ} {taken : Bool} → IsDecided room last taken → is_some (entry_authority t s) ≡ true
          → made (seg_len line) t (facts_of t s) (first_entry t s) (entry_authority t s) (Some h) (pace_of t s) room last taken ≡ world_train line t (take_transition 0 from number (msg.Auth u n mark path) y ∷ s)
      kept_so k some =
          let on2 : entered t (x ∷ s) ≡ true = entered_same t x s refl ∙ on in
          is_made line t (x ∷ s) (sym (facts_still t x s refl)) (sym (entry_still t x s refl)) (sym (authority_next ∙ or_same (entry_authority t s) (taken_entry t (Some (from, msg.Auth u n mark path))) some))
          (sym (rw (on2, journey_same, head_same t x s refl refl) refl)) (sym (pace_still t x s refl)) k.0 k.1.0 k.1.1

      -- it decides as the story does where the number is new
      decided_so : (takes_it : Bool) → (last_number t s < n → takes_it ≡ accepts line t s (limit_place line t s) (record { mark = mark; path = path })) → is_some (entry_authority t s) ≡ true
          → world_of t (facts_of t s) (first_entry t s) (sender_of (entry_authority t s)) (Some h) (pace_of t s) (decided takes_it n (room_to (seg_len line) mark path (length (journey line t s) - 1) (head_offset line t s)) (onboard_of line t s))
          ≡ world_train line t (take_transition 0 from number (msg.Auth u n mark path) y ∷ s)
      decided_so takes_it agrees some =
          by_test (nat_lt (last_number t s) n)
          (λ new.
          let same = agrees (grind (arith, nat_tests)) in
          by_test (accepts line t s (limit_place line t s) a)
          (λ yes. let e = same ∙ yes in rw (new, e) (kept_so (accepted_number new yes) some))
          (λ no. let e = same ∙ no in rw (new, e) (kept_so (refused_number new no) some)))
          (λ old. rw old (kept_so (old_number old) some))

      took_on : PaceIs (clock s) (pace_of t s) (speed_now t s) → is_some (entry_authority t s) ≡ true
          → mapped (took_auth (seg_len line) (brake_of line) (clock s) from n mark path) (world_train line t s) ≡ world_train line t (take_transition 0 from number (msg.Auth u n mark path) y ∷ s)
      took_on pace some =
          let there : head_of line t s ≡ Some h = rw on refl in
          let room = room_to len mark path (length (journey line t s) - 1) (head_offset line t s) in
          ap (λ (k : Option Head). mapped (took_auth len (brake_of line) (clock s) from n mark path) (world_of t (facts_of t s) (first_entry t s) (sender_of (entry_authority t s)) k (pace_of t s) (onboard_of line t s))) there
          ∙ (mapped_on len (brake_of line) (clock s) t from n mark path (facts_of t s) (first_entry t s) (sender_of (entry_authority t s)) h (pace_of t s) (onboard_of line t s)
          ∙ (ap (λ (v : ℕ). world_of t (facts_of t s) (first_entry t s) (sender_of (entry_authority t s)) (Some h) (pace_of t s) (decided (takes_at len (stop_of (brake_of line) v) mark path h (onboard_of line t s)) n room (onboard_of line t s))) pace.is
          ∙ decided_so (takes_at len (stop_of (brake_of line) (speed_now t s)) mark path h (onboard_of line t s)) (λ new. accepts_so line t s invariant on mark path (ahead new)) some))

kept_id : (len : Lengths) (brake : Brake) (clock_ from n mark : ℕ) (path : Path) (w : WorldTrain) → (took_auth len brake clock_ from n mark path w).id ≡ w.id
kept_id len brake clock_ from n mark path w = by_head w w.head
  where
    by_head : (v : WorldTrain) (h : Option Head) → (took_by len (stop_of brake (last_speed clock_ w.pace)) from n mark path h v).id ≡ v.id
    by_head v None = by_test (keeps_entry n v.onboard) (λ b. rw b refl) (λ b. rw b refl)
    by_head v (Some h) = refl

auth_refined : (line : Line) (from number : ℕ) (u : TrainId) (n mark : ℕ) (path : Path) (e y : Effect) (s : Story) (p : Plain) → IsLineOfOneZone line → Refines line s p → ((t : ℕ) → Invariant line t s) → AllPaced s
    → AuthTrue line u.0 s (msg.Auth u n mark path) → ((t : ℕ) → Invariant line t (take_transition 0 from number (msg.Auth u n mark path) e ∷ s)) → ((t : ℕ) → NoAuth t e.issued) → y.issued ≡ e.issued
    → Refines line (take_transition 0 from number (msg.Auth u n mark path) e ∷ s)
    (world_next p (record { brake = p.world.brake; clock = p.world.clock; trains = change_train u.0 (took_auth (seg_len line) p.world.brake p.world.clock from n mark path) p.world.trains }) y)
auth_refined line from number u n mark path e y s p one k invariant paced true_ after silent is =
    let x = take_transition 0 from number (msg.Auth u n mark path) e in
    let len = seg_len line in
    let took : WorldTrain → WorldTrain = took_auth len p.world.brake p.world.clock from n mark path in
    let kept = kept_id len p.world.brake p.world.clock from n mark path in
    world_refined line s p x p.world.clock (change_train u.0 took p.world.trains) y one k (record {
      by_world = refl;
      time = k.time ∙ clock_still x s refl;
      found = λ t. by_test (nat_eq u.0 t)
          (λ its.
          let same : u.0 ≡ t = eqb-true u.0 t its in
          let auth : AuthTrue line t s (msg.Auth u n mark path) = subst (λ (i : ℕ). nat_eq u.0 i ≡ true → AuthIs line i s n (record { mark = mark; path = path })) same true_ in
          ap (λ (i : ℕ). find_train t (change_train i took p.world.trains)) same
          ∙ (find_change t took p.world.trains kept
          ∙ (ap (λ (z : Option WorldTrain). mapped took z) (k.trains t)
          ∙ by_test (entered t s)
          (λ on.
          ap (λ (b : Brake). mapped (took_auth len b p.world.clock from n mark path) (world_train line t s)) k.brake
          ∙ (ap (λ (c : ℕ). mapped (took_auth len (brake_of line) c from n mark path) (world_train line t s)) k.time
          ∙ took_on line from number u n mark path e s t its on (invariant t) (auth its).ahead (paced t) (k.authorized t on)))
          (λ off. took_off line from number u n mark path e s t its p.world.brake p.world.clock off))))
          (λ other. find_other t u.0 took p.world.trains kept other
          ∙ (k.trains t ∙ sym (world_same line t x s (record { facts = refl; entry = refl; off = refl; still = refl; taken = rw other refl }))));
      silent = silent;
      heads = λ t. heads_same t x s refl refl;
      count = length_change u.0 took p.world.trains ∙ (k.count ∙ sym (as_many x s refl));
      unasked = λ t. unasked_same t x s refl (k.unasked t);
      stays_off = λ t. off_same t x s refl (k.stays_off t);
      authorized = λ t. authorized_same t x s refl (k.authorized t);
    }) invariant after is

-- any message
pub world_take_refined : (line : Line) (from number j : ℕ) (m : Msg) (s : Story) (p : Plain) (y : Effect) → slice_get (sent from 0 s) j ≡ Some m → IsLineOfOneZone line → Refines line s p → ((t : ℕ) → Invariant line t s) → AllPaced s
    → ((t : ℕ) → Invariant line t (take_transition 0 from number m (world_takes line s from m) ∷ s)) → y ≡ world_takes line s from m
    → Refines line (take_transition 0 from number m (world_takes line s from m) ∷ s) (world_next p (record { brake = p.world.brake; clock = p.world.clock; trains = trains_after (seg_len line) p.world from m }) y)
world_take_refined line from number j (msg.Auth u n mark path) s p y sent_is one k invariant paced after is =
    auth_refined line from number u n mark path (world_takes line s from (msg.Auth u n mark path)) y s p one k invariant paced (issued_all (AuthTrue line u.0 s) from 0 s j (msg.Auth u n mark path) (invariant u.0).authorized.auths sent_is)
    after (λ t. world_none t line s from (msg.Auth u n mark path)) (ap (λ (z : Effect). z.issued) is)
world_take_refined line from number j (msg.Answer u time n taken) s p y sent_is one k invariant paced after is =
    still_refined line s p (take_transition 0 from number (msg.Answer u time n taken) nothing) y one refl refl (λ t. record { facts = refl; entry = refl; off = refl; still = refl; taken = refl }) refl (λ t. no_issue t [] refl) k invariant after (ap (λ (z : Effect). z.issued) is)
world_take_refined line from number j m s p y sent_is one k invariant paced after is =
    still_refined line s p (take_transition 0 from number m nothing) y one refl refl (λ t. record { facts = refl; entry = refl; off = refl; still = refl; taken = refl }) refl (λ t. no_issue t [] refl) k invariant after (ap (λ (z : Effect). z.issued) is)
