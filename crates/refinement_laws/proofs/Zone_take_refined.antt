-- The plain state follows a message that the zone takes: its answer, its trains and its alarms.
use Rattle.std.proofs.Common.{◌≡◌, ℕ, suc, max, List, ◌∷◌, ◌++◌, map, filter, Option, Some, None, Bool, true, false, ◌&&◌, refl, sym, ◌∙◌, ap, subst, arith, not, if◌then◌else◌}
use Rattle.std.proofs.lemmas.Bool.Decides.{nat_tests}
use Rattle.std.specs.Prelude.{nat_eq, is_some}
use Rattle.list_laws.proofs.By_test.{by_test}
use Rattle.definitions.specs.declared.message.Msg.{Msg}
use Rattle.definitions.specs.declared.outcome.Outcome.{Outcome}
use Rattle.definitions.specs.Track.{Line}
use Rattle.definitions.specs.Ways.{PlainWay}
use Rattle.definitions.specs.Story.{Transition, Story}
use Rattle.definitions.specs.Control.{grants_entry, controls, now_of, now_with, message_time}
use Rattle.definitions.specs.Fronts.{possible_front, is_used, report_time, report_time_with, silent_by, is_silent}
use Rattle.definitions.specs.Authority.{way}
use Rattle.definitions.specs.Steps.{Effect, nothing, zone_takes, falls_silent, alarm, alarms, zone_step}
use Rattle.definitions.specs.Safe.{IsLineOfOneZone}
use Rattle.plain_state.specs.declared.Controlled.{Controlled}
use Rattle.plain_state.specs.Zone.{PlainZone, find_controlled, report_or, report_of, is_alarmed, alarm_of, plain_alarms, trains_acted_on, zone_answer, zone_acts_on, clock_after, trains_grown, trains_stepped, zone_gives, closed_acted_on, closed_stepped, zone_take_effect, zone_take_next, grown_train}
use Rattle.definitions.specs.Zones.{zone_id}
use Rattle.plain_state.specs.Plain.{Plain, by_zone as zone_next}
use Rattle.plain_state.specs.Refinement.{zone_train_of, ZoneRefines, Refines}
use Rattle.event_laws.proofs.Controls_same.{controls_same}
use Rattle.journey_laws.proofs.Invariant.{Invariant}
use Rattle.refinement_laws.proofs.The_zone.{the_zone}
use Rattle.plain_state.proofs.Found_changed.{filtered_is}
use Rattle.refinement_laws.proofs.Way_now.{grown_of}
use Rattle.refinement_laws.proofs.Facts_is.{way_is_known}
use Rattle.refinement_laws.proofs.Holds_are.{found_controls}
use Rattle.refinement_laws.proofs.Zone_moves.{zone_made, ZoneMoves, zone_refined}
use Rattle.refinement_laws.proofs.Zone_still.{report_unused, report_used}
use Rattle.refinement_laws.proofs.Answer_now.{answer_now}
use Rattle.refinement_laws.proofs.Take_moves.{take_moves}
use Rattle.refinement_laws.proofs.Closed_now.{OrderPlaced}

report_by : (line : Line) (t : ℕ) (s : Story) (w : Option PlainWay) (x : Controlled) → zone_train_of line (zone_id line) t s w ≡ Some x → (x.report ≡ report_time line (zone_id line) t s) × (x.id.0 ≡ t)
report_by line t s None x e = absurd cc
report_by line t s (Some w) x e = (ap (λ (y : Option Controlled). report_or y) (sym e), ap (λ (y : Option Controlled). id_or y) (sym e))
  where
    id_or : Option Controlled → ℕ
    id_or None = t
    id_or (Some y) = y.id.0

report_some : (line : Line) (t : ℕ) (s : Story) (w : Option PlainWay) → is_some w ≡ true → report_or (zone_train_of line (zone_id line) t s w) ≡ report_time line (zone_id line) t s
report_some line t s None h = absurd cc
report_some line t s (Some w) h = refl

module _ (line : Line) (z number : ℕ) (m : Msg) (s : Story) (p : Plain) (one : IsLineOfOneZone line) (zone : suc z ≡ zone_id line) (k : Refines line s p) (invariant : (t : ℕ) → Invariant line t s) where
  abbrev own : PlainZone
  own = p.zones (zone_id line)

  abbrev told : ZoneRefines line (zone_id line) s (p.zones (zone_id line))
  told = the_zone line s p one k

  abbrev now_ : ℕ
  now_ = now_with (zone_id line) s m

  abbrev ways : List Controlled
  ways = map (grown_train now_) own.trains

  abbrev behind : List Controlled
  behind = trains_acted_on line (zone_id line) now_ ways own.closed m

  abbrev e : Effect
  e = zone_step line (zone_id line) 0 s m

  -- The alarms.
  module _ (after : (t : ℕ) → Invariant line t (zone_made z number m e ∷ s)) (grants : (t : ℕ) → controls (zone_id line) t s ≡ true → grants_entry (zone_id line) t (zone_made z number m e) ≡ false) where
    abbrev x : Transition
    x = zone_made z number m e

    moves : ZoneMoves line s (zone_made z number m e) behind
    moves = take_moves line z number s p one zone k invariant e.lines own.closed told.closed m ways (grown_of line s own now_ told) after

    report_next : (t : ℕ) → controls (zone_id line) t s ≡ true → report_time line (zone_id line) t (zone_made z number m e ∷ s) ≡ report_time_with line (zone_id line) t s m
    report_next t c =
        let here : nat_eq (suc z) (zone_id line) ≡ true = grind (arith, nat_tests) in
        by_test (is_used line (zone_id line) t s (possible_front line (zone_id line) t s) m)
        (λ y. report_used line (zone_id line) t x s (grants t c) here y ∙ sym (ap (λ (b : Bool). if b then max (report_time line (zone_id line) t s) (message_time m) else report_time line (zone_id line) t s) y))
        (λ n. report_unused line (zone_id line) t x s (grants t c) n ∙ sym (ap (λ (b : Bool). if b then max (report_time line (zone_id line) t s) (message_time m) else report_time line (zone_id line) t s) n))

    report_behind : (t : ℕ) → controls (zone_id line) t s ≡ true → report_of t behind ≡ report_time_with line (zone_id line) t s m
    report_behind t c =
        let c2 = controls_same (zone_id line) t x s (grants t c) ∙ c in
        ap (λ (y : Option Controlled). report_or y) (moves.found t)
        ∙ (report_some line t (x ∷ s) (way line (zone_id line) t (x ∷ s)) (way_is_known line (zone_id line) t (x ∷ s) ∙ c2) ∙ report_next t c)

    alarmed_is : (t : ℕ) (y : Controlled) → find_controlled t own.trains ≡ Some y → is_alarmed line (now_of (zone_id line) s) now_ behind y ≡ falls_silent line (zone_id line) s m t
    alarmed_is t y found =
        let c = found_controls line s one.valid own.trains told.found invariant t y found in
        let r = report_by line t s (way line (zone_id line) t s) y (sym (told.found t) ∙ found) in
        ap (λ (n : ℕ). not (silent_by line n (now_of (zone_id line) s)) && silent_by line (report_of y.id.0 behind) now_) r.0
        ∙ (ap (λ (n : ℕ). not (is_silent line (zone_id line) t s) && silent_by line (report_of n behind) now_) r.1
        ∙ ap (λ (n : ℕ). not (is_silent line (zone_id line) t s) && silent_by line n now_) (report_behind t c))

    alarms_are : plain_alarms line (zone_id line) (now_of (zone_id line) s) now_ own.trains behind ≡ alarms line (zone_id line) s m
    alarms_are =
        filtered_is (is_alarmed line (now_of (zone_id line) s) now_ behind) (falls_silent line (zone_id line) s m) (alarm_of (zone_id line)) (alarm (zone_id line)) own.trains told.distinct alarmed_is (λ y. refl)
        ∙ ap (λ (us : List ℕ). map (alarm (zone_id line)) (filter (falls_silent line (zone_id line) s m) us)) told.known

    -- Acts_on_sent.
    module _ (acts_on : zone_acts_on line own 0 m ≡ true) where
      stepped_is : trains_stepped line own 0 m ≡ behind
      stepped_is =
          ap (λ (b : Bool). if b then trains_acted_on line own.id (clock_after own.clock m) (trains_grown line own m) own.closed m else trains_grown line own m) acts_on
          ∙ (ap (λ (i : ℕ). trains_acted_on line i (clock_after own.clock m) (trains_grown line own m) own.closed m) told.id
          ∙ ap (λ (c : ℕ). trains_acted_on line (zone_id line) (clock_after c m) (map (grown_train (clock_after c m)) own.trains) own.closed m) told.clock)

      gives_is : zone_gives line own 0 m ≡ zone_takes line (zone_id line) 0 s m
      gives_is =
          ap (λ (b : Bool). if b then zone_answer line own.id (clock_after own.clock m) (trains_grown line own m) own.closed m else nothing) acts_on
          ∙ (ap (λ (i : ℕ). zone_answer line i (clock_after own.clock m) (trains_grown line own m) own.closed m) told.id
          ∙ (ap (λ (c : ℕ). zone_answer line (zone_id line) (clock_after c m) (map (grown_train (clock_after c m)) own.trains) own.closed m) told.clock
          ∙ sym (answer_now line z number s one zone invariant m ways (grown_of line s own now_ told) own.closed told.closed)))

      lines_are : plain_alarms line own.id own.clock (clock_after own.clock m) own.trains (trains_stepped line own 0 m) ≡ alarms line (zone_id line) s m
      lines_are =
          ap (λ (xs : List Controlled). plain_alarms line own.id own.clock (clock_after own.clock m) own.trains xs) stepped_is
          ∙ (ap (λ (i : ℕ). plain_alarms line i own.clock (clock_after own.clock m) own.trains behind) told.id
          ∙ (ap (λ (c : ℕ). plain_alarms line (zone_id line) c (clock_after c m) own.trains behind) told.clock ∙ alarms_are))

      pub zone_taken : zone_step line (zone_id line) 0 s m ≡ zone_take_effect line own 0 m
      zone_taken = sym (ap (λ (y : Effect). with_lines y (plain_alarms line own.id own.clock (clock_after own.clock m) own.trains (trains_stepped line own 0 m))) gives_is
          ∙ ap (λ (ls : List Outcome). with_lines (zone_takes line (zone_id line) 0 s m) ls) lines_are)
        where
          with_lines : Effect → List Outcome → Effect
          with_lines y ls = record { issued = y.issued; lines = y.lines ++ ls }

      closed_is : closed_stepped line own 0 m ≡ closed_acted_on m own.closed
      closed_is = ap (λ (b : Bool). if b then closed_acted_on m own.closed else own.closed) acts_on

      zone_is : zone_take_next line own 0 m ≡ record { id = own.id; clock = clock_after own.clock m; trains = behind; closed = closed_acted_on m own.closed }
      zone_is =
          ap (λ (xs : List Controlled). zone_with xs (closed_stepped line own 0 m)) stepped_is ∙ ap (λ (bs : List Bool). zone_with behind bs) closed_is
        where
          zone_with : List Controlled → List Bool → PlainZone
          zone_with xs bs = record { id = own.id; clock = clock_after own.clock m; trains = xs; closed = bs }

      pub zone_take_refined : OrderPlaced 32768 m → Refines line (zone_made z number m e ∷ s) (zone_next p (zone_id line) (zone_take_next line own 0 m) (zone_take_effect line own 0 m))
      zone_take_refined placed =
          subst (λ (y : PlainZone). Refines line (x ∷ s) (zone_next p (zone_id line) y (zone_take_effect line own 0 m))) (sym zone_is)
          (zone_refined line z number m e (zone_take_effect line own 0 m) s p behind one zone k moves placed after (ap (λ (y : Effect). y.issued) (sym zone_taken)))
