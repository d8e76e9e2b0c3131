-- The zone's trains follow any message that the zone takes and acts on.
use Rattle.std.proofs.Common.{◌≡◌, ℕ, suc, ◌-◌, List, [], ◌∷◌, Option, Some, None, Bool, true, false, ◌&&◌, refl, sym, ◌∙◌, ap, subst}
use Rattle.std.specs.Prelude.{nat_eq, nat_lt, is_some}
use Rattle.list_laws.proofs.By_test.{by_test}
use Rattle.arrayvec.specs.ArrayVec.{ArrayVec}
use Rattle.track_points.specs.declared.ids.DirSeg.{DirSeg}
use Rattle.track_points.specs.declared.ids.TrainId.{TrainId}
use Rattle.definitions.specs.declared.message.Msg.{Msg}
use Rattle.definitions.specs.declared.message.Msg.TheVariants as msg
use Rattle.definitions.specs.declared.message.Order.TheVariants as orders
use Rattle.definitions.specs.declared.outcome.Outcome.{Outcome}
use Rattle.definitions.specs.Track.{Line, seg_len}
use Rattle.definitions.specs.Ways.{PlainWay, way_between}
use Rattle.definitions.specs.Story.{Story}
use Rattle.definitions.specs.Control.{controls, knows, knows_most, known_facts, now_with, last_issued}
use Rattle.definitions.specs.Longest.{counted, is_pending, longest_end, longest_route}
use Rattle.definitions.specs.Fronts.{report_time, silent_by}
use Rattle.definitions.specs.Authority.{way, holder_of}
use Rattle.definitions.specs.Limit.{Reach, path_of, reach_from, barring, limit}
use Rattle.definitions.specs.Steps.{Effect, nothing, enter_or_held, zone_entry, zone_ask, sent_again, zone_time, closing, opening, zone_takes}
use Rattle.definitions.specs.Safe.{IsLineOfOneZone}
use Rattle.event_laws.proofs.Zone_issues.{report_none}
use Rattle.plain_state.specs.declared.Controlled.{Controlled}
use Rattle.plain_state.specs.Zone.{find_controlled, change_controlled, full, holder_plain, lengthened, entered_or, train_at_entry, trains_entered, trains_asked, uses_mark, reported_by, trains_acted_on}
use Rattle.definitions.specs.Zones.{zone_id}
use Rattle.plain_state.specs.Plain.{Plain}
use Rattle.plain_state.specs.Refinement.{Refines}
use Rattle.event_laws.proofs.Issued_all.{NoAuth, no_issue}
use Rattle.event_laws.proofs.Controls_same.{controls_knows}
use Rattle.journey_laws.proofs.Invariant.{Invariant}
use Rattle.plain_state.proofs.Found_changed.{ids_change, distinct_change}
use Rattle.refinement_laws.proofs.Way_now.{Grown, Shut, known_now, full_now, holder_now, reach_now}
use Rattle.refinement_laws.proofs.Way_of.{way_of}
use Rattle.refinement_laws.proofs.Facts_is.{no_way}
use Rattle.refinement_laws.proofs.Zone_moves.{zone_made, zone_heads, ZoneMoves}
use Rattle.refinement_laws.proofs.Quiet_moves.{silent_stays, stay_moves, quiet_moves}
use Rattle.refinement_laws.proofs.Again_moves.{again_moves}
use Rattle.refinement_laws.proofs.Report_found.{report_found}
use Rattle.refinement_laws.proofs.Entered_moves.{entered_moves}
use Rattle.refinement_laws.proofs.Ask_moves.{given, ask_moves}
use Rattle.refinement_laws.proofs.Answered_moves.{answered_moves}
use Rattle.refinement_laws.proofs.Short_moves.{short_moves}

-- what an effect issues, with any lines
abbrev pub issuing : Effect → List Outcome → Effect
issuing e lines = record { issued = e.issued; lines = lines }

module _ (line : Line) (z number : ℕ) (s : Story) (p : Plain) (one : IsLineOfOneZone line) (zone : suc z ≡ zone_id line) (k : Refines line s p) (invariant : (t : ℕ) → Invariant line t s) (lines : List Outcome) (closed : List Bool) (shut : Shut line s closed) where
  abbrev AfterAll : Msg → Effect → Type 0
  AfterAll m e = (t : ℕ) → Invariant line t (zone_made z number m (issuing e lines) ∷ s)

  abbrev Moves : Msg → Effect → List Controlled → Type 0
  Moves m e trains = ZoneMoves line s (zone_made z number m (issuing e lines)) trains

  -- A request for entry.
  module _ (u : TrainId) (time long error speed : ℕ) (equipped : Bool) (step : DirSeg) (ways : List Controlled) (g : Grown line s (now_with (zone_id line) s (msg.EntryAsk u time long error speed equipped step)) ways) where
    abbrev entry_m : Msg
    entry_m = msg.EntryAsk u time long error speed equipped step

    abbrev room : ℕ
    room = seg_len line step.seg.0

    abbrev after_entry : Bool → Bool → Option ℕ → Effect
    after_entry known most holder = zone_entry (zone_id line) known most room u long step holder

    abbrev entry_trains : Bool → Bool → Option ℕ → List Controlled
    entry_trains known most holder = trains_entered (now_with (zone_id line) s entry_m) known most room u long error speed equipped step holder ways

    refused : (e : Effect) → e.issued ≡ [] → AfterAll entry_m e → Moves entry_m e ways
    refused e is after =
        quiet_moves line z number entry_m (issuing e lines) s p ways one zone k invariant after g (λ v. no_issue v e.issued is) (λ v. refl) (λ v. refl)

    by_holder : controls (zone_id line) u.0 s ≡ false → nat_lt room long ≡ false → (holder : Option ℕ) → AfterAll entry_m (enter_or_held (zone_id line) room u step holder)
        → Moves entry_m (enter_or_held (zone_id line) room u step holder) (entered_or holder (train_at_entry (now_with (zone_id line) s entry_m) u room long error speed equipped step) ways)
    by_holder fresh wide (Some v) after = refused (enter_or_held (zone_id line) room u step (Some v)) refl after
    by_holder fresh wide None after = entered_moves line z number u time long error speed equipped step s one zone invariant fresh wide lines after p ways k g

    by_known : (known most : Bool) (holder : Option ℕ) → controls (zone_id line) u.0 s ≡ known → AfterAll entry_m (after_entry known most holder) → Moves entry_m (after_entry known most holder) (entry_trains known most holder)
    by_known true most holder fresh after = refused (after_entry true most holder) refl after
    by_known false true holder fresh after = refused (after_entry false true holder) refl after
    by_known false false holder fresh after = by_test (nat_lt room long)
        (λ y. rw y (refused nothing refl (λ t. rw y at (after t))))
        (λ n. rw n (by_holder fresh n holder (λ t. rw n at (after t))))

    pub entry_moves : AfterAll entry_m (zone_takes line (zone_id line) 0 s entry_m) → Moves entry_m (zone_takes line (zone_id line) 0 s entry_m) (trains_acted_on line (zone_id line) (now_with (zone_id line) s entry_m) ways closed entry_m)
    entry_moves after =
        let n = now_with (zone_id line) s entry_m in
        let z0 = zone_id line in
        let same : entry_trains (is_some (find_controlled u.0 ways)) (full ways) (holder_plain line z0 ways step.seg.0) ≡ entry_trains (knows z0 u.0 s) (knows_most z0 s) (holder_of line z0 s step.seg.0) =
        ap (λ (b : Bool). entry_trains b (full ways) (holder_plain line z0 ways step.seg.0)) (known_now line s one.valid invariant n ways g u.0)
        ∙ (ap (λ (b : Bool). entry_trains (knows z0 u.0 s) b (holder_plain line z0 ways step.seg.0)) (full_now line s one.valid invariant n ways g)
        ∙ ap (λ (h : Option ℕ). entry_trains (knows z0 u.0 s) (knows_most z0 s) h) (holder_now line s one.valid invariant n ways g step.seg.0)) in
        subst (λ (xs : List Controlled). Moves entry_m (zone_takes line z0 0 s entry_m) xs) (sym same) (by_known (knows z0 u.0 s) (knows_most z0 s) (holder_of line z0 s step.seg.0) (controls_knows z0 u.0 s) after)

  -- An ask.
  module _ (u : TrainId) (time : ℕ) (steps : ArrayVec DirSeg) (to : ℕ) (ways : List Controlled) (g : Grown line s (now_with (zone_id line) s (msg.Ask u time steps to)) ways) where
    abbrev ask_m : Msg
    ask_m = msg.Ask u time steps to

    abbrev reach : Reach
    reach = limit line (zone_id line) u.0 s (now_with (zone_id line) s ask_m) steps.items to

    abbrev ask_effect : Option PlainWay → Effect
    ask_effect w = zone_ask (seg_len line) (zone_id line) u (last_issued u.0 s) w steps.items reach

    denied : AfterAll ask_m nothing → Moves ask_m nothing ways
    denied after =
        quiet_moves line z number ask_m (issuing nothing lines) s p ways one zone k invariant after g (λ v. no_issue v [] refl) (λ v. refl) (λ v. refl)

    granted : (c : controls (zone_id line) u.0 s ≡ true) → nat_eq reach.distance 0 ≡ false
        → AfterAll ask_m (ask_effect (Some (way_between (seg_len line) (longest_route line u.0 s) (((invariant u.0).fronts c).lo - (known_facts (zone_id line) u.0 s).long) (longest_end line u.0 s))))
        → Moves ask_m (ask_effect (Some (way_between (seg_len line) (longest_route line u.0 s) (((invariant u.0).fronts c).lo - (known_facts (zone_id line) u.0 s).long) (longest_end line u.0 s)))) (trains_asked (seg_len line) u.0 steps.items reach ways)
    granted c some after = rw some (given_moves (λ t. rw some at (after t)))
      where
        given_moves : ((t : ℕ) → Invariant line t (zone_made z number ask_m (given line z number u time steps to s one zone invariant lines c some) ∷ s))
            → ZoneMoves line s (zone_made z number ask_m (given line z number u time steps to s one zone invariant lines c some)) (change_controlled u.0 (lengthened (seg_len line) steps.items reach.distance) ways)
        given_moves now_after =
            ask_moves line z number u time steps to s one zone invariant lines c some now_after p ways k g

    ask_by : (w : Option PlainWay) → way line (zone_id line) u.0 s ≡ w → AfterAll ask_m (ask_effect w) → Moves ask_m (ask_effect w) (trains_asked (seg_len line) u.0 steps.items reach ways)
    ask_by None is after =
        let none : nat_eq reach.distance 0 ≡ true =
        ap (λ (w : Option PlainWay). nat_eq (reach_from line (controls (zone_id line) u.0 s && nat_lt 0 (counted line u.0 s)) (is_pending line u.0 s) (silent_by line (report_time line (zone_id line) u.0 s) (now_with (zone_id line) s ask_m)) (path_of w) steps.items to (barring line (zone_id line) u.0 s)).distance 0) is in
        rw none (denied after)
    ask_by (Some w) is after = by_test (controls (zone_id line) u.0 s)
        (λ c. subst (λ (o : Option PlainWay). AfterAll ask_m (ask_effect o) → Moves ask_m (ask_effect o) (trains_asked (seg_len line) u.0 steps.items reach ways)) (sym ((way_of line u.0 s one.valid (invariant u.0) c).is) ∙ is)
        (λ now_after. by_test (nat_eq reach.distance 0)
        (λ y. rw y (denied (λ t. rw y at (now_after t))))
        (λ n. granted c n now_after)) after)
        (λ o. absurd (let x : None ≡ Some w = sym (no_way line (zone_id line) u.0 s o) ∙ is in cc))

    pub asking_moves : AfterAll ask_m (zone_takes line (zone_id line) 0 s ask_m) → Moves ask_m (zone_takes line (zone_id line) 0 s ask_m) (trains_acted_on line (zone_id line) (now_with (zone_id line) s ask_m) ways closed ask_m)
    asking_moves after =
        subst (λ (r : Reach). Moves ask_m (zone_takes line (zone_id line) 0 s ask_m) (trains_asked (seg_len line) u.0 steps.items r ways)) (sym (reach_now line s one.valid invariant (now_with (zone_id line) s ask_m) ways g u.0 steps.items to (now_with (zone_id line) s ask_m) closed shut))
        (ask_by (way line (zone_id line) u.0 s) refl after)

  -- A report, the time, and what does nothing.

  pub take_moves : (m : Msg) (ways : List Controlled) → Grown line s (now_with (zone_id line) s m) ways → AfterAll m (zone_takes line (zone_id line) 0 s m)
      → Moves m (zone_takes line (zone_id line) 0 s m) (trains_acted_on line (zone_id line) (now_with (zone_id line) s m) ways closed m)
  take_moves (msg.EntryAsk u time long error speed equipped step) ways g after = entry_moves u time long error speed equipped step ways g after
  take_moves (msg.Ask u time steps to) ways g after = asking_moves u time steps to ways g after
  take_moves (msg.Report u time mark offset integrity) ways g after =
      let m = msg.Report u time mark offset integrity in
      let e = issuing (zone_takes line (zone_id line) 0 s m) lines in
      let silent : (v : ℕ) → NoAuth v e.issued = λ v. no_issue v e.issued (report_none line (zone_id line) s u m) in
      stay_moves line (zone_made z number m e) s p (trains_acted_on line (zone_id line) (now_with (zone_id line) s m) ways closed m) one k invariant
      (silent_stays line (zone_made z number m e) s invariant after (λ v. zone_heads v z number m e s) silent)
      (report_found line z number u time mark offset integrity s one zone invariant ways g e silent after)
      (by_test (uses_mark (find_controlled u.0 ways) mark)
      (λ y. rw y (ids_change u.0 (reported_by (seg_len line) time mark offset integrity) ways (λ x. refl) ∙ g.known))
      (λ n. rw n g.known))
      (by_test (uses_mark (find_controlled u.0 ways) mark)
      (λ y. rw y (distinct_change u.0 (reported_by (seg_len line) time mark offset integrity) ways (λ x. refl) g.distinct))
      (λ n. rw n g.distinct))
  take_moves (msg.Time time u) ways g after = time_case (controls (zone_id line) u.0 s) (way line (zone_id line) u.0 s) refl refl after
    where
      quiet : AfterAll (msg.Time time u) nothing → Moves (msg.Time time u) nothing ways
      quiet now_after =
          quiet_moves line z number (msg.Time time u) (issuing nothing lines) s p ways one zone k invariant now_after g (λ v. no_issue v [] refl) (λ v. refl) (λ v. refl)

      time_case : (b : Bool) (w : Option PlainWay) → controls (zone_id line) u.0 s ≡ b → way line (zone_id line) u.0 s ≡ w → AfterAll (msg.Time time u) (zone_time b (counted line u.0 s) (last_issued u.0 s) u (sent_again line u.0 s w))
          → Moves (msg.Time time u) (zone_time b (counted line u.0 s) (last_issued u.0 s) u (sent_again line u.0 s w)) ways
      time_case false w c is now_after = quiet now_after
      time_case true None c is now_after = absurd (let x : None ≡ Some _ = sym is ∙ (way_of line u.0 s one.valid (invariant u.0) c).is in cc)
      time_case true (Some w) c is now_after =
          subst (λ (o : Option PlainWay). AfterAll (msg.Time time u) (zone_time true (counted line u.0 s) (last_issued u.0 s) u (sent_again line u.0 s o)) → Moves (msg.Time time u) (zone_time true (counted line u.0 s) (last_issued u.0 s) u (sent_again line u.0 s o)) ways)
          (sym ((way_of line u.0 s one.valid (invariant u.0) c).is) ∙ is)
          (λ later. by_test (nat_lt (counted line u.0 s) (last_issued u.0 s))
          (λ y. rw y (again_moves line z number time u s one zone invariant c lines (λ t. rw y at (later t)) p ways k g))
          (λ n. rw n (quiet (λ t. rw n at (later t))))) now_after
  take_moves (msg.Answer u time n taken) ways g after = answered_moves line z number u time n taken (issuing nothing lines) s one zone invariant after (λ v. no_issue v [] refl) p ways k g
  take_moves (msg.Order time (orders.Short u st off)) ways g after = short_moves line z number u time st off s one invariant ways g zone lines p k after
  take_moves (msg.Order time (orders.Close seg)) ways g after =
      quiet_moves line z number (msg.Order time (orders.Close seg)) (issuing (closing (zone_id line) seg) lines) s p ways one zone k invariant after g (λ v. no_issue v [] refl) (λ v. refl) (λ v. refl)
  take_moves (msg.Order time (orders.Open seg)) ways g after =
      quiet_moves line z number (msg.Order time (orders.Open seg)) (issuing (opening (zone_id line) seg) lines) s p ways one zone k invariant after g (λ v. no_issue v [] refl) (λ v. refl) (λ v. refl)
  take_moves m ways g after = quiet_moves line z number m (issuing nothing lines) s p ways one zone k invariant after g (λ v. no_issue v [] refl) (λ v. refl) (λ v. refl)
