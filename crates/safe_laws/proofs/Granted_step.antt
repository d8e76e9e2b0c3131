-- What each event adds to what is held.
use Rattle.std.proofs.Common.{◌≡◌, ℕ, zero, suc, ◌+◌, ◌-◌, ◌<◌, ◌≤◌, List, [], ◌∷◌, ◌++◌, Option, Some, None, Bool, true, false, ◌&&◌, refl, sym, ◌∙◌, ap, subst, arith, not}
use Rattle.std.proofs.lemmas.Bool.{eqb-true, and_parts}
use Rattle.std.proofs.lemmas.Bool.Decides.{nat_tests}
use Rattle.std.proofs.Math.Bool.{and-false}
use Rattle.std.proofs.lemmas.Option.{same_Some}
use Rattle.std.specs.Prelude.{nat_eq, nat_lt}
use Rattle.std.specs.List.{list_any}
use Rattle.list_laws.proofs.By_test.{by_test}
use Rattle.arrayvec.specs.ArrayVec.{ArrayVec}
use Rattle.track_points.specs.declared.ids.DirSeg.{DirSeg}
use Rattle.track_points.specs.declared.ids.TrainId.{TrainId}
use Rattle.track_points.specs.Points.{Lengths, Layout, Point, total, end_place, has_between}
use Rattle.definitions.specs.declared.event.Event.{Event}
use Rattle.definitions.specs.declared.event.Event.TheVariants.{Take}
use Rattle.definitions.specs.declared.message.Msg.{Msg}
use Rattle.definitions.specs.declared.message.Msg.TheVariants as msg
use Rattle.definitions.specs.declared.message.Order.{Order}
use Rattle.definitions.specs.declared.message.Order.TheVariants.{Close, Open, Short}
use Rattle.definitions.specs.declared.outcome.Outcome.{Outcome}
use Rattle.definitions.specs.Track.{Line, seg_len, layout}
use Rattle.definitions.specs.Ways.{PlainWay}
use Rattle.definitions.specs.Story.{Transition, Story}
use Rattle.definitions.specs.World.{head, goes_on, journey, authority_end, is_auth}
use Rattle.definitions.specs.Control.{asks_entry, controls, knows, knows_most, now_with, last_issued}
use Rattle.definitions.specs.Fold.{account}
use Rattle.definitions.specs.Longest.{counted, longest_end, is_pending, shrink_place}
use Rattle.definitions.specs.Fronts.{report_time, silent_by}
use Rattle.definitions.specs.Authority.{way, way_start, shrink_on, holder_of}
use Rattle.definitions.specs.Limit.{Reach, asked_way, path_of, reach_from, barring, limit}
use Rattle.definitions.specs.Steps.{Effect, world_takes, entry_path, enter_or_held, path_to, zone_ask, zone_report, up_to, sent_again, zone_time, front_after, zone_order, zone_takes, alarms, transition, effects}
use Rattle.definitions.specs.Safe.{Granted, IsLineOfOneZone, reached, added_by, added}
use Rattle.event_laws.proofs.By_does.{by_does, told_none, take_actors, take_issued}
use Rattle.event_laws.proofs.Zone_issues.{short_cases, report_none, zone_other, world_none}
use Rattle.definitions.specs.Zones.{zone_id}
use Rattle.way_laws.proofs.Cut_front.{none_between}
use Rattle.way_laws.proofs.Reach_granted.{reach_granted}
use Rattle.event_laws.proofs.Issued_all.{AllIn, NoAuth, no_issue, AuthHas}
use Rattle.event_laws.proofs.Admitted.{Admitted}
use Rattle.journey_laws.proofs.Motion.{Timed, heads_grow}
use Rattle.event_laws.proofs.Still_world.{heads_still}
use Rattle.journey_laws.proofs.Invariant.{RequestTrue, Invariant}
use Rattle.event_laws.proofs.Controls_same.{way_controls}
use Rattle.journey_laws.proofs.One_route.{shrink_before}
use Rattle.step_laws.proofs.Taken_counts.{answers, unanswered_takes}
use Rattle.journey_laws.proofs.Zone_only.{actor_zone}
use Rattle.safe_laws.proofs.Held_points.{held_way, way_is}
use Rattle.safe_laws.proofs.Held_way_ends.{held_way_some, held_way_within, held_way_end, held_way_ends, held_way_to}
use Rattle.safe_laws.proofs.Calm_adds.{Adds, calm_adds, no_auth_calm, added_here}
use Rattle.safe_laws.proofs.Entry_adds.{take_transition, entry_adds}
use Rattle.safe_laws.proofs.Ask_adds.{ask_adds}
use Rattle.safe_laws.proofs.Event_answers.{unready_reach, ask_reaches, ask_denied, ask_granted, event_answers}

-- An ask that reaches no farther.

none_reached : (layout : Layout) (w : Option PlainWay) (asked : List DirSeg) (d : ℕ) (point : Point) → nat_eq d 0 ≡ true → reached layout w asked d point ≡ false
none_reached layout None asked d point h = refl
none_reached layout (Some w) asked d point h =
    let end = end_place layout.len w.path in
    let zero_ = eqb-true d 0 h in
    let e : end + d ≡ end = omega arith in
    ap (λ (hi : ℕ). has_between layout (asked_way w.path.steps.items asked) end hi point) e ∙ none_between point layout (asked_way w.path.steps.items asked) end

quiet_time : (controlled : Bool) (counted_ last : ℕ) (u : TrainId) (w : Option PlainWay) → (controlled && nat_lt counted_ last) ≡ false → (zone_time controlled counted_ last u w).issued ≡ []
quiet_time controlled counted_ last u w h = rw h refl

-- an authority alone, which ends at a place at most
one_ends : (line : Line) (t number end : ℕ) (s : Story) (u : TrainId) (v : PlainWay) (x : Transition) → x.issued ≡ (0, msg.Auth u number v.mark v.path) ∷ []
    → authority_end (seg_len line) (journey line t (x ∷ s)) (record { mark = v.mark; path = v.path }) ≤ end → AllIn (AuthHas (λ a. authority_end (seg_len line) (journey line t (x ∷ s)) a ≤ end) t) x.issued
unfolding AllIn
one_ends line t number end s u v x is e = subst (λ (issued : List (ℕ × Msg)). AllIn (AuthHas (λ a. authority_end (seg_len line) (journey line t (x ∷ s)) a ≤ end) t) issued) (sym is) ((λ y. e), tt)

-- A take of the zone.
module _ (line : Line) (t z from number : ℕ) (s : Story) (lines : List Outcome) (l : IsLineOfOneZone line) (zone : suc z ≡ zone_id line) (invariant : Invariant line t s) where
  abbrev len : Lengths
  len = seg_len line

  -- what a take of a message adds where it issues these
  abbrev Goes : Msg → List (ℕ × Msg) → Type 0
  Goes m issued = Invariant line t (take_transition (suc z) from number m issued lines ∷ s) → Adds line t s (take_transition (suc z) from number m issued lines)

  none_goes : (m : Msg) (issued : List (ℕ × Msg)) → NoAuth t issued → ((point : Point) → added_by line (suc z) t s m point ≡ false) → Goes m issued
  none_goes m issued none unadded after =
      let x = take_transition (suc z) from number m issued lines in
      calm_adds line t s x l invariant after (no_auth_calm line t s x none (heads_still t x s refl) (λ y point. added_here line z t from s m point (unadded point) y))

  silent_goes : (m : Msg) (issued : List (ℕ × Msg)) → issued ≡ [] → ((point : Point) → added_by line (suc z) t s m point ≡ false) → Goes m issued
  silent_goes m issued is unadded = none_goes m issued (no_issue t issued is) unadded

  is_not : (u : TrainId) (rest : Bool) → nat_eq u.0 t ≡ false → (nat_eq u.0 t && rest) ≡ false
  is_not u rest h = rw h refl

  -- Requests for entry.

  module _ (u : TrainId) (time long error speed : ℕ) (equipped : Bool) (step : DirSeg) where
    abbrev entry_message : Msg
    entry_message = msg.EntryAsk u time long error speed equipped step

    open_goes : RequestTrue line t s (msg.EntryAsk u time long error speed equipped step) → (holder : Option ℕ) → holder_of line (suc z) s step.seg.0 ≡ holder
        → knows (suc z) u.0 s ≡ false → knows_most (suc z) s ≡ false → nat_lt (seg_len line step.seg.0) long ≡ false
        → Goes (msg.EntryAsk u time long error speed equipped step) (enter_or_held (suc z) (seg_len line step.seg.0) u step holder).issued
    unfolding AllIn
    open_goes request (Some h) is fresh few room =
        silent_goes entry_message [] refl
        (λ point. rw (is, room, few, and-false (not (knows (suc z) t s)), and-false (nat_eq u.0 t)) refl)
    open_goes request None is fresh few room =
        by_test (nat_eq u.0 t)
        (λ its. entry_adds line t z from number u time long error speed equipped step lines s l zone its request
        (subst (λ (n : ℕ). knows (suc z) n s ≡ false) (eqb-true u.0 t its) fresh) few room is invariant)
        (λ other. none_goes entry_message ((0, msg.Auth u 1 0 (entry_path step (seg_len line step.seg.0))) ∷ []) (other, tt) (λ point. is_not u _ other))

    entry_goes : RequestTrue line t s (msg.EntryAsk u time long error speed equipped step)
        → Goes (msg.EntryAsk u time long error speed equipped step) (zone_takes line (suc z) from s (msg.EntryAsk u time long error speed equipped step)).issued
    entry_goes request =
        by_test (knows (suc z) u.0 s)
        (λ known. silent_goes entry_message (zone_takes line (suc z) from s entry_message).issued (rw known refl)
        (λ point. by_test (nat_eq u.0 t)
        (λ its. let k : knows (suc z) t s ≡ true = subst (λ (n : ℕ). knows (suc z) n s ≡ true) (eqb-true u.0 t its) known in rw (its, k) refl)
        (λ other. is_not u _ other)))
        (λ fresh. by_test (knows_most (suc z) s)
        (λ full. silent_goes entry_message (zone_takes line (suc z) from s entry_message).issued (rw (fresh, full) refl)
        (λ point. rw (full, and-false (not (knows (suc z) t s)), and-false (nat_eq u.0 t)) refl))
        (λ few. by_test (nat_lt (seg_len line step.seg.0) long)
        (λ too. silent_goes entry_message (zone_takes line (suc z) from s entry_message).issued (rw (fresh, few, too) refl)
        (λ point. rw (too, few, and-false (not (knows (suc z) t s)), and-false (nat_eq u.0 t)) refl))
        (λ room.
        let is : (zone_takes line (suc z) from s entry_message).issued ≡ (enter_or_held (suc z) (seg_len line step.seg.0) u step (holder_of line (suc z) s step.seg.0)).issued = rw (fresh, few, room) refl in
        subst (λ (issued : List (ℕ × Msg)). Goes entry_message issued) (sym is)
        (open_goes request (holder_of line (suc z) s step.seg.0) refl fresh few room))))

  -- The way of the train, where the zone controls it.

  here_control : controls (suc z) t s ≡ true → controls (zone_id line) t s ≡ true
  here_control h = subst (λ (n : ℕ). controls n t s ≡ true) zone h

  abbrev w : PlainWay
  w = held_way line t s

  here_way : controls (suc z) t s ≡ true → way line (suc z) t s ≡ Some w
  here_way h =
      let control = here_control h in
      subst (λ (n : ℕ). way line n t s ≡ Some w) (sym zone) (way_is line t s l invariant control)

  -- Asks.

  module _ (u : TrainId) (time to : ℕ) (steps : ArrayVec DirSeg) where
    abbrev ask_message : Msg
    ask_message = msg.Ask u time steps to

    abbrev now_ : ℕ
    now_ = now_with (suc z) s ask_message

    abbrev reach_of : ℕ → Reach
    reach_of n = limit line (suc z) n s now_ steps.items to

    abbrev ask_issued : ℕ → List (ℕ × Msg)
    ask_issued n = (zone_ask (seg_len line) (suc z) u (last_issued n s) (way line (suc z) n s) steps.items (reach_of n)).issued

    denied_goes : nat_eq (reach_of t).distance 0 ≡ true → Goes ask_message (ask_issued t)
    denied_goes none =
        silent_goes ask_message (ask_issued t) (ap (λ (y : Effect). y.issued) (ask_denied len (suc z) u (last_issued t s) (way line (suc z) t s) steps.items (reach_of t) none))
        (λ point. ap (λ (b : Bool). nat_eq u.0 t && b) (none_reached (layout line) (way line (suc z) t s) steps.items (reach_of t).distance point none) ∙ and-false (nat_eq u.0 t))

    granted_goes : nat_eq u.0 t ≡ true → controls (suc z) t s ≡ true → nat_eq (reach_of t).distance 0 ≡ false → Goes ask_message (ask_issued t)
    granted_goes its controlled some =
        let control = here_control controlled in
        let ready = controls (suc z) t s && nat_lt 0 (counted line t s) in
        let pending = is_pending line t s in
        let silent = silent_by line (report_time line (suc z) t s) now_ in
        let is = here_way controlled in
        let d = (reach_of t).distance in
        let d_is : (reach_of t).distance ≡ (reach_from line ready pending silent (Some w.path) steps.items to (barring line (suc z) t s)).distance =
        ap (λ (v : Option PlainWay). (reach_from line ready pending silent (path_of v) steps.items to (barring line (suc z) t s)).distance) is in
        let far = subst (λ (n : ℕ). end_place len w.path + n ≤ total len (asked_way w.path.steps.items steps.items)) (sym d_is)
        (reach_granted line ready pending silent w.path steps.items to (barring line (suc z) t s) (held_way_some line t s l invariant control) (held_way_within line t s l invariant control)) in
        let adding : (point : Point) → added_by line (suc z) t s ask_message point ≡ has_between (layout line) (asked_way w.path.steps.items steps.items) (end_place len w.path) (end_place len w.path + d) point =
        λ point. ap (λ (b : Bool). b && reached (layout line) (way line (suc z) t s) steps.items d point) its ∙ ap (λ (v : Option PlainWay). reached (layout line) v steps.items d point) is in
        let issued_is = ap (λ (v : Option PlainWay). (zone_ask len (suc z) u (last_issued t s) v steps.items (reach_of t)).issued) is
        ∙ ap (λ (y : Effect). y.issued) (ask_granted len (suc z) u (last_issued t s) w steps.items (reach_of t) some) in
        subst (λ (issued : List (ℕ × Msg)). Goes ask_message issued) (sym issued_is)
        (ask_adds line t z from number (last_issued t s + 1) d u time to steps lines s l zone its invariant control (omega arith) far adding)

    mine_goes : nat_eq u.0 t ≡ true → Goes ask_message (ask_issued t)
    mine_goes its = by_test (nat_eq (reach_of t).distance 0)
        (λ none. denied_goes none)
        (λ some. by_test (controls (suc z) t s)
        (λ y. granted_goes its y some)
        (λ no_.
        let e = ap (λ (r : Reach). r.distance) (unready_reach line (controls (suc z) t s && nat_lt 0 (counted line t s)) (is_pending line t s) (silent_by line (report_time line (suc z) t s) now_) (path_of (way line (suc z) t s)) steps.items to (barring line (suc z) t s) (rw no_ refl)) in
        absurd (grind (arith, nat_tests))))

    ask_goes : Goes ask_message (ask_issued u.0)
    ask_goes = by_test (nat_eq u.0 t)
        (λ its. subst (λ (n : ℕ). Goes ask_message (ask_issued n)) (sym (eqb-true u.0 t its)) (mine_goes its))
        (λ other. none_goes ask_message (ask_issued u.0) (zone_other t line (suc z) from s ask_message other) (λ point. is_not u _ other))

  -- An authority that ends with the way or before it adds nothing.

  sent_goes : (m : Msg) → answers t (Some (from, m)) ≡ false → asks_entry t (Some (from, m)) ≡ false → ((point : Point) → added_by line (suc z) t s m point ≡ false) → (u : TrainId) (n : ℕ) (v : PlainWay)
      → ((x : Transition) → goes_on t x.event ≡ false → authority_end (seg_len line) (journey line t (x ∷ s)) (record { mark = v.mark; path = v.path }) ≤ longest_end line t s) → Goes m ((0, msg.Auth u n v.mark v.path) ∷ [])
  sent_goes m unanswered unasked unadded u n v ends after =
      let x = take_transition (suc z) from number m ((0, msg.Auth u n v.mark v.path) ∷ []) lines in
      calm_adds line t s x l invariant after record {
        refused = λ y. ap (λ b. nat_eq (suc z) y && (b && list_any (λ (i : ℕ × Msg). is_auth t i.1) x.issued)) unasked ∙ and-false (nat_eq (suc z) y);
        heads = heads_still t x s refl;
        ends = λ h. one_ends line t n (longest_end line t s) s u v x refl (ends x refl);
        quiet = λ y. absurd (let c : true ≡ false = sym y ∙ (ap (λ b. nat_eq (suc z) (zone_id line) && b) (unanswered_takes t (account line t s) (Some (from, m)) unanswered) ∙ and-false (nat_eq (suc z) (zone_id line))) in cc);
        adds_none = λ y point. added_here line z t from s m point (unadded point) y;
      }

  -- Times: the last authority once more, up to the end of a shrink that is unanswered.

  module _ (u : TrainId) (time : ℕ) where
    abbrev time_issued : ℕ → List (ℕ × Msg)
    time_issued n = (zone_time (controls (suc z) n s) (counted line n s) (last_issued n s) u (sent_again line n s (way line (suc z) n s))).issued

    abbrev again_way : PlainWay
    again_way = up_to (seg_len line) (shrink_on line t s (held_way line t s)) (held_way line t s)

    again_ends : controls (suc z) t s ≡ true → (x : Transition) → goes_on t x.event ≡ false → authority_end (seg_len line) (journey line t (x ∷ s)) (record { mark = again_way.mark; path = again_way.path }) ≤ longest_end line t s
    again_ends controlled x still =
        let control = here_control controlled in
        by_test (is_pending line t s)
        (λ y.
        let before = shrink_before line t s invariant.authorized control y in
        let end = held_way_end line t s l invariant control in
        rw y (held_way_to line t s l invariant control x (shrink_place line t s - way_start line t s w) still (omega (arith, before, end))))
        (λ n. let e = held_way_ends line t s l invariant control x still in rw n (omega (arith, e)))

    mine_time : Goes (msg.Time time u) (time_issued t)
    mine_time = by_test (controls (suc z) t s && nat_lt (counted line t s) (last_issued t s))
        (λ y.
        let controlled = (and_parts (controls (suc z) t s) _ y).0 in
        let is : time_issued t ≡ (0, msg.Auth u (last_issued t s) again_way.mark again_way.path) ∷ [] =
        ap (λ (v : Option PlainWay). (zone_time (controls (suc z) t s) (counted line t s) (last_issued t s) u (sent_again line t s v)).issued) (here_way controlled) ∙ rw y refl in
        subst (λ (issued : List (ℕ × Msg)). Goes (msg.Time time u) issued) (sym is) (sent_goes (msg.Time time u) refl refl (λ point. refl) u (last_issued t s) again_way (again_ends controlled)))
        (λ n. silent_goes (msg.Time time u) (time_issued t) (quiet_time (controls (suc z) t s) (counted line t s) (last_issued t s) u (sent_again line t s (way line (suc z) t s)) n) (λ point. refl))

    time_goes : Goes (msg.Time time u) (time_issued u.0)
    time_goes = by_test (nat_eq u.0 t)
        (λ its. subst (λ (n : ℕ). Goes (msg.Time time u) (time_issued n)) (sym (eqb-true u.0 t its)) mine_time)
        (λ other. none_goes (msg.Time time u) (time_issued u.0) (zone_other t line (suc z) from s (msg.Time time u) other) (λ point. refl))

  -- Orders: a short one sends the way up to a place before its end.

  module _ (u : TrainId) (time off : ℕ) (st : DirSeg) where
    abbrev order : Msg
    order = msg.Order time (Short u st off)

    short_goes : (v : PlainWay) (p : ℕ) → nat_eq u.0 t ≡ true → way line (suc z) u.0 s ≡ Some v → p < end_place (seg_len line) v.path
        → Goes order ((0, msg.Auth u (last_issued u.0 s + 1) v.mark (path_to (seg_len line) v.path.from v.path.steps.items p)) ∷ [])
    short_goes v p its is before =
        let way_is : way line (suc z) t s ≡ Some v = ap (λ (n : ℕ). way line (suc z) n s) (sym (eqb-true u.0 t its)) ∙ is in
        let controlled = way_controls line (suc z) t s v way_is in
        let same : w ≡ v = same_Some w v (sym (here_way controlled) ∙ way_is) in
        subst (λ (y : PlainWay). p < end_place len y.path → Goes order ((0, msg.Auth u (last_issued u.0 s + 1) y.mark (path_to len y.path.from y.path.steps.items p)) ∷ [])) same
        (λ below. sent_goes order refl refl (λ point. refl) u (last_issued u.0 s + 1) (record { mark = w.mark; path = path_to len w.path.from w.path.steps.items p })
        (λ x still. held_way_to line t s l invariant (here_control controlled) x p still (omega (arith, below)))) before

    short_order : Goes (msg.Order time (Short u st off)) (zone_order line (suc z) s (msg.Order time (Short u st off)) (Short u st off)).issued
    short_order =
        let issued = (zone_order line (suc z) s order (Short u st off)).issued in
        by_test (nat_eq u.0 t)
        (λ its. short_cases (Goes order issued) line (suc z) s u (front_after line (suc z) u.0 s order) (way line (suc z) u.0 s) st off
        (λ h. silent_goes order issued h (λ point. refl))
        (λ v p is free ahead before h. subst (λ (sent : List (ℕ × Msg)). Goes order sent) (sym h) (short_goes v p its is before)))
        (λ other. none_goes order issued (zone_other t line (suc z) from s order other) (λ point. refl))

  order_goes : (time : ℕ) (order : Order) → Goes (msg.Order time order) (zone_order line (suc z) s (msg.Order time order) order).issued
  order_goes time (Short u st off) = short_order u time off st
  order_goes time (Close seg) = silent_goes (msg.Order time (Close seg)) [] refl (λ point. refl)
  order_goes time (Open seg) = silent_goes (msg.Order time (Open seg)) [] refl (λ point. refl)
  order_goes time order = silent_goes (msg.Order time order) [] refl (λ point. refl)

  zone_goes : (m : Msg) → RequestTrue line t s m → Goes m (zone_takes line (suc z) from s m).issued
  zone_goes (msg.EntryAsk u time long error speed equipped step) request = entry_goes u time long error speed equipped step request
  zone_goes (msg.Ask u time steps to) request = ask_goes u time to steps
  zone_goes (msg.Report u time mark offset integrity) request =
      let m : Msg = msg.Report u time mark offset integrity in
      silent_goes m (zone_report line (suc z) s u m).issued
      (report_none line (suc z) s u m)
      (λ point. refl)
  zone_goes (msg.Time time u) request = time_goes u time
  zone_goes (msg.Order time order) request = order_goes time order
  zone_goes m request = silent_goes m [] refl (λ point. refl)

-- Each event.

untaken : (line : Line) (y t : ℕ) (s : Story) (to : ℕ) (point : Point) → added line y t s to None point ≡ false
untaken line y t s zero point = refl
untaken line y t s (suc z) point = refl

event_adds : (line : Line) (t : ℕ) (s : Story) (e : Event) → IsLineOfOneZone line → Admitted line s e → Invariant line t s → Invariant line t (effects line s e ∷ s) → Adds line t s (effects line s e)
event_adds line t s e l a invariant after = by_does line s e (λ x. Invariant line t (x ∷ s) → head t s ≤ head t (x ∷ s) → Adds line t s x)
    (λ b y i later heads.
    let x = transition e b None y in
    calm_adds line t s x l invariant later (no_auth_calm line t s x (told_none t s e y.issued i) heads (λ z point. untaken line z t s b point)))
    (λ from m k later heads.
    let x = transition (Take 0 from k.number) 0 (Some (from, m)) (world_takes line s from m) in
    calm_adds line t s x l invariant later (no_auth_calm line t s x (world_none t line s from m) heads (λ z point. refl)))
    (λ z from m k later heads.
    zone_goes line t z from k.number s ((zone_takes line (suc z) from s m).lines ++ alarms line (suc z) s m) l (actor_zone line z l (take_actors line s e (suc z) from m a k).1.0) invariant m
    (take_issued (RequestTrue line t s) s e (suc z) from m invariant.authorized.requests k) later)
    after (heads_grow line t s e a invariant.motion)

pub granted_step : (line : Line) (s : Story) (e : Event) → IsLineOfOneZone line → Admitted line s e → Timed s → ((t : ℕ) → Invariant line t s) → ((t : ℕ) → Invariant line t (effects line s e ∷ s)) → Granted line s e
granted_step line s e l a timed invariant after = record {
  adds = λ z t point h. (event_adds line t s e l a (invariant t) (after t)).adds z point h;
  exact = λ z t point h. (event_adds line t s e l a (invariant t) (after t)).exact z point h;
  reaches = λ z t now_ to asked way_ is ready joins idle quiet. ask_reaches line s z t now_ to asked way_ is ready joins idle quiet;
  answers = λ z from time to t steps actor took. event_answers line s e l invariant z from time to t steps actor took;
}
