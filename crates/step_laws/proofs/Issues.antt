-- What a take of the zone issues of authorities of a train.
use Rattle.std.proofs.Common.{◌≡◌, ℕ, ◌+◌, ◌≤◌, ◌<◌, List, [], ◌∷◌, Option, Some, None, Bool, true, false, ◌&&◌, refl, sym, ◌∙◌, ap, subst, arith}
use Rattle.std.proofs.Math.Bool.{and-false}
use Rattle.std.proofs.Math.Path.{fun_ext}
use Rattle.std.proofs.lemmas.Bool.Decides.{nat_tests}
use Rattle.std.specs.Prelude.{nat_eq, nat_lt}
use Rattle.std.proofs.lemmas.Bool.{and_parts}
use Rattle.list_laws.proofs.By_test.{by_test}
use Rattle.track_points.specs.declared.ids.DirSeg.{DirSeg}
use Rattle.track_points.specs.declared.ids.TrainId.{TrainId}
use Rattle.track_points.specs.declared.path.Path.{Path}
use Rattle.track_points.specs.Points.{total, end_place}
use Rattle.arrayvec.specs.ArrayVec.{ArrayVec}
use Rattle.definitions.specs.declared.event.Event.{Event}
use Rattle.definitions.specs.declared.message.Msg.{Msg}
use Rattle.definitions.specs.declared.message.Msg.TheVariants as msg
use Rattle.definitions.specs.declared.message.Order.TheVariants.{Short}
use Rattle.definitions.specs.Track.{Line, seg_len}
use Rattle.definitions.specs.Ways.{PlainWay, way_between}
use Rattle.definitions.specs.Story.{Transition, Story}
use Rattle.definitions.specs.World.{entered, goes_on}
use Rattle.definitions.specs.Control.{grants_entry, controls, knows, knows_most, now_with, last_issued}
use Rattle.definitions.specs.Fold.{account}
use Rattle.definitions.specs.Longest.{counted, longest_end, is_pending, longest_route}
use Rattle.definitions.specs.Fronts.{possible_front, report_time, silent_by, least_rear}
use Rattle.definitions.specs.Authority.{way, holder_of}
use Rattle.definitions.specs.Limit.{Bars, Reach, asked_way, continues, path_of, reach_from, barring, limit}
use Rattle.definitions.specs.Steps.{path_to, sent_again, front_after, zone_step, transition}
use Rattle.definitions.specs.Safe.{IsLineOfOneZone}
use Rattle.event_laws.proofs.Zone_issues.{entry_cases, ask_cases, time_cases, short_cases}
use Rattle.definitions.specs.Zones.{zone_id}
use Rattle.journey_laws.proofs.Motion.{Motion}
use Rattle.event_laws.proofs.Issued_all.{no_issue, NoAuth}
use Rattle.way_laws.proofs.Reach_granted.{reach_granted}
use Rattle.event_laws.proofs.Controls_same.{controls_knows, way_controls}
use Rattle.journey_laws.proofs.Invariant.{path_fits, FrontsAre, RequestTrue, Authorized}
use Rattle.event_laws.proofs.Account_next.{fronts_acted}
use Rattle.step_laws.proofs.Taken_counts.{answers, cuts, unanswered_takes}
use Rattle.step_laws.proofs.Fronts_numbers.{Numbered, grown_to, fronts_unused}
use Rattle.step_laws.proofs.New_auth.{LongerAuth, AgainAuth, ShorterAuth}
use Rattle.step_laws.proofs.Shrink_taken.{TakenNow}
use Rattle.step_laws.proofs.Shorter_way.{shorter_way}
use Rattle.step_laws.proofs.Entry_new.{entry_new}
use Rattle.journey_laws.proofs.One_route.{path_parts}
use Rattle.step_laws.proofs.Way_is.{way_facts}
use Rattle.step_laws.proofs.Renewed_way.{way_fits, renewed_way}
use Rattle.step_laws.proofs.Granted_way.{granted_ready, grant_fits, granted_way}

-- no authority of the train, one, or the answer by which its shrink counts as taken
pub data Issues (line : Line) (t : ℕ) (s : Story) (x : Transition) : Type 0 where
  quiet : NoAuth t x.issued → cuts line t x s ≡ false → Issues line t s x
  longer : LongerAuth line t s x → Issues line t s x
  again : AgainAuth line t s x → Issues line t s x
  shorter : ShorterAuth line t s x → Issues line t s x
  cut : TakenNow line t s x → Issues line t s x

-- no authority of the train, at a message that is no answer
pub unanswered_quiet : (line : Line) (t : ℕ) (s : Story) (x : Transition) → answers t x.took ≡ false → NoAuth t x.issued → Issues line t s x
unanswered_quiet line t s x none issued = quiet issued (ap (λ b. nat_eq x.actor (zone_id line) && b) (unanswered_takes t (account line t s) x.took none) ∙ and-false (nat_eq x.actor (zone_id line)))

-- where a zone does not control a train an ask reaches nowhere
no_reach : (line : Line) (ready pending silent : Bool) (w : Option Path) (asked : List DirSeg) (to : ℕ) (bars : Bars) → ready ≡ false → nat_eq (reach_from line ready pending silent w asked to bars).distance 0 ≡ true
no_reach line ready pending silent None asked to bars h = refl
no_reach line ready pending silent (Some path) asked to bars h = rw h refl

some_way : (v w : PlainWay) → Some v ≡ Some w → v ≡ w
some_way v w h = cc

-- the granted way, for the way by whatever name
granted : (line : Line) (t : ℕ) (s : Story) (one : IsLineOfOneZone line) (m : Motion t s) (k : Authorized line t s) (c : controls (zone_id line) t s ≡ true) (f : FrontsAre line t s) (x : Transition) (asked : List DirSeg) (v : PlainWay)
    → v ≡ way_between (seg_len line) (longest_route line t s) (least_rear line (zone_id line) t s) (longest_end line t s) → (u : TrainId) (d : ℕ) → continues line v.path.steps.items asked ≡ true
    → end_place (seg_len line) v.path + d ≤ total (seg_len line) (asked_way v.path.steps.items asked)
    → path_fits line (path_to (seg_len line) v.path.from (asked_way v.path.steps.items asked) (end_place (seg_len line) v.path + d)) ≡ true
    → x.issued ≡ (0, msg.Auth u (last_issued t s + 1) v.mark (path_to (seg_len line) v.path.from (asked_way v.path.steps.items asked) (end_place (seg_len line) v.path + d))) ∷ []
    → nat_eq u.0 t ≡ true → goes_on t x.event ≡ false → answers t x.took ≡ false → grants_entry (zone_id line) t x ≡ false → entered t s ≡ true → (account line t s).shrink ≡ 0 → LongerAuth line t s x
granted line t s one m k c f x asked v same u d continued room fits issued its still unanswered ungranted on idle =
    let w = way_between (seg_len line) (longest_route line t s) (least_rear line (zone_id line) t s) (longest_end line t s) in
    let len = seg_len line in
    granted_way line t s one m k c f asked (subst (λ (y : PlainWay). continues line y.path.steps.items asked ≡ true) same continued) d
    (subst (λ (y : PlainWay). end_place len y.path + d ≤ total len (asked_way y.path.steps.items asked)) same room) x u
    (subst (λ (y : PlainWay). path_fits line (path_to len y.path.from (asked_way y.path.steps.items asked) (end_place len y.path + d)) ≡ true) same fits)
    (subst (λ (y : PlainWay). x.issued ≡ (0, msg.Auth u (last_issued t s + 1) y.mark (path_to len y.path.from (asked_way y.path.steps.items asked) (end_place len y.path + d))) ∷ []) same issued)
    its still unanswered ungranted on idle

module _ (line : Line) (s : Story) (one : IsLineOfOneZone line) (e : Event) (still : (t : ℕ) → goes_on t e ≡ false) (from : ℕ) (u : TrainId) (m : Motion u.0 s) (k : Authorized line u.0 s) (fronts : controls (zone_id line) u.0 s ≡ true → FrontsAre line u.0 s) where
  abbrev z : ℕ
  z = zone_id line

  abbrev step : Msg → Transition
  step q = transition e (zone_id line) (Some (from, q)) (zone_step line (zone_id line) from s q)

  own : nat_eq u.0 u.0 ≡ true
  own = grind (arith, nat_tests)

  pub entry_issues : (time long error speed : ℕ) (equipped : Bool) (st : DirSeg) → RequestTrue line u.0 s (msg.EntryAsk u time long error speed equipped st)
      → Issues line u.0 s (transition e (zone_id line) (Some (from, msg.EntryAsk u time long error speed equipped st)) (zone_step line (zone_id line) from s (msg.EntryAsk u time long error speed equipped st)))
  entry_issues time long error speed equipped st asked =
      let x = step (msg.EntryAsk u time long error speed equipped st) in
      entry_cases (Issues line u.0 s x) z (knows z u.0 s) (knows_most z s) (seg_len line st.seg.0) u long st (holder_of line z s st.seg.0)
      (λ h. unanswered_quiet line u.0 s x refl (no_issue u.0 x.issued h))
      (λ free fitting h. longer (entry_new line u.0 s one.valid m k (controls_knows z u.0 s ∙ free) long error speed st (asked own) fitting x u from time equipped refl refl own (still u.0) h))

  ungranted_ask : (time : ℕ) (steps : ArrayVec DirSeg) (to : ℕ) → grants_entry (zone_id line) u.0 (transition e (zone_id line) (Some (from, msg.Ask u time steps to)) (zone_step line (zone_id line) from s (msg.Ask u time steps to))) ≡ false
  ungranted_ask time steps to = grind arith

  pub ask_issues : (time : ℕ) (steps : ArrayVec DirSeg) (to : ℕ)
      → Issues line u.0 s (transition e (zone_id line) (Some (from, msg.Ask u time steps to)) (zone_step line (zone_id line) from s (msg.Ask u time steps to)))
  ask_issues time steps to =
      let q = msg.Ask u time steps to in
      let x = step q in
      let len = seg_len line in
      let ready = controls z u.0 s && nat_lt 0 (counted line u.0 s) in
      let pending = is_pending line u.0 s in
      let silent = silent_by line (report_time line z u.0 s) (now_with z s q) in
      let bars = barring line z u.0 s in
      ask_cases (Issues line u.0 s x) len z u (last_issued u.0 s) (way line z u.0 s) steps.items (limit line z u.0 s (now_with z s q) steps.items to)
      (λ h. unanswered_quiet line u.0 s x refl (no_issue u.0 x.issued h))
      (λ v is far h. by_test ready
      (λ go.
      let r = and_parts (controls z u.0 s) (nat_lt 0 (counted line u.0 s)) go in
      let c = r.0 in
      let f = fronts c in
      let w = way_facts line u.0 s k c f in
      let same = some_way v _ (sym is ∙ w.is) in
      let on = come_on r.1 in
      let p = ap (λ (y : PlainWay). path_fits line y.path) same ∙ way_fits line u.0 s one m k c f in
      let fit = path_parts line v.path p in
      let reach : limit line z u.0 s (now_with z s q) steps.items to ≡ reach_from line ready pending silent (Some v.path) steps.items to bars = ap (λ (y : Option PlainWay). reach_from line ready pending silent (path_of y) steps.items to bars) is in
      let d = (limit line z u.0 s (now_with z s q) steps.items to).distance in
      let some : nat_eq (reach_from line ready pending silent (Some v.path) steps.items to bars).distance 0 ≡ false = sym (ap (λ (y : Reach). nat_eq y.distance 0) reach) ∙ far in
      let go_on = granted_ready line ready pending silent v.path steps.items to bars some in
      let within = reach_granted line ready pending silent v.path steps.items to bars fit.some fit.within in
      let room : end_place len v.path + d ≤ total len (asked_way v.path.steps.items steps.items) = subst (λ (y : Reach). end_place len v.path + y.distance ≤ total len (asked_way v.path.steps.items steps.items)) (sym reach) within in
      let fits = subst (λ (y : Reach). path_fits line (path_to len v.path.from (asked_way v.path.steps.items steps.items) (end_place len v.path + y.distance)) ≡ true) (sym reach) (grant_fits line ready pending silent v.path steps.items to bars fit some) in
      let idle : (account line u.0 s).shrink ≡ 0 = let e = go_on.idle in grind (arith, nat_tests) in
      longer (granted line u.0 s one m k c f x steps.items v same u d go_on.joins room fits h own (still u.0) refl (ungranted_ask time steps to) on idle))
      (λ n. absurd (let c : true ≡ false = sym (no_reach line ready pending silent (path_of (way line z u.0 s)) steps.items to bars n) ∙ far in cc)))
    where
      come_on : nat_lt 0 (counted line u.0 s) ≡ true → entered u.0 s ≡ true
      come_on h = by_test (entered u.0 s)
          (λ y. y)
          (λ n. absurd (let z : 0 < counted line u.0 s = grind (arith, nat_tests) in let none = k.uncounted n in omega (arith, z, none)))

  ungranted_time : (time y : ℕ) → grants_entry y u.0 (transition e (zone_id line) (Some (from, msg.Time time u)) (zone_step line (zone_id line) from s (msg.Time time u))) ≡ false
  ungranted_time time y = and-false (nat_eq (zone_id line) y)

  pub time_issues : (time : ℕ) → Issues line u.0 s (transition e (zone_id line) (Some (from, msg.Time time u)) (zone_step line (zone_id line) from s (msg.Time time u)))
  time_issues time =
      let x = step (msg.Time time u) in
      time_cases (Issues line u.0 s x) (controls z u.0 s) (counted line u.0 s) (last_issued u.0 s) u (sent_again line u.0 s (way line z u.0 s))
      (λ h. unanswered_quiet line u.0 s x refl (no_issue u.0 x.issued h))
      (λ v is c h. again (renewed_way line u.0 s one m k c (fronts c) x u v is h own (still u.0) refl (ungranted_time time)))

  -- a short order
  module _ (time off : ℕ) (st : DirSeg) where
    abbrev order : Msg
    order = msg.Order time (Short u st off)

    ungranted_order : (y : ℕ) → grants_entry y u.0 (transition e (zone_id line) (Some (from, msg.Order time (Short u st off))) (zone_step line (zone_id line) from s (msg.Order time (Short u st off)))) ≡ false
    ungranted_order y = and-false (nat_eq (zone_id line) y)

    -- the fronts after it have grown
    order_fronts : (c : controls (zone_id line) u.0 s ≡ true)
        → Numbered line u.0 s (possible_front line (zone_id line) u.0 (transition e (zone_id line) (Some (from, msg.Order time (Short u st off))) (zone_step line (zone_id line) from s (msg.Order time (Short u st off))) ∷ s))
        (fronts c).lo (grown_to line u.0 s (msg.Order time (Short u st off)) (fronts c).hi)
    order_fronts c =
        let x = step order in
        let acts : nat_eq (zone_id line) (zone_id line) ≡ true = grind (arith, nat_tests) in
        subst (λ (test : ℕ → Bool). Numbered line u.0 s test (fronts c).lo (grown_to line u.0 s order (fronts c).hi)) (sym (fun_ext (λ p. fronts_acted line u.0 x s z p (ungranted_order z) acts c)))
        (fronts_unused line u.0 s order (fronts c) refl refl)

    pub order_issues : Issues line u.0 s (transition e (zone_id line) (Some (from, msg.Order time (Short u st off))) (zone_step line (zone_id line) from s (msg.Order time (Short u st off))))
    order_issues =
        let x = step order in
        short_cases (Issues line u.0 s x) line z s u (front_after line z u.0 s order) (way line z u.0 s) st off
        (λ h. unanswered_quiet line u.0 s x refl (no_issue u.0 x.issued h))
        (λ v p is free ahead before h.
        let c = way_controls line (zone_id line) u.0 s v is in
        let greatest = (fronts_unused line u.0 s order (fronts c) refl refl).greatest in
        let idle : (account line u.0 s).shrink ≡ 0 = grind (arith, nat_tests) in
        shorter (shorter_way line u.0 s one m k c (fronts c) x u v p (grown_to line u.0 s order (fronts c).hi) is (order_fronts c) (omega (arith, greatest, ahead)) before idle h own (still u.0) refl ungranted_order))
