-- The plain state follows an ask that the zone takes.
use Rattle.std.proofs.Common.{◌≡◌, ℕ, suc, ◌+◌, ◌-◌, ◌*◌, ◌<◌, ◌≤◌, List, ◌∷◌, ◌++◌, length, take, drop, Option, Some, None, Bool, true, false, ◌&&◌, refl, sym, ◌∙◌, ap, subst, arith}
use Rattle.std.proofs.lemmas.Bool.Decides.{nat_tests}
use Rattle.std.proofs.lemmas.List.{length-append, length-take}
use Rattle.std.proofs.Math.Seq.{drop-append_seam}
use Rattle.std.proofs.Math.Bool.{and-false}
use Rattle.std.specs.Prelude.{nat_eq, nat_lt}
use Rattle.list_laws.proofs.By_test.{by_test}
use Rattle.arrayvec.specs.ArrayVec.{ArrayVec}
use Rattle.track_points.specs.declared.ids.DirSeg.{DirSeg}
use Rattle.track_points.specs.declared.ids.TrainId.{TrainId}
use Rattle.track_points.specs.declared.path.Path.{Path}
use Rattle.track_points.specs.Points.{total, end_place, steps_to}
use Rattle.definitions.specs.declared.message.Msg.{Msg}
use Rattle.definitions.specs.declared.message.Msg.TheVariants as msg
use Rattle.definitions.specs.declared.outcome.Outcome.{Outcome}
use Rattle.definitions.specs.Track.{Line, seg_len}
use Rattle.definitions.specs.Ways.{PlainWay, way_between}
use Rattle.definitions.specs.Story.{Transition, Story}
use Rattle.definitions.specs.World.{Authority, route, authority_end, journey}
use Rattle.definitions.specs.Control.{grants_entry, controls, Known, known_train, now_of, now_with, last_issued}
use Rattle.definitions.specs.Fold.{account}
use Rattle.definitions.specs.Longest.{counted, is_pending, longest_end, longest_route}
use Rattle.definitions.specs.Fronts.{report_time, silent_by}
use Rattle.definitions.specs.Authority.{way}
use Rattle.definitions.specs.Limit.{Bars, Reach, further, asked_way, continues, path_of, reach_from, barring, limit}
use Rattle.definitions.specs.Steps.{Effect, grant, path_to}
use Rattle.definitions.specs.Safe.{IsLineOfOneZone}
use Rattle.authority_ledger.specs.declared.ledger.Ledger.{Ledger}
use Rattle.authority_ledger.specs.Ledger.{longer}
use Rattle.plain_state.specs.declared.Controlled.{Controlled}
use Rattle.plain_state.specs.Zone.{change_controlled, lengthened, grown_train}
use Rattle.definitions.specs.Zones.{zone_id}
use Rattle.plain_state.specs.Plain.{Plain}
use Rattle.plain_state.specs.Refinement.{zone_train, Refines}
use Rattle.way_laws.proofs.Reach_granted.{reach_granted}
use Rattle.way_laws.proofs.Grown_end.{grown_end}
use Rattle.way_laws.proofs.Between_points.{between_some, between_end, between_within}
use Rattle.event_laws.proofs.Account_next.{issued_is}
use Rattle.event_laws.proofs.Still_world.{journey_still}
use Rattle.journey_laws.proofs.Invariant.{end_read, AuthorityIs, Invariant}
use Rattle.journey_laws.proofs.One_route.{path_parts, route_reaches, last_end, longest_on}
use Rattle.step_laws.proofs.Route_goes_on.{route_goes_on}
use Rattle.step_laws.proofs.Fronts_numbers.{grown_to}
use Rattle.step_laws.proofs.Ends_narrowed.{ends_grown}
use Rattle.plain_state.proofs.Found_changed.{mapped}
use Rattle.refinement_laws.proofs.Way_now.{Grown}
use Rattle.refinement_laws.proofs.Way_of.{way_of, way_before}
use Rattle.refinement_laws.proofs.Mark_is.{way_number}
use Rattle.refinement_laws.proofs.Acts_on_sent.{way_steps}
use Rattle.refinement_laws.proofs.Ledger_told.{told_idle, longer_told}
use Rattle.refinement_laws.proofs.Zone_kept.{ledger_of, kept_train, known_stays}
use Rattle.refinement_laws.proofs.Kept_lengthened.{kept_lengthened, route_kept, route_steps}
use Rattle.refinement_laws.proofs.Zone_moves.{zone_made, zone_heads, ZoneMoves}
use Rattle.refinement_laws.proofs.Zone_still.{grown_is, now_is, acts, uncut, controlled_still, report_unused}
use Rattle.refinement_laws.proofs.Quiet_moves.{changed_moves}
use Rattle.refinement_laws.proofs.One_issued.{one_silent, one_few, one_last, one_exact, one_authority, one_counted, one_longer}

pending_bars : (line : Line) (ready silent : Bool) (path : Option Path) (asked : List DirSeg) (to : ℕ) (bars : Bars) → (reach_from line ready true silent path asked to bars).distance ≡ 0
pending_bars line ready silent None asked to bars = refl
pending_bars line ready silent (Some path) asked to bars = by_test (ready && continues line path.steps.items asked) (λ y. rw y refl) (λ n. rw n refl)

module _ (line : Line) (z number : ℕ) (u : TrainId) (time : ℕ) (steps : ArrayVec DirSeg) (to : ℕ) (s : Story) (one : IsLineOfOneZone line) (zone : suc z ≡ zone_id line) (invariant : (t : ℕ) → Invariant line t s)
    (lines : List Outcome) where
  abbrev pub ask_message : Msg
  ask_message = msg.Ask u time steps to

  abbrev t : ℕ
  t = u.0

  abbrev len : ℕ → ℕ
  len = seg_len line

  abbrev pub asked_reach : Reach
  asked_reach = limit line (zone_id line) u.0 s (now_with (zone_id line) s (msg.Ask u time steps to)) steps.items to

  abbrev d : ℕ
  d = asked_reach.distance

  -- a granted one, of a controlled train
  module _ (c : controls (zone_id line) u.0 s ≡ true) (some : nat_eq asked_reach.distance 0 ≡ false) where
    abbrev lo : ℕ
    lo = ((invariant t).fronts c).lo

    abbrev f : Known
    f = known_train (zone_id line) t s

    abbrev w : PlainWay
    w = way_between (seg_len line) (longest_route line t s) (lo - f.facts.long) (longest_end line t s)

    abbrev pub given : Effect
    given = record {
      issued = (grant (seg_len line) (zone_id line) u (last_issued u.0 s + 1) w.mark w.path.from (asked_way w.path.steps.items steps.items) (end_place (seg_len line) w.path + d) asked_reach).issued;
      lines = lines;
    }

    abbrev a : Authority
    a = record { mark = w.mark; path = path_to (seg_len line) w.path.from (asked_way w.path.steps.items steps.items) (end_place (seg_len line) w.path + d) }

    abbrev x : Transition
    x = zone_made z number ask_message given

    abbrev given_route : List DirSeg
    given_route = route (journey line t (x ∷ s)) a

    order : lo - f.facts.long < longest_end line u.0 s
    order =
        let v = way_of line t s one.valid (invariant t) c in
        let p = v.order in
        let q = v.ordered in
        let r = v.within in
        omega (arith, p, q, r)

    room : longest_end line u.0 s ≤ total (seg_len line) (longest_route line u.0 s)
    room = (way_of line t s one.valid (invariant t) c).room

    asked_some : 0 < length (asked_way w.path.steps.items steps.items)
    asked_some =
        let p = between_some len (longest_route line t s) (lo - f.facts.long) (longest_end line t s) order room in
        let l = length-append w.path.steps.items (further w.path.steps.items steps.items) in
        omega (arith, p, l)

    asked_within : end_place (seg_len line) w.path + d ≤ total (seg_len line) (asked_way w.path.steps.items steps.items)
    asked_within =
        let p = between_some len (longest_route line t s) (lo - f.facts.long) (longest_end line t s) order room in
        let b = between_within len (longest_route line t s) (lo - f.facts.long) (longest_end line t s) order room in
        let z0 = zone_id line in
        let v = way_of line t s one.valid (invariant t) c in
        let reach = reach_granted line (controls z0 t s && nat_lt 0 (counted line t s)) (is_pending line t s) (silent_by line (report_time line z0 t s) (now_with z0 s ask_message)) w.path steps.items to (barring line z0 t s) p b in
        let is : limit line z0 t s (now_with z0 s ask_message) steps.items to ≡ reach_from line (controls z0 t s && nat_lt 0 (counted line t s)) (is_pending line t s) (silent_by line (report_time line z0 t s) (now_with z0 s ask_message)) (Some w.path) steps.items to (barring line z0 t s) =
        ap (λ (o : Option PlainWay). reach_from line (controls z0 t s && nat_lt 0 (counted line t s)) (is_pending line t s) (silent_by line (report_time line z0 t s) (now_with z0 s ask_message)) (path_of o) steps.items to (barring line z0 t s)) v.is in
        subst (λ (r : Reach). end_place len w.path + r.distance ≤ total len (asked_way w.path.steps.items steps.items)) (sym is) reach

    -- a train whose shrink is unanswered is barred
    idle : is_pending line u.0 s ≡ false
    idle = by_test (is_pending line t s)
        (λ y.
        let z0 = zone_id line in
        let barred : asked_reach.distance ≡ 0 = rw y (pending_bars line (controls z0 t s && nat_lt 0 (counted line t s)) (silent_by line (report_time line z0 t s) (now_with z0 s ask_message)) (path_of (way line z0 t s)) steps.items to (barring line z0 t s)) in
        absurd (grind (arith, nat_tests)))
        (λ n. n)

    none : (v : ℕ) → grants_entry (zone_id line) v (zone_made z number ask_message given) ≡ false
    none v = and-false (nat_eq (suc z) (zone_id line))

    module _ (after : Invariant line u.0 (zone_made z number ask_message given ∷ s)) where
      c2 : controls (zone_id line) u.0 (zone_made z number ask_message given ∷ s) ≡ true
      c2 = controlled_still line z number ask_message given s one zone t (invariant t) after c (none t)

      given_is : AuthorityIs line u.0 (zone_made z number ask_message given ∷ s) a
      given_is = one_authority line z number ask_message given s zone u a refl (invariant t) after

      -- it ends farther on
      given_ends : authority_end (seg_len line) (journey line u.0 s) a ≡ longest_end line u.0 s + d
      given_ends =
          let g = grown_end len w.path (further w.path.steps.items steps.items) d asked_within in
          let m = ap (total len) (way_before line t s one.valid (invariant t) c) in
          let b = between_end len (longest_route line t s) (lo - f.facts.long) (longest_end line t s) order room in
          omega (arith, g, m, b)

      given_idle : is_pending line u.0 (zone_made z number ask_message given ∷ s) ≡ false
      given_idle = let g = given_ends in one_longer line z number ask_message given s zone u a refl (invariant t) after c c2 (omega (arith, g))

      -- the longest authority ends where it does
      given_end : longest_end line u.0 (zone_made z number ask_message given ∷ s) ≡ authority_end (seg_len line) (journey line u.0 (zone_made z number ask_message given ∷ s)) a
      given_end =
          sym (last_end line t (x ∷ s) after.authorized c2 given_idle)
          ∙ (ap (λ (n : ℕ). end_read line t (x ∷ s) n) (one_last line z number ask_message given s zone u a refl (invariant t) after)
          ∙ (sym (one_exact line z number ask_message given s zone u a refl (invariant t) after)
          ∙ sym (ap (λ (xs : List DirSeg). authority_end len xs a) (journey_still line t x s refl))))

      given_farther : longest_end line u.0 (zone_made z number ask_message given ∷ s) ≡ longest_end line u.0 s + d
      given_farther = given_end ∙ (ap (λ (xs : List DirSeg). authority_end len xs a) (journey_still line t x s refl) ∙ given_ends)

      -- the longest route goes on to its own
      given_goes : longest_route line u.0 s ≡ steps_to (seg_len line) (route (journey line u.0 (zone_made z number ask_message given ∷ s)) a) (longest_end line u.0 s)
      given_goes =
          sym (route_goes_on line t s x (invariant t).motion (invariant t).authorized after.authorized c c2 (zone_heads t z number ask_message given s) (uncut line z number ask_message given s one zone t (invariant t) after refl))
          ∙ ap (λ (xs : List DirSeg). steps_to len xs (longest_end line t s)) (longest_on line t (x ∷ s) after.authorized c2 a given_is given_end)

      given_steps : drop w.mark (route (journey line u.0 (zone_made z number ask_message given ∷ s)) a) ≡ a.path.steps.items
      given_steps =
          let before = take w.mark (journey line t (x ∷ s)) in
          let mark = given_is.mark in
          let l : length before ≡ w.mark = let n = length-take w.mark (journey line t (x ∷ s)) in omega (arith, n, mark) in
          ap (λ (n : ℕ). drop n (before ++ a.path.steps.items)) (sym l) ∙ drop-append_seam before a.path.steps.items

      given_ledger : ledger_of line u.0 (zone_made z number ask_message given ∷ s) ≡ longer (ledger_of line u.0 s)
      given_ledger =
          let last = one_last line z number ask_message given s zone u a refl (invariant t) after in
          let before = issued_is line t s in
          let behind = issued_is line t (x ∷ s) in
          longer_told len (journey line t s) (journey line t (x ∷ s)) (account line t s) (account line t (x ∷ s)) (omega (arith, last, before, behind))
          (one_counted line z number ask_message given s zone u a refl (invariant t) after c (none t) refl refl refl) idle given_idle

      abbrev hi : ℕ
      hi = grown_to line t s ask_message ((invariant t).fronts c).hi

      pub ask_own : zone_train line u.0 (zone_made z number ask_message given ∷ s) ≡ mapped (lengthened (seg_len line) steps.items d) (mapped (grown_train (now_with (zone_id line) s ask_message)) (zone_train line u.0 s))
      ask_own =
          let z0 = zone_id line in
          let here = acts line z number ask_message given s one zone t (invariant t) after in
          let ends = ends_grown line t x s ((invariant t).fronts c) (after.fronts c2) (none t) 0 ask_message c here refl refl refl in
          let reaches = route_reaches line (journey line t (x ∷ s)) a given_is.fits in
          let end_is = given_end in
          let far = given_farther in
          let rep = report_unused line z0 t x s (none t) refl in
          route_kept line t (x ∷ s) one.valid after c2 a given_is given_end
          ∙ (ap (λ (q : Known). Some (kept_train len t q given_route (after.fronts c2).lo (after.fronts c2).hi (longest_end line t (x ∷ s)) (now_of z0 (x ∷ s)) (report_time line z0 t (x ∷ s)) (ledger_of line t (x ∷ s)))) (known_stays z0 t x s (none t))
          ∙ (ap (λ (q : ℕ). Some (kept_train len t f given_route q (after.fronts c2).hi (longest_end line t (x ∷ s)) (now_of z0 (x ∷ s)) (report_time line z0 t (x ∷ s)) (ledger_of line t (x ∷ s)))) ends.0
          ∙ (ap (λ (q : ℕ). Some (kept_train len t f given_route lo q (longest_end line t (x ∷ s)) (now_of z0 (x ∷ s)) (report_time line z0 t (x ∷ s)) (ledger_of line t (x ∷ s)))) ends.1
          ∙ (ap (λ (q : ℕ). Some (kept_train len t f given_route lo hi q (now_of z0 (x ∷ s)) (report_time line z0 t (x ∷ s)) (ledger_of line t (x ∷ s)))) far
          ∙ (ap (λ (q : ℕ). Some (kept_train len t f given_route lo hi (longest_end line t s + d) q (report_time line z0 t (x ∷ s)) (ledger_of line t (x ∷ s)))) (now_is line z number ask_message given s one zone t (invariant t) after)
          ∙ (ap (λ (q : ℕ). Some (kept_train len t f given_route lo hi (longest_end line t s + d) (now_with z0 s ask_message) q (ledger_of line t (x ∷ s)))) rep
          ∙ (ap (λ (q : Ledger). Some (kept_train len t f given_route lo hi (longest_end line t s + d) (now_with z0 s ask_message) (report_time line z0 t s) q)) given_ledger
          ∙ (ap (λ (q : Controlled). Some q) (kept_lengthened len steps.items t f (longest_route line t s) given_route lo hi (longest_end line t s) d (now_with z0 s ask_message) (report_time line z0 t s) (ledger_of line t s)
          (told_idle len (journey line t s) (account line t s) idle) given_goes order (omega (arith, reaches, far, end_is)) given_steps asked_some asked_within)
          ∙ sym (ap (λ (q : Option Controlled). mapped (lengthened len steps.items d) q) (grown_is line ask_message s t one (invariant t) c))))))))))

      pub ask_steps : (p : Plain) → Refines line s p → length (steps_to (seg_len line) (longest_route line u.0 (zone_made z number ask_message given ∷ s)) (longest_end line u.0 (zone_made z number ask_message given ∷ s))) ≤ 24 * length s + 24
      ask_steps p k =
          let r = route_steps line t (x ∷ s) one.valid after c2 a given_is given_end in
          let n = way_number len (longest_route line t s) (lo - f.facts.long) (longest_end line t s) order room in
          let m = way_steps line s p one k invariant t c in
          let few = (path_parts line a.path given_is.fits).few in
          omega (arith, r, n, m, few)

    -- the trains after it
    pub ask_moves : ((v : ℕ) → Invariant line v (zone_made z number ask_message given ∷ s)) → (p : Plain) (ways : List Controlled) → Refines line s p → Grown line s (now_with (zone_id line) s ask_message) ways
        → ZoneMoves line s (zone_made z number ask_message given) (change_controlled u.0 (lengthened (seg_len line) steps.items d) ways)
    ask_moves after p ways k g =
        changed_moves line z number ask_message given s one zone invariant after u (one_silent u (last_issued u.0 s + 1) a given.issued refl) none (λ v o. refl) (λ v o. refl) p ways k g
        (lengthened len steps.items d) (λ y. refl) (ask_own (after u.0)) (one_few u (last_issued u.0 s + 1) a given.issued refl s (omega arith)) (λ c3. ask_steps (after u.0) p k)
