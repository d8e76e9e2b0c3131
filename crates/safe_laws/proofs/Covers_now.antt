-- Every envelope covers its train, and all that a train may use is held for it.
use Rattle.std.proofs.Common.{◌≡◌, ℕ, ◌+◌, ◌≤◌, List, [], ◌∷◌, take, Option, Some, None, true, false, ◌||◌, refl, sym, ◌∙◌, ap, subst, arith}
use Rattle.std.specs.Prelude.{nat_eq, nat_le, nat_lt, is_some}
use Rattle.std.proofs.lemmas.Bool.Decides.{nat_tests}
use Rattle.std.proofs.lemmas.Bool.{and_parts}
use Rattle.list_laws.proofs.By_test.{by_or, by_test}
use Rattle.track_points.specs.declared.ids.DirSeg.{DirSeg}
use Rattle.track_points.specs.Points.{Point, total, end_place, path_has, has_between, steps_to}
use Rattle.track_points.proofs.Points_found.{points_wider}
use Rattle.definitions.specs.declared.message.Msg.{Msg}
use Rattle.definitions.specs.declared.message.Msg.TheVariants as msg
use Rattle.definitions.specs.Track.{Line, seg_len, layout, owner}
use Rattle.definitions.specs.Story.{Story, ever_issued}
use Rattle.definitions.specs.World.{authority_end, Facts, facts_or, facts_of, is_declared, clock, at_moment, long_of, entered, journey, head, rear, train_has, Authority, HeldPath, authority_has, limit_held, last_number, limit_has, auth_has, auth_has_any, usable}
use Rattle.definitions.specs.Control.{controls, now_of}
use Rattle.definitions.specs.Longest.{longest_end, longest_route}
use Rattle.definitions.specs.Fronts.{least_rear, greatest_front}
use Rattle.definitions.specs.Authority.{way, way_has, held, envelope}
use Rattle.definitions.specs.Safe.{IsLineOfOneZone}
use Rattle.definitions.specs.Zones.{zone_id}
use Rattle.way_laws.proofs.Cut_front.{none_between, cut_points}
use Rattle.way_laws.proofs.Cut_cut.{cut_cut, points_after}
use Rattle.event_laws.proofs.Still_world.{off_number}
use Rattle.event_laws.proofs.Facts_stay.{declared_stays, long_stays}
use Rattle.journey_laws.proofs.Motion.{place, place_at, Timed, place_at_most}
use Rattle.journey_laws.proofs.One_route.{numbered_controls, on_controls}
use Rattle.journey_laws.proofs.Invariant.{AuthorityIs, AuthTrue, ControlIs, FrontsAre, Invariant}
use Rattle.safe_laws.proofs.Held_points.{one, route_has, rear_is, rear_behind, front_is, way_points, auth_points, route_owner, points_held}
use Rattle.safe_laws.proofs.Issued_found.{issued_found}

-- What was at a moment.

declared_at : (t ms : ℕ) (s : Story) → is_declared t (at_moment ms s) ≡ true → is_declared t s ≡ true
unfolding at_moment
declared_at t ms [] h = h
declared_at t ms (e ∷ s) h = by_test (nat_le (clock (e ∷ s)) ms)
    (λ y. rw y at h)
    (λ n. declared_stays t e s (declared_at t ms s (rw n at h)))

long_at : (t ms : ℕ) (s : Story) → is_declared t (at_moment ms s) ≡ true → long_of t (at_moment ms s) ≡ long_of t s
unfolding at_moment
long_at t ms [] h = refl
long_at t ms (e ∷ s) h = by_test (nat_le (clock (e ∷ s)) ms)
    (λ y. rw y refl)
    (λ n.
    let d : is_declared t (at_moment ms s) ≡ true = rw n at h in
    rw n (long_at t ms s d ∙ sym (long_stays t e s (declared_at t ms s d))))

no_long : (x : Option Facts) → is_some x ≡ false → (facts_or x).long ≡ 0
no_long None h = refl
no_long (Some f) h = absurd cc

-- Every envelope covers its train.
module _ (line : Line) (t : ℕ) (s : Story) (l : IsLineOfOneZone line) (invariant : Invariant line t s) (control : controls (zone_id line) t s ≡ true) where
  abbrev c : ControlIs line t s
  c = invariant.authorized.controlled control

  abbrev f : FrontsAre line t s
  f = invariant.fronts control

  covers_points : (at lo : ℕ) (steps : List DirSeg) (point : Point) → f.lo ≤ lo + long_of t s → at ≤ f.hi → steps ≡ steps_to (seg_len line) (longest_route line t s) at
      → has_between (layout line) steps lo at point ≡ true → envelope line (zone_id line) t s point ≡ true
  covers_points at lo steps point low high is h =
      let reach = (one line t s l invariant control).reach in
      let w = f.within in
      let on : has_between (layout line) (longest_route line t s) lo at point ≡ true =
      sym (cut_points point (layout line) (longest_route line t s) lo at (omega (arith, high, w, reach))) ∙ ap (λ (xs : List DirSeg). has_between (layout line) xs lo at point) (sym is) ∙ h in
      let rear_ = rear_is line t s l invariant control in
      let front_ = front_is line t s l invariant control in
      points_wider point (layout line) (longest_route line t s) lo at (least_rear line (zone_id line) t s) (greatest_front line (zone_id line) t s) (omega arith) (omega arith) on

  covers_here : (point : Point) → train_has line t (at_moment (now_of (zone_id line) s) s) point ≡ true → envelope line (zone_id line) t s point ≡ true
  covers_here point h =
      let len = seg_len line in
      let now_ = now_of (zone_id line) s in
      let k = and_parts (entered t b) (has_between (layout line) (journey line t b) (rear t b) (head t b) point) h in
      let where_ : place_at t now_ s ≡ head t b = let e = k.0 in rw e refl in
      let low = f.low in let high = f.high in let within = f.within in
      let on = invariant.motion.on_now now_ k.0 in
      let here : place t s ≡ head t s = rw on refl in
      let past = place_at_most t now_ s invariant.motion in
      let then_ = invariant.journeys now_ k.0 ∙ ap (λ (xs : List DirSeg). steps_to len xs (head t b)) c.journey_on ∙ cut_cut len (longest_route line t s) (head t b) (head t s) (omega (arith, where_, here, past)) in
      by_test (is_declared t b)
      (λ d. let long = long_at t now_ s d in covers_points (head t b) (rear t b) (journey line t b) point (omega arith) (omega arith) then_ k.1)
      (λ d.
      let none = no_long (facts_of t b) d in
      let e : rear t b ≡ head t b = omega arith in
      let n = none_between point (layout line) (journey line t b) (head t b) in
      let g : has_between (layout line) (journey line t b) (head t b) (head t b) point ≡ true = ap (λ (p : ℕ). has_between (layout line) (journey line t b) p (head t b) point) (sym e) ∙ k.1 in
      absurd (let z : false ≡ true = sym n ∙ g in cc))
    where
      b : Story
      b = at_moment (now_of (zone_id line) s) s

pub covers_now : (line : Line) (s : Story) → IsLineOfOneZone line → Timed s → ((t : ℕ) → Invariant line t s)
    → (z t : ℕ) (point : Point) → controls z t s ≡ true → train_has line t (at_moment (now_of z s) s) point ≡ true → envelope line z t s point ≡ true
covers_now line s l timed invariant z t point control h =
    let is_zone : z ≡ zone_id line = (invariant t).authorized.zone_alone z control in
    let here : controls (zone_id line) t s ≡ true = subst (λ (n : ℕ). controls n t s ≡ true) is_zone control in
    subst (λ (n : ℕ). envelope line n t s point ≡ true) (sym is_zone)
    (covers_here line t s l (invariant t) here point
    (subst (λ (n : ℕ). train_has line t (at_moment (now_of n s) s) point ≡ true) is_zone h))

-- All that a train may use is held for it.

module _ (line : Line) (t : ℕ) (s : Story) (l : IsLineOfOneZone line) (invariant : Invariant line t s) (control : controls (zone_id line) t s ≡ true) where
  held_by_owner : (point : Point) → route_has line t s (least_rear line (zone_id line) t s) (longest_end line t s) point ≡ true → held line (owner line point) t s point ≡ true
  held_by_owner point h =
      let own = route_owner line t s l invariant control (least_rear line (zone_id line) t s) (longest_end line t s) point h in
      subst (λ (n : ℕ). held line n t s point ≡ true) (sym own) (points_held line t s l invariant control point h)

  authority_held : (from : ℕ) (a : Authority) (point : Point) → AuthorityIs line t s a → least_rear line (zone_id line) t s ≤ from
      → authority_has (layout line) (journey line t s) from a point ≡ true → held line (owner line point) t s point ≡ true
  authority_held from a point auth behind h =
      held_by_owner point
      (points_wider point (layout line) (longest_route line t s) from (authority_end (seg_len line) (journey line t s) a) (least_rear line (zone_id line) t s) (longest_end line t s) behind auth.within
      (sym (auth_points line t s l invariant control from a point auth) ∙ h))

  -- the whole path of an authority, of a train that has not come on
  path_held : (a : Authority) (point : Point) → entered t s ≡ false → AuthorityIs line t s a → path_has (layout line) a.path point ≡ true → held line (owner line point) t s point ≡ true
  path_held a point off auth h =
      let len = seg_len line in
      let before = take a.mark (journey line t s) in
      let r = rear_is line t s l invariant control in
      let early = (invariant.fronts control).early off in
      authority_held (total len before + a.path.from) a point auth (omega arith)
      (points_after point (layout line) before a.path.steps.items a.path.from (end_place len a.path) ∙ h)

module _ (line : Line) (t : ℕ) (s : Story) (l : IsLineOfOneZone line) (invariant : Invariant line t s) (point : Point) where
  limit_held_here : entered t s ≡ true → limit_has (layout line) (journey line t s) (rear t s) (limit_held line t s) point ≡ true → held line (owner line point) t s point ≡ true
  limit_held_here on h =
      let control = on_controls line t s invariant.authorized on in
      let m = invariant.authorized.limit on in
      authority_held line t s l invariant control (rear t s) m.held.authority point m.authority (rear_behind line t s l invariant control on)
      (ap (λ (x : Option HeldPath). limit_has (layout line) (journey line t s) (rear t s) x point) (sym m.is) ∙ h)

  auth_held_here : entered t s ≡ true → (m : Msg) → AuthTrue line t s m → auth_has (layout line) (journey line t s) t (last_number t s) (rear t s) point m ≡ true → held line (owner line point) t s point ≡ true
  auth_held_here on (msg.Auth u number mark path) p h =
      let a = and_parts (nat_eq u.0 t) _ h in
      let b = and_parts (nat_lt (last_number t s) number) _ a.1 in
      let above = b.0 in
      let control = on_controls line t s invariant.authorized on in
      authority_held line t s l invariant control (rear t s) (record { mark = mark; path = path }) point ((p a.0).ahead (grind (arith, nat_tests))) (rear_behind line t s l invariant control on) b.1
  auth_held_here on _ p h = absurd cc

  any_held_here : entered t s ≡ false → (m : Msg) → AuthTrue line t s m → auth_has_any (layout line) t point m ≡ true → held line (owner line point) t s point ≡ true
  any_held_here off (msg.Auth u number mark path) p h =
      let a = and_parts (nat_eq u.0 t) _ h in
      let is = p a.0 in
      let control = numbered_controls line t s invariant.authorized (let p = is.positive in let q = is.known in omega (arith, p, q)) in
      let z = off_number t s off in
      let some = is.positive in
      path_held line t s l invariant control (record { mark = mark; path = path }) point off (is.ahead (omega (arith, z, some))) a.1
  any_held_here off _ p h = absurd cc

  within_here : usable line t s point ≡ true → held line (owner line point) t s point ≡ true
  within_here h = by_test (entered t s)
      (λ on.
      let u : (limit_has (layout line) (journey line t s) (rear t s) (limit_held line t s) point || ever_issued (auth_has (layout line) (journey line t s) t (last_number t s) (rear t s) point) s) ≡ true = rw on at h in
      by_or _ _ u
      (λ a. limit_held_here on a)
      (λ a. issued_found _ (auth_has (layout line) (journey line t s) t (last_number t s) (rear t s) point) (AuthTrue line t s) s invariant.authorized.auths a (auth_held_here on)))
      (λ off.
      let u : ever_issued (auth_has_any (layout line) t point) s ≡ true = rw off at h in
      issued_found _ (auth_has_any (layout line) t point) (AuthTrue line t s) s invariant.authorized.auths u (any_held_here off))

pub within_now : (line : Line) (s : Story) → IsLineOfOneZone line → Timed s → ((t : ℕ) → Invariant line t s)
    → (t : ℕ) (point : Point) → usable line t s point ≡ true → held line (owner line point) t s point ≡ true
within_now line s l timed invariant t point h = within_here line t s l (invariant t) point h

-- The way of a controlled train is held for it.
pub way_held_now : (line : Line) (s : Story) → IsLineOfOneZone line → Timed s → ((t : ℕ) → Invariant line t s)
    → (z t : ℕ) (point : Point) → controls z t s ≡ true → way_has (layout line) (way line z t s) point ≡ true → held line (owner line point) t s point ≡ true
way_held_now line s l timed invariant z t point control h =
    let is_zone : z ≡ zone_id line = (invariant t).authorized.zone_alone z control in
    let here : controls (zone_id line) t s ≡ true = subst (λ (n : ℕ). controls n t s ≡ true) is_zone control in
    let has : way_has (layout line) (way line (zone_id line) t s) point ≡ true = subst (λ (n : ℕ). way_has (layout line) (way line n t s) point ≡ true) is_zone h in
    held_by_owner line t s l (invariant t) here point (sym (way_points line t s l (invariant t) here point) ∙ has)
