-- One transition further: what is counted, who controls, what was issued, and what the train holds.
use Rattle.std.proofs.Common.{◌≡◌, ℕ, ◌≤◌, List, ◌∷◌, Option, Some, None, true, false, not, refl, sym, ◌∙◌, ap, subst, arith}
use Rattle.std.proofs.lemmas.Bool.Decides.{nat_tests}
use Rattle.std.proofs.lemmas.Bool.{eqb-true, and_parts}
use Rattle.std.specs.Prelude.{nat_eq, nat_le, is_some}
use Rattle.list_laws.proofs.By_test.{by_test}
use Rattle.definitions.specs.declared.event.Event.{Event}
use Rattle.definitions.specs.declared.event.Event.TheVariants.{Train, Enter}
use Rattle.definitions.specs.declared.message.Msg.{Msg}
use Rattle.definitions.specs.Track.{Line, ranged}
use Rattle.definitions.specs.Rules.{is_line}
use Rattle.definitions.specs.Premises.{built, enters_rightly}
use Rattle.definitions.specs.Story.{Transition, Story, world_took}
use Rattle.definitions.specs.World.{Facts, facts_or, facts_in, facts_of, is_declared, long_of, enters, entered, head, HeldPath, is_auth, taken_number, taken_path, taken_entry, entry_authority, last_number}
use Rattle.definitions.specs.Control.{grants_entry, controls, now_of, last_issued}
use Rattle.definitions.specs.Fold.{account}
use Rattle.definitions.specs.Longest.{counted, longest_end, shrink_place}
use Rattle.definitions.specs.Fronts.{least_rear}
use Rattle.definitions.specs.Zones.{zone_id}
use Rattle.event_laws.proofs.Issued_all.{AllIn, AllIssued, NoAuth, all_weaker, in_all_weaker}
use Rattle.event_laws.proofs.Admitted.{Admitted}
use Rattle.event_laws.proofs.Facts_stay.{long_stays}
use Rattle.event_laws.proofs.Entered_same.{told_stays, told_now, entered_same}
use Rattle.event_laws.proofs.Still_world.{off_number}
use Rattle.event_laws.proofs.Controls_same.{controls_same, controls_stays, known_same}
use Rattle.event_laws.proofs.Grant_takes.{quiet_grants}
use Rattle.event_laws.proofs.Last_quiet.{last_quiet, last_grows}
use Rattle.journey_laws.proofs.Motion.{place, place_at_most}
use Rattle.journey_laws.proofs.Head_step.{enter_once}
use Rattle.journey_laws.proofs.Invariant.{AuthorityIs, AuthIs, AuthTrue, FrontsAre, SomeIs, ControlIs, EntryHeld, LimitIs, Authorized}
use Rattle.journey_laws.proofs.One_route.{numbered_controls, on_controls}
use Rattle.step_laws.proofs.Taken_counts.{cuts}
use Rattle.step_laws.proofs.Authority_stays.{off_before, path_stays, first_is_stays, Going}
use Rattle.step_laws.proofs.New_auth.{Sent, never}
use Rattle.step_laws.proofs.Longest_stays.{control_still}
use Rattle.step_laws.proofs.Last_stays.{sent_calm, again_is}
use Rattle.step_laws.proofs.Shorter_new.{shorter_is}
use Rattle.step_laws.proofs.Auths_stay.{AuthsStay, held_stays, auths_stay, none_true}
use Rattle.step_laws.proofs.Control_new.{new_stay, reads_new, new_is, control_new}
use Rattle.step_laws.proofs.Shrink_taken.{TakenNow, end_place, head_before, reads_cut, control_cut, auths_cut, limit_cut, entry_cut}
use Rattle.step_laws.proofs.Rear_grows.{rear_grows}
use Rattle.step_laws.proofs.Issues.{Issues, quiet, longer, again, shorter, cut}
use Rattle.step_laws.proofs.Effect_took_is.{TakenIs, TookIs}
use Rattle.step_laws.proofs.Stays_next.{Stays, quiet_stays, again_stays, shorter_stays, stays_auths, stays_reads, free_idle, free_unread}
use Rattle.step_laws.proofs.Limit_goes.{limit_comes, limit_goes}

-- A declared train has a length.

declared_long : (line : Line) (t : ℕ) (s : Story) (e : Event) → built line s e ≡ true → is_some (facts_in t e) ≡ true → 1 ≤ (facts_or (facts_in t e)).long
declared_long line t s (Train u long error speed kind) h its = by_test (nat_eq u.0 t)
    (λ y.
    let b = and_parts (ranged 1 1000000 long) _ (and_parts (ranged 1 65535 u.0) _ h).1 in
    let r = (and_parts (nat_le 1 long) (nat_le long 1000000) b.0).0 in
    let some : 1 ≤ long = grind (arith, nat_tests) in
    rw y some)
    (λ n. absurd (let c : false ≡ true = rw n at its in cc))
declared_long line t s _ h its = absurd cc

pub long_next : (line : Line) (t : ℕ) (s : Story) (x : Transition) → built line s x.event ≡ true → (is_declared t s ≡ true → 1 ≤ long_of t s) → is_declared t (x ∷ s) ≡ true → 1 ≤ long_of t (x ∷ s)
long_next line t s x b k h = by_facts (facts_of t s) refl
  where
    by_facts : (f : Option Facts) → facts_of t s ≡ f → 1 ≤ long_of t (x ∷ s)
    by_facts (Some f) is =
        let d : is_declared t s ≡ true = ap (λ (g : Option Facts). is_some g) is in
        let l = long_stays t x s d in
        let o = k d in
        omega (arith, l, o)
    by_facts None is =
        let now_ : facts_of t (x ∷ s) ≡ facts_in t x.event = told_now (λ (y : Transition). facts_in t y.event) x s is in
        let l = declared_long line t s x.event b (sym (ap (λ (g : Option Facts). is_some g) now_) ∙ h) in
        let e = ap (λ (g : Option Facts). (facts_or g).long) now_ in
        omega (arith, e, l)

-- Who controls.

pub alone_next : (line : Line) (t : ℕ) (s : Story) (x : Transition) → Authorized line t s → ((y : ℕ) → grants_entry y t x ≡ true → y ≡ zone_id line) → (y : ℕ) → controls y t (x ∷ s) ≡ true → y ≡ zone_id line
alone_next line t s x k granted y h = by_test (grants_entry y t x)
    (λ g. granted y g)
    (λ n. k.zone_alone y (sym (controls_same y t x s n) ∙ h))

-- of a message that is sent, and of none
sent_true : (line : Line) (t : ℕ) (s : Story) (x : Transition) (n : Sent line t s x) → AuthIs line t (x ∷ s) n.number n.authority → AllIn (AuthTrue line t (x ∷ s)) x.issued
unfolding AllIn
sent_true line t s x n i = subst (λ (l : List (ℕ × Msg)). AllIn (AuthTrue line t (x ∷ s)) l) (sym n.issued) ((λ y. i), tt)

none_now : (line : Line) (t : ℕ) (s : Story) (x : Transition) → NoAuth t x.issued → AllIn (AuthTrue line t (x ∷ s)) x.issued
none_now line t s x q = in_all_weaker (λ m. is_auth t m ≡ false) (AuthTrue line t (x ∷ s)) (none_true line t (x ∷ s)) x.issued q

module _ (line : Line) (t : ℕ) (s : Story) (x : Transition) (valid : is_line line ≡ true) (k : Authorized line t s) (fronts : controls (zone_id line) t s ≡ true → FrontsAre line t s)
    (going : Going line t s x) where
  -- a train that is controlled was, where entry is not granted
  still_free : NoAuth t x.issued → controls (zone_id line) t (x ∷ s) ≡ false → controls (zone_id line) t s ≡ false
  still_free none h = sym (controls_same (zone_id line) t x s (quiet_grants (zone_id line) t x none)) ∙ h

  taken_controls : TakenNow line t s x → controls (zone_id line) t s ≡ true
  taken_controls n = on_controls line t s k n.on

  lost : (G : Type 0) → controls (zone_id line) t s ≡ true → controls (zone_id line) t (x ∷ s) ≡ false → G
  lost G c h = absurd (let y : true ≡ false = sym (controls_stays (zone_id line) t x s c) ∙ h in cc)

  pub unknown_next : Issues line t s x → controls (zone_id line) t (x ∷ s) ≡ false → last_issued t (x ∷ s) ≡ 0
  unknown_next (quiet q uncut) h = last_quiet t x s q ∙ k.unknown (still_free q h)
  unknown_next (longer n) h = absurd (let c : true ≡ false = sym n.controlled ∙ h in cc)
  unknown_next (again n) h = lost (last_issued t (x ∷ s) ≡ 0) n.control h
  unknown_next (shorter n) h = lost (last_issued t (x ∷ s) ≡ 0) n.control h
  unknown_next (cut n) h = lost (last_issued t (x ∷ s) ≡ 0) (taken_controls n) h

  -- what is read of its numbers
  pub unshrunk_next : Issues line t s x → controls (zone_id line) t (x ∷ s) ≡ false → (account line t (x ∷ s)).shrink ≡ 0
  unshrunk_next (quiet q uncut) h = free_idle line t s x k (still_free q h) q uncut
  unshrunk_next (longer n) h = absurd (let c : true ≡ false = sym n.controlled ∙ h in cc)
  unshrunk_next (again n) h = lost ((account line t (x ∷ s)).shrink ≡ 0) n.control h
  unshrunk_next (shorter n) h = lost ((account line t (x ∷ s)).shrink ≡ 0) n.control h
  unshrunk_next (cut n) h = lost ((account line t (x ∷ s)).shrink ≡ 0) (taken_controls n) h

  pub unread_next : Issues line t s x → controls (zone_id line) t (x ∷ s) ≡ false → (i : ℕ) → (account line t (x ∷ s)).reads i ≡ None
  unread_next (quiet q uncut) h i = free_unread line t s x k (still_free q h) q uncut i
  unread_next (longer n) h i = absurd (let c : true ≡ false = sym n.controlled ∙ h in cc)
  unread_next (again n) h i = lost ((account line t (x ∷ s)).reads i ≡ None) n.control h
  unread_next (shorter n) h i = lost ((account line t (x ∷ s)).reads i ≡ None) n.control h
  unread_next (cut n) h i = lost ((account line t (x ∷ s)).reads i ≡ None) (taken_controls n) h

  pub reads_next : Issues line t s x → (i : ℕ) → counted line t (x ∷ s) ≤ i → i ≤ last_issued t (x ∷ s) → SomeIs (AuthorityIs line t (x ∷ s)) ((account line t (x ∷ s)).reads i)
  reads_next (quiet q uncut) i b l = by_test (controls (zone_id line) t s)
      (λ c. stays_reads line t s x k going (quiet_stays line t s x k going c q uncut) i b l)
      (λ n. subst (SomeIs (AuthorityIs line t (x ∷ s))) (sym (free_unread line t s x k n q uncut i)) tt)
  reads_next (longer n) i b l = reads_new line t s x k going n i b l
  reads_next (again n) i b l = stays_reads line t s x k going (again_stays line t s x k going n) i b l
  reads_next (shorter n) i b l = stays_reads line t s x k going (shorter_stays line t s x k going n) i b l
  reads_next (cut n) i b l = reads_cut line t s x k going (taken_controls n) n i b l

  -- the longest authority is cut, or it is not
  by_issues : (G : Type 0) → Issues line t s x → (cuts line t x s ≡ false → G) → (TakenNow line t s x → G) → G
  by_issues G (quiet q uncut) f g = f uncut
  by_issues G (longer n) f g = f (sent_calm line t s x n.sent)
  by_issues G (again n) f g = f (sent_calm line t s x n.sent)
  by_issues G (shorter n) f g = f (sent_calm line t s x n.sent)
  by_issues G (cut n) f g = g n

  -- what is kept where it is not
  pub stay_next : controls (zone_id line) t s ≡ true → Issues line t s x → cuts line t x s ≡ false → AuthsStay line t s x
  stay_next c (quiet q uncut) h = stays_auths line t s x k going (quiet_stays line t s x k going c q uncut)
  stay_next c (longer n) h = new_stay line t s x k going n c
  stay_next c (again n) h = stays_auths line t s x k going (again_stays line t s x k going n)
  stay_next c (shorter n) h = stays_auths line t s x k going (shorter_stays line t s x k going n)
  stay_next c (cut n) h = absurd (let e : true ≡ false = sym n.cut ∙ h in cc)

  granted_once : controls (zone_id line) t s ≡ true → Issues line t s x → grants_entry (zone_id line) t x ≡ false
  granted_once c (quiet q uncut) = quiet_grants (zone_id line) t x q
  granted_once c (longer n) = n.granted c
  granted_once c (again n) = n.refused (zone_id line)
  granted_once c (shorter n) = n.refused (zone_id line)
  granted_once c (cut n) = quiet_grants (zone_id line) t x n.quiet

  -- where a shrink counts as taken the train is before its end, and with it the least front
  pub place_cut : (c : controls (zone_id line) t s ≡ true) → TakenNow line t s x → place t s ≤ shrink_place line t s
  place_cut c n =
      let h = head_before line t s x k going c n in
      let on = n.on in
      let p : place t s ≡ head t s = rw on refl in
      omega (arith, h, p)

  least_before : (c : controls (zone_id line) t s ≡ true) → Issues line t s x → (fronts c).lo ≤ longest_end line t (x ∷ s)
  least_before c i = by_issues ((fronts c).lo ≤ longest_end line t (x ∷ s)) i
      (λ uncut.
      let grown = (stay_next c i uncut).ends in
      let w = (fronts c).within in
      let o = (fronts c).ordered in
      omega (arith, grown, w, o))
      (λ n.
      let low = (fronts c).low in
      let past = place_at_most t (now_of (zone_id line) s) s going.motion in
      let p = place_cut c n in
      let e = end_place line t s x k going c n in
      omega (arith, low, past, p, e))

  pub rear_next : Issues line t s x → controls (zone_id line) t s ≡ true → least_rear line (zone_id line) t s ≤ least_rear line (zone_id line) t (x ∷ s)
  rear_next i c =
      let g = granted_once c i in
      rear_grows line t s x (fronts c) g (known_same (zone_id line) t x s g) (least_before c i)

  module _ (uncounted : entered t (x ∷ s) ≡ false → counted line t (x ∷ s) ≡ 0) where
    stays_control : Issues line t s x → Stays line t s x k → ControlIs line t (x ∷ s)
    stays_control i a =
        let rears = rear_next i a.control in
        control_still line t s x k going a.control a.first a.top a.issued valid (known_same (zone_id line) t x s (granted_once a.control i)) rears uncounted (a.shrunk rears)

    pub controlled_next : Issues line t s x → controls (zone_id line) t (x ∷ s) ≡ true → ControlIs line t (x ∷ s)
    controlled_next (quiet q uncut) h =
        let c = sym (controls_same (zone_id line) t x s (quiet_grants (zone_id line) t x q)) ∙ h in
        stays_control (quiet q uncut) (quiet_stays line t s x k going c q uncut)
    controlled_next (longer n) h = control_new line t s x k going n (rear_next (longer n))
    controlled_next (again n) h = stays_control (again n) (again_stays line t s x k going n)
    controlled_next (shorter n) h = stays_control (shorter n) (shorter_stays line t s x k going n)
    controlled_next (cut n) h =
        let c = taken_controls n in
        control_cut line t s x k going c n (known_same (zone_id line) t x s (granted_once c (cut n))) (rear_next (cut n) c)

  -- the authorities that were issued before, and now
  module _ (numbers : last_number t s ≤ last_number t (x ∷ s)) where
    auths_before : Issues line t s x → AllIssued (AuthTrue line t (x ∷ s)) s
    auths_before i = by_issues (AllIssued (AuthTrue line t (x ∷ s)) s) i
        (λ uncut. by_test (controls (zone_id line) t s)
        (λ c. auths_stay line t s x k (stay_next c i uncut) numbers k.auths)
        (λ n. all_weaker (λ m. is_auth t m ≡ false) (AuthTrue line t (x ∷ s)) (none_true line t (x ∷ s)) s (never line t s k n)))
        (λ n. auths_cut line t s x k going (taken_controls n) n k.auths)

    auths_now : Issues line t s x → AllIn (AuthTrue line t (x ∷ s)) x.issued
    auths_now (quiet q uncut) = none_now line t s x q
    auths_now (longer n) = sent_true line t s x n.sent (new_is line t s x k going n)
    auths_now (again n) = sent_true line t s x n.sent (again_is line t s x k going n (k.controlled n.control).issued)
    auths_now (shorter n) = sent_true line t s x n.sent (shorter_is line t s x k going n)
    auths_now (cut n) = none_now line t s x n.quiet

    pub auths_next : Issues line t s x → AllIssued (AuthTrue line t (x ∷ s)) (x ∷ s)
    unfolding AllIssued
    auths_next i = (auths_now i, auths_before i)

  -- What the train holds.

  entry_stays : Issues line t s x → (h : HeldPath) → EntryHeld line t s h → EntryHeld line t (x ∷ s) h
  entry_stays i h e = by_issues (EntryHeld line t (x ∷ s) h) i
      (λ uncut.
      let stay = stay_next c i uncut in
      let d = e.path.declared in
      let a = e.issued in
      let b = last_grows t x s in
      record {
        path = path_stays line t x s stay.first h.authority (stay.moved d) e.path;
        authority = λ off. held_stays line t s x k stay h.authority (e.authority (off_before t x s off));
        first = first_is_stays line t x s h.authority d e.first;
        issued = omega (arith, a, b);
      })
      (λ n. entry_cut line t s x k going (taken_controls n) n h e)
    where
      c : controls (zone_id line) t s ≡ true
      c = numbered_controls line t s k e.issued

  -- the first authority number 1 that it takes
  taken_first : TakenIs line t s (world_took x) → entry_authority t s ≡ None → (h : HeldPath) → taken_entry t (world_took x) ≡ Some h → EntryHeld line t s h
  taken_first taken none h is = by_test (nat_eq (taken_number t (world_took x)) 1)
      (λ y.
      let number = eqb-true (taken_number t (world_took x)) 1 y in
      let path : taken_path t (world_took x) ≡ Some h = rw y at is in
      let i = taken.is h path in
      let known = taken.known in
      let z = off_number t s off in
      record { path = i.path; authority = λ o. i.ahead (omega (arith, z, number)); first = i.first off number; issued = omega (arith, known, number) })
      (λ n. absurd (let c : None ≡ Some h = rw n at is in cc))
    where
      off : entered t s ≡ false
      off = by_test (entered t s)
          (λ y. absurd (let c : false ≡ true = sym (ap (λ (g : Option HeldPath). is_some g) none) ∙ k.came_on y in cc))
          (λ n. n)

  pub entry_next : Issues line t s x → TakenIs line t s (world_took x) → (h : HeldPath) → entry_authority t (x ∷ s) ≡ Some h → EntryHeld line t (x ∷ s) h
  entry_next i taken h is = by_held (entry_authority t s) refl
    where
      by_held : (g : Option HeldPath) → entry_authority t s ≡ g → EntryHeld line t (x ∷ s) h
      by_held None was = entry_stays i h (taken_first taken was h (sym (told_now (λ (y : Transition). taken_entry t (world_took y)) x s was) ∙ is))
      by_held (Some g) was = entry_stays i h (k.entry h (was ∙ sym (told_stays (λ (y : Transition). taken_entry t (world_took y)) x s g was) ∙ is))

  module _ (a : Admitted line s x.event) where
    -- a train that comes on holds its entry authority
    holds : (e : Event) → enters_rightly s e ≡ true → enters t e ≡ true → is_some (entry_authority t s) ≡ true
    holds (Enter u) h its = subst (λ (n : ℕ). is_some (entry_authority n s) ≡ true) (eqb-true u.0 t its) (and_parts (is_some (entry_authority u.0 s)) (not (entered u.0 s)) h).0
    holds _ h its = absurd cc

    some_held : (g : Option HeldPath) → entry_authority t s ≡ g → is_some g ≡ true → (h : HeldPath) × (entry_authority t s ≡ Some h)
    some_held None is h = absurd cc
    some_held (Some g) is h = (g, is)

    held_some : is_some (entry_authority t s) ≡ true → is_some (entry_authority t (x ∷ s)) ≡ true
    held_some h =
        let g = some_held (entry_authority t s) refl h in
        ap (λ (o : Option HeldPath). is_some o) (told_stays (λ (y : Transition). taken_entry t (world_took y)) x s g.0 g.1)

    pub came_next : entered t (x ∷ s) ≡ true → is_some (entry_authority t (x ∷ s)) ≡ true
    came_next on = by_test (enters t x.event)
        (λ y. held_some (holds x.event a.entering y))
        (λ n. held_some (k.came_on (sym (entered_same t x s n) ∙ on)))

    on_controlled : is_some (entry_authority t s) ≡ true → controls (zone_id line) t s ≡ true
    on_controlled h =
        let g = some_held (entry_authority t s) refl h in
        numbered_controls line t s k (k.entry g.0 g.1).issued

    pub limit_after : Issues line t s x → TookIs line t s x → entered t (x ∷ s) ≡ true → LimitIs line t (x ∷ s)
    limit_after i took on = by_issues (LimitIs line t (x ∷ s)) i
        (λ uncut. by_test (enters t x.event)
        (λ y.
        let some = holds x.event a.entering y in
        let c = on_controlled some in
        let g = some_held (entry_authority t s) refl some in
        limit_comes line t s x k c (stay_next c i uncut) y (enter_once t s x.event a.entering y) g.0 g.1)
        (λ n.
        let was = sym (entered_same t x s n) ∙ on in
        let c = on_controlled (k.came_on was) in
        limit_goes line t s x k c (stay_next c i uncut) going.motion n was a.stopping took))
        (λ n. limit_cut line t s x k going (taken_controls n) n)

    pub last_next : TakenIs line t s (world_took x) → last_number t (x ∷ s) ≤ last_issued t (x ∷ s)
    unfolding last_number
    last_next taken =
        let grows = last_grows t x s in
        let most = k.last_most in
        let known = taken.known in
        by_test (enters t x.event)
        (λ y.
        let some = holds x.event a.entering y in
        let g = some_held (entry_authority t s) refl some in
        let issued = (k.entry g.0 g.1).issued in
        rw y (omega (arith, issued, grows)))
        (λ n. by_test (entered t s)
        (λ on. rw (n, on) (omega (arith, most, known, grows)))
        (λ off. rw (n, off) (omega (arith, most, grows))))
