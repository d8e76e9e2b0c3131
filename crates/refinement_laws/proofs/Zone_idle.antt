-- An event of the world leaves the zone's trains as they are.
use Rattle.std.proofs.Common.{◌≡◌, ℕ, ◌≤◌, ◌∷◌, Option, Some, None, true, false, refl, sym, ◌∙◌, ap, subst, arith}
use Rattle.std.proofs.lemmas.Bool.Decides.{nat_tests}
use Rattle.std.specs.Prelude.{nat_eq}
use Rattle.list_laws.proofs.By_test.{by_test}
use Rattle.definitions.specs.Track.{Line, seg_len}
use Rattle.definitions.specs.Ways.{PlainWay}
use Rattle.definitions.specs.Story.{Transition, Story}
use Rattle.definitions.specs.World.{head, journey}
use Rattle.definitions.specs.Account.{Account}
use Rattle.definitions.specs.Fold.{account}
use Rattle.definitions.specs.Control.{grants_entry, asker, controls, known_train, known_trains, now_of}
use Rattle.definitions.specs.Longest.{is_pending, longest_end, longest_route}
use Rattle.definitions.specs.Fronts.{report_time}
use Rattle.definitions.specs.Safe.{IsLineOfOneZone}
use Rattle.definitions.specs.Zones.{zone_id}
use Rattle.authority_ledger.specs.declared.ledger.Ledger.{Ledger}
use Rattle.authority_ledger.specs.declared.ledger.Shrink.{Shrink}
use Rattle.plain_state.specs.Refinement.{zone_train_of, zone_train}
use Rattle.event_laws.proofs.Controls_same.{controls_same, now_idle, report_idle}
use Rattle.event_laws.proofs.Grant_takes.{quiet_grants}
use Rattle.event_laws.proofs.Known_more.{known_still}
use Rattle.event_laws.proofs.Issued_all.{NoAuth}
use Rattle.journey_laws.proofs.Invariant.{SomeIs, Invariant}
use Rattle.journey_laws.proofs.First_steps.{FirstSteps, read_same, controlled_first}
use Rattle.step_laws.proofs.Account_goes.{account_quiet}
use Rattle.step_laws.proofs.Ends_narrowed.{ends_idle}
use Rattle.step_laws.proofs.Route_goes_on.{route_stays}
use Rattle.step_laws.proofs.Taken_counts.{cuts}
use Rattle.refinement_laws.proofs.The_zone.{zone_positive}
use Rattle.refinement_laws.proofs.Facts_is.{no_way}
use Rattle.refinement_laws.proofs.Ledger_told.{shrink_told, ledger_told}
use Rattle.refinement_laws.proofs.Zone_kept.{ledger_of, kept_train, zone_kept, known_stays, zone_behind}
use Rattle.refinement_laws.proofs.World_controls.{end_same, world_controls}

pub no_train : (line : Line) (t : ℕ) (s : Story) → controls (zone_id line) t s ≡ false → zone_train line t s ≡ None
no_train line t s n = ap (λ (w : Option PlainWay). zone_train_of line (zone_id line) t s w) (no_way line (zone_id line) t s n)

pub idle_actor : (line : Line) → IsLineOfOneZone line → nat_eq 0 (zone_id line) ≡ false
idle_actor line l = let p = zone_positive line l in grind (arith, nat_tests)

-- the unanswered shrink ends where it did as the journey goes on
shrink_stays : (line : Line) (t : ℕ) (x : Transition) (s : Story) (invariant : Invariant line t s) (c : controls (zone_id line) t s ≡ true) → FirstSteps line t x s
    → shrink_told (seg_len line) (journey line t (x ∷ s)) (account line t s) ≡ shrink_told (seg_len line) (journey line t s) (account line t s)
shrink_stays line t x s invariant c first =
    let v = account line t s in
    by_test (is_pending line t s)
    (λ y.
    let g = (invariant.authorized.controlled c).shrink y in
    rw y (ap (λ (n : ℕ). Some (shrink_at n)) (read_same line t x s first (v.reads v.shrink) (subst (SomeIs _) (sym g.shorter_is) g.authority.mark))))
    (λ n. rw n refl)
  where
    shrink_at : ℕ → Shrink
    shrink_at n = record { number = (account line t s).shrink; end = n }

module _ (line : Line) (x : Transition) (s : Story) (one : IsLineOfOneZone line) (world : x.actor ≡ 0) where
  pub idle : nat_eq x.actor (zone_id line) ≡ false
  idle = ap (λ (n : ℕ). nat_eq n (zone_id line)) world ∙ idle_actor line one

  pub no_grant : (t : ℕ) → grants_entry (zone_id line) t x ≡ false
  no_grant t = rw idle refl

  pub known_idle : known_trains (zone_id line) (x ∷ s) ≡ known_trains (zone_id line) s
  known_idle = known_still (zone_id line) x s (no_grant (asker x.took))

  pub now_still : now_of (zone_id line) (x ∷ s) ≡ now_of (zone_id line) s
  now_still = now_idle (zone_id line) x s idle

  -- its account stays
  account_idle : (t : ℕ) → NoAuth t x.issued → Invariant line t s → account line t (x ∷ s) ≡ account line t s
  account_idle t a invariant =
      let g = quiet_grants x.actor t x a in
      let c : controls x.actor t s ≡ false = ap (λ (n : ℕ). controls n t s) world ∙ world_controls line t s one invariant in
      account_quiet line t x s a ∙ rw (g, c) refl

  ledger_idle : (t : ℕ) → NoAuth t x.issued → (invariant : Invariant line t s) → controls (zone_id line) t s ≡ true → head t s ≤ head t (x ∷ s) → ledger_of line t (x ∷ s) ≡ ledger_of line t s
  ledger_idle t a invariant c heads =
      ap (λ (v : Account). ledger_told (seg_len line) (journey line t (x ∷ s)) v) (account_idle t a invariant)
      ∙ ap (λ (p : Option Shrink). with_pending p) (shrink_stays line t x s invariant c (controlled_first line t s invariant.authorized c invariant.motion x heads))
    where
      with_pending : Option Shrink → Ledger
      with_pending p = record { last = (account line t s).issued; answered = (account line t s).counted; pending = p }

  pub zone_idle : (t : ℕ) → NoAuth t x.issued → Invariant line t s → Invariant line t (x ∷ s) → head t s ≤ head t (x ∷ s) → zone_train line t (x ∷ s) ≡ zone_train line t s
  zone_idle t a invariant after heads =
      let z = zone_id line in
      let none = no_grant t in
      let same = controls_same z t x s none in
      by_test (controls z t s)
      (λ c.
      let d = same ∙ c in
      let calm : cuts line t x s ≡ false = rw idle refl in
      let same_end = end_same line t x s a invariant after c d heads calm in
      let ends = ends_idle line t x s (invariant.fronts c) (after.fronts d) none idle in
      let len = seg_len line in
      let f = known_train z t s in
      let steps = longest_route line t s in
      let end = longest_end line t s in
      zone_behind line t s (x ∷ s) one.valid after d (known_stays z t x s none) same_end (route_stays line t s x invariant.motion invariant.authorized after.authorized c d heads calm same_end)
      ∙ (ap (λ (n : ℕ). Some (kept_train len t f steps n (after.fronts d).hi end (now_of z (x ∷ s)) (report_time line z t (x ∷ s)) (ledger_of line t (x ∷ s)))) ends.0
      ∙ (ap (λ (n : ℕ). Some (kept_train len t f steps (invariant.fronts c).lo n end (now_of z (x ∷ s)) (report_time line z t (x ∷ s)) (ledger_of line t (x ∷ s)))) ends.1
      ∙ (ap (λ (n : ℕ). Some (kept_train len t f steps (invariant.fronts c).lo (invariant.fronts c).hi end n (report_time line z t (x ∷ s)) (ledger_of line t (x ∷ s)))) now_still
      ∙ (ap (λ (n : ℕ). Some (kept_train len t f steps (invariant.fronts c).lo (invariant.fronts c).hi end (now_of z s) n (ledger_of line t (x ∷ s)))) (report_idle line z t x s none idle)
      ∙ (ap (λ (l : Ledger). Some (kept_train len t f steps (invariant.fronts c).lo (invariant.fronts c).hi end (now_of z s) (report_time line z t s) l)) (ledger_idle t a invariant c heads)
      ∙ sym (zone_kept line t s one.valid invariant c)))))))
      (λ n. no_train line t (x ∷ s) (same ∙ n) ∙ sym (no_train line t s n))
