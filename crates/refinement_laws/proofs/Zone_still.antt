-- A train of the zone after a message that the zone takes: its fronts grow, and a used report narrows them.
use Rattle.std.proofs.Common.{◌≡◌, ℕ, suc, ◌≤◌, max, List, ◌∷◌, length, Option, Some, Bool, true, false, refl, sym, ◌∙◌, ap, arith}
use Rattle.std.proofs.lemmas.Bool.Decides.{nat_tests}
use Rattle.std.specs.Prelude.{ℤ, nat_eq}
use Rattle.list_laws.proofs.By_test.{by_test}
use Rattle.track_points.specs.declared.ids.DirSeg.{DirSeg}
use Rattle.track_points.specs.declared.ids.TrainId.{TrainId}
use Rattle.track_points.specs.Points.{steps_to}
use Rattle.definitions.specs.declared.message.Msg.{Msg}
use Rattle.definitions.specs.declared.message.Msg.TheVariants as msg
use Rattle.definitions.specs.Track.{Line, seg_len}
use Rattle.definitions.specs.Story.{Transition, Story}
use Rattle.definitions.specs.World.{head}
use Rattle.definitions.specs.Control.{grants_entry, controls, known_train, now_of, now_with, took_time}
use Rattle.definitions.specs.Fold.{account}
use Rattle.definitions.specs.Longest.{longest_end, longest_route}
use Rattle.definitions.specs.Fronts.{possible_front, is_used, uses_report, report_time}
use Rattle.definitions.specs.Steps.{Effect}
use Rattle.definitions.specs.Safe.{IsLineOfOneZone}
use Rattle.authority_ledger.specs.declared.ledger.Ledger.{Ledger}
use Rattle.plain_state.specs.declared.Controlled.{Controlled}
use Rattle.plain_state.specs.Zone.{checked, grown_train}
use Rattle.definitions.specs.Zones.{zone_id}
use Rattle.plain_state.specs.Refinement.{zone_train}
use Rattle.event_laws.proofs.Controls_same.{controls_same, now_acted}
use Rattle.event_laws.proofs.Issued_all.{NoAuth}
use Rattle.journey_laws.proofs.Invariant.{Invariant}
use Rattle.step_laws.proofs.Fronts_numbers.{takes_by, grown_to, fronts_left, fronts_kept}
use Rattle.step_laws.proofs.Account_goes.{account_taken, account_quiet}
use Rattle.step_laws.proofs.Ends_narrowed.{ends_grown, ends_narrowed}
use Rattle.step_laws.proofs.Route_goes_on.{route_stays}
use Rattle.step_laws.proofs.Taken_counts.{answers, unanswered_takes, cuts}
use Rattle.plain_state.proofs.Found_changed.{mapped}
use Rattle.refinement_laws.proofs.Way_of.{way_of}
use Rattle.refinement_laws.proofs.Zone_kept.{ledger_of, kept_train, zone_kept, kept_grown, known_stays, zone_behind}
use Rattle.refinement_laws.proofs.World_controls.{end_same}
use Rattle.refinement_laws.proofs.Zone_idle.{no_train}
use Rattle.refinement_laws.proofs.Zone_moves.{zone_made, zone_heads}
use Rattle.refinement_laws.proofs.Account_heard.{behind_checked, behind_grown, ledger_behind}

pub report_unused : (line : Line) (z t : ℕ) (x : Transition) (s : Story) → grants_entry z t x ≡ false → uses_report line z t s x.took ≡ false → report_time line z t (x ∷ s) ≡ report_time line z t s
unfolding report_time
report_unused line z t x s h n = by_test (nat_eq x.actor z) (λ y. rw (h, y, n) refl) (λ o. rw (h, o) refl)

pub report_used : (line : Line) (z t : ℕ) (x : Transition) (s : Story) → grants_entry z t x ≡ false → nat_eq x.actor z ≡ true → uses_report line z t s x.took ≡ true → report_time line z t (x ∷ s) ≡ max (report_time line z t s) (took_time x.took)
unfolding report_time
report_used line z t x s h a u = rw (h, a, u) refl

-- as many steps up to the end as before, where that is the same
pub steps_same : (line : Line) (t : ℕ) (x : Transition) (s : Story) → (invariant : Invariant line t s) → (after : Invariant line t (x ∷ s)) → controls (zone_id line) t s ≡ true → controls (zone_id line) t (x ∷ s) ≡ true → head t s ≤ head t (x ∷ s)
    → cuts line t x s ≡ false → longest_end line t (x ∷ s) ≡ longest_end line t s
    → length (steps_to (seg_len line) (longest_route line t (x ∷ s)) (longest_end line t (x ∷ s))) ≡ length (steps_to (seg_len line) (longest_route line t s) (longest_end line t s))
steps_same line t x s invariant after c d heads calm end =
    let len = seg_len line in
    ap (λ (xs : List DirSeg). length (steps_to len xs (longest_end line t (x ∷ s)))) (route_stays line t s x invariant.motion invariant.authorized after.authorized c d heads calm end)
    ∙ ap (λ (p : ℕ). length (steps_to len (longest_route line t s) p)) end

-- the plain growth of its fronts
pub grown_is : (line : Line) (m : Msg) (s : Story) (t : ℕ) → IsLineOfOneZone line → (invariant : Invariant line t s) → (c : controls (zone_id line) t s ≡ true) → mapped (grown_train (now_with (zone_id line) s m)) (zone_train line t s)
    ≡ Some (kept_train (seg_len line) t (known_train (zone_id line) t s) (longest_route line t s) (invariant.fronts c).lo (grown_to line t s m (invariant.fronts c).hi) (longest_end line t s)
    (now_with (zone_id line) s m) (report_time line (zone_id line) t s) (ledger_of line t s))
grown_is line m s t one invariant c =
    let w = way_of line t s one.valid invariant c in
    let p = w.order in let q = w.ordered in let r = w.within in
    ap (λ (y : Option Controlled). mapped (grown_train (now_with (zone_id line) s m)) y) (zone_kept line t s one.valid invariant c)
    ∙ ap (λ (y : Controlled). Some y) (kept_grown (now_with (zone_id line) s m) (seg_len line) t (known_train (zone_id line) t s) (longest_route line t s) (invariant.fronts c).lo (invariant.fronts c).hi (longest_end line t s)
    (now_of (zone_id line) s) (report_time line (zone_id line) t s) (ledger_of line t s) q r (omega (arith, p, q, r)) w.room)

module _ (line : Line) (z number : ℕ) (m : Msg) (e : Effect) (s : Story) (one : IsLineOfOneZone line) (zone : suc z ≡ zone_id line) (t : ℕ) (invariant : Invariant line t s) (after : Invariant line t (zone_made z number m e ∷ s)) where
  abbrev x : Transition
  x = zone_made z number m e

  pub acts : nat_eq (suc z) (zone_id line) ≡ true
  acts = grind (arith, nat_tests)

  pub now_is : now_of (zone_id line) (zone_made z number m e ∷ s) ≡ now_with (zone_id line) s m
  now_is = now_acted (zone_id line) x s acts

  -- no shrink counts as taken by it
  pub uncut : takes_by t (account line t s) m ≡ false → cuts line t (zone_made z number m e) s ≡ false
  uncut h = rw (acts, h) refl

  -- one that the zone controls, and does not enter now
  module _ (c : controls (zone_id line) t s ≡ true) (none : grants_entry (zone_id line) t (zone_made z number m e) ≡ false) where
    pub controlled_still : controls (zone_id line) t (zone_made z number m e ∷ s) ≡ true
    controlled_still = controls_same (zone_id line) t x s none ∙ c

    module _ (calm : takes_by t (account line t s) m ≡ false) (end : longest_end line t (zone_made z number m e ∷ s) ≡ longest_end line t s) where
      numbers_are : (lo hi report : ℕ) → (after.fronts controlled_still).lo ≡ lo → (after.fronts controlled_still).hi ≡ hi → report_time line (zone_id line) t (zone_made z number m e ∷ s) ≡ report
          → zone_train line t (zone_made z number m e ∷ s)
          ≡ Some (kept_train (seg_len line) t (known_train (zone_id line) t s) (longest_route line t s) lo hi (longest_end line t s)
          (now_with (zone_id line) s m) report (ledger_of line t (zone_made z number m e ∷ s)))
      numbers_are lo hi report a b r =
          let len = seg_len line in
          let k = known_train (zone_id line) t s in
          let d = controlled_still in
          let l = ledger_of line t (x ∷ s) in
          zone_behind line t s (x ∷ s) one.valid after d (known_stays (zone_id line) t x s none) end (route_stays line t s x invariant.motion invariant.authorized after.authorized c d (zone_heads t z number m e s) (uncut calm) end)
          ∙ (ap (λ (q : ℕ). Some (kept_train len t k (longest_route line t s) q (after.fronts d).hi (longest_end line t s) (now_of (zone_id line) (x ∷ s)) (report_time line (zone_id line) t (x ∷ s)) l)) a
          ∙ (ap (λ (q : ℕ). Some (kept_train len t k (longest_route line t s) lo q (longest_end line t s) (now_of (zone_id line) (x ∷ s)) (report_time line (zone_id line) t (x ∷ s)) l)) b
          ∙ (ap (λ (q : ℕ). Some (kept_train len t k (longest_route line t s) lo hi (longest_end line t s) q (report_time line (zone_id line) t (x ∷ s)) l)) now_is
          ∙ ap (λ (q : ℕ). Some (kept_train len t k (longest_route line t s) lo hi (longest_end line t s) (now_with (zone_id line) s m) q l)) r)))

      pub behind_unused : is_used line (zone_id line) t s (possible_front line (zone_id line) t s) m ≡ false
          → zone_train line t (zone_made z number m e ∷ s)
          ≡ Some (kept_train (seg_len line) t (known_train (zone_id line) t s) (longest_route line t s) (invariant.fronts c).lo (grown_to line t s m (invariant.fronts c).hi) (longest_end line t s)
          (now_with (zone_id line) s m) (report_time line (zone_id line) t s) (ledger_of line t (zone_made z number m e ∷ s)))
      behind_unused h =
          let ends = ends_grown line t x s (invariant.fronts c) (after.fronts controlled_still) none 0 m c acts refl h calm in
          numbers_are (invariant.fronts c).lo (grown_to line t s m (invariant.fronts c).hi) (report_time line (zone_id line) t s) ends.0 ends.1 (report_unused line (zone_id line) t x s none h)

  -- where nothing but the growth comes of it
  pub zone_still : ((c : controls (zone_id line) t s ≡ true) → longest_end line t (zone_made z number m e ∷ s) ≡ longest_end line t s)
      → account line t (zone_made z number m e ∷ s) ≡ account_taken line t (zone_made z number m e) s
      → grants_entry (zone_id line) t (zone_made z number m e) ≡ false → is_used line (zone_id line) t s (possible_front line (zone_id line) t s) m ≡ false → answers t (Some (0, m)) ≡ false
      → zone_train line t (zone_made z number m e ∷ s) ≡ mapped (grown_train (now_with (zone_id line) s m)) (zone_train line t s)
  zone_still end is none unused unanswered = by_test (controls (zone_id line) t s)
      (λ c.
      let len = seg_len line in
      let k = known_train (zone_id line) t s in
      let hi = grown_to line t s m (invariant.fronts c).hi in
      let calm : takes_by t (account line t s) m ≡ false = unanswered_takes t (account line t s) (Some (0, m)) unanswered in
      behind_unused c none calm (end c) unused
      ∙ (ap (λ (l : Ledger). Some (kept_train len t k (longest_route line t s) (invariant.fronts c).lo hi (longest_end line t s) (now_with (zone_id line) s m) (report_time line (zone_id line) t s) l))
      (ledger_behind line z number m e s zone t invariant c none is ∙ behind_grown line z number m e s zone t invariant c none unanswered unused calm)
      ∙ sym (grown_is line m s t one invariant c)))
      (λ n. no_train line t (x ∷ s) (controls_same (zone_id line) t x s none ∙ n) ∙ sym (ap (λ (y : Option Controlled). mapped (grown_train (now_with (zone_id line) s m)) y) (no_train line t s n)))

  -- and of the train nothing is issued
  pub zone_silent : NoAuth t e.issued → grants_entry (zone_id line) t (zone_made z number m e) ≡ false → is_used line (zone_id line) t s (possible_front line (zone_id line) t s) m ≡ false → answers t (Some (0, m)) ≡ false
      → zone_train line t (zone_made z number m e ∷ s) ≡ mapped (grown_train (now_with (zone_id line) s m)) (zone_train line t s)
  zone_silent a none unused unanswered =
      let calm = uncut (unanswered_takes t (account line t s) (Some (0, m)) unanswered) in
      zone_still (λ c. end_same line t x s a invariant after c (controlled_still c none) (zone_heads t z number m e s) calm) (account_quiet line t x s a) none unused unanswered

-- a used report
module _ (line : Line) (z number : ℕ) (u : TrainId) (time mark : ℕ) (offset : ℤ) (integrity : Bool) (e : Effect) (s : Story) (one : IsLineOfOneZone line) (zone : suc z ≡ zone_id line) (t : ℕ) (invariant : Invariant line t s)
    (after : Invariant line t (zone_made z number (msg.Report u time mark offset integrity) e ∷ s)) (c : controls (zone_id line) t s ≡ true) where
  abbrev r : Msg
  r = msg.Report u time mark offset integrity

  -- its fronts are narrowed, and the least of them is checked
  pub behind_used : (none : grants_entry (zone_id line) t (zone_made z number (msg.Report u time mark offset integrity) e) ≡ false) → NoAuth t e.issued
      → is_used line (zone_id line) t s (possible_front line (zone_id line) t s) (msg.Report u time mark offset integrity) ≡ true
      → zone_train line t (zone_made z number (msg.Report u time mark offset integrity) e ∷ s)
      ≡ Some (kept_train (seg_len line) t (known_train (zone_id line) t s) (longest_route line t s)
      (fronts_left line t s (msg.Report u time mark offset integrity) (invariant.fronts c).lo (invariant.fronts c).hi time mark offset integrity).lo
      (fronts_left line t s (msg.Report u time mark offset integrity) (invariant.fronts c).lo (invariant.fronts c).hi time mark offset integrity).hi (longest_end line t s)
      (now_with (zone_id line) s (msg.Report u time mark offset integrity)) (max (report_time line (zone_id line) t s) time)
      (checked (fronts_left line t s (msg.Report u time mark offset integrity) (invariant.fronts c).lo (invariant.fronts c).hi time mark offset integrity).lo (ledger_of line t s).pending (ledger_of line t s)))
  behind_used none a used =
      let y = zone_made z number r e in
      let len = seg_len line in
      let k = known_train (zone_id line) t s in
      let left = fronts_left line t s r (invariant.fronts c).lo (invariant.fronts c).hi time mark offset integrity in
      let here = acts line z number r e s one zone t invariant after in
      let d = controlled_still line z number r e s one zone t invariant after c none in
      let ends = ends_narrowed line t y s (invariant.fronts c) (after.fronts d) none 0 u time mark offset integrity c here refl used in
      let least = (fronts_kept line t s u time mark offset integrity (invariant.fronts c) used).numbers.least in
      let calm = uncut line z number r e s one zone t invariant after refl in
      numbers_are line z number r e s one zone t invariant after c none refl (end_same line t y s a invariant after c d (zone_heads t z number r e s) calm) left.lo left.hi (max (report_time line (zone_id line) t s) time) ends.0 ends.1
      (report_used line (zone_id line) t y s none here used)
      ∙ ap (λ (l : Ledger). Some (kept_train len t k (longest_route line t s) left.lo left.hi (longest_end line t s) (now_with (zone_id line) s r) (max (report_time line (zone_id line) t s) time) l))
      (ledger_behind line z number r e s zone t invariant c none (account_quiet line t y s a) ∙ behind_checked line z number r e s zone t invariant c none refl left.lo least)
