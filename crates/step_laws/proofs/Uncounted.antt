-- Before a train comes on nothing of its numbers is counted: no answer of it is there, and the least front, which stays at its length,
-- passes no shrink.
use Rattle.std.proofs.Common.{◌≡◌, ℕ, ◌<◌, ◌≤◌, ◌∷◌, Some, true, false, refl, sym, ◌∙◌, ap, subst, arith}
use Rattle.std.proofs.lemmas.Bool.Decides.{nat_tests}
use Rattle.std.proofs.lemmas.Bool.{and_parts}
use Rattle.std.specs.Prelude.{nat_eq}
use Rattle.list_laws.proofs.By_test.{by_test}
use Rattle.definitions.specs.declared.event.Event.{Event}
use Rattle.definitions.specs.declared.message.Msg.{Msg}
use Rattle.definitions.specs.declared.message.Msg.TheVariants as msg
use Rattle.definitions.specs.Track.{Line, seg_len}
use Rattle.definitions.specs.Story.{Transition, Story}
use Rattle.definitions.specs.World.{entered, journey}
use Rattle.definitions.specs.Control.{controls}
use Rattle.definitions.specs.Account.{Account, end_of, shrink_end, least_of}
use Rattle.definitions.specs.Fold.{account, fronts_heard}
use Rattle.definitions.specs.Longest.{counted, is_pending}
use Rattle.definitions.specs.Fronts.{possible_front, is_used}
use Rattle.definitions.specs.Steps.{effects}
use Rattle.definitions.specs.Zones.{zone_id}
use Rattle.event_laws.proofs.By_does.{took_issued}
use Rattle.journey_laws.proofs.Invariant.{ReportTrue, Invariant}
use Rattle.step_laws.proofs.Fronts_numbers.{takes_by, fronts_numbers, fronts_unused}
use Rattle.step_laws.proofs.Taken_counts.{answers, unanswered_takes}
use Rattle.step_laws.proofs.Acts_count.{acts_unanswered}
use Rattle.step_laws.proofs.Account_goes.{counted_taken}
use Rattle.step_laws.proofs.Authority_stays.{off_before}
use Rattle.step_laws.proofs.Effect_took_is.{AnswersOn}

module _ (line : Line) (s : Story) (e : Event) (t : ℕ) (invariant : Invariant line t s) (off : entered t s ≡ false) where
  abbrev x : Transition
  x = effects line s e

  abbrev v : Account
  v = account line t s

  -- no report of it is used
  unused : (from : ℕ) (m : Msg) → (effects line s e).took ≡ Some (from, m) → is_used line (zone_id line) t s (possible_front line (zone_id line) t s) m ≡ false
  unused from (msg.Report u time mark offset integrity) took = by_test (is_used line (zone_id line) t s (possible_front line (zone_id line) t s) (msg.Report u time mark offset integrity))
      (λ y.
      let r = took_issued (ReportTrue line t s) line s invariant.reports e from (msg.Report u time mark offset integrity) took (and_parts (nat_eq u.0 t) _ y).0 in
      absurd (let c : true ≡ false = sym r.on ∙ off in cc))
      (λ n. n)
  unused from _ took = refl

  -- the least front passes no shrink
  unpassed_here : (from : ℕ) (m : Msg) → (effects line s e).took ≡ Some (from, m) → takes_by t (account line t s) m ≡ false → controls (zone_id line) t s ≡ true → 0 < (account line t s).shrink
      → least_of (end_of (seg_len line) (journey line t s) (account line t s)) (fronts_heard (seg_len line) (zone_id line) t s (journey line t s) (account line t s) ((account line t s).fronts (zone_id line)) m)
      ≤ shrink_end (seg_len line) (journey line t s) (account line t s)
  unpassed_here from m took none c some =
      let f = invariant.fronts c in
      let now_ = (fronts_unused line t s m f (unused from m took) none).least in
      let was = (fronts_numbers line t s f).least in
      let pending : is_pending line t s ≡ true = grind (arith, nat_tests) in
      let h = ((invariant.authorized.controlled c).shrink pending).unpassed in
      omega (arith, now_, was, h)

  unpassed : answers t (effects line s e).took ≡ false → (m : Msg) → controls (effects line s e).actor t s ≡ true → (from : ℕ) → (effects line s e).took ≡ Some (from, m) → 0 < (account line t s).shrink
      → least_of (end_of (seg_len line) (journey line t s) (account line t s)) (fronts_heard (seg_len line) (effects line s e).actor t s (journey line t s) (account line t s) ((account line t s).fronts (effects line s e).actor) m)
      ≤ shrink_end (seg_len line) (journey line t s) (account line t s)
  unpassed none m c from took some =
      let zone = invariant.authorized.zone_alone x.actor c in
      subst (λ (z : ℕ). least_of (end_of (seg_len line) (journey line t s) v) (fronts_heard (seg_len line) z t s (journey line t s) v (v.fronts z) m) ≤ shrink_end (seg_len line) (journey line t s) v) (sym zone)
      (unpassed_here from m took (unanswered_takes t v (Some (from, m)) (sym (ap (answers t) took) ∙ none)) (subst (λ (z : ℕ). controls z t s ≡ true) zone c) some)

  off_counted : answers t (effects line s e).took ≡ false → counted line t (effects line s e ∷ s) ≡ 0
  off_counted none = counted_taken line t x s ∙ acts_unanswered (seg_len line) t x s (journey line t s) v none (unpassed none) ∙ invariant.authorized.uncounted off

pub uncounted_next : (line : Line) (s : Story) (e : Event) (t : ℕ) → Invariant line t s → AnswersOn t s (effects line s e).took → entered t (effects line s e ∷ s) ≡ false → counted line t (effects line s e ∷ s) ≡ 0
uncounted_next line s e t invariant answer off =
    let before = off_before t (effects line s e) s off in
    off_counted line s e t invariant before (answer before)
