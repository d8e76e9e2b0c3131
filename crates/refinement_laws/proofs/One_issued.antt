-- What a message leaves for which the zone issues one authority: of the other trains all, and the longest end of its own where
-- it ends no farther.
use Rattle.std.proofs.Common.{◌≡◌, ℕ, suc, ◌+◌, ◌<◌, ◌≤◌, max, List, [], ◌∷◌, Some, true, false, refl, sym, ◌∙◌, ap, subst, arith}
use Rattle.std.proofs.lemmas.Bool.Decides.{nat_tests}
use Rattle.std.proofs.lemmas.Bool.{eqb-true}
use Rattle.std.specs.Prelude.{nat_eq}
use Rattle.list_laws.proofs.By_test.{by_test}
use Rattle.track_points.specs.declared.ids.DirSeg.{DirSeg}
use Rattle.track_points.specs.declared.ids.TrainId.{TrainId}
use Rattle.definitions.specs.declared.message.Msg.{Msg}
use Rattle.definitions.specs.declared.message.Msg.TheVariants as msg
use Rattle.definitions.specs.Track.{Line, seg_len}
use Rattle.definitions.specs.Story.{Transition, Story, greatest_in, greatest_issued}
use Rattle.definitions.specs.World.{Authority, authority_end, auth_number, journey}
use Rattle.definitions.specs.Control.{grants_entry, controls, last_issued}
use Rattle.definitions.specs.Fold.{account}
use Rattle.definitions.specs.Longest.{counted, longest_end, is_pending, shrink_place}
use Rattle.definitions.specs.Fronts.{possible_front, is_used}
use Rattle.definitions.specs.Steps.{Effect}
use Rattle.definitions.specs.Zones.{zone_id}
use Rattle.authority_ledger.specs.declared.ledger.Ledger.{Ledger}
use Rattle.event_laws.proofs.Issued_all.{AllIn, AllIssued, AuthHas, NoAuth}
use Rattle.event_laws.proofs.Still_world.{journey_still, last_still}
use Rattle.journey_laws.proofs.Invariant.{end_read, AuthorityIs, AuthIs, AuthTrue, Invariant}
use Rattle.journey_laws.proofs.One_route.{last_end, shrink_before}
use Rattle.step_laws.proofs.Fronts_numbers.{takes_by}
use Rattle.step_laws.proofs.Account_goes.{counted_taken, counted_next}
use Rattle.step_laws.proofs.Route_goes_on.{end_goes_on, end_most}
use Rattle.step_laws.proofs.Taken_counts.{answers, cuts}
use Rattle.refinement_laws.proofs.Account_heard.{behind_grown}
use Rattle.refinement_laws.proofs.Zone_moves.{zone_made, zone_heads}

-- one authority of a train is issued, and nothing else
abbrev pub IsOne : TrainId → ℕ → Authority → List (ℕ × Msg) → Type 0
IsOne u n a issued = issued ≡ (0, msg.Auth u n a.mark a.path) ∷ []

module _ (u : TrainId) (n : ℕ) (a : Authority) (issued : List (ℕ × Msg)) (is : IsOne u n a issued) where
  pub one_silent : (t : ℕ) → nat_eq u.0 t ≡ false → NoAuth t issued
  unfolding AllIn
  one_silent t o = subst (λ (l : List (ℕ × Msg)). NoAuth t l) (sym is) (o, tt)

  pub one_few : (s : Story) → n ≤ last_issued u.0 s + 1 → (t : ℕ) → greatest_in (auth_number t) issued ≤ last_issued t s + 1
  unfolding greatest_in
  one_few s h t = subst (λ (l : List (ℕ × Msg)). greatest_in (auth_number t) l ≤ last_issued t s + 1) (sym is)
      (by_test (nat_eq u.0 t)
      (λ y. let same : u.0 ≡ t = eqb-true u.0 t y in let b = subst (λ (i : ℕ). n ≤ last_issued i s + 1) same h in rw y (omega (arith, b)))
      (λ o. rw o (omega arith)))

  one_has : (t : ℕ) (Q : Authority → Type 0) → Q a → AllIn (AuthHas Q t) issued
  unfolding AllIn
  one_has t Q q = subst (λ (l : List (ℕ × Msg)). AllIn (AuthHas Q t) l) (sym is) ((λ y. q), tt)

  one_true : (line : Line) (t : ℕ) (s : Story) → nat_eq u.0 t ≡ true → AllIn (AuthTrue line t s) issued → AuthIs line t s n a
  unfolding AllIn
  one_true line t s its all = (subst (λ (l : List (ℕ × Msg)). AllIn (AuthTrue line t s) l) is all).0 its

module _ (line : Line) (z number : ℕ) (m : Msg) (e : Effect) (s : Story) (u : TrainId) (n : ℕ) (a : Authority) (is : IsOne u n a e.issued) (after : Invariant line u.0 (zone_made z number m e ∷ s)) where
  -- what the invariant says of it
  pub one_is : AuthIs line u.0 (zone_made z number m e ∷ s) n a
  unfolding AllIssued
  one_is = one_true u n a e.issued is line u.0 (zone_made z number m e ∷ s) (let its : nat_eq u.0 u.0 ≡ true = grind (arith, nat_tests) in its) after.authorized.auths.0

  -- the longest ends where it did
  pub one_end : (invariant : Invariant line u.0 s) → controls (zone_id line) u.0 s ≡ true → controls (zone_id line) u.0 (zone_made z number m e ∷ s) ≡ true → cuts line u.0 (zone_made z number m e) s ≡ false
      → authority_end (seg_len line) (journey line u.0 s) a ≤ longest_end line u.0 s → longest_end line u.0 (zone_made z number m e ∷ s) ≡ longest_end line u.0 s
  one_end invariant c d calm within =
      let x = zone_made z number m e in
      let heads = zone_heads u.0 z number m e s in
      let same : authority_end (seg_len line) (journey line u.0 (x ∷ s)) a ≡ authority_end (seg_len line) (journey line u.0 s) a = ap (λ (xs : List DirSeg). authority_end (seg_len line) xs a) (journey_still line u.0 x s refl) in
      let least = end_goes_on line u.0 s x invariant.motion invariant.authorized after.authorized c d heads calm in
      let most = end_most line u.0 s x invariant.motion invariant.authorized after.authorized c d heads (longest_end line u.0 s) (omega arith)
      (one_has u n a e.issued is u.0 (λ b. authority_end (seg_len line) (journey line u.0 (x ∷ s)) b ≤ longest_end line u.0 s) (omega (arith, same, within))) in
      omega (arith, least, most)

-- A further number, for a message that is no answer and no used report.
module _ (line : Line) (z number : ℕ) (m : Msg) (e : Effect) (s : Story) (zone : suc z ≡ zone_id line) (u : TrainId) (a : Authority) (is : IsOne u (last_issued u.0 s + 1) a e.issued) (invariant : Invariant line u.0 s) (after : Invariant line u.0 (zone_made z number m e ∷ s)) where
  abbrev x : Transition
  x = zone_made z number m e

  pub one_last : last_issued u.0 (zone_made z number m e ∷ s) ≡ last_issued u.0 s + 1
  unfolding greatest_in greatest_issued
  one_last =
      let its : nat_eq u.0 u.0 ≡ true = grind (arith, nat_tests) in
      subst (λ (l : List (ℕ × Msg)). max (greatest_in (auth_number u.0) l) (last_issued u.0 s) ≡ last_issued u.0 s + 1) (sym is) (rw its (omega arith))

  -- it is counted no more than before, so the authority ends where its number does
  pub one_exact : authority_end (seg_len line) (journey line u.0 s) a ≡ end_read line u.0 (zone_made z number m e ∷ s) (last_issued u.0 s + 1)
  one_exact =
      let most = counted_next line u.0 x s invariant.authorized in
      let same : authority_end (seg_len line) (journey line u.0 (x ∷ s)) a ≡ authority_end (seg_len line) (journey line u.0 s) a = ap (λ (xs : List DirSeg). authority_end (seg_len line) xs a) (journey_still line u.0 x s refl) in
      sym same ∙ (one_is line z number m e s u (last_issued u.0 s + 1) a is after).exact (omega (arith, most))

  -- the train has not decided on it
  pub one_authority : AuthorityIs line u.0 (zone_made z number m e ∷ s) a
  one_authority =
      let last = last_still u.0 x s refl refl in
      let most = invariant.authorized.last_most in
      (one_is line z number m e s u (last_issued u.0 s + 1) a is after).ahead (omega (arith, last, most))

  pub one_counted : controls (zone_id line) u.0 s ≡ true → grants_entry (zone_id line) u.0 (zone_made z number m e) ≡ false → answers u.0 (Some (0, m)) ≡ false
      → is_used line (zone_id line) u.0 s (possible_front line (zone_id line) u.0 s) m ≡ false → takes_by u.0 (account line u.0 s) m ≡ false → counted line u.0 (zone_made z number m e ∷ s) ≡ counted line u.0 s
  one_counted c none unanswered unused calm =
      counted_taken line u.0 x s ∙ ap (λ (l : Ledger). l.answered) (behind_grown line z number m e s zone u.0 invariant c none unanswered unused calm)

  -- no shrink is unanswered where it ends as far as the longest does
  pub one_longer : controls (zone_id line) u.0 s ≡ true → (d : controls (zone_id line) u.0 (zone_made z number m e ∷ s) ≡ true) → longest_end line u.0 s ≤ authority_end (seg_len line) (journey line u.0 s) a
      → is_pending line u.0 (zone_made z number m e ∷ s) ≡ false
  one_longer c d far = by_test (is_pending line u.0 (x ∷ s))
      (λ y.
      let g = (after.authorized.controlled d).shrink y in
      let last = one_last in
      let exact = one_exact in
      let number_is : (account line u.0 (x ∷ s)).shrink ≡ last_issued u.0 s + 1 = g.last ∙ last in
      let read = ap (λ (n : ℕ). end_read line u.0 (x ∷ s) n) number_is in
      let near = shrink_before line u.0 (x ∷ s) after.authorized d y in
      let same : authority_end (seg_len line) (journey line u.0 (x ∷ s)) a ≡ authority_end (seg_len line) (journey line u.0 s) a = ap (λ (xs : List DirSeg). authority_end (seg_len line) xs a) (journey_still line u.0 x s refl) in
      let most = end_most line u.0 s x invariant.motion invariant.authorized after.authorized c d (zone_heads u.0 z number m e s) (authority_end (seg_len line) (journey line u.0 s) a) far
      (one_has u (last_issued u.0 s + 1) a e.issued is u.0 (λ b. authority_end (seg_len line) (journey line u.0 (x ∷ s)) b ≤ authority_end (seg_len line) (journey line u.0 s) a) (omega (arith, same))) in
      absurd (omega (arith, exact, read, near, most)))
      (λ n. n)

  -- it is a shrink where it ends before
  pub one_shorter : (d : controls (zone_id line) u.0 (zone_made z number m e ∷ s) ≡ true) → longest_end line u.0 (zone_made z number m e ∷ s) ≡ longest_end line u.0 s → authority_end (seg_len line) (journey line u.0 s) a < longest_end line u.0 s
      → ((account line u.0 (zone_made z number m e ∷ s)).shrink ≡ last_issued u.0 s + 1) × (shrink_place line u.0 (zone_made z number m e ∷ s) ≡ authority_end (seg_len line) (journey line u.0 s) a)
  one_shorter d end near =
      let last = one_last in
      let exact = one_exact in
      by_test (is_pending line u.0 (x ∷ s))
      (λ y.
      let number_is : (account line u.0 (x ∷ s)).shrink ≡ last_issued u.0 s + 1 = ((after.authorized.controlled d).shrink y).last ∙ last in
      (number_is, ap (λ (n : ℕ). end_read line u.0 (x ∷ s) n) number_is ∙ sym exact))
      (λ n.
      let reads = last_end line u.0 (x ∷ s) after.authorized d n in
      let read = ap (λ (k : ℕ). end_read line u.0 (x ∷ s) k) last in
      absurd (omega (arith, exact, reads, read, end, near)))
