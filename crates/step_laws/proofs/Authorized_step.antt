-- Authorized is kept by every event.
use Rattle.std.proofs.Common.{◌≡◌, ℕ, ◌≤◌, [], ◌∷◌, true, false, refl, subst, sym, arith}
use Rattle.definitions.specs.declared.event.Event.{Event}
use Rattle.definitions.specs.Track.{Line}
use Rattle.definitions.specs.Story.{Transition, Story, ever, first_told, greatest_issued}
use Rattle.definitions.specs.World.{entered, last_number}
use Rattle.definitions.specs.Control.{controls, last_issued}
use Rattle.definitions.specs.Fold.{account}
use Rattle.definitions.specs.Longest.{counted, longest_end, shrink_place}
use Rattle.definitions.specs.Steps.{effects}
use Rattle.definitions.specs.Safe.{IsLineOfOneZone}
use Rattle.definitions.specs.Zones.{zone_id}
use Rattle.journey_laws.proofs.Motion.{place, Timed}
use Rattle.event_laws.proofs.Issued_all.{AllIssued}
use Rattle.event_laws.proofs.Admitted.{Admitted}
use Rattle.event_laws.proofs.By_does.{effect_event}
use Rattle.journey_laws.proofs.Head_step.{enter_once}
use Rattle.journey_laws.proofs.Invariant.{RequestTrue, Authorized, Invariant}
use Rattle.event_laws.proofs.Last_quiet.{last_grows}
use Rattle.step_laws.proofs.Taken_counts.{cuts}
use Rattle.step_laws.proofs.Account_goes.{counted_next}
use Rattle.step_laws.proofs.Authority_stays.{Going}
use Rattle.step_laws.proofs.Shrink_taken.{end_place}
use Rattle.step_laws.proofs.Limit_goes.{going}
use Rattle.step_laws.proofs.Requests_stay.{number_grows, requests_stay, effect_requests}
use Rattle.step_laws.proofs.Issues.{Issues}
use Rattle.step_laws.proofs.Effect_issues.{effect_issues}
use Rattle.step_laws.proofs.Effect_took_is.{TookIs, effect_took_is, effect_cut}
use Rattle.step_laws.proofs.Uncounted.{uncounted_next}
use Rattle.step_laws.proofs.Controlled_next.{long_next, alone_next, unknown_next, unshrunk_next, unread_next, reads_next, stay_next, place_cut, controlled_next, auths_next, entry_next, came_next, limit_after, last_next}

pub authorized_start : (line : Line) (t : ℕ) → Authorized line t []
unfolding first_told ever controls greatest_issued account last_number AllIssued
authorized_start line t = record {
  long_some = λ h. absurd cc;
  counted_most = omega arith;
  last_most = omega arith;
  uncounted = λ h. refl;
  reads = λ n b l. tt;
  zone_alone = λ y h. absurd cc;
  unknown = λ h. refl;
  unread = λ h n. refl;
  unshrunk = λ h. refl;
  controlled = λ h. absurd cc;
  auths = tt;
  requests = tt;
  entry = λ h e. absurd cc;
  came_on = λ h. absurd cc;
  limit = λ h. absurd cc;
}

module _ (line : Line) (s : Story) (e : Event) (one : IsLineOfOneZone line) (a : Admitted line s e) (timed : Timed s) (invariant : (t : ℕ) → Invariant line t s) (t : ℕ) where
  abbrev x : Transition
  x = effects line s e

  abbrev k : Authorized line t s
  k = (invariant t).authorized

  acts : Admitted line s (effects line s e).event
  acts = subst (λ (y : Event). Admitted line s y) (sym (effect_event line s e)) a

  issue : Issues line t s (effects line s e)
  issue = effect_issues line s one invariant t e a

  took : TookIs line t s (effects line s e)
  took = effect_took_is line s one t k e a

  goes : Going line t s (effects line s e)
  goes = going line t s e a (invariant t).motion k

  numbers : last_number t s ≤ last_number t (effects line s e ∷ s)
  numbers = number_grows t x s (λ y. enter_once t s x.event acts.entering y)

  requests_next : AllIssued (RequestTrue line t (effects line s e ∷ s)) (effects line s e ∷ s)
  unfolding AllIssued
  requests_next = (effect_requests line t s e a, requests_stay line t x s (λ y. enter_once t s x.event acts.entering y) k.requests)

  uncounted : entered t (effects line s e ∷ s) ≡ false → counted line t (effects line s e ∷ s) ≡ 0
  uncounted = uncounted_next line s e t (invariant t) took.answer

  pub authorized_next : Authorized line t (effects line s e ∷ s)
  authorized_next = record {
    long_some = long_next line t s x acts.form k.long_some;
    counted_most = counted_grows;
    last_most = last_next line t s x one.valid k (invariant t).fronts goes acts took.world;
    uncounted = uncounted;
    reads = reads_next line t s x one.valid k (invariant t).fronts goes issue;
    zone_alone = alone_next line t s x k took.zone;
    unknown = unknown_next line t s x one.valid k (invariant t).fronts goes issue;
    unread = unread_next line t s x one.valid k (invariant t).fronts goes issue;
    unshrunk = unshrunk_next line t s x one.valid k (invariant t).fronts goes issue;
    controlled = controlled_next line t s x one.valid k (invariant t).fronts goes uncounted issue;
    auths = auths_next line t s x one.valid k (invariant t).fronts goes numbers issue;
    requests = requests_next;
    entry = entry_next line t s x one.valid k (invariant t).fronts goes issue took.world;
    came_on = came_next line t s x one.valid k (invariant t).fronts goes acts;
    limit = limit_after line t s x one.valid k (invariant t).fronts goes acts issue took;
  }
    where
      counted_grows : counted line t (effects line s e ∷ s) ≤ last_issued t (effects line s e ∷ s)
      counted_grows = let c = counted_next line t x s k in let g = last_grows t x s in omega (arith, c, g)

  -- where no shrink counts as taken the longest end does not come nearer
  pub end_grows : controls (zone_id line) t s ≡ true → cuts line t (effects line s e) s ≡ false → longest_end line t s ≤ longest_end line t (effects line s e ∷ s)
  end_grows c uncut = (stay_next line t s x one.valid k (invariant t).fronts goes c issue uncut).ends

  -- and where one does the train is not beyond its end, which is the longest
  pub end_cut : controls (zone_id line) t s ≡ true → cuts line t (effects line s e) s ≡ true
      → (place t s ≤ shrink_place line t s) × (shrink_place line t s ≤ longest_end line t (effects line s e ∷ s))
  end_cut c y =
      let now_ = effect_cut line s t k e a c y in
      let end = end_place line t s x k goes c now_ in
      (place_cut line t s x one.valid k (invariant t).fronts goes c now_, omega (arith, end))

pub authorized_step : (line : Line) (s : Story) (e : Event) → IsLineOfOneZone line → Admitted line s e → Timed s → ((t : ℕ) → Invariant line t s) → (t : ℕ) → Authorized line t (effects line s e ∷ s)
authorized_step line s e one a timed invariant t = authorized_next line s e one a timed invariant t
