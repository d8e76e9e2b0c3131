-- What a transition issues of authorities of a train: none, a further one that ends no nearer than the longest, the last one again, or
-- a shrink; and what is known of those issued before.
use Rattle.std.proofs.Common.{◌≡◌, ℕ, ◌+◌, ◌≤◌, ◌<◌, [], ◌∷◌, Some, true, false, refl, ◌∙◌, ap, subst, arith}
use Rattle.std.proofs.lemmas.Bool.Decides.{nat_tests}
use Rattle.std.specs.Prelude.{nat_eq}
use Rattle.std.specs.List.{list_all}
use Rattle.list_laws.proofs.By_test.{by_test}
use Rattle.track_points.specs.declared.ids.DirSeg.{DirSeg}
use Rattle.track_points.specs.declared.ids.TrainId.{TrainId}
use Rattle.track_points.specs.Points.{steps_to}
use Rattle.definitions.specs.declared.message.Msg.{Msg}
use Rattle.definitions.specs.declared.message.Msg.TheVariants as msg
use Rattle.definitions.specs.Track.{Line, seg_len, begins_at_portal}
use Rattle.definitions.specs.Numbers.{first}
use Rattle.definitions.specs.Ways.{chained}
use Rattle.definitions.specs.Premises.{on_line}
use Rattle.definitions.specs.Story.{Transition, Story}
use Rattle.definitions.specs.World.{facts_of, long_of, first_entry, entered, head, goes_on, journey, Authority, route, authority_end, is_auth}
use Rattle.definitions.specs.Control.{grants_entry, controls, known_facts, last_issued}
use Rattle.definitions.specs.Account.{Account}
use Rattle.definitions.specs.Fold.{account}
use Rattle.definitions.specs.Longest.{counted, longest_end, is_pending, longest_route}
use Rattle.definitions.specs.Fronts.{possible_front, least_rear}
use Rattle.definitions.specs.Zones.{zone_id}
use Rattle.event_laws.proofs.Issued_all.{AllIssued, all_weaker}
use Rattle.event_laws.proofs.Account_next.{issued_is}
use Rattle.step_laws.proofs.Taken_counts.{answers}
use Rattle.step_laws.proofs.Account_goes.{some_weaker}
use Rattle.journey_laws.proofs.Invariant.{step_begin, end_read, IsPath, AuthorityIs, AuthTrue, SomeIs, FirstIs, Authorized}
use Rattle.journey_laws.proofs.One_route.{newest_end}
use Rattle.journey_laws.proofs.First_steps.{FirstSteps, end_same}
use Rattle.step_laws.proofs.Top_longest.{EndsBy, IsTop, top_moves}
use Rattle.event_laws.proofs.Last_quiet.{Numbered, none_issued}

-- the one authority of a train that a transition issues: it comes of a message that is no answer, at which the journey does not go on
pub record Sent (line : Line) (t : ℕ) (s : Story) (x : Transition) : Type 0 where
  pub train : TrainId
  pub number : ℕ
  pub authority : Authority
  pub issued : x.issued ≡ (0, msg.Auth train number authority.mark authority.path) ∷ []
  pub its : nat_eq train.0 t ≡ true
  pub still : goes_on t x.event ≡ false
  pub unanswered : answers t x.took ≡ false
  pub is : IsPath line t s authority

-- a further one that ends no nearer than the longest
pub record LongerAuth (line : Line) (t : ℕ) (s : Story) (x : Transition) : Type 0 where
  pub sent : Sent line t s x
  pub next : sent.number ≡ last_issued t s + 1
  pub idle : (account line t s).shrink ≡ 0
  pub longer : longest_end line t s ≤ authority_end (seg_len line) (journey line t s) sent.authority
  -- its route is of joined steps of the line, goes on from the longest, and has the journey
  pub onward : controls (zone_id line) t s ≡ true → steps_to (seg_len line) (route (journey line t s) sent.authority) (longest_end line t s) ≡ longest_route line t s
  pub chain : chained line (route (journey line t s) sent.authority) ≡ true
  pub of_line : list_all (on_line line) (route (journey line t s) sent.authority) ≡ true
  pub journey_on : journey line t s ≡ steps_to (seg_len line) (route (journey line t s) sent.authority) (head t s)
  -- it begins no farther than the way
  pub cut : controls (zone_id line) t s ≡ true → step_begin line t s sent.authority.mark + sent.authority.path.from ≤ least_rear line (zone_id line) t s
  pub begin : controls (zone_id line) t s ≡ false → step_begin line t s sent.authority.mark + sent.authority.path.from ≡ 0
  pub early : entered t s ≡ false → (sent.number ≡ 1) × FirstIs line t s sent.authority
  -- the train is controlled then, and entry is granted once
  pub granted : controls (zone_id line) t s ≡ true → grants_entry (zone_id line) t x ≡ false
  pub controlled : controls (zone_id line) t (x ∷ s) ≡ true
  pub facts : facts_of t s ≡ Some (known_facts (zone_id line) t (x ∷ s))
  pub step : DirSeg
  pub first : first_entry t s ≡ Some step
  pub portal : begins_at_portal line step ≡ true
  pub room : long_of t s ≤ seg_len line step.seg.0

-- the last one again, which ends where what is read of its number does
pub record AgainAuth (line : Line) (t : ℕ) (s : Story) (x : Transition) : Type 0 where
  pub sent : Sent line t s x
  pub known : sent.number ≡ last_issued t s
  pub control : controls (zone_id line) t s ≡ true
  pub refused : (y : ℕ) → grants_entry y t x ≡ false
  pub on : route (journey line t s) sent.authority ≡ steps_to (seg_len line) (longest_route line t s) (authority_end (seg_len line) (journey line t s) sent.authority)
  pub within : authority_end (seg_len line) (journey line t s) sent.authority ≤ longest_end line t s
  pub ends : authority_end (seg_len line) (journey line t s) sent.authority ≡ end_read line t s (last_issued t s)
  pub first : entered t s ≡ false → sent.number ≡ 1 → FirstIs line t s sent.authority

-- a shrink, whose end the least front has not passed
pub record ShorterAuth (line : Line) (t : ℕ) (s : Story) (x : Transition) : Type 0 where
  pub sent : Sent line t s x
  pub next : sent.number ≡ last_issued t s + 1
  pub idle : (account line t s).shrink ≡ 0
  pub control : controls (zone_id line) t s ≡ true
  pub refused : (y : ℕ) → grants_entry y t x ≡ false
  pub on : route (journey line t s) sent.authority ≡ steps_to (seg_len line) (longest_route line t s) (authority_end (seg_len line) (journey line t s) sent.authority)
  pub nearer : authority_end (seg_len line) (journey line t s) sent.authority < longest_end line t s
  pub cut : step_begin line t s sent.authority.mark + sent.authority.path.from ≤ least_rear line (zone_id line) t s
  pub ahead : first (possible_front line (zone_id line) t (x ∷ s)) (longest_end line t s + 1) ≤ authority_end (seg_len line) (journey line t s) sent.authority

-- What is known of the authorities that were issued.
module _ (line : Line) (t : ℕ) (s : Story) (k : Authorized line t s) where
  auth_numbered : (m : Msg) → AuthTrue line t s m → Numbered t m
  auth_numbered (msg.Auth u number mark path) h = λ y. (h y).positive
  auth_numbered _ h = tt

  pub never : controls (zone_id line) t s ≡ false → AllIssued (λ m. is_auth t m ≡ false) s
  never n = none_issued t s (all_weaker (AuthTrue line t s) (Numbered t) auth_numbered s k.auths) (k.unknown n)

  -- What is read of its numbers.

  pub reads_within : (n : ℕ) → counted line t s ≤ n → n ≤ (account line t s).issued → SomeIs (EndsBy (seg_len line) (journey line t s) (longest_end line t s)) ((account line t s).reads n)
  reads_within n b l =
      let e = issued_is line t s in
      some_weaker (AuthorityIs line t s) (EndsBy (seg_len line) (journey line t s) (longest_end line t s)) (λ a i. i.within) ((account line t s).reads n) (k.reads n b (omega (arith, l, e)))

  module _ (c : controls (zone_id line) t s ≡ true) where
    abbrev v : Account
    v = account line t s

    abbrev newest : Authority
    newest = (k.controlled c).newest

    newest_each : (n : ℕ) → counted line t s ≤ n → n ≤ (account line t s).issued → SomeIs (EndsBy (seg_len line) (journey line t s) (authority_end (seg_len line) (journey line t s) (k.controlled c).newest)) ((account line t s).reads n)
    newest_each n b l = subst (λ (end : ℕ). SomeIs (EndsBy (seg_len line) (journey line t s) end) (v.reads n)) (newest_end line t s k c) (reads_within n b l)

    pub newest_top : IsTop (seg_len line) (journey line t s) (account line t s) (k.controlled c).newest
    newest_top =
        let g = k.controlled c in
        let e = issued_is line t s in
        let most = counted_most in
        by_test (is_pending line t s)
        (λ y.
        let h = g.shrink y in
        let last = h.last in
        let one = h.one_below in
        let near = h.nearer in
        let end = newest_end line t s k c in
        record {
          top = h.top;
          top_is = h.top_is;
          counts = h.counted_top;
          most = most;
          each = newest_each;
          idle = λ z. absurd (grind (arith, nat_tests));
          pending = λ some. record {
            last = omega (arith, last, e);
            one_below = omega (arith, one, e);
            stood = h.stood;
            shorter = h.shorter;
            shorter_is = h.shorter_is;
            nearer = omega (arith, near, end);
          };
        })
        (λ n. record {
          top = v.issued;
          top_is = ap v.reads e ∙ g.top n;
          counts = most;
          most = most;
          each = newest_each;
          idle = λ z. refl;
          pending = λ some. absurd (grind (arith, nat_tests));
        })
      where
        counted_most : counted line t s ≤ (account line t s).issued
        counted_most = let m = k.counted_most in let e = issued_is line t s in omega (arith, m, e)

    -- on the journey one transition further too
    pub newest_top_on : (x : Transition) → FirstSteps line t x s → IsTop (seg_len line) (journey line t (x ∷ s)) (account line t s) (k.controlled c).newest
    newest_top_on x first =
        let e = issued_is line t s in
        top_moves (seg_len line) (journey line t s) v newest (journey line t (x ∷ s))
        (λ n b l. some_weaker (AuthorityIs line t s) (λ a. authority_end (seg_len line) (journey line t (x ∷ s)) a ≡ authority_end (seg_len line) (journey line t s) a)
        (λ a i. end_same line t x s first a i.mark) (v.reads n) (k.reads n b (omega (arith, l, e)))) newest_top
