-- A transition that issues no further number, and at which no shrink counts as taken: it issues no authority of the train, or the last
-- one again. The longest authority stays, and so does a shrink that stays unanswered.
use Rattle.std.proofs.Common.{◌≡◌, ℕ, ◌+◌, ◌≤◌, ◌<◌, List, ◌∷◌, take, Option, Some, true, false, ◌&&◌, sym, ◌∙◌, ap, subst, arith}
use Rattle.std.proofs.lemmas.Bool.Decides.{nat_tests}
use Rattle.std.proofs.lemmas.Option.{same_Some}
use Rattle.std.proofs.Math.Bool.{and-false}
use Rattle.std.specs.Prelude.{nat_eq}
use Rattle.track_points.specs.Points.{Lengths, total}
use Rattle.definitions.specs.declared.message.Msg.{Msg}
use Rattle.definitions.specs.Track.{Line, seg_len}
use Rattle.definitions.specs.Story.{Transition, Story}
use Rattle.definitions.specs.World.{journey, Authority, is_auth, authority_end}
use Rattle.definitions.specs.Control.{grants_entry, controls, last_issued}
use Rattle.definitions.specs.Farther.{end_or_0}
use Rattle.definitions.specs.Account.{Account, least_of, shrink_end}
use Rattle.definitions.specs.Fold.{account}
use Rattle.definitions.specs.Longest.{longest_end, is_pending, shrink_place}
use Rattle.definitions.specs.Fronts.{least_rear}
use Rattle.definitions.specs.Zones.{zone_id}
use Rattle.event_laws.proofs.Issued_all.{AllIn, AuthHas, NoAuth, in_all_weaker, auth_without}
use Rattle.event_laws.proofs.Account_next.{issued_is}
use Rattle.event_laws.proofs.Last_quiet.{last_grows}
use Rattle.event_laws.proofs.Still_world.{journey_still}
use Rattle.journey_laws.proofs.Invariant.{end_read, AuthorityIs, AuthIs, Authorized}
use Rattle.journey_laws.proofs.First_steps.{FirstSteps, begin_same, end_same}
use Rattle.step_laws.proofs.Taken_counts.{Calm, Counts, counting, refusing, cuts, unanswered_takes}
use Rattle.step_laws.proofs.Acts_count.{acts_check}
use Rattle.step_laws.proofs.Account_goes.{account_taken, account_again, taken_calm, read_stays}
use Rattle.step_laws.proofs.Authority_stays.{off_before, path_stays, first_is_stays, Going}
use Rattle.step_laws.proofs.Top_longest.{IsTop, top_calm}
use Rattle.step_laws.proofs.New_auth.{Sent, AgainAuth, newest_top_on}
use Rattle.step_laws.proofs.Longest_stays.{ShrinkStays, old_still}

-- what the zone took is all that changes its numbers
module _ (line : Line) (t : ℕ) (s : Story) (x : Transition) (k : Authorized line t s) (c : controls (zone_id line) t s ≡ true) (first_steps : FirstSteps line t x s)
    (same : account line t (x ∷ s) ≡ account_taken line t x s) (uncut : cuts line t x s ≡ false) where
  abbrev len : Lengths
  len = seg_len line

  abbrev v : Account
  v = account line t s

  abbrev w : Account
  w = account_taken line t x s

  pub top_taken : IsTop (seg_len line) (journey line t (x ∷ s)) (account line t (x ∷ s)) (k.controlled c).newest
  top_taken = subst (λ (u : Account). IsTop (seg_len line) (journey line t (x ∷ s)) u (k.controlled c).newest) (sym same)
      (top_calm len (journey line t (x ∷ s)) v (k.controlled c).newest w (taken_calm line t x s k uncut) (newest_top_on line t s k c x first_steps))

  -- a shrink stays unanswered
  module _ (refused : (y : ℕ) → grants_entry y t x ≡ false) (rears : least_rear line (zone_id line) t s ≤ least_rear line (zone_id line) t (x ∷ s)) where
    counting_stays : Counts (account line t s) (account_taken line t x s) → is_pending line t (x ∷ s) ≡ true → ShrinkStays line t s x
    counting_stays a y =
        let shrink = a.shrink in
        let next = ap (λ (u : Account). u.shrink) same in
        let some : 0 < w.shrink = let p : 0 < (account line t (x ∷ s)).shrink = grind (arith, nat_tests) in omega (arith, p, next) in
        let pending : is_pending line t s ≡ true = let p : 0 < v.shrink = omega (arith, some, shrink) in grind (arith, nat_tests) in
        let g = (k.controlled c).shrink pending in
        let one = g.one_below in
        let positive = g.positive in
        let last = last_grows t x s in
        let is : (account line t (x ∷ s)).reads (account line t (x ∷ s)).shrink ≡ Some g.shorter =
        ap (account line t (x ∷ s)).reads (next ∙ shrink) ∙ ap (λ (u : Account). u.reads v.shrink) same ∙ ap (λ (r : ℕ → Option Authority). r v.shrink) a.reads ∙ g.shorter_is in
        let check = acts_check len t x s (journey line t s) v (zone_id line) (refused x.actor) (λ h. k.zone_alone x.actor h) (λ h. g.unpassed) some in
        let fronts = ap (λ (u : Account). least_of (longest_end line t s) (u.fronts (zone_id line))) same in
        let was : w.reads w.shrink ≡ Some g.shorter = ap w.reads shrink ∙ ap (λ (r : ℕ → Option Authority). r v.shrink) a.reads ∙ g.shorter_is in
        let place : shrink_end len (journey line t s) w ≡ authority_end len (journey line t s) g.shorter = ap (end_or_0 len (journey line t s)) was in
        let place2 : shrink_place line t (x ∷ s) ≡ authority_end len (journey line t (x ∷ s)) g.shorter = ap (end_or_0 len (journey line t (x ∷ s))) is in
        let ends = end_same line t x s first_steps g.shorter g.authority.mark in
        record {
          second = omega (arith, one, positive, last);
          cut = λ b read.
              let e : b ≡ g.shorter = same_Some b g.shorter (sym read ∙ is) in
              let i = begin_same line t x s first_steps g.shorter.mark g.authority.mark in
              let cut = g.cut in
              subst (λ (a : Authority). total len (take a.mark (journey line t (x ∷ s))) + a.path.from ≤ least_rear line (zone_id line) t (x ∷ s)) (sym e) (omega (arith, i, cut, rears));
          unpassed = omega (arith, check, fronts, place, place2, ends);
        }

    by_calm : Calm (account line t s) (account_taken line t x s) → is_pending line t (x ∷ s) ≡ true → ShrinkStays line t s x
    by_calm (counting a) y = counting_stays a y
    by_calm (refusing r) y =
        let z = r.shrink in
        let next = ap (λ (u : Account). u.shrink) same in
        absurd (let p : 0 < (account line t (x ∷ s)).shrink = grind (arith, nat_tests) in omega (arith, p, next, z))

    pub shrink_taken : is_pending line t (x ∷ s) ≡ true → ShrinkStays line t s x
    shrink_taken = by_calm (taken_calm line t x s k uncut)

-- no authority of the train
pub quiet_issues : (line : Line) (t : ℕ) (s : Story) (x : Transition) → NoAuth t x.issued → AllIn (AuthHas (AuthorityIs line t (x ∷ s)) t) x.issued
quiet_issues line t s x quiet = in_all_weaker (λ m. is_auth t m ≡ false) (AuthHas (AuthorityIs line t (x ∷ s)) t) (auth_without (AuthorityIs line t (x ∷ s)) t) x.issued quiet

-- the first steps of the journey stay where it does
pub sent_first : (line : Line) (t : ℕ) (s : Story) (x : Transition) → Sent line t s x → FirstSteps line t x s
sent_first line t s x n i h = ap (take i) (journey_still line t x s n.still)

-- an authority that is sent, of which something holds
pub sent_has : (Q : Authority → Type 0) (line : Line) (t : ℕ) (s : Story) (x : Transition) (n : Sent line t s x) → Q n.authority → AllIn (AuthHas Q t) x.issued
unfolding AllIn
sent_has Q line t s x n q = subst (λ (l : List (ℕ × Msg)). AllIn (AuthHas Q t) l) (sym n.issued) ((λ y. q), tt)

-- it comes of no answer
pub sent_calm : (line : Line) (t : ℕ) (s : Story) (x : Transition) → Sent line t s x → cuts line t x s ≡ false
sent_calm line t s x n = ap (λ b. nat_eq x.actor (zone_id line) && b) (unanswered_takes t (account line t s) x.took n.unanswered) ∙ and-false (nat_eq x.actor (zone_id line))

-- the last one again
module _ (line : Line) (t : ℕ) (s : Story) (x : Transition) (k : Authorized line t s) (going : Going line t s x) (n : AgainAuth line t s x) where
  abbrev first_again : FirstSteps line t x s
  first_again = sent_first line t s x n.sent

  pub account_same : account line t (x ∷ s) ≡ account_taken line t x s
  account_same =
      let e = issued_is line t s in
      let known = n.known in
      account_again line t x s n.sent.train n.sent.number n.sent.authority n.sent.issued n.sent.its (omega (arith, e, known))

  pub top_again : IsTop (seg_len line) (journey line t (x ∷ s)) (account line t (x ∷ s)) (k.controlled n.control).newest
  top_again = top_taken line t s x k n.control first_again account_same (sent_calm line t s x n.sent)

  authority_was : AuthorityIs line t s n.sent.authority
  authority_was =
      let p = n.sent.is in
      record { declared = p.declared; fits = p.fits; above = p.above; own = p.own; behind = p.behind; mark = p.mark; on = n.on; within = n.within }

  pub authority_again : AuthorityIs line t (x ∷ s) n.sent.authority
  authority_again = old_still line t s x k going n.control first_again top_again n.sent.authority authority_was

  pub again_is : 1 ≤ last_issued t s → AuthIs line t (x ∷ s) n.sent.number n.sent.authority
  again_is some =
      let known = n.known in
      let last = last_grows t x s in
      record {
        path = path_stays line t x s first_again n.sent.authority (going.moved n.sent.is.declared) n.sent.is;
        ahead = λ h. authority_again;
        exact = λ h.
            end_same line t x s first_again n.sent.authority n.sent.is.mark ∙ n.ends ∙ ap (end_read line t s) (sym known)
            ∙ sym (read_stays line t x s k first_again n.sent.number (omega (arith, known)) h);
        positive = omega (arith, known, some);
        known = omega (arith, known, last);
        first = λ off one. first_is_stays line t x s n.sent.authority n.sent.is.declared (n.first (off_before t x s off) one);
      }
