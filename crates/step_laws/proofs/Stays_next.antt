-- Transitions at which the longest authority of a controlled train stays: nothing of it is issued, or the last authority again, or a
-- shrink. And what stays of one that is not controlled.
use Rattle.std.proofs.Common.{◌≡◌, ℕ, ◌≤◌, ◌∷◌, Option, None, true, false, sym, ◌∙◌, ap, subst, arith}
use Rattle.definitions.specs.Track.{Line, seg_len}
use Rattle.definitions.specs.Story.{Transition, Story}
use Rattle.definitions.specs.World.{journey, Authority}
use Rattle.definitions.specs.Control.{controls, last_issued}
use Rattle.definitions.specs.Account.{Account}
use Rattle.definitions.specs.Fold.{account}
use Rattle.definitions.specs.Longest.{counted, is_pending}
use Rattle.definitions.specs.Fronts.{least_rear}
use Rattle.definitions.specs.Zones.{zone_id}
use Rattle.event_laws.proofs.Issued_all.{AllIn, NoAuth, AuthHas}
use Rattle.event_laws.proofs.Grant_takes.{quiet_grants}
use Rattle.journey_laws.proofs.Invariant.{AuthorityIs, SomeIs, Authorized}
use Rattle.journey_laws.proofs.First_steps.{FirstSteps, controlled_first}
use Rattle.step_laws.proofs.Taken_counts.{Calm, counting, refusing, cuts}
use Rattle.step_laws.proofs.Account_goes.{account_quiet, taken_calm}
use Rattle.step_laws.proofs.Authority_stays.{Going}
use Rattle.step_laws.proofs.Top_longest.{IsTop}
use Rattle.step_laws.proofs.New_auth.{AgainAuth, ShorterAuth}
use Rattle.step_laws.proofs.Longest_stays.{ShrinkStays, end_still, onward_still, reads_still}
use Rattle.step_laws.proofs.Last_stays.{top_taken, shrink_taken, quiet_issues, sent_first, sent_has, sent_calm, account_same, top_again, authority_again}
use Rattle.step_laws.proofs.Shorter_new.{idle_stays, top_still, authority_shorter, shrink_new}
use Rattle.step_laws.proofs.Auths_stay.{AuthsStay}

-- what is known of such a transition
pub record Stays (line : Line) (t : ℕ) (s : Story) (x : Transition) (k : Authorized line t s) : Type 0 where
  pub control : controls (zone_id line) t s ≡ true
  pub first : FirstSteps line t x s
  pub top : IsTop (seg_len line) (journey line t (x ∷ s)) (account line t (x ∷ s)) (k.controlled control).newest
  pub issued : AllIn (AuthHas (AuthorityIs line t (x ∷ s)) t) x.issued
  pub shrunk : least_rear line (zone_id line) t s ≤ least_rear line (zone_id line) t (x ∷ s) → is_pending line t (x ∷ s) ≡ true → ShrinkStays line t s x

module _ (line : Line) (t : ℕ) (s : Story) (x : Transition) (k : Authorized line t s) (going : Going line t s x) where
  pub quiet_stays : controls (zone_id line) t s ≡ true → NoAuth t x.issued → cuts line t x s ≡ false → Stays line t s x k
  quiet_stays c quiet_ uncut =
      let first = controlled_first line t s k c going.motion x going.heads in
      let same = account_quiet line t x s quiet_ in
      record {
        control = c;
        first = first;
        top = top_taken line t s x k c first same uncut;
        issued = quiet_issues line t s x quiet_;
        shrunk = shrink_taken line t s x k c first same uncut (λ y. quiet_grants y t x quiet_);
      }

  pub again_stays : AgainAuth line t s x → Stays line t s x k
  again_stays n = record {
    control = n.control;
    first = sent_first line t s x n.sent;
    top = top_again line t s x k going n;
    issued = sent_has (AuthorityIs line t (x ∷ s)) line t s x n.sent (authority_again line t s x k going n);
    shrunk = shrink_taken line t s x k n.control (sent_first line t s x n.sent) (account_same line t s x k going n) (sent_calm line t s x n.sent) n.refused;
  }

  pub shorter_stays : ShorterAuth line t s x → Stays line t s x k
  shorter_stays n = record {
    control = n.control;
    first = sent_first line t s x n.sent;
    top = top_still line t s x k going n;
    issued = sent_has (AuthorityIs line t (x ∷ s)) line t s x n.sent (authority_shorter line t s x k going n);
    shrunk = λ rears y. shrink_new line t s x k going n rears;
  }

  pub stays_auths : Stays line t s x k → AuthsStay line t s x
  stays_auths a = record {
    moved = going.moved;
    first = a.first;
    ends = let e = end_still line t s x k going a.control a.first a.top in omega (arith, e);
    onward = onward_still line t s x k going a.control a.first a.top;
  }

  pub stays_reads : Stays line t s x k → (i : ℕ) → counted line t (x ∷ s) ≤ i → i ≤ last_issued t (x ∷ s) → SomeIs (AuthorityIs line t (x ∷ s)) ((account line t (x ∷ s)).reads i)
  stays_reads a = reads_still line t s x k going a.control a.first a.top a.issued

-- no authority of a train that is not controlled changes nothing of what is read
module _ (line : Line) (t : ℕ) (s : Story) (x : Transition) (k : Authorized line t s) (free : controls (zone_id line) t s ≡ false) (none : NoAuth t x.issued) (uncut : cuts line t x s ≡ false) where
  free_taken : Calm (account line t s) (account line t (x ∷ s))
  free_taken = subst (λ (w : Account). Calm (account line t s) w) (sym (account_quiet line t x s none)) (taken_calm line t x s k uncut)

  pub free_idle : (account line t (x ∷ s)).shrink ≡ 0
  free_idle = idle_stays (account line t s) (account line t (x ∷ s)) (k.unshrunk free) free_taken

  pub free_unread : (i : ℕ) → (account line t (x ∷ s)).reads i ≡ None
  free_unread i = by_calm free_taken
    where
      by_calm : Calm (account line t s) (account line t (x ∷ s)) → (account line t (x ∷ s)).reads i ≡ None
      by_calm (counting a) = ap (λ (r : ℕ → Option Authority). r i) a.reads ∙ k.unread free i
      by_calm (refusing r) = let some = r.some in let z = k.unshrunk free in absurd (omega (arith, some, z))
