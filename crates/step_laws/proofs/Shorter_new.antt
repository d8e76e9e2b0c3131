-- A transition that issues a shrink: the longest authority stays the longest until that is answered.
use Rattle.std.proofs.Common.{◌≡◌, ℕ, ◌+◌, ◌≤◌, ◌<◌, List, [], ◌∷◌, take, Some, true, refl, sym, ◌∙◌, ap, subst, arith}
use Rattle.std.proofs.lemmas.Bool.Decides.{nat_tests}
use Rattle.std.proofs.lemmas.Option.{same_Some}
use Rattle.std.specs.Prelude.{nat_eq}
use Rattle.track_points.specs.declared.ids.DirSeg.{DirSeg}
use Rattle.track_points.specs.Points.{Lengths, total}
use Rattle.definitions.specs.declared.message.Msg.{Msg}
use Rattle.definitions.specs.declared.message.Msg.TheVariants as msg
use Rattle.definitions.specs.Track.{Line, seg_len}
use Rattle.definitions.specs.Story.{Transition, Story, greatest_in, greatest_issued}
use Rattle.definitions.specs.World.{journey, Authority, authority_end, auth_number}
use Rattle.definitions.specs.Control.{last_issued}
use Rattle.definitions.specs.Farther.{end_or_0}
use Rattle.definitions.specs.Account.{Account, longest_of, end_of, with_at}
use Rattle.definitions.specs.Fold.{account}
use Rattle.definitions.specs.Longest.{longest_end, shrink_place}
use Rattle.definitions.specs.Fronts.{least_rear}
use Rattle.definitions.specs.Zones.{zone_id}
use Rattle.event_laws.proofs.Account_next.{issued_is}
use Rattle.event_laws.proofs.Still_world.{journey_still}
use Rattle.journey_laws.proofs.Invariant.{AuthorityIs, AuthIs, Authorized}
use Rattle.journey_laws.proofs.One_route.{newest_end}
use Rattle.journey_laws.proofs.First_steps.{FirstSteps, begin_same, end_same}
use Rattle.step_laws.proofs.Taken_counts.{Calm, counting, refusing, calm, took_issued}
use Rattle.step_laws.proofs.Account_goes.{account_taken, account_shorter, taken_calm}
use Rattle.step_laws.proofs.Authority_stays.{path_stays, Going}
use Rattle.step_laws.proofs.Top_longest.{IsTop, top_end, top_calm, top_shorter}
use Rattle.step_laws.proofs.New_auth.{Sent, ShorterAuth, newest_top}
use Rattle.step_laws.proofs.Longest_stays.{ShrinkStays, old_still}
use Rattle.step_laws.proofs.Last_stays.{sent_first, sent_calm}

-- where none is unanswered, none is after what the zone takes
pub idle_stays : (v w : Account) → v.shrink ≡ 0 → Calm v w → w.shrink ≡ 0
idle_stays v w idle (counting c) = c.shrink ∙ idle
idle_stays v w idle (refusing r) = r.shrink

-- the number that is sent is the last, where it is no less
pub last_sent : (line : Line) (t : ℕ) (s : Story) (x : Transition) (n : Sent line t s x) → last_issued t s ≤ n.number → last_issued t (x ∷ s) ≡ n.number
unfolding greatest_issued greatest_in
last_sent line t s x n most =
    let its = n.its in
    let one : greatest_in (auth_number t) ((0, msg.Auth n.train n.number n.authority.mark n.authority.path) ∷ []) ≡ n.number = rw its (omega arith) in
    let e = ap (λ (issued : List (ℕ × Msg)). greatest_in (auth_number t) issued) n.issued in
    omega (arith, e, one, most)

module _ (line : Line) (t : ℕ) (s : Story) (x : Transition) (k : Authorized line t s) (going : Going line t s x) (n : ShorterAuth line t s x) where
  abbrev len : Lengths
  len = seg_len line

  abbrev steps : List DirSeg
  steps = journey line t s

  abbrev v : Account
  v = account line t s

  abbrev w : Account
  w = account_taken line t x s

  abbrev newest : Authority
  newest = (k.controlled n.control).newest

  abbrev a : Authority
  a = n.sent.authority

  abbrev number : ℕ
  number = n.sent.number

  first_shorter : FirstSteps line t x s
  first_shorter = sent_first line t s x n.sent

  taken : Calm (account line t s) (account_taken line t x s)
  taken = taken_calm line t x s k (sent_calm line t s x n.sent)

  before : IsTop (seg_len line) (journey line t s) (account_taken line t x s) (k.controlled n.control).newest
  before = top_calm len steps v newest w taken (newest_top line t s k n.control)

  end_before : end_of (seg_len line) (journey line t s) (account_taken line t x s) ≡ longest_end line t s
  end_before = top_end len steps w newest before ∙ sym (newest_end line t s k n.control)

  near_newest : authority_end (seg_len line) (journey line t s) n.sent.authority < authority_end (seg_len line) (journey line t s) (k.controlled n.control).newest
  near_newest = let near = n.nearer in let e = newest_end line t s k n.control in omega (arith, near, e)

  account_is : account line t (x ∷ s) ≡ record w { issued = number; shrink = number; stood = longest_of (seg_len line) (journey line t s) (account_taken line t x s); reads = with_at number (Some a) w.reads }
  account_is =
      let e = issued_is line t s in
      let next = n.next in
      let near = n.nearer in
      let end = end_before in
      account_shorter line t x s n.sent.train number a n.sent.issued n.sent.its (omega (arith, e, next)) (omega (arith, near, end))

  top_at : IsTop (seg_len line) (journey line t s) (account line t (x ∷ s)) (k.controlled n.control).newest
  top_at =
      let e = issued_is line t s in
      let next = n.next in
      let issued = took_issued v w (calm taken) in
      subst (λ (u : Account). IsTop (seg_len line) (journey line t s) u (k.controlled n.control).newest) (sym account_is)
      (top_shorter len steps w newest number a (omega (arith, e, next, issued)) (idle_stays v w n.idle taken) before near_newest)

  pub top_still : IsTop (seg_len line) (journey line t (x ∷ s)) (account line t (x ∷ s)) (k.controlled n.control).newest
  top_still = subst (λ (xs : List DirSeg). IsTop (seg_len line) xs (account line t (x ∷ s)) (k.controlled n.control).newest) (sym (journey_still line t x s n.sent.still)) top_at

  shorter_read : (account line t (x ∷ s)).reads n.sent.number ≡ Some n.sent.authority
  shorter_read = let own : nat_eq number number ≡ true = grind (arith, nat_tests) in ap (λ (u : Account). u.reads number) account_is ∙ rw own refl

  shrink_read : (account line t (x ∷ s)).reads (account line t (x ∷ s)).shrink ≡ Some n.sent.authority
  shrink_read = ap (λ (u : Account). (account line t (x ∷ s)).reads u.shrink) account_is ∙ shorter_read

  authority_was : AuthorityIs line t s n.sent.authority
  authority_was =
      let p = n.sent.is in
      let near = n.nearer in
      record { declared = p.declared; fits = p.fits; above = p.above; own = p.own; behind = p.behind; mark = p.mark; on = n.on; within = omega (arith, near) }

  pub authority_shorter : AuthorityIs line t (x ∷ s) n.sent.authority
  authority_shorter = old_still line t s x k going n.control first_shorter top_still a authority_was

  pub shorter_is : AuthIs line t (x ∷ s) n.sent.number n.sent.authority
  shorter_is =
      let next = n.next in
      let some = (k.controlled n.control).issued in
      let last = last_sent line t s x n.sent (omega (arith, next)) in
      record {
        path = path_stays line t x s first_shorter a (going.moved n.sent.is.declared) n.sent.is;
        ahead = λ h. authority_shorter;
        exact = λ h. sym (ap (end_or_0 len (journey line t (x ∷ s))) shorter_read);
        positive = omega (arith, next);
        known = omega (arith, last);
        first = λ off one. absurd (omega (arith, next, some, one));
      }

  pub shrink_new : least_rear line (zone_id line) t s ≤ least_rear line (zone_id line) t (x ∷ s) → ShrinkStays line t s x
  shrink_new rears =
      let next = n.next in
      let some = (k.controlled n.control).issued in
      let last = last_sent line t s x n.sent (omega (arith, next)) in
      let place : shrink_place line t (x ∷ s) ≡ authority_end len (journey line t (x ∷ s)) a = ap (end_or_0 len (journey line t (x ∷ s))) shrink_read in
      let ends = end_same line t x s first_shorter a n.sent.is.mark in
      let ahead = n.ahead in
      record {
        second = omega (arith, next, some, last);
        cut = λ b read.
            let e : b ≡ n.sent.authority = same_Some b a (sym read ∙ shrink_read) in
            let i = begin_same line t x s first_shorter a.mark n.sent.is.mark in
            let cut = n.cut in
            subst (λ (c : Authority). total len (take c.mark (journey line t (x ∷ s))) + c.path.from ≤ least_rear line (zone_id line) t (x ∷ s)) (sym e) (omega (arith, i, cut, rears));
        unpassed = omega (arith, ahead, place, ends);
      }
