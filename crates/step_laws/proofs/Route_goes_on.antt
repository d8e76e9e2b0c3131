-- The longest route of a controlled train one transition further: it goes on, and ends where it did or where what is issued does at
-- most; or it is cut at the end of a shrink that counts as taken.
use Rattle.std.proofs.Common.{◌≡◌, ℕ, ◌<◌, ◌≤◌, ◌∷◌, Option, Some, true, false, sym, ◌∙◌, ap, subst, arith}
use Rattle.std.proofs.lemmas.Bool.Decides.{nat_tests}
use Rattle.std.proofs.lemmas.Option.{same_Some}
use Rattle.std.specs.Prelude.{nat_eq, nat_le}
use Rattle.list_laws.proofs.By_test.{by_test}
use Rattle.track_points.specs.Points.{steps_to}
use Rattle.definitions.specs.Track.{Line, seg_len}
use Rattle.definitions.specs.Story.{Transition, Story}
use Rattle.definitions.specs.World.{head, Authority, route, authority_end, journey, is_auth}
use Rattle.definitions.specs.Control.{controls, last_issued}
use Rattle.definitions.specs.Farther.{end_or_0}
use Rattle.definitions.specs.Account.{Account}
use Rattle.definitions.specs.Fold.{account}
use Rattle.definitions.specs.Longest.{counted, longest_end, is_pending, shrink_place, longest_route}
use Rattle.definitions.specs.Zones.{zone_id}
use Rattle.journey_laws.proofs.Motion.{Motion}
use Rattle.event_laws.proofs.Issued_all.{AllIn, in_all_weaker, AuthHas, auth_without, NoAuth}
use Rattle.event_laws.proofs.Account_next.{issued_is}
use Rattle.event_laws.proofs.Last_quiet.{last_quiet, last_grows}
use Rattle.journey_laws.proofs.Invariant.{AuthorityIs, SomeIs, ShrinkIs, ControlIs, Authorized}
use Rattle.journey_laws.proofs.One_route.{newest_end, newest_route, shrink_before}
use Rattle.journey_laws.proofs.First_steps.{FirstSteps, end_same, route_same, controlled_first}
use Rattle.step_laws.proofs.Taken_counts.{Calm, Counts, Refuses, Takes, counting, refusing, cuts}
use Rattle.step_laws.proofs.Account_goes.{some_weaker, unissued, account_taken, counted_taken, counted_rises, account_quiet, reads_taken, reads_have, counted_issued, last_shrink, taken_calm, taken_cut}

-- a number that counts, of those issued before, and reads the longest authority that stood before the transition
pub record NewestRead (line : Line) (t : ℕ) (x : Transition) (s : Story) (newest : Authority) : Type 0 where
  pub number : ℕ
  pub counts : counted line t (x ∷ s) ≤ number
  pub known : number ≤ last_issued t s
  pub is : (account line t (x ∷ s)).reads number ≡ Some newest

module _ (line : Line) (t : ℕ) (s : Story) (x : Transition) (k : Authorized line t s) (c : controls (zone_id line) t s ≡ true) where
  abbrev v : Account
  v = account line t s

  abbrev w : Account
  w = account_taken line t x s

  abbrev newest_was : Authority
  newest_was = (k.controlled c).newest

  read_at : (n : ℕ) → n ≤ last_issued t s → w.reads n ≡ Some (k.controlled c).newest → w.counted ≤ n → NewestRead line t x s (k.controlled c).newest
  read_at n known is counts =
      let e = counted_taken line t x s in
      record { number = n; counts = omega (arith, counts, e); known = known; is = reads_taken line t x s n known ∙ is }

  counting_read : Counts (account line t s) (account_taken line t x s) → NewestRead line t x s (k.controlled c).newest
  counting_read a =
      let g = k.controlled c in
      let e = issued_is line t s in
      by_test (is_pending line t s)
      (λ y.
      let h = g.shrink y in
      let last = h.last in
      let one = h.one_below in
      let top = h.counted_top in
      let below = a.below (omega (arith, last, e)) (omega (arith, last, one, top)) in
      read_at h.top (omega (arith, one)) (ap (λ (r : ℕ → Option Authority). r h.top) a.reads ∙ h.top_is) (omega (arith, below, last, one)))
      (λ n.
      let most = a.most (counted_issued line t x s k) in
      read_at (last_issued t s) (omega arith) (ap (λ (r : ℕ → Option Authority). r (last_issued t s)) a.reads ∙ g.top n) (omega (arith, most, e)))

  refusing_read : Refuses (account line t s) (account_taken line t x s) → NewestRead line t x s (k.controlled c).newest
  refusing_read r =
      let some = r.some in
      let pending : is_pending line t s ≡ true = grind (arith, nat_tests) in
      let h = (k.controlled c).shrink pending in
      let last = h.last in
      let counts = r.last (last_shrink line t x s k some) (counted_issued line t x s k) in
      let own : nat_eq v.shrink v.shrink ≡ true = grind (arith, nat_tests) in
      read_at v.shrink (omega (arith, last)) (ap (λ (f : ℕ → Option Authority). f v.shrink) r.reads ∙ (rw own h.stood)) (omega (arith, counts))

  by_calm : Calm (account line t s) (account_taken line t x s) → NewestRead line t x s (k.controlled c).newest
  by_calm (counting a) = counting_read a
  by_calm (refusing r) = refusing_read r

  pub newest_read : cuts line t x s ≡ false → NewestRead line t x s (k.controlled c).newest
  newest_read none = by_calm (taken_calm line t x s k none)

-- A train that the zone controls before and after.
module _ (line : Line) (t : ℕ) (s : Story) (x : Transition) (motion : Motion t s) (k : Authorized line t s) (k2 : Authorized line t (x ∷ s)) (c : controls (zone_id line) t s ≡ true) (c2 : controls (zone_id line) t (x ∷ s) ≡ true)
    (heads : head t s ≤ head t (x ∷ s)) where
  abbrev old : ControlIs line t s
  old = k.controlled c

  abbrev new : ControlIs line t (x ∷ s)
  new = k2.controlled c2

  first : FirstSteps line t x s
  first = controlled_first line t s k c motion x heads

  -- where no shrink counts as taken
  module _ (calm : cuts line t x s ≡ false) where
    newest_stays : AuthorityIs line t (x ∷ s) (k.controlled c).newest
    newest_stays =
        let r = newest_read line t s x k c calm in
        let known = r.known in
        let grows = last_grows t x s in
        subst (SomeIs (AuthorityIs line t (x ∷ s))) r.is (k2.reads r.number r.counts (omega (arith, known, grows)))

    end_stays : authority_end (seg_len line) (journey line t (x ∷ s)) (k.controlled c).newest ≡ longest_end line t s
    end_stays = end_same line t x s first old.newest old.newest_is.mark ∙ sym (newest_end line t s k c)

    pub route_goes_on : steps_to (seg_len line) (longest_route line t (x ∷ s)) (longest_end line t s) ≡ longest_route line t s
    route_goes_on =
        ap (steps_to (seg_len line) (longest_route line t (x ∷ s))) (sym end_stays)
        ∙ sym newest_stays.on
        ∙ route_same line t x s first old.newest old.newest_is.mark
        ∙ sym (newest_route line t s k c)

    pub end_goes_on : longest_end line t s ≤ longest_end line t (x ∷ s)
    end_goes_on = let l = newest_stays.within in let e = end_stays in omega (arith, l, e)

  -- what is read ends where it did, or where what is issued does
  module _ (most : ℕ) (h : longest_end line t s ≤ most) (issued : AllIn (AuthHas (λ a. authority_end (seg_len line) (journey line t (x ∷ s)) a ≤ most) t) x.issued) where
    abbrev Ends : Authority → Type 0
    Ends a = authority_end (seg_len line) (journey line t (x ∷ s)) a ≤ most

    was_ends : (a : Authority) → AuthorityIs line t s a → authority_end (seg_len line) (journey line t (x ∷ s)) a ≤ most
    was_ends a i = let g = end_same line t x s first a i.mark in let l = i.within in omega (arith, g, l, h)

    read_ends : (n : ℕ) → counted line t (x ∷ s) ≤ n → SomeIs (λ a. authority_end (seg_len line) (journey line t (x ∷ s)) a ≤ most) ((account line t (x ∷ s)).reads n)
    read_ends n counts =
        let rises = counted_rises line t x s in
        reads_have line t x s Ends n issued
        (by_test (nat_le n (last_issued t s))
        (λ y. some_weaker (AuthorityIs line t s) Ends was_ends ((account line t s).reads n) (k.reads n (omega (arith, rises, counts)) (grind (arith, nat_tests))))
        (λ y. let none = unissued line t s n (grind (arith, nat_tests)) in rw none tt))
        (λ some.
        let pending : is_pending line t s ≡ true = grind (arith, nat_tests) in
        subst (SomeIs Ends) (sym (old.shrink pending).stood) (was_ends old.newest old.newest_is))

    newest_ends : (n : ℕ) → counted line t (x ∷ s) ≤ n → (account line t (x ∷ s)).reads n ≡ Some (k2.controlled c2).newest → longest_end line t (x ∷ s) ≤ most
    newest_ends n counts is =
        let e = newest_end line t (x ∷ s) k2 c2 in
        let l = subst (SomeIs Ends) is (read_ends n counts) in
        omega (arith, e, l)

    pub end_most : longest_end line t (x ∷ s) ≤ most
    end_most = by_test (is_pending line t (x ∷ s))
        (λ y. let g = new.shrink y in newest_ends g.top g.counted_top g.top_is)
        (λ n. newest_ends (last_issued t (x ∷ s)) k2.counted_most (new.top n))

  -- no farther than it did, where no authority of the train is issued
  end_falls : NoAuth t x.issued → longest_end line t (x ∷ s) ≤ longest_end line t s
  end_falls quiet =
      end_most (longest_end line t s) (omega arith)
      (in_all_weaker (λ m. is_auth t m ≡ false) (AuthHas (λ a. authority_end (seg_len line) (journey line t (x ∷ s)) a ≤ longest_end line t s) t)
      (auth_without (λ a. authority_end (seg_len line) (journey line t (x ∷ s)) a ≤ longest_end line t s) t) x.issued quiet)

  -- and just there, where no shrink counts as taken either
  pub end_quiet : cuts line t x s ≡ false → NoAuth t x.issued → longest_end line t (x ∷ s) ≡ longest_end line t s
  end_quiet calm quiet =
      let least = end_goes_on calm in
      let most = end_falls quiet in
      omega (arith, least, most)

  -- it is the same where it ends where it did
  pub route_stays : cuts line t x s ≡ false → longest_end line t (x ∷ s) ≡ longest_end line t s → longest_route line t (x ∷ s) ≡ longest_route line t s
  route_stays calm same =
      newest_route line t (x ∷ s) k2 c2
      ∙ new.newest_is.on
      ∙ ap (steps_to (seg_len line) (longest_route line t (x ∷ s))) (sym (newest_end line t (x ∷ s) k2 c2) ∙ same)
      ∙ route_goes_on calm

  -- where a shrink counts as taken it is cut at the shrink's end
  module _ (taken : cuts line t x s ≡ true) (quiet : NoAuth t x.issued) where
    takes : Takes (account line t s) (account_taken line t x s)
    takes = taken_cut line t x s k taken c

    pending : is_pending line t s ≡ true
    pending = let a = takes.above in grind (arith, nat_tests)

    abbrev shrink : ShrinkIs line t s (k.controlled c).newest
    shrink = (k.controlled c).shrink pending

    newest_is : (k2.controlled c2).newest ≡ shrink.shorter
    newest_is =
        let z = ap (λ (u : Account). u.shrink) (account_quiet line t x s quiet) ∙ takes.shrink in
        let idle : is_pending line t (x ∷ s) ≡ false = grind (arith, nat_tests) in
        let last : last_issued t (x ∷ s) ≡ (account line t s).shrink = last_quiet t x s quiet ∙ sym shrink.last in
        let read = sym (new.top idle) ∙ ap (account line t (x ∷ s)).reads last ∙ ap (λ (u : Account). u.reads (account line t s).shrink) (account_quiet line t x s quiet)
        ∙ ap (λ (r : ℕ → Option Authority). r (account line t s).shrink) takes.reads ∙ shrink.shorter_is in
        same_Some new.newest shrink.shorter read

    shorter_end : authority_end (seg_len line) (journey line t (x ∷ s)) shrink.shorter ≡ shrink_place line t s
    shorter_end = end_same line t x s first shrink.shorter shrink.authority.mark ∙ sym (ap (end_or_0 (seg_len line) (journey line t s)) shrink.shorter_is)

    pub end_cut : longest_end line t (x ∷ s) ≡ shrink_place line t s
    end_cut = newest_end line t (x ∷ s) k2 c2 ∙ ap (authority_end (seg_len line) (journey line t (x ∷ s))) newest_is ∙ shorter_end

    pub end_nearer : longest_end line t (x ∷ s) < longest_end line t s
    end_nearer =
        let e = end_cut in
        let n = shrink_before line t s k c pending in
        omega (arith, e, n)

    pub route_cut : longest_route line t (x ∷ s) ≡ steps_to (seg_len line) (longest_route line t s) (longest_end line t (x ∷ s))
    route_cut =
        newest_route line t (x ∷ s) k2 c2
        ∙ ap (route (journey line t (x ∷ s))) newest_is
        ∙ route_same line t x s first shrink.shorter shrink.authority.mark
        ∙ shrink.authority.on
        ∙ ap (steps_to (seg_len line) (longest_route line t s)) (sym (end_same line t x s first shrink.shorter shrink.authority.mark) ∙ shorter_end ∙ sym end_cut)
