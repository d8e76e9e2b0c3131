-- A transition at which the longest authority of a controlled train stays the longest: its route and its end stay, and so does what is
-- known of the train.
use Rattle.std.proofs.Common.{◌≡◌, ℕ, ◌+◌, ◌≤◌, List, ◌∷◌, length, Option, Some, true, false, sym, ◌∙◌, ap, subst, arith}
use Rattle.std.proofs.lemmas.Bool.Decides.{nat_tests}
use Rattle.std.specs.Prelude.{nat_le}
use Rattle.std.specs.List.{list_all}
use Rattle.list_laws.proofs.By_test.{by_test}
use Rattle.track_points.specs.declared.ids.DirSeg.{DirSeg}
use Rattle.track_points.specs.Points.{Lengths, steps_to}
use Rattle.definitions.specs.Track.{Line, seg_len}
use Rattle.definitions.specs.Rules.{is_line}
use Rattle.definitions.specs.Numbers.{first}
use Rattle.definitions.specs.Ways.{chained}
use Rattle.definitions.specs.Premises.{on_line}
use Rattle.definitions.specs.Story.{Transition, Story}
use Rattle.definitions.specs.World.{entered, head, journey, Authority, authority_end}
use Rattle.definitions.specs.Control.{controls, known_facts, last_issued}
use Rattle.definitions.specs.Farther.{route_or_none}
use Rattle.definitions.specs.Account.{Account}
use Rattle.definitions.specs.Fold.{account}
use Rattle.definitions.specs.Longest.{counted, longest_end, is_pending, shrink_place, longest_route}
use Rattle.definitions.specs.Fronts.{possible_front, least_rear}
use Rattle.definitions.specs.Zones.{zone_id}
use Rattle.event_laws.proofs.Issued_all.{AllIn, AuthHas}
use Rattle.event_laws.proofs.Account_next.{issued_is}
use Rattle.event_laws.proofs.Facts_stay.{declared_stays, facts_stay, long_stays, first_stays}
use Rattle.event_laws.proofs.Last_quiet.{last_grows}
use Rattle.journey_laws.proofs.Journey_track.{journey_goes}
use Rattle.journey_laws.proofs.Invariant.{step_begin, AuthorityIs, SomeIs, ShrinkIs, ControlIs, Authorized}
use Rattle.journey_laws.proofs.One_route.{newest_end, newest_route, kept_some, kept_reach, kept_cut}
use Rattle.journey_laws.proofs.First_steps.{FirstSteps, begin_same, end_same, route_same}
use Rattle.step_laws.proofs.Account_goes.{some_weaker, unissued, counted_rises, reads_have, reads_stay}
use Rattle.step_laws.proofs.Authority_stays.{off_before, authority_stays, first_is_stays, Going}
use Rattle.step_laws.proofs.Top_longest.{IsTop, top_longest, top_end}

-- what is known of the shrink that is unanswered after the transition
pub record ShrinkStays (line : Line) (t : ℕ) (s : Story) (x : Transition) : Type 0 where
  pub second : 2 ≤ last_issued t (x ∷ s)
  pub cut : (a : Authority) → (account line t (x ∷ s)).reads (account line t (x ∷ s)).shrink ≡ Some a → step_begin line t (x ∷ s) a.mark + a.path.from ≤ least_rear line (zone_id line) t (x ∷ s)
  pub unpassed : first (possible_front line (zone_id line) t (x ∷ s)) (longest_end line t s + 1) ≤ shrink_place line t (x ∷ s)

module _ (line : Line) (t : ℕ) (s : Story) (x : Transition) (k : Authorized line t s) (going : Going line t s x) (c : controls (zone_id line) t s ≡ true) (first_steps : FirstSteps line t x s)
    (top : IsTop (seg_len line) (journey line t (x ∷ s)) (account line t (x ∷ s)) (k.controlled c).newest) where
  abbrev newest : Authority
  newest = (k.controlled c).newest

  abbrev len : Lengths
  len = seg_len line

  abbrev w : Account
  w = account line t (x ∷ s)

  newest_same : authority_end (seg_len line) (journey line t (x ∷ s)) (k.controlled c).newest ≡ authority_end (seg_len line) (journey line t s) (k.controlled c).newest
  newest_same = end_same line t x s first_steps newest (k.controlled c).newest_is.mark

  pub end_still : longest_end line t (x ∷ s) ≡ longest_end line t s
  end_still = top_end len (journey line t (x ∷ s)) w newest top ∙ newest_same ∙ sym (newest_end line t s k c)

  route_still : longest_route line t (x ∷ s) ≡ longest_route line t s
  route_still =
      ap (λ (a : Option Authority). route_or_none (journey line t (x ∷ s)) a) (top_longest len (journey line t (x ∷ s)) w newest top)
      ∙ route_same line t x s first_steps newest (k.controlled c).newest_is.mark
      ∙ sym (newest_route line t s k c)

  pub onward_still : steps_to (seg_len line) (longest_route line t (x ∷ s)) (longest_end line t s) ≡ longest_route line t s
  onward_still = ap (λ (xs : List DirSeg). steps_to len xs (longest_end line t s)) route_still ∙ sym (kept_cut line t s k c)

  pub old_still : (a : Authority) → AuthorityIs line t s a → AuthorityIs line t (x ∷ s) a
  old_still a i = let e = end_still in authority_stays line t x s first_steps a (going.moved i.declared) (omega (arith, e)) onward_still i

  module _ (issued : AllIn (AuthHas (AuthorityIs line t (x ∷ s)) t) x.issued) where
    pub reads_still : (n : ℕ) → counted line t (x ∷ s) ≤ n → n ≤ last_issued t (x ∷ s) → SomeIs (AuthorityIs line t (x ∷ s)) ((account line t (x ∷ s)).reads n)
    reads_still n b l =
        let rises = counted_rises line t x s in
        reads_have line t x s (AuthorityIs line t (x ∷ s)) n issued
        (by_test (nat_le n (last_issued t s))
        (λ y. some_weaker (AuthorityIs line t s) (AuthorityIs line t (x ∷ s)) old_still ((account line t s).reads n) (k.reads n (omega (arith, rises, b)) (grind (arith, nat_tests))))
        (λ y. let none = unissued line t s n (grind (arith, nat_tests)) in rw none tt))
        (λ some.
        let pending : is_pending line t s ≡ true = grind (arith, nat_tests) in
        subst (SomeIs (AuthorityIs line t (x ∷ s))) (sym ((k.controlled c).shrink pending).stood) (old_still newest (k.controlled c).newest_is))

    shrink_still : ShrinkStays line t s x → is_pending line t (x ∷ s) ≡ true → ShrinkIs line t (x ∷ s) newest
    shrink_still stays y =
        let p = top.pending (grind (arith, nat_tests)) in
        let e = issued_is line t (x ∷ s) in
        let end = end_still in
        let last = p.last in
        let one = p.one_below in
        let second = stays.second in
        let counts = top.counts in
        let near = p.nearer in
        let longest = top_end len (journey line t (x ∷ s)) w newest top in
        let unpassed = stays.unpassed in
        let place = ap (λ (n : ℕ). first (possible_front line (zone_id line) t (x ∷ s)) (n + 1)) end in
        record {
          last = last ∙ e;
          top = top.top;
          positive = omega (arith, one, e, second);
          one_below = one ∙ e;
          counted_top = counts;
          top_is = top.top_is;
          stood = p.stood;
          shorter = p.shorter;
          shorter_is = p.shorter_is;
          authority = subst (SomeIs (AuthorityIs line t (x ∷ s))) p.shorter_is (reads_still w.shrink (omega (arith, counts, one, last)) (omega (arith, last, e)));
          nearer = omega (arith, near, longest);
          cut = stays.cut p.shorter p.shorter_is;
          unpassed = omega (arith, unpassed, place);
        }

    pub control_still : is_line line ≡ true → known_facts (zone_id line) t (x ∷ s) ≡ known_facts (zone_id line) t s → least_rear line (zone_id line) t s ≤ least_rear line (zone_id line) t (x ∷ s)
        → (entered t (x ∷ s) ≡ false → counted line t (x ∷ s) ≡ 0) → (is_pending line t (x ∷ s) ≡ true → ShrinkStays line t s x) → ControlIs line t (x ∷ s)
    control_still valid facts rears uncounted shrunk =
        let f = k.controlled c in
        let i = begin_same line t x s first_steps newest.mark f.newest_is.mark in
        let last = last_grows t x s in
        let issued = f.issued in
        let cut = f.cut in
        let room = f.room in
        let long = long_stays t x s f.declared in
        let stops = going.stops c in
        let reach = kept_reach line t s k c in
        let marks = f.marks in
        let r = ap (λ (xs : List DirSeg). length xs) route_still in
        record {
          declared = declared_stays t x s f.declared;
          facts = facts_stay t x s f.declared ∙ f.facts ∙ ap (λ z. Some z) (sym facts);
          issued = omega (arith, last, issued);
          step = f.step;
          first = first_stays t x s f.step f.first;
          portal = f.portal;
          newest = newest;
          longest_is = top_longest len (journey line t (x ∷ s)) w newest top;
          top = λ n. ap w.reads (sym (issued_is line t (x ∷ s)) ∙ sym (top.idle (grind (arith, nat_tests)))) ∙ top.top_is;
          shrink = λ y. shrink_still (shrunk y) y;
          newest_is = old_still newest f.newest_is;
          early = λ off.
              let o = f.early (off_before t x s off) in
              let z = uncounted off in
              (reads_stay line t x s k 1 issued (omega (arith, z)) ∙ o.0, first_is_stays line t x s newest f.declared o.1);
          cut = omega (arith, i, cut, rears);
          room = omega (arith, long, room);
          chain = ap (chained line) route_still ∙ f.chain;
          of_line = ap (list_all (on_line line)) route_still ∙ f.of_line;
          journey_on = journey_goes line t x s (longest_route line t s) valid (kept_some line t s k c) f.chain f.of_line (omega (arith, stops, reach)) f.journey_on
              ∙ ap (λ (xs : List DirSeg). steps_to len xs (head t (x ∷ s))) (sym route_still);
          marks = omega (arith, marks, last, r);
        }
