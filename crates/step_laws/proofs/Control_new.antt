-- A transition that issues a further authority, which ends no nearer than the longest: it is the longest then.
use Rattle.std.proofs.Common.{◌≡◌, ℕ, ◌+◌, ◌-◌, ◌*◌, ◌≤◌, List, ◌∷◌, length, take, Option, Some, true, false, refl, sym, ◌∙◌, ap, subst, arith}
use Rattle.std.proofs.lemmas.Bool.Decides.{nat_tests}
use Rattle.std.proofs.lemmas.List.{length-append, length-take}
use Rattle.std.specs.Prelude.{nat_eq, nat_le}
use Rattle.std.specs.List.{list_all}
use Rattle.list_laws.proofs.By_test.{by_test}
use Rattle.track_points.specs.declared.ids.DirSeg.{DirSeg}
use Rattle.track_points.specs.Points.{Lengths, steps_to}
use Rattle.definitions.specs.Track.{Line, seg_len}
use Rattle.definitions.specs.Ways.{chained}
use Rattle.definitions.specs.Premises.{on_line}
use Rattle.definitions.specs.Story.{Transition, Story}
use Rattle.definitions.specs.World.{head, journey, Authority, route, authority_end}
use Rattle.definitions.specs.Control.{controls, last_issued}
use Rattle.definitions.specs.Farther.{end_or_0, route_or_none}
use Rattle.definitions.specs.Account.{Account, longest_of, end_of, with_at}
use Rattle.definitions.specs.Fold.{account}
use Rattle.definitions.specs.Longest.{counted, longest_end, is_pending, longest_route}
use Rattle.definitions.specs.Fronts.{least_rear}
use Rattle.definitions.specs.Zones.{zone_id}
use Rattle.event_laws.proofs.Account_next.{issued_is}
use Rattle.event_laws.proofs.Facts_stay.{declared_stays, facts_stay, long_stays, first_stays}
use Rattle.event_laws.proofs.Still_world.{head_still, journey_still}
use Rattle.journey_laws.proofs.Invariant.{step_begin, AuthorityIs, AuthIs, SomeIs, ControlIs, Authorized}
use Rattle.journey_laws.proofs.One_route.{path_parts, route_whole, uncontrolled_off, newest_end, journey_few}
use Rattle.journey_laws.proofs.First_steps.{FirstSteps, begin_same, end_same, route_same}
use Rattle.step_laws.proofs.Taken_counts.{Calm, Counts, counting, refusing}
use Rattle.step_laws.proofs.Account_goes.{some_weaker, unissued, account_taken, counted_rises, account_longer, reads_have, counted_issued, taken_calm}
use Rattle.step_laws.proofs.Authority_stays.{off_before, path_stays, authority_stays, first_is_stays, Going}
use Rattle.step_laws.proofs.Farthest_none.{farthest_none}
use Rattle.step_laws.proofs.Top_longest.{EndsBy, IsTop, top_longest, top_end, top_calm, top_longer}
use Rattle.step_laws.proofs.New_auth.{LongerAuth, reads_within, newest_top}
use Rattle.step_laws.proofs.Last_stays.{sent_first, sent_has, sent_calm}
use Rattle.step_laws.proofs.Shorter_new.{idle_stays, last_sent}
use Rattle.step_laws.proofs.Auths_stay.{AuthsStay}

module _ (line : Line) (t : ℕ) (s : Story) (x : Transition) (k : Authorized line t s) (going : Going line t s x) (n : LongerAuth line t s x) where
  abbrev len : Lengths
  len = seg_len line

  abbrev steps : List DirSeg
  steps = journey line t s

  abbrev v : Account
  v = account line t s

  abbrev w : Account
  w = account_taken line t x s

  abbrev next : Account
  next = account line t (x ∷ s)

  abbrev a : Authority
  a = n.sent.authority

  abbrev number : ℕ
  number = n.sent.number

  pub last_new : last_issued t (x ∷ s) ≡ n.sent.number
  last_new = let e = n.next in last_sent line t s x n.sent (omega (arith, e))

  -- the journey is the same
  journey_same : journey line t (x ∷ s) ≡ journey line t s
  journey_same = journey_still line t x s n.sent.still

  first_new : FirstSteps line t x s
  first_new = sent_first line t s x n.sent

  taken : Calm (account line t s) (account_taken line t x s)
  taken = taken_calm line t x s k (sent_calm line t s x n.sent)

  counts : Counts (account line t s) (account_taken line t x s)
  counts = by_calm taken
    where
      by_calm : Calm (account line t s) (account_taken line t x s) → Counts (account line t s) (account_taken line t x s)
      by_calm (counting c) = c
      by_calm (refusing r) = let some = r.some in let idle = n.idle in absurd (omega (arith, some, idle))

  -- what the longest was ends no farther
  end_before : end_of (seg_len line) (journey line t s) (account_taken line t x s) ≤ authority_end (seg_len line) (journey line t s) n.sent.authority
  end_before = by_test (controls (zone_id line) t s)
      (λ c.
      let newest = (k.controlled c).newest in
      let e = top_end len steps w newest (top_calm len steps v newest w taken (newest_top line t s k c)) in
      let o = newest_end line t s k c in
      let l = n.longer in
      omega (arith, e, o, l))
      (λ c.
      let none = farthest_none len steps w.reads w.counted (w.issued + 1 - w.counted)
      (λ i. ap (λ (r : ℕ → Option Authority). r i) counts.reads ∙ k.unread c i) in
      let e : end_of len steps w ≡ 0 = ap (λ (b : Option Authority). end_or_0 len steps b) none in
      omega (arith, e))

  account_is : account line t (x ∷ s) ≡ record w { issued = number; reads = with_at number (Some a) w.reads }
  account_is =
      let e = issued_is line t s in
      let one = n.next in
      account_longer line t x s n.sent.train number a n.sent.issued n.sent.its (omega (arith, e, one)) end_before

  top_at : IsTop (seg_len line) (journey line t s) (account line t (x ∷ s)) n.sent.authority
  top_at =
      let e = issued_is line t s in
      let one = n.next in
      let c = counts in
      let issued = c.issued in
      let rises = c.rises in
      let most = c.most (counted_issued line t x s k) in
      subst (λ (u : Account). IsTop (seg_len line) (journey line t s) u n.sent.authority) (sym account_is)
      (top_longer len steps w a number (longest_end line t s) (omega (arith, e, one, issued)) (idle_stays v w n.idle taken)
      (λ i b l. subst (λ (r : ℕ → Option Authority). SomeIs (EndsBy (seg_len line) (journey line t s) (longest_end line t s)) (r i)) (sym c.reads) (reads_within line t s k i (omega (arith, b, rises)) (omega (arith, l, issued))))
      n.longer (omega (arith, most, issued)))

  end_new : longest_end line t (x ∷ s) ≡ authority_end (seg_len line) (journey line t s) n.sent.authority
  end_new = ap (λ (xs : List DirSeg). end_of len xs next) journey_same ∙ top_end len steps next a top_at

  route_new : longest_route line t (x ∷ s) ≡ route (journey line t s) n.sent.authority
  route_new = ap (λ (xs : List DirSeg). route_or_none xs (longest_of len xs next)) journey_same ∙ ap (λ (b : Option Authority). route_or_none steps b) (top_longest len steps next a top_at)

  -- the new number adds at most its path to the steps
  marks_new : length (longest_route line t (x ∷ s)) ≤ 24 * last_issued t (x ∷ s)
  marks_new =
      let r = ap (λ (xs : List DirSeg). length xs) route_new in
      let last = last_new in
      let one = n.next in
      let own = length-append (take a.mark steps) a.path.steps.items in
      let before = length-take a.mark steps in
      let few = (path_parts line a.path n.sent.is.fits).few in
      by_test (controls (zone_id line) t s)
      (λ c.
      let old = (k.controlled c).marks in
      let j = journey_few line t s k c in
      omega (arith, r, last, own, before, few, old, one, j))
      (λ m.
      let mark = (n.early (uncontrolled_off line t s k m)).1.mark in
      omega (arith, r, last, own, before, few, mark, one))

  onward_new : controls (zone_id line) t s ≡ true → steps_to (seg_len line) (longest_route line t (x ∷ s)) (longest_end line t s) ≡ longest_route line t s
  onward_new c = ap (λ (xs : List DirSeg). steps_to len xs (longest_end line t s)) route_new ∙ n.onward c

  longer_new : longest_end line t s ≤ longest_end line t (x ∷ s)
  longer_new = let e = end_new in let l = n.longer in omega (arith, e, l)

  pub new_stay : controls (zone_id line) t s ≡ true → AuthsStay line t s x
  new_stay c = record { moved = going.moved; first = first_new; ends = longer_new; onward = onward_new c }

  authority_new : AuthorityIs line t (x ∷ s) n.sent.authority
  authority_new =
      let p = path_stays line t x s first_new a (going.moved n.sent.is.declared) n.sent.is in
      let e = end_same line t x s first_new a n.sent.is.mark in
      let l = end_new in
      record {
        declared = p.declared;
        fits = p.fits;
        above = p.above;
        own = p.own;
        behind = p.behind;
        mark = p.mark;
        on = route_same line t x s first_new a n.sent.is.mark ∙ sym (route_whole line steps a n.sent.is.fits n.sent.is.above)
            ∙ ap (λ (xs : List DirSeg). steps_to len xs (authority_end len steps a)) (sym route_new) ∙ ap (steps_to len (longest_route line t (x ∷ s))) (sym e);
        within = omega (arith, e, l);
      }

  old_new : controls (zone_id line) t s ≡ true → (b : Authority) → AuthorityIs line t s b → AuthorityIs line t (x ∷ s) b
  old_new c b i = authority_stays line t x s first_new b (going.moved i.declared) longer_new (onward_new c) i

  pub reads_new : (i : ℕ) → counted line t (x ∷ s) ≤ i → i ≤ last_issued t (x ∷ s) → SomeIs (AuthorityIs line t (x ∷ s)) ((account line t (x ∷ s)).reads i)
  reads_new i b l =
      let rises = counted_rises line t x s in
      reads_have line t x s (AuthorityIs line t (x ∷ s)) i (sent_has (AuthorityIs line t (x ∷ s)) line t s x n.sent authority_new)
      (by_test (nat_le i (last_issued t s))
      (λ y. by_test (controls (zone_id line) t s)
      (λ c. some_weaker (AuthorityIs line t s) (AuthorityIs line t (x ∷ s)) (old_new c) (v.reads i) (k.reads i (omega (arith, rises, b)) (grind (arith, nat_tests))))
      (λ m. let none = k.unread m i in rw none tt))
      (λ y. let none = unissued line t s i (grind (arith, nat_tests)) in rw none tt))
      (λ some. let idle = n.idle in absurd (omega (arith, some, idle)))

  new_read : (account line t (x ∷ s)).reads n.sent.number ≡ Some n.sent.authority
  new_read = let own : nat_eq number number ≡ true = grind (arith, nat_tests) in ap (λ (u : Account). u.reads number) account_is ∙ rw own refl

  pub new_is : AuthIs line t (x ∷ s) n.sent.number n.sent.authority
  new_is =
      let one = n.next in
      let last = last_new in
      record {
        path = path_stays line t x s first_new a (going.moved n.sent.is.declared) n.sent.is;
        ahead = λ h. authority_new;
        exact = λ h. sym (ap (end_or_0 len (journey line t (x ∷ s))) new_read);
        positive = omega (arith, one);
        known = omega (arith, last);
        first = λ off first_. first_is_stays line t x s a n.sent.is.declared (n.early (off_before t x s off)).1;
      }

  idle_new : is_pending line t (x ∷ s) ≡ false
  idle_new =
      let e = ap (λ (u : Account). u.shrink) account_is in
      let z = idle_stays v w n.idle taken in
      grind (arith, nat_tests)

  pub control_new : (controls (zone_id line) t s ≡ true → least_rear line (zone_id line) t s ≤ least_rear line (zone_id line) t (x ∷ s)) → ControlIs line t (x ∷ s)
  control_new rears =
      let i = begin_same line t x s first_new a.mark n.sent.is.mark in
      let last = last_new in
      let one = n.next in
      let room = n.room in
      let long = long_stays t x s n.sent.is.declared in
      let cut = begins in
      record {
        declared = declared_stays t x s n.sent.is.declared;
        facts = facts_stay t x s n.sent.is.declared ∙ n.facts;
        issued = omega (arith, last, one);
        step = n.step;
        first = first_stays t x s n.step n.first;
        portal = n.portal;
        newest = a;
        longest_is = ap (λ (xs : List DirSeg). longest_of len xs next) journey_same ∙ top_longest len steps next a top_at;
        top = λ m. ap next.reads last_new ∙ new_read;
        shrink = λ y. absurd (let z : true ≡ false = sym y ∙ idle_new in cc);
        newest_is = authority_new;
        early = λ off.
            let f = n.early (off_before t x s off) in
            (ap next.reads (sym f.0) ∙ new_read, first_is_stays line t x s a n.sent.is.declared f.1);
        cut = omega (arith, i, cut);
        room = omega (arith, long, room);
        chain = ap (chained line) route_new ∙ n.chain;
        of_line = ap (list_all (on_line line)) route_new ∙ n.of_line;
        journey_on = journey_same ∙ n.journey_on ∙ ap (λ (xs : List DirSeg). steps_to len xs (head t s)) (sym route_new) ∙ ap (steps_to len (longest_route line t (x ∷ s))) (sym (head_still t x s n.sent.still));
        marks = marks_new;
      }
    where
      begins : step_begin line t s n.sent.authority.mark + n.sent.authority.path.from ≤ least_rear line (zone_id line) t (x ∷ s)
      begins = by_test (controls (zone_id line) t s)
          (λ y. let e = n.cut y in let b = rears y in omega (arith, e, b))
          (λ m. let e = n.begin m in omega (arith, e))
