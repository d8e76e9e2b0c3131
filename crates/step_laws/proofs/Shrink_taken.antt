-- A transition at which the controller takes the answer by which the shrink counts as taken: the longest authority is cut there, and so
-- is its route. The train took it, so its limit is there too, and each number of an authority is its last at most.
use Rattle.std.proofs.Common.{◌≡◌, ℕ, ◌≤◌, List, ◌∷◌, length, take, Option, Some, true, false, sym, ◌∙◌, ap, subst, arith}
use Rattle.std.proofs.lemmas.Bool.Decides.{nat_tests}
use Rattle.std.specs.List.{list_all}
use Rattle.track_points.specs.declared.ids.DirSeg.{DirSeg}
use Rattle.track_points.specs.Points.{Lengths, steps_to}
use Rattle.definitions.specs.declared.message.Msg.{Msg}
use Rattle.definitions.specs.declared.message.Msg.TheVariants as msg
use Rattle.definitions.specs.Track.{Line, seg_len}
use Rattle.definitions.specs.Ways.{chained}
use Rattle.definitions.specs.Premises.{on_line}
use Rattle.definitions.specs.Story.{Transition, Story, world_took}
use Rattle.definitions.specs.World.{entered, enters, goes_on, taken_number, head, last_number, last_taken, journey, Authority, authority_end, held_end, HeldPath, limit_held, limit_place}
use Rattle.definitions.specs.Control.{controls, known_facts, last_issued}
use Rattle.definitions.specs.Farther.{end_or_0, route_or_none}
use Rattle.definitions.specs.Account.{Account}
use Rattle.definitions.specs.Fold.{account}
use Rattle.definitions.specs.Longest.{counted, longest_end, is_pending, shrink_place, longest_route}
use Rattle.definitions.specs.Fronts.{least_rear}
use Rattle.definitions.specs.Zones.{zone_id}
use Rattle.way_laws.proofs.Cut_front.{cut_all, cut_few, cut_front}
use Rattle.way_laws.proofs.Cut_cut.{cut_cut}
use Rattle.way_laws.proofs.Chained_front.{chained_front}
use Rattle.event_laws.proofs.Issued_all.{NoAuth, AllIssued, all_weaker}
use Rattle.event_laws.proofs.Facts_stay.{declared_stays, facts_stay, long_stays, first_stays, entered_stays}
use Rattle.event_laws.proofs.Last_quiet.{last_quiet}
use Rattle.event_laws.proofs.Still_world.{head_still, journey_still, last_still, limit_still}
use Rattle.journey_laws.proofs.Invariant.{AuthorityIs, AuthIs, AuthTrue, SomeIs, ShrinkIs, ControlIs, EntryHeld, LimitIs, Authorized}
use Rattle.journey_laws.proofs.First_steps.{FirstSteps, begin_same, end_same, route_same}
use Rattle.step_laws.proofs.Taken_counts.{Takes, cuts}
use Rattle.step_laws.proofs.Account_goes.{account_quiet, taken_cut}
use Rattle.step_laws.proofs.Authority_stays.{path_stays, first_is_stays, Going}
use Rattle.step_laws.proofs.Top_longest.{IsTop, top_longest, top_end, top_cut}
use Rattle.step_laws.proofs.New_auth.{newest_top_on}

-- the answer is of the train's last number, which it took
pub record TakenNow (line : Line) (t : ℕ) (s : Story) (x : Transition) : Type 0 where
  pub cut : cuts line t x s ≡ true
  pub still : goes_on t x.event ≡ false
  pub off : enters t x.event ≡ false
  pub untaken : taken_number t (world_took x) ≡ 0
  pub quiet : NoAuth t x.issued
  pub on : entered t s ≡ true
  pub last : last_number t s ≡ last_issued t s
  pub taken : last_taken line t s ≡ true

module _ (line : Line) (t : ℕ) (s : Story) (x : Transition) (k : Authorized line t s) (going : Going line t s x) (c : controls (zone_id line) t s ≡ true) (now_ : TakenNow line t s x) where
  abbrev len : Lengths
  len = seg_len line

  abbrev v : Account
  v = account line t s

  abbrev w : Account
  w = account line t (x ∷ s)

  abbrev g : ControlIs line t s
  g = k.controlled c

  takes : Takes (account line t s) (account line t (x ∷ s))
  takes = subst (λ (u : Account). Takes (account line t s) u) (sym (account_quiet line t x s now_.quiet)) (taken_cut line t x s k now_.cut c)

  pending : is_pending line t s ≡ true
  pending = let a = takes.above in grind (arith, nat_tests)

  pub shrink : ShrinkIs line t s (k.controlled c).newest
  shrink = (k.controlled c).shrink pending

  abbrev a : Authority
  a = shrink.shorter

  -- where it ends
  abbrev end : ℕ
  end = authority_end (seg_len line) (journey line t s) a

  first_steps : FirstSteps line t x s
  first_steps i h = ap (λ (xs : List DirSeg). take i xs) (journey_still line t x s now_.still)

  last_same : last_issued t (x ∷ s) ≡ last_issued t s
  last_same = last_quiet t x s now_.quiet

  counted_is : counted line t (x ∷ s) ≡ last_issued t s
  counted_is = takes.last ∙ shrink.last

  top : IsTop (seg_len line) (journey line t (x ∷ s)) (account line t (x ∷ s)) shrink.shorter
  top = top_cut len (journey line t (x ∷ s)) v g.newest w (newest_top_on line t s k c x first_steps) takes shrink.shorter shrink.shorter_is

  end_after : authority_end (seg_len line) (journey line t (x ∷ s)) shrink.shorter ≡ authority_end (seg_len line) (journey line t s) shrink.shorter
  end_after = end_same line t x s first_steps a shrink.authority.mark

  end_is : longest_end line t (x ∷ s) ≡ authority_end (seg_len line) (journey line t s) shrink.shorter
  end_is = top_end len (journey line t (x ∷ s)) w a top ∙ end_after

  pub end_place : longest_end line t (x ∷ s) ≡ shrink_place line t s
  end_place = end_is ∙ sym (ap (end_or_0 len (journey line t s)) shrink.shorter_is)

  route_is : longest_route line t (x ∷ s) ≡ steps_to (seg_len line) (longest_route line t s) (authority_end (seg_len line) (journey line t s) shrink.shorter)
  route_is =
      ap (λ (o : Option Authority). route_or_none (journey line t (x ∷ s)) o) (top_longest len (journey line t (x ∷ s)) w a top)
      ∙ route_same line t x s first_steps a shrink.authority.mark
      ∙ shrink.authority.on

  -- the limit that the train holds
  pub limit_there : limit_place line t s ≡ shrink_place line t s
  limit_there =
      let above = takes.above in
      let last = shrink.last in
      let of_train = now_.last in
      let n : last_number t s ≡ v.shrink = omega (arith, last, of_train) in
      (k.limit now_.on).number now_.taken (omega (arith, above, n)) ∙ ap (λ (i : ℕ). end_or_0 len (journey line t s) (v.reads i)) n

  pub head_before : head t s ≤ shrink_place line t s
  head_before = let h = (k.limit now_.on).ahead in let e = limit_there in omega (arith, h, e)

  place_is : shrink_place line t s ≡ authority_end (seg_len line) (journey line t s) shrink.shorter
  place_is = ap (end_or_0 len (journey line t s)) shrink.shorter_is

  -- an authority that ends there or before stays one
  cut_stays : (b : Authority) → authority_end (seg_len line) (journey line t s) b ≤ authority_end (seg_len line) (journey line t s) shrink.shorter → AuthorityIs line t s b → AuthorityIs line t (x ∷ s) b
  cut_stays b near i =
      let p = path_stays line t x s first_steps b (going.moved i.declared) (record { declared = i.declared; fits = i.fits; above = i.above; own = i.own; behind = i.behind; mark = i.mark }) in
      let e = end_same line t x s first_steps b i.mark in
      let f = end_is in
      record {
        declared = p.declared;
        fits = p.fits;
        above = p.above;
        own = p.own;
        behind = p.behind;
        mark = p.mark;
        on = route_same line t x s first_steps b i.mark ∙ i.on
            ∙ sym (cut_cut len (longest_route line t s) (authority_end len (journey line t s) b) (authority_end len (journey line t s) shrink.shorter) near)
            ∙ ap (λ (xs : List DirSeg). steps_to len xs (authority_end len (journey line t s) b)) (sym route_is)
            ∙ ap (steps_to len (longest_route line t (x ∷ s))) (sym e);
        within = omega (arith, e, near, f);
      }

  newest_now : AuthorityIs line t (x ∷ s) shrink.shorter
  newest_now = cut_stays a (omega arith) shrink.authority

  read_now : (account line t (x ∷ s)).reads (account line t s).shrink ≡ Some shrink.shorter
  read_now = ap (λ (r : ℕ → Option Authority). r v.shrink) takes.reads ∙ shrink.shorter_is

  pub reads_cut : (n : ℕ) → counted line t (x ∷ s) ≤ n → n ≤ last_issued t (x ∷ s) → SomeIs (AuthorityIs line t (x ∷ s)) ((account line t (x ∷ s)).reads n)
  reads_cut n b l =
      let e = counted_is in
      let f = last_same in
      let last = shrink.last in
      let is : n ≡ v.shrink = omega (arith, b, l, e, f, last) in
      subst (SomeIs (AuthorityIs line t (x ∷ s))) (sym (ap w.reads is ∙ read_now)) newest_now

  pub control_cut : known_facts (zone_id line) t (x ∷ s) ≡ known_facts (zone_id line) t s → least_rear line (zone_id line) t s ≤ least_rear line (zone_id line) t (x ∷ s) → ControlIs line t (x ∷ s)
  control_cut facts rears =
      let f = g in
      let i = begin_same line t x s first_steps a.mark shrink.authority.mark in
      let last = last_same in
      let issued = f.issued in
      let cut = shrink.cut in
      let room = f.room in
      let long = long_stays t x s f.declared in
      let marks = f.marks in
      let r = ap (λ (xs : List DirSeg). length xs) route_is in
      let few = cut_few len (longest_route line t s) end in
      let z = takes.shrink in
      let idle : is_pending line t (x ∷ s) ≡ false = grind (arith, nat_tests) in
      let front = cut_front len (longest_route line t s) end in
      let before = head_before in
      let there = place_is in
      record {
        declared = declared_stays t x s f.declared;
        facts = facts_stay t x s f.declared ∙ f.facts ∙ ap (λ y. Some y) (sym facts);
        issued = omega (arith, last, issued);
        step = f.step;
        first = first_stays t x s f.step f.first;
        portal = f.portal;
        newest = a;
        longest_is = top_longest len (journey line t (x ∷ s)) w a top;
        top = λ m. ap w.reads (last ∙ sym shrink.last) ∙ read_now;
        shrink = λ y. absurd (let q : true ≡ false = sym y ∙ idle in cc);
        newest_is = newest_now;
        early = λ off. absurd (let q : true ≡ false = sym (entered_stays t x s now_.on) ∙ off in cc);
        cut = omega (arith, i, cut, rears);
        room = omega (arith, long, room);
        chain = ap (chained line) route_is ∙ chained_front line (steps_to len (longest_route line t s) end) front.0 (ap (chained line) (sym front.1) ∙ f.chain);
        of_line = ap (list_all (on_line line)) route_is ∙ cut_all (on_line line) len (longest_route line t s) end f.of_line;
        journey_on = journey_still line t x s now_.still ∙ f.journey_on
            ∙ sym (cut_cut len (longest_route line t s) (head t s) end (omega (arith, before, there)))
            ∙ ap (λ (xs : List DirSeg). steps_to len xs (head t s)) (sym route_is)
            ∙ ap (steps_to len (longest_route line t (x ∷ s))) (sym (head_still t x s now_.still));
        marks = omega (arith, marks, last, r, few);
      }

  -- What the messages say, and what the train holds.

  numbers : last_number t (x ∷ s) ≡ last_number t s
  numbers = last_still t x s now_.off now_.untaken

  auth_stays : (number : ℕ) (b : Authority) → AuthIs line t s number b → AuthIs line t (x ∷ s) number b
  auth_stays number b i =
      let known = i.known in
      let e = counted_is in
      let last = last_same in
      let of_train = now_.last in
      record {
        path = path_stays line t x s first_steps b (going.moved i.path.declared) i.path;
        ahead = λ h. absurd (omega (arith, h, known, of_train, numbers));
        exact = λ h. absurd (omega (arith, h, known, e));
        positive = i.positive;
        known = omega (arith, known, last);
        first = λ off one. absurd (let q : true ≡ false = sym (entered_stays t x s now_.on) ∙ off in cc);
      }

  true_stays : (m : Msg) → AuthTrue line t s m → AuthTrue line t (x ∷ s) m
  true_stays (msg.Auth u number mark path) h = λ y. auth_stays number (record { mark = mark; path = path }) (h y)
  true_stays _ h = tt

  pub auths_cut : AllIssued (AuthTrue line t s) s → AllIssued (AuthTrue line t (x ∷ s)) s
  auths_cut h = all_weaker (AuthTrue line t s) (AuthTrue line t (x ∷ s)) true_stays s h

  pub limit_cut : LimitIs line t (x ∷ s)
  limit_cut =
      let l = k.limit now_.on in
      let h = l.held in
      let was : limit_place line t s ≡ authority_end len (journey line t s) h.authority = ap (held_end len (journey line t s)) l.is in
      let there = limit_there in
      let place = place_is in
      let is : limit_held line t (x ∷ s) ≡ Some h = limit_still line t x s now_.off now_.untaken ∙ l.is in
      let e : limit_place line t (x ∷ s) ≡ authority_end len (journey line t s) h.authority = ap (held_end len (journey line t (x ∷ s))) is ∙ end_same line t x s first_steps h.authority l.authority.mark in
      let ahead = l.ahead in
      let hd = head_still t x s now_.still in
      let counts = counted_is in
      let of_train = now_.last in
      record {
        held = h;
        is = is;
        authority = cut_stays h.authority (omega (arith, was, there, place)) l.authority;
        number = λ y above. absurd (omega (arith, above, counts, of_train, numbers));
        ahead = omega (arith, ahead, hd, e, was);
      }

  pub entry_cut : (h : HeldPath) → EntryHeld line t s h → EntryHeld line t (x ∷ s) h
  entry_cut h e =
      let issued = e.issued in
      let last = last_same in
      record {
        path = path_stays line t x s first_steps h.authority (going.moved e.path.declared) e.path;
        authority = λ off. absurd (let q : true ≡ false = sym (entered_stays t x s now_.on) ∙ off in cc);
        first = first_is_stays line t x s h.authority e.path.declared e.first;
        issued = omega (arith, issued, last);
      }
