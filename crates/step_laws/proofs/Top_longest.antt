-- The longest authority of an account: that of the last number, or of the one before a shrink that is unanswered, where none that
-- counts ends farther.
use Rattle.std.proofs.Common.{◌≡◌, ℕ, ◌+◌, ◌-◌, ◌<◌, ◌≤◌, List, Option, Some, None, true, false, refl, sym, ◌∙◌, ap, subst, arith}
use Rattle.std.proofs.lemmas.Bool.Decides.{nat_tests}
use Rattle.std.specs.Prelude.{nat_eq, nat_lt}
use Rattle.list_laws.proofs.By_test.{by_test}
use Rattle.track_points.specs.declared.ids.DirSeg.{DirSeg}
use Rattle.track_points.specs.Points.{Lengths}
use Rattle.definitions.specs.World.{Authority, authority_end}
use Rattle.definitions.specs.Farther.{end_or_0}
use Rattle.definitions.specs.Account.{Account, farthest, longest_of, end_of, with_at}
use Rattle.journey_laws.proofs.Invariant.{SomeIs}
use Rattle.step_laws.proofs.Account_goes.{some_weaker}
use Rattle.step_laws.proofs.Taken_counts.{Counts, Refuses, Takes, Calm, counting, refusing}
use Rattle.step_laws.proofs.Farthest_none.{farthest_last, farthest_nearer}

-- it ends at a place or before it
abbrev pub EndsBy : Lengths → List DirSeg → ℕ → Authority → Type 0
EndsBy len steps end a = authority_end len steps a ≤ end

-- a shrink is unanswered: it has the last number, and the longest authority, which stood when it was issued, the one before
pub record IsPending (len : Lengths) (steps : List DirSeg) (v : Account) (a : Authority) (top : ℕ) : Type 0 where
  pub last : v.shrink ≡ v.issued
  pub one_below : top + 1 ≡ v.issued
  pub stood : v.stood ≡ Some a
  pub shorter : Authority
  pub shorter_is : v.reads v.shrink ≡ Some shorter
  pub nearer : authority_end len steps shorter < authority_end len steps a

-- the top number has an authority, and none that counts ends farther
pub record IsTop (len : Lengths) (steps : List DirSeg) (v : Account) (a : Authority) : Type 0 where
  pub top : ℕ
  pub top_is : v.reads top ≡ Some a
  pub counts : v.counted ≤ top
  pub most : v.counted ≤ v.issued
  pub each : (n : ℕ) → v.counted ≤ n → n ≤ v.issued → SomeIs (EndsBy len steps (authority_end len steps a)) (v.reads n)
  pub idle : v.shrink ≡ 0 → top ≡ v.issued
  pub pending : 0 < v.shrink → IsPending len steps v a top

module _ (len : Lengths) (steps : List DirSeg) (v : Account) (a : Authority) where
  top_most : (k : IsTop len steps v a) → k.top ≤ v.issued
  top_most k = by_test (nat_lt 0 v.shrink)
      (λ y. let p = (k.pending (grind (arith, nat_tests))).one_below in omega (arith, p))
      (λ n. let e = k.idle (grind (arith, nat_tests)) in omega (arith, e))

  pub top_longest : IsTop len steps v a → longest_of len steps v ≡ Some a
  top_longest k = by_test (nat_lt 0 v.shrink)
      (λ y.
      let p = k.pending (grind (arith, nat_tests)) in
      let one = p.one_below in
      let last = p.last in
      let before = farthest_last len steps v.reads v.counted k.top a k.counts k.top_is (λ n b l. k.each n b (omega (arith, l, one))) in
      let e = ap (λ (n : ℕ). farthest len steps v.reads v.counted (n + 1 - v.counted)) (sym one) in
      e ∙ farthest_nearer len steps v.reads v.counted k.top a p.shorter k.counts before (ap v.reads (omega (arith, one, last)) ∙ p.shorter_is) p.nearer)
      (λ n.
      let e = k.idle (grind (arith, nat_tests)) in
      farthest_last len steps v.reads v.counted v.issued a k.most (ap v.reads (sym e) ∙ k.top_is) k.each)

  pub top_end : IsTop len steps v a → end_of len steps v ≡ authority_end len steps a
  top_end k = ap (λ (b : Option Authority). end_or_0 len steps b) (top_longest k)

  -- on a journey on which all that counts ends where it did
  pub top_moves : (more : List DirSeg) → ((n : ℕ) → v.counted ≤ n → n ≤ v.issued → SomeIs (λ b. authority_end len more b ≡ authority_end len steps b) (v.reads n)) → IsTop len steps v a → IsTop len more v a
  top_moves more same k =
      let counts = k.counts in
      let own : authority_end len more a ≡ authority_end len steps a = subst (SomeIs (λ b. authority_end len more b ≡ authority_end len steps b)) k.top_is (same k.top k.counts (top_most k)) in
      record {
        top = k.top;
        top_is = k.top_is;
        counts = k.counts;
        most = k.most;
        each = λ n b l. ends_by (v.reads n) own (same n b l) (k.each n b l);
        idle = k.idle;
        pending = λ some.
            let p = k.pending some in
            let last = p.last in
            let one = p.one_below in
            let near = p.nearer in
            let other : authority_end len more p.shorter ≡ authority_end len steps p.shorter =
            subst (SomeIs (λ b. authority_end len more b ≡ authority_end len steps b)) p.shorter_is (same v.shrink (omega (arith, counts, one, last)) (omega (arith, last))) in
            record {
              last = last;
              one_below = one;
              stood = p.stood;
              shorter = p.shorter;
              shorter_is = p.shorter_is;
              nearer = omega (arith, near, other, own);
            };
      }
    where
      ends_by : (x : Option Authority) → authority_end len more a ≡ authority_end len steps a → SomeIs (λ b. authority_end len more b ≡ authority_end len steps b) x → SomeIs (EndsBy len steps (authority_end len steps a)) x → SomeIs (EndsBy len more (authority_end len more a)) x
      ends_by None own e h = tt
      ends_by (Some b) own e h = omega (arith, own, e, h)

  -- more numbers count
  top_counts : (w : Account) → Counts v w → IsTop len steps v a → IsTop len steps w a
  top_counts w c k =
      let issued = c.issued in
      let shrink = c.shrink in
      let rises = c.rises in
      let most = c.most k.most in
      record {
        top = k.top;
        top_is = ap (λ (r : ℕ → Option Authority). r k.top) c.reads ∙ k.top_is;
        counts = by_test (nat_lt 0 v.shrink)
            (λ y.
            let p = k.pending (grind (arith, nat_tests)) in
            let one = p.one_below in
            let last = p.last in
            let before = k.counts in
            let below = c.below last (omega (arith, before, one, last)) in
            omega (arith, below, one, last))
            (λ n. let e = k.idle (grind (arith, nat_tests)) in omega (arith, e, most));
        most = omega (arith, issued, most);
        each = λ n b l. subst (λ (r : ℕ → Option Authority). SomeIs (EndsBy len steps (authority_end len steps a)) (r n)) (sym c.reads) (k.each n (omega (arith, b, rises)) (omega (arith, l, issued)));
        idle = λ z. let e = k.idle (omega (arith, z, shrink)) in omega (arith, e, issued);
        pending = λ some.
            let p = k.pending (omega (arith, some, shrink)) in
            let last = p.last in
            let one = p.one_below in
            record {
              last = omega (arith, last, shrink, issued);
              one_below = omega (arith, one, issued);
              stood = c.stood ∙ p.stood;
              shorter = p.shorter;
              shorter_is = ap (λ (r : ℕ → Option Authority). r w.shrink) c.reads ∙ ap v.reads shrink ∙ p.shorter_is;
              nearer = p.nearer;
            };
      }

  -- the shrink counts as refused
  top_refuses : (w : Account) → Refuses v w → IsTop len steps v a → IsTop len steps w a
  top_refuses w r k =
      let p = k.pending r.some in
      let last = p.last in
      let issued = r.issued in
      let shrink = r.shrink in
      let counted = r.last last k.most in
      let own : nat_eq v.shrink v.shrink ≡ true = grind (arith, nat_tests) in
      let is : w.reads v.shrink ≡ Some a = ap (λ (f : ℕ → Option Authority). f v.shrink) r.reads ∙ rw own p.stood in
      record {
        top = v.shrink;
        top_is = is;
        counts = omega (arith, counted);
        most = omega (arith, counted, last, issued);
        each = λ n b l.
            let e : n ≡ v.shrink = omega (arith, b, l, counted, last, issued) in
            subst (SomeIs (EndsBy len steps (authority_end len steps a))) (sym (ap w.reads e ∙ is)) (omega arith);
        idle = λ z. omega (arith, last, issued);
        pending = λ some. absurd (omega (arith, some, shrink));
      }

  pub top_calm : (w : Account) → Calm v w → IsTop len steps v a → IsTop len steps w a
  top_calm w (counting c) k = top_counts w c k
  top_calm w (refusing r) k = top_refuses w r k

  -- it counts as taken: it is the longest
  pub top_cut : (w : Account) (k : IsTop len steps v a) (h : Takes v w) (shorter : Authority) → v.reads v.shrink ≡ Some shorter → IsTop len steps w shorter
  top_cut w k h shorter its =
      let above = h.above in
      let p = k.pending (omega (arith, above)) in
      let last = p.last in
      let issued = h.issued in
      let shrink = h.shrink in
      let counted = h.last in
      let is : w.reads v.shrink ≡ Some shorter = ap (λ (f : ℕ → Option Authority). f v.shrink) h.reads ∙ its in
      record {
        top = v.shrink;
        top_is = is;
        counts = omega (arith, counted);
        most = omega (arith, counted, last, issued);
        each = λ n b l.
            let e : n ≡ v.shrink = omega (arith, b, l, counted, last, issued) in
            subst (SomeIs (EndsBy len steps (authority_end len steps shorter))) (sym (ap w.reads e ∙ is)) (omega arith);
        idle = λ z. omega (arith, last, issued);
        pending = λ some. absurd (omega (arith, some, shrink));
      }

  -- a further number, whose authority ends no nearer
  pub top_longer : (number end : ℕ) → number ≡ v.issued + 1 → v.shrink ≡ 0 → ((n : ℕ) → v.counted ≤ n → n ≤ v.issued → SomeIs (EndsBy len steps end) (v.reads n)) → end ≤ authority_end len steps a → v.counted ≤ v.issued
      → IsTop len steps (record v { issued = number; reads = with_at number (Some a) v.reads }) a
  top_longer number end next idle each far most =
      let own : nat_eq number number ≡ true = grind (arith, nat_tests) in
      record {
        top = number;
        top_is = rw own refl;
        counts = omega (arith, most, next);
        most = omega (arith, most, next);
        each = λ n b l. by_test (nat_eq n number)
            (λ y. rw y (omega arith))
            (λ m.
            let within : n ≤ v.issued = grind (arith, nat_tests) in
            rw m (some_weaker (EndsBy len steps end) (EndsBy len steps (authority_end len steps a)) (λ c e. omega (arith, e, far)) (v.reads n) (each n b within)));
        idle = λ z. refl;
        pending = λ some. absurd (omega (arith, some, idle));
      }

  -- or one whose authority ends nearer
  pub top_shorter : (number : ℕ) (b : Authority) → number ≡ v.issued + 1 → v.shrink ≡ 0 → IsTop len steps v a → authority_end len steps b < authority_end len steps a
      → IsTop len steps (record v { issued = number; shrink = number; stood = longest_of len steps v; reads = with_at number (Some b) v.reads }) a
  top_shorter number b next none k near =
      let own : nat_eq number number ≡ true = grind (arith, nat_tests) in
      let top = k.idle none in
      let most = k.most in
      let other : nat_eq k.top number ≡ false = grind (arith, nat_tests) in
      record {
        top = k.top;
        top_is = rw other k.top_is;
        counts = k.counts;
        most = omega (arith, most, next);
        each = λ n g l. by_test (nat_eq n number)
            (λ y. rw y (omega (arith, near)))
            (λ m. let within : n ≤ v.issued = grind (arith, nat_tests) in rw m (k.each n g within));
        idle = λ z. absurd (omega (arith, z, next));
        pending = λ some. record {
          last = refl;
          one_below = omega (arith, top, next);
          stood = top_longest k;
          shorter = b;
          shorter_is = rw own refl;
          nearer = near;
        };
      }
