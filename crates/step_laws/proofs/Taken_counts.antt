-- What a message makes of the numbers of a train's account: more of them count, or the shrink that is unanswered counts as refused, or
-- as taken.
use Rattle.std.proofs.Common.{◌≡◌, ℕ, ◌<◌, ◌≤◌, Option, Some, None, Bool, true, false, ◌&&◌, refl, sym, ◌∙◌, ap, subst, arith}
use Rattle.std.proofs.lemmas.Bool.Decides.{nat_tests}
use Rattle.std.proofs.lemmas.Bool.{and_parts}
use Rattle.std.specs.Prelude.{List, nat_eq, nat_lt}
use Rattle.list_laws.proofs.By_test.{by_test}
use Rattle.track_points.specs.declared.ids.DirSeg.{DirSeg}
use Rattle.track_points.specs.Points.{Lengths}
use Rattle.definitions.specs.declared.message.Msg.{Msg}
use Rattle.definitions.specs.declared.message.Msg.TheVariants as msg
use Rattle.definitions.specs.Track.{Line}
use Rattle.definitions.specs.Story.{Transition, Story}
use Rattle.definitions.specs.World.{Authority}
use Rattle.definitions.specs.Account.{Account, shrink_end, is_new, takes_shrink, answered, passed, with_at}
use Rattle.definitions.specs.Fold.{account, counts}
use Rattle.definitions.specs.Zones.{zone_id}
use Rattle.journey_laws.proofs.Invariant.{SomeIs}
use Rattle.step_laws.proofs.Fronts_numbers.{takes_by}

-- more numbers count, and the shrink stays unanswered
pub record Counts (v w : Account) : Type 0 where
  pub shrink : w.shrink ≡ v.shrink
  pub stood : w.stood ≡ v.stood
  pub reads : w.reads ≡ v.reads
  pub issued : w.issued ≡ v.issued
  pub rises : v.counted ≤ w.counted
  pub most : v.counted ≤ v.issued → w.counted ≤ v.issued
  pub below : v.shrink ≡ v.issued → v.counted < v.shrink → w.counted < v.shrink

-- the shrink counts as refused: its number reads what stood
pub record Refuses (v w : Account) : Type 0 where
  pub some : 0 < v.shrink
  pub shrink : w.shrink ≡ 0
  pub reads : w.reads ≡ with_at v.shrink v.stood v.reads
  pub issued : w.issued ≡ v.issued
  pub rises : v.counted ≤ w.counted
  pub last : v.shrink ≡ v.issued → v.counted ≤ v.issued → w.counted ≡ v.shrink

-- the shrink counts as taken
pub record Takes (v w : Account) : Type 0 where
  pub above : v.counted < v.shrink
  pub shrink : w.shrink ≡ 0
  pub reads : w.reads ≡ v.reads
  pub issued : w.issued ≡ v.issued
  pub last : w.counted ≡ v.shrink

-- the longest authority stays
pub data Calm (v w : Account) : Type 0 where
  counting : Counts v w → Calm v w
  refusing : Refuses v w → Calm v w

pub data Took (v w : Account) : Type 0 where
  calm : Calm v w → Took v w
  taking : Takes v w → Took v w

-- a shrink that is unanswered has the last number
abbrev pub LastShrink : Account → Type 0
LastShrink v = 0 < v.shrink → v.shrink ≡ v.issued

-- Whatever it makes of them.

pub took_issued : (v w : Account) → Took v w → w.issued ≡ v.issued
took_issued v w (calm (counting c)) = c.issued
took_issued v w (calm (refusing r)) = r.issued
took_issued v w (taking k) = k.issued

pub took_rises : (v w : Account) → Took v w → v.counted ≤ w.counted
took_rises v w (calm (counting c)) = c.rises
took_rises v w (calm (refusing r)) = r.rises
took_rises v w (taking k) = let a = k.above in let l = k.last in omega (arith, a, l)

pub took_most : (v w : Account) → LastShrink v → v.counted ≤ v.issued → Took v w → w.counted ≤ v.issued
took_most v w last most (calm (counting c)) = c.most most
took_most v w last most (calm (refusing r)) = let e = r.last (last r.some) most in let l = last r.some in omega (arith, e, l)
took_most v w last most (taking k) = let a = k.above in let l = last (omega (arith, a)) in let e = k.last in omega (arith, e, l)

-- a number above the greatest counted reads what it did
pub took_reads : (v w : Account) → LastShrink v → v.counted ≤ v.issued → Took v w → (n : ℕ) → w.counted < n → w.reads n ≡ v.reads n
took_reads v w last most (calm (counting c)) n h = ap (λ (r : ℕ → Option Authority). r n) c.reads
took_reads v w last most (calm (refusing r)) n h =
    let e = r.last (last r.some) most in
    let other : nat_eq n v.shrink ≡ false = grind (arith, nat_tests) in
    ap (λ (f : ℕ → Option Authority). f n) r.reads ∙ rw other refl
took_reads v w last most (taking k) n h = ap (λ (r : ℕ → Option Authority). r n) k.reads

-- what holds of all that was read, and of what stood, holds of all that is read
pub took_have : (Q : Authority → Type 0) (v w : Account) → Took v w → (n : ℕ) → SomeIs Q (v.reads n) → (0 < v.shrink → SomeIs Q v.stood) → SomeIs Q (w.reads n)
took_have Q v w (calm (counting c)) n h stood = subst (λ (r : ℕ → Option Authority). SomeIs Q (r n)) (sym c.reads) h
took_have Q v w (calm (refusing r)) n h stood =
    subst (λ (f : ℕ → Option Authority). SomeIs Q (f n)) (sym r.reads)
    (by_test (nat_eq n v.shrink) (λ y. rw y (stood r.some)) (λ m. rw m h))
took_have Q v w (taking k) n h stood = subst (λ (r : ℕ → Option Authority). SomeIs Q (r n)) (sym k.reads) h

-- One after the other.

then_counts : (v w u : Account) → Counts v w → Counts w u → Counts v u
then_counts v w u a b =
    let shrink = a.shrink in
    let issued = a.issued in
    let first_ = a.rises in
    let second = b.rises in
    record {
      shrink = b.shrink ∙ a.shrink;
      stood = b.stood ∙ a.stood;
      reads = b.reads ∙ a.reads;
      issued = b.issued ∙ a.issued;
      rises = omega (arith, first_, second);
      most = λ h. let m = a.most h in let n = b.most (omega (arith, m, issued)) in omega (arith, n, issued);
      below = λ l h. let m = a.below l h in let n = b.below (omega (arith, l, shrink, issued)) (omega (arith, m, shrink)) in omega (arith, n, shrink);
    }

then_refuses : (v w u : Account) → Counts v w → Refuses w u → Refuses v u
then_refuses v w u a b =
    let shrink = a.shrink in
    let issued = a.issued in
    let some = b.some in
    let first_ = a.rises in
    let second = b.rises in
    record {
      some = omega (arith, some, shrink);
      shrink = b.shrink;
      reads = b.reads ∙ (ap (λ (n : ℕ). with_at n w.stood w.reads) shrink ∙ (ap (λ (o : Option Authority). with_at v.shrink o w.reads) a.stood ∙ ap (with_at v.shrink v.stood) a.reads));
      issued = b.issued ∙ a.issued;
      rises = omega (arith, first_, second);
      last = λ l h. let m = a.most h in let e = b.last (omega (arith, l, shrink, issued)) (omega (arith, m, issued)) in omega (arith, e, shrink);
    }

refused_counts : (v w u : Account) → Refuses v w → Counts w u → Refuses v u
refused_counts v w u a b =
    let issued = a.issued in
    let first_ = a.rises in
    let second = b.rises in
    record {
      some = a.some;
      shrink = b.shrink ∙ a.shrink;
      reads = b.reads ∙ a.reads;
      issued = b.issued ∙ a.issued;
      rises = omega (arith, first_, second);
      last = λ l h. let e = a.last l h in let m = b.most (omega (arith, e, l, issued)) in omega (arith, e, m, second, issued, l);
    }

pub then_calm : (v w u : Account) → Calm v w → Calm w u → Calm v u
then_calm v w u (counting a) (counting b) = counting (then_counts v w u a b)
then_calm v w u (counting a) (refusing b) = refusing (then_refuses v w u a b)
then_calm v w u (refusing a) (counting b) = refusing (refused_counts v w u a b)
then_calm v w u (refusing a) (refusing b) = let z = a.shrink in let some = b.some in absurd (omega (arith, z, some))

-- An account with the same numbers.

pub record Same (v w : Account) : Type 0 where
  pub shrink : w.shrink ≡ v.shrink
  pub stood : w.stood ≡ v.stood
  pub reads : w.reads ≡ v.reads
  pub issued : w.issued ≡ v.issued
  pub counted : w.counted ≡ v.counted

same_counts : (v w : Account) → Same v w → Counts v w
same_counts v w a =
    let shrink = a.shrink in
    let issued = a.issued in
    let counted = a.counted in
    record {
      shrink = shrink;
      stood = a.stood;
      reads = a.reads;
      issued = issued;
      rises = omega (arith, counted);
      most = λ h. omega (arith, h, counted);
      below = λ l h. omega (arith, h, counted);
    }

pub same_calm : (v w : Account) → Same v w → Calm v w
same_calm v w a = counting (same_counts v w a)

pub no_change : (v : Account) → Same v v
no_change v = record { shrink = refl; stood = refl; reads = refl; issued = refl; counted = refl }

pub same_takes : (v w u : Account) → Takes v w → Same w u → Takes v u
same_takes v w u a b = record {
  above = a.above;
  shrink = b.shrink ∙ a.shrink;
  reads = b.reads ∙ a.reads;
  issued = b.issued ∙ a.issued;
  last = b.counted ∙ a.last;
}

-- The numbers of a message.

answered_calm : (number : ℕ) (taken : Bool) (v : Account) → takes_shrink number taken v ≡ false → Calm v (answered number taken v)
answered_calm number taken v none = by_test (is_new number v)
    (λ new. by_test (nat_eq number v.shrink)
    (λ its. by_test taken
    (λ y. absurd (let c : true ≡ false = rw (new, its, y) at none in cc))
    (λ y.
    let some : 0 < v.shrink = grind (arith, nat_tests) in
    rw (new, its, y) (refusing (record {
      some = some;
      shrink = refl;
      reads = refl;
      issued = refl;
      rises = omega arith;
      last = λ l h. omega (arith, l, h);
    }))))
    (λ other.
    let more : v.counted < number = grind (arith, nat_tests) in
    let within : number ≤ v.issued = grind (arith, nat_tests) in
    rw (new, other) (counting (record {
      shrink = refl;
      stood = refl;
      reads = refl;
      issued = refl;
      rises = omega (arith, more);
      most = λ h. within;
      below = λ l h. grind (arith, nat_tests);
    }))))
    (λ old. rw old (same_calm v v (no_change v)))

answered_takes : (number : ℕ) (taken : Bool) (v : Account) → takes_shrink number taken v ≡ true → Takes v (answered number taken v)
answered_takes number taken v h =
    let a = and_parts (is_new number v) (nat_eq number v.shrink && taken) h in
    let b = and_parts (nat_eq number v.shrink) taken a.1 in
    let new = a.0 in
    let its = b.0 in
    let y = b.1 in
    let e : number ≡ v.shrink = grind (arith, nat_tests) in
    let above : v.counted < v.shrink = grind (arith, nat_tests) in
    rw (new, its, y) (record { above = above; shrink = refl; reads = refl; issued = refl; last = e })

pub counts_calm : (t : ℕ) (m : Msg) (v : Account) → takes_by t v m ≡ false → Calm v (counts t m v)
counts_calm t (msg.Answer u time number taken) v none = by_test (nat_eq u.0 t)
    (λ y. rw y (answered_calm number taken v (rw y at none)))
    (λ n. rw n (same_calm v v (no_change v)))
counts_calm t _ v none = same_calm v v (no_change v)

pub counts_takes : (t : ℕ) (m : Msg) (v : Account) → takes_by t v m ≡ true → Takes v (counts t m v)
counts_takes t (msg.Answer u time number taken) v h =
    let a = and_parts (nat_eq u.0 t) (takes_shrink number taken v) h in
    let its = a.0 in
    rw its (answered_takes number taken v a.1)
counts_takes t _ v h = absurd cc

pub passed_calm : (len : Lengths) (steps : List DirSeg) (least : ℕ) (w : Account) → Calm w (passed len steps least w)
passed_calm len steps least w = by_test (nat_lt 0 w.shrink && nat_lt (shrink_end len steps w) least)
    (λ y.
    let some : 0 < w.shrink = grind (arith, nat_tests) in
    rw y (refusing (record {
      some = some;
      shrink = refl;
      reads = refl;
      issued = refl;
      rises = omega arith;
      last = λ l h. omega (arith, l, h);
    })))
    (λ n. rw n (same_calm w w (no_change w)))

-- no shrink is passed where none is unanswered
pub passed_none : (len : Lengths) (steps : List DirSeg) (least : ℕ) (w : Account) → w.shrink ≡ 0 → passed len steps least w ≡ w
passed_none len steps least w none =
    let no : nat_lt 0 w.shrink ≡ false = grind (arith, nat_tests) in
    rw no refl

-- what is taken is an answer of the train
abbrev pub answers : ℕ → Option (ℕ × Msg) → Bool
answers t (Some (from, msg.Answer u time number taken)) = nat_eq u.0 t
answers t _ = false

pub uncounted : (t from : ℕ) (m : Msg) (v : Account) → answers t (Some (from, m)) ≡ false → counts t m v ≡ v
uncounted t from (msg.Answer u time number taken) v h = rw h refl
uncounted t from _ v h = refl

-- what is taken is the answer by which the shrink counts as taken
abbrev pub takes_some : ℕ → Account → Option (ℕ × Msg) → Bool
takes_some t v None = false
takes_some t v (Some x) = takes_by t v x.1

-- the line's zone takes the answer by which the train's longest authority is cut
abbrev pub cuts : Line → ℕ → Transition → Story → Bool
cuts line t x s = nat_eq x.actor (zone_id line) && takes_some t (account line t s) x.took

pub unanswered_takes : (t : ℕ) (v : Account) (took : Option (ℕ × Msg)) → answers t took ≡ false → takes_some t v took ≡ false
unanswered_takes t v None h = refl
unanswered_takes t v (Some (from, msg.Answer u time number taken)) h = rw h refl
unanswered_takes t v (Some (from, _)) h = refl

-- no answer takes a shrink where none is unanswered
pub none_taken : (t : ℕ) (v : Account) (took : Option (ℕ × Msg)) → v.shrink ≡ 0 → takes_some t v took ≡ false
none_taken t v None none = refl
none_taken t v (Some (from, msg.Answer u time number taken)) none = grind (arith, nat_tests)
none_taken t v (Some (from, _)) none = refl
