-- The numbers of a train's account one transition further: what is counted, and what is read of a number.
use Rattle.std.proofs.Common.{◌≡◌, ℕ, ◌<◌, ◌≤◌, List, [], ◌∷◌, Option, Some, None, true, false, refl, sym, ◌∙◌, ap, subst, arith}
use Rattle.std.proofs.lemmas.Bool.Decides.{nat_tests}
use Rattle.std.proofs.lemmas.Bool.{eqb-true, and_parts}
use Rattle.std.specs.Prelude.{nat_eq, nat_lt, length}
use Rattle.list_laws.proofs.By_test.{by_test}
use Rattle.track_points.specs.declared.ids.DirSeg.{DirSeg}
use Rattle.track_points.specs.declared.ids.TrainId.{TrainId}
use Rattle.track_points.specs.Points.{Lengths}
use Rattle.definitions.specs.declared.message.Msg.{Msg}
use Rattle.definitions.specs.declared.message.Msg.TheVariants as msg
use Rattle.definitions.specs.Track.{Line, seg_len}
use Rattle.definitions.specs.Story.{Transition, Story}
use Rattle.definitions.specs.World.{Authority, authority_end, journey}
use Rattle.definitions.specs.Control.{controls, last_issued}
use Rattle.definitions.specs.Farther.{end_or_0}
use Rattle.definitions.specs.Account.{Account, longest_of, end_of, issues, with_at}
use Rattle.definitions.specs.Fold.{account, acts, issues_one, issues_all}
use Rattle.definitions.specs.Longest.{counted}
use Rattle.definitions.specs.Zones.{zone_id}
use Rattle.event_laws.proofs.Issued_all.{AllIn, AuthHas, NoAuth}
use Rattle.event_laws.proofs.Account_next.{account_next, all_numbered, issued_is, all_quiet}
use Rattle.journey_laws.proofs.Invariant.{end_read, AuthorityIs, SomeIs, Authorized}
use Rattle.journey_laws.proofs.First_steps.{FirstSteps, read_same}
use Rattle.step_laws.proofs.Taken_counts.{Calm, Takes, Took, counting, refusing, calm, taking, took_issued, took_rises, took_most, took_reads, took_have, takes_some, cuts}
use Rattle.step_laws.proofs.Acts_count.{acts_calm, acts_takes, acts_took}

pub some_weaker : (P Q : Authority → Type 0) → ((a : Authority) → P a → Q a) → (x : Option Authority) → SomeIs P x → SomeIs Q x
some_weaker P Q w None h = tt
some_weaker P Q w (Some a) h = w a h

-- What is issued.

module _ (len : Lengths) (steps : List DirSeg) (t : ℕ) where
  all_one : (issued : List (ℕ × Msg)) (u : TrainId) (number : ℕ) (a : Authority) (v : Account) → issued ≡ (0, msg.Auth u number a.mark a.path) ∷ [] → nat_eq u.0 t ≡ true
      → issues_all len steps t issued v ≡ issues len steps number a v
  unfolding issues_all
  all_one issued u number a v is its = ap (λ (l : List (ℕ × Msg)). issues_all len steps t l v) is ∙ rw its refl

module _ (len : Lengths) (steps : List DirSeg) (t n : ℕ) where
  issues_stays : (number : ℕ) (a : Authority) (v : Account) → n ≤ v.issued → ((issues len steps number a v).reads n ≡ v.reads n) × (v.issued ≤ (issues len steps number a v).issued)
  issues_stays number a v h = by_test (nat_lt v.issued number)
      (λ y.
      let other : nat_eq n number ≡ false = grind (arith, nat_tests) in
      let le : v.issued ≤ number = grind (arith, nat_tests) in
      by_test (nat_lt (end_or_0 len steps (Some a)) (end_of len steps v))
      (λ k. rw (y, k, other) (refl, le))
      (λ k. rw (y, k, other) (refl, le)))
      (λ m. rw m (refl, omega arith))

  one_stays : (m : Msg) (v : Account) → n ≤ v.issued → ((issues_one len steps t m v).reads n ≡ v.reads n) × (v.issued ≤ (issues_one len steps t m v).issued)
  one_stays (msg.Auth u number mark path) v h = by_test (nat_eq u.0 t) (λ y. rw y (issues_stays number (record { mark = mark; path = path }) v h)) (λ o. rw o (refl, omega arith))
  one_stays _ v h = (refl, omega arith)

  all_stay : (issued : List (ℕ × Msg)) (v : Account) → n ≤ v.issued → (issues_all len steps t issued v).reads n ≡ v.reads n
  unfolding issues_all
  all_stay [] v h = refl
  all_stay (x ∷ issued) v h =
      let o = one_stays x.1 v h in
      let le = o.1 in
      all_stay issued (issues_one len steps t x.1 v) (omega (arith, h, le)) ∙ o.0

module _ (Q : Authority → Type 0) (len : Lengths) (steps : List DirSeg) (t : ℕ) where
  issues_have : (number : ℕ) (a : Authority) (v : Account) (n : ℕ) → Q a → SomeIs Q (v.reads n) → SomeIs Q ((issues len steps number a v).reads n)
  issues_have number a v n q h = by_test (nat_lt v.issued number)
      (λ y. by_test (nat_lt (end_or_0 len steps (Some a)) (end_of len steps v))
      (λ k. by_test (nat_eq n number) (λ e. rw (y, k, e) q) (λ e. rw (y, k, e) h))
      (λ k. by_test (nat_eq n number) (λ e. rw (y, k, e) q) (λ e. rw (y, k, e) h)))
      (λ m. rw m h)

  one_has : (m : Msg) (v : Account) (n : ℕ) → AuthHas Q t m → SomeIs Q (v.reads n) → SomeIs Q ((issues_one len steps t m v).reads n)
  one_has (msg.Auth u number mark path) v n q h = by_test (nat_eq u.0 t) (λ y. rw y (issues_have number (record { mark = mark; path = path }) v n (q y) h)) (λ o. rw o h)
  one_has _ v n q h = h

  all_have : (issued : List (ℕ × Msg)) (v : Account) (n : ℕ) → AllIn (AuthHas Q t) issued → SomeIs Q (v.reads n) → SomeIs Q ((issues_all len steps t issued v).reads n)
  unfolding AllIn issues_all
  all_have [] v n q h = h
  all_have (x ∷ issued) v n q h = all_have issued (issues_one len steps t x.1 v) n q.1 (one_has x.1 v n q.0 h)

issues_again : (len : Lengths) (steps : List DirSeg) (number : ℕ) (a : Authority) (v : Account) → number ≤ v.issued → issues len steps number a v ≡ v
issues_again len steps number a v h = let no : nat_lt v.issued number ≡ false = grind (arith, nat_tests) in rw no refl

issues_longer : (len : Lengths) (steps : List DirSeg) (number : ℕ) (a : Authority) (v : Account) → v.issued < number → end_of len steps v ≤ authority_end len steps a
    → issues len steps number a v ≡ record v { issued = number; reads = with_at number (Some a) v.reads }
issues_longer len steps number a v h far =
    let new : nat_lt v.issued number ≡ true = grind (arith, nat_tests) in
    let longer : nat_lt (authority_end len steps a) (end_of len steps v) ≡ false = grind (arith, nat_tests) in
    rw (new, longer) refl

issues_shorter : (len : Lengths) (steps : List DirSeg) (number : ℕ) (a : Authority) (v : Account) → v.issued < number → authority_end len steps a < end_of len steps v
    → issues len steps number a v ≡ record v { issued = number; shrink = number; stood = longest_of len steps v; reads = with_at number (Some a) v.reads }
issues_shorter len steps number a v h near =
    let new : nat_lt v.issued number ≡ true = grind (arith, nat_tests) in
    let shorter : nat_lt (authority_end len steps a) (end_of len steps v) ≡ true = grind (arith, nat_tests) in
    rw (new, shorter) refl

-- No number above the last is read.

record Unread (v : Account) : Type 0 where
  shrink : v.shrink ≤ v.issued
  none : (n : ℕ) → v.issued < n → v.reads n ≡ None

unread_took : (v w : Account) → Unread v → Took v w → Unread w
unread_took v w u (calm (counting c)) =
    let shrink = c.shrink in
    let issued = c.issued in
    let most = u.shrink in
    record { shrink = omega (arith, shrink, issued, most); none = λ n h. ap (λ (r : ℕ → Option Authority). r n) c.reads ∙ u.none n (omega (arith, h, issued)) }
unread_took v w u (calm (refusing r)) =
    let shrink = r.shrink in
    let issued = r.issued in
    let most = u.shrink in
    record {
      shrink = omega (arith, shrink);
      none = λ n h. let other : nat_eq n v.shrink ≡ false = grind (arith, nat_tests) in ap (λ (f : ℕ → Option Authority). f n) r.reads ∙ rw other (u.none n (omega (arith, h, issued)));
    }
unread_took v w u (taking k) =
    let shrink = k.shrink in
    let issued = k.issued in
    record { shrink = omega (arith, shrink); none = λ n h. ap (λ (r : ℕ → Option Authority). r n) k.reads ∙ u.none n (omega (arith, h, issued)) }

module _ (len : Lengths) (steps : List DirSeg) (t : ℕ) where
  unread_issues : (number : ℕ) (a : Authority) (v : Account) → Unread v → Unread (issues len steps number a v)
  unread_issues number a v u = by_test (nat_lt v.issued number)
      (λ y.
      let more : v.issued < number = grind (arith, nat_tests) in
      let most = u.shrink in
      let none : (n : ℕ) → number < n → with_at number (Some a) v.reads n ≡ None = λ n h. let other : nat_eq n number ≡ false = grind (arith, nat_tests) in rw other (u.none n (omega (arith, h, more))) in
      by_test (nat_lt (end_or_0 len steps (Some a)) (end_of len steps v))
      (λ k. rw (y, k) (record { shrink = omega arith; none = none }))
      (λ k. rw (y, k) (record { shrink = omega (arith, more, most); none = none })))
      (λ m. rw m u)

  unread_one : (m : Msg) (v : Account) → Unread v → Unread (issues_one len steps t m v)
  unread_one (msg.Auth u number mark path) v k = by_test (nat_eq u.0 t) (λ y. rw y (unread_issues number (record { mark = mark; path = path }) v k)) (λ n. rw n k)
  unread_one _ v k = k

  unread_all : (issued : List (ℕ × Msg)) (v : Account) → Unread v → Unread (issues_all len steps t issued v)
  unfolding issues_all
  unread_all [] v k = k
  unread_all (x ∷ issued) v k = unread_all issued (issues_one len steps t x.1 v) (unread_one x.1 v k)

account_unread : (line : Line) (t : ℕ) (s : Story) → Unread (account line t s)
unfolding account
account_unread line t [] = record { shrink = omega arith; none = λ n h. refl }
account_unread line t (x ∷ s) =
    let v = account line t s in
    let steps = journey line t s in
    unread_all (seg_len line) steps t x.issued (acts (seg_len line) t x s steps v) (unread_took v (acts (seg_len line) t x s steps v) (account_unread line t s) (acts_took (seg_len line) t x s steps v))

pub unissued : (line : Line) (t : ℕ) (s : Story) (n : ℕ) → last_issued t s < n → (account line t s).reads n ≡ None
unissued line t s n h = let e = issued_is line t s in (account_unread line t s).none n (omega (arith, h, e))

-- One transition further.
module _ (line : Line) (t : ℕ) (x : Transition) (s : Story) where
  abbrev len : Lengths
  len = seg_len line

  abbrev steps : List DirSeg
  steps = journey line t s

  abbrev v : Account
  v = account line t s

  -- the account after what the zone took
  abbrev pub account_taken : Account
  account_taken = acts (seg_len line) t x s (journey line t s) (account line t s)

  taken_took : Took (account line t s) (acts (seg_len line) t x s (journey line t s) (account line t s))
  taken_took = acts_took len t x s steps v

  pub counted_taken : counted line t (x ∷ s) ≡ (acts (seg_len line) t x s (journey line t s) (account line t s)).counted
  counted_taken = ap (λ (w : Account). w.counted) (account_next line t x s) ∙ (all_numbered len steps t x.issued account_taken).counted_same

  pub counted_rises : counted line t s ≤ counted line t (x ∷ s)
  counted_rises = let e = counted_taken in let r = took_rises v account_taken taken_took in omega (arith, e, r)

  -- no authority of the train
  pub account_quiet : NoAuth t x.issued → account line t (x ∷ s) ≡ acts (seg_len line) t x s (journey line t s) (account line t s)
  account_quiet quiet = account_next line t x s ∙ all_quiet len steps t x.issued account_taken quiet

  module _ (u : TrainId) (number : ℕ) (a : Authority) (issued : x.issued ≡ (0, msg.Auth u number a.mark a.path) ∷ []) (its : nat_eq u.0 t ≡ true) where
    issued_one : account line t (x ∷ s) ≡ issues (seg_len line) (journey line t s) number a (acts (seg_len line) t x s (journey line t s) (account line t s))
    issued_one = account_next line t x s ∙ all_one len steps t x.issued u number a account_taken issued its

    -- one that was issued before
    pub account_again : number ≤ (account line t s).issued → account line t (x ∷ s) ≡ acts (seg_len line) t x s (journey line t s) (account line t s)
    account_again h = let c = took_issued v account_taken taken_took in issued_one ∙ issues_again len steps number a account_taken (omega (arith, h, c))

    -- a further one, which ends no nearer than the longest
    pub account_longer : (account line t s).issued < number → end_of (seg_len line) (journey line t s) (acts (seg_len line) t x s (journey line t s) (account line t s)) ≤ authority_end (seg_len line) (journey line t s) a
        → account line t (x ∷ s)
        ≡ record (acts (seg_len line) t x s (journey line t s) (account line t s)) { issued = number; reads = with_at number (Some a) (acts (seg_len line) t x s (journey line t s) (account line t s)).reads }
    account_longer h far = let c = took_issued v account_taken taken_took in issued_one ∙ issues_longer len steps number a account_taken (omega (arith, h, c)) far

    -- or nearer
    pub account_shorter : (account line t s).issued < number → authority_end (seg_len line) (journey line t s) a < end_of (seg_len line) (journey line t s) (acts (seg_len line) t x s (journey line t s) (account line t s))
        → account line t (x ∷ s)
        ≡ record (acts (seg_len line) t x s (journey line t s) (account line t s)) {
          issued = number;
          shrink = number;
          stood = longest_of (seg_len line) (journey line t s) (acts (seg_len line) t x s (journey line t s) (account line t s));
          reads = with_at number (Some a) (acts (seg_len line) t x s (journey line t s) (account line t s)).reads;
        }
    account_shorter h near = let c = took_issued v account_taken taken_took in issued_one ∙ issues_shorter len steps number a account_taken (omega (arith, h, c)) near

  -- what is read of a number that was issued before is what the zone took leaves of it
  pub reads_taken : (n : ℕ) → n ≤ last_issued t s → (account line t (x ∷ s)).reads n ≡ (acts (seg_len line) t x s (journey line t s) (account line t s)).reads n
  reads_taken n h =
      let i = took_issued v account_taken taken_took in
      let e = issued_is line t s in
      ap (λ (w : Account). w.reads n) (account_next line t x s) ∙ all_stay len steps t n x.issued account_taken (omega (arith, i, e, h))

  -- what holds of all that was read, of what stood and of what is issued holds of all that is read
  pub reads_have : (Q : Authority → Type 0) (n : ℕ) → AllIn (AuthHas Q t) x.issued → SomeIs Q ((account line t s).reads n) → (0 < (account line t s).shrink → SomeIs Q (account line t s).stood)
      → SomeIs Q ((account line t (x ∷ s)).reads n)
  reads_have Q n q h stood =
      subst (λ (w : Account). SomeIs Q (w.reads n)) (sym (account_next line t x s))
      (all_have Q len steps t x.issued account_taken n q (took_have Q v account_taken taken_took n h stood))

  module _ (k : Authorized line t s) where
    pub counted_issued : (account line t s).counted ≤ (account line t s).issued
    counted_issued = let m = k.counted_most in let e = issued_is line t s in omega (arith, m, e)

    pub last_shrink : 0 < (account line t s).shrink → (account line t s).shrink ≡ (account line t s).issued
    last_shrink some = by_test (controls (zone_id line) t s)
        (λ c. let g = (k.controlled c).shrink (grind (arith, nat_tests)) in g.last ∙ sym (issued_is line t s))
        (λ n. let z = k.unshrunk n in absurd (omega (arith, z, some)))

    pub counted_next : counted line t (x ∷ s) ≤ last_issued t s
    counted_next =
        let m = took_most v account_taken last_shrink counted_issued taken_took in
        let e = issued_is line t s in
        let c = counted_taken in
        omega (arith, m, e, c)

    -- a number above the greatest counted reads what it did
    pub reads_stay : (n : ℕ) → n ≤ last_issued t s → counted line t (x ∷ s) < n → (account line t (x ∷ s)).reads n ≡ (account line t s).reads n
    reads_stay n h above =
        let c = counted_taken in
        reads_taken n h ∙ took_reads v account_taken last_shrink counted_issued taken_took n (omega (arith, above, c))

    -- and ends where it did, as the first steps of the journey stay
    pub read_stays : FirstSteps line t x s → (n : ℕ) → n ≤ last_issued t s → counted line t (x ∷ s) < n → end_read line t (x ∷ s) n ≡ end_read line t s n
    read_stays first n h above =
        let rises = counted_rises in
        let old = (account line t s).reads n in
        ap (λ (r : Option Authority). end_or_0 len (journey line t (x ∷ s)) r) (reads_stay n h above)
        ∙ read_same line t x s first old (some_weaker (AuthorityIs line t s) (λ a. a.mark ≤ length (journey line t s)) (λ a i. i.mark) old (k.reads n (omega (arith, rises, above)) h))

    -- the longest authority stays but for a shrink that counts as taken
    pub taken_calm : cuts line t x s ≡ false → Calm (account line t s) (acts (seg_len line) t x s (journey line t s) (account line t s))
    taken_calm none = acts_calm len t x s steps v (by_test (controls x.actor t s)
        (λ c.
        let alone = k.zone_alone x.actor c in
        let own : nat_eq x.actor (zone_id line) ≡ true = grind (arith, nat_tests) in
        rw c (rw own at none))
        (λ n. rw n refl))

    pub taken_cut : cuts line t x s ≡ true → controls (zone_id line) t s ≡ true → Takes (account line t s) (acts (seg_len line) t x s (journey line t s) (account line t s))
    taken_cut h c =
        let a = and_parts (nat_eq x.actor (zone_id line)) (takes_some t v x.took) h in
        acts_takes len t x s steps v (subst (λ (z : ℕ). controls z t s ≡ true) (sym (eqb-true x.actor (zone_id line) a.0)) c) a.1
