-- The account and its notions one transition further.
use Rattle.std.proofs.Common.{◌≡◌, ℕ, max, List, [], ◌∷◌, Option, Some, None, Bool, true, false, ◌&&◌, refl, sym, ◌∙◌, ap, subst, arith, nat_le, nat_lt, nat_eq}
use Rattle.std.proofs.lemmas.Bool.{eqb-true, and_parts}
use Rattle.std.proofs.lemmas.Bool.Decides.{nat_tests}
use Rattle.list_laws.proofs.By_test.{by_test}
use Rattle.track_points.specs.declared.ids.DirSeg.{DirSeg}
use Rattle.track_points.specs.Points.{Lengths}
use Rattle.definitions.specs.declared.message.Msg.{Msg}
use Rattle.definitions.specs.declared.message.Msg.TheVariants as msg
use Rattle.definitions.specs.Track.{Line, seg_len}
use Rattle.definitions.specs.Story.{Transition, Story, greatest_in, greatest_issued}
use Rattle.definitions.specs.World.{Authority, journey, is_auth, auth_number}
use Rattle.definitions.specs.Control.{grants_entry, controls, asked_facts, last_issued, now_with}
use Rattle.definitions.specs.Farther.{end_or_0}
use Rattle.definitions.specs.Account.{Account, end_of, shrink_end, least_of, issues, answered, refused, passed, based, with_fronts, with_at}
use Rattle.definitions.specs.Fold.{account, acts, heard, heard_some, counts, fronts_heard, issues_one, issues_all}
use Rattle.definitions.specs.Longest.{counted}
use Rattle.definitions.specs.Fronts.{possible_front, fronts_taken}
use Rattle.event_laws.proofs.Issued_all.{AllIn, NoAuth}

pub account_next : (line : Line) (t : ℕ) (e : Transition) (s : Story)
    → account line t (e ∷ s) ≡ issues_all (seg_len line) (journey line t s) t e.issued (acts (seg_len line) t e s (journey line t s) (account line t s))
unfolding account
account_next line t e s = refl

-- What is issued changes the numbers alone.

pub record Numbered (v w : Account) (most : ℕ) : Type 0 where
  pub fronts : w.fronts ≡ v.fronts
  pub base : w.base ≡ v.base
  pub counted_same : w.counted ≡ v.counted
  pub issued : w.issued ≡ max most v.issued

module _ (len : Lengths) (steps : List DirSeg) (t : ℕ) where
  one_numbered : (number : ℕ) (a : Authority) (v : Account) → Numbered v (issues len steps number a v) number
  one_numbered number a v = by_test (nat_lt v.issued number)
      (λ y. by_test (nat_lt (end_or_0 len steps (Some a)) (end_of len steps v))
      (λ k. let g : max number v.issued ≡ number = grind (arith, nat_tests) in rw (y, k) (record { fronts = refl; base = refl; counted_same = refl; issued = sym g }))
      (λ k. let g : max number v.issued ≡ number = grind (arith, nat_tests) in rw (y, k) (record { fronts = refl; base = refl; counted_same = refl; issued = sym g })))
      (λ n. let g : max number v.issued ≡ v.issued = grind (arith, nat_tests) in rw n (record { fronts = refl; base = refl; counted_same = refl; issued = sym g }))

  same_numbered : (v : Account) → Numbered v v 0
  same_numbered v = record { fronts = refl; base = refl; counted_same = refl; issued = omega arith }

  message_numbered : (m : Msg) (v : Account) → Numbered v (issues_one len steps t m v) (auth_number t m)
  message_numbered (msg.Auth u number mark path) v = by_test (nat_eq u.0 t) (λ y. rw y (one_numbered number (record { mark = mark; path = path }) v)) (λ n. rw n (same_numbered v))
  message_numbered _ v = same_numbered v

  pub all_numbered : (issued : List (ℕ × Msg)) (v : Account) → Numbered v (issues_all len steps t issued v) (greatest_in (auth_number t) issued)
  unfolding issues_all greatest_in
  all_numbered [] v = same_numbered v
  all_numbered (x ∷ issued) v =
      let a = message_numbered x.1 v in
      let b = all_numbered issued (issues_one len steps t x.1 v) in
      let n = a.issued in
      let m = b.issued in
      record { fronts = b.fronts ∙ a.fronts; base = b.base ∙ a.base; counted_same = b.counted_same ∙ a.counted_same; issued = omega (arith, n, m) }

-- No authority of the train changes nothing.
module _ (len : Lengths) (steps : List DirSeg) (t : ℕ) where
  one_quiet : (m : Msg) (v : Account) → is_auth t m ≡ false → issues_one len steps t m v ≡ v
  one_quiet (msg.Auth u number mark path) v h = rw h refl
  one_quiet _ v h = refl

  pub all_quiet : (issued : List (ℕ × Msg)) (v : Account) → NoAuth t issued → issues_all len steps t issued v ≡ v
  unfolding AllIn issues_all
  all_quiet [] v h = refl
  all_quiet (x ∷ issued) v h = ap (λ (w : Account). issues_all len steps t issued w) (one_quiet x.1 v h.0) ∙ all_quiet issued v h.1

-- The numbers of a message do not issue.

answered_issued : (number : ℕ) (taken : Bool) (v : Account) → (answered number taken v).issued ≡ v.issued
answered_issued number taken v = by_test (nat_lt v.counted number && nat_le number v.issued)
    (λ a. by_test (nat_eq number v.shrink) (λ i. by_test taken (λ y. rw (a, i, y) refl) (λ n. rw (a, i, n) refl)) (λ o. rw (a, o) refl))
    (λ b. rw b refl)

counts_issued : (t : ℕ) (m : Msg) (v : Account) → (counts t m v).issued ≡ v.issued
counts_issued t (msg.Answer u time number taken) v = by_test (nat_eq u.0 t) (λ y. rw y (answered_issued number taken v)) (λ n. rw n refl)
counts_issued t _ v = refl

passed_same : {A : Type 0} (get : Account → A) → ((v : Account) → get (refused v) ≡ get v) → (len : Lengths) (steps : List DirSeg) (least : ℕ) (w : Account) → get (passed len steps least w) ≡ get w
passed_same get r len steps least w = by_test (nat_lt 0 w.shrink && nat_lt (shrink_end len steps w) least) (λ y. rw y (r w)) (λ n. rw n refl)

pub based_same : {A : Type 0} (get : Account → A) → ((v : Account) (base : ℕ → ℕ) → get (record v { base = base }) ≡ get v) → (z now_ before : ℕ) (w : Account) → get (based z now_ before w) ≡ get w
based_same get r z now_ before w = by_test (nat_eq before 0 && nat_lt 0 w.counted) (λ y. rw y (r w (with_at z now_ w.base))) (λ n. rw n refl)

module _ (len : Lengths) (z t : ℕ) (s : Story) (steps : List DirSeg) (v : Account) (m : Msg) where
  abbrev fronts : ℕ → Bool
  fronts = fronts_heard len z t s steps v (v.fronts z) m

  abbrev checked : Account
  checked = passed len steps (least_of (end_of len steps v) fronts) (with_fronts z fronts (counts t m v))

  pub heard_issued : (heard len z t s steps v m).issued ≡ v.issued
  heard_issued =
      based_same (λ (w : Account). w.issued) (λ w b. refl) z (now_with z s m) v.counted checked
      ∙ passed_same (λ (w : Account). w.issued) (λ w. refl) len steps (least_of (end_of len steps v) fronts) (with_fronts z fronts (counts t m v))
      ∙ counts_issued t m v

  counts_fronts : (m : Msg) → (counts t m v).fronts ≡ v.fronts
  counts_fronts (msg.Answer u time number taken) = by_test (nat_eq u.0 t)
      (λ y. rw y (by_test (nat_lt v.counted number && nat_le number v.issued)
      (λ a. by_test (nat_eq number v.shrink) (λ i. by_test taken (λ y. rw (a, i, y) refl) (λ n. rw (a, i, n) refl)) (λ o. rw (a, o) refl))
      (λ b. rw b refl)))
      (λ n. rw n refl)
  counts_fronts _ = refl

  pub heard_fronts : (heard len z t s steps v m).fronts ≡ with_at z (fronts_heard len z t s steps v (v.fronts z) m) v.fronts
  heard_fronts =
      based_same (λ (w : Account). w.fronts) (λ w b. refl) z (now_with z s m) v.counted checked
      ∙ passed_same (λ (w : Account). w.fronts) (λ w. refl) len steps (least_of (end_of len steps v) fronts) (with_fronts z fronts (counts t m v))
      ∙ ap (with_at z fronts) (counts_fronts m)

module _ (line : Line) (t : ℕ) (x : Transition) (s : Story) where
  abbrev len : Lengths
  len = seg_len line

  abbrev steps : List DirSeg
  steps = journey line t s

  abbrev v : Account
  v = account line t s

  next_fronts : (account line t (x ∷ s)).fronts ≡ (acts len t x s steps v).fronts
  next_fronts = ap (λ (w : Account). w.fronts) (account_next line t x s) ∙ (all_numbered len steps t x.issued (acts len t x s steps v)).fronts

  pub fronts_granted : (z f : ℕ) → grants_entry z t x ≡ true → possible_front line z t (x ∷ s) f ≡ nat_eq f (asked_facts x.took).long
  fronts_granted z f h =
      let e : x.actor ≡ z = eqb-true x.actor z (and_parts (nat_eq x.actor z) _ h).0 in
      let g : grants_entry x.actor t x ≡ true = subst (λ (y : ℕ). grants_entry y t x ≡ true) (sym e) h in
      let own : nat_eq z x.actor ≡ true = grind (arith, nat_tests) in
      ap (λ (h : ℕ → ℕ → Bool). h z f) next_fronts ∙ rw (g, own) refl

  pub fronts_idle : (z f : ℕ) → nat_eq x.actor z ≡ false → possible_front line z t (x ∷ s) f ≡ possible_front line z t s f
  fronts_idle z f n =
      let other : nat_eq z x.actor ≡ false = grind (arith, nat_tests) in
      ap (λ (h : ℕ → ℕ → Bool). h z f) next_fronts
      ∙ by_test (grants_entry x.actor t x)
      (λ g. rw (g, other) refl)
      (λ g. by_test (controls x.actor t s)
      (λ c. rw (g, c) (took_other x.took other))
      (λ c. rw (g, c) refl))
    where
      took_other : (took : Option (ℕ × Msg)) → nat_eq z x.actor ≡ false → (heard_some len x.actor t s steps v took).fronts z f ≡ v.fronts z f
      took_other None o = refl
      took_other (Some y) o = ap (λ (h : ℕ → ℕ → Bool). h z f) (heard_fronts len x.actor t s steps v y.1) ∙ rw o refl

  pub fronts_acted : (z f : ℕ) → grants_entry z t x ≡ false → nat_eq x.actor z ≡ true → controls z t s ≡ true
      → possible_front line z t (x ∷ s) f ≡ fronts_taken line z t s (possible_front line z t s) x.took f
  fronts_acted z f h y c =
      let e : x.actor ≡ z = eqb-true x.actor z y in
      let g : grants_entry x.actor t x ≡ false = subst (λ (y : ℕ). grants_entry y t x ≡ false) (sym e) h in
      let k : controls x.actor t s ≡ true = subst (λ (y : ℕ). controls y t s ≡ true) (sym e) c in
      ap (λ (h : ℕ → ℕ → Bool). h z f) next_fronts
      ∙ rw (g, k) (subst (λ (y : ℕ). (heard_some len y t s steps v x.took).fronts z f ≡ fronts_taken line z t s (possible_front line z t s) x.took f) (sym e) (took_here x.took))
    where
      took_here : (took : Option (ℕ × Msg)) → (heard_some len z t s steps v took).fronts z f ≡ fronts_taken line z t s (possible_front line z t s) took f
      took_here None = refl
      took_here (Some y) =
          let own : nat_eq z z ≡ true = grind (arith, nat_tests) in
          ap (λ (h : ℕ → ℕ → Bool). h z f) (heard_fronts len z t s steps v y.1) ∙ rw own refl

  pub fronts_uncontrolled : (z f : ℕ) → grants_entry z t x ≡ false → nat_eq x.actor z ≡ true → controls z t s ≡ false → possible_front line z t (x ∷ s) f ≡ possible_front line z t s f
  fronts_uncontrolled z f h y c =
      let e : x.actor ≡ z = eqb-true x.actor z y in
      let g : grants_entry x.actor t x ≡ false = subst (λ (y : ℕ). grants_entry y t x ≡ false) (sym e) h in
      let k : controls x.actor t s ≡ false = subst (λ (y : ℕ). controls y t s ≡ false) (sym e) c in
      ap (λ (h : ℕ → ℕ → Bool). h z f) next_fronts ∙ rw (g, k) refl

  -- a transition that is no message of the train's controller counts nothing
  pub counted_else : controls x.actor t s ≡ false → counted line t (x ∷ s) ≡ counted line t s
  counted_else c =
      ap (λ (w : Account). w.counted) (account_next line t x s) ∙ (all_numbered len steps t x.issued (acts len t x s steps v)).counted_same
      ∙ by_test (grants_entry x.actor t x) (λ g. rw g refl) (λ g. rw (g, c) refl)

  pub counted_heard : (from : ℕ) (m : Msg) → x.took ≡ Some (from, m) → grants_entry x.actor t x ≡ false → controls x.actor t s ≡ true
      → counted line t (x ∷ s) ≡ (heard len x.actor t s steps v m).counted
  counted_heard from m took g c =
      ap (λ (w : Account). w.counted) (account_next line t x s) ∙ (all_numbered len steps t x.issued (acts len t x s steps v)).counted_same
      ∙ rw (g, c) (ap (λ (o : Option (ℕ × Msg)). (heard_some len x.actor t s steps v o).counted) took)

  acts_issued : (acts len t x s steps v).issued ≡ v.issued
  acts_issued = by_test (grants_entry x.actor t x)
      (λ g. rw g refl)
      (λ g. by_test (controls x.actor t s) (λ c. rw (g, c) (some_issued x.took)) (λ c. rw (g, c) refl))
    where
      some_issued : (took : Option (ℕ × Msg)) → (heard_some len x.actor t s steps v took).issued ≡ v.issued
      some_issued None = refl
      some_issued (Some y) = heard_issued len x.actor t s steps v y.1

  pub issued_next : (account line t (x ∷ s)).issued ≡ max (greatest_in (auth_number t) x.issued) (account line t s).issued
  issued_next =
      ap (λ (w : Account). w.issued) (account_next line t x s) ∙ (all_numbered len steps t x.issued (acts len t x s steps v)).issued
      ∙ ap (max (greatest_in (auth_number t) x.issued)) acts_issued

-- the last number issued is that of today
pub issued_is : (line : Line) (t : ℕ) (s : Story) → (account line t s).issued ≡ last_issued t s
unfolding account greatest_issued
issued_is line t [] = refl
issued_is line t (x ∷ s) = issued_next line t x s ∙ ap (max (greatest_in (auth_number t) x.issued)) (issued_is line t s)
