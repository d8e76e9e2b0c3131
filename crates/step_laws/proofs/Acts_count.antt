-- What a transition makes of the numbers of a train's account before what it issues: by a message that the train's controller takes.
use Rattle.std.proofs.Common.{◌≡◌, ℕ, ◌<◌, ◌≤◌, Option, Some, None, Bool, true, false, ◌&&◌, refl, sym, ◌∙◌, ap, subst, arith}
use Rattle.std.proofs.Math.Path.{fun_ext}
use Rattle.std.proofs.lemmas.Bool.Decides.{nat_tests}
use Rattle.std.proofs.lemmas.Bool.{and_parts}
use Rattle.std.specs.Prelude.{List, nat_eq, nat_lt}
use Rattle.list_laws.proofs.By_test.{by_test}
use Rattle.track_points.specs.declared.ids.DirSeg.{DirSeg}
use Rattle.track_points.specs.Points.{Lengths}
use Rattle.definitions.specs.declared.message.Msg.{Msg}
use Rattle.definitions.specs.declared.message.Msg.TheVariants as msg
use Rattle.definitions.specs.Story.{Transition, Story}
use Rattle.definitions.specs.World.{Authority}
use Rattle.definitions.specs.Control.{grants_entry, asks_entry, controls, asked_facts, now_with}
use Rattle.definitions.specs.Farther.{end_or_0}
use Rattle.definitions.specs.Account.{Account, end_of, shrink_end, least_of, passed, with_fronts}
use Rattle.definitions.specs.Fold.{acts, heard, heard_some, counts, fronts_heard}
use Rattle.event_laws.proofs.Account_next.{based_same, heard_fronts}
use Rattle.step_laws.proofs.Fronts_numbers.{takes_by}
use Rattle.step_laws.proofs.Taken_counts.{Same, Calm, Takes, Took, calm, taking, same_calm, same_takes, no_change, then_calm, counts_calm, counts_takes, passed_calm, passed_none, answers, uncounted, takes_some}

-- A message that the controller takes.
module _ (len : Lengths) (z t : ℕ) (s : Story) (steps : List DirSeg) (v : Account) (m : Msg) where
  abbrev fronts : ℕ → Bool
  fronts = fronts_heard len z t s steps v (v.fronts z) m

  abbrev least : ℕ
  least = least_of (end_of len steps v) fronts

  abbrev behind : Account
  behind = with_fronts z fronts (counts t m v)

  abbrev checked : Account
  checked = passed len steps least behind

  based_still : Same checked (heard len z t s steps v m)
  based_still = record {
    shrink = based_same (λ (w : Account). w.shrink) (λ w b. refl) z (now_with z s m) v.counted checked;
    stood = based_same (λ (w : Account). w.stood) (λ w b. refl) z (now_with z s m) v.counted checked;
    reads = based_same (λ (w : Account). w.reads) (λ w b. refl) z (now_with z s m) v.counted checked;
    issued = based_same (λ (w : Account). w.issued) (λ w b. refl) z (now_with z s m) v.counted checked;
    counted = based_same (λ (w : Account). w.counted) (λ w b. refl) z (now_with z s m) v.counted checked;
  }

  fronts_still : Same (counts t m v) behind
  fronts_still = record { shrink = refl; stood = refl; reads = refl; issued = refl; counted = refl }

  heard_calm : takes_by t v m ≡ false → Calm v (heard len z t s steps v m)
  heard_calm none =
      then_calm v (counts t m v) (heard len z t s steps v m) (counts_calm t m v none)
      (then_calm (counts t m v) behind (heard len z t s steps v m) (same_calm (counts t m v) behind fronts_still)
      (then_calm behind checked (heard len z t s steps v m) (passed_calm len steps least behind) (same_calm checked (heard len z t s steps v m) based_still)))

  heard_takes : takes_by t v m ≡ true → Takes v (heard len z t s steps v m)
  heard_takes h =
      let k = same_takes v (counts t m v) behind (counts_takes t m v h) fronts_still in
      let same : Same behind checked = subst (λ (w : Account). Same behind w) (sym (passed_none len steps least behind k.shrink)) (no_change behind) in
      same_takes v checked (heard len z t s steps v m) (same_takes v behind checked k same) based_still

  -- no message but an answer counts, where the least front does not pass the shrink's end
  heard_unanswered : (from : ℕ) → answers t (Some (from, m)) ≡ false
      → (0 < v.shrink → least_of (end_of len steps v) (fronts_heard len z t s steps v (v.fronts z) m) ≤ shrink_end len steps v) → (heard len z t s steps v m).counted ≡ v.counted
  heard_unanswered from none unpassed =
      let same = uncounted t from m v none in
      based_still.counted
      ∙ ap (λ (w : Account). (passed len steps least (with_fronts z fronts w)).counted) same
      ∙ by_test (nat_lt 0 v.shrink && nat_lt (shrink_end len steps v) least)
      (λ y. let u = unpassed (grind (arith, nat_tests)) in absurd (grind (arith, nat_tests)))
      (λ n. rw n refl)

  passed_none_front : 0 < checked.shrink → least ≤ shrink_end len steps checked
  passed_none_front = by_test (nat_lt 0 behind.shrink && nat_lt (shrink_end len steps behind) least)
      (λ y. rw y (λ some. absurd (omega (arith, some))))
      (λ n. rw n (λ some. grind (arith, nat_tests)))

  heard_front : (p : ℕ) → (heard len z t s steps v m).fronts z p ≡ fronts_heard len z t s steps v (v.fronts z) m p
  heard_front p =
      let own : nat_eq z z ≡ true = grind (arith, nat_tests) in
      ap (λ (f : ℕ → ℕ → Bool). f z p) (heard_fronts len z t s steps v m) ∙ rw own refl

  -- the least front behind it has not passed the end of a shrink that stays unanswered
  heard_check : 0 < (heard len z t s steps v m).shrink → least_of (end_of len steps v) ((heard len z t s steps v m).fronts z) ≤ shrink_end len steps (heard len z t s steps v m)
  heard_check some =
      let same = based_still in
      let shrink = same.shrink in
      let there = passed_none_front (omega (arith, some, shrink)) in
      let end : shrink_end len steps (heard len z t s steps v m) ≡ shrink_end len steps checked =
      ap (λ (r : ℕ → Option Authority). end_or_0 len steps (r (heard len z t s steps v m).shrink)) same.reads ∙ ap (λ (n : ℕ). end_or_0 len steps (checked.reads n)) shrink in
      let fronts_ = ap (λ (f : ℕ → Bool). least_of (end_of len steps v) f) (fun_ext heard_front) in
      omega (arith, there, end, fronts_)

-- What a transition makes of the account before what it issues.
module _ (len : Lengths) (t : ℕ) (e : Transition) (s : Story) (steps : List DirSeg) (v : Account) where
  -- a grant of an entry is of no answer
  granted_none : grants_entry e.actor t e ≡ true → takes_some t v e.took ≡ false
  granted_none g = asked_none e.took (and_parts (asks_entry t e.took) _ (and_parts (nat_eq e.actor e.actor) _ g).1).0
    where
      asked_none : (took : Option (ℕ × Msg)) → asks_entry t took ≡ true → takes_some t v took ≡ false
      asked_none None a = refl
      asked_none (Some (from, msg.Answer u time number taken)) a = absurd cc
      asked_none (Some (from, _)) a = refl

  some_calm : (z : ℕ) (took : Option (ℕ × Msg)) → takes_some t v took ≡ false → Calm v (heard_some len z t s steps v took)
  some_calm z None none = same_calm v v (no_change v)
  some_calm z (Some y) none = heard_calm len z t s steps v y.1 none

  some_takes : (z : ℕ) (took : Option (ℕ × Msg)) → takes_some t v took ≡ true → Takes v (heard_some len z t s steps v took)
  some_takes z None h = absurd cc
  some_takes z (Some y) h = heard_takes len z t s steps v y.1 h

  pub acts_calm : (controls e.actor t s && takes_some t v e.took) ≡ false → Calm v (acts len t e s steps v)
  acts_calm none = by_test (grants_entry e.actor t e)
      (λ g. rw g (same_calm v (with_fronts e.actor (λ p. nat_eq p (asked_facts e.took).long) v) (record { shrink = refl; stood = refl; reads = refl; issued = refl; counted = refl })))
      (λ g. by_test (controls e.actor t s)
      (λ c. rw (g, c) (some_calm e.actor e.took (rw c at none)))
      (λ c. rw (g, c) (same_calm v v (no_change v))))

  pub acts_takes : controls e.actor t s ≡ true → takes_some t v e.took ≡ true → Takes v (acts len t e s steps v)
  acts_takes c h =
      let g : grants_entry e.actor t e ≡ false = by_test (grants_entry e.actor t e) (λ y. absurd (let c : true ≡ false = sym h ∙ granted_none y in cc)) (λ n. n) in
      rw (g, c) (some_takes e.actor e.took h)

  pub acts_took : Took v (acts len t e s steps v)
  acts_took = by_test (controls e.actor t s && takes_some t v e.took)
      (λ y. let a = and_parts (controls e.actor t s) (takes_some t v e.took) y in taking (acts_takes a.0 a.1))
      (λ n. calm (acts_calm n))

  -- what no answer counts, and no front
  pub acts_unanswered : answers t e.took ≡ false
      → ((m : Msg) → controls e.actor t s ≡ true → (from : ℕ) → e.took ≡ Some (from, m) → 0 < v.shrink → least_of (end_of len steps v) (fronts_heard len e.actor t s steps v (v.fronts e.actor) m) ≤ shrink_end len steps v)
      → (acts len t e s steps v).counted ≡ v.counted
  acts_unanswered none unpassed = by_test (grants_entry e.actor t e)
      (λ g. rw g refl)
      (λ g. by_test (controls e.actor t s)
      (λ c. rw (g, c) (by_took e.took refl c))
      (λ c. rw (g, c) refl))
    where
      by_took : (took : Option (ℕ × Msg)) → e.took ≡ took → controls e.actor t s ≡ true → (heard_some len e.actor t s steps v took).counted ≡ v.counted
      by_took None is c = refl
      by_took (Some (from, m)) is c = heard_unanswered len e.actor t s steps v m from (sym (ap (answers t) is) ∙ none) (unpassed m c from is)

  -- the least front does not pass the end of a shrink that stays unanswered
  pub acts_check : (z : ℕ) → grants_entry e.actor t e ≡ false → (controls e.actor t s ≡ true → e.actor ≡ z) → (0 < v.shrink → least_of (end_of len steps v) (v.fronts z) ≤ shrink_end len steps v)
      → 0 < (acts len t e s steps v).shrink → least_of (end_of len steps v) ((acts len t e s steps v).fronts z) ≤ shrink_end len steps (acts len t e s steps v)
  acts_check z g alone before = by_test (controls e.actor t s)
      (λ c. rw (g, c) (subst (λ (y : ℕ). Checked y (heard_some len y t s steps v e.took)) (sym (alone c)) (by_took e.took)))
      (λ c. rw (g, c) before)
    where
      Checked : ℕ → Account → Type 0
      Checked y w = 0 < w.shrink → least_of (end_of len steps v) (w.fronts z) ≤ shrink_end len steps w

      by_took : (took : Option (ℕ × Msg)) → 0 < (heard_some len z t s steps v took).shrink → least_of (end_of len steps v) ((heard_some len z t s steps v took).fronts z) ≤ shrink_end len steps (heard_some len z t s steps v took)
      by_took None some = before some
      by_took (Some y) some = heard_check len z t s steps v y.1 some
