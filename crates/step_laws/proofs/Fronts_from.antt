-- No front falls behind the least one.
use Rattle.std.proofs.Common.{◌≡◌, ℕ, suc, ◌+◌, ◌-◌, ◌≤◌, ◌∷◌, Option, Some, None, Bool, true, false, ◌&&◌, sym, ◌∙◌, arith}
use Rattle.std.proofs.lemmas.Bool.Decides.{nat_tests}
use Rattle.std.specs.Prelude.{nat_eq, nat_le}
use Rattle.std.proofs.lemmas.Bool.{and_parts}
use Rattle.list_laws.proofs.By_test.{by_test}
use Rattle.track_points.specs.Points.{some_below}
use Rattle.track_points.proofs.Some_found.{some_found}
use Rattle.envelope.specs.Fronts.{farthest_move, grown}
use Rattle.definitions.specs.declared.message.Msg.{Msg}
use Rattle.definitions.specs.declared.message.Msg.TheVariants as msg
use Rattle.definitions.specs.Track.{Line, seg_len}
use Rattle.definitions.specs.Numbers.{first}
use Rattle.definitions.specs.Story.{Transition, Story}
use Rattle.definitions.specs.World.{journey}
use Rattle.definitions.specs.Control.{grants_entry, controls, known_facts, now_of, now_with}
use Rattle.definitions.specs.Farther.{kept_or_all}
use Rattle.definitions.specs.Account.{ruled, takes_shrink}
use Rattle.definitions.specs.Fold.{account, by_answer}
use Rattle.definitions.specs.Longest.{longest_end}
use Rattle.definitions.specs.Fronts.{grown_fronts, is_used, reported, fronts_behind, fronts_taken, possible_front}
use Rattle.way_laws.proofs.First_is.{first_is, first_at_most}
use Rattle.event_laws.proofs.Account_next.{fronts_acted, fronts_idle, fronts_uncontrolled}

abbrev pub AllFrom : (ℕ → Bool) → ℕ → Type 0
AllFrom fronts lo = (f : ℕ) → fronts f ≡ true → lo ≤ f

grown_from : (fronts : ℕ → Bool) (lo moved limit : ℕ) → AllFrom fronts lo → AllFrom (grown fronts moved limit) lo
grown_from fronts lo moved limit all g h =
    let a = and_parts (nat_le g limit) (some_below (λ f. fronts f && nat_le g (f + moved)) (suc g)) h in
    let r = some_found (λ f. fronts f && nat_le g (f + moved)) (suc g) a.1 in
    let b = and_parts (fronts r.at) (nat_le g (r.at + moved)) r.passes in
    let c = all r.at b.0 in
    let d = r.below in
    omega arith

-- what is left of them by a rule, and what lies between
ruled_from : (end lo : ℕ) (keep fronts : ℕ → Bool) → AllFrom fronts lo → AllFrom (ruled end keep fronts) lo
ruled_from end lo keep fronts all g h =
    let test = kept_or_all end (λ f. fronts f && keep f) fronts in
    let n = end + 1 in
    let a = and_parts (some_below test n) _ h in
    let b = and_parts (nat_le (first test n) g) _ a.1 in
    let b0 = b.0 in
    let r = some_found test n a.0 in
    let m = first_at_most test n r.at r.passes in
    let under = r.below in
    let there = (first_is test n).there (omega (arith, m, under)) in
    let low = all (first test n) (kept_one (first test n) there) in
    grind (arith, nat_tests)
  where
    kept_one : (p : ℕ) → kept_or_all end (λ f. fronts f && keep f) fronts p ≡ true → fronts p ≡ true
    kept_one p e = by_test (some_below (λ f. fronts f && keep f) (end + 1))
        (λ y. let k : (fronts p && keep p) ≡ true = rw y at e in (and_parts (fronts p) (keep p) k).0)
        (λ n. let k : fronts p ≡ true = rw n at e in k)

module _ (line : Line) (z t : ℕ) (s : Story) (lo : ℕ) where
  reported_from : (fronts : ℕ → Bool) (m : Msg) → AllFrom fronts lo → AllFrom (reported line z t s fronts m) lo
  reported_from fronts (msg.Report u time mark offset integrity) all = ruled_from (longest_end line t s) lo _ fronts all
  reported_from fronts _ all = all

  answered_from : (fronts : ℕ → Bool) (m : Msg) → AllFrom fronts lo → AllFrom (by_answer (seg_len line) (journey line t s) t (longest_end line t s) (account line t s) fronts m) lo
  answered_from fronts (msg.Answer u time number taken) all = by_test (nat_eq u.0 t && takes_shrink number taken (account line t s))
      (λ y. rw y (ruled_from (longest_end line t s) lo _ fronts all))
      (λ n. rw n all)
  answered_from fronts _ all = all

  behind_from : (fronts : ℕ → Bool) (m : Msg) → AllFrom fronts lo → AllFrom (fronts_behind line z t s fronts m) lo
  behind_from fronts m all g h =
      let grows = grown_from fronts lo (farthest_move (known_facts z t s).speed (now_with z s m - now_of z s)) (longest_end line t s) all in
      by_test (is_used line z t s fronts m)
      (λ y. reported_from (grown_fronts line z t s fronts m) m grows g (rw y at h))
      (λ n. answered_from (grown_fronts line z t s fronts m) m grows g (rw n at h))

  taken_from : (fronts : ℕ → Bool) (took : Option (ℕ × Msg)) → AllFrom fronts lo → AllFrom (fronts_taken line z t s fronts took) lo
  taken_from fronts None all = all
  taken_from fronts (Some x) all = behind_from fronts x.1 all

  pub fronts_from : (x : Transition) → grants_entry z t x ≡ false → AllFrom (possible_front line z t s) lo → AllFrom (possible_front line z t (x ∷ s)) lo
  fronts_from x refused all g h =
      by_test (nat_eq x.actor z)
      (λ acts. by_test (controls z t s)
      (λ c. taken_from (possible_front line z t s) x.took all g (sym (fronts_acted line t x s z g refused acts c) ∙ h))
      (λ c. all g (sym (fronts_uncontrolled line t x s z g refused acts c) ∙ h)))
      (λ idle. all g (sym (fronts_idle line t x s z g idle) ∙ h))
