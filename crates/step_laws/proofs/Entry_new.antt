-- The authority of a granted request for entry.
use Rattle.std.proofs.Common.{◌≡◌, ℕ, ◌+◌, ◌-◌, ◌≤◌, [], ◌∷◌, Option, Some, Bool, true, false, refl, sym, ◌∙◌, ap, arith}
use Rattle.std.proofs.lemmas.Bool.Decides.{nat_tests}
use Rattle.std.specs.Prelude.{nat_eq, nat_le, nat_lt, is_some}
use Rattle.track_points.specs.declared.ids.DirSeg.{DirSeg}
use Rattle.track_points.specs.declared.ids.TrainId.{TrainId}
use Rattle.track_points.specs.Points.{total, place_of_last, steps_to, visits, no_segment_twice}
use Rattle.definitions.specs.declared.message.Msg.{Msg}
use Rattle.definitions.specs.declared.message.Msg.TheVariants as msg
use Rattle.definitions.specs.Track.{Line, seg_len, joined, last_step}
use Rattle.definitions.specs.Rules.{is_line}
use Rattle.definitions.specs.Premises.{on_line}
use Rattle.definitions.specs.Steps.{entry_path}
use Rattle.definitions.specs.Story.{Transition, Story}
use Rattle.definitions.specs.World.{Facts, facts_or, long_of, entered, goes_on, journey, Authority}
use Rattle.definitions.specs.Control.{grants_entry, controls, asked_facts, known_train, known_facts}
use Rattle.definitions.specs.Farther.{end_or_0}
use Rattle.definitions.specs.Fold.{account}
use Rattle.definitions.specs.Longest.{longest_end}
use Rattle.definitions.specs.Zones.{zone_id}
use Rattle.journey_laws.proofs.Motion.{Motion}
use Rattle.event_laws.proofs.Controls_same.{controls_now}
use Rattle.way_laws.proofs.Line_builds.{portal_on_line, long_on_line}
use Rattle.journey_laws.proofs.Invariant.{path_fits, IsPath, FirstIs, EntryIs, Authorized}
use Rattle.journey_laws.proofs.One_route.{uncontrolled_off}
use Rattle.journey_laws.proofs.First_steps.{off_journey}
use Rattle.step_laws.proofs.Taken_counts.{answers}
use Rattle.step_laws.proofs.Farthest_none.{farthest_none}
use Rattle.step_laws.proofs.New_auth.{LongerAuth}

entry_fits : (line : Line) (step : DirSeg) → 1 ≤ seg_len line step.seg.0 → path_fits line (entry_path step (seg_len line step.seg.0)) ≡ true
unfolding joined visits no_segment_twice last_step place_of_last
entry_fits line step long =
    let same : nat_le (seg_len line step.seg.0) (seg_len line step.seg.0) ≡ true = grind (arith, nat_tests) in
    let some : nat_lt 0 (seg_len line step.seg.0) ≡ true = grind (arith, nat_tests) in
    let from : nat_le 0 (seg_len line step.seg.0) ≡ true = grind (arith, nat_tests) in
    rw (same, some, from) refl

module _ (line : Line) (t : ℕ) (s : Story) (valid : is_line line ≡ true) (m : Motion t s) (k : Authorized line t s) (free : controls (zone_id line) t s ≡ false) (long error speed : ℕ) (step : DirSeg)
    (asked : EntryIs line t s long error speed step) (fitting : nat_lt (seg_len line step.seg.0) long ≡ false) where
  abbrev a : Authority
  a = record { mark = 0; path = entry_path step (seg_len line step.seg.0) }

  its_long : long_of t s ≡ long
  its_long = ap (λ (f : Option Facts). (facts_or f).long) asked.facts

  room : long_of t s ≤ seg_len line step.seg.0
  room = let l = its_long in let h : long ≤ seg_len line step.seg.0 = grind (arith, nat_tests) in omega (arith, l, h)

  on : on_line line step ≡ true
  on = portal_on_line line step valid asked.portal

  entry_first : FirstIs line t s a
  entry_first = record { step = step; first = asked.first; portal = asked.portal; mark = refl; path = refl; room = room }

  -- the train has not come on
  off : entered t s ≡ false
  off = uncontrolled_off line t s k free

  -- its journey is the portal's step
  entry_journey : journey line t s ≡ step ∷ []
  entry_journey = off_journey line t s step m asked.first off

  entry_path_is : IsPath line t s a
  unfolding total
  entry_path_is = record {
    declared = ap (λ (f : Option Facts). is_some f) asked.facts;
    fits = entry_fits line step (long_on_line line step valid on);
    above = long_on_line line step valid on;
    own = let o = on in rw o refl;
    behind = let o = off in rw o (omega arith);
    mark = omega arith;
  }

  none_longest : longest_end line t s ≡ 0
  none_longest =
      let v = account line t s in
      ap (λ (b : Option Authority). end_or_0 (seg_len line) (journey line t s) b) (farthest_none (seg_len line) (journey line t s) v.reads v.counted (v.issued + 1 - v.counted) (k.unread free))

  pub entry_new : (x : Transition) (u : TrainId) (from time : ℕ) (equipped : Bool) → x.actor ≡ zone_id line → x.took ≡ Some (from, msg.EntryAsk u time long error speed equipped step) → nat_eq u.0 t ≡ true → goes_on t x.event ≡ false
      → x.issued ≡ (0, msg.Auth u 1 0 (entry_path step (seg_len line step.seg.0))) ∷ [] → LongerAuth line t s x
  unfolding known_train joined total steps_to
  entry_new x u from time equipped actor took its still issued =
      let last = k.unknown free in
      let longest_none_ = none_longest in
      let zone : nat_eq (zone_id line) (zone_id line) ≡ true = grind (arith, nat_tests) in
      let grants : grants_entry (zone_id line) t x ≡ true = rw (actor, took, issued, zone, its) refl in
      let z = m.unborn off in
      let first : nat_le 0 (seg_len line step.seg.0) ≡ true = grind (arith, nat_tests) in
      record {
        sent = record {
          train = u;
          number = 1;
          authority = a;
          issued = issued;
          its = its;
          still = still;
          unanswered = ap (answers t) took;
          is = entry_path_is;
        };
        next = omega (arith, last);
        idle = k.unshrunk free;
        longer = omega (arith, longest_none_);
        onward = λ y. absurd (let e : true ≡ false = sym y ∙ free in cc);
        chain = refl;
        of_line = let o = on in rw o refl;
        journey_on = entry_journey ∙ rw z (rw first refl);
        cut = λ y. absurd (let e : true ≡ false = sym y ∙ free in cc);
        begin = λ n. omega arith;
        early = λ off. (refl, entry_first);
        granted = λ y. absurd (let e : true ≡ false = sym y ∙ free in cc);
        controlled = controls_now (zone_id line) t x s grants;
        facts = asked.facts ∙ known grants;
        step = step;
        first = asked.first;
        portal = asked.portal;
        room = room;
      }
    where
      known : grants_entry (zone_id line) t x ≡ true → Some (record { long = long; error = error; speed = speed }) ≡ Some (known_facts (zone_id line) t (x ∷ s))
      known grants = rw (grants, known_facts) (ap (λ (w : Option (ℕ × Msg)). Some (asked_facts w)) (sym took))
