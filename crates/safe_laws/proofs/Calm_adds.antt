-- A transition that adds nothing to what is held for a train.
use Rattle.std.proofs.Common.{◌≡◌, ℕ, suc, ◌≤◌, ◌∷◌, Some, true, false, ◌&&◌, ◌||◌, refl, sym, ◌∙◌, subst, arith}
use Rattle.std.proofs.lemmas.Bool.{eqb-true, and_parts, or_left}
use Rattle.std.specs.Prelude.{nat_eq}
use Rattle.list_laws.proofs.By_test.{by_test}
use Rattle.track_points.specs.Points.{Point}
use Rattle.definitions.specs.declared.message.Msg.{Msg}
use Rattle.definitions.specs.Track.{Line, seg_len, owner}
use Rattle.definitions.specs.Story.{Transition, Story}
use Rattle.definitions.specs.World.{is_auth, head, journey, authority_end}
use Rattle.definitions.specs.Control.{grants_entry, controls}
use Rattle.definitions.specs.Longest.{longest_end}
use Rattle.definitions.specs.Authority.{held}
use Rattle.definitions.specs.Safe.{IsLineOfOneZone, added_by, added}
use Rattle.event_laws.proofs.Grant_takes.{quiet_grants}
use Rattle.definitions.specs.Zones.{zone_id}
use Rattle.event_laws.proofs.Controls_same.{controls_same}
use Rattle.event_laws.proofs.Issued_all.{AllIn, NoAuth, in_all_weaker, AuthHas, auth_without}
use Rattle.journey_laws.proofs.Invariant.{Invariant}
use Rattle.step_laws.proofs.Route_goes_on.{end_most}
use Rattle.step_laws.proofs.Taken_counts.{cuts}
use Rattle.safe_laws.proofs.Held_points.{held_controls}
use Rattle.safe_laws.proofs.Held_or_beyond.{held_or_beyond, held_cut}

-- what a transition adds to what is held for a train, and nothing else, is held after it
pub record Adds (line : Line) (t : ℕ) (s : Story) (x : Transition) : Type 0 where
  pub adds : (z : ℕ) (point : Point) → (nat_eq (owner line point) z && added line z t s x.actor x.took point) ≡ true → held line z t (x ∷ s) point ≡ true
  pub exact : (z : ℕ) (point : Point) → held line z t (x ∷ s) point ≡ true → (held line z t s point || (nat_eq (owner line point) z && added line z t s x.actor x.took point)) ≡ true

-- a transition that grants no entry, issues no authority of the train that ends beyond the longest, and none where its shrink counts
-- as taken, and adds nothing
pub record Calm (line : Line) (t : ℕ) (s : Story) (x : Transition) : Type 0 where
  pub refused : (y : ℕ) → grants_entry y t x ≡ false
  pub heads : head t s ≤ head t (x ∷ s)
  pub ends : controls (zone_id line) t s ≡ true → AllIn (AuthHas (λ a. authority_end (seg_len line) (journey line t (x ∷ s)) a ≤ longest_end line t s) t) x.issued
  pub quiet : cuts line t x s ≡ true → NoAuth t x.issued
  pub adds_none : (y : ℕ) (point : Point) → added line y t s x.actor x.took point ≡ false

-- what a zone holds, the line's one holds
pub only_zone : (line : Line) (z t : ℕ) (s : Story) (point : Point) → Invariant line t s → held line z t s point ≡ true → z ≡ zone_id line
only_zone line z t s point invariant h = invariant.authorized.zone_alone z (held_controls line z t s point h)

pub calm_adds : (line : Line) (t : ℕ) (s : Story) (x : Transition) → IsLineOfOneZone line → Invariant line t s → Invariant line t (x ∷ s) → Calm line t s x → Adds line t s x
calm_adds line t s x l invariant after calm = record {
  adds = λ z point h. absurd (let n = calm.adds_none z point in let a = (and_parts (nat_eq (owner line point) z) _ h).1 in let c : true ≡ false = sym a ∙ n in cc);
  exact = λ z point h. or_left (held line z t s point) _ (was z point h);
}
  where
    was_here : (point : Point) → held line (zone_id line) t (x ∷ s) point ≡ true → held line (zone_id line) t s point ≡ true
    was_here point h =
        let after_control = held_controls line (zone_id line) t (x ∷ s) point h in
        let control : controls (zone_id line) t s ≡ true = sym (controls_same (zone_id line) t x s (calm.refused (zone_id line))) ∙ after_control in
        by_test (cuts line t x s)
        (λ y. held_cut line t s x l invariant after control calm.heads y (calm.quiet y) (calm.refused (zone_id line)) point h)
        (λ uncut. held_or_beyond line t s x l invariant after control calm.heads uncut (calm.refused (zone_id line)) point h (held line (zone_id line) t s point ≡ true)
        (λ old. old)
        (λ less new.
        let e = end_most line t s x invariant.motion invariant.authorized after.authorized control after_control calm.heads (longest_end line t s) (omega arith) (calm.ends control) in
        absurd (omega (arith, less, e))))

    was : (z : ℕ) (point : Point) → held line z t (x ∷ s) point ≡ true → held line z t s point ≡ true
    was z point h =
        let is = only_zone line z t (x ∷ s) point after h in
        subst (λ (n : ℕ). held line n t s point ≡ true) (sym is) (was_here point (subst (λ (n : ℕ). held line n t (x ∷ s) point ≡ true) is h))

-- Entries without an authority of the train.

pub no_auth_calm : (line : Line) (t : ℕ) (s : Story) (x : Transition) → NoAuth t x.issued → head t s ≤ head t (x ∷ s)
    → ((y : ℕ) (point : Point) → added line y t s x.actor x.took point ≡ false) → Calm line t s x
no_auth_calm line t s x none heads unadded = record {
  heads = heads;
  refused = λ y. quiet_grants y t x none;
  ends = λ control. in_all_weaker (λ m. is_auth t m ≡ false) (AuthHas (λ a. authority_end (seg_len line) (journey line t (x ∷ s)) a ≤ longest_end line t s) t)
      (auth_without (λ a. authority_end (seg_len line) (journey line t (x ∷ s)) a ≤ longest_end line t s) t) x.issued none;
  quiet = λ y. none;
  adds_none = unadded;
}

-- a zone's take adds to its own points alone
pub added_here : (line : Line) (z t from : ℕ) (s : Story) (m : Msg) (point : Point) → added_by line (suc z) t s m point ≡ false
    → (y : ℕ) → added line y t s (suc z) (Some (from, m)) point ≡ false
added_here line z t from s m point h y = by_test (nat_eq (suc z) y)
    (λ e. let same : suc z ≡ y = eqb-true (suc z) y e in let g : added_by line y t s m point ≡ false = subst (λ (n : ℕ). added_by line n t s m point ≡ false) same h in rw (e, g) refl)
    (λ n. rw n refl)
