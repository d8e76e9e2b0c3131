-- The ledger of a train after a message that its zone takes.
use Rattle.std.proofs.Common.{◌≡◌, ℕ, suc, ◌<◌, ◌≤◌, List, ◌∷◌, Some, Bool, true, false, ◌&&◌, refl, sym, ◌∙◌, ap, arith}
use Rattle.std.proofs.lemmas.Bool.Decides.{nat_tests}
use Rattle.std.specs.Prelude.{nat_eq, nat_lt}
use Rattle.list_laws.proofs.By_test.{by_test}
use Rattle.track_points.specs.declared.ids.DirSeg.{DirSeg}
use Rattle.track_points.specs.declared.ids.TrainId.{TrainId}
use Rattle.track_points.specs.Points.{Lengths}
use Rattle.definitions.specs.declared.message.Msg.{Msg}
use Rattle.definitions.specs.declared.message.Msg.TheVariants as msg
use Rattle.definitions.specs.Track.{Line, seg_len}
use Rattle.definitions.specs.Story.{Transition, Story}
use Rattle.definitions.specs.World.{journey}
use Rattle.definitions.specs.Control.{grants_entry, controls, now_with}
use Rattle.definitions.specs.Account.{Account, shrink_end, is_new, least_of, answered, passed, with_fronts}
use Rattle.definitions.specs.Fold.{account, heard, counts}
use Rattle.definitions.specs.Longest.{longest_end, shrink_place}
use Rattle.definitions.specs.Fronts.{possible_front, fronts_behind, is_used}
use Rattle.definitions.specs.Steps.{Effect}
use Rattle.definitions.specs.Zones.{zone_id}
use Rattle.authority_ledger.specs.Ledger.{answer_of, after_answer}
use Rattle.plain_state.specs.Zone.{checked}
use Rattle.event_laws.proofs.Still_world.{journey_still}
use Rattle.journey_laws.proofs.Invariant.{Invariant}
use Rattle.step_laws.proofs.Fronts_numbers.{takes_by, fronts_numbers, fronts_unused}
use Rattle.step_laws.proofs.Account_goes.{account_taken}
use Rattle.step_laws.proofs.Taken_counts.{answers}
use Rattle.refinement_laws.proofs.Ledger_told.{IsAhead, ledger_told, answered_told, checked_told, based_told}
use Rattle.refinement_laws.proofs.Zone_kept.{ledger_of}
use Rattle.refinement_laws.proofs.Zone_moves.{zone_made}

-- a shrink whose end is not passed stays unanswered
unpassed_same : (len : Lengths) (steps : List DirSeg) (least : ℕ) (w : Account) → (0 < w.shrink → least ≤ shrink_end len steps w) → passed len steps least w ≡ w
unpassed_same len steps least w h = by_test (nat_lt 0 w.shrink && nat_lt (shrink_end len steps w) least)
    (λ y. let l = h (grind (arith, nat_tests)) in absurd (grind (arith, nat_tests)))
    (λ n. rw n refl)

-- no message but an answer counts by itself
uncounted : (t from : ℕ) (m : Msg) (v : Account) → answers t (Some (from, m)) ≡ false → counts t m v ≡ v
uncounted t from (msg.Answer u time number taken) v h = rw h refl
uncounted t from _ v h = refl

-- an answer moves no shrink that stays unanswered
answered_unpassed : (len : Lengths) (steps : List DirSeg) (least number : ℕ) (taken : Bool) (v : Account) → (0 < v.shrink → least ≤ shrink_end len steps v)
    → 0 < (answered number taken v).shrink → least ≤ shrink_end len steps (answered number taken v)
answered_unpassed len steps least number taken v h = by_test (is_new number v)
    (λ new. by_test (nat_eq number v.shrink)
    (λ its. by_test taken
    (λ y. rw (new, its, y) (λ some. absurd (omega (arith, some))))
    (λ y. rw (new, its, y) (λ some. absurd (omega (arith, some)))))
    (λ other. rw (new, other) h))
    (λ old. rw old h)

-- Of a train that its zone controls.
module _ (line : Line) (t : ℕ) (s : Story) (invariant : Invariant line t s) (c : controls (zone_id line) t s ≡ true) where
  pub ahead_now : IsAhead (account line t s)
  ahead_now some =
      let g = (invariant.authorized.controlled c).shrink (grind (arith, nat_tests)) in
      let last = g.last in
      let one = g.one_below in
      let top = g.counted_top in
      omega (arith, last, one, top)

  pub unpassed_now : 0 < (account line t s).shrink → (invariant.fronts c).lo ≤ shrink_place line t s
  unpassed_now some =
      let g = (invariant.authorized.controlled c).shrink (grind (arith, nat_tests)) in
      let u = g.unpassed in
      let l = (fronts_numbers line t s (invariant.fronts c)).least in
      omega (arith, u, l)

-- A message that it takes.
module _ (line : Line) (z number : ℕ) (m : Msg) (e : Effect) (s : Story) (zone : suc z ≡ zone_id line) (t : ℕ) (invariant : Invariant line t s) (c : controls (zone_id line) t s ≡ true)
    (none : grants_entry (zone_id line) t (zone_made z number m e) ≡ false) where
  abbrev x : Transition
  x = zone_made z number m e

  abbrev len : Lengths
  len = seg_len line

  abbrev steps : List DirSeg
  steps = journey line t s

  abbrev v : Account
  v = account line t s

  abbrev behind : ℕ → Bool
  behind = fronts_behind line (zone_id line) t s (possible_front line (zone_id line) t s) m

  heard_is : account_taken line t (zone_made z number m e) s ≡ heard (seg_len line) (zone_id line) t s (journey line t s) (account line t s) m
  heard_is =
      let g : grants_entry (suc z) t x ≡ false = ap (λ (y : ℕ). grants_entry y t x) zone ∙ none in
      let d : controls (suc z) t s ≡ true = ap (λ (y : ℕ). controls y t s) zone ∙ c in
      rw (g, d) (ap (λ (y : ℕ). heard len y t s steps v m) zone)

  heard_ledger : (w : Account) → counts t m v ≡ w → (lo : ℕ) → least_of (longest_end line t s) behind ≡ lo
      → ledger_told len steps (account_taken line t (zone_made z number m e) s) ≡ ledger_told len steps (passed len steps lo (with_fronts (zone_id line) behind w))
  heard_ledger w is lo least =
      ap (ledger_told len steps) heard_is
      ∙ (based_told len steps (zone_id line) (now_with (zone_id line) s m) v.counted (passed len steps (least_of (longest_end line t s) behind) (with_fronts (zone_id line) behind (counts t m v)))
      ∙ (ap (λ (n : ℕ). ledger_told len steps (passed len steps n (with_fronts (zone_id line) behind (counts t m v)))) least
      ∙ ap (λ (u : Account). ledger_told len steps (passed len steps lo (with_fronts (zone_id line) behind u))) is))

  -- what no answer counts, the check of the least front may
  pub behind_checked : answers t (Some (0, m)) ≡ false → (lo : ℕ) → least_of (longest_end line t s) (fronts_behind line (zone_id line) t s (possible_front line (zone_id line) t s) m) ≡ lo
      → ledger_told (seg_len line) (journey line t s) (account_taken line t (zone_made z number m e) s) ≡ checked lo (ledger_of line t s).pending (ledger_of line t s)
  behind_checked unanswered lo least =
      heard_ledger v (uncounted t 0 m v unanswered) lo least
      ∙ sym (checked_told len steps lo (with_fronts (zone_id line) behind v) (ahead_now line t s invariant c))

  unused_least : is_used line (zone_id line) t s (possible_front line (zone_id line) t s) m ≡ false → takes_by t (account line t s) m ≡ false
      → least_of (longest_end line t s) (fronts_behind line (zone_id line) t s (possible_front line (zone_id line) t s) m) ≡ (invariant.fronts c).lo
  unused_least unused untaken = (fronts_unused line t s m (invariant.fronts c) unused untaken).least

  -- growth counts nothing
  pub behind_grown : answers t (Some (0, m)) ≡ false → is_used line (zone_id line) t s (possible_front line (zone_id line) t s) m ≡ false → takes_by t (account line t s) m ≡ false
      → ledger_told (seg_len line) (journey line t s) (account_taken line t (zone_made z number m e) s) ≡ ledger_of line t s
  behind_grown unanswered unused untaken =
      heard_ledger v (uncounted t 0 m v unanswered) (invariant.fronts c).lo (unused_least unused untaken)
      ∙ ap (ledger_told len steps) (unpassed_same len steps (invariant.fronts c).lo (with_fronts (zone_id line) behind v) (unpassed_now line t s invariant c))

  -- the ledger is the one of that account, where nothing is issued that counts
  pub ledger_behind : account line t (zone_made z number m e ∷ s) ≡ account_taken line t (zone_made z number m e) s
      → ledger_of line t (zone_made z number m e ∷ s) ≡ ledger_told (seg_len line) (journey line t s) (account_taken line t (zone_made z number m e) s)
  ledger_behind is =
      ap (λ (w : Account). ledger_told len (journey line t (x ∷ s)) w) is
      ∙ ap (λ (xs : List DirSeg). ledger_told len xs (account_taken line t x s)) (journey_still line t x s refl)

-- An answer that it takes.
module _ (line : Line) (z ordinal : ℕ) (u : TrainId) (time number : ℕ) (taken : Bool) (e : Effect) (s : Story) (zone : suc z ≡ zone_id line) (t : ℕ) (invariant : Invariant line t s) (c : controls (zone_id line) t s ≡ true)
    (none : grants_entry (zone_id line) t (zone_made z ordinal (msg.Answer u time number taken) e) ≡ false) (its : nat_eq u.0 t ≡ true) where
  abbrev a : Msg
  a = msg.Answer u time number taken

  told_answer : (lo : ℕ) → least_of (longest_end line t s) (fronts_behind line (zone_id line) t s (possible_front line (zone_id line) t s) (msg.Answer u time number taken)) ≡ lo
      → (0 < (answered number taken (account line t s)).shrink → lo ≤ shrink_end (seg_len line) (journey line t s) (answered number taken (account line t s)))
      → ledger_told (seg_len line) (journey line t s) (account_taken line t (zone_made z ordinal (msg.Answer u time number taken) e) s)
      ≡ after_answer (answer_of number taken (ledger_of line t s)) number (ledger_of line t s)
  told_answer lo least unpassed =
      let len_ = seg_len line in
      let steps_ = journey line t s in
      let v_ = account line t s in
      let fronts = fronts_behind line (zone_id line) t s (possible_front line (zone_id line) t s) a in
      let counted_ : counts t a v_ ≡ answered number taken v_ = rw its refl in
      heard_ledger line z ordinal a e s zone t invariant c none (answered number taken v_) counted_ lo least
      ∙ (ap (ledger_told len_ steps_) (unpassed_same len_ steps_ lo (with_fronts (zone_id line) fronts (answered number taken v_)) unpassed)
      ∙ sym (answered_told len_ steps_ number taken v_ (ahead_now line t s invariant c)))

  pub behind_answered : ledger_told (seg_len line) (journey line t s) (account_taken line t (zone_made z ordinal (msg.Answer u time number taken) e) s)
      ≡ after_answer (answer_of number taken (ledger_of line t s)) number (ledger_of line t s)
  behind_answered = by_test (takes_by t (account line t s) (msg.Answer u time number taken))
      (λ y. told_answer _ refl (λ some. absurd (shrink_gone y some)))
      (λ n. told_answer (invariant.fronts c).lo (unused_least line z ordinal a e s zone t invariant c none refl n)
      (answered_unpassed (seg_len line) (journey line t s) (invariant.fronts c).lo number taken (account line t s) (unpassed_now line t s invariant c)))
    where
      shrink_gone : takes_by t (account line t s) (msg.Answer u time number taken) ≡ true → 0 < (answered number taken (account line t s)).shrink → ⊥
      shrink_gone y =
          let w = account line t s in
          let k = parts (nat_eq u.0 t) (is_new number w) (nat_eq number w.shrink) taken y in
          rw (k.0, k.1.0, k.1.1) (λ some. omega (arith, some))
        where
          parts : (a b d f : Bool) → (a && (b && (d && f))) ≡ true → (b ≡ true) × ((d ≡ true) × (f ≡ true))
          parts true true true true h = (refl, (refl, refl))
          parts true true true false h = absurd cc
          parts true true false f h = absurd cc
          parts true false d f h = absurd cc
          parts false b d f h = absurd cc
