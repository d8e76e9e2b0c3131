-- The head and the limit of a train on its journey, as a transition leaves them.
use Rattle.std.proofs.Common.{◌≡◌, ℕ, ◌+◌, ◌≤◌, List, [], ◌∷◌, length, Some, None, true, false, refl, sym, ◌∙◌, ap, arith}
use Rattle.std.proofs.lemmas.Bool.Decides.{nat_tests}
use Rattle.std.specs.Prelude.{nat_le}
use Rattle.std.specs.List.{list_all}
use Rattle.list_laws.proofs.By_test.{by_test}
use Rattle.track_points.specs.declared.ids.DirSeg.{DirSeg}
use Rattle.track_points.specs.Points.{total, steps_to, offset_to}
use Rattle.definitions.specs.Track.{Line, seg_len, last_step, led}
use Rattle.definitions.specs.Rules.{is_line}
use Rattle.definitions.specs.Premises.{on_line}
use Rattle.definitions.specs.Story.{Transition, Story, ever}
use Rattle.definitions.specs.World.{first_entry, enters, entered, moved, head, journey, limit_held, held_end, limit_place, last_taken}
use Rattle.definitions.specs.Longest.{longest_route}
use Rattle.plain_state.specs.World.{moved_on}
use Rattle.plain_state.specs.Refinement.{head_of, pace_of}
use Rattle.way_laws.proofs.Cut_front.{cut_all}
use Rattle.event_laws.proofs.Facts_stay.{entered_stays}
use Rattle.journey_laws.proofs.Motion.{Motion, head_next}
use Rattle.journey_laws.proofs.Journey_track.{journey_ends, journey_led}
use Rattle.journey_laws.proofs.Invariant.{Invariant}
use Rattle.journey_laws.proofs.One_route.{on_controls}
use Rattle.journey_laws.proofs.First_steps.{off_journey, controlled_some, controlled_reaches, controlled_first, end_same}
use Rattle.refinement_laws.proofs.Head_moved.{head_at, head_moved}

-- where the head of a train on the line is
pub head_found : (line : Line) (t : ℕ) (s : Story) → entered t s ≡ true → head_of line t s ≡ head_at (seg_len line) (journey line t s) (head t s)
head_found line t s on = rw on refl

-- a train on the line moves on from there
pub head_moves : (line : Line) (t : ℕ) (x : Transition) (s : Story) → is_line line ≡ true → (invariant : Invariant line t s) → (after : Invariant line t (x ∷ s)) → entered t s ≡ true → enters t x.event ≡ false
    → head_of line t (x ∷ s) ≡ moved_on line (moved t x.event) (head_of line t s)
head_moves line t x s valid invariant after on off =
    let len = seg_len line in
    let mm = moved t x.event in
    let steps = journey line t s in
    let c = on_controls line t s invariant.authorized on in
    let on2 = entered_stays t x s on in
    let c2 = on_controls line t (x ∷ s) after.authorized on2 in
    let f = invariant.authorized.controlled c in
    let some = controlled_some line t s invariant.authorized c invariant.motion in
    let room = controlled_reaches line t s invariant.authorized c invariant.motion in
    let far = controlled_reaches line t (x ∷ s) after.authorized c2 after.motion in
    let h : head t (x ∷ s) ≡ head t s + mm = head_next t x s off in
    let j : journey line t (x ∷ s) ≡ led len line steps (head t s + mm) = journey_led line t x s some room ∙ ap (led len line steps) h in
    let own = ap (list_all (on_line line)) f.journey_on ∙ cut_all (on_line line) len (longest_route line t s) (head t s) f.of_line in
    let born = invariant.motion.born on in
    let long = invariant.authorized.long_some f.declared in
    let n = ap (total len) j in
    head_found line t (x ∷ s) on2
    ∙ (ap (λ (xs : List DirSeg). head_at len xs (head t (x ∷ s))) j
    ∙ (ap (head_at len (led len line steps (head t s + mm))) h
    ∙ (head_moved line valid steps own (head t s) mm some (omega (arith, born, long)) (journey_ends line t s) room (omega (arith, far, h, n))
    ∙ ap (moved_on line mm) (sym (head_found line t s on)))))

-- the limit stays where it was
pub limit_same : (line : Line) (t : ℕ) (x : Transition) (s : Story) → (invariant : Invariant line t s) → entered t s ≡ true → head t s ≤ head t (x ∷ s)
    → limit_held line t (x ∷ s) ≡ limit_held line t s → limit_place line t (x ∷ s) ≡ limit_place line t s
limit_same line t x s invariant on heads held =
    let len = seg_len line in
    let first = controlled_first line t s invariant.authorized (on_controls line t s invariant.authorized on) invariant.motion x heads in
    let l = invariant.authorized.limit on in
    ap (held_end len (journey line t (x ∷ s))) (held ∙ l.is)
    ∙ (end_same line t x s first l.held.authority l.authority.mark ∙ sym (ap (held_end len (journey line t s)) l.is))

-- a train that has not come on holds no limit
pub off_limit : (line : Line) (t : ℕ) (s : Story) → entered t s ≡ false → limit_held line t s ≡ None
unfolding ever limit_held
off_limit line t [] off = refl
off_limit line t (e ∷ s) off = by_test (enters t e.event)
    (λ a. absurd (let b : true ≡ false = rw a at off in cc))
    (λ a. let before : entered t s ≡ false = rw a at off in rw (a, before) (off_limit line t s before))

-- nor has it taken a further number
pub off_taken : (line : Line) (t : ℕ) (s : Story) → entered t s ≡ false → last_taken line t s ≡ false
unfolding ever last_taken
off_taken line t [] off = refl
off_taken line t (e ∷ s) off = by_test (enters t e.event)
    (λ a. absurd (let b : true ≡ false = rw a at off in cc))
    (λ a. let before : entered t s ≡ false = rw a at off in rw (a, before) (off_taken line t s before))

-- nor has it moved
pub off_pace : (t : ℕ) (s : Story) → entered t s ≡ false → head t s ≡ 0 → pace_of t s ≡ record { speed = 0; at = 0 }
unfolding ever head pace_of
off_pace t [] off none = refl
off_pace t (e ∷ s) off none = by_test (enters t e.event)
    (λ a. absurd (let b : true ≡ false = rw a at off in cc))
    (λ a.
    let before : entered t s ≡ false = rw a at off in
    let sum : head t s + moved t e.event ≡ 0 = rw a at none in
    let still : moved t e.event ≡ 0 = omega (arith, sum) in
    rw still (off_pace t s before (omega (arith, sum))))

-- a train that comes on is at its length, on its first step
pub head_at_length : (line : Line) (step : DirSeg) (long : ℕ) → long ≤ seg_len line step.seg.0 → head_at (seg_len line) (step ∷ []) long ≡ Some (record { step = step; mark = 0; offset = long })
unfolding offset_to last_step
head_at_length line step long h =
    let y : nat_le long (seg_len line step.seg.0) ≡ true = grind (arith, nat_tests) in
    rw y refl

-- and its journey is that step
pub journey_entered : (line : Line) (t : ℕ) (x : Transition) (s : Story) (step : DirSeg) → Motion t s → first_entry t s ≡ Some step → entered t s ≡ false → head t (x ∷ s) ≤ seg_len line step.seg.0 → journey line t (x ∷ s) ≡ step ∷ []
unfolding steps_to total
journey_entered line t x s step motion first off room =
    let j = off_journey line t s step motion first off in
    let n = ap (λ (xs : List DirSeg). length xs) j in
    let z = motion.unborn off in
    let y : nat_le (head t (x ∷ s)) (seg_len line step.seg.0) ≡ true = grind (arith, nat_tests) in
    journey_led line t x s (omega (arith, n)) (omega (arith, z)) ∙ ap (λ (xs : List DirSeg). led (seg_len line) line xs (head t (x ∷ s))) j ∙ rw y refl
