-- Where a train is, and was, and what its speed says of it.
use Rattle.std.proofs.Common.{◌≡◌, ℕ, ◌+◌, ◌-◌, ◌≤◌, ◌<◌, if◌then◌else◌, List, [], ◌∷◌, true, false, refl, sym, ◌∙◌, ap, subst, arith}
use Rattle.std.proofs.lemmas.Bool.Decides.{nat_tests}
use Rattle.std.proofs.lemmas.Bool.{eqb-true}
use Rattle.std.specs.Prelude.{nat_eq, nat_lt, nat_le}
use Rattle.list_laws.proofs.By_test.{by_test}
use Rattle.arrayvec.specs.ArrayVec.{ArrayVec}
use Rattle.track_points.specs.declared.ids.TrainId.{TrainId}
use Rattle.envelope.specs.Fronts.{farthest_move}
use Rattle.definitions.specs.declared.event.Event.{Event}
use Rattle.definitions.specs.declared.event.Event.TheVariants.{Step}
use Rattle.definitions.specs.Track.{Line}
use Rattle.definitions.specs.Story.{Transition, Story, ever}
use Rattle.definitions.specs.World.{elapsed, clock, at_moment, was_moment, long_of, speed_of, is_declared, enters, entered, mm_of, moved, head}
use Rattle.definitions.specs.Control.{message_time, now_of}
use Rattle.definitions.specs.Steps.{effects, story_of}
use Rattle.definitions.specs.Safe.{Kept}
use Rattle.event_laws.proofs.Entered_same.{ever_now, entered_same}
use Rattle.event_laws.proofs.Moment_most.{clock_next, moment_most, moment_now, moment_before, at_now, at_before}
use Rattle.event_laws.proofs.Issued_all.{AllIssued}
use Rattle.event_laws.proofs.Admitted.{Admitted, admitted}
use Rattle.event_laws.proofs.Facts_stay.{declared_stays, long_stays, speed_stays, entered_stays}
use Rattle.event_laws.proofs.By_does.{effect_event}
use Rattle.journey_laws.proofs.Head_step.{farther, moved_can, moved_off, moved_still, enter_declared, enter_once}

-- the place of a train's head, and its length where the train has not come on, as it is with its rear at the portal
abbrev pub place : ℕ → Story → ℕ
place t s = if entered t s then head t s else long_of t s

-- the same at a moment, for the train as it is declared now
abbrev pub place_at : ℕ → ℕ → Story → ℕ
place_at t ms s = if entered t (at_moment ms s) then head t (at_moment ms s) else long_of t s

pub record Motion (t : ℕ) (s : Story) : Type 0 where
  -- a train that has not come on has no head; one that has is wholly on the line
  pub unborn : entered t s ≡ false → head t s ≡ 0
  pub born : entered t s ≡ true → long_of t s ≤ head t s
  pub declared : entered t s ≡ true → is_declared t s ≡ true
  -- what was and what is
  pub on_now : (ms : ℕ) → entered t (at_moment ms s) ≡ true → entered t s ≡ true
  pub now_place : place_at t (clock s) s ≡ place t s
  pub past : (ms : ℕ) → clock s ≤ ms → place_at t ms s ≡ place t s
  -- it moves on, and no faster than it can
  pub forward : (a b : ℕ) → a ≤ b → place_at t a s ≤ place_at t b s
  pub slow : (a b : ℕ) → was_moment a s ≡ true → was_moment b s ≡ true → a ≤ b → place_at t b s ≤ place_at t a s + farthest_move (speed_of t s) (b - a)

-- times in messages, and every zone's Now, are values that the clock had
pub record Timed (s : Story) : Type 0 where
  pub messages : AllIssued (λ m. was_moment (message_time m) s ≡ true) s
  pub nows : (z : ℕ) → was_moment (now_of z s) s ≡ true

-- At a moment: from the last one on it is what is.

place_now : (t ms : ℕ) (s : Story) → clock s ≤ ms → place_at t ms s ≡ place t s
place_now t ms s h = ap (λ (b : Story). if entered t b then head t b else long_of t s) (at_now ms s h)

place_before : (t ms : ℕ) (e : Transition) (s : Story) → is_declared t s ≡ true → ms < clock (e ∷ s) → place_at t ms (e ∷ s) ≡ place_at t ms s
place_before t ms e s d h =
    ap (λ (b : Story). if entered t b then head t b else long_of t (e ∷ s)) (at_before ms e s h)
    ∙ ap (λ (n : ℕ). if entered t (at_moment ms s) then head t (at_moment ms s) else n) (long_stays t e s d)

-- A train that has not come on.

off_always : (t ms : ℕ) (s : Story) → entered t s ≡ false → (entered t (at_moment ms s) ≡ true → entered t s ≡ true) → entered t (at_moment ms s) ≡ false
off_always t ms s off on = by_test (entered t (at_moment ms s))
    (λ y. absurd (let c : true ≡ false = sym (on y) ∙ off in cc))
    (λ n. n)

motion_off : (t : ℕ) (s : Story) → entered t s ≡ false → head t s ≡ 0 → ((ms : ℕ) → entered t (at_moment ms s) ≡ true → entered t s ≡ true) → Motion t s
motion_off t s off none on = record {
  unborn = λ h. none;
  born = λ h. absurd (let c : true ≡ false = sym h ∙ off in cc);
  declared = λ h. absurd (let c : true ≡ false = sym h ∙ off in cc);
  on_now = on;
  now_place = place_now t (clock s) s (omega arith);
  past = λ ms h. place_now t ms s h;
  forward = λ a b h. let x = stands a in let y = stands b in omega (arith, x, y);
  slow = λ a b u v h. let x = stands a in let y = stands b in omega (arith, x, y);
}
  where
    stands : (ms : ℕ) → place_at t ms s ≡ long_of t s
    stands ms = rw (off_always t ms s off (on ms)) refl

pub motion_start : (t : ℕ) → Motion t []
unfolding ever head at_moment
motion_start t = motion_off t [] refl refl (λ ms h. h)

-- One transition further. It acts by its event.

pub head_on : (t : ℕ) (x : Transition) (s : Story) → enters t x.event ≡ true → head t (x ∷ s) ≡ long_of t s
unfolding head
head_on t x s h = rw h refl

pub head_next : (t : ℕ) (x : Transition) (s : Story) → enters t x.event ≡ false → head t (x ∷ s) ≡ head t s + moved t x.event
unfolding head
head_next t x s h = rw h refl

place_on : (t : ℕ) (s : Story) → entered t s ≡ true → place t s ≡ head t s
place_on t s h = rw h refl

place_off : (t : ℕ) (s : Story) → entered t s ≡ false → place t s ≡ long_of t s
place_off t s h = rw h refl

module _ (line : Line) (t : ℕ) (s : Story) (x : Transition) (a : Admitted line s x.event) where
  place_next : is_declared t s ≡ true → place t (x ∷ s) ≡ place t s + moved t x.event
  place_next d = by_test (enters t x.event)
      (λ y.
      let off = enter_once t s x.event a.entering y in
      let none = moved_off line t s x.event a.stopping off in
      let p = place_on t (x ∷ s) (ever_now (λ (e : Transition). enters t e.event) x s y) in
      let q = place_off t s off in
      let r = head_on t x s y in
      omega (arith, none, p, q, r))
      (λ n. by_test (entered t s)
      (λ on.
      let p = place_on t (x ∷ s) (entered_stays t x s on) in
      let q = place_on t s on in
      let r = head_next t x s n in
      omega (arith, p, q, r))
      (λ off.
      let none = moved_off line t s x.event a.stopping off in
      let p = place_off t (x ∷ s) (entered_same t x s n ∙ off) in
      let q = place_off t s off in
      let r = long_stays t x s d in
      omega (arith, none, p, q, r)))

  entry_grows : is_declared t s ≡ true → place t s ≤ place t (x ∷ s)
  entry_grows d = let p = place_next d in omega (arith, p)

  entry_still : is_declared t s ≡ true → elapsed x.event ≡ 0 → place t (x ∷ s) ≡ place t s
  entry_still d h = let p = place_next d in let m = moved_still t s x.event a.moving h in omega (arith, p, m)

  entry_stays : (ms : ℕ) → is_declared t s ≡ true → ms ≤ clock s → place_at t ms (x ∷ s) ≡ place_at t ms s
  entry_stays ms d h =
      let c = clock_next x s in
      by_test (nat_eq (elapsed x.event) 0)
      (λ y.
      let still = eqb-true (elapsed x.event) 0 y in
      by_test (nat_lt ms (clock s))
      (λ l. place_before t ms x s d (grind (arith, nat_tests)))
      (λ l. place_now t ms (x ∷ s) (grind (arith, nat_tests)) ∙ (entry_still d still ∙ sym (place_now t ms s (grind (arith, nat_tests))))))
      (λ n. place_before t ms x s d (grind (arith, nat_tests)))

  on_next : Motion t s → (ms : ℕ) → entered t (at_moment ms (x ∷ s)) ≡ true → entered t (x ∷ s) ≡ true
  on_next m ms h = by_test (nat_lt ms (clock (x ∷ s)))
      (λ l. entered_stays t x s (m.on_now ms (ap (λ (b : Story). entered t b) (sym (at_before ms x s (grind (arith, nat_tests)))) ∙ h)))
      (λ l. ap (λ (b : Story). entered t b) (sym (at_now ms (x ∷ s) (grind (arith, nat_tests)))) ∙ h)

  forward_next : is_declared t s ≡ true → Motion t s → (a b : ℕ) → a ≤ b → place_at t a (x ∷ s) ≤ place_at t b (x ∷ s)
  forward_next d m from to h =
      let c = clock_next x s in
      let g = entry_grows d in
      by_test (nat_lt to (clock (x ∷ s)))
      (λ l.
      let p = place_before t from x s d (grind (arith, nat_tests)) in
      let q = place_before t to x s d (grind (arith, nat_tests)) in
      let r = m.forward from to h in
      omega (arith, p, q, r))
      (λ l.
      let q = place_now t to (x ∷ s) (grind (arith, nat_tests)) in
      by_test (nat_lt from (clock (x ∷ s)))
      (λ k.
      let p = place_before t from x s d (grind (arith, nat_tests)) in
      let r = m.forward from to h in
      let u = m.past to (grind (arith, nat_tests)) in
      omega (arith, p, q, r, u, g))
      (λ k. let p = place_now t from (x ∷ s) (grind (arith, nat_tests)) in omega (arith, p, q)))

  -- from a moment before to the last one: to the last but one, and what the entry moves
  slow_last : is_declared t s ≡ true → Motion t s → (from : ℕ) → was_moment from s ≡ true → place t (x ∷ s) ≤ place_at t from s + farthest_move (speed_of t s) (clock (x ∷ s) - from)
  slow_last d m from u =
      let c = clock_next x s in
      let most = moment_most from s u in
      let p = place_next d in
      let q = moved_can t s x.event a.moving in
      let r = m.slow from (clock s) u (moment_now s) most in
      let w = m.now_place in
      let f = farther (speed_of t s) (clock s - from) (elapsed x.event) in
      let k : clock s - from + elapsed x.event ≡ clock (x ∷ s) - from = omega (arith, c, most) in
      let f2 = subst (λ (n : ℕ). farthest_move (speed_of t s) (clock s - from) + farthest_move (speed_of t s) (elapsed x.event) ≤ farthest_move (speed_of t s) n) k f in
      omega (arith, p, q, r, w, f2)

  slow_next : is_declared t s ≡ true → Motion t s → (a b : ℕ) → was_moment a (x ∷ s) ≡ true → was_moment b (x ∷ s) ≡ true → a ≤ b
      → place_at t b (x ∷ s) ≤ place_at t a (x ∷ s) + farthest_move (speed_of t s) (b - a)
  slow_next d m from to u v h =
      by_test (nat_lt to (clock (x ∷ s)))
      (λ l.
      let p = place_before t from x s d (grind (arith, nat_tests)) in
      let q = place_before t to x s d (grind (arith, nat_tests)) in
      let r = m.slow from to (moment_before from x s u (grind (arith, nat_tests))) (moment_before to x s v (grind (arith, nat_tests))) h in
      omega (arith, p, q, r))
      (λ l.
      let q = place_now t to (x ∷ s) (grind (arith, nat_tests)) in
      let most = moment_most to (x ∷ s) v in
      let last : to ≡ clock (x ∷ s) = grind (arith, nat_tests) in
      by_test (nat_lt from (clock (x ∷ s)))
      (λ k.
      let p = place_before t from x s d (grind (arith, nat_tests)) in
      let r = slow_last d m from (moment_before from x s u (grind (arith, nat_tests))) in
      let r2 = subst (λ (n : ℕ). place t (x ∷ s) ≤ place_at t from s + farthest_move (speed_of t s) (n - from)) (sym last) r in
      omega (arith, p, q, r2))
      (λ k. let p = place_now t from (x ∷ s) (grind (arith, nat_tests)) in omega (arith, p, q)))

  -- a train that is not declared does not come on
  off_next : is_declared t s ≡ false → Motion t s → Motion t (x ∷ s)
  off_next d m =
      let off : entered t s ≡ false = by_test (entered t s) (λ y. absurd (let c : true ≡ false = sym (m.declared y) ∙ d in cc)) (λ n. n) in
      let no : enters t x.event ≡ false = by_test (enters t x.event) (λ y. absurd (let c : true ≡ false = sym (enter_declared line t s x.event a.form y) ∙ d in cc)) (λ n. n) in
      let p = head_next t x s no in
      let q = m.unborn off in
      let r = moved_off line t s x.event a.stopping off in
      motion_off t (x ∷ s) (entered_same t x s no ∙ off) (omega (arith, p, q, r)) (on_next m)

  born_next : is_declared t s ≡ true → Motion t s → entered t (x ∷ s) ≡ true → long_of t (x ∷ s) ≤ head t (x ∷ s)
  born_next d m h =
      let l = long_stays t x s d in
      by_test (enters t x.event)
      (λ y. let p = head_on t x s y in omega (arith, p, l))
      (λ n. let p = head_next t x s n in let q = m.born (sym (entered_same t x s n) ∙ h) in omega (arith, p, q, l))

  unborn_next : Motion t s → entered t (x ∷ s) ≡ false → head t (x ∷ s) ≡ 0
  unborn_next m h = by_test (enters t x.event)
      (λ y. absurd (let c : true ≡ false = sym (ever_now (λ (e : Transition). enters t e.event) x s y) ∙ h in cc))
      (λ n.
      let off = sym (entered_same t x s n) ∙ h in
      let p = head_next t x s n in
      let q = m.unborn off in
      let r = moved_off line t s x.event a.stopping off in
      omega (arith, p, q, r))

  motion_next : Motion t s → Motion t (x ∷ s)
  motion_next m = by_test (is_declared t s)
      (λ d. record {
        unborn = unborn_next m;
        born = born_next d m;
        declared = λ h. declared_stays t x s d;
        on_now = on_next m;
        now_place = place_now t (clock (x ∷ s)) (x ∷ s) (omega arith);
        past = λ ms h. place_now t ms (x ∷ s) h;
        forward = forward_next d m;
        slow = λ from to u v h. subst (λ (n : ℕ). place_at t to (x ∷ s) ≤ place_at t from (x ∷ s) + farthest_move n (to - from)) (sym (speed_stays t x s d)) (slow_next d m from to u v h);
      })
      (λ d. off_next d m)

-- One event further.

-- the transition of an event is admitted as the event is
acts : (line : Line) (s : Story) (e : Event) → Admitted line s e → Admitted line s (effects line s e).event
acts line s e a = subst (λ (x : Event). Admitted line s x) (sym (effect_event line s e)) a

pub motion_step : (line : Line) (t : ℕ) (s : Story) (e : Event) → Admitted line s e → Motion t s → Motion t (effects line s e ∷ s)
motion_step line t s e a m = motion_next line t s (effects line s e) (acts line s e a) m

pub place_stays : (line : Line) (t ms : ℕ) (s : Story) (e : Event) → Admitted line s e → Motion t s → is_declared t s ≡ true → ms ≤ clock s → place_at t ms (effects line s e ∷ s) ≡ place_at t ms s
place_stays line t ms s e a m d h = entry_stays line t s (effects line s e) (acts line s e a) ms d h

pub place_grows : (line : Line) (t : ℕ) (s : Story) (e : Event) → Admitted line s e → Motion t s → is_declared t s ≡ true → place t s ≤ place t (effects line s e ∷ s)
place_grows line t s e a m d = entry_grows line t s (effects line s e) (acts line s e a) d

-- where a train was is not before where it is
pub place_at_most : (t ms : ℕ) (s : Story) → Motion t s → place_at t ms s ≤ place t s
place_at_most t ms s m =
    let here = m.now_place in
    by_test (nat_le ms (clock s))
    (λ y. let f = m.forward ms (clock s) (grind (arith, nat_tests)) in omega arith)
    (λ n. let p = m.past ms (grind (arith, nat_tests)) in omega arith)

-- the head never goes back
pub heads_rise : (t : ℕ) (x : Transition) (s : Story) → Motion t s → (enters t x.event ≡ true → entered t s ≡ false) → head t s ≤ head t (x ∷ s)
heads_rise t x s m once = by_test (enters t x.event)
    (λ y. let none = m.unborn (once y) in omega (arith, none))
    (λ n. let h = head_next t x s n in omega (arith, h))

pub heads_grow : (line : Line) (t : ℕ) (s : Story) (e : Event) → Admitted line s e → Motion t s → head t s ≤ head t (effects line s e ∷ s)
heads_grow line t s e a m =
    heads_rise t (effects line s e) s m (λ y. enter_once t s e a.entering (sym (ap (λ (y : Event). enters t y) (effect_event line s e)) ∙ y))

pub place_still : (line : Line) (t : ℕ) (s : Story) (e : Event) → Admitted line s e → Motion t s → is_declared t s ≡ true → elapsed e ≡ 0 → place t (effects line s e ∷ s) ≡ place t s
place_still line t s e a m d h = entry_still line t s (effects line s e) (acts line s e a) d (ap (λ (x : Event). elapsed x) (effect_event line s e) ∙ h)

pub place_moves : (line : Line) (t : ℕ) (s : Story) (ms : ℕ) (moves : ArrayVec (TrainId × ℕ)) → entered t s ≡ true → place t (effects line s (Step ms moves) ∷ s) ≡ place t s + mm_of t moves.items
place_moves line t s ms moves on =
    let x = effects line s (Step ms moves) in
    let p = place_on t (x ∷ s) (entered_stays t x s on) in
    let q = place_on t s on in
    let r = head_next t x s refl in
    omega (arith, p, q, r)

pub motion_story : (line : Line) (t : ℕ) (es : List Event) → Kept line es → Motion t (story_of line es)
unfolding story_of Kept
motion_story line t [] k = motion_start t
motion_story line t (e ∷ es) k = motion_step line t (story_of line es) e (admitted line (story_of line es) e k.0) (motion_story line t es k.1)
