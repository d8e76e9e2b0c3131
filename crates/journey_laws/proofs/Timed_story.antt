-- Times in messages, and every zone's Now, are moments of the clock.
use Rattle.std.proofs.Common.{◌≡◌, ℕ, max, arith, List, [], ◌∷◌, true, refl}
use Rattle.std.proofs.lemmas.Bool.Decides.{nat_tests}
use Rattle.std.specs.Prelude.{nat_eq, nat_le}
use Rattle.list_laws.proofs.By_test.{by_test}
use Rattle.definitions.specs.declared.event.Event.{Event}
use Rattle.definitions.specs.Track.{Line}
use Rattle.definitions.specs.Story.{Transition, Story}
use Rattle.definitions.specs.World.{clock, was_moment}
use Rattle.definitions.specs.Control.{message_time, took_time, now_of}
use Rattle.definitions.specs.Steps.{effects, story_of}
use Rattle.definitions.specs.Safe.{Kept}
use Rattle.event_laws.proofs.By_does.{effect_times, effect_took}
use Rattle.event_laws.proofs.Issued_all.{AllIssued, all_weaker}
use Rattle.event_laws.proofs.Admitted.{Admitted, admitted}
use Rattle.event_laws.proofs.Moment_most.{moment_stays, moment_now, moment_zero}
use Rattle.journey_laws.proofs.Motion.{Timed}

pub timed_start : Timed []
unfolding AllIssued now_of was_moment
timed_start = record { messages = tt; nows = λ z. refl }

greater : (s : Story) (a b : ℕ) → was_moment a s ≡ true → was_moment b s ≡ true → was_moment (max a b) s ≡ true
greater s a b h k = by_test (nat_le a b)
    (λ y. let e : max a b ≡ b = grind (arith, nat_tests) in rw e k)
    (λ n. let e : max a b ≡ a = grind (arith, nat_tests) in rw e h)

now_next : (z : ℕ) (x : Transition) (s : Story) → was_moment (now_of z s) s ≡ true → was_moment (took_time x.took) s ≡ true → was_moment (now_of z (x ∷ s)) s ≡ true
unfolding now_of
now_next z x s h k = by_test (nat_eq x.actor z)
    (λ y. rw y (greater s (now_of z s) (took_time x.took) h k))
    (λ n. rw n h)

pub timed_step : (line : Line) (s : Story) (e : Event) → Admitted line s e → Timed s → Timed (effects line s e ∷ s)
unfolding AllIssued
timed_step line s e a k =
    let x = effects line s e in
    record {
      messages = (
        effect_times (λ n. was_moment n (x ∷ s) ≡ true) line s (moment_zero (x ∷ s)) (moment_stays (clock s) x s (moment_now s)) e,
        all_weaker (λ m. was_moment (message_time m) s ≡ true) (λ m. was_moment (message_time m) (x ∷ s) ≡ true) (λ m h. moment_stays (message_time m) x s h) s k.messages,
      );
      nows = λ z. moment_stays (now_of z (x ∷ s)) x s (now_next z x s (k.nows z) (effect_took (λ n. was_moment n s ≡ true) line s (moment_zero s) k.messages e));
    }

pub timed_story : (line : Line) (es : List Event) → Kept line es → Timed (story_of line es)
unfolding story_of Kept
timed_story line [] k = timed_start
timed_story line (e ∷ es) k = timed_step line (story_of line es) e (admitted line (story_of line es) e k.0) (timed_story line es k.1)
