-- No more messages go out on a link than there were events.
use Rattle.std.proofs.Common.{ℕ, ◌≤◌, List, [], ◌∷◌, length, arith, nat_eq}
use Rattle.std.proofs.lemmas.List.{length-append}
use Rattle.list_laws.proofs.By_test.{by_test}
use Rattle.definitions.specs.declared.event.Event.{Event}
use Rattle.definitions.specs.declared.message.Msg.{Msg}
use Rattle.definitions.specs.Track.{Line}
use Rattle.definitions.specs.Story.{sent, to_actor}
use Rattle.definitions.specs.Steps.{effects, story_of}
use Rattle.event_laws.proofs.Messages_most.{issues_one}

of_them : (to : ℕ) (issued : List (ℕ × Msg)) → length (to_actor to issued) ≤ length issued
unfolding to_actor
of_them to [] = omega arith
of_them to (x ∷ issued) =
    let i = of_them to issued in
    by_test (nat_eq x.0 to) (λ y. rw y (omega arith)) (λ n. rw n (omega arith))

pub sent_few : (line : Line) (from to : ℕ) (es : List Event) → length (sent from to (story_of line es)) ≤ length es
unfolding sent story_of
sent_few line from to [] = omega arith
sent_few line from to (e ∷ es) =
    let i = sent_few line from to es in
    let x = effects line (story_of line es) e in
    let one = issues_one line (story_of line es) e in
    let some = of_them to x.issued in
    let all = length-append (sent from to (story_of line es)) (to_actor to x.issued) in
    by_test (nat_eq x.actor from) (λ y. rw y (omega arith)) (λ n. rw n (omega arith))
