-- At most one message goes out at each event, so the limit on messages is never met below that on events.
use Rattle.std.proofs.Common.{◌≡◌, ℕ, suc, ◌≤◌, List, [], ◌∷◌, length, Some, None, false, refl, if◌then◌else◌, arith}
use Rattle.std.proofs.lemmas.Bool.Decides.{nat_tests}
use Rattle.std.specs.Prelude.{nat_le, nat_lt}
use Rattle.list_laws.proofs.By_test.{by_test}
use Rattle.definitions.specs.declared.event.Event.{Event}
use Rattle.definitions.specs.declared.message.Msg.{Msg}
use Rattle.definitions.specs.declared.document.Ending.TheVariants as ends
use Rattle.definitions.specs.Track.{Line}
use Rattle.definitions.specs.Story.{Story, messages}
use Rattle.definitions.specs.Steps.{effects, story_of, world_takes}
use Rattle.definitions.specs.Trace.{event_limit, no_room}
use Rattle.event_laws.proofs.Issued_all.{AtMostOne, says_nothing, says_one}
use Rattle.event_laws.proofs.Zone_issues.{world_issues, zone_issues}
use Rattle.event_laws.proofs.By_does.{by_does}

one_most : (P : ℕ × Msg → Type 0) (issued : List (ℕ × Msg)) → AtMostOne P issued → length issued ≤ 1
one_most P issued (says_nothing h) = rw h (omega arith)
one_most P issued (says_one x h p) = rw h (omega arith)

pub issues_one : (line : Line) (s : Story) (e : Event) → length (effects line s e).issued ≤ 1
issues_one line s e = by_does line s e (λ x. length x.issued ≤ 1)
    (λ a x i. one_most _ x.issued i)
    (λ from m k. one_most _ (world_takes line s from m).issued (world_issues line s from m))
    (λ z from m k. one_most _ _ (zone_issues line (suc z) from s m))

pub messages_most : (line : Line) (es : List Event) → messages (story_of line es) ≤ length es
unfolding story_of messages
messages_most line [] = omega arith
messages_most line (e ∷ es) =
    let i = messages_most line es in
    let one = issues_one line (story_of line es) e in
    omega (arith, i, one)

-- so the limit on events alone leaves no room
pub no_room_is : (line : Line) (es : List Event) → no_room es (story_of line es) ≡ (if nat_le event_limit (length es) then Some ends.Events else None)
no_room_is line es = by_test (nat_le 200000 (length es))
    (λ y. rw y refl)
    (λ n.
    let few = messages_most line es in
    let under : nat_lt 998000 (messages (story_of line es)) ≡ false = grind (arith, nat_tests) in
    rw (n, under) refl)
