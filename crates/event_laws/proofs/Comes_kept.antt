-- Further events that come, up to the first that there is no room for: they are admitted, and no more than there may be.
use Rattle.std.proofs.Common.{◌≡◌, suc, ◌≤◌, List, [], ◌∷◌, ◌++◌, append_assoc, length, Option, Some, None, true, refl, sym, ◌∙◌, ap, arith}
use Rattle.std.proofs.lemmas.Bool.Decides.{nat_tests}
use Rattle.std.specs.Prelude.{nat_le}
use Rattle.list_laws.proofs.By_test.{by_test}
use Rattle.definitions.specs.declared.event.Event.{Event}
use Rattle.definitions.specs.declared.outcome.Outcome.{Outcome}
use Rattle.definitions.specs.declared.document.Ending.{Ending}
use Rattle.definitions.specs.declared.document.Ending.TheVariants as ends
use Rattle.definitions.specs.Track.{Line}
use Rattle.definitions.specs.Premises.{admits}
use Rattle.definitions.specs.Steps.{effects, story_of}
use Rattle.definitions.specs.Safe.{Kept}
use Rattle.definitions.specs.Trace.{Came, no_room, with_lines, unless, stopped, comes}
use Rattle.event_laws.proofs.Messages_most.{no_room_is}

-- each of further events of a history is admitted where it stands
unfoldable pub AllAdmitted : Line → List Event → List Event → Type 0
AllAdmitted line before [] = Unit {0}
AllAdmitted line before (e ∷ more) = (admits line (story_of line before) e ≡ true) × AllAdmitted line (e ∷ before) more

pub comes_next : (line : Line) (before more : List Event) (e : Event) → no_room before (story_of line before) ≡ None → comes line before (e ∷ more) ≡ with_lines (effects line (story_of line before) e).lines (comes line (e ∷ before) more)
unfolding comes
comes_next line before more e h = ap (λ (o : Option Ending). unless o before (with_lines (effects line (story_of line before) e).lines (comes line (e ∷ before) more))) h

pub comes_stop : (line : Line) (before more : List Event) (e : Event) (ending : Ending) → no_room before (story_of line before) ≡ Some ending → comes line before (e ∷ more) ≡ stopped before ending
unfolding comes
comes_stop line before more e ending h = ap (λ (o : Option Ending). unless o before (with_lines (effects line (story_of line before) e).lines (comes line (e ∷ before) more))) h

pub lines_joined : (a b : List Outcome) (x : Came) → with_lines a (with_lines b x) ≡ with_lines (a ++ b) x
lines_joined a b x = ap (λ (ls : List Outcome). record { went = record { events = x.went.events; lines = ls }; ending = x.ending }) (sym (append_assoc a b x.went.lines))

kept_unless : (line : Line) (o : Option Ending) (before : List Event) (x : Came) → Kept line before → Kept line x.went.events → Kept line (unless o before x).went.events
kept_unless line (Some ending) before x k l = k
kept_unless line None before x k l = l

pub comes_kept : (line : Line) (more before : List Event) → AllAdmitted line before more → Kept line before → Kept line (comes line before more).went.events
unfolding AllAdmitted Kept comes
comes_kept line [] before a k = k
comes_kept line (e ∷ more) before a k =
    kept_unless line (no_room before (story_of line before)) before (with_lines (effects line (story_of line before) e).lines (comes line (e ∷ before) more)) k
    (comes_kept line more (e ∷ before) a.1 (a.0, k))

few_unless : (o : Option Ending) (before : List Event) (x : Came) → length before ≤ 200000 → (o ≡ None → length x.went.events ≤ 200000) → length (unless o before x).went.events ≤ 200000
few_unless (Some ending) before x b m = b
few_unless None before x b m = m refl

-- where there is room there are fewer than there may be
pub room_left : (line : Line) (before : List Event) → no_room before (story_of line before) ≡ None → suc (length before) ≤ 200000
room_left line before h = by_test (nat_le 200000 (length before))
    (λ y. absurd (let e : Some ends.Events ≡ None = rw y at (sym (no_room_is line before) ∙ h) in cc))
    (λ n. grind (arith, nat_tests))

pub comes_few : (line : Line) (more before : List Event) → length before ≤ 200000 → length (comes line before more).went.events ≤ 200000
unfolding comes
comes_few line [] before h = h
comes_few line (e ∷ more) before h =
    few_unless (no_room before (story_of line before)) before (with_lines (effects line (story_of line before) e).lines (comes line (e ∷ before) more)) h
    (λ room. comes_few line more (e ∷ before) (room_left line before room))

-- where there is no room nothing comes
pub comes_none : (line : Line) (more before : List Event) (ending : Ending) → no_room before (story_of line before) ≡ Some ending → (comes line before more).went.events ≡ before
unfolding comes
comes_none line [] before ending h = refl
comes_none line (e ∷ more) before ending h = ap (λ (x : Came). x.went.events) (comes_stop line before more e ending h)
