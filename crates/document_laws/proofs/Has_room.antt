-- There is room for an event as long as there are fewer than there may be.
use Rattle.std.proofs.Common.{◌≡◌, ℕ, ◌+◌, ◌≤◌, ◌<◌, List, [], ◌∷◌, length, Bool, true, false, refl, ◌∙◌, ap, arith}
use Rattle.std.proofs.lemmas.Bool.{lt-leb}
use Rattle.std.specs.Prelude.{nat_eq, nat_le, is_none, Option, Some, None, ◌&&◌, not}
use Rattle.list_laws.proofs.By_test.{by_test}
use Rattle.definitions.specs.declared.event.Event.{Event}
use Rattle.definitions.specs.declared.document.Ending.{Ending}
use Rattle.definitions.specs.declared.document.Ending.TheVariants as ends
use Rattle.definitions.specs.Track.{Line}
use Rattle.definitions.specs.Story.{Story}
use Rattle.definitions.specs.Premises.{too_many, premise_of}
use Rattle.definitions.specs.Steps.{effects, story_of}
use Rattle.definitions.specs.Trace.{Came, event_limit, went, stands_for, no_room, with_lines, unless, comes, event_comes}
use Rattle.event_laws.proofs.Messages_most.{no_room_is}
use Rattle.event_laws.proofs.Comes_kept.{comes_next}

pub has_room : (line : Line) (events : List Event) → length events < event_limit → no_room events (story_of line events) ≡ None
has_room line events few =
    let below : nat_le event_limit (length events) ≡ false = lt-leb event_limit (length events) few in
    no_room_is line events ∙ rw below refl

-- further events that there is room for
pub comes_went : (line : Line) (more events : List Event) → length events + length more ≤ event_limit → comes line events more ≡ record { went = went line events more; ending = None }
unfolding comes went
comes_went line [] events few = refl
comes_went line (e ∷ more) events few =
    comes_next line events more e (has_room line events (omega (arith, few)))
    ∙ ap (with_lines (effects line (story_of line events) e).lines) (comes_went line more (e ∷ events) (omega (arith, few)))

-- How an event of a script may end a document: by the limit on trains or that on events, or by a premise.

abbrev pub EndsAs : (Ending → Type 0) → Option Ending → Type 0
EndsAs P None = Unit {0}
EndsAs P (Some ending) = P ending

room_ends : (P : Ending → Type 0) → P ends.Events → (line : Line) (events : List Event) → EndsAs P (no_room events (story_of line events))
room_ends P full line events = rw (no_room_is line events) (by_test (nat_le event_limit (length events)) (λ y. rw y full) (λ n. rw n tt))

unless_ends : (P : Ending → Type 0) (x : Option Ending) (events : List Event) (y : Came) → EndsAs P x → EndsAs P y.ending → EndsAs P (unless x events y).ending
unless_ends P None events y h g = g
unless_ends P (Some ending) events y h g = h

comes_ends : (P : Ending → Type 0) → P ends.Events → (line : Line) (more events : List Event) → EndsAs P (comes line events more).ending
unfolding comes
comes_ends P full line [] events = tt
comes_ends P full line (e ∷ more) events =
    unless_ends P (no_room events (story_of line events)) events (with_lines (effects line (story_of line events) e).lines (comes line (e ∷ events) more)) (room_ends P full line events)
    (comes_ends P full line more (e ∷ events))

pub event_ends : (P : Ending → Type 0) → P ends.Trains → P ends.Events → (n : ℕ) → ((p : ℕ) → P (ends.Premise n p)) → (line : Line) (events : List Event) (s : Story) (e : Event) → EndsAs P (event_comes n line events s e).ending
event_ends P trains full n broken line events s e = by_test (too_many s e)
    (λ m. rw m trains)
    (λ m. by_test (is_none (no_room events s) && not (nat_eq (premise_of line s e) 0))
    (λ p. rw (m, p) (broken (premise_of line s e)))
    (λ p. rw (m, p) (comes_ends P full line (stands_for line s e) events)))

-- The limit on messages is never met.

abbrev pub is_messages : Ending → Bool
is_messages ends.Messages = true
is_messages _ = false

abbrev pub OtherEnding : Option Ending → Type 0
OtherEnding = EndsAs (λ ending. is_messages ending ≡ false)

pub event_other : (n : ℕ) (line : Line) (events : List Event) (s : Story) (e : Event) → OtherEnding (event_comes n line events s e).ending
event_other n line events s e = event_ends (λ ending. is_messages ending ≡ false) refl refl n (λ p. refl) line events s e
