-- A train of the world, as it is made of what the story tells of it.
use Rattle.std.proofs.Common.{◌≡◌, ℕ, ◌-◌, ◌∷◌, Option, Bool, true, false, refl, arith}
use Rattle.std.proofs.lemmas.Bool.Decides.{nat_tests}
use Rattle.std.specs.Prelude.{nat_lt}
use Rattle.list_laws.proofs.By_test.{by_test}
use Rattle.track_points.specs.declared.ids.DirSeg.{DirSeg}
use Rattle.track_points.specs.Points.{Lengths}
use Rattle.definitions.specs.Track.{Line, seg_len}
use Rattle.definitions.specs.Story.{Transition, Story, world_took}
use Rattle.definitions.specs.World.{Facts, facts_of, first_entry, enters, entered, moved, head, HeldPath, taken_number, taken_path, entry_authority, accepts_some, limit_place, last_number, last_taken}
use Rattle.definitions.specs.Steps.{sender_of}
use Rattle.plain_state.specs.declared.Head.{Head}
use Rattle.plain_state.specs.declared.Pace.{Pace}
use Rattle.plain_state.specs.declared.WorldTrain.{WorldTrain}
use Rattle.plain_state.specs.Refinement.{mm_of_entry, head_of, pace_of, world_of, world_train}

-- its facts, its first request, its entry authority, its head, its pace, its room, its last number and whether it took that
abbrev pub made : Lengths → ℕ → Option Facts → Option DirSeg → Option HeldPath → Option Head → Pace → ℕ → ℕ → Bool → Option WorldTrain
made len t f e a h p room last taken = world_of t f e (sender_of a) h p (record { entry = mm_of_entry len a; room = room; last = last; taken = taken })

pub same_made : (len : Lengths) (t : ℕ) {f g : Option Facts} {e i : Option DirSeg} {a b : Option HeldPath} {h k : Option Head} {p q : Pace} {room left last number : ℕ} {taken took : Bool}
    → f ≡ g → e ≡ i → a ≡ b → h ≡ k → p ≡ q → room ≡ left → last ≡ number → taken ≡ took → made len t f e a h p room last taken ≡ made len t g i b k q left number took
same_made len t facts entry authority head_ pace room last taken = rw (facts, entry, authority, head_, pace, room, last, taken) refl

-- the train that the story tells is another, where all of this is the same
pub is_made : (line : Line) (t : ℕ) (s : Story) {f : Option Facts} {e : Option DirSeg} {a : Option HeldPath} {h : Option Head} {p : Pace} {room last : ℕ} {taken : Bool}
    → f ≡ facts_of t s → e ≡ first_entry t s → a ≡ entry_authority t s → h ≡ head_of line t s → p ≡ pace_of t s → room ≡ limit_place line t s - head t s → last ≡ last_number t s → taken ≡ last_taken line t s
    → made (seg_len line) t f e a h p room last taken ≡ world_train line t s
is_made line t s facts entry authority head_ pace room last taken = same_made (seg_len line) t facts entry authority head_ pace room last taken

-- What a transition leaves of the pace and of the last decision.

pub pace_still : (t : ℕ) (x : Transition) (s : Story) → moved t x.event ≡ 0 → pace_of t (x ∷ s) ≡ pace_of t s
unfolding pace_of
pace_still t x s none = rw none refl

pub taken_still : (line : Line) (t : ℕ) (x : Transition) (s : Story) → enters t x.event ≡ false → nat_lt (last_number t s) (taken_number t (world_took x)) ≡ false → last_taken line t (x ∷ s) ≡ last_taken line t s
unfolding last_taken
taken_still line t x s off old = by_test (entered t s) (λ on. rw (off, on, old) refl) (λ n. rw (off, n) refl)

pub taken_none : (line : Line) (t : ℕ) (x : Transition) (s : Story) → enters t x.event ≡ false → taken_number t (world_took x) ≡ 0 → last_taken line t (x ∷ s) ≡ last_taken line t s
taken_none line t x s off none = taken_still line t x s off (rw none (grind (arith, nat_tests)))

-- a new number: the train decides on it
pub taken_new : (line : Line) (t : ℕ) (x : Transition) (s : Story) → enters t x.event ≡ false → entered t s ≡ true → nat_lt (last_number t s) (taken_number t (world_took x)) ≡ true
    → last_taken line t (x ∷ s) ≡ accepts_some line t s (limit_place line t s) (taken_path t (world_took x))
unfolding last_taken
taken_new line t x s off on new = rw (off, on, new) refl
