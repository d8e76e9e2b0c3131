-- The journey of a train is the track from the step of its first request for entry up to its head.
use Rattle.std.proofs.Common.{◌≡◌, ℕ, ◌+◌, ◌<◌, ◌≤◌, List, [], ◌∷◌, ◌++◌, length, take, Option, Some, None, true, refl, sym, ap, ◌∙◌, arith}
use Rattle.std.proofs.lemmas.List.{take-append-le}
use Rattle.std.specs.Prelude.{is_some}
use Rattle.std.specs.List.{list_all}
use Rattle.std.proofs.lemmas.Option.{same_Some}
use Rattle.list_laws.proofs.By_test.{by_test}
use Rattle.track_points.specs.declared.ids.DirSeg.{DirSeg}
use Rattle.track_points.specs.Points.{total, steps_to}
use Rattle.definitions.specs.Track.{Line, seg_len, last_step, next_step, track_from, track_to, led}
use Rattle.definitions.specs.Rules.{is_line}
use Rattle.definitions.specs.Premises.{on_line}
use Rattle.definitions.specs.Ways.{chained}
use Rattle.definitions.specs.Story.{Transition, Story, first_told}
use Rattle.definitions.specs.World.{entry_in, first_entry, head, goes_on, begun, journey}
use Rattle.event_laws.proofs.Still_world.{head_still}
use Rattle.way_laws.proofs.Cut_front.{cut_first, cut_some, cut_front}
use Rattle.way_laws.proofs.Cut_cut.{cut_again, cut_more, cut_cut}
use Rattle.way_laws.proofs.Track_front.{track_some}
use Rattle.journey_laws.proofs.Led_track.{led_track, led_first, led_on}

some_of : {A : Type 0} (x : Option A) (a : A) → x ≡ Some a → is_some x ≡ true
some_of x a h = rw h refl

begun_some : (x : Option DirSeg) (steps : List DirSeg) → 0 < length steps → begun x steps ≡ steps
begun_some None steps h = refl
begun_some (Some st) [] h = absurd (omega arith)
begun_some (Some st) (a ∷ steps) h = refl

-- A journey is its own steps up to the head, and keeps its first steps as the head goes on.

led_ends : (line : Line) (steps : List DirSeg) (p : ℕ) → steps_to (seg_len line) (led (seg_len line) line steps p) p ≡ led (seg_len line) line steps p
unfolding steps_to
led_ends line [] p = refl
led_ends line (st ∷ steps) p = cut_again (seg_len line) ((st ∷ steps) ++ track_from line (next_step line (last_step (st ∷ steps))) (p + 1)) p

pub journey_ends : (line : Line) (t : ℕ) (s : Story) → steps_to (seg_len line) (journey line t s) (head t s) ≡ journey line t s
unfolding journey steps_to
journey_ends line t [] = refl
journey_ends line t (e ∷ s) =
    by_test (goes_on t e.event)
    (λ y. rw y (led_ends line (begun (entry_in t e.event) (journey line t s)) (head t (e ∷ s))))
    (λ n. let k = head_still t e s n in rw (n, k) (journey_ends line t s))

led_keeps : (line : Line) (steps : List DirSeg) (h p : ℕ) → 0 < length steps → h ≤ total (seg_len line) steps → h ≤ p → steps_to (seg_len line) steps h ≡ steps → steps_to (seg_len line) (led (seg_len line) line steps p) h ≡ steps
led_keeps line [] h p some room le ends = absurd (omega arith)
led_keeps line (st ∷ steps) h p some room le ends =
    let more = track_from line (next_step line (last_step (st ∷ steps))) (p + 1) in
    cut_cut (seg_len line) ((st ∷ steps) ++ more) h p le ∙ cut_more (seg_len line) (st ∷ steps) more h some room ∙ ends

-- to where it ends it is led by its own steps
pub led_still : (line : Line) (steps : List DirSeg) (h : ℕ) → 0 < length steps → h ≤ total (seg_len line) steps → steps_to (seg_len line) steps h ≡ steps → led (seg_len line) line steps h ≡ steps
led_still line [] h some le ends = absurd (omega arith)
led_still line (st ∷ steps) h some le ends = cut_more (seg_len line) (st ∷ steps) (track_from line (next_step line (last_step (st ∷ steps))) (h + 1)) h some le ∙ ends

pub journey_goes_on : (line : Line) (t : ℕ) (e : Transition) (s : Story) → 0 < length (journey line t s) → head t s ≤ total (seg_len line) (journey line t s) → head t s ≤ head t (e ∷ s)
    → steps_to (seg_len line) (journey line t (e ∷ s)) (head t s) ≡ journey line t s
unfolding journey
journey_goes_on line t e s some room le =
    by_test (goes_on t e.event)
    (λ y.
    let b = begun_some (entry_in t e.event) (journey line t s) some in
    rw (y, b) (led_keeps line (journey line t s) (head t s) (head t (e ∷ s)) some room le (journey_ends line t s)))
    (λ n. rw n (journey_ends line t s))

-- it is led on, also where the head stays
pub journey_led : (line : Line) (t : ℕ) (e : Transition) (s : Story) → 0 < length (journey line t s) → head t s ≤ total (seg_len line) (journey line t s) → journey line t (e ∷ s) ≡ led (seg_len line) line (journey line t s) (head t (e ∷ s))
unfolding journey
journey_led line t e s some room = by_test (goes_on t e.event)
    (λ y. let b = begun_some (entry_in t e.event) (journey line t s) some in rw (y, b) refl)
    (λ n. let k = head_still t e s n in rw (n, k) (sym (led_still line (journey line t s) (head t s) some room (journey_ends line t s))))

-- its first steps stay
pub first_steps : (line : Line) (t : ℕ) (e : Transition) (s : Story) (n : ℕ) → 0 < length (journey line t s) → head t s ≤ total (seg_len line) (journey line t s) → head t s ≤ head t (e ∷ s) → n ≤ length (journey line t s)
    → take n (journey line t (e ∷ s)) ≡ take n (journey line t s)
first_steps line t e s n some room le few =
    let f = cut_front (seg_len line) (journey line t (e ∷ s)) (head t s) in
    let g : journey line t (e ∷ s) ≡ journey line t s ++ f.0 = f.1 ∙ ap (λ xs. xs ++ f.0) (journey_goes_on line t e s some room le) in
    ap (take n) g ∙ take-append-le n (journey line t s) f.0 few

-- one that asked for no entry has none
pub journey_none : (line : Line) (t : ℕ) (s : Story) → first_entry t s ≡ None → journey line t s ≡ []
unfolding journey first_told
journey_none line t [] h = refl
journey_none line t (e ∷ s) h = by_first (first_entry t s) refl (journey_none line t s)
  where
    by_first : (x : Option DirSeg) → first_entry t s ≡ x → (first_entry t s ≡ None → journey line t s ≡ []) → journey line t (e ∷ s) ≡ []
    by_first (Some a) is f = absurd (let c : Some a ≡ None = rw is at h in cc)
    by_first None is f =
        let none : entry_in t e.event ≡ None = rw is at h in
        let i = f is in
        by_test (goes_on t e.event)
        (λ y. rw (y, none, i) refl)
        (λ n. rw (n, i) refl)

led_begins : (line : Line) (st : DirSeg) (steps : List DirSeg) (p : ℕ) → (more : List DirSeg) × (led (seg_len line) line (st ∷ steps) p ≡ st ∷ more)
led_begins line st steps p = cut_first (seg_len line) st (steps ++ track_from line (next_step line (last_step (st ∷ steps))) (p + 1)) p

-- it begins with the step of the first request for entry
pub journey_begins : (line : Line) (t : ℕ) (st : DirSeg) (s : Story) → first_entry t s ≡ Some st → (more : List DirSeg) × (journey line t s ≡ st ∷ more)
unfolding journey first_told
journey_begins line t st [] h = absurd cc
journey_begins line t st (e ∷ s) h = by_first (first_entry t s) refl (journey_begins line t st s)
  where
    by_first : (x : Option DirSeg) → first_entry t s ≡ x → (first_entry t s ≡ Some st → (more : List DirSeg) × (journey line t s ≡ st ∷ more)) → (more : List DirSeg) × (journey line t (e ∷ s) ≡ st ∷ more)
    by_first None is f =
        let asks : entry_in t e.event ≡ Some st = rw is at h in
        let y : goes_on t e.event ≡ true = rw asks refl in
        let none = journey_none line t s is in
        let l = led_begins line st [] (head t (e ∷ s)) in
        (l.0, rw (y, none, asks) l.1)
    by_first (Some a) is f =
        let same : a ≡ st = same_Some a st (rw is at h) in
        let i = f (is ∙ ap (λ (x : DirSeg). Some x) same) in
        by_test (goes_on t e.event)
        (λ y.
        let b = begun_some (entry_in t e.event) (st ∷ i.0) (omega arith) in
        let l = led_begins line st i.0 (head t (e ∷ s)) in
        (l.0, rw (y, i.1, b) l.1))
        (λ n. (i.0, rw n i.1))

-- along a route of joined steps it stays the route up to the head
pub journey_goes : (line : Line) (t : ℕ) (e : Transition) (s : Story) (kept : List DirSeg) → is_line line ≡ true → 0 < length kept → chained line kept ≡ true → list_all (on_line line) kept ≡ true
    → head t (e ∷ s) ≤ total (seg_len line) kept → journey line t s ≡ steps_to (seg_len line) kept (head t s) → journey line t (e ∷ s) ≡ steps_to (seg_len line) kept (head t (e ∷ s))
unfolding journey
journey_goes line t e s kept valid some chain own room is = by_test (goes_on t e.event)
    (λ y.
    let cut = steps_to (seg_len line) kept (head t s) in
    let b = begun_some (entry_in t e.event) cut (cut_some (seg_len line) kept (head t s) some) in
    rw (y, is, b) (led_on line kept (head t s) (head t (e ∷ s)) valid some chain own room))
    (λ n. let k = head_still t e s n in rw (n, k) is)

module _ (line : Line) (t : ℕ) (st : DirSeg) (valid : is_line line ≡ true) (on : on_line line st ≡ true) where
  some_track : (p : ℕ) → 0 < length (track_to line (Some st) p)
  some_track p = cut_some (seg_len line) (track_from line (Some st) (p + 1)) p (track_some line st (p + 1) (omega arith))

  -- Journey: the track up to the head
  pub journey_track : (s : Story) → first_entry t s ≡ Some st → journey line t s ≡ track_to line (Some st) (head t s)
  unfolding journey first_told
  journey_track [] h = absurd cc
  journey_track (e ∷ s) h = by_first (first_entry t s) refl (journey_track s)
    where
      by_first : (x : Option DirSeg) → first_entry t s ≡ x → (first_entry t s ≡ Some st → journey line t s ≡ track_to line (Some st) (head t s))
          → journey line t (e ∷ s) ≡ track_to line (Some st) (head t (e ∷ s))
      by_first None is f =
          let asks : entry_in t e.event ≡ Some st = rw is at h in
          let y : goes_on t e.event ≡ true = rw asks refl in
          let none = journey_none line t s is in
          rw (y, none, asks) (led_first line st valid on (head t (e ∷ s)))
      by_first (Some a) is f =
          let same : a ≡ st = same_Some a st (rw is at h) in
          let i = f (is ∙ ap (λ (x : DirSeg). Some x) same) in
          by_test (goes_on t e.event)
          (λ y.
          let b = begun_some (entry_in t e.event) (track_to line (Some st) (head t s)) (some_track (head t s)) in
          rw (y, i, b) (led_track line st valid on (head t s) (head t (e ∷ s))))
          (λ n. let k = head_still t e s n in rw (n, i, k) refl)
