-- A train on the line decides on an authority by its room as the story does by places.
use Rattle.std.proofs.Common.{◌≡◌, ℕ, ◌+◌, ◌-◌, ◌<◌, ◌≤◌, List, length, take, Option, Some, None, true, ◌&&◌, ◌||◌, refl, arith}
use Rattle.std.proofs.lemmas.Bool.Decides.{nat_tests}
use Rattle.std.proofs.lemmas.Option.{slice_get_within}
use Rattle.std.specs.Prelude.{nat_lt, nat_le, slice_get}
use Rattle.list_laws.proofs.By_test.{by_test}
use Rattle.track_points.specs.declared.ids.DirSeg.{DirSeg}
use Rattle.track_points.specs.declared.path.Path.{Path}
use Rattle.track_points.specs.Points.{Lengths, total, end_place}
use Rattle.definitions.specs.Track.{last_step}
use Rattle.definitions.specs.Ways.{path_in_range}
use Rattle.definitions.specs.World.{is_step, authority_end, lies_on}
use Rattle.onboard.specs.declared.onboard.Onboard.{Onboard}
use Rattle.plain_state.specs.World.{takes_at}

-- a path that has a step at a number of steps has more steps
pub step_within : (st : DirSeg) (xs : List DirSeg) (k : ℕ) → is_step st (slice_get xs k) ≡ true → k < length xs
step_within st xs k h = by_found (slice_get xs k) refl h
  where
    by_found : (o : Option DirSeg) → slice_get xs k ≡ o → is_step st o ≡ true → k < length xs
    by_found None e h = absurd cc
    by_found (Some other) e h = slice_get_within xs k other e

-- the tests of a place, counted from its mark on and from the start of the journey
same_tests : (begin from at end here limit stop : ℕ) → begin + at ≡ here → here ≤ limit
    → ((nat_le from at && nat_le at end) && (nat_le (limit - here) (end - at) || nat_le stop (end - at)))
    ≡ ((nat_le (begin + from) here && nat_le here (begin + end)) && (nat_le limit (begin + end) || nat_le (here + stop) (begin + end)))
same_tests begin from at end here limit stop e h = grind (arith, nat_tests)

module _ (len : Lengths) (steps : List DirSeg) (here limit offset stop mark : ℕ) (path : Path) (o : Onboard) where
  abbrev i : ℕ
  i = length steps - 1 - mark

  -- the train decides by its room what the story decides by places
  pub decides : path_in_range len path ≡ true → o.room ≡ limit - here → here ≤ limit
      → (mark ≤ length steps - 1 → length steps - 1 - mark < length path.steps.items → total len (take mark steps) + (total len (take (length steps - 1 - mark) path.steps.items) + offset) ≡ here)
      → takes_at len stop mark path (record { step = last_step steps; mark = length steps - 1; offset = offset }) o
      ≡ (lies_on len steps here (record { mark = mark; path = path })
      && (nat_le limit (authority_end len steps (record { mark = mark; path = path })) || nat_le (here + stop) (authority_end len steps (record { mark = mark; path = path }))))
  decides fits room ahead same =
      by_test (nat_le mark (length steps - 1))
      (λ y. by_test (is_step (last_step steps) (slice_get path.steps.items (length steps - 1 - mark)))
      (λ there.
      let within = step_within (last_step steps) path.steps.items i there in
      let in_ : nat_lt i (length path.steps.items) ≡ true = grind (arith, nat_tests) in
      let place = same (grind (arith, nat_tests)) within in
      rw (y, there, fits, in_, room) (same_tests (total len (take mark steps)) path.from (total len (take i path.steps.items) + offset) (end_place len path) here limit stop place ahead))
      (λ other. rw (y, other) refl))
      (λ n. rw n refl)
