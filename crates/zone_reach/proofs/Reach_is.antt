-- The closed form of a reach is the definition.
use Rattle.std.proofs.Common.{◌≡◌, ℕ, ◌+◌, ◌-◌, ◌<◌, ◌≤◌, max, Bool, true, false, List, [], ◌∷◌, length, take, refl, arith, nat_eq, nat_lt}
use Rattle.std.proofs.lemmas.Bool.Decides.{nat_tests}
use Rattle.std.proofs.lemmas.Grind.{common_steps}
use Rattle.track_points.specs.declared.ids.DirSeg.{DirSeg}
use Rattle.track_points.specs.declared.path.Path.{Path}
use Rattle.track_points.specs.Points.{Lengths, total, place_of_last, end_place}
use Rattle.definitions.specs.Track.{Line, seg_len, layout, last_step}
use Rattle.definitions.specs.Limit.{Ask, stands, obstacles, reach_on, distance_on, obstructed, first_standing, least_standing, asked_way, further}
use Rattle.plain_state.specs.declared.Controlled.{Controlled}
use Rattle.plain_state.specs.Zone.{barring_plain}
use Rattle.zone_reach.specs.declared.reach.Stop.{Stop}
use Rattle.zone_reach.specs.Reach.{end_stop, bar_stop, stop_on, stop_reach, path_fits, ReachFits}
use Rattle.zone_reach.specs.Held.{first_held}
use Rattle.zone_reach.specs.Closed.{first_closed}
use Rattle.zone_reach.proofs.First_held_is.{held_behind, first_held_is}
use Rattle.zone_reach.proofs.First_closed_is.{closed_behind, first_closed_is}
use Rattle.list_laws.proofs.By_test.{by_test}
use Rattle.definitions.specs.declared.outcome.Obstacle.TheVariants.{AskEnds, TrackEnds, Held, Closed, Pending, NotJoined, Silent, PathFull}
use Rattle.way_laws.proofs.First_is.{first_is, first_only}
use Rattle.zone_reach.proofs.Stop_is.{IsAt, at_place, at_nearest, IsStop, stop_more, stop_same, stop_first, end_from, end_below, end_within, bar_from, bar_below, full_from, full_below, full_within}
use Rattle.way_laws.proofs.Cut_front.{last_place, total_front}
use Rattle.way_laws.proofs.Journey_cut.{total_take}

-- the end of the ask or of the track
abbrev pub ends : Lengths → List DirSeg → ℕ → ℕ → Stop
ends len asked limit to = end_stop (nat_lt (len (last_step asked).seg.0) to) limit (max limit (place_of_last len asked to)) (total len asked)

-- that, or a place of what bars
abbrev pub barred_stop : Lengths → List DirSeg → ℕ → ℕ → ℕ → ℕ → Stop
barred_stop len asked limit to h c = bar_stop limit (total len asked) h c (ends len asked limit to)

pub stop_after : (len : Lengths) (asked : List DirSeg) (limit to h c : ℕ) → limit ≤ (stop_on len asked limit to h c).place
stop_after len asked limit to h c =
    let end = end_from (nat_lt (len (last_step asked).seg.0) to) limit (max limit (place_of_last len asked to)) (total len asked) (omega arith) in
    full_from limit (nat_lt 24 (length asked)) (total len (take 24 asked)) (barred_stop len asked limit to h c) (bar_from limit (total len asked) h c (ends len asked limit to) end)

ends_within : (len : Lengths) (asked : List DirSeg) (limit to : ℕ) → 0 < length asked → limit ≤ total len asked → (ends len asked limit to).place ≤ total len asked
ends_within len asked limit to s l =
    by_test (nat_lt (len (last_step asked).seg.0) to)
    (λ y. rw y (end_within limit (max limit (place_of_last len asked to)) (total len asked) l))
    (λ n. rw n (let w = last_place len asked to s (grind (arith, nat_tests)) in omega arith))

pub stop_within : (len : Lengths) (asked : List DirSeg) (limit to h c : ℕ) → 0 < length asked → limit ≤ total len (take 24 asked)
    → (stop_on len asked limit to h c).place ≤ total len (take 24 asked)
stop_within len asked limit to h c s l =
    let first = total_take len 24 asked in
    by_test (nat_lt 24 (length asked))
    (λ y. rw y (full_within limit (total len (take 24 asked)) (barred_stop len asked limit to h c) l))
    (λ n. let le : length asked ≤ 24 = grind (arith, nat_tests) in
    let all : take 24 asked ≡ asked = grind (arith, common_steps) in
    let end = ends_within len asked limit to s (omega arith) in
    let bar = bar_below limit (total len asked) h c (ends len asked limit to) in
    rw (n, all) (omega arith))

module _ (line : Line) (z : ℕ) (trains : List Controlled) (closed : List Bool) (t : ℕ) (asked : List DirSeg) (limit to : ℕ) where
  -- what is asked for
  abbrev pub ask_on : Ask
  ask_on = record { way = asked; limit = limit; to = to; bars = barring_plain line z trains closed t }

  abbrev pub held_place : ℕ
  held_place = first_held line z trains t asked limit

  abbrev pub closed_from : ℕ
  closed_from = first_closed line z closed asked limit

  abbrev pub stop_there : Stop
  stop_there = stop_on (seg_len line) asked limit to held_place closed_from

  -- the end of the ask, and that of all steps
  abbrev ask_end : ℕ
  ask_end = max limit (place_of_last (seg_len line) asked to)

  abbrev all_end : ℕ
  all_end = total (seg_len line) asked

  ask_ends : IsStop (layout line) ask_on (AskEnds ∷ []) (record { place = ask_end; obstacle = AskEnds })
  unfolding first_standing
  ask_ends = let e : nat_eq ask_end ask_end ≡ true = grind (arith, nat_tests) in record {
    from = omega arith;
    there = rw e refl;
    before = λ p l b. let n : nat_eq p ask_end ≡ false = grind (arith, nat_tests) in rw n refl;
    least = rw e refl;
  }

  track_ends : IsStop (layout line) ask_on (AskEnds ∷ TrackEnds ∷ []) (ends (seg_len line) asked limit to)
  track_ends =
      stop_more (layout line) ask_on (AskEnds ∷ []) TrackEnds (nat_lt (seg_len line (last_step asked).seg.0) to) all_end _ ask_ends
      (at_place (nat_lt (seg_len line (last_step asked).seg.0) to) limit all_end)

  held_there : IsAt (stands (layout line) ask_on Held) limit (nat_lt held_place all_end) held_place
  held_there = at_nearest _ all_end limit held_place (first_held_is line z trains t asked limit) (held_behind line z trains t asked)

  closed_there : IsAt (stands (layout line) ask_on Closed) limit (nat_lt closed_from all_end) closed_from
  closed_there = at_nearest _ all_end limit closed_from (first_closed_is line z closed asked limit) (closed_behind line z closed asked)

  bars_there : IsStop (layout line) ask_on (AskEnds ∷ TrackEnds ∷ Held ∷ Closed ∷ []) (barred_stop (seg_len line) asked limit to held_place closed_from)
  bars_there =
      stop_more (layout line) ask_on (AskEnds ∷ TrackEnds ∷ Held ∷ []) Closed _ closed_from _
      (stop_more (layout line) ask_on (AskEnds ∷ TrackEnds ∷ []) Held _ held_place _ track_ends held_there) closed_there

  stop_is : IsStop (layout line) ask_on obstacles stop_there
  stop_is =
      let pending = stop_same (layout line) ask_on (AskEnds ∷ TrackEnds ∷ Held ∷ Closed ∷ []) Pending _ bars_there (λ p. refl) in
      let joined = stop_same (layout line) ask_on (AskEnds ∷ TrackEnds ∷ Held ∷ Closed ∷ Pending ∷ []) NotJoined _ pending (λ p. refl) in
      let silent = stop_same (layout line) ask_on (AskEnds ∷ TrackEnds ∷ Held ∷ Closed ∷ Pending ∷ NotJoined ∷ []) Silent _ joined (λ p. refl) in
      stop_more (layout line) ask_on (AskEnds ∷ TrackEnds ∷ Held ∷ Closed ∷ Pending ∷ NotJoined ∷ Silent ∷ []) PathFull (nat_lt 24 (length asked)) (total (seg_len line) (take 24 asked)) _ silent
      (at_place (nat_lt 24 (length asked)) limit (total (seg_len line) (take 24 asked)))

  -- the end of the ask stands, and so no stop is beyond it
  stop_before : stop_there.place ≤ ask_end
  stop_before =
      let end = end_below (nat_lt (seg_len line (last_step asked).seg.0) to) limit ask_end all_end in
      let bar = bar_below limit all_end held_place closed_from (ends (seg_len line) asked limit to) in
      let full = full_below limit (nat_lt 24 (length asked)) (total (seg_len line) (take 24 asked)) (barred_stop (seg_len line) asked limit to held_place closed_from) in
      omega arith

  distance_is : distance_on (layout line) ask_on ≡ stop_there.place - limit
  distance_is =
      first_only (λ d. obstructed (layout line) ask_on (limit + d)) (ask_end - limit) _ _
      (first_is (λ d. obstructed (layout line) ask_on (limit + d)) (ask_end - limit))
      (stop_first (layout line) ask_on obstacles stop_there ask_end stop_is stop_before)

  obstacle_is : least_standing (layout line) ask_on (limit + distance_on (layout line) ask_on) ≡ stop_there.obstacle
  obstacle_is =
      let after = stop_is.from in
      let d = distance_is in
      let e : limit + distance_on (layout line) ask_on ≡ stop_there.place = omega arith in
      rw e stop_is.least

  pub reach_is : stop_reach limit stop_there ≡ reach_on (layout line) ask_on
  reach_is = let d = distance_is in let o = obstacle_is in cc

-- the end of a way is not beyond the first 24 steps of an asked way
pub limit_within : (len : Lengths) (path : Path) (asked : List DirSeg) → length path.steps.items ≤ 24 → path_fits len path ≡ true
    → end_place len path ≤ total len (take 24 (asked_way path.steps.items asked))
limit_within len path asked few fits =
    let a : end_place len path ≤ total len path.steps.items = grind (arith, nat_tests) in
    let b = total_front len path.steps.items (further path.steps.items asked) 24 few in
    omega arith

-- an ask that is barred reaches nothing
pub bars_all : (line : Line) (path : Path) (asked : List DirSeg) (distance : ℕ) → length path.steps.items ≤ 24 → path_fits (seg_len line) path ≡ true → distance ≡ 0
    → ReachFits line path asked distance
bars_all line path asked distance few fits none =
    let h = limit_within (seg_len line) path asked few fits in
    rw none record { within = omega arith; continued = λ k. absurd (omega arith); most = λ k. absurd (omega arith) }
