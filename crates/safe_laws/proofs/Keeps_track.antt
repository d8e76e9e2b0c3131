-- No train on the line is derailed: its journey leads to its head, and its cells lie on few steps.
use Rattle.std.proofs.Common.{◌≡◌, ℕ, ◌+◌, ◌<◌, ◌≤◌, ◌^◌, List, length, take, true, false, ap, arith}
use Rattle.std.proofs.lemmas.Bool.Decides.{nat_tests}
use Rattle.std.proofs.lemmas.List.{length-append, length-take}
use Rattle.track_points.specs.declared.ids.DirSeg.{DirSeg}
use Rattle.track_points.specs.Points.{Lengths, total}
use Rattle.definitions.specs.Track.{Line, seg_len}
use Rattle.definitions.specs.Farther.{route_or_none}
use Rattle.definitions.specs.Ways.{off_track, crowded}
use Rattle.definitions.specs.Story.{Story}
use Rattle.definitions.specs.World.{entered, head, rear, journey}
use Rattle.definitions.specs.Control.{controls, last_issued}
use Rattle.definitions.specs.Longest.{longest_end, longest_route}
use Rattle.definitions.specs.Safe.{IsLineOfOneZone, OnTrack}
use Rattle.definitions.specs.Zones.{zone_id}
use Rattle.way_laws.proofs.Cut_front.{cut_total}
use Rattle.way_laws.proofs.Between_points.{behind_least}
use Rattle.journey_laws.proofs.Invariant.{ControlIs, Invariant}
use Rattle.journey_laws.proofs.One_route.{OneRoute, one_route, path_parts, on_controls, journey_few}
use Rattle.safe_laws.proofs.Held_points.{rear_behind}

module _ (line : Line) (t : ℕ) (s : Story) (l : IsLineOfOneZone line) (invariant : Invariant line t s) (on : entered t s ≡ true) (numbers : last_issued t s < 2 ^ 27) where
  abbrev len : Lengths
  len = seg_len line

  control : controls (zone_id line) t s ≡ true
  control = on_controls line t s invariant.authorized on

  abbrev c : ControlIs line t s
  c = invariant.authorized.controlled control

  one : OneRoute line t s (longest_route line t s) (longest_end line t s)
  one = one_route line t s invariant.authorized control invariant.motion

  reaches : off_track (seg_len line) (journey line t s) (head t s) ≡ false
  reaches =
      let o = one in
      let h = o.head_within in
      let r = o.reach in
      let t2 = ap (total len) o.journey_on in
      let room = cut_total len (longest_route line t s) (head t s) (omega (arith, h, r)) in
      let e : head t s ≤ total len (journey line t s) = omega (arith, t2, room) in
      grind (arith, nat_tests)

  few : length (journey line t s) ≤ c.newest.mark + 24
  few =
      let a = journey_few line t s invariant.authorized control in
      let d = ap (λ (xs : List DirSeg). length xs) (ap (route_or_none (journey line t s)) c.longest_is) in
      let e = length-append (take c.newest.mark (journey line t s)) c.newest.path.steps.items in
      let f = (path_parts line c.newest.path c.newest_is.fits).few in
      let g = take_most c.newest.mark (journey line t s) in
      omega (arith, a, d, e, f, g)
    where
      take_most : (n : ℕ) (xs : List DirSeg) → length (take n xs) ≤ n
      take_most n xs = let t = length-take n xs in omega (arith, t)

  -- the longest authority's path begins no farther than the true rear
  mark_before : total (seg_len line) (take c.newest.mark (journey line t s)) ≤ rear t s
  mark_before =
      let r = rear_behind line t s l invariant control on in
      let cut = c.cut in
      omega (arith, r, cut)

  not_crowded : crowded (seg_len line) (journey line t s) (rear t s) ≡ false
  not_crowded =
      let n = behind_least len (journey line t s) c.newest.mark 24 (rear t s) mark_before few in
      grind (arith, nat_tests)

  pub keeps_track : OnTrack line t s
  keeps_track = record {
    begun = invariant.motion.born on;
    reached = reaches;
    few = not_crowded;
    mark = let j = journey_few line t s invariant.authorized control in let m = c.marks in omega (arith, j, m, numbers);
  }
