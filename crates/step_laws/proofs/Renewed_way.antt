-- The way of a controlled train, and the way up to a place of it, as an authority; and the last one that is sent again.
use Rattle.std.proofs.Common.{◌≡◌, ℕ, ◌+◌, ◌-◌, ◌≤◌, ◌<◌, List, [], ◌∷◌, ◌++◌, length, take, drop, Some, Bool, true, false, refl, sym, ◌∙◌, ap, subst, arith, if◌then◌else◌}
use Rattle.std.proofs.lemmas.Bool.Decides.{nat_tests}
use Rattle.std.proofs.lemmas.List.{length-take, take-append-le, take_all}
use Rattle.std.proofs.Math.Seq.{drop-append_seam}
use Rattle.std.proofs.lemmas.Option.{same_Some}
use Rattle.std.specs.Prelude.{nat_eq, nat_le, nat_lt}
use Rattle.list_laws.proofs.By_test.{by_test}
use Rattle.track_points.specs.declared.ids.DirSeg.{DirSeg}
use Rattle.track_points.specs.declared.ids.TrainId.{TrainId}
use Rattle.track_points.specs.Points.{Lengths, total, no_segment_twice, steps_to, offset_to}
use Rattle.definitions.specs.declared.message.Msg.TheVariants as msg
use Rattle.definitions.specs.Track.{Line, seg_len}
use Rattle.definitions.specs.Steps.{entry_path, sent_again}
use Rattle.definitions.specs.Story.{Transition, Story}
use Rattle.definitions.specs.World.{entered, goes_on, journey, Authority, route, authority_end}
use Rattle.definitions.specs.Control.{grants_entry, controls, last_issued}
use Rattle.definitions.specs.Longest.{longest_end, is_pending, shrink_place, longest_route}
use Rattle.definitions.specs.Authority.{way}
use Rattle.definitions.specs.Fronts.{least_rear}
use Rattle.definitions.specs.Ways.{PlainWay, steps_behind, way_between, chained}
use Rattle.definitions.specs.Safe.{IsLineOfOneZone}
use Rattle.definitions.specs.Zones.{zone_id}
use Rattle.journey_laws.proofs.Motion.{Motion}
use Rattle.way_laws.proofs.Between_points.{begin_of, behind_from}
use Rattle.way_laws.proofs.Between_longer.{between_nearer}
use Rattle.journey_laws.proofs.Invariant.{step_begin, end_read, path_fits, IsPath, FirstIs, FrontsAre, Authorized}
use Rattle.journey_laws.proofs.One_route.{path_parts, first_route, first_end, newest_end, newest_route, last_end, shrink_before}
use Rattle.step_laws.proofs.Way_begins.{way_behind, way_begins}
use Rattle.step_laws.proofs.Fronts_numbers.{fronts_numbers}
use Rattle.step_laws.proofs.Taken_counts.{answers}
use Rattle.step_laws.proofs.New_auth.{AgainAuth}
use Rattle.step_laws.proofs.Way_is.{WayIs, way_facts}
use Rattle.step_laws.proofs.Way_route.{fits_between, way_begin, way_end, way_route, way_path}

-- the way over one step
step_between : (len : Lengths) (st : DirSeg) → 0 < len st.seg.0 → way_between len (st ∷ []) 0 (len st.seg.0) ≡ record { mark = 0; path = entry_path st (len st.seg.0) }
unfolding steps_behind steps_to offset_to total
step_between len st h =
    let y : nat_lt 0 (len st.seg.0) ≡ true = grind (arith, nat_tests) in
    let w : nat_le (len st.seg.0) (len st.seg.0) ≡ true = grind (arith, nat_tests) in
    rw (y, w) refl

-- an authority over the way up to a place of it
pub record WayAuth (line : Line) (t : ℕ) (s : Story) (a : Authority) (end : ℕ) : Type 0 where
  pub is : IsPath line t s a
  pub on : route (journey line t s) a ≡ steps_to (seg_len line) (longest_route line t s) (authority_end (seg_len line) (journey line t s) a)
  pub ends : authority_end (seg_len line) (journey line t s) a ≡ end
  pub begin : step_begin line t s a.mark + a.path.from ≡ least_rear line (zone_id line) t s

module _ (line : Line) (t : ℕ) (s : Story) (one : IsLineOfOneZone line) (m : Motion t s) (k : Authorized line t s) (c : controls (zone_id line) t s ≡ true) (f : FrontsAre line t s) where
  abbrev len : Lengths
  len = seg_len line

  abbrev newest : Authority
  newest = (k.controlled c).newest

  abbrev w : WayIs line t s f
  w = way_facts line t s k c f

  abbrev pub the_way : PlainWay
  the_way = way_between (seg_len line) (longest_route line t s) (least_rear line (zone_id line) t s) (longest_end line t s)

  abbrev steps : List DirSeg
  steps = longest_route line t s

  begins_there : take newest.mark (longest_route line t s) ≡ take newest.mark (journey line t s)
  begins_there =
      let mark = (k.controlled c).newest_is.mark in
      ap (take newest.mark) (newest_route line t s k c)
      ∙ take-append-le newest.mark (take newest.mark (journey line t s)) newest.path.steps.items (let l = length-take newest.mark (journey line t s) in omega (arith, l, mark))
      ∙ take_twice newest.mark (journey line t s)
    where
      take_twice : (n : ℕ) (xs : List DirSeg) → take n (take n xs) ≡ take n xs
      take_twice n xs = take_all n (take n xs) (let l = length-take n xs in omega (arith, l))

  own_steps : drop newest.mark (longest_route line t s) ≡ newest.path.steps.items
  own_steps =
      let mark = (k.controlled c).newest_is.mark in
      let l : length (take newest.mark (journey line t s)) ≡ newest.mark = let n = length-take newest.mark (journey line t s) in omega (arith, n, mark) in
      ap (drop newest.mark) (newest_route line t s k c)
      ∙ ap (λ (n : ℕ). drop n (take newest.mark (journey line t s) ++ newest.path.steps.items)) (sym l)
      ∙ drop-append_seam (take newest.mark (journey line t s)) newest.path.steps.items

  -- the journey has the steps before the way
  pub begins : take (steps_behind (seg_len line) (longest_route line t s) (least_rear line (zone_id line) t s)) (journey line t s)
      ≡ take (steps_behind (seg_len line) (longest_route line t s) (least_rear line (zone_id line) t s)) (longest_route line t s)
  begins = way_begins line t s m k c f one.valid

  -- the way up to a place of it
  module _ (end : ℕ) (order : least_rear line (zone_id line) t s < end) (within : end ≤ longest_end line t s) where
    room : end ≤ total (seg_len line) (longest_route line t s)
    room = let r = w.within in omega (arith, within, r)

    pub fits_to : path_fits line (way_between (seg_len line) (longest_route line t s) (least_rear line (zone_id line) t s) end).path ≡ true
    fits_to =
        let p = path_parts line newest.path (k.controlled c).newest_is.fits in
        let cut = (k.controlled c).cut in
        let total_is = ap (total len) begins_there in
        let mark = (k.controlled c).newest_is.mark in
        let l = length-take newest.mark steps in
        let j = length-take newest.mark (journey line t s) in
        let n = ap (λ (xs : List DirSeg). length xs) begins_there in
        let few = p.few in
        let d = ap (λ (xs : List DirSeg). length xs) own_steps in
        fits_between line steps (least_rear line (zone_id line) t s) end order room newest.mark (omega (arith, cut, total_is)) (omega (arith, l, j, n, mark))
        (ap (chained line) own_steps ∙ p.chain) (ap no_segment_twice own_steps ∙ p.once) (omega (arith, d, few))

    -- as the path of an authority
    pub way_to_is : WayAuth line t s (record { mark = (way_between (seg_len line) (longest_route line t s) (least_rear line (zone_id line) t s) end).mark; path = (way_between (seg_len line) (longest_route line t s) (least_rear line (zone_id line) t s) end).path }) end
    way_to_is =
        let rear = least_rear line (zone_id line) t s in
        let g = k.controlled c in
        let e = way_end line steps rear end order room t s begins in
        let i = way_begin line steps rear end order room t s begins in
        record {
          is = way_path line steps rear end order room t s begins g.declared fits_to g.of_line (way_behind line t s m k c f);
          on = way_route line steps rear end order room t s begins ∙ ap (steps_to len steps) (sym e);
          ends = e;
          begin = i;
        }

  pub way_fits : path_fits line (way_between (seg_len line) (longest_route line t s) (least_rear line (zone_id line) t s) (longest_end line t s)).path ≡ true
  way_fits = fits_to (longest_end line t s) w.order (omega arith)

  pub way_early : entered t s ≡ false → FirstIs line t s (record { mark = the_way.mark; path = the_way.path })
  way_early off =
      let g = ((k.controlled c).early off).1 in
      let route_is = newest_route line t s k c ∙ first_route line t s (journey line t s) newest g in
      let end = newest_end line t s k c ∙ first_end line t s (journey line t s) newest g in
      let lo = f.early off in
      let rear = w.rear in
      let zero_rear : least_rear line (zone_id line) t s ≡ 0 = omega (arith, lo, rear) in
      let order = w.order in
      let same : the_way ≡ record { mark = 0; path = entry_path g.step (len g.step.seg.0) } =
      ap (λ (xs : List DirSeg). way_between len xs (least_rear line (zone_id line) t s) (longest_end line t s)) route_is
      ∙ ap (λ (n : ℕ). way_between len (g.step ∷ []) n (longest_end line t s)) zero_rear
      ∙ ap (λ (n : ℕ). way_between len (g.step ∷ []) 0 n) end
      ∙ step_between len g.step (omega (arith, order, end)) in
      record {
        step = g.step;
        first = g.first;
        portal = g.portal;
        mark = ap (λ (x : PlainWay). x.mark) same;
        path = ap (λ (x : PlainWay). x.path) same;
        room = g.room;
      }

  -- where what is sent again ends: with the way, or with the shrink that is unanswered
  abbrev sent_end : ℕ
  sent_end = if is_pending line t s then shrink_place line t s else longest_end line t s

  rear_shrink : is_pending line t s ≡ true → least_rear line (zone_id line) t s < shrink_place line t s
  rear_shrink y =
      let unpassed = ((k.controlled c).shrink y).unpassed in
      let least = (fronts_numbers line t s f).least in
      let rear = w.rear in
      let long = f.long in
      let some = k.long_some (k.controlled c).declared in
      omega (arith, unpassed, least, rear, long, some)

  sent_after : least_rear line (zone_id line) t s < sent_end
  sent_after = by_test (is_pending line t s) (λ y. rw y (rear_shrink y)) (λ n. rw n w.order)

  sent_within : sent_end ≤ longest_end line t s
  sent_within = by_test (is_pending line t s) (λ y. let before = shrink_before line t s k c y in rw y (omega (arith, before))) (λ n. rw n (omega arith))

  -- it ends where what is read of the last number does
  sent_read : sent_end ≡ end_read line t s (last_issued t s)
  sent_read = by_test (is_pending line t s)
      (λ y. rw y (ap (λ (n : ℕ). end_read line t s n) ((k.controlled c).shrink y).last))
      (λ n. rw n (sym (last_end line t s k c n)))

  -- what is sent again is the way up to there
  sent_way : sent_again line t s (Some the_way) ≡ Some (way_between (seg_len line) (longest_route line t s) (least_rear line (zone_id line) t s) sent_end)
  sent_way = by_test (is_pending line t s)
      (λ y.
      let rear = least_rear line (zone_id line) t s in
      let begin = begin_of len steps rear in
      let from = behind_from len steps rear in
      let after = rear_shrink y in
      let within = shrink_before line t s k c y in
      let e : begin + (shrink_place line t s - begin) ≡ shrink_place line t s = omega (arith, from, after) in
      rw y (ap (λ (v : PlainWay). Some v)
      (between_nearer len steps rear (longest_end line t s) (shrink_place line t s - begin) (omega (arith, from, after)) (omega (arith, from, after, within))
      ∙ ap (way_between len steps rear) e)))
      (λ n. rw n refl)

  -- the way, or the way up to the end of a shrink that is unanswered, goes out again under the last number
  pub renewed_way : (x : Transition) (train : TrainId) (v : PlainWay) → sent_again line t s (way line (zone_id line) t s) ≡ Some v
      → x.issued ≡ (0, msg.Auth train (last_issued t s) v.mark v.path) ∷ [] → nat_eq train.0 t ≡ true → goes_on t x.event ≡ false → answers t x.took ≡ false
      → ((y : ℕ) → grants_entry y t x ≡ false) → AgainAuth line t s x
  renewed_way x train v is issued its still unanswered refused =
      let same : v ≡ way_between len steps (least_rear line (zone_id line) t s) sent_end = same_Some v _ (sym is ∙ (ap (sent_again line t s) w.is ∙ sent_way)) in
      let a = subst (λ (y : PlainWay). WayAuth line t s (record { mark = y.mark; path = y.path }) sent_end) (sym same) (way_to_is sent_end sent_after sent_within) in
      let within = sent_within in
      let ends = a.ends in
      record {
        sent = record {
          train = train;
          number = last_issued t s;
          authority = record { mark = v.mark; path = v.path };
          issued = issued;
          its = its;
          still = still;
          unanswered = unanswered;
          is = a.is;
        };
        known = refl;
        control = c;
        refused = refused;
        on = a.on;
        within = omega (arith, within, ends);
        ends = a.ends ∙ sent_read;
        first = first_again v same;
      }
    where
      first_again : (v : PlainWay) → v ≡ way_between len steps (least_rear line (zone_id line) t s) sent_end → entered t s ≡ false → last_issued t s ≡ 1 → FirstIs line t s (record { mark = v.mark; path = v.path })
      first_again v same off one_ = by_test (is_pending line t s)
          (λ y. let g = (k.controlled c).shrink y in let p = g.positive in let b = g.one_below in absurd (omega (arith, p, b, one_)))
          (λ n.
          let whole : v ≡ the_way = same ∙ ap (λ (b : Bool). way_between len steps (least_rear line (zone_id line) t s) (if b then shrink_place line t s else longest_end line t s)) n in
          subst (λ (y : PlainWay). FirstIs line t s (record { mark = y.mark; path = y.path })) (sym whole) (way_early off))
