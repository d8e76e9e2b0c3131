-- The way lengthened by asked steps, as a further authority.
use Rattle.std.proofs.Common.{◌≡◌, ℕ, zero, suc, ◌+◌, ◌≤◌, ◌<◌, List, [], ◌∷◌, ◌++◌, length, take, drop, Some, Bool, true, false, ◌&&◌, refl, sym, ◌∙◌, ap, arith}
use Rattle.std.proofs.lemmas.Bool.Decides.{nat_tests}
use Rattle.std.proofs.lemmas.List.{take-append-drop, take-append-le, drop-append-le, length-append}
use Rattle.std.specs.Prelude.{nat_eq, nat_le, nat_lt}
use Rattle.std.specs.List.{list_all}
use Rattle.std.proofs.lemmas.Bool.{and_parts}
use Rattle.list_laws.proofs.By_test.{by_test}
use Rattle.track_points.specs.declared.ids.DirSeg.{DirSeg}
use Rattle.track_points.specs.declared.ids.TrainId.{TrainId}
use Rattle.track_points.specs.declared.path.Path.{Path}
use Rattle.track_points.specs.Points.{Lengths, total, end_place, no_segment_twice, steps_to, offset_to}
use Rattle.definitions.specs.declared.message.Msg.TheVariants as msg
use Rattle.definitions.specs.Track.{Line, seg_len, layout, joined, last_step}
use Rattle.definitions.specs.Rules.{is_line}
use Rattle.definitions.specs.Premises.{on_line}
use Rattle.definitions.specs.Steps.{path_to}
use Rattle.definitions.specs.Story.{Transition, Story}
use Rattle.definitions.specs.World.{entered, head, goes_on, journey, Authority, route, authority_end}
use Rattle.definitions.specs.Control.{grants_entry, controls, last_issued}
use Rattle.definitions.specs.Longest.{longest_end, longest_route}
use Rattle.definitions.specs.Fronts.{least_rear}
use Rattle.definitions.specs.Limit.{further, asked_way, continues, Bars, ask_of, reach_on, reach_from}
use Rattle.definitions.specs.Ways.{PlainWay, steps_behind, way_between, chained, first_len}
use Rattle.definitions.specs.Safe.{IsLineOfOneZone}
use Rattle.definitions.specs.Zones.{zone_id}
use Rattle.definitions.specs.Fold.{account}
use Rattle.event_laws.proofs.Controls_same.{controls_stays, known_same}
use Rattle.step_laws.proofs.Taken_counts.{answers}
use Rattle.journey_laws.proofs.Motion.{Motion}
use Rattle.way_laws.proofs.Cut_front.{cut_all, cut_front, cut_length, cut_some, cut_end, total_append, total_front, offset_within}
use Rattle.way_laws.proofs.Cut_cut.{cut_more, cut_cut}
use Rattle.way_laws.proofs.Chained_front.{once_front, chained_front, chained_more, first_stays}
use Rattle.way_laws.proofs.Reach_granted.{reach_granted, reach_few}
use Rattle.way_laws.proofs.Track_front.{joined_on_line}
use Rattle.way_laws.proofs.Between_points.{behind_append, between_mark, between_end}
use Rattle.way_laws.proofs.Between_longer.{between_append, between_longer}
use Rattle.journey_laws.proofs.Invariant.{step_begin, path_fits, IsPath, FrontsAre, Authorized}
use Rattle.journey_laws.proofs.One_route.{PathParts, kept_some, kept_cut, one_route}
use Rattle.step_laws.proofs.Way_begins.{way_behind, way_begins}
use Rattle.step_laws.proofs.New_auth.{LongerAuth}
use Rattle.step_laws.proofs.Way_is.{WayIs, way_facts}
use Rattle.step_laws.proofs.Way_route.{way_begin, way_end, way_route, way_path}

-- A path that is lengthened fits.

-- what an ask that reaches farther meets none of the bars
pub record Unbarred (line : Line) (ready pending silent : Bool) (steps asked : List DirSeg) : Type 0 where
  pub on : ready ≡ true
  pub joins : continues line steps asked ≡ true
  pub idle : pending ≡ false
  pub loud : silent ≡ false

pub granted_ready : (line : Line) (ready pending silent : Bool) (path : Path) (asked : List DirSeg) (to : ℕ) (bars : Bars) → nat_eq (reach_from line ready pending silent (Some path) asked to bars).distance 0 ≡ false
    → Unbarred line ready pending silent path.steps.items asked
granted_ready line ready pending silent path asked to bars some = by_test (ready && continues line path.steps.items asked)
    (λ y. by_test pending
    (λ p. absurd (let z : true ≡ false = rw (y, p) at some in cc))
    (λ p. by_test silent
    (λ s. absurd (let z : true ≡ false = rw (y, p, s) at some in cc))
    (λ s. let b = and_parts ready (continues line path.steps.items asked) y in record { on = b.0; joins = b.1; idle = p; loud = s })))
    (λ n. absurd (let z : true ≡ false = rw n at some in cc))

grown_fits : (line : Line) (path : Path) (asked : List DirSeg) (p : ℕ) → PathParts line path → continues line path.steps.items asked ≡ true → end_place (seg_len line) path ≤ p
    → p ≤ total (seg_len line) (asked_way path.steps.items asked) → p ≤ total (seg_len line) (take 24 (asked_way path.steps.items asked))
    → path_fits line (path_to (seg_len line) path.from (asked_way path.steps.items asked) p) ≡ true
grown_fits line path asked p old continued above room near =
    let len = seg_len line in
    let own = path.steps.items in
    let more = further own asked in
    let steps = asked_way own asked in
    let cut = steps_to len steps p in
    let front = cut_front len steps p in
    let some_old = old.some in
    let from_old = old.from in
    let order_old = old.order in
    let some : 0 < length steps = omega (arith, length-append own more, some_old) in
    let joins = and_parts (joined line (last_step own) more) (no_segment_twice steps) continued in
    let chain_all = chained_more line own more old.some old.chain joins.0 in
    let chain : chained line cut ≡ true = chained_front line cut front.0 (sym (ap (chained line) front.1) ∙ chain_all) in
    let once : no_segment_twice cut ≡ true = once_front cut front.0 (sym (ap no_segment_twice front.1) ∙ joins.1) in
    let cut_is = cut_some len steps p some in
    let some_cut : nat_lt 0 (length cut) ≡ true = grind (arith, nat_tests) in
    let first : first_len len cut ≡ first_len len own = sym (first_stays len cut front.0 cut_is) ∙ sym (ap (first_len len) front.1) ∙ first_stays len own more some_old in
    let from : nat_le path.from (first_len len cut) ≡ true = let q : path.from ≤ first_len len cut = omega (arith, first, from_old) in grind (arith, nat_tests) in
    let on_last = offset_within len steps p some room in
    let to : nat_le (offset_to len steps p) (len (last_step cut).seg.0) ≡ true = grind (arith, nat_tests) in
    let end : end_place len (path_to len path.from steps p) ≡ p = cut_end len steps p room in
    let order : nat_lt path.from (end_place len (path_to len path.from steps p)) ≡ true = let q : path.from < end_place len (path_to len path.from steps p) = omega (arith, end, order_old, above) in grind (arith, nat_tests) in
    let at_most = cut_length len steps p 24 near (omega arith) in
    let few : nat_le (length cut) 24 ≡ true = grind (arith, nat_tests) in
    rw (chain, once, some_cut, from, to, order, few) refl

pub grant_fits : (line : Line) (ready pending silent : Bool) (path : Path) (asked : List DirSeg) (to : ℕ) (bars : Bars) → PathParts line path → nat_eq (reach_from line ready pending silent (Some path) asked to bars).distance 0 ≡ false
    → path_fits line (path_to (seg_len line) path.from (asked_way path.steps.items asked) (end_place (seg_len line) path + (reach_from line ready pending silent (Some path) asked to bars).distance)) ≡ true
grant_fits line ready pending silent path asked to bars old some =
    let len = seg_len line in
    let own = path.steps.items in
    let steps = asked_way own asked in
    let within = old.within in
    let some_old = old.some in
    let go = granted_ready line ready pending silent path asked to bars some in
    let go_on : (ready && continues line own asked) ≡ true = let a = go.on in let b = go.joins in rw (a, b) refl in
    let idle = go.idle in
    let loud = go.loud in
    let reach : (reach_from line ready pending silent (Some path) asked to bars).distance ≡ (reach_on (layout line) (ask_of len path asked to bars)).distance = rw (go_on, idle, loud) refl in
    let front = total_front len own (further own asked) 24 old.few in
    let some_steps : 0 < length steps = omega (arith, length-append own (further own asked), some_old) in
    let near = reach_few (layout line) (ask_of len path asked to bars) some_steps (omega (arith, within, front)) in
    let room = reach_granted line ready pending silent path asked to bars old.some within in
    grown_fits line path asked (end_place len path + (reach_from line ready pending silent (Some path) asked to bars).distance) old go.joins (omega arith) room (omega (arith, near, reach))

-- Steps that continue others.

last_after : (k : ℕ) (xs : List DirSeg) → k < length xs → last_step (drop k xs) ≡ last_step xs
unfolding last_step
last_after zero xs h = refl
last_after (suc k) [] h = absurd (omega arith)
last_after (suc k) (x ∷ []) h = absurd (omega arith)
last_after (suc k) (x ∷ y ∷ xs) h = last_after k (y ∷ xs) (omega arith)

chained_on_line : (line : Line) (a more : List DirSeg) → is_line line ≡ true → 0 < length a → list_all (on_line line) a ≡ true → chained line (a ++ more) ≡ true → list_all (on_line line) (a ++ more) ≡ true
chained_on_line line [] more valid some own chain = absurd (omega arith)
chained_on_line line (st ∷ a) more valid some own chain = joined_on_line line st (a ++ more) valid (and_parts (on_line line st) (list_all (on_line line) a) own).0 chain

module _ (line : Line) (t : ℕ) (s : Story) (one : IsLineOfOneZone line) (m : Motion t s) (k : Authorized line t s) (c : controls (zone_id line) t s ≡ true) (f : FrontsAre line t s)
    (asked : List DirSeg) (continued : continues line (way_between (seg_len line) (longest_route line t s) (least_rear line (zone_id line) t s) (longest_end line t s)).path.steps.items asked ≡ true) where
  abbrev len : Lengths
  len = seg_len line

  abbrev w : WayIs line t s f
  w = way_facts line t s k c f

  abbrev rear : ℕ
  rear = least_rear line (zone_id line) t s

  abbrev end : ℕ
  end = longest_end line t s

  abbrev kept : List DirSeg
  kept = longest_route line t s

  abbrev old : PlainWay
  old = way_between len kept rear end

  abbrev own : List DirSeg
  own = old.path.steps.items

  -- all steps, with those asked for
  abbrev all : List DirSeg
  all = kept ++ further own asked

  mark_within : old.mark < length (longest_route line t s)
  mark_within = between_mark len kept rear end w.order w.within

  -- the way has the steps of the longest route from its mark on
  own_steps : own ≡ drop old.mark (longest_route line t s)
  own_steps = ap (drop old.mark) (sym (kept_cut line t s k c))

  all_chain : chained line (longest_route line t s ++ further own asked) ≡ true
  all_chain =
      let j = (and_parts (joined line (last_step own) (further own asked)) (no_segment_twice (asked_way own asked)) continued).0 in
      let last : last_step own ≡ last_step kept = ap last_step own_steps ∙ last_after old.mark kept mark_within in
      chained_more line kept (further own asked) (kept_some line t s k c) (k.controlled c).chain (ap (λ (st : DirSeg). joined line st (further own asked)) (sym last) ∙ j)

  same_way : way_between (seg_len line) (longest_route line t s ++ further own asked) (least_rear line (zone_id line) t s) (longest_end line t s) ≡ old
  same_way = between_append len kept (further own asked) rear end w.order w.within

  asked_steps : drop old.mark (longest_route line t s ++ further own asked) ≡ asked_way own asked
  asked_steps =
      drop-append-le old.mark kept (further own asked) (let l = mark_within in omega (arith, l))
      ∙ ap (λ (xs : List DirSeg). xs ++ further own asked) (sym own_steps)

  -- the way to a place farther on
  longer_way : (d : ℕ) → way_between (seg_len line) (longest_route line t s ++ further own asked) (least_rear line (zone_id line) t s) (longest_end line t s + d)
      ≡ record { mark = old.mark; path = path_to (seg_len line) old.path.from (asked_way own asked) (end_place (seg_len line) old.path + d) }
  longer_way d =
      let within = w.within in
      let t = total_append len kept (further own asked) in
      between_longer len all rear end d w.order (omega (arith, within, t))
      ∙ ap (λ (v : PlainWay). over v (drop v.mark all)) same_way
      ∙ ap (over old) asked_steps
    where
      over : PlainWay → List DirSeg → PlainWay
      over v xs = record { mark = v.mark; path = path_to (seg_len line) v.path.from xs (end_place (seg_len line) v.path + d) }

  room_for : (d : ℕ) → end_place (seg_len line) old.path + d ≤ total (seg_len line) (asked_way own asked) → longest_end line t s + d ≤ total (seg_len line) (longest_route line t s ++ further own asked)
  room_for d h =
      let b = between_end len kept rear end w.order w.within in
      let e : total len (take old.mark all) + total len (asked_way own asked) ≡ total len all =
      sym (total_append len (take old.mark all) (asked_way own asked)) ∙ ap (λ (xs : List DirSeg). total len (take old.mark all ++ xs)) (sym asked_steps) ∙ ap (total len) (take-append-drop old.mark all) in
      let g : total len (take old.mark all) ≡ total len (take old.mark kept) = ap (total len) (take-append-le old.mark kept (further own asked) (let l = mark_within in omega (arith, l))) in
      omega (arith, b, e, g, h)

  -- the journey has the steps before it
  all_begins : take (steps_behind (seg_len line) (longest_route line t s ++ further own asked) (least_rear line (zone_id line) t s)) (journey line t s)
      ≡ take (steps_behind (seg_len line) (longest_route line t s ++ further own asked) (least_rear line (zone_id line) t s)) (longest_route line t s ++ further own asked)
  all_begins =
      let order = w.order in
      let within = w.within in
      let n : steps_behind len all rear ≡ old.mark = behind_append len kept (further own asked) rear (omega (arith, order, within)) in
      ap (λ (i : ℕ). take i (journey line t s)) n
      ∙ way_begins line t s m k c f one.valid
      ∙ sym (take-append-le old.mark kept (further own asked) (let l = mark_within in omega (arith, l)))
      ∙ ap (λ (i : ℕ). take i all) (sym n)

  -- the way to a place that far beyond its end, as an authority
  module _ (d : ℕ) (room : end_place (seg_len line) old.path + d ≤ total (seg_len line) (asked_way own asked)) where
    abbrev new : Authority
    new = record { mark = (way_between len all rear (end + d)).mark; path = (way_between len all rear (end + d)).path }

    new_order : least_rear line (zone_id line) t s < longest_end line t s + d
    new_order = let order = w.order in omega (arith, order)

    new_end : authority_end (seg_len line) (journey line t s) new ≡ longest_end line t s + d
    new_end = way_end line all rear (end + d) new_order (room_for d room) t s all_begins

    new_begin : step_begin line t s new.mark + new.path.from ≡ least_rear line (zone_id line) t s
    new_begin = way_begin line all rear (end + d) new_order (room_for d room) t s all_begins

    new_route : route (journey line t s) new ≡ steps_to (seg_len line) (longest_route line t s ++ further own asked) (longest_end line t s + d)
    new_route = way_route line all rear (end + d) new_order (room_for d room) t s all_begins

    all_on_line : list_all (on_line line) (longest_route line t s ++ further own asked) ≡ true
    all_on_line = chained_on_line line kept (further own asked) one.valid (kept_some line t s k c) (k.controlled c).of_line all_chain

    new_path : path_fits line (path_to (seg_len line) old.path.from (asked_way own asked) (end_place (seg_len line) old.path + d)) ≡ true → IsPath line t s new
    new_path fits =
        way_path line all rear (end + d) new_order (room_for d room) t s all_begins (k.controlled c).declared (ap (λ (v : PlainWay). path_fits line v.path) (longer_way d) ∙ fits) all_on_line (way_behind line t s m k c f)

    -- its route goes on from the longest
    new_goes : steps_to (seg_len line) (route (journey line t s) new) (longest_end line t s) ≡ longest_route line t s
    new_goes =
        ap (λ (xs : List DirSeg). steps_to len xs (longest_end line t s)) new_route ∙ cut_cut len all (longest_end line t s) (end + d) (omega arith)
        ∙ cut_more len kept (further own asked) end (kept_some line t s k c) w.within ∙ sym (kept_cut line t s k c)

    new_chain : chained line (route (journey line t s) new) ≡ true
    new_chain =
        let front = cut_front len all (end + d) in
        ap (chained line) new_route ∙ chained_front line (steps_to len all (end + d)) front.0 (ap (chained line) (sym front.1) ∙ all_chain)

    new_journey : journey line t s ≡ steps_to (seg_len line) (route (journey line t s) new) (head t s)
    new_journey =
        let head_in = (one_route line t s k c m).head_within in
        (k.controlled c).journey_on ∙ ap (λ (xs : List DirSeg). steps_to len xs (head t s)) (sym new_goes) ∙ cut_cut len (route (journey line t s) new) (head t s) (longest_end line t s) head_in

    pub granted_way : (x : Transition) (train : TrainId) → path_fits line (path_to (seg_len line) old.path.from (asked_way own asked) (end_place (seg_len line) old.path + d)) ≡ true
        → x.issued ≡ (0, msg.Auth train (last_issued t s + 1) old.mark (path_to (seg_len line) old.path.from (asked_way own asked) (end_place (seg_len line) old.path + d))) ∷ []
        → nat_eq train.0 t ≡ true → goes_on t x.event ≡ false → answers t x.took ≡ false → grants_entry (zone_id line) t x ≡ false → entered t s ≡ true → (account line t s).shrink ≡ 0 → LongerAuth line t s x
    granted_way x train fits issued its still unanswered ungranted on idle =
        let g = k.controlled c in
        let e = new_end in
        let i = new_begin in
        record {
          sent = record {
            train = train;
            number = last_issued t s + 1;
            authority = new;
            issued = issued ∙ ap (λ (v : PlainWay). (0, msg.Auth train (last_issued t s + 1) v.mark v.path) ∷ []) (sym (longer_way d));
            its = its;
            still = still;
            unanswered = unanswered;
            is = new_path fits;
          };
          next = refl;
          idle = idle;
          longer = omega (arith, e);
          onward = λ y. new_goes;
          chain = new_chain;
          of_line = ap (list_all (on_line line)) new_route ∙ cut_all (on_line line) len all (end + d) all_on_line;
          journey_on = new_journey;
          cut = λ y. omega (arith, i);
          begin = λ n. absurd (let z : true ≡ false = sym c ∙ n in cc);
          early = λ off. absurd (let z : true ≡ false = sym on ∙ off in cc);
          granted = λ y. ungranted;
          controlled = controls_stays (zone_id line) t x s c;
          facts = g.facts ∙ ap (λ z. Some z) (sym (known_same (zone_id line) t x s ungranted));
          step = g.step;
          first = g.first;
          portal = g.portal;
          room = g.room;
        }
