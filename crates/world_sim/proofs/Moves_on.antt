-- What holds of a train on the line, through each of its steps.
use Rattle.std.proofs.Common.{◌≡◌, ℕ, zero, suc, ◌+◌, ◌-◌, ◌<◌, ◌≤◌, ◌^◌, true, ◌&&◌, List, [], ◌∷◌, ◌++◌, length, take, drop, refl, sym, ap, subst, ◌∙◌, arith, nat_eq, nat_lt, nat_le, Option, Some, None}
use Rattle.std.specs.Prelude.{is_some, slice_get}
use Rattle.std.proofs.lemmas.Bool.Decides.{nat_tests}
use Rattle.std.proofs.lemmas.Option.{slice_get_within, same_Some}
use Rattle.std.proofs.lemmas.List.{take-append-drop, length-drop}
use Rattle.std.proofs.lemmas.Bool.{and_parts}
use Rattle.list_laws.proofs.By_test.{by_test}
use Rattle.track_points.specs.declared.ids.Dir.{Dir}
use Rattle.track_points.specs.declared.ids.Dir.TheVariants.{Up, Down}
use Rattle.track_points.specs.declared.ids.DirSeg.{DirSeg}
use Rattle.track_points.specs.declared.path.Path.{Path}
use Rattle.track_points.specs.Points.{Lengths, dir_eq, step_eq, total, place_of_last, end_place, no_segment_twice}
use Rattle.definitions.specs.Track.{Line, seg_len, has_segment, track_from, joined, last_step}
use Rattle.definitions.specs.Rules.{is_line}
use Rattle.definitions.specs.Premises.{on_line}
use Rattle.definitions.specs.Story.{or_else}
use Rattle.definitions.specs.Ways.{chained, first_len, path_in_range}
use Rattle.plain_state.specs.declared.Head.{Head}
use Rattle.plain_state.specs.declared.WorldTrain.{WorldTrain}
use Rattle.onboard.specs.Decision.{path_mm, mm_or_0, place_on, room_to}
use Rattle.definitions.specs.World.{is_step}
use Rattle.plain_state.specs.World.{asked_at_portal, head_at_entry, come_on, moved_on, moved_train, leads_through, takes_at, keeps_entry, took_by, auth_fits, alone_on, covers_portal, acted_on_by}
use Rattle.way_laws.proofs.Cut_front.{last_place, total_append}
use Rattle.way_laws.proofs.Chained_front.{chained_rest}
use Rattle.way_laws.proofs.Track_front.{track_joined}
use Rattle.way_path.proofs.Rest_is.{undeclared}
use Rattle.world_sim.specs.Trains.{Reaches, IsHeadOn, HeadIs, EntryIs, IsTrainOn}
use Rattle.world_sim.proofs.Stands_on.{keeps}

pub declares : (line : Line) (x : WorldTrain) → 1 ≤ x.train_length → x.onboard.entry ≡ None → x.head ≡ None → IsTrainOn line x
declares line x l a h = record { long = l; entry = rw a tt; head = rw h tt }

asks_entry : (line : Line) (long : ℕ) (step : DirSeg) (entry : Option DirSeg) (mm : Option ℕ) → EntryIs line long entry mm → EntryIs line long (or_else entry (Some step)) mm
asks_entry line long step entry None h = tt
asks_entry line long step None (Some mm) h = absurd h
asks_entry line long step (Some first) (Some mm) h = h

pub asks : (line : Line) (step : DirSeg) (x : WorldTrain) → IsTrainOn line x → IsTrainOn line (asked_at_portal step x)
asks line step x h = record { long = h.long; entry = asks_entry line x.train_length step x.entry x.onboard.entry h.entry; head = h.head }

-- coming on

entry_holds : (line : Line) (long : ℕ) (entry : Option DirSeg) (mm : Option ℕ) → 0 < long → is_some mm ≡ true → EntryIs line long entry mm
    → HeadIs line (mm_or_0 mm - long) (head_at_entry entry long)
unfolding total track_from
entry_holds line long entry None l a h = absurd cc
entry_holds line long None (Some mm) l a h = absurd h
entry_holds line long (Some st) (Some mm) l a h = record {
  declared = h.0;
  above = l;
  on = omega (arith, h.1, h.2);
  track = record { steps = 1; within = omega (arith, h.1, h.2); marks = omega arith };
}

pub comes_on : (line : Line) (x : WorldTrain) → is_some x.onboard.entry ≡ true → IsTrainOn line x → IsTrainOn line (come_on x)
comes_on line x a h = record { long = h.long; entry = h.entry; head = entry_holds line x.train_length x.entry x.onboard.entry h.long a h.entry }

-- a train that holds an entry authority fits in it
pub entry_fits : (line : Line) (long : ℕ) (entry : Option DirSeg) (mm : Option ℕ) → is_some mm ≡ true → EntryIs line long entry mm → long ≤ mm_or_0 mm
entry_fits line long entry None a h = absurd cc
entry_fits line long None (Some mm) a h = absurd h
entry_fits line long (Some st) (Some mm) a h = h.1

-- moving

pub reach_less : (line : Line) (st : DirSeg) (mark p q : ℕ) → p ≤ q → Reaches line st mark q → Reaches line st mark p
reach_less line st mark p q h r = record { steps = r.steps; within = let w = r.within in omega arith; marks = r.marks }

head_moves : (line : Line) (mm room : ℕ) (head : Option Head) → is_line line ≡ true → mm ≤ room → HeadIs line room head → HeadIs line (room - mm) (moved_on line mm head)
head_moves line mm room None valid m on = tt
head_moves line mm room (Some h) valid m on =
    let sum : h.offset + room ≡ h.offset + mm + (room - mm) = omega arith in
    let above = on.above in
    keeps line h.step h.mark (h.offset + mm) (room - mm) valid on.declared (omega arith) (subst (Reaches line h.step h.mark) sum on.track)

pub moves_on : (line : Line) (ms clock mm : ℕ) (x : WorldTrain) → is_line line ≡ true → mm ≤ x.onboard.room → IsTrainOn line x → IsTrainOn line (moved_train line ms clock mm x)
moves_on line ms clock mm x valid m on = record { long = on.long; entry = on.entry; head = head_moves line mm x.onboard.room x.head valid m on.head }

-- an authority on the line

same_dir : (a b : Dir) → dir_eq a b ≡ true → a ≡ b
same_dir Up Up h = refl
same_dir Down Down h = refl
same_dir Up Down h = absurd cc
same_dir Down Up h = absurd cc

abbrev step_of : ℕ → Dir → DirSeg
step_of s d = record { seg = record { 0 = s }; dir = d }

pub same_step : (a b : DirSeg) → step_eq a b ≡ true → a ≡ b
same_step a b h =
    let k = and_parts (nat_eq a.seg.0 b.seg.0) (dir_eq a.dir b.dir) h in
    let s : a.seg.0 ≡ b.seg.0 = let t = k.0 in grind (arith, nat_tests) in
    ap (λ n. step_of n a.dir) s ∙ ap (step_of b.seg.0) (same_dir a.dir b.dir k.1)

step_there : (st : DirSeg) (found : Option DirSeg) → is_step st found ≡ true → found ≡ Some st
step_there st None h = absurd cc
step_there st (Some x) h = ap (λ y. Some y) (same_step x st h)

drop_is : (xs : List DirSeg) (k : ℕ) (st : DirSeg) → slice_get xs k ≡ Some st → drop k xs ≡ st ∷ drop (suc k) xs
drop_is [] k st h = absurd cc
drop_is (x ∷ xs) zero st h = ap (λ y. y ∷ xs) (same_Some x st h)
drop_is (x ∷ xs) (suc k) st h = drop_is xs k st h

drop_at : (xs : List DirSeg) (k : ℕ) (st : DirSeg) → is_step st (slice_get xs k) ≡ true → (k < length xs) × (drop k xs ≡ st ∷ drop (suc k) xs)
drop_at xs k st h = let e = step_there st (slice_get xs k) h in (slice_get_within xs k st e, drop_is xs k st e)

ends_within : (line : Line) (path : Path) → path_in_range (seg_len line) path ≡ true → end_place (seg_len line) path ≤ total (seg_len line) path.steps.items
ends_within line path h =
    let len = seg_len line in
    let steps = path.steps.items in
    let a = and_parts (nat_lt 0 (length steps)) (nat_le path.from (first_len len steps) && (nat_le path.to (len (last_step steps).seg.0) && nat_lt path.from (end_place len path))) h in
    let b = and_parts (nat_le path.from (first_len len steps)) (nat_le path.to (len (last_step steps).seg.0) && nat_lt path.from (end_place len path)) a.1 in
    let c = and_parts (nat_le path.to (len (last_step steps).seg.0)) (nat_lt path.from (end_place len path)) b.1 in
    last_place len steps path.to (let t = a.0 in grind (arith, nat_tests)) (let t = c.0 in grind (arith, nat_tests))

-- a path that leads through a head, and ends no nearer than the head, has track from there up to its end
pub stays_within : (line : Line) (mark : ℕ) (path : Path) (h : Head) → is_line line ≡ true → on_line line h.step ≡ true → 0 < h.offset → h.offset ≤ seg_len line h.step.seg.0
    → auth_fits line mark path ≡ true → leads_through mark path h ≡ true → place_on (seg_len line) mark path h.mark h.offset ≤ end_place (seg_len line) path
    → IsHeadOn line (room_to (seg_len line) mark path h.mark h.offset) h
stays_within line mark path h valid on above within fits leads before =
    let len = seg_len line in
    let steps = path.steps.items in
    let k = h.mark - mark in
    let f = and_parts (chained line steps) (no_segment_twice steps && (path_in_range len path && nat_lt (mark + length steps) 4294967296)) fits in
    let f2 = and_parts (no_segment_twice steps) (path_in_range len path && nat_lt (mark + length steps) 4294967296) f.1 in
    let f3 = and_parts (path_in_range len path) (nat_lt (mark + length steps) 4294967296) f2.1 in
    let few : mark + length steps < 2 ^ 32 = let t = f3.1 in grind (arith, nat_tests) in
    let l = and_parts (nat_le mark h.mark) (is_step h.step (slice_get steps k)) leads in
    let behind : mark ≤ h.mark = let t = l.0 in grind (arith, nat_tests) in
    let d = drop_at steps k h.step l.1 in
    let rest = drop (suc k) steps in
    let all = take-append-drop k steps in
    let sum : total len (take k steps) + total len (h.step ∷ rest) ≡ total len steps = sym (total_append len (take k steps) (h.step ∷ rest)) ∙ ap (λ xs. total len (take k steps ++ xs)) (sym d.1) ∙ ap (total len) all in
    let end = ends_within line path f3.0 in
    let chain : chained line (take k steps ++ drop k steps) ≡ true = rw all f.0 in
    let joins : joined line h.step rest ≡ true = subst (λ xs. chained line xs ≡ true) d.1 (chained_rest line (take k steps) (drop k steps) chain) in
    let front = track_joined line h.step rest valid joins in
    let many = ap (λ xs. length xs) d.1 in
    let count = length-drop k steps in
    let same = ap (total len) front in
    record {
      declared = on;
      above = above;
      on = within;
      track = record { steps = suc (length rest); within = omega arith; marks = omega (arith, d.0) };
    }

-- an entry authority is over the whole segment of the request

ends_alone : (len : Lengths) (st : DirSeg) (steps : List DirSeg) (to : ℕ) → alone_on st steps ≡ true → place_of_last len steps to ≡ to
unfolding place_of_last
ends_alone len st [] to h = absurd cc
ends_alone len st (x ∷ []) to h = refl
ends_alone len st (x ∷ y ∷ steps) to h = absurd cc

pub long_declared : (line : Line) (st : DirSeg) → 0 < seg_len line st.seg.0 → on_line line st ≡ true
long_declared line st h = by_test (has_segment line st.seg.0) (λ y. y) (λ n. let z = undeclared line st.seg.0 n in absurd (omega arith))

covers_whole : (line : Line) (long : ℕ) (st : DirSeg) (path : Path) → path_in_range (seg_len line) path ≡ true → covers_portal (seg_len line) (Some st) long path ≡ true
    → EntryIs line long (Some st) (Some (path_mm (seg_len line) path))
covers_whole line long st path fits h =
    let len = seg_len line in
    let steps = path.steps.items in
    let a = and_parts (alone_on st steps) (nat_eq path.from 0 && (nat_eq path.to (len st.seg.0) && nat_le long (len st.seg.0))) h in
    let b = and_parts (nat_eq path.from 0) (nat_eq path.to (len st.seg.0) && nat_le long (len st.seg.0)) a.1 in
    let c = and_parts (nat_eq path.to (len st.seg.0)) (nat_le long (len st.seg.0)) b.1 in
    let e = ends_alone len st steps path.to a.0 in
    let from : path.from ≡ 0 = let t = b.0 in grind (arith, nat_tests) in
    let to : path.to ≡ len st.seg.0 = let t = c.0 in grind (arith, nat_tests) in
    let fit : long ≤ len st.seg.0 = let t = c.1 in grind (arith, nat_tests) in
    let k = and_parts (nat_lt 0 (length steps)) (nat_le path.from (first_len len steps) && (nat_le path.to (len (last_step steps).seg.0) && nat_lt path.from (end_place len path))) fits in
    let l = and_parts (nat_le path.from (first_len len steps)) (nat_le path.to (len (last_step steps).seg.0) && nat_lt path.from (end_place len path)) k.1 in
    let m = and_parts (nat_le path.to (len (last_step steps).seg.0)) (nat_lt path.from (end_place len path)) l.1 in
    let some : path.from < end_place len path = let t = m.1 in grind (arith, nat_tests) in
    rw fits (long_declared line st (omega arith), omega arith, omega arith)

pub fits_range : (line : Line) (mark : ℕ) (path : Path) → auth_fits line mark path ≡ true → path_in_range (seg_len line) path ≡ true
fits_range line mark path fits =
    let steps = path.steps.items in
    let f = and_parts (chained line steps) (no_segment_twice steps && (path_in_range (seg_len line) path && nat_lt (mark + length steps) 4294967296)) fits in
    let f2 = and_parts (no_segment_twice steps) (path_in_range (seg_len line) path && nat_lt (mark + length steps) 4294967296) f.1 in
    (and_parts (path_in_range (seg_len line) path) (nat_lt (mark + length steps) 4294967296) f2.1).0

-- the first authority, over the whole segment of the request
takes_first : (line : Line) (long : ℕ) (entry : Option DirSeg) (path : Path) → path_in_range (seg_len line) path ≡ true → covers_portal (seg_len line) entry long path ≡ true
    → EntryIs line long entry (Some (path_mm (seg_len line) path))
takes_first line long None path fits h = absurd cc
takes_first line long (Some st) path fits h = covers_whole line long st path fits h

-- an authority that is acted on

takes_before : (line : Line) (stop from number mark : ℕ) (path : Path) (x : WorldTrain) → auth_fits line mark path ≡ true → acted_on_by (seg_len line) x None number mark path ≡ true
    → IsTrainOn line x → IsTrainOn line (took_by (seg_len line) stop from number mark path None x)
takes_before line stop from number mark path x fits acted_on on = by_test (keeps_entry number x.onboard)
    (λ y.
    let covers : covers_portal (seg_len line) x.entry x.train_length path ≡ true = grind (arith, nat_tests) in
    rw y (record { long = on.long; entry = takes_first line x.train_length x.entry path (fits_range line mark path fits) covers; head = on.head }))
    (λ n. rw n on)

takes_on : (line : Line) (stop from number mark : ℕ) (path : Path) (x : WorldTrain) (h : Head) → is_line line ≡ true → auth_fits line mark path ≡ true → x.head ≡ Some h
    → IsTrainOn line x → IsTrainOn line (took_by (seg_len line) stop from number mark path (Some h) x)
takes_on line stop from number mark path x h valid fits e on =
    let head : IsHeadOn line x.onboard.room h = rw e at on.head in
    by_test (nat_lt x.onboard.last number)
    (λ y. by_test (takes_at (seg_len line) stop mark path h x.onboard)
    (λ a.
    let leads : leads_through mark path h ≡ true = grind (arith, nat_tests) in
    let before : place_on (seg_len line) mark path h.mark h.offset ≤ end_place (seg_len line) path = grind (arith, nat_tests) in
    rw (y, a) (record {
      long = on.long;
      entry = on.entry;
      head = rw e (stays_within line mark path h valid head.declared head.above head.on fits leads before);
    }))
    (λ b. rw (y, b) (record { long = on.long; entry = on.entry; head = rw e head })))
    (λ n. rw n on)

takes_by : (line : Line) (stop from number mark : ℕ) (path : Path) (x : WorldTrain) (head : Option Head) → is_line line ≡ true → auth_fits line mark path ≡ true → x.head ≡ head
    → acted_on_by (seg_len line) x head number mark path ≡ true → IsTrainOn line x → IsTrainOn line (took_by (seg_len line) stop from number mark path head x)
takes_by line stop from number mark path x None valid fits e acted_on on = takes_before line stop from number mark path x fits acted_on on
takes_by line stop from number mark path x (Some h) valid fits e acted_on on = takes_on line stop from number mark path x h valid fits e on

pub takes : (line : Line) (stop from number mark : ℕ) (path : Path) (x : WorldTrain) → is_line line ≡ true → auth_fits line mark path ≡ true
    → acted_on_by (seg_len line) x x.head number mark path ≡ true → IsTrainOn line x → IsTrainOn line (took_by (seg_len line) stop from number mark path x.head x)
takes line stop from number mark path x valid fits acted_on on = takes_by line stop from number mark path x x.head valid fits refl acted_on on
