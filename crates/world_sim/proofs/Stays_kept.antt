-- What a world keeps of a train, through each of its steps.
use Rattle.std.proofs.Common.{◌≡◌, ℕ, ◌*◌, ◌/◌, ◌<◌, ◌≤◌, Bool, true, not, ◌&&◌, refl, ◌∙◌, arith, nat_lt, nat_le, Option, Some, None, if◌then◌else◌}
use Rattle.std.specs.Prelude.{is_some}
use Rattle.std.proofs.lemmas.Bool.Decides.{nat_tests}
use Rattle.std.proofs.lemmas.Bool.{and_parts}
use Rattle.list_laws.proofs.By_test.{by_test}
use Rattle.track_points.specs.declared.ids.DirSeg.{DirSeg}
use Rattle.track_points.specs.declared.ids.TrainId.{TrainId}
use Rattle.track_points.specs.declared.path.Path.{Path}
use Rattle.track_points.specs.Points.{Lengths}
use Rattle.definitions.specs.Track.{Line}
use Rattle.envelope.specs.Fronts.{farthest_move}
use Rattle.onboard.specs.declared.onboard.Onboard.{Onboard}
use Rattle.onboard.specs.Decision.{decided}
use Rattle.plain_state.specs.declared.Head.{Head}
use Rattle.plain_state.specs.declared.WorldTrain.{WorldTrain}
use Rattle.plain_state.specs.World.{new_train, head_at_entry, come_on, moved_on, moved_train, keeps_entry, took_by, acted_on_by}
use Rattle.world_sim.specs.Trains.{is_numbered, is_kept, EntryIs}
use Rattle.world_sim.proofs.Pace_most.{slower, pace_stops}

-- the parts of it
pub record IsKept (x : WorldTrain) : Type 0 where
  pub speed : x.speed ≤ 60000
  pub pace : x.pace.speed ≤ 60000
  pub numbered : is_numbered x.head x.onboard.last ≡ true

pub kept_parts : (x : WorldTrain) → is_kept x ≡ true → IsKept x
kept_parts x h =
    let a = and_parts (nat_le x.speed 60000) (nat_le x.pace.speed 60000 && is_numbered x.head x.onboard.last) h in
    let b = and_parts (nat_le x.pace.speed 60000) (is_numbered x.head x.onboard.last) a.1 in
    record { speed = let t = a.0 in grind (arith, nat_tests); pace = let t = b.0 in grind (arith, nat_tests); numbered = b.1 }

pub kept_all : (x : WorldTrain) → IsKept x → is_kept x ≡ true
kept_all x h =
    let s : nat_le x.speed 60000 ≡ true = let t = h.speed in grind (arith, nat_tests) in
    let p : nat_le x.pace.speed 60000 ≡ true = let t = h.pace in grind (arith, nat_tests) in
    rw (s, p) h.numbered

-- declared
pub new_kept : (t : TrainId) (long error speed : ℕ) → speed ≤ 60000 → is_kept (new_train t long error speed) ≡ true
new_kept t long error speed h = let s : nat_le speed 60000 ≡ true = grind (arith, nat_tests) in rw s refl

-- come on
enters_numbered : (line : Line) (long : ℕ) (entry : Option DirSeg) (mm : Option ℕ) → EntryIs line long entry mm → is_some mm ≡ true → is_numbered (head_at_entry entry long) 1 ≡ true
enters_numbered line long entry None h a = absurd cc
enters_numbered line long None (Some mm) h a = absurd h
enters_numbered line long (Some step) (Some mm) h a = refl

pub comes_on_kept : (line : Line) (x : WorldTrain) → EntryIs line x.train_length x.entry x.onboard.entry → is_some x.onboard.entry ≡ true → is_kept x ≡ true → is_kept (come_on x) ≡ true
comes_on_kept line x entry holds h =
    let k = kept_parts x h in kept_all (come_on x) (record { speed = k.speed; pace = k.pace; numbered = enters_numbered line x.train_length x.entry x.onboard.entry entry holds })

-- moved
moved_numbered : (line : Line) (mm last : ℕ) (head : Option Head) → is_numbered (moved_on line mm head) last ≡ is_numbered head last
moved_numbered line mm last None = refl
moved_numbered line mm last (Some h) = refl

pub moved_kept : (line : Line) (ms clock mm : ℕ) (x : WorldTrain) → mm ≤ 60000 * ms / 1000 → is_kept x ≡ true → is_kept (moved_train line ms clock mm x) ≡ true
moved_kept line ms clock mm x m h =
    let k = kept_parts x h in
    kept_all (moved_train line ms clock mm x)
    (record { speed = k.speed; pace = pace_stops ms clock mm x.pace m k.pace; numbered = moved_numbered line mm x.onboard.last x.head ∙ k.numbered })

-- an authority taken
decided_numbered : (is_taken : Bool) (number room : ℕ) (o : Onboard) → nat_lt 0 o.last ≡ true → nat_lt 0 (decided is_taken number room o).last ≡ true
decided_numbered is_taken number room o h = by_test (nat_lt o.last number)
    (λ y.
    let n : nat_lt 0 number ≡ true = grind (arith, nat_tests) in
    by_test is_taken (λ a. rw (y, a) n) (λ a. rw (y, a) n))
    (λ n. rw n h)

took_by_kept : (len : Lengths) (stop from number mark : ℕ) (path : Path) (head : Option Head) (x : WorldTrain) → head ≡ x.head → is_kept x ≡ true
    → is_kept (took_by len stop from number mark path head x) ≡ true
took_by_kept len stop from number mark path None x e h = by_test (keeps_entry number x.onboard) (λ y. rw y h) (λ n. rw n h)
took_by_kept len stop from number mark path (Some s) x e h =
    let k = kept_parts x h in
    let before : nat_lt 0 x.onboard.last ≡ true = rw (← e) at k.numbered in
    kept_all (took_by len stop from number mark path (Some s) x)
    (record { speed = k.speed; pace = k.pace; numbered = rw (← e) (decided_numbered _ number _ x.onboard before) })

pub took_kept : (len : Lengths) (stop from number mark : ℕ) (path : Path) (x y : WorldTrain) → is_kept x ≡ true
    → y ≡ (if acted_on_by len x x.head number mark path then took_by len stop from number mark path x.head x else x) → is_kept y ≡ true
took_kept len stop from number mark path x y h e = by_test (acted_on_by len x x.head number mark path)
    (λ a. rw (e, a) (took_by_kept len stop from number mark path x.head x refl h))
    (λ a. rw (e, a) h)

took_by_id : (len : Lengths) (stop from number mark : ℕ) (path : Path) (head : Option Head) (x : WorldTrain) → (took_by len stop from number mark path head x).id ≡ x.id
took_by_id len stop from number mark path None x = by_test (keeps_entry number x.onboard) (λ y. rw y refl) (λ n. rw n refl)
took_by_id len stop from number mark path (Some h) x = refl

pub took_id : (len : Lengths) (stop from number mark : ℕ) (path : Path) (x y : WorldTrain)
    → y ≡ (if acted_on_by len x x.head number mark path then took_by len stop from number mark path x.head x else x) → y.id ≡ x.id
took_id len stop from number mark path x y e = by_test (acted_on_by len x x.head number mark path)
    (λ a. rw (e, a) (took_by_id len stop from number mark path x.head x))
    (λ a. rw (e, a) refl)

-- What follows for a step.

none_before : (head : Option Head) (last : ℕ) → is_numbered head last ≡ true → not (is_some head) ≡ true → last ≡ 0
none_before None last h off = grind (arith, nat_tests)
none_before (Some s) last h off = absurd cc

some_after : (head : Option Head) (last : ℕ) → is_numbered head last ≡ true → is_some head ≡ true → 0 < last
some_after None last h on = absurd cc
some_after (Some s) last h on = grind (arith, nat_tests)

pub not_numbered : (x : WorldTrain) → is_kept x ≡ true → not (is_some x.head) ≡ true → x.onboard.last ≡ 0
not_numbered x h off = none_before x.head x.onboard.last (kept_parts x h).numbered off

pub has_number : (x : WorldTrain) → is_kept x ≡ true → is_some x.head ≡ true → 0 < x.onboard.last
has_number x h on = some_after x.head x.onboard.last (kept_parts x h).numbered on

pub can_slower : (x : WorldTrain) (ms mm : ℕ) → is_kept x ≡ true → nat_le mm (farthest_move x.speed ms) ≡ true → mm ≤ 60000 * ms / 1000
can_slower x ms mm h can = slower x.speed ms mm (kept_parts x h).speed (grind (arith, nat_tests))
