-- The world's trains stay on its line.
use Rattle.std.proofs.Common.{◌≡◌, ℕ, suc, ◌<◌, ◌≤◌, ◌+◌, true, not, ◌&&◌, List, [], ◌∷◌, length, drop, get_or, refl, arith, nat_le, nat_lt, Option, Some, add-one, drop-cons}
use Rattle.std.specs.Prelude.{is_some}
use Rattle.std.specs.List.{list_all}
use Rattle.std.proofs.lemmas.Bool.Decides.{nat_tests}
use Rattle.std.proofs.lemmas.Bool.{and_parts}
use Rattle.list_laws.proofs.By_test.{by_test}
use Rattle.track_points.specs.declared.ids.TrainId.{TrainId}
use Rattle.track_points.specs.declared.path.Path.{Path}
use Rattle.definitions.specs.declared.event.Event.{Event}
use Rattle.definitions.specs.declared.event.Event.TheVariants.{Train, Entry, Enter, Step}
use Rattle.definitions.specs.declared.message.Msg.{Msg}
use Rattle.definitions.specs.declared.message.Msg.TheVariants as msg
use Rattle.definitions.specs.Track.{Line, seg_len}
use Rattle.definitions.specs.Rules.{is_line}
use Rattle.definitions.specs.Premises.{ascending}
use Rattle.envelope.specs.Fronts.{farthest_move}
use Rattle.plain_state.specs.declared.WorldTrain.{WorldTrain}
use Rattle.plain_state.specs.World.{PlainWorld, find_train, change_train, with_trains, authorized_found, on_found, room_found, speed_found, new_train, asked_at_portal, come_on, moved_train, trains_moved, stop_now, took_auth, auth_fits, train_acts_on, world_acts_on, world_take_next, world_event_next}
use Rattle.plain_state.specs.Plain.{world_start}
use Rattle.plain_state.specs.Admits.{world_reports, world_moves, world_stops, world_enters, world_premise, can_move_found, may_move_found}
use Rattle.world_sim.specs.World.{ascends, AllOn, IsWorldOn, IsBuilt}
use Rattle.world_sim.proofs.Changed_is.{more_on, changed_on, still, ascends_from}
use Rattle.world_sim.proofs.Moves_on.{declares, asks, comes_on, moves_on, takes}

pub stops : (w : PlainWorld) (e : Event) → world_premise w e ≡ 0 → world_stops w e ≡ true
stops w e h = by_test (world_reports w e)
    (λ r. by_test (world_moves w e)
    (λ m. by_test (world_stops w e)
    (λ s. s)
    (λ s. let k : 4 ≡ 0 = rw (r, m, s) at h in absurd (omega arith)))
    (λ m. let k : 2 ≡ 0 = rw (r, m) at h in absurd (omega arith)))
    (λ r. let k : 1 ≡ 0 = rw r at h in absurd (omega arith))

pub moves : (w : PlainWorld) (e : Event) → world_premise w e ≡ 0 → world_moves w e ≡ true
moves w e h = by_test (world_reports w e)
    (λ r. by_test (world_moves w e)
    (λ m. m)
    (λ m. let k : 2 ≡ 0 = rw (r, m) at h in absurd (omega arith)))
    (λ r. let k : 1 ≡ 0 = rw r at h in absurd (omega arith))

pub enters : (w : PlainWorld) (e : Event) → world_premise w e ≡ 0 → world_enters w e ≡ true
enters w e h = by_test (world_reports w e)
    (λ r. by_test (world_moves w e)
    (λ m. by_test (world_stops w e)
    (λ s. by_test (world_enters w e)
    (λ n. n)
    (λ n. let k : 5 ≡ 0 = rw (r, m, s, n) at h in absurd (omega arith)))
    (λ s. let k : 4 ≡ 0 = rw (r, m, s) at h in absurd (omega arith)))
    (λ m. let k : 2 ≡ 0 = rw (r, m) at h in absurd (omega arith)))
    (λ r. let k : 1 ≡ 0 = rw r at h in absurd (omega arith))

-- one train moves on, and many
pub moved_stays : (line : Line) (ms clock : ℕ) (x : TrainId × ℕ) (trains : List WorldTrain) → is_line line ≡ true → may_move_found trains x ≡ true → AllOn line trains
    → AllOn line (change_train x.0.0 (moved_train line ms clock x.1) trains)
moved_stays line ms clock x trains valid may each =
    let k = and_parts (on_found (find_train x.0.0 trains)) (nat_le x.1 (room_found (find_train x.0.0 trains))) may in
    let room : x.1 ≤ room_found (find_train x.0.0 trains) = let t = k.1 in grind (arith, nat_tests) in
    changed_on line x.0.0 (moved_train line ms clock x.1) trains each (λ y found here. moves_on line ms clock x.1 y valid (rw found at room) here)

-- the trains that may move, and those that can, still do so once another has moved
may_still : (line : Line) (ms clock : ℕ) (x : TrainId × ℕ) (rest : List (TrainId × ℕ)) (trains : List WorldTrain) → ascending x.0.0 rest ≡ true
    → list_all (may_move_found trains) rest ≡ true → list_all (may_move_found (change_train x.0.0 (moved_train line ms clock x.1) trains)) rest ≡ true
may_still line ms clock x rest trains a h =
    still (λ found mm. on_found found && nat_le mm (room_found found)) (moved_train line ms clock x.1) x.0.0 rest x.0.0 trains (λ y. refl) (omega arith) a h

can_still : (line : Line) (ms clock : ℕ) (x : TrainId × ℕ) (rest : List (TrainId × ℕ)) (trains : List WorldTrain) → ascending x.0.0 rest ≡ true
    → list_all (can_move_found ms trains) rest ≡ true → list_all (can_move_found ms (change_train x.0.0 (moved_train line ms clock x.1) trains)) rest ≡ true
can_still line ms clock x rest trains a h =
    still (λ found mm. nat_le mm (farthest_move (speed_found found) ms)) (moved_train line ms clock x.1) x.0.0 rest x.0.0 trains (λ y. refl) (omega arith) a h

moves_stay : (line : Line) (ms clock t : ℕ) (moves : List (TrainId × ℕ)) (trains : List WorldTrain) → is_line line ≡ true → ascending t moves ≡ true
    → list_all (may_move_found trains) moves ≡ true → AllOn line trains → AllOn line (trains_moved line ms clock moves trains)
unfolding trains_moved ascending
moves_stay line ms clock t [] trains valid a may each = each
moves_stay line ms clock t (x ∷ moves) trains valid a may each =
    let k = and_parts (may_move_found trains x) (list_all (may_move_found trains) moves) may in
    let b = (and_parts (nat_lt t x.0.0) (ascending x.0.0 moves) a).1 in
    moves_stay line ms clock x.0.0 moves (change_train x.0.0 (moved_train line ms clock x.1) trains) valid b
    (may_still line ms clock x moves trains b k.1)
    (moved_stays line ms clock x trains valid k.0 each)

held_there : (found : Option WorldTrain) (x : WorldTrain) → authorized_found found ≡ true → found ≡ Some x → is_some x.onboard.entry ≡ true
held_there found x h e = rw e at h

enter_stays : (line : Line) (t : ℕ) (trains : List WorldTrain) → authorized_found (find_train t trains) ≡ true → AllOn line trains → AllOn line (change_train t come_on trains)
enter_stays line t trains h each = changed_on line t come_on trains each (λ x found here. comes_on line x (held_there (find_train t trains) x h found) here)

pub event_stays : (line : Line) (w : PlainWorld) (e : Event) → IsWorldOn line w → IsBuilt e → world_premise w e ≡ 0 → IsWorldOn line (world_event_next line w e)
event_stays line w (Train t long error speed kind) on built h =
    record { valid = on.valid; each = more_on line (new_train t long error speed) w.trains (declares line (new_train t long error speed) built refl refl) on.each }
event_stays line w (Entry t step) on built h =
    record { valid = on.valid; each = changed_on line t.0 (asked_at_portal step) w.trains on.each (λ x found here. asks line step x here) }
event_stays line w (Enter t) on built h =
    let k = and_parts (authorized_found (find_train t.0 w.trains)) (not (on_found (find_train t.0 w.trains))) (enters w (Enter t) h) in
    record { valid = on.valid; each = enter_stays line t.0 w.trains k.0 on.each }
event_stays line w (Step ms moves) on built h =
    record { valid = on.valid; each = moves_stay line ms (w.clock + ms) 0 moves.items w.trains on.valid built (stops w (Step ms moves) h) on.each }
event_stays line w _ on built h = on

-- an authority that is acted on
auth_stays : (line : Line) (w : PlainWorld) (from t number mark : ℕ) (path : Path) → is_line line ≡ true → auth_fits line mark path ≡ true
    → train_acts_on (seg_len line) (find_train t w.trains) number mark path ≡ true → AllOn line w.trains
    → AllOn line (change_train t (took_auth (seg_len line) w.brake w.clock from number mark path) w.trains)
auth_stays line w from t number mark path valid fits acts_on each = changed_on line t (took_auth (seg_len line) w.brake w.clock from number mark path) w.trains each
    (λ x found here. takes line (stop_now w.brake w.clock x) from number mark path x valid fits (rw found at acts_on) here)

pub take_stays : (line : Line) (w : PlainWorld) (from : ℕ) (m : Msg) → IsWorldOn line w → IsWorldOn line (world_take_next line w from m)
take_stays line w from (msg.Auth t number mark path) on = by_test (world_acts_on line w.trains (msg.Auth t number mark path))
    (λ y.
    let k = and_parts (auth_fits line mark path) (train_acts_on (seg_len line) (find_train t.0 w.trains) number mark path) y in
    rw y (record { valid = on.valid; each = auth_stays line w from t.0 number mark path on.valid k.0 k.1 on.each }))
    (λ n. rw n on)
take_stays line w from _ on = on

-- What is left of some moves, and what they make of the trains.
pub record Going (line : Line) (ms : ℕ) (moves : List (TrainId × ℕ)) (rest : List (TrainId × ℕ)) (old now : PlainWorld) : Type 0 where
  pub brake : now.brake ≡ old.brake
  pub clock : now.clock ≡ old.clock
  pub trains : trains_moved line ms old.clock moves old.trains ≡ trains_moved line ms old.clock rest now.trains
  pub each : AllOn line now.trains
  pub ascend : ascends rest ≡ true
  pub can : list_all (can_move_found ms now.trains) rest ≡ true
  pub may : list_all (may_move_found now.trains) rest ≡ true

goes_by : (line : Line) (ms : ℕ) (moves : List (TrainId × ℕ)) (x : TrainId × ℕ) (rest : List (TrainId × ℕ)) (w v u : PlainWorld) → is_line line ≡ true → Going line ms moves (x ∷ rest) w v
    → u ≡ with_trains v (change_train x.0.0 (moved_train line ms v.clock x.1) v.trains) → Going line ms moves rest w u
unfolding trains_moved
goes_by line ms moves x rest w v u valid g e =
    let k = and_parts (may_move_found v.trains x) (list_all (may_move_found v.trains) rest) g.may in
    let c = and_parts (can_move_found ms v.trains x) (list_all (can_move_found ms v.trains) rest) g.can in
    rw e (record {
      brake = g.brake;
      clock = g.clock;
      trains = rw g.clock g.trains;
      each = moved_stays line ms v.clock x v.trains valid k.0 g.each;
      ascend = ascends_from x.0.0 rest g.ascend;
      can = can_still line ms v.clock x rest v.trains g.ascend c.1;
      may = may_still line ms v.clock x rest v.trains g.ascend k.1;
    })

pub goes_on : (line : Line) (ms : ℕ) (moves : List (TrainId × ℕ)) (i : ℕ) (d : TrainId × ℕ) (w v u : PlainWorld) → is_line line ≡ true → i < length moves → Going line ms moves (drop i moves) w v
    → u ≡ with_trains v (change_train (get_or moves i d).0.0 (moved_train line ms v.clock (get_or moves i d).1) v.trains) → Going line ms moves (drop (i + 1) moves) w u
goes_on line ms moves i d w v u valid l g e =
    let s = drop-cons moves i d l in
    rw (add-one i) (goes_by line ms moves (get_or moves i d) (drop (suc i) moves) w v u valid (rw s at g) e)

pub gone : (line : Line) (ms : ℕ) (moves : List (TrainId × ℕ)) (w v : PlainWorld) → Going line ms moves [] w v → v ≡ with_trains w (trains_moved line ms w.clock moves w.trains)
unfolding trains_moved
gone line ms moves w v g = rw (g.trains, ← g.clock, ← g.brake) refl

-- a world of no trains
pub start_on : (line : Line) → is_line line ≡ true → IsWorldOn line (world_start line)
unfolding AllOn
start_on line valid = record { valid = valid; each = tt }
