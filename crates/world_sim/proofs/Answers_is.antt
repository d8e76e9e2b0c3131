-- What a train answers to an authority is what the world gives.
use Rattle.std.proofs.Common.{◌≡◌, ℕ, true, false, refl, nat_lt, get_or, Option, Some, None, if◌then◌else◌}
use Rattle.std.specs.List.{position}
use Rattle.std.proofs.Math.ListN.{set}
use Rattle.std.specs.Prelude.{is_some}
use Rattle.list_laws.proofs.By_test.{by_test}
use Rattle.track_points.specs.declared.ids.TrainId.{TrainId}
use Rattle.track_points.specs.declared.path.Path.{Path}
use Rattle.track_points.specs.Points.{Lengths}
use Rattle.definitions.specs.declared.message.Msg.TheVariants as msg
use Rattle.definitions.specs.Track.{Line, seg_len}
use Rattle.definitions.specs.Steps.{nothing, taking_auth}
use Rattle.onboard.specs.declared.onboard.Onboard.{Onboard}
use Rattle.plain_state.specs.declared.Head.{Head}
use Rattle.plain_state.specs.declared.WorldTrain.{WorldTrain}
use Rattle.plain_state.specs.World.{PlainWorld, find_train, with_trains, takes_at, takes_by, stop_now, took_by, took_auth, auth_fits, acted_on_by, world_take_effect, world_take_next}
use Rattle.world_sim.specs.World.{is_train, answering}
use Rattle.world_sim.specs.Trains.{verdict_by}
use Rattle.world_sim.proofs.Changed_is.{changed_is, put_same}

decides : (len : Lengths) (stop number mark : ℕ) (path : Path) (h : Head) (o : Onboard) (time : ℕ) (t : TrainId) (from : ℕ)
    → answering time t from number (verdict_by len stop number mark path (Some h) o) ≡ taking_auth time true o.last o.taken (takes_at len stop mark path h o) t from number
decides len stop number mark path h o time t from = by_test (nat_lt o.last number)
    (λ y. by_test (takes_at len stop mark path h o) (λ a. rw (y, a) refl) (λ a. rw (y, a) refl))
    (λ n. rw n refl)

answers_by : (len : Lengths) (stop number mark : ℕ) (path : Path) (head : Option Head) (x : WorldTrain) (time : ℕ) (t : TrainId) (from : ℕ)
    → answering time t from number (verdict_by len stop number mark path head x.onboard) ≡ taking_auth time (is_some head) x.onboard.last x.onboard.taken (takes_by len stop mark path head x) t from number
answers_by len stop number mark path None x time t from = refl
answers_by len stop number mark path (Some h) x time t from = decides len stop number mark path h x.onboard time t from

-- a train that does not act on an authority answers nothing
answers_none : (len : Lengths) (stop number mark : ℕ) (path : Path) (head : Option Head) (x : WorldTrain) (time : ℕ) (t : TrainId) (from : ℕ) → acted_on_by len x head number mark path ≡ false
    → answering time t from number (verdict_by len stop number mark path head x.onboard) ≡ nothing
answers_none len stop number mark path None x time t from h = refl
answers_none len stop number mark path (Some s) x time t from h = absurd cc

pub answers_is : (line : Line) (w : PlainWorld) (t : TrainId) (from number mark : ℕ) (path : Path) (x : WorldTrain) → find_train t.0 w.trains ≡ Some x → auth_fits line mark path ≡ true
    → answering w.clock t from number (verdict_by (seg_len line) (stop_now w.brake w.clock x) number mark path x.head x.onboard) ≡ world_take_effect line w from (msg.Auth t number mark path)
answers_is line w t from number mark path x found fits = by_test (acted_on_by (seg_len line) x x.head number mark path)
    (λ y. rw (fits, found, y) (answers_by (seg_len line) (stop_now w.brake w.clock x) number mark path x.head x w.clock t from))
    (λ n. rw (fits, found, n) (answers_none (seg_len line) (stop_now w.brake w.clock x) number mark path x.head x w.clock t from n))

-- the world with this train changed
pub takes_is : (line : Line) (w : PlainWorld) (t : TrainId) (from number mark : ℕ) (path : Path) (i : ℕ) (x y : WorldTrain) → position (is_train t.0) w.trains ≡ Some i → x ≡ get_or w.trains i x
    → find_train t.0 w.trains ≡ Some x → auth_fits line mark path ≡ true
    → y ≡ (if acted_on_by (seg_len line) x x.head number mark path then took_by (seg_len line) (stop_now w.brake w.clock x) from number mark path x.head x else x)
    → with_trains w (set w.trains i y) ≡ world_take_next line w from (msg.Auth t number mark path)
takes_is line w t from number mark path i x y h e found fits g = by_test (acted_on_by (seg_len line) x x.head number mark path)
    (λ a.
    let c = changed_is t.0 (took_auth (seg_len line) w.brake w.clock from number mark path) w.trains i x y h e (rw a at g) in
    rw (fits, found, a, c) refl)
    (λ a. rw (fits, found, a, put_same w.trains i x y e (rw a at g)) refl)
