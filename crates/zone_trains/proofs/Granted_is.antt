-- What a granted ask and a repeated authority send, by the shrink that is unanswered.
use Rattle.std.proofs.Common.{◌≡◌, ℕ, ◌+◌, ◌<◌, Bool, true, false, ◌&&◌, List, [], ◌∷◌, Option, Some, None, refl, ap, ◌∙◌, arith}
use Rattle.list_laws.proofs.By_test.{by_test}
use Rattle.track_points.specs.declared.ids.DirSeg.{DirSeg}
use Rattle.track_points.specs.declared.ids.TrainId.{TrainId}
use Rattle.track_points.specs.declared.path.Path.{Path}
use Rattle.track_points.specs.Points.{Lengths, end_place}
use Rattle.definitions.specs.declared.message.Msg.TheVariants as msg
use Rattle.definitions.specs.Track.{Line}
use Rattle.definitions.specs.Ways.{PlainWay}
use Rattle.definitions.specs.Limit.{Bars, Reach, reach_from, continues, asked_way}
use Rattle.definitions.specs.Steps.{Effect, up_to, again, grant}
use Rattle.authority_ledger.specs.declared.ledger.Shrink.{Shrink}
use Rattle.authority_ledger.specs.declared.ledger.Ledger.{Ledger}
use Rattle.authority_ledger.specs.Ledger.{longer, if_none_pending}
use Rattle.plain_state.specs.declared.Controlled.{Controlled}
use Rattle.plain_state.specs.Zone.{find_controlled, ready_found, pending_found, silent_found, path_found, barring_plain, reach_plain, lengthened, longer_way}
use Rattle.zone_trains.specs.Trains.{path_granted}

-- an ask is barred while a shrink is unanswered
barred_waits : (line : Line) (ready silent : Bool) (path : Option Path) (asked : List DirSeg) (to : ℕ) (bars : Bars) → (reach_from line ready true silent path asked to bars).distance ≡ 0
barred_waits line ready silent None asked to bars = refl
barred_waits line ready silent (Some path) asked to bars = by_test (ready && continues line path.steps.items asked) (λ y. rw y refl) (λ n. rw n refl)

granted_free : (line : Line) (ready pending silent : Bool) (path : Option Path) (asked : List DirSeg) (to : ℕ) (bars : Bars) (reach : Reach)
    → reach ≡ reach_from line ready pending silent path asked to bars → 0 < reach.distance → pending ≡ false
granted_free line ready true silent path asked to bars reach e h =
    let n : reach.distance ≡ 0 = ap (λ (r : Reach). r.distance) e ∙ barred_waits line ready silent path asked to bars in absurd (omega arith)
granted_free line ready false silent path asked to bars reach e h = refl

-- and so a train that is granted one has none
pub reach_free : (line : Line) (z clock : ℕ) (trains : List Controlled) (closed : List Bool) (t : ℕ) (asked : List DirSeg) (to : ℕ) (reach : Reach)
    → reach ≡ reach_plain line z clock trains closed t asked to → 0 < reach.distance → pending_found (find_controlled t trains) ≡ false
reach_free line z clock trains closed t asked to reach =
    granted_free line (ready_found (find_controlled t trains)) (pending_found (find_controlled t trains)) (silent_found line clock (find_controlled t trains)) (path_found (find_controlled t trains)) asked to
    (barring_plain line z trains closed t) reach

pub granted_is : (len : Lengths) (z : ℕ) (t : TrainId) (asked : List DirSeg) (reach : Reach) (x : Controlled) → x.ledger.pending ≡ None
    → path_granted z t (lengthened len asked reach.distance x) reach.obstacle
    ≡ grant len z t (x.ledger.last + 1) x.way.mark x.way.path.from (asked_way x.way.path.steps.items asked) (end_place len x.way.path + reach.distance) reach
granted_is len z t asked reach x none = ap by_shrink none
  where
    by_shrink : Option Shrink → Effect
    by_shrink p = path_granted z t (record x { way = longer_way len asked reach.distance x.way; ledger = if_none_pending x.ledger p (record x.ledger { last = x.ledger.last + 1 }) }) reach.obstacle

pub none_longer : (l : Ledger) → l.pending ≡ None → (longer l).pending ≡ None
none_longer l none = ap (λ (p : Option Shrink). (if_none_pending l p (record l { last = l.last + 1 })).pending) none ∙ none

-- what is sent again
pub again_is : (len : Lengths) (t : TrainId) (number : ℕ) (end : Option ℕ) (way : PlainWay)
    → record { issued = (0, msg.Auth t number way.mark (up_to len end way).path) ∷ []; lines = [] } ≡ again t number (Some (up_to len end way))
again_is len t number None way = refl
again_is len t number (Some p) way = refl
