-- What a zone shows of a train: its hold and its envelope.
use Rattle.std.proofs.Common.{◌≡◌, ℕ, ◌+◌, ◌<◌, List, [], ◌∷◌, length, get_or, Some, None, false, refl, ap, ◌∙◌, arith}
use Rattle.std.specs.List.{position}
use Rattle.track_points.specs.Points.{Point, Cell, Token, has_between}
use Rattle.track_points.specs.Sets.{Points, held, token_in, set_has}
use Rattle.definitions.specs.Track.{Line, layout}
use Rattle.plain_state.specs.Zone.{find_controlled, hold_has}
use Rattle.plain_state.specs.declared.Controlled.{Controlled}
use Rattle.plain_state.specs.Refinement.{Distinct}
use Rattle.zone_trains.specs.Trains.{is_train, AllFit}
use Rattle.zone_state.specs.Zone.{ZoneKept, HoldsAre, IsZoneOn, IsEnvelope}
use Rattle.zone_trains.proofs.Found_is.{found, found_is, absent}
use Rattle.zone_state.proofs.Holds_set.{hold_at}

none_in : (p : Points) (point : Point) → p ≡ record { ranges = []; tokens = [] } → set_has p point ≡ false
unfolding held token_in
none_in p (Cell s mm) e = rw e refl
none_in p (Token w) e = rw e refl

pub held_none : (line : Line) (z t : ℕ) (xs : List Controlled) (p : Points) → position (is_train t) xs ≡ None → p ≡ record { ranges = []; tokens = [] }
    → (point : Point) → set_has p point ≡ hold_has line z (find_controlled t xs) point
held_none line z t xs p h e point = rw (absent t xs h) (none_in p point e)

pub held_some : (line : Line) (z t : ℕ) (xs : List Controlled) (ps : List Points) (i : ℕ) (p q : Points) → position (is_train t) xs ≡ Some i → i < length xs → p ≡ q → q ≡ get_or ps i q
    → HoldsAre line z xs ps → (point : Point) → set_has p point ≡ hold_has line z (find_controlled t xs) point
held_some line z t [] ps i p q h l e k f point = absurd (omega arith)
held_some line z t (x ∷ xs) ps i p q h l e k f point = rw (found t (x ∷ xs) i x h, e, k) (hold_at line z (x ∷ xs) ps i x q l f point)

pub envelope_none : (line : Line) (t : ℕ) (xs : List Controlled) → position (is_train t) xs ≡ None → IsEnvelope (layout line) (find_controlled t xs) None
envelope_none line t xs h = rw (absent t xs h) tt

pub envelope_some : (line : Line) (t : ℕ) (xs : List Controlled) (i : ℕ) (x : Controlled) (rear : ℕ) (p : Points) → position (is_train t) xs ≡ Some i → x ≡ get_or xs i x
    → rear + x.train_length ≡ x.fronts.lo → ((point : Point) → set_has p point ≡ has_between (layout line) x.way.path.steps.items rear x.fronts.hi point)
    → IsEnvelope (layout line) (find_controlled t xs) (Some p)
envelope_some line t xs i x rear p h e r f =
    rw (found_is t xs i x h e) (λ point. f point ∙ ap (λ lo. has_between (layout line) x.way.path.steps.items lo x.fronts.hi point) (omega arith))

-- a zone of no train
pub none_on : (line : Line) (z : ZoneKept) → z.plain.trains ≡ [] → z.holds ≡ [] → IsZoneOn line z
unfolding AllFit HoldsAre Distinct
none_on line z e h = record { fits = record { trains = rw e tt; holds = rw (e, h) tt }; few = rw e (omega arith); distinct = rw e tt }
