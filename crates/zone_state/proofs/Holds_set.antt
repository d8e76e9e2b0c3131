-- What is held for each train, in a list beside the trains.
use Rattle.std.proofs.Common.{◌≡◌, ℕ, suc, zero, ◌<◌, List, [], ◌∷◌, length, map, get_or, sym, ap, ◌∙◌, arith, ◌&&◌, nat_eq}
use Rattle.std.proofs.Math.ListN.{set}
use Rattle.std.specs.List.{insert}
use Rattle.track_points.specs.Points.{path_has}
use Rattle.track_points.specs.Sets.{Points}
use Rattle.definitions.specs.Track.{Line, owner, layout}
use Rattle.way_path.specs.Ways.{PlacedWay}
use Rattle.plain_state.specs.declared.Controlled.{Controlled}
use Rattle.zone_trains.specs.Trains.{IsHold}
use Rattle.zone_state.specs.Zone.{HoldsAre}

pub hold_at : (line : Line) (z : ℕ) (xs : List Controlled) (ps : List Points) (i : ℕ) (d : Controlled) (e : Points) → i < length xs → HoldsAre line z xs ps → IsHold line z (get_or xs i d) (get_or ps i e)
unfolding HoldsAre
hold_at line z [] ps i d e l h = absurd (omega arith)
hold_at line z (x ∷ xs) [] i d e l h = absurd h
hold_at line z (x ∷ xs) (p ∷ ps) zero d e l h = h.0
hold_at line z (x ∷ xs) (p ∷ ps) (suc i) d e l h = hold_at line z xs ps i d e (omega arith) h.1

pub hold_found : (line : Line) (z : ℕ) (xs : List Controlled) (ps : List Points) (i : ℕ) (x : Controlled) (hold : Points) → i < length xs → x ≡ get_or xs i x → hold ≡ get_or ps i hold → HoldsAre line z xs ps
    → IsHold line z x hold
hold_found line z xs ps i x hold l e k h = rw (e, k) (hold_at line z xs ps i x hold l h)

pub holds_set : (line : Line) (z : ℕ) (xs : List Controlled) (ps : List Points) (i : ℕ) (x : Controlled) (p : Points) → HoldsAre line z xs ps → IsHold line z x p → HoldsAre line z (set xs i x) (set ps i p)
unfolding HoldsAre
holds_set line z [] [] i x p h k = tt
holds_set line z [] (q ∷ qs) i x p h k = absurd h
holds_set line z (y ∷ ys) [] i x p h k = absurd h
holds_set line z (y ∷ ys) (q ∷ qs) zero x p h k = (k, h.1)
holds_set line z (y ∷ ys) (q ∷ qs) (suc i) x p h k = (h.0, holds_set line z ys qs i x p h.1 k)

pub holds_insert : (line : Line) (z : ℕ) (xs : List Controlled) (ps : List Points) (i : ℕ) (x : Controlled) (p : Points) → HoldsAre line z xs ps → IsHold line z x p → HoldsAre line z (insert xs i x) (insert ps i p)
unfolding HoldsAre
holds_insert line z [] [] zero x p h k = (k, tt)
holds_insert line z [] [] (suc i) x p h k = (k, tt)
holds_insert line z [] (q ∷ qs) i x p h k = absurd h
holds_insert line z (y ∷ ys) [] i x p h k = absurd h
holds_insert line z (y ∷ ys) (q ∷ qs) zero x p h k = (k, h)
holds_insert line z (y ∷ ys) (q ∷ qs) (suc i) x p h k = (h.0, holds_insert line z ys qs i x p h.1 k)

-- a train whose way stays
hold_stays : (line : Line) (z : ℕ) (x y : Controlled) (p : Points) → y.way ≡ x.way → IsHold line z x p → IsHold line z y p
hold_stays line z x y p w h point = h point ∙ ap (λ (way : PlacedWay). nat_eq (owner line point) z && path_has (layout line) way.path point) (sym w)

pub holds_mapped : (line : Line) (z : ℕ) (f : Controlled → Controlled) (xs : List Controlled) (ps : List Points) → ((x : Controlled) → (f x).way ≡ x.way) → HoldsAre line z xs ps → HoldsAre line z (map f xs) ps
unfolding HoldsAre
holds_mapped line z f [] [] w h = tt
holds_mapped line z f [] (p ∷ ps) w h = absurd h
holds_mapped line z f (x ∷ xs) [] w h = absurd h
holds_mapped line z f (x ∷ xs) (p ∷ ps) w h = (hold_stays line z x (f x) p (w x) h.0, holds_mapped line z f xs ps w h.1)

pub holds_stay : (line : Line) (z : ℕ) (xs : List Controlled) (ps : List Points) (i : ℕ) (d y : Controlled) → y.way ≡ (get_or xs i d).way → HoldsAre line z xs ps → HoldsAre line z (set xs i y) ps
unfolding HoldsAre
holds_stay line z [] [] i d y w h = tt
holds_stay line z [] (p ∷ ps) i d y w h = absurd h
holds_stay line z (x ∷ xs) [] i d y w h = absurd h
holds_stay line z (x ∷ xs) (p ∷ ps) zero d y w h = (hold_stays line z x y p w h.0, h.1)
holds_stay line z (x ∷ xs) (p ∷ ps) (suc i) d y w h = (h.0, holds_stay line z xs ps i d y w h.1)
