-- A train put among others.
use Rattle.std.proofs.Common.{◌≡◌, ℕ, suc, zero, ◌<◌, ◌≤◌, true, false, List, [], ◌∷◌, length, get_or, refl, ap, arith, nat_lt}
use Rattle.std.specs.List.{insert}
use Rattle.std.proofs.lemmas.Bool.Decides.{nat_tests}
use Rattle.definitions.specs.Track.{Line}
use Rattle.plain_state.specs.declared.Controlled.{Controlled}
use Rattle.plain_state.specs.Zone.{placed_train}
use Rattle.zone_trains.specs.Trains.{TrainFits, AllFit}

-- after those of no greater id
pub placed_is : (x : Controlled) (xs : List Controlled) (i : ℕ) → i ≤ length xs → ((k : ℕ) (d : Controlled) → k < i → (get_or xs k d).id.0 ≤ x.id.0)
    → ((k : ℕ) (d : Controlled) → i ≤ k → k < length xs → x.id.0 < (get_or xs k d).id.0) → insert xs i x ≡ placed_train x xs
unfolding placed_train
placed_is x [] zero l below rest = refl
placed_is x [] (suc i) l below rest = absurd (omega arith)
placed_is x (y ∷ ys) zero l below rest =
    let more = rest 0 y (omega arith) (omega arith) in let a : nat_lt x.id.0 y.id.0 ≡ true = grind (arith, nat_tests) in rw a refl
placed_is x (y ∷ ys) (suc i) l below rest =
    let less = below 0 y (omega arith) in
    let b : nat_lt x.id.0 y.id.0 ≡ false = grind (arith, nat_tests) in
    rw b (ap (λ (zs : List Controlled). y ∷ zs) (placed_is x ys i (omega arith) (λ k d h. below (suc k) d (omega arith)) (λ k d h m. rest (suc k) d (omega arith) (omega arith))))

pub fit_placed : (line : Line) (clock : ℕ) (x : Controlled) (xs : List Controlled) (i : ℕ) → TrainFits line clock x → AllFit line clock xs → AllFit line clock (insert xs i x)
unfolding AllFit
fit_placed line clock x [] zero h f = (h, tt)
fit_placed line clock x [] (suc i) h f = (h, tt)
fit_placed line clock x (y ∷ ys) zero h f = (h, f)
fit_placed line clock x (y ∷ ys) (suc i) h f = (f.0, fit_placed line clock x ys i h f.1)
