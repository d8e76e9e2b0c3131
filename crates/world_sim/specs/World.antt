-- What the world keeps of its trains besides the definitions, and what its calls ask and answer.
use Rattle.std.specs.Prelude.{ℕ, ◌≡◌, ◌<◌, ◌≤◌, ◌+◌, ◌^◌, Bool, true, false, List, [], ◌∷◌, length, nat_eq, Option, Some, None, Result, Ok, Err, ⊤}
use Rattle.std.specs.List.{list_all, position}
use Rattle.track_points.specs.declared.ids.TrainId.{TrainId}
use Rattle.definitions.specs.declared.event.Event.{Event}
use Rattle.definitions.specs.declared.event.Event.TheVariants.{Train, Step}
use Rattle.definitions.specs.Track.{Line}
use Rattle.definitions.specs.Rules.{is_line}
use Rattle.definitions.specs.Premises.{ascending}
use Rattle.definitions.specs.Steps.{Effect, nothing, answers}
use Rattle.plain_state.specs.declared.WorldTrain.{WorldTrain}
use Rattle.plain_state.specs.World.{PlainWorld}
use Rattle.onboard.specs.declared.onboard.Verdict.{Verdict}
use Rattle.onboard.specs.declared.onboard.Verdict.TheVariants.{Taken, Refused, Repeat}
use Rattle.world_sim.specs.declared.world.Premise.{Premise}
use Rattle.world_sim.specs.Places.{place_of}
use Rattle.world_sim.specs.Trains.{is_kept, IsTrainOn}

abbrev pub is_train : ℕ → WorldTrain → Bool
is_train t x = nat_eq x.id.0 t

-- what a world keeps of its trains, and that the places tell where the first of each id stands
pub record AreKept (places : List ℕ) (trains : List WorldTrain) : Type 0 where
  pub each : list_all is_kept trains ≡ true
  pub placed : (t : ℕ) → t < 65536 → place_of places t ≡ position (is_train t) trains

-- trains that ascend, from whichever is the first
abbrev pub ascends : List (TrainId × ℕ) → Bool
ascends [] = true
ascends (x ∷ moves) = ascending x.0.0 moves

-- a declaration needs room for one more train, and its speed has a stop; a step, a clock that does not run over
abbrev pub StepFits : PlainWorld → Event → Type 0
StepFits w (Train t long error speed kind) = (length w.trains < 256) × (speed ≤ 60000)
StepFits w (Step ms moves) = w.clock + ms < 2 ^ 63
StepFits w _ = ⊤

-- what the world needs of an event's form
abbrev pub IsBuilt : Event → Type 0
IsBuilt (Train t long error speed kind) = 1 ≤ long
IsBuilt (Step ms moves) = ascending 0 moves.items ≡ true
IsBuilt _ = ⊤

-- an event goes where no premise is broken, and is refused by the number of the one that is
abbrev pub Admits : ℕ → Result ⊤ Premise → Type 0
Admits number (Ok _) = number ≡ 0
Admits number (Err premise) = (number ≡ premise.0) × (0 < premise.0)

unfoldable pub AllOn : Line → List WorldTrain → Type 0
AllOn line [] = ⊤
AllOn line (x ∷ xs) = IsTrainOn line x × AllOn line xs

-- the world's trains are on its line, each with track before it up to the limit that it holds
pub record IsWorldOn (line : Line) (w : PlainWorld) : Type 0 where
  pub valid : is_line line ≡ true
  pub each : AllOn line w.trains

-- the answer to an authority of a zone, by what the train decided
abbrev pub answering : ℕ → TrainId → ℕ → ℕ → Option Verdict → Effect
answering time t zone number None = nothing
answering time t zone number (Some Taken) = answers time t zone number true
answering time t zone number (Some Refused) = answers time t zone number false
answering time t zone number (Some (Repeat last was_taken)) = answers time t zone last was_taken
