-- What a delivery stands for is takes.
use Rattle.std.proofs.Common.{◌≡◌, ℕ, zero, suc, ◌+◌, List, [], ◌∷◌, Bool, true, false, refl, ◌∙◌}
use Rattle.std.proofs.lemmas.Bool.{and_from}
use Rattle.std.proofs.lemmas.List.Folds.{list_all-append}
use Rattle.std.specs.Prelude.{not, filter, flat_map}
use Rattle.std.specs.List.{list_all}
use Rattle.list_laws.proofs.By_test.{by_test}
use Rattle.definitions.specs.declared.event.Event.{Event}
use Rattle.definitions.specs.declared.event.Event.TheVariants.{Take}
use Rattle.definitions.specs.Track.{Line}
use Rattle.definitions.specs.Story.{Story}
use Rattle.definitions.specs.Steps.{takes_from, due, sends_to, takes_lost, actors, deliveries}
use Rattle.event_laws.proofs.Delivery_admitted.{all_filtered}

abbrev pub is_take : Event → Bool
is_take (Take to from number) = true
is_take _ = false

takes_take : (to from number n : ℕ) → list_all is_take (takes_from to from number n) ≡ true
unfolding takes_from
takes_take to from number zero = refl
takes_take to from number (suc n) = takes_take to from (number + 1) n

senders_take : (line : Line) (to : ℕ) (s : Story) (senders : List ℕ) → list_all is_take (flat_map (due to s) (filter (sends_to line to) senders)) ≡ true
senders_take line to s [] = refl
senders_take line to s (from ∷ senders) = by_test (sends_to line to from)
    (λ y. rw y (list_all-append is_take (due to s from) (flat_map (due to s) (filter (sends_to line to) senders)) ∙ and_from _ _ (takes_take to from _ _) (senders_take line to s senders)))
    (λ n. rw n (senders_take line to s senders))

pub delivery_takes : (line : Line) (to : ℕ) (s : Story) → list_all is_take (deliveries line s to) ≡ true
delivery_takes line to s = all_filtered is_take (λ e. not (takes_lost s e)) (flat_map (due to s) (filter (sends_to line to) actors)) (senders_take line to s actors)
