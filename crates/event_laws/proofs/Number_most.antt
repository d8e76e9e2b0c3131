-- A number of an authority is at most the count of events.
use Rattle.std.proofs.Common.{◌≡◌, ℕ, suc, ◌+◌, ◌≤◌, List, [], ◌∷◌, length, false, ap, arith}
use Rattle.std.proofs.lemmas.Bool.{eqb-true}
use Rattle.std.specs.Prelude.{nat_eq}
use Rattle.list_laws.proofs.By_test.{by_test}
use Rattle.track_points.specs.declared.path.Path.{Path}
use Rattle.definitions.specs.declared.event.Event.{Event}
use Rattle.definitions.specs.declared.message.Msg.{Msg}
use Rattle.definitions.specs.declared.message.Msg.TheVariants as msg
use Rattle.definitions.specs.declared.message.Order.{Order}
use Rattle.definitions.specs.declared.message.Order.TheVariants.{Short}
use Rattle.definitions.specs.Track.{Line}
use Rattle.definitions.specs.Story.{Story, greatest_in, greatest_issued}
use Rattle.definitions.specs.World.{is_auth, auth_number}
use Rattle.definitions.specs.Control.{last_issued}
use Rattle.definitions.specs.Steps.{effects, story_of, world_takes}
use Rattle.event_laws.proofs.Issued_all.{AllIn, in_all_weaker, NoAuth}
use Rattle.event_laws.proofs.Last_quiet.{number_none}
use Rattle.event_laws.proofs.Zone_issues.{train_of, order_asks, asks, zone_each, world_none}
use Rattle.event_laws.proofs.By_does.{by_does, told_none}

in_most : (number : Msg → ℕ) (n : ℕ) (issued : List (ℕ × Msg)) → AllIn (λ m. number m ≤ n) issued → greatest_in number issued ≤ n
unfolding AllIn greatest_in
in_most number n [] a = omega arith
in_most number n (x ∷ issued) a = let h = a.0 in let i = in_most number n issued a.1 in omega (arith, h, i)

none_most : (t n : ℕ) (issued : List (ℕ × Msg)) → NoAuth t issued → AllIn (λ m. auth_number t m ≤ n) issued
none_most t n issued a = in_all_weaker (λ m. is_auth t m ≡ false) (λ m. auth_number t m ≤ n) (λ m h. let z = number_none t m h in omega (arith, z)) issued a

order_few : (order : Order) → order_asks order ≤ 1
order_few (Short u st off) = omega arith
order_few _ = omega arith

asks_few : (q : Msg) → asks q ≤ 1
asks_few (msg.EntryAsk u time long error speed equipped step) = omega arith
asks_few (msg.Ask u time steps to) = omega arith
asks_few (msg.Order time order) = order_few order
asks_few _ = omega arith

granted_most : (t : ℕ) (s : Story) (q : Msg) (number mark : ℕ) (path : Path) → number ≤ last_issued (train_of q).0 s + asks q → auth_number t (msg.Auth (train_of q) number mark path) ≤ last_issued t s + 1
granted_most t s q number mark path most = by_test (nat_eq (train_of q).0 t)
    (λ y.
    let same = ap (λ (n : ℕ). last_issued n s) (eqb-true (train_of q).0 t y) in
    let few = asks_few q in
    rw y (omega (arith, most, same, few)))
    (λ n. rw n (omega arith))

effect_most : (t : ℕ) (line : Line) (s : Story) (e : Event) → AllIn (λ m. auth_number t m ≤ last_issued t s + 1) (effects line s e).issued
effect_most t line s e = by_does line s e (λ x. AllIn (λ m. auth_number t m ≤ last_issued t s + 1) x.issued)
    (λ a x i. none_most t (last_issued t s + 1) x.issued (told_none t s e x.issued i))
    (λ from m k. none_most t (last_issued t s + 1) (world_takes line s from m).issued (world_none t line s from m))
    (λ z from m k. zone_each (λ m. auth_number t m ≤ last_issued t s + 1) line (suc z) from s m (granted_most t s m))

pub number_most : (t : ℕ) (line : Line) (es : List Event) → last_issued t (story_of line es) ≤ length es
unfolding story_of greatest_issued
number_most t line [] = omega arith
number_most t line (e ∷ es) =
    let i = number_most t line es in
    let n = in_most (auth_number t) (last_issued t (story_of line es) + 1) (effects line (story_of line es) e).issued (effect_most t line (story_of line es) e) in
    omega (arith, i, n)
