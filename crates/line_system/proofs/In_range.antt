-- Fields of messages stay in their ranges.
use Rattle.std.proofs.Common.{◌≡◌, ℕ, Option, Some, true, ap, arith}
use Rattle.std.specs.Prelude.{slice_get, is_some}
use Rattle.list_laws.proofs.By_test.{eq_self}
use Rattle.definitions.specs.declared.message.Msg.{Msg}
use Rattle.definitions.specs.declared.message.Msg.TheVariants as msg
use Rattle.definitions.specs.Track.{Line}
use Rattle.definitions.specs.Story.{Story, sent}
use Rattle.definitions.specs.World.{Facts, facts_or, facts_of, is_declared, long_of}
use Rattle.event_laws.proofs.Issued_all.{issued_all}
use Rattle.journey_laws.proofs.Invariant.{Invariant, EntryIs, RequestTrue}
use Rattle.zone_state.specs.Zone.{InRange}

long_is : (t : ℕ) (s : Story) (f : Facts) → facts_of t s ≡ Some f → (is_declared t s ≡ true) × (long_of t s ≡ f.long)
long_is t s f h = (ap (λ (x : Option Facts). is_some x) h, ap (λ (x : Option Facts). (facts_or x).long) h)

-- a message that was sent has its fields in their ranges
pub in_range : (line : Line) (s : Story) (from to k : ℕ) (m : Msg) → ((t : ℕ) → Invariant line t s) → slice_get (sent from to s) k ≡ Some m → InRange m
in_range line s from to k (msg.EntryAsk u time long error speed equipped step) invariant h =
    let true_ : RequestTrue line u.0 s (msg.EntryAsk u time long error speed equipped step) = issued_all (RequestTrue line u.0 s) from to s k (msg.EntryAsk u time long error speed equipped step) (invariant u.0).authorized.requests h in
    let is : EntryIs line u.0 s long error speed step = true_ (eq_self u.0) in
    let f = long_is u.0 s (record { long = long; error = error; speed = speed }) is.facts in
    let some = (invariant u.0).authorized.long_some f.0 in
    omega arith
in_range line s from to k _ invariant h = tt
