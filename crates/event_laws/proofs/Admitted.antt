-- What an admitted event keeps to.
use Rattle.std.proofs.Common.{◌≡◌, Bool, true, false, ◌&&◌, not, refl, if◌then◌else◌}
use Rattle.std.specs.Prelude.{nat_eq}
use Rattle.std.proofs.lemmas.Bool.{and_parts, not-true}
use Rattle.definitions.specs.declared.event.Event.{Event}
use Rattle.definitions.specs.Track.{Line}
use Rattle.definitions.specs.Story.{Story}
use Rattle.definitions.specs.Numbers.{least}
use Rattle.definitions.specs.Premises.{built, too_many, reports_rightly, moves_rightly, stops_rightly, enters_rightly, takes_rightly, premise_of, admits}

pub record Admitted (line : Line) (s : Story) (e : Event) : Type 0 where
  pub form : built line s e ≡ true
  pub room : too_many s e ≡ false
  pub reporting : reports_rightly line s e ≡ true
  pub moving : moves_rightly s e ≡ true
  pub stopping : stops_rightly line s e ≡ true
  pub entering : enters_rightly s e ≡ true
  pub taking : takes_rightly s e ≡ true

-- five tests of which none fails
record AllFive (a b c d e : Bool) : Type 0 where
  first : a ≡ true
  second : b ≡ true
  third : c ≡ true
  fourth : d ≡ true
  fifth : e ≡ true

none_broken : (a b c d e : Bool)
    → nat_eq (if not a then 1 else if not b then 2 else if not c then 4 else if not d then 5 else if not e then 6 else 0) 0 ≡ true
    → AllFive a b c d e
none_broken true true true true true h = record { first = refl; second = refl; third = refl; fourth = refl; fifth = refl }
none_broken true true true true false h = absurd cc
none_broken true true true false e h = absurd cc
none_broken true true false d e h = absurd cc
none_broken true false c d e h = absurd cc
none_broken false b c d e h = absurd cc

pub admitted : (line : Line) (s : Story) (e : Event) → admits line s e ≡ true → Admitted line s e
unfolding least
admitted line s e h =
    let k = and_parts (built line s e) (not (too_many s e) && nat_eq (premise_of line s e) 0) h in
    let m = and_parts (not (too_many s e)) (nat_eq (premise_of line s e) 0) k.1 in
    let r = none_broken (reports_rightly line s e) (moves_rightly s e) (stops_rightly line s e) (enters_rightly s e) (takes_rightly s e) m.1 in
    record {
      form = k.0;
      room = not-true (too_many s e) m.0;
      reporting = r.first;
      moving = r.second;
      stopping = r.third;
      entering = r.fourth;
      taking = r.fifth;
    }
