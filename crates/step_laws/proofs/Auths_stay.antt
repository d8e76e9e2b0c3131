-- What is kept of the authorities that were issued before a transition at which the longest one is not cut.
use Rattle.std.proofs.Common.{◌≡◌, ℕ, ◌≤◌, ◌∷◌, true, false, sym, ◌∙◌, arith}
use Rattle.track_points.specs.Points.{steps_to}
use Rattle.definitions.specs.declared.message.Msg.{Msg}
use Rattle.definitions.specs.declared.message.Msg.TheVariants as msg
use Rattle.definitions.specs.Track.{Line, seg_len}
use Rattle.definitions.specs.Story.{Transition, Story}
use Rattle.definitions.specs.World.{is_declared, last_number, Authority, is_auth}
use Rattle.definitions.specs.Longest.{longest_end, longest_route}
use Rattle.journey_laws.proofs.Motion.{place}
use Rattle.event_laws.proofs.Issued_all.{AllIssued, all_weaker}
use Rattle.event_laws.proofs.Last_quiet.{last_grows}
use Rattle.journey_laws.proofs.Invariant.{AuthorityIs, AuthIs, AuthTrue, Authorized}
use Rattle.journey_laws.proofs.First_steps.{FirstSteps, end_same}
use Rattle.step_laws.proofs.Account_goes.{counted_rises, read_stays}
use Rattle.step_laws.proofs.Authority_stays.{off_before, path_stays, authority_stays, first_is_stays}

pub record AuthsStay (line : Line) (t : ℕ) (s : Story) (x : Transition) : Type 0 where
  pub moved : is_declared t s ≡ true → place t s ≤ place t (x ∷ s)
  pub first : FirstSteps line t x s
  pub ends : longest_end line t s ≤ longest_end line t (x ∷ s)
  pub onward : steps_to (seg_len line) (longest_route line t (x ∷ s)) (longest_end line t s) ≡ longest_route line t s

module _ (line : Line) (t : ℕ) (s : Story) (x : Transition) (k : Authorized line t s) (stay : AuthsStay line t s x) where
  pub held_stays : (a : Authority) → AuthorityIs line t s a → AuthorityIs line t (x ∷ s) a
  held_stays a i = authority_stays line t x s stay.first a (stay.moved i.declared) stay.ends stay.onward i

  module _ (numbers : last_number t s ≤ last_number t (x ∷ s)) where
    auth_stays : (number : ℕ) (a : Authority) → AuthIs line t s number a → AuthIs line t (x ∷ s) number a
    auth_stays number a i =
        let known = i.known in
        let more = last_grows t x s in
        let rises = counted_rises line t x s in
        record {
          path = path_stays line t x s stay.first a (stay.moved i.path.declared) i.path;
          ahead = λ h. held_stays a (i.ahead (omega (arith, h, numbers)));
          exact = λ h. end_same line t x s stay.first a i.path.mark ∙ i.exact (omega (arith, h, rises)) ∙ sym (read_stays line t x s k stay.first number known h);
          positive = i.positive;
          known = omega (arith, known, more);
          first = λ off one. first_is_stays line t x s a i.path.declared (i.first (off_before t x s off) one);
        }

    true_stays : (m : Msg) → AuthTrue line t s m → AuthTrue line t (x ∷ s) m
    true_stays (msg.Auth u number mark path) h = λ y. auth_stays number (record { mark = mark; path = path }) (h y)
    true_stays _ h = tt

    pub auths_stay : AllIssued (AuthTrue line t s) s → AllIssued (AuthTrue line t (x ∷ s)) s
    auths_stay h = all_weaker (AuthTrue line t s) (AuthTrue line t (x ∷ s)) true_stays s h

-- of another message than an authority of the train all is true
pub none_true : (line : Line) (t : ℕ) (s : Story) (m : Msg) → is_auth t m ≡ false → AuthTrue line t s m
none_true line t s (msg.Auth u number mark path) h = λ y. absurd (let c : true ≡ false = sym y ∙ h in cc)
none_true line t s _ h = tt
