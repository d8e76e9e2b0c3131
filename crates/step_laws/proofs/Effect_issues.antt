-- What an event issues of authorities of a train.
use Rattle.std.proofs.Common.{◌≡◌, ℕ, suc, [], Some, true, false, refl, sym, ◌∙◌, subst}
use Rattle.std.proofs.lemmas.Bool.{eqb-true, and_parts}
use Rattle.std.specs.Prelude.{nat_eq}
use Rattle.list_laws.proofs.By_test.{by_test}
use Rattle.definitions.specs.declared.event.Event.{Event}
use Rattle.definitions.specs.declared.event.Event.TheVariants.{Take}
use Rattle.definitions.specs.declared.message.Msg.{Msg}
use Rattle.definitions.specs.declared.message.Msg.TheVariants as msg
use Rattle.definitions.specs.declared.message.Order.{Order}
use Rattle.definitions.specs.declared.message.Order.TheVariants.{Close, Open, Short}
use Rattle.definitions.specs.Track.{Line}
use Rattle.definitions.specs.Story.{Transition, Story}
use Rattle.definitions.specs.World.{goes_on}
use Rattle.definitions.specs.Steps.{zone_step, transition, effects}
use Rattle.definitions.specs.Safe.{IsLineOfOneZone}
use Rattle.event_laws.proofs.By_does.{by_does, told_none, take_actors, take_issued}
use Rattle.definitions.specs.Control.{controls}
use Rattle.definitions.specs.Fold.{account}
use Rattle.definitions.specs.Zones.{zone_id}
use Rattle.step_laws.proofs.Taken_counts.{answers, takes_some, cuts, none_taken}
use Rattle.event_laws.proofs.Issued_all.{no_issue}
use Rattle.event_laws.proofs.Admitted.{Admitted}
use Rattle.journey_laws.proofs.Invariant.{RequestTrue, Invariant}
use Rattle.journey_laws.proofs.Zone_only.{actor_zone}
use Rattle.event_laws.proofs.Zone_issues.{report_none, train_of, zone_other, world_none}
use Rattle.step_laws.proofs.Issues.{Issues, quiet, cut, unanswered_quiet, entry_issues, ask_issues, time_issues, order_issues}
use Rattle.step_laws.proofs.Effect_took_is.{effect_cut}

-- A zone's take, for any train.
module _ (line : Line) (s : Story) (one : IsLineOfOneZone line) (invariant : (t : ℕ) → Invariant line t s) (e : Event) (still : (t : ℕ) → goes_on t e ≡ false) (t from : ℕ) where
  abbrev z : ℕ
  z = zone_id line

  abbrev step : Msg → Transition
  step q = transition e (zone_id line) (Some (from, q)) (zone_step line (zone_id line) from s q)

  -- what is issued is of the train that the message names
  its_own : (q : Msg) → answers t (Some (from, q)) ≡ false → Issues line (train_of q).0 s (step q) → Issues line t s (step q)
  its_own q none own = by_test (nat_eq (train_of q).0 t)
      (λ y. subst (λ (n : ℕ). Issues line n s (step q)) (eqb-true (train_of q).0 t y) own)
      (λ n. unanswered_quiet line t s (step q) none (zone_other t line (zone_id line) from s q n))

  order_of : (time : ℕ) (order : Order) → Issues line t s (transition e (zone_id line) (Some (from, msg.Order time order)) (zone_step line (zone_id line) from s (msg.Order time order)))
  order_of time (Short u st off) =
      its_own (msg.Order time (Short u st off)) refl (order_issues line s one e still from u (invariant u.0).motion (invariant u.0).authorized (invariant u.0).fronts time off st)
  order_of time (Close seg) = unanswered_quiet line t s (step (msg.Order time (Close seg))) refl (no_issue t [] refl)
  order_of time (Open seg) = unanswered_quiet line t s (step (msg.Order time (Open seg))) refl (no_issue t [] refl)
  order_of time order = unanswered_quiet line t s (step (msg.Order time order)) refl (no_issue t [] refl)

  pub zone_issues : (q : Msg) → ((u : ℕ) → RequestTrue line u s q) → cuts line t (transition e (zone_id line) (Some (from, q)) (zone_step line (zone_id line) from s q)) s ≡ false
      → Issues line t s (transition e (zone_id line) (Some (from, q)) (zone_step line (zone_id line) from s q))
  zone_issues (msg.EntryAsk u time long error speed equipped st) asked uncut =
      its_own (msg.EntryAsk u time long error speed equipped st) refl
      (entry_issues line s one e still from u (invariant u.0).motion (invariant u.0).authorized (invariant u.0).fronts time long error speed equipped st (asked u.0))
  zone_issues (msg.Ask u time steps to) asked uncut =
      its_own (msg.Ask u time steps to) refl (ask_issues line s one e still from u (invariant u.0).motion (invariant u.0).authorized (invariant u.0).fronts time steps to)
  zone_issues (msg.Time time u) asked uncut =
      its_own (msg.Time time u) refl (time_issues line s one e still from u (invariant u.0).motion (invariant u.0).authorized (invariant u.0).fronts time)
  zone_issues (msg.Report u time mark offset integrity) asked uncut =
      quiet (no_issue t (step (msg.Report u time mark offset integrity)).issued (report_none line z s u (msg.Report u time mark offset integrity))) uncut
  zone_issues (msg.Order time order) asked uncut = order_of time order
  zone_issues _ asked uncut = quiet (no_issue t [] refl) uncut

pub effect_issues : (line : Line) (s : Story) → IsLineOfOneZone line → ((t : ℕ) → Invariant line t s) → (t : ℕ) (e : Event) → Admitted line s e → Issues line t s (effects line s e)
effect_issues line s one invariant t e a = by_test (cuts line t (effects line s e) s)
    (λ y. cut (effect_cut line s t (invariant t).authorized e a (controlled y) y))
    (λ n. by_does line s e (λ x. cuts line t x s ≡ false → Issues line t s x)
    (λ b x i uncut. quiet (told_none t s e x.issued i) uncut)
    (λ from m k uncut. quiet (world_none t line s from m) uncut)
    (λ z from m k.
    let take = Take (suc z) from k.number in
    subst (λ (y : ℕ). cuts line t (transition take y (Some (from, m)) (zone_step line y from s m)) s ≡ false → Issues line t s (transition take y (Some (from, m)) (zone_step line y from s m)))
    (sym (actor_zone line z one (take_actors line s e (suc z) from m a k).1.0))
    (zone_issues line s one invariant take (λ u. refl) t from m (λ u. take_issued (RequestTrue line u s) s e (suc z) from m (invariant u).authorized.requests k))) n)
  where
    -- of a train that is not controlled no shrink is unanswered
    controlled : cuts line t (effects line s e) s ≡ true → controls (zone_id line) t s ≡ true
    controlled y = by_test (controls (zone_id line) t s)
        (λ c. c)
        (λ n. absurd (let b = (and_parts (nat_eq (effects line s e).actor (zone_id line)) (takes_some t (account line t s) (effects line s e).took) y).1 in
        let z = none_taken t (account line t s) (effects line s e).took ((invariant t).authorized.unshrunk n) in
        let d : true ≡ false = sym b ∙ z in cc))
