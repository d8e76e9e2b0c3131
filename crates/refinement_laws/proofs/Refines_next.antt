-- What a program that keeps the plain state may say of the story.
use Rattle.std.proofs.Common.{◌≡◌, ℕ, suc, ◌<◌, ◌≤◌, List, [], ◌∷◌, length, Some, true, refl, ap, subst, sym, ◌∙◌, arith}
use Rattle.std.specs.Prelude.{slice_get}
use Rattle.definitions.specs.declared.event.Event.{Event}
use Rattle.definitions.specs.declared.message.Msg.{Msg}
use Rattle.definitions.specs.Frames.{Fits}
use Rattle.track_points.specs.Points.{Point}
use Rattle.definitions.specs.Track.{Line, layout}
use Rattle.definitions.specs.Authority.{envelope}
use Rattle.plain_state.specs.declared.Controlled.{Controlled}
use Rattle.plain_state.specs.Zone.{find_controlled, envelope_has}
use Rattle.definitions.specs.Premises.{built, too_many, premise_of, admits}
use Rattle.definitions.specs.Steps.{Effect, effects, story_of}
use Rattle.definitions.specs.Safe.{IsLineOfOneZone, Kept}
use Rattle.definitions.specs.Zones.{zone_id}
use Rattle.plain_state.specs.Plain.{Plain, is_link, plain_effect, plain_next}
use Rattle.plain_state.specs.Admits.{plain_built, plain_too_many, plain_premise}
use Rattle.plain_state.specs.Refinement.{Refines}
use Rattle.event_laws.proofs.Issued_all.{AllIn, AllIssued}
use Rattle.event_laws.proofs.Admitted.{admitted}
use Rattle.safe_laws.proofs.Fits_story.{all_fit, fits_story}
use Rattle.journey_laws.proofs.Invariant.{Invariant}
use Rattle.refinement_laws.proofs.Premise_now.{built_now, too_many_now, premise_now}
use Rattle.refinement_laws.proofs.The_zone.{the_zone}
use Rattle.refinement_laws.proofs.Kept_story.{kept_story}
use Rattle.refinement_laws.proofs.Envelope_now.{envelope_now}
use Rattle.refinement_laws.proofs.Refines_step.{effect_now, refines_step}

-- that the invariant holds of every train after every list of kept events
abbrev pub AllInvariant : Line → Type 0
AllInvariant line = (t : ℕ) → (ts : List Event) → Kept line ts → Invariant line t (story_of line ts)

pub built_is : (line : Line) (es : List Event) (p : Plain) (e : Event) → IsLineOfOneZone line → Kept line es → Refines line (story_of line es) p → AllInvariant line → built line (story_of line es) e ≡ plain_built line p e
built_is line es p e one k refines invariant = built_now line (story_of line es) p refines (λ t. invariant t es k) e

pub too_many_is : (line : Line) (es : List Event) (p : Plain) (e : Event) → IsLineOfOneZone line → Kept line es → Refines line (story_of line es) p → AllInvariant line → too_many (story_of line es) e ≡ plain_too_many p e
too_many_is line es p e one k refines invariant = too_many_now line (story_of line es) p refines (λ t. invariant t es k) e

pub premise_is : (line : Line) (es : List Event) (p : Plain) (e : Event) → IsLineOfOneZone line → Kept line es → Refines line (story_of line es) p → AllInvariant line → built line (story_of line es) e ≡ true
    → premise_of line (story_of line es) e ≡ plain_premise p e
premise_is line es p e one k refines invariant h = premise_now line (story_of line es) p refines (λ t. invariant t es k) one e h

-- a story has one transition for each event
story_length : (line : Line) (es : List Event) → length (story_of line es) ≡ length es
unfolding story_of
story_length line [] = refl
story_length line (e ∷ es) = ap (λ (n : ℕ). suc n) (story_length line es)

story_short : (line : Line) (es : List Event) → length es < 100000000 → length (story_of line es) < 100000000
story_short line es h = subst (λ (n : ℕ). n < 100000000) (sym (story_length line es)) h

-- after an event that is admitted
sound_behind : (line : Line) (es : List Event) (e : Event) → Kept line es → admits line (story_of line es) e ≡ true → AllInvariant line → (t : ℕ) → Invariant line t (effects line (story_of line es) e ∷ story_of line es)
unfolding Kept story_of
sound_behind line es e k h invariant t = invariant t (e ∷ es) (h, k)

pub effect_is : (line : Line) (es : List Event) (p : Plain) (e : Event) → IsLineOfOneZone line → length es < 100000000 → Kept line es → admits line (story_of line es) e ≡ true → Refines line (story_of line es) p → AllInvariant line
    → ((effects line (story_of line es) e).issued ≡ (plain_effect line p e).issued) × ((effects line (story_of line es) e).lines ≡ (plain_effect line p e).lines)
effect_is line es p e one short k h refines invariant =
    let same = effect_now line (story_of line es) p one (story_short line es short) refines (λ t. invariant t es k) (kept_story line es k) e (admitted line (story_of line es) e h) (sound_behind line es e k h invariant) in
    (ap (λ (x : Effect). x.issued) same, ap (λ (x : Effect). x.lines) same)

pub refines_next : (line : Line) (es : List Event) (p : Plain) (e : Event) → IsLineOfOneZone line → length es < 100000000 → Kept line es → admits line (story_of line es) e ≡ true → Refines line (story_of line es) p → AllInvariant line
    → Refines line (story_of line (e ∷ es)) (plain_next line p e)
unfolding story_of
refines_next line es p e one short k h refines invariant =
    refines_step line (story_of line es) p e one (story_short line es short) (admitted line (story_of line es) e h) (kept_story line es k) refines (λ t. invariant t es k) (sound_behind line es e k h invariant)

-- a message on a link is in its ranges
pub link_fits : (line : Line) (es : List Event) (p : Plain) (from to j : ℕ) (m : Msg) → IsLineOfOneZone line → Kept line es → length es ≤ 10000000 → Refines line (story_of line es) p → is_link line to from ≡ true → slice_get (p.links from to) j ≡ Some m → Fits m
link_fits line es p from to j m one k few refines link is =
    fits_story line es from to j m one k few (ap (λ (ms : List Msg). slice_get ms j) (sym (refines.links from to link)) ∙ is)

-- and so is each that an admitted event issues
pub issued_fit : (line : Line) (es : List Event) (p : Plain) (e : Event) → IsLineOfOneZone line → length es < 10000000 → Kept line es → admits line (story_of line es) e ≡ true → Refines line (story_of line es) p → AllInvariant line
    → AllIn Fits (plain_effect line p e).issued
unfolding story_of Kept AllIssued
issued_fit line es p e one short k h refines invariant =
    let all = all_fit line (e ∷ es) one (h, k) (omega (arith, short)) in
    subst (λ (issued : List (ℕ × Msg)). AllIn Fits issued) (effect_is line es p e one (omega (arith, short)) k h refines invariant).0 all.0

-- the envelope that the zone shows of a train
pub envelope_is : (line : Line) (es : List Event) (p : Plain) (t : ℕ) (x : Controlled) (point : Point) → IsLineOfOneZone line → Kept line es → Refines line (story_of line es) p → AllInvariant line → find_controlled t (p.zones (zone_id line)).trains ≡ Some x
    → envelope_has (layout line) x point ≡ envelope line (zone_id line) t (story_of line es) point
envelope_is line es p t x point one k refines invariant found = envelope_now line (story_of line es) (p.zones (zone_id line)) one.valid (the_zone line (story_of line es) p one refines) (λ u. invariant u es k) t x point found
