-- The zone of a line of one zone, and what a system keeps at its start.
use Rattle.std.proofs.Common.{◌≡◌, ℕ, zero, suc, ◌<◌, ◌≤◌, Bool, true, false, ◌&&◌, List, length, [], ◌∷◌, refl, arith, nat_eq, count_by, Some, None}
use Rattle.std.specs.List.{list_any}
use Rattle.std.proofs.lemmas.Bool.Decides.{nat_tests}
use Rattle.list_laws.proofs.By_test.{by_test}
use Rattle.track_points.specs.declared.ids.ZoneId.{ZoneId}
use Rattle.definitions.specs.declared.item.Item.TheVariants.{Zone, Segment, Joint, Portal, Buffer, Brake, Silent}
use Rattle.definitions.specs.Track.{Line, has_zone}
use Rattle.definitions.specs.Numbers.{least}
use Rattle.definitions.specs.Rules.{is_any_zone, is_line, builds, finish_rule}
use Rattle.definitions.specs.Safe.{Kept}
use Rattle.definitions.specs.Story.{ever, messages}
use Rattle.definitions.specs.Steps.{story_of, taken_most}
use Rattle.definitions.specs.Zones.{zone_id}
use Rattle.plain_state.specs.Plain.{world_start, zone_start, plain_start}
use Rattle.zone_state.specs.Zone.{ZoneKept, IsZoneOn}
use Rattle.world_sim.specs.World.{AllOn}
use Rattle.line_state.specs.Losses.{lost_at}
use Rattle.line_state.specs.State.{Tally, Parts, IsStart}
use Rattle.line_map.specs.Order.{count_below, IsZoneAt}
use Rattle.line_map.proofs.Segment_ok.{zone_ok}
use Rattle.journey_laws.proofs.Zone_only.{zone_only}
use Rattle.refinement_laws.proofs.Refines_step.{refines_start}
use Rattle.line_system.specs.Kept.{KeepsLost, IsKept}
use Rattle.line_system.proofs.Parts_refined.{same_refined}

pub zone_at : (line : Line) (k : ℕ) (z : ZoneId) → IsZoneAt line k (Some z) → count_by is_any_zone line ≤ 1 → z.0 ≡ zone_id line
zone_at line k z at one = zone_only line z.0 one at.0

has_first : (line : Line) → list_any is_any_zone line ≡ true → has_zone line (zone_id line) ≡ true
unfolding zone_id
has_first [] h = absurd cc
has_first (Zone z ∷ line) h = grind (arith, nat_tests)
has_first (Segment s z len ∷ line) h = has_first line h
has_first (Joint a b ∷ line) h = has_first line h
has_first (Portal a ∷ line) h = has_first line h
has_first (Buffer a ∷ line) h = has_first line h
has_first (Brake ticks runaway rate ∷ line) h = has_first line h
has_first (Silent ms ∷ line) h = has_first line h

counted : (test : ℕ → Bool) (z n : ℕ) → test z ≡ true → z < n → 0 < count_below test n
unfolding count_below
counted test z zero h k = absurd (omega arith)
counted test z (suc n) h k = by_test (test n)
    (λ a. rw a (omega arith))
    (λ a. rw a (counted test z n h (by_test (nat_eq z n)
    (λ b. absurd (grind (arith, nat_tests)))
    (λ b. grind (arith, nat_tests)))))

right : (a b : Bool) → (a && b) ≡ true → b ≡ true
right a b h = grind arith

some_zone : (line : Line) → is_line line ≡ true → list_any is_any_zone line ≡ true
unfolding finish_rule least
some_zone line v =
    let f = right (builds [] line) (nat_eq (finish_rule line) 0) v in
    by_test (list_any is_any_zone line)
    (λ a. a)
    (λ a. absurd (let g = rw a at f in cc))

pub no_zone_at : (line : Line) → is_line line ≡ true → IsZoneAt line 0 None → ⊥
no_zone_at line v at =
    let h = has_first line (some_zone line v) in
    let ok = zone_ok line v (zone_id line) h in
    let most : zone_id line < 17 = omega arith in
    let some = counted (has_zone line) (zone_id line) 17 h most in
    omega arith

abbrev pub parts_start : Line → Parts
parts_start line = record { world = world_start line; zone = zone_start (zone_id line); to_zone = []; to_world = [] }

no_loss : (line : Line) (from to : ℕ) (lost : List Bool) → length lost ≡ 200001 → ((n : ℕ) → lost_at lost n ≡ false) → KeepsLost lost from to (story_of line [])
unfolding story_of ever
no_loss line from to lost size none = record { size = size; agree = λ n h. none n }

pub starts : (line : Line) (k : Parts) (t : Tally) (zone : ZoneKept) → is_line line ≡ true → count_by is_any_zone line ≤ 1 → k ≡ parts_start line → IsStart t → IsZoneOn line zone → IsKept line [] k t zone
unfolding Kept story_of taken_most AllOn messages
starts line k t zone v one h none on = record {
  one_zone = record { valid = v; one = one };
  kept = tt;
  few = omega arith;
  refines = rw h (same_refined line [] (parts_start line) (plain_start line) (record { valid = v; one = one }) refl refl refl refl (refines_start line));
  taken_zone = none.by_zone;
  taken_world = none.by_world;
  lost_zone = no_loss line 0 (zone_id line) t.lost_to_zone none.size_zone none.lost_to_zone;
  lost_world = no_loss line (zone_id line) 0 t.lost_to_world none.size_world none.lost_to_world;
  count = none.messages;
  on_line = on;
  world_on = rw h (record { valid = v; each = tt });
}
