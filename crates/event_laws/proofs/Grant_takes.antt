-- Who grants a train its entry: a zone, by a take of the train's request, that does not know the train yet and issues an authority of it.
use Rattle.std.proofs.Common.{◌≡◌, ℕ, suc, Option, Some, Bool, true, false, ◌&&◌, refl, sym, ◌∙◌, subst}
use Rattle.std.proofs.lemmas.Bool.{eqb-true, and_parts}
use Rattle.std.specs.Prelude.{nat_eq}
use Rattle.std.specs.List.{list_any}
use Rattle.list_laws.proofs.By_test.{by_test}
use Rattle.track_points.specs.declared.ids.DirSeg.{DirSeg}
use Rattle.track_points.specs.declared.ids.TrainId.{TrainId}
use Rattle.definitions.specs.declared.event.Event.{Event}
use Rattle.definitions.specs.declared.event.Event.TheVariants.{Take}
use Rattle.definitions.specs.declared.message.Msg.{Msg}
use Rattle.definitions.specs.declared.message.Msg.TheVariants as msg
use Rattle.definitions.specs.Track.{Line, seg_len}
use Rattle.definitions.specs.Story.{Transition, Story}
use Rattle.definitions.specs.World.{is_auth, enters}
use Rattle.definitions.specs.Control.{grants_entry, asks_entry, controls, knows, knows_most}
use Rattle.definitions.specs.Authority.{holder_of}
use Rattle.definitions.specs.Steps.{world_takes, zone_entry, zone_takes, zone_step, transition, effects}
use Rattle.event_laws.proofs.Controls_same.{controls_knows}
use Rattle.event_laws.proofs.Issued_all.{in_false_all, NoAuth}
use Rattle.event_laws.proofs.Zone_issues.{world_none}
use Rattle.event_laws.proofs.By_does.{by_does}

-- who grants entry acts, and issues an authority
pub granter : (y t : ℕ) (x : Transition) → grants_entry y t x ≡ true → (nat_eq x.actor y ≡ true) × (list_any (λ (i : ℕ × Msg). is_auth t i.1) x.issued ≡ true)
granter y t x h =
    let a = and_parts (nat_eq x.actor y) (asks_entry t x.took && list_any (λ (i : ℕ × Msg). is_auth t i.1) x.issued) h in
    (a.0, (and_parts (asks_entry t x.took) (list_any (λ (i : ℕ × Msg). is_auth t i.1) x.issued) a.1).1)

pub quiet_grants : (y t : ℕ) (x : Transition) → NoAuth t x.issued → grants_entry y t x ≡ false
quiet_grants y t x quiet = by_test (grants_entry y t x)
    (λ h. absurd (let c : true ≡ false = sym (granter y t x h).1 ∙ in_false_all (is_auth t) x.issued quiet in cc))
    (λ n. n)

entry_grants : (z : ℕ) (known full : Bool) (room : ℕ) (u : TrainId) (long : ℕ) (step : DirSeg) (holder : Option ℕ) (t : ℕ)
    → list_any (λ (x : ℕ × Msg). is_auth t x.1) (zone_entry z known full room u long step holder).issued ≡ true → known ≡ false
entry_grants z false full room u long step holder t h = refl
entry_grants z true full room u long step holder t h = absurd cc

no_grant : (a b : Bool) → (a && (false && b)) ≡ true → false ≡ true
no_grant true b h = h
no_grant false b h = h

zone_grants : (line : Line) (s : Story) (e : Event) (z t y from : ℕ) (m : Msg) → grants_entry z t (transition e (suc y) (Some (from, m)) (zone_step line (suc y) from s m)) ≡ true → knows z t s ≡ false
zone_grants line s e z t y from (msg.EntryAsk u time long error speed equipped step) h =
    let issued = (zone_entry (suc y) (knows (suc y) u.0 s) (knows_most (suc y) s) (seg_len line step.seg.0) u long step (holder_of line (suc y) s step.seg.0)).issued in
    let k = and_parts (nat_eq (suc y) z) (nat_eq u.0 t && list_any (λ (x : ℕ × Msg). is_auth t x.1) issued) h in
    let l = and_parts (nat_eq u.0 t) (list_any (λ (x : ℕ × Msg). is_auth t x.1) issued) k.1 in
    let n = entry_grants (suc y) (knows (suc y) u.0 s) (knows_most (suc y) s) (seg_len line step.seg.0) u long step (holder_of line (suc y) s step.seg.0) t l.1 in
    subst (λ (v : ℕ). knows v t s ≡ false) (eqb-true (suc y) z k.0) (subst (λ (v : ℕ). knows (suc y) v s ≡ false) (eqb-true u.0 t l.0) n)
zone_grants line s e z t y from m h = absurd (let c = no_grant (nat_eq (suc y) z) (list_any (λ (x : ℕ × Msg). is_auth t x.1) (zone_takes line (suc y) from s m).issued) h in cc)

-- an event that grants entry is a take, by a zone that does not control the train
pub grant_takes : (line : Line) (s : Story) (e : Event) (z t : ℕ) → grants_entry z t (effects line s e) ≡ true → (controls z t s ≡ false) × (enters t (effects line s e).event ≡ false)
grant_takes line s e z t = by_does line s e (λ x. grants_entry z t x ≡ true → (controls z t s ≡ false) × (enters t x.event ≡ false))
    (λ a x i h. absurd (let c = no_grant (nat_eq a z) (list_any (λ (y : ℕ × Msg). is_auth t y.1) x.issued) h in cc))
    (λ from m k h. absurd (let c : true ≡ false = sym h ∙ quiet_grants z t (transition (Take 0 from k.number) 0 (Some (from, m)) (world_takes line s from m)) (world_none t line s from m) in cc))
    (λ y from m k h. (controls_knows z t s ∙ zone_grants line s (Take (suc y) from k.number) z t y from m h, refl))
