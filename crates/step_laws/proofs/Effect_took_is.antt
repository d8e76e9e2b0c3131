-- What an event takes: an answer, and an authority that the world takes; and the answer by which a shrink counts as taken.
use Rattle.std.proofs.Common.{◌≡◌, ℕ, zero, suc, ◌-◌, ◌<◌, ◌≤◌, List, [], Option, Some, None, true, false, ◌&&◌, refl, sym, ◌∙◌, ap, subst, arith}
use Rattle.std.proofs.lemmas.Bool.{eqb-true, and_parts}
use Rattle.std.proofs.lemmas.Bool.Decides.{nat_tests}
use Rattle.std.proofs.Math.Bool.{and-false}
use Rattle.std.specs.Prelude.{nat_eq}
use Rattle.list_laws.proofs.By_test.{by_test}
use Rattle.definitions.specs.declared.event.Event.{Event}
use Rattle.definitions.specs.declared.event.Event.TheVariants.{Take}
use Rattle.definitions.specs.declared.message.Msg.{Msg}
use Rattle.definitions.specs.declared.message.Msg.TheVariants as msg
use Rattle.definitions.specs.Track.{Line}
use Rattle.definitions.specs.Story.{Transition, Story, by_world, world_took}
use Rattle.definitions.specs.World.{entered, goes_on, HeldPath, Authority, auth_number, taken_number, taken_path, last_number, last_taken}
use Rattle.definitions.specs.Control.{grants_entry, controls, last_issued}
use Rattle.definitions.specs.Account.{takes_shrink, is_new}
use Rattle.definitions.specs.Fold.{account}
use Rattle.definitions.specs.Longest.{is_pending}
use Rattle.definitions.specs.Steps.{world_takes, zone_step, transition, effects}
use Rattle.definitions.specs.Safe.{IsLineOfOneZone}
use Rattle.event_laws.proofs.Grant_takes.{granter, quiet_grants}
use Rattle.definitions.specs.Zones.{zone_id}
use Rattle.event_laws.proofs.Entered_same.{number_most}
use Rattle.event_laws.proofs.Issued_all.{NoAuth, no_issue}
use Rattle.event_laws.proofs.Admitted.{Admitted}
use Rattle.journey_laws.proofs.Invariant.{RequestTrue, AuthIs, AuthTrue, Authorized}
use Rattle.step_laws.proofs.Taken_counts.{answers, takes_some, cuts}
use Rattle.step_laws.proofs.Fronts_numbers.{takes_by}
use Rattle.step_laws.proofs.Shrink_taken.{TakenNow}
use Rattle.event_laws.proofs.Zone_issues.{world_none}
use Rattle.event_laws.proofs.By_does.{by_does, take_actors, take_issued}
use Rattle.journey_laws.proofs.Zone_only.{actor_zone}

-- an authority that the world takes was issued
pub record TakenIs (line : Line) (t : ℕ) (s : Story) (took : Option (ℕ × Msg)) : Type 0 where
  pub known : taken_number t took ≤ last_issued t s
  pub some : 1 ≤ taken_number t took → (h : HeldPath) × (taken_path t took ≡ Some h)
  pub is : (h : HeldPath) → taken_path t took ≡ Some h → AuthIs line t s (taken_number t took) h.authority

-- an answer is of a train that came on
abbrev pub AnswersOn : ℕ → Story → Option (ℕ × Msg) → Type 0
AnswersOn t s took = entered t s ≡ false → answers t took ≡ false

pub record TookIs (line : Line) (t : ℕ) (s : Story) (x : Transition) : Type 0 where
  pub world : TakenIs line t s (world_took x)
  pub still : 1 ≤ taken_number t (world_took x) → goes_on t x.event ≡ false
  pub answer : AnswersOn t s x.took
  pub zone : (y : ℕ) → grants_entry y t x ≡ true → y ≡ zone_id line

no_taken : (line : Line) (t : ℕ) (s : Story) → TakenIs line t s None
no_taken line t s = record { known = omega arith; some = λ h. absurd (omega (arith, h)); is = λ h e. absurd (let c : None ≡ Some h = e in cc) }

-- an event that takes nothing
pub took_none : (line : Line) (t : ℕ) (s : Story) (e : Event) (a : ℕ) (issued : List (ℕ × Msg)) (lines : _) → TookIs line t s (record { event = e; actor = a; took = None; issued = issued; lines = lines })
took_none line t s e a issued lines = record {
  world = by_actor a;
  still = λ h. absurd (let z = nothing_taken a in omega (arith, h, z));
  answer = λ off. refl;
  zone = λ y h. absurd (let n : false ≡ true = sym (none y) ∙ h in cc);
}
  where
    by_actor : (a : ℕ) → TakenIs line t s (by_world a None)
    by_actor zero = no_taken line t s
    by_actor (suc z) = no_taken line t s

    nothing_taken : (a : ℕ) → taken_number t (by_world a None) ≡ 0
    nothing_taken zero = refl
    nothing_taken (suc z) = refl

    none : (y : ℕ) → grants_entry y t (record { event = e; actor = a; took = None; issued = issued; lines = lines }) ≡ false
    none y = grind arith

auth_taken : (line : Line) (t : ℕ) (s : Story) (from : ℕ) (m : Msg) → auth_number t m ≤ last_issued t s → AuthTrue line t s m → TakenIs line t s (Some (from, m))
auth_taken line t s from (msg.Auth u number mark path) most is = by_test (nat_eq u.0 t)
    (λ y. record {
      known = most;
      some = λ h. (record { zone = from; authority = record { mark = mark; path = path } }, rw y refl);
      is = λ h e. one y (is y) h e;
    })
    (λ n. record {
      known = most;
      some = λ h. absurd (let z : 1 ≤ 0 = rw n at h in omega (arith, z));
      is = λ h e. absurd (let z : None ≡ Some h = rw n at e in cc);
    })
  where
    held : HeldPath
    held = record { zone = from; authority = record { mark = mark; path = path } }

    same : (h : HeldPath) → Some (record { zone = from; authority = record { mark = mark; path = path } }) ≡ Some h → record { mark = mark; path = path } ≡ h.authority
    same h e = cc

    one : nat_eq u.0 t ≡ true → AuthIs line t s number (record { mark = mark; path = path }) → (h : HeldPath) → taken_path t (Some (from, msg.Auth u number mark path)) ≡ Some h
        → AuthIs line t s (taken_number t (Some (from, msg.Auth u number mark path))) h.authority
    one y k h e =
        let e2 : Some (record { zone = from; authority = record { mark = mark; path = path } }) ≡ Some h = rw y at e in
        rw y (subst (λ (a : Authority). AuthIs line t s number a) (same h e2) k)
auth_taken line t s from _ most is = record { known = omega arith; some = λ h. absurd (omega (arith, h)); is = λ h e. absurd (let c : None ≡ Some h = e in cc) }

answer_taken : (line : Line) (t : ℕ) (s : Story) (from : ℕ) (m : Msg) → RequestTrue line t s m → AnswersOn t s (Some (from, m))
answer_taken line t s from (msg.Answer u time number taken) is = λ off. by_test (nat_eq u.0 t)
    (λ y. absurd (let c : true ≡ false = sym (is y).on ∙ off in cc))
    (λ n. n)
answer_taken line t s from _ is = λ off. refl

pub effect_took_is : (line : Line) (s : Story) → IsLineOfOneZone line → (t : ℕ) → Authorized line t s → (e : Event) → Admitted line s e → TookIs line t s (effects line s e)
effect_took_is line s one t auth e a = by_does line s e (λ x. TookIs line t s x)
    (λ b x i. took_none line t s e b x.issued x.lines)
    (λ from m k.
    let x = transition (Take 0 from k.number) 0 (Some (from, m)) (world_takes line s from m) in
    record {
      world = auth_taken line t s from m (number_most (auth_number t) from 0 s (k.number - 1) m k.was_sent) (take_issued (AuthTrue line t s) s e 0 from m auth.auths k);
      still = λ h. refl;
      answer = answer_taken line t s from m (take_issued (RequestTrue line t s) s e 0 from m auth.requests k);
      zone = λ y h. absurd (let c : false ≡ true = sym (quiet_grants y t x (world_none t line s from m)) ∙ h in cc);
    })
    (λ z from m k.
    let x = transition (Take (suc z) from k.number) (suc z) (Some (from, m)) (zone_step line (suc z) from s m) in
    record {
      world = no_taken line t s;
      still = λ h. absurd (omega (arith, h));
      answer = answer_taken line t s from m (take_issued (RequestTrue line t s) s e (suc z) from m auth.requests k);
      zone = λ y h. sym (eqb-true (suc z) y (granter y t x h).0) ∙ actor_zone line z one (take_actors line s e (suc z) from m a k).1.0;
    })

-- The answer by which a shrink counts as taken is of the train's last number, which it took.

answer_last : (line : Line) (t : ℕ) (s : Story) (k : Authorized line t s) → controls (zone_id line) t s ≡ true → (m : Msg) → takes_by t (account line t s) m ≡ true → RequestTrue line t s m
    → (entered t s ≡ true) × ((last_number t s ≡ last_issued t s) × (last_taken line t s ≡ true))
answer_last line t s k c (msg.Answer u time number taken) h asked =
    let v = account line t s in
    let a = and_parts (nat_eq u.0 t) (takes_shrink number taken v) h in
    let b = and_parts (is_new number v) (nat_eq number v.shrink && taken) a.1 in
    let d = and_parts (nat_eq number v.shrink) taken b.1 in
    let is = asked a.0 in
    let above : v.counted < number = grind (arith, nat_tests) in
    let its : number ≡ v.shrink = grind (arith, nat_tests) in
    let pending : is_pending line t s ≡ true = grind (arith, nat_tests) in
    let last = ((k.controlled c).shrink pending).last in
    let most = is.most in
    let issued = k.last_most in
    let same : number ≡ last_number t s = omega (arith, its, last, most, issued) in
    (is.on, (omega (arith, its, last, same), sym (is.told same) ∙ d.1))
answer_last line t s k c _ h asked = absurd cc

-- nothing is issued for an answer
answer_quiet : (line : Line) (t : ℕ) (s : Story) (z from : ℕ) (m : Msg) → takes_by t (account line t s) m ≡ true → NoAuth t (zone_step line z from s m).issued
answer_quiet line t s z from (msg.Answer u time number taken) h = no_issue t [] refl
answer_quiet line t s z from _ h = absurd cc

-- it is no authority
answer_untaken : (line : Line) (t : ℕ) (s : Story) (from : ℕ) (m : Msg) → takes_by t (account line t s) m ≡ true → taken_number t (Some (from, m)) ≡ 0
answer_untaken line t s from (msg.Answer u time number taken) h = refl
answer_untaken line t s from _ h = absurd cc

-- what is taken is that answer
cut_taken : (line : Line) (t : ℕ) (s : Story) (x : Transition) (from : ℕ) (m : Msg) → x.took ≡ Some (from, m) → cuts line t x s ≡ true → takes_by t (account line t s) m ≡ true
cut_taken line t s x from m took h =
    sym (ap (takes_some t (account line t s)) took) ∙ (and_parts (nat_eq x.actor (zone_id line)) (takes_some t (account line t s) x.took) h).1

pub effect_cut : (line : Line) (s : Story) (t : ℕ) → Authorized line t s → (e : Event) → Admitted line s e → controls (zone_id line) t s ≡ true → cuts line t (effects line s e) s ≡ true → TakenNow line t s (effects line s e)
effect_cut line s t auth e a c = by_does line s e (λ x. cuts line t x s ≡ true → TakenNow line t s x)
    (λ b x i h. absurd (let n : false ≡ true = sym (and-false (nat_eq b (zone_id line))) ∙ h in cc))
    (λ from m k h.
    let x = transition (Take 0 from k.number) 0 (Some (from, m)) (world_takes line s from m) in
    let by = cut_taken line t s x from m refl h in
    let its = answer_last line t s auth c m by (take_issued (RequestTrue line t s) s e 0 from m auth.requests k) in
    record { cut = h; still = refl; off = refl; untaken = answer_untaken line t s from m by; quiet = world_none t line s from m; on = its.0; last = its.1.0; taken = its.1.1 })
    (λ z from m k h.
    let x = transition (Take (suc z) from k.number) (suc z) (Some (from, m)) (zone_step line (suc z) from s m) in
    let by = cut_taken line t s x from m refl h in
    let its = answer_last line t s auth c m by (take_issued (RequestTrue line t s) s e (suc z) from m auth.requests k) in
    record { cut = h; still = refl; off = refl; untaken = refl; quiet = answer_quiet line t s (suc z) from m by; on = its.0; last = its.1.0; taken = its.1.1 })
