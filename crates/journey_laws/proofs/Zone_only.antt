-- The zone of a line of one zone, and of its segments and actors.
use Rattle.std.proofs.Common.{◌≡◌, ℕ, suc, ◌+◌, ◌≤◌, List, [], ◌∷◌, ◌++◌, Bool, true, false, refl, sym, ◌∙◌, ap, arith, append_assoc}
use Rattle.std.proofs.lemmas.Bool.{eqb-true, or_left}
use Rattle.std.proofs.lemmas.Bool.Decides.{nat_tests}
use Rattle.std.proofs.lemmas.List.Folds.{list_any-append}
use Rattle.std.proofs.lemmas.List.Sums.{sum_by-cons}
use Rattle.std.specs.Prelude.{nat_eq, count_by, cond}
use Rattle.std.specs.List.{list_any}
use Rattle.list_laws.proofs.By_test.{by_test}
use Rattle.definitions.specs.declared.item.Item.{Item}
use Rattle.definitions.specs.declared.item.Item.TheVariants.{Zone, Segment, Joint, Portal, Buffer, Brake, Silent}
use Rattle.definitions.specs.Track.{Line, is_zone, has_zone, has_segment, zone_of, is_actor}
use Rattle.definitions.specs.Rules.{rule_of, is_any_zone, builds}
use Rattle.definitions.specs.Safe.{IsLineOfOneZone}
use Rattle.definitions.specs.Zones.{zone_id}
use Rattle.definitions.proofs.Unbroken.{unbroken}
use Rattle.way_laws.proofs.Line_builds.{builds_step, line_builds}

zone_counts : (y : ℕ) (line : Line) → count_by is_any_zone (Zone y ∷ line) ≡ 1 + count_by is_any_zone line
zone_counts y line = sum_by-cons (λ (x : Item). cond (is_any_zone x) 1 0) (Zone y) line

cond_none : (b : Bool) → b ≡ false → cond {A = ℕ} b 1 0 ≡ 0
cond_none true h = absurd cc
cond_none false h = refl

other_counts : (i : Item) (line : Line) → is_any_zone i ≡ false → count_by is_any_zone (i ∷ line) ≡ count_by is_any_zone line
other_counts i line h =
    omega (arith, cond_none (is_any_zone i) h, sum_by-cons (λ (x : Item). cond (is_any_zone x) 1 0) i line)

some_zone : (line : Line) (z : ℕ) → has_zone line z ≡ true → 1 ≤ count_by is_any_zone line
some_zone [] z h = absurd cc
some_zone (Zone y ∷ line) z h = omega (arith, zone_counts y line)
some_zone (Segment s y len ∷ line) z h = let r = some_zone line z h in omega (arith, other_counts (Segment s y len) line refl, r)
some_zone (Joint a b ∷ line) z h = let r = some_zone line z h in omega (arith, other_counts (Joint a b) line refl, r)
some_zone (Portal a ∷ line) z h = let r = some_zone line z h in omega (arith, other_counts (Portal a) line refl, r)
some_zone (Buffer a ∷ line) z h = let r = some_zone line z h in omega (arith, other_counts (Buffer a) line refl, r)
some_zone (Brake ticks runaway rate ∷ line) z h = let r = some_zone line z h in omega (arith, other_counts (Brake ticks runaway rate) line refl, r)
some_zone (Silent ms ∷ line) z h = let r = some_zone line z h in omega (arith, other_counts (Silent ms) line refl, r)

-- where at most one zone is declared, a declared one is it
pub zone_only : (line : Line) (z : ℕ) → count_by is_any_zone line ≤ 1 → has_zone line z ≡ true → z ≡ zone_id line
unfolding zone_id
zone_only [] z one h = absurd cc
zone_only (Zone y ∷ line) z one h = by_test (nat_eq y z)
    (λ e. sym (eqb-true y z e))
    (λ n. let r = some_zone line z (rw n at h) in absurd (omega (arith, zone_counts y line, r, one)))
zone_only (Segment s y len ∷ line) z one h = zone_only line z (omega (arith, other_counts (Segment s y len) line refl, one)) h
zone_only (Joint a b ∷ line) z one h = zone_only line z (omega (arith, other_counts (Joint a b) line refl, one)) h
zone_only (Portal a ∷ line) z one h = zone_only line z (omega (arith, other_counts (Portal a) line refl, one)) h
zone_only (Buffer a ∷ line) z one h = zone_only line z (omega (arith, other_counts (Buffer a) line refl, one)) h
zone_only (Brake ticks runaway rate ∷ line) z one h = zone_only line z (omega (arith, other_counts (Brake ticks runaway rate) line refl, one)) h
zone_only (Silent ms ∷ line) z one h = zone_only line z (omega (arith, other_counts (Silent ms) line refl, one)) h

-- a declared segment's zone is declared
segment_zone : (before : List Item) (s z len : ℕ) → rule_of before (Segment s z len) ≡ 0 → has_zone before z ≡ true
segment_zone before s z len h = let k = (unbroken before (Segment s z len) h).known in grind arith

zone_later : (before : List Item) (i : Item) (items : List Item) (z : ℕ) → has_zone ((before ++ i ∷ []) ++ items) z ≡ true → has_zone (before ++ i ∷ items) z ≡ true
zone_later before i items z h = ap (λ (xs : List Item). has_zone xs z) (sym (append_assoc before (i ∷ []) items)) ∙ h

zone_declared : (items before : List Item) (s : ℕ) → builds before items ≡ true → has_segment items s ≡ true → has_zone (before ++ items) (zone_of items s) ≡ true
unfolding zone_of
zone_declared [] before s b h = absurd cc
zone_declared (Segment r z len ∷ items) before s b h =
    let k = builds_step before (Segment r z len) items b in
    by_test (nat_eq r s)
    (λ y. rw y (list_any-append (is_zone z) before (Segment r z len ∷ items) ∙ or_left (has_zone before z) (list_any (is_zone z) (Segment r z len ∷ items)) (segment_zone before r z len k.0)))
    (λ n. rw n (zone_later before (Segment r z len) items (zone_of items s) (zone_declared items (before ++ Segment r z len ∷ []) s k.1 (rw n at h))))
zone_declared (Zone y ∷ items) before s b h =
    let k = builds_step before (Zone y) items b in
    zone_later before (Zone y) items (zone_of items s) (zone_declared items (before ++ Zone y ∷ []) s k.1 h)
zone_declared (Joint x y ∷ items) before s b h =
    let k = builds_step before (Joint x y) items b in
    zone_later before (Joint x y) items (zone_of items s) (zone_declared items (before ++ Joint x y ∷ []) s k.1 h)
zone_declared (Portal y ∷ items) before s b h =
    let k = builds_step before (Portal y) items b in
    zone_later before (Portal y) items (zone_of items s) (zone_declared items (before ++ Portal y ∷ []) s k.1 h)
zone_declared (Buffer y ∷ items) before s b h =
    let k = builds_step before (Buffer y) items b in
    zone_later before (Buffer y) items (zone_of items s) (zone_declared items (before ++ Buffer y ∷ []) s k.1 h)
zone_declared (Brake ticks runaway rate ∷ items) before s b h =
    let k = builds_step before (Brake ticks runaway rate) items b in
    zone_later before (Brake ticks runaway rate) items (zone_of items s) (zone_declared items (before ++ Brake ticks runaway rate ∷ []) s k.1 h)
zone_declared (Silent ms ∷ items) before s b h =
    let k = builds_step before (Silent ms) items b in
    zone_later before (Silent ms) items (zone_of items s) (zone_declared items (before ++ Silent ms ∷ []) s k.1 h)

-- a segment's zone is the line's, and so is an actor that is not the world
pub zone_is : (line : Line) (s : ℕ) → IsLineOfOneZone line → has_segment line s ≡ true → zone_of line s ≡ zone_id line
zone_is line s l h = zone_only line (zone_of line s) l.one (zone_declared line [] s (line_builds line l.valid) h)

pub actor_zone : (line : Line) (z : ℕ) → IsLineOfOneZone line → is_actor line (suc z) ≡ true → suc z ≡ zone_id line
actor_zone line z l actor =
    let other : nat_eq (suc z) 0 ≡ false = grind (arith, nat_tests) in
    zone_only line (suc z) l.one (rw other at actor)
