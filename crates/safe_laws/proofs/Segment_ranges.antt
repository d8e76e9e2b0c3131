-- A segment of a valid line has its id and its length in their ranges.
use Rattle.std.proofs.Common.{◌≡◌, ℕ, ◌≤◌, List, [], ◌∷◌, ◌++◌, true, ◌&&◌, subst, arith}
use Rattle.std.proofs.lemmas.Bool.{eqb-true, and_parts}
use Rattle.std.proofs.lemmas.Bool.Decides.{nat_tests}
use Rattle.list_laws.proofs.By_test.{by_test}
use Rattle.definitions.specs.declared.item.Item.{Item}
use Rattle.definitions.specs.declared.item.Item.TheVariants.{Zone, Segment, Joint, Portal, Buffer, Brake, Silent}
use Rattle.definitions.specs.Track.{Line, ranged, is_segment, length_in, has_segment, seg_len}
use Rattle.definitions.specs.Rules.{rule_of, builds, is_line}
use Rattle.definitions.proofs.Unbroken.{unbroken}
use Rattle.way_laws.proofs.Line_builds.{builds_step, line_builds}

pub record SegmentRanges (s len : ℕ) : Type 0 where
  pub least : 1 ≤ s
  pub most : s ≤ 32767
  pub short : len ≤ 10000000

segment_in : (before : List Item) (r z len : ℕ) → rule_of before (Segment r z len) ≡ 0 → SegmentRanges r len
segment_in before r z len h =
    let w = (unbroken before (Segment r z len) h).within in
    let both : (ranged 1 32767 r && ranged 1 10000000 len) ≡ true = grind arith in
    let k = and_parts (ranged 1 32767 r) (ranged 1 10000000 len) both in
    let id = k.0 in
    let long = k.1 in
    record { least = grind (arith, nat_tests); most = grind (arith, nat_tests); short = grind (arith, nat_tests) }

item_in : (before : List Item) (i : Item) (s : ℕ) → rule_of before i ≡ 0 → is_segment s i ≡ true → SegmentRanges s (length_in i)
item_in before (Segment r z len) s h k = subst (λ (n : ℕ). SegmentRanges n len) (eqb-true r s k) (segment_in before r z len h)
item_in before (Zone y) s h k = absurd cc
item_in before (Joint x y) s h k = absurd cc
item_in before (Portal y) s h k = absurd cc
item_in before (Buffer y) s h k = absurd cc
item_in before (Brake ticks runaway rate) s h k = absurd cc
item_in before (Silent ms) s h k = absurd cc

declared_in : (items before : List Item) (s : ℕ) → builds before items ≡ true → has_segment items s ≡ true → SegmentRanges s (seg_len items s)
unfolding seg_len
declared_in [] before s b h = absurd cc
declared_in (i ∷ items) before s b h =
    let k = builds_step before i items b in
    by_test (is_segment s i)
    (λ y. rw y (item_in before i s k.0 y))
    (λ n. rw n (declared_in items (before ++ i ∷ []) s k.1 (rw n at h)))

pub segment_ranges : (line : Line) (s : ℕ) → is_line line ≡ true → has_segment line s ≡ true → SegmentRanges s (seg_len line s)
segment_ranges line s l h = declared_in line [] s (line_builds line l) h
