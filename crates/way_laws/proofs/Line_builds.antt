-- What a valid line tells of its segments and of their ends.
use Rattle.std.proofs.Common.{◌≡◌, ℕ, ◌≤◌, List, [], ◌∷◌, ◌++◌, Bool, true, false, ◌&&◌, not, refl, sym, ◌∙◌, ap, arith, append_assoc}
use Rattle.std.proofs.lemmas.Bool.{eqb-true, and_parts}
use Rattle.std.proofs.lemmas.Bool.Decides.{nat_tests}
use Rattle.std.proofs.lemmas.List.Folds.{list_any-append}
use Rattle.std.specs.Prelude.{nat_eq, nat_le}
use Rattle.std.specs.List.{list_any}
use Rattle.list_laws.proofs.By_test.{by_test}
use Rattle.track_points.specs.declared.ids.Dir.{Dir}
use Rattle.track_points.specs.declared.ids.Dir.TheVariants.{Up, Down}
use Rattle.track_points.specs.declared.ids.DirSeg.{DirSeg}
use Rattle.track_points.specs.Points.{dir_eq}
use Rattle.definitions.specs.declared.item.End.{End}
use Rattle.definitions.specs.declared.item.Item.{Item}
use Rattle.definitions.specs.declared.item.Item.TheVariants.{Zone, Segment, Joint, Portal, Buffer, Brake, Silent}
use Rattle.definitions.specs.Track.{Line, ranged, end_eq, is_segment, is_portal, uses, joins, length_in, has_segment, seg_len, exit_of, entrance_of, follows, begins_at_portal}
use Rattle.definitions.specs.Rules.{rule_of, builds, finish_rule, is_line}
use Rattle.definitions.specs.Premises.{on_line}
use Rattle.definitions.proofs.Unbroken.{unbroken}

pub builds_step : (before : List Item) (i : Item) (items : List Item) → builds before (i ∷ items) ≡ true → (rule_of before i ≡ 0) × (builds (before ++ i ∷ []) items ≡ true)
unfolding builds
builds_step before i items h =
    let k = and_parts (nat_eq (rule_of before i) 0) (builds (before ++ i ∷ []) items) h in
    (eqb-true (rule_of before i) 0 k.0, k.1)

pub line_builds : (line : Line) → is_line line ≡ true → builds [] line ≡ true
line_builds line l = (and_parts (builds [] line) (nat_eq (finish_rule line) 0) l).0

-- a declared segment has a length
segment_long : (before : List Item) (s z len : ℕ) → rule_of before (Segment s z len) ≡ 0 → 1 ≤ len
segment_long before s z len h =
    let w = (unbroken before (Segment s z len) h).within in
    let r : (ranged 1 32767 s && ranged 1 10000000 len) ≡ true = grind arith in
    let k = and_parts (nat_le 1 len) (nat_le len 10000000) (and_parts (ranged 1 32767 s) (ranged 1 10000000 len) r).1 in let le = k.0 in grind (arith, nat_tests)

item_long : (before : List Item) (i : Item) (s : ℕ) → rule_of before i ≡ 0 → is_segment s i ≡ true → 1 ≤ length_in i
item_long before (Segment r z len) s h k = segment_long before r z len h
item_long before (Zone y) s h k = absurd cc
item_long before (Joint x y) s h k = absurd cc
item_long before (Portal y) s h k = absurd cc
item_long before (Buffer y) s h k = absurd cc
item_long before (Brake ticks runaway rate) s h k = absurd cc
item_long before (Silent ms) s h k = absurd cc

long_declared : (items before : List Item) (s : ℕ) → builds before items ≡ true → has_segment items s ≡ true → 1 ≤ seg_len items s
unfolding seg_len
long_declared [] before s b h = absurd cc
long_declared (i ∷ items) before s b h =
    let k = builds_step before i items b in
    by_test (is_segment s i)
    (λ y. rw y (item_long before i s k.0 y))
    (λ n. rw n (long_declared items (before ++ i ∷ []) s k.1 (rw n at h)))

pub long_on_line : (line : Line) (st : DirSeg) → is_line line ≡ true → on_line line st ≡ true → 1 ≤ seg_len line st.seg.0
long_on_line line st l h = long_declared line [] st.seg.0 (line_builds line l) h

-- Ends.

pub dir_same : (a b : Dir) → dir_eq a b ≡ true → a ≡ b
dir_same Up Up h = refl
dir_same Down Down h = refl
dir_same Up Down h = absurd cc
dir_same Down Up h = absurd cc

abbrev end_at : ℕ → Dir → End
end_at s d = record { segment = s; dir = d }

pub end_same : (a b : End) → end_eq a b ≡ true → a ≡ b
end_same a b h =
    let k = and_parts (nat_eq a.segment b.segment) (dir_eq a.dir b.dir) h in
    ap (λ s. end_at s a.dir) (eqb-true a.segment b.segment k.0)
    ∙ ap (λ d. end_at b.segment d) (dir_same a.dir b.dir k.1)

dir_self : (a : Dir) → dir_eq a a ≡ true
dir_self Up = refl
dir_self Down = refl

pub end_self : (a : End) → end_eq a a ≡ true
end_self a = let s : nat_eq a.segment a.segment ≡ true = grind (arith, nat_tests) in rw (s, dir_self a.dir) refl

-- what the rules say of an end that an item uses: its segment is declared, and no item before uses it
record FreeEnd (before : List Item) (e : End) : Type 0 where
  declared : has_segment before e.segment ≡ true
  free : list_any (uses e) before ≡ false

lone_end : (before : List Item) (a e : End) → not (has_segment before a.segment) ≡ false → list_any (uses a) before ≡ false → end_eq a e ≡ true → FreeEnd before e
lone_end before a e k f u = let d : FreeEnd before a = record { declared = grind arith; free = f } in rw (end_same a e u) at d

-- and of the two ends of a joint: they belong to different segments
record JointEnds (before : List Item) (a b : End) : Type 0 where
  one : FreeEnd before a
  other : FreeEnd before b
  apart : nat_eq a.segment b.segment ≡ false

joint_ends : (before : List Item) (a b : End) → rule_of before (Joint a b) ≡ 0 → JointEnds before a b
joint_ends before a b h =
    let u = unbroken before (Joint a b) h in
    let k = u.known in
    let f = u.free in
    record {
      one = record { declared = grind arith; free = grind arith };
      other = record { declared = grind arith; free = grind arith };
      apart = u.apart;
    }

-- an end is free before the item that uses it
used_end : (before : List Item) (i : Item) (e : End) → rule_of before i ≡ 0 → uses e i ≡ true → FreeEnd before e
used_end before (Joint a b) e h u =
    let j = joint_ends before a b h in
    by_test (end_eq a e)
    (λ y. rw (end_same a e y) at j.one)
    (λ n. rw (end_same b e (rw n at u)) at j.other)
used_end before (Portal a) e h u = let b = unbroken before (Portal a) h in lone_end before a e b.known b.free u
used_end before (Buffer a) e h u = let b = unbroken before (Buffer a) h in lone_end before a e b.known b.free u
used_end before (Zone y) e h u = absurd cc
used_end before (Segment s z len) e h u = absurd cc
used_end before (Brake ticks runaway rate) e h u = absurd cc
used_end before (Silent ms) e h u = absurd cc

-- an end that is used is not used again
pub used_once : (items before : List Item) (e : End) → builds before items ≡ true → list_any (uses e) before ≡ true → list_any (uses e) items ≡ false
used_once [] before e b h = refl
used_once (i ∷ items) before e b h =
    let k = builds_step before i items b in
    by_test (uses e i)
    (λ y. let f = (used_end before i e k.0 y).free in absurd (let x : true ≡ false = rw h at f in cc))
    (λ n. rw n (used_once items (before ++ i ∷ []) e k.1 (rw (list_any-append (uses e) before (i ∷ []), h) refl)))

-- what an item that builds names is declared
module _ (test : Item → Bool) (s : ℕ) (here : (before : List Item) (i : Item) → rule_of before i ≡ 0 → test i ≡ true → has_segment before s ≡ true) where
  named_declared : (items before : List Item) → builds before items ≡ true → list_any test items ≡ true → has_segment (before ++ items) s ≡ true
  named_declared [] before b h = absurd cc
  named_declared (i ∷ items) before b h =
      let k = builds_step before i items b in
      by_test (test i)
      (λ y. rw (list_any-append (is_segment s) before (i ∷ items), here before i k.0 y) refl)
      (λ n. ap (λ (xs : List Item). has_segment xs s) (sym (append_assoc before (i ∷ []) items)) ∙ named_declared items (before ++ i ∷ []) k.1 (rw n at h))

portal_uses : (e : End) (i : Item) → is_portal e i ≡ true → uses e i ≡ true
portal_uses e (Portal a) h = h
portal_uses e (Zone y) h = absurd cc
portal_uses e (Segment s z len) h = absurd cc
portal_uses e (Joint a b) h = absurd cc
portal_uses e (Buffer a) h = absurd cc
portal_uses e (Brake ticks runaway rate) h = absurd cc
portal_uses e (Silent ms) h = absurd cc

joins_uses : (e f : End) (i : Item) → joins e f i ≡ true → (uses e i ≡ true) × (uses f i ≡ true)
joins_uses e f (Joint a b) h = (grind arith, grind arith)
joins_uses e f (Portal a) h = absurd cc
joins_uses e f (Zone y) h = absurd cc
joins_uses e f (Segment s z len) h = absurd cc
joins_uses e f (Buffer a) h = absurd cc
joins_uses e f (Brake ticks runaway rate) h = absurd cc
joins_uses e f (Silent ms) h = absurd cc

pub portal_on_line : (line : Line) (st : DirSeg) → is_line line ≡ true → begins_at_portal line st ≡ true → on_line line st ≡ true
portal_on_line line st l h =
    named_declared (is_portal (entrance_of st)) st.seg.0 (λ before i r t. (used_end before i (entrance_of st) r (portal_uses (entrance_of st) i t)).declared) line [] (line_builds line l) h

-- the segment of a step that follows another is declared
pub follower_on_line : (line : Line) (a b : DirSeg) → is_line line ≡ true → follows line a b ≡ true → on_line line b ≡ true
follower_on_line line a b l h =
    named_declared (joins (exit_of a) (entrance_of b)) b.seg.0
    (λ before i r t. (used_end before i (entrance_of b) r (joins_uses (exit_of a) (entrance_of b) i t).1).declared) line [] (line_builds line l) h

pub joint_apart : (before : List Item) (a b : End) → rule_of before (Joint a b) ≡ 0 → nat_eq a.segment b.segment ≡ false
joint_apart before a b h = (joint_ends before a b h).apart

-- two ends that are joined later are joined by no earlier item, and by no item are they used twice
pub joined_uses : (e f : End) (items : List Item) → list_any (joins e f) items ≡ true → list_any (uses e) items ≡ true
joined_uses e f [] h = absurd cc
joined_uses e f (i ∷ items) h = by_test (joins e f i)
    (λ y. rw (joins_uses e f i y).0 refl)
    (λ n. by_test (uses e i) (λ u. rw u refl) (λ u. rw u (joined_uses e f items (rw n at h))))
