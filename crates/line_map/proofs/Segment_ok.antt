-- What the rules give of every item of a line, and so of every segment, every zone and the brake.
use Rattle.std.proofs.Common.{◌≡◌, ℕ, ◌≤◌, Bool, true, false, ◌&&◌, List, [], ◌∷◌, ◌++◌, append_assoc, refl, ◌∙◌, arith, nat_eq}
use Rattle.std.specs.Prelude.{not, Option, Some, None, is_some, Result, Ok, Err, OnOk, OnErr}
use Rattle.std.specs.List.{list_all, list_any}
use Rattle.std.proofs.lemmas.Bool.{both_ways, or_left, and_from}
use Rattle.std.proofs.lemmas.Bool.Decides.{nat_tests}
use Rattle.std.proofs.lemmas.List.{append-nil}
use Rattle.std.proofs.lemmas.List.Folds.{list_any-append, list_all-append}
use Rattle.list_laws.proofs.By_test.{by_test}
use Rattle.braking_table.specs.Brake.{stop_of}
use Rattle.braking_table.specs.Made.{fault_of}
use Rattle.braking_table.proofs.Stop_rises.{by_arithmetic}
use Rattle.definitions.specs.declared.item.Item.{Item}
use Rattle.definitions.specs.declared.item.Item.TheVariants.{Zone, Segment, Joint, Portal, Buffer, Brake, Silent}
use Rattle.track_points.specs.declared.ids.DirSeg.{DirSeg}
use Rattle.definitions.specs.declared.item.End.{End}
use Rattle.definitions.specs.Track.{Line, ranged, end_eq, is_portal, entrance_of, begins_at_portal, is_zone, is_segment, has_zone, has_segment, length_in, zone_in, seg_len, zone_of, brake_of}
use Rattle.definitions.specs.Rules.{rule_of, has_no_stops, builds, is_line}
use Rattle.definitions.proofs.Unbroken.{unbroken}
use Rattle.line_map.specs.Next.{FitsIds}

pub absurd : {P : Type 0} → false ≡ true → P
absurd h = elim (both_ways false refl h) [ ]

pub and_left : (a b : Bool) → (a && b) ≡ true → a ≡ true
and_left a b h = grind arith

pub and_right : (a b : Bool) → (a && b) ≡ true → b ≡ true
and_right a b h = grind arith

-- the items so far break no rule, and neither does the next
pub builds_more : (before items : List Item) (x : Item) → builds before items ≡ true → rule_of (before ++ items) x ≡ 0
    → builds before (items ++ x ∷ []) ≡ true
unfolding builds
builds_more before [] x b r = let e : rule_of before x ≡ 0 = rw (append-nil before) at r in rw e refl
builds_more before (i ∷ items) x b r =
    and_from _ _ (and_left _ _ b)
    (builds_more (before ++ i ∷ []) items x (and_right _ _ b) (rw (append_assoc before (i ∷ []) items) r))

-- the items after one more was wanted, whether or not there was memory for it
pub builds_either : {T E : Type 0} (items new : Line) (x : Item) (r : Result T E) → builds [] items ≡ true → rule_of items x ≡ 0
    → OnOk r (new ≡ items ++ x ∷ []) → OnErr r (new ≡ items) → builds [] new ≡ true
builds_either items new x (Ok _) b k ok err = rw ok (builds_more [] items x b k)
builds_either items new x (Err _) b k ok err = rw err b

-- what the rules give of an item of a line
abbrev pub fine : Line → Item → Bool
fine line (Zone z) = ranged 1 16 z
fine line (Segment s z len) = (ranged 1 32767 s && ranged 1 10000000 len) && has_zone line z
fine line (Joint a b) = has_segment line a.segment && has_segment line b.segment
fine line (Portal a) = has_segment line a.segment
fine line (Buffer a) = has_segment line a.segment
fine line (Brake ticks runaway rate) = not (has_no_stops line (Brake ticks runaway rate))
fine line (Silent ms) = ranged 1 3600000 ms

rule_fine : (line : Line) (i : Item) → rule_of line i ≡ 0 → fine line i ≡ true
rule_fine line (Zone z) r = let w = (unbroken line (Zone z) r).within in grind arith
rule_fine line (Segment s z len) r = let u = unbroken line (Segment s z len) r in let w = u.within in let k = u.known in grind arith
rule_fine line (Joint a b) r = let k = (unbroken line (Joint a b) r).known in grind arith
rule_fine line (Portal a) r = let k = (unbroken line (Portal a) r).known in grind arith
rule_fine line (Buffer a) r = let k = (unbroken line (Buffer a) r).known in grind arith
rule_fine line (Brake ticks runaway rate) r = let w = (unbroken line (Brake ticks runaway rate) r).stops in rw w refl
rule_fine line (Silent ms) r = let w = (unbroken line (Silent ms) r).within in grind arith

zone_grown : (line : Line) (x : Item) (z : ℕ) → has_zone line z ≡ true → has_zone (line ++ x ∷ []) z ≡ true
zone_grown line x z h = rw (list_any-append (is_zone z) line (x ∷ [])) (or_left _ _ h)

segment_grown : (line : Line) (x : Item) (s : ℕ) → has_segment line s ≡ true → has_segment (line ++ x ∷ []) s ≡ true
segment_grown line x s h = rw (list_any-append (is_segment s) line (x ∷ [])) (or_left _ _ h)

grown : (line : Line) (x i : Item) → fine line i ≡ true → fine (line ++ x ∷ []) i ≡ true
grown line x (Zone z) h = h
grown line x (Segment s z len) h = and_from _ _ (and_left _ _ h) (zone_grown line x z (and_right _ _ h))
grown line x (Joint a b) h =
    and_from _ _ (segment_grown line x a.segment (and_left _ _ h)) (segment_grown line x b.segment (and_right _ _ h))
grown line x (Portal a) h = segment_grown line x a.segment h
grown line x (Buffer a) h = segment_grown line x a.segment h
grown line x (Brake ticks runaway rate) h = h
grown line x (Silent ms) h = h

all_grown : (line : Line) (x : Item) (items : List Item) → list_all (fine line) items ≡ true → list_all (fine (line ++ x ∷ [])) items ≡ true
all_grown line x [] h = refl
all_grown line x (i ∷ items) h = and_from _ _ (grown line x i (and_left _ _ h)) (all_grown line x items (and_right _ _ h))

one_more : (line : Line) (i : Item) → list_all (fine line) line ≡ true → rule_of line i ≡ 0
    → list_all (fine (line ++ i ∷ [])) (line ++ i ∷ []) ≡ true
one_more line i h r =
    let p : Item → Bool = fine (line ++ i ∷ []) in
    let last : p i ≡ true = grown line i i (rule_fine line i r) in
    let old : list_all p line ≡ true = all_grown line i line h in
    list_all-append p line (i ∷ []) ∙ and_from (list_all p line) (list_all p (i ∷ [])) old (and_from (p i) true last refl)

pub zero_test : (n : ℕ) → nat_eq n 0 ≡ true → n ≡ 0
zero_test n h = grind (arith, nat_tests)

builds_fine : (before items : List Item) → builds before items ≡ true → list_all (fine before) before ≡ true
    → list_all (fine (before ++ items)) (before ++ items) ≡ true
unfolding builds
builds_fine before [] b h = rw (append-nil before) h
builds_fine before (i ∷ items) b h =
    let r = zero_test (rule_of before i) (and_left (nat_eq (rule_of before i) 0) (builds (before ++ i ∷ []) items) b) in
    let rest = and_right (nat_eq (rule_of before i) 0) (builds (before ++ i ∷ []) items) b in
    rw (append_assoc before (i ∷ []) items) at (builds_fine (before ++ i ∷ []) items rest (one_more before i h r))

pub all_fine : (line : Line) → is_line line ≡ true → list_all (fine line) line ≡ true
all_fine line v = builds_fine [] line (and_left _ _ v) refl

-- a declared segment among some of the items
pub record FineSegment (line : Line) (s len z : ℕ) : Type 0 where
  pub some : 1 ≤ len
  pub most : len ≤ 10000000
  pub zone : has_zone line z ≡ true
  pub first : 1 ≤ s
  pub last : s ≤ 32767

range_first : (lo hi n : ℕ) → ranged lo hi n ≡ true → lo ≤ n
range_first lo hi n h = grind (arith, nat_tests)

range_last : (lo hi n : ℕ) → ranged lo hi n ≡ true → n ≤ hi
range_last lo hi n h = grind (arith, nat_tests)

segment_here : (line : Line) (s : ℕ) (i : Item) → fine line i ≡ true → is_segment s i ≡ true → FineSegment line s (length_in i) (zone_in i)
segment_here line s (Segment r z len) f h =
    let e : r ≡ s = grind (arith, nat_tests) in
    let numbers = and_left _ (has_zone line z) f in
    let id = and_left _ (ranged 1 10000000 len) numbers in
    let long = and_right (ranged 1 32767 r) _ numbers in
    record {
      some = range_first 1 10000000 len long;
      most = range_last 1 10000000 len long;
      zone = and_right _ (has_zone line z) f;
      first = let x = range_first 1 32767 r id in omega arith;
      last = let x = range_last 1 32767 r id in omega arith;
    }
segment_here line s (Joint a b) f h = absurd h
segment_here line s (Portal a) f h = absurd h
segment_here line s (Buffer a) f h = absurd h
segment_here line s (Brake ticks runaway rate) f h = absurd h
segment_here line s (Silent ms) f h = absurd h
segment_here line s (Zone z) f h = absurd h

segment_fine : (line items : List Item) → list_all (fine line) items ≡ true → (s : ℕ) → has_segment items s ≡ true
    → FineSegment line s (seg_len items s) (zone_of items s)
unfolding seg_len zone_of
segment_fine line [] h s d = absurd d
segment_fine line (i ∷ items) h s d = by_test (is_segment s i)
    (λ y. rw y (segment_here line s i (and_left (fine line i) (list_all (fine line) items) h) y))
    (λ n. rw n (segment_fine line items (and_right (fine line i) (list_all (fine line) items) h) s (rw n at d)))

pub segment_is : (line : Line) → is_line line ≡ true → (s : ℕ) → has_segment line s ≡ true → FineSegment line s (seg_len line s) (zone_of line s)
segment_is line v s d = segment_fine line line (all_fine line v) s d

pub segment_ok : (line : Line) → is_line line ≡ true → (s : ℕ) → has_segment line s ≡ true
    → (1 ≤ seg_len line s) × (seg_len line s ≤ 10000000) × (has_zone line (zone_of line s) ≡ true)
segment_ok line v s d = let f = segment_is line v s d in (f.some, f.most, f.zone)

pub segment_id_ok : (line : Line) → is_line line ≡ true → (s : ℕ) → has_segment line s ≡ true → (1 ≤ s) × (s ≤ 32767)
segment_id_ok line v s d = let f = segment_is line v s d in (f.first, f.last)

zone_here : (line : Line) (z : ℕ) (i : Item) → fine line i ≡ true → is_zone z i ≡ true → ranged 1 16 z ≡ true
zone_here line z (Zone y) f h = let e : y ≡ z = grind (arith, nat_tests) in rw e at f
zone_here line z (Joint a b) f h = absurd h
zone_here line z (Portal a) f h = absurd h
zone_here line z (Buffer a) f h = absurd h
zone_here line z (Brake ticks runaway rate) f h = absurd h
zone_here line z (Silent ms) f h = absurd h
zone_here line z (Segment s y len) f h = absurd h

zone_fine : (line items : List Item) → list_all (fine line) items ≡ true → (z : ℕ) → has_zone items z ≡ true → ranged 1 16 z ≡ true
zone_fine line [] h z d = absurd d
zone_fine line (i ∷ items) h z d = by_test (is_zone z i)
    (λ y. zone_here line z i (and_left (fine line i) (list_all (fine line) items) h) y)
    (λ n. zone_fine line items (and_right (fine line i) (list_all (fine line) items) h) z (rw n at d))

pub zone_ok : (line : Line) → is_line line ≡ true → (z : ℕ) → has_zone line z ≡ true → (1 ≤ z) × (z ≤ 16)
zone_ok line v z d =
    let r = zone_fine line line (all_fine line v) z d in
    (range_first 1 16 z r, range_last 1 16 z r)

no_fault : {F : Type 0} (fault : Option F) → not (is_some fault) ≡ true → fault ≡ None
no_fault None h = refl
no_fault (Some f) h = absurd h

-- the brake of a line has a table of stops
brake_fine : (line items : List Item) → list_all (fine line) items ≡ true → fault_of (brake_of items) ≡ None
unfolding brake_of stop_of
brake_fine line [] h = rw (by_arithmetic (brake_of []) 60000 (omega arith)) refl
brake_fine line (Zone z ∷ items) h = brake_fine line items (and_right _ _ h)
brake_fine line (Segment s z len ∷ items) h = brake_fine line items (and_right _ _ h)
brake_fine line (Joint a b ∷ items) h = brake_fine line items (and_right _ _ h)
brake_fine line (Portal a ∷ items) h = brake_fine line items (and_right _ _ h)
brake_fine line (Buffer a ∷ items) h = brake_fine line items (and_right _ _ h)
brake_fine line (Silent ms ∷ items) h = brake_fine line items (and_right _ _ h)
brake_fine line (Brake ticks runaway rate ∷ items) h = no_fault (fault_of (record { ticks = ticks; runaway = runaway; rate = rate })) (and_left _ _ h)

pub brake_sound : (line : Line) → is_line line ≡ true → fault_of (brake_of line) ≡ None
brake_sound line v = brake_fine line line (all_fine line v)

-- the joints of a line name ids
pub ids_fit : (line : Line) → is_line line ≡ true → (i : Item) → fine line i ≡ true → FitsIds i
ids_fit line v (Zone z) f = tt
ids_fit line v (Segment s z len) f = tt
ids_fit line v (Joint a b) f = (
  (segment_id_ok line v a.segment (and_left _ (has_segment line b.segment) f)).1,
  (segment_id_ok line v b.segment (and_right (has_segment line a.segment) _ f)).1,
)
ids_fit line v (Portal a) f = tt
ids_fit line v (Buffer a) f = tt
ids_fit line v (Brake ticks runaway rate) f = tt
ids_fit line v (Silent ms) f = tt

-- the segment of a portal is declared
portal_in : (line items : Line) (e : End) → list_all (fine line) items ≡ true → list_any (is_portal e) items ≡ true → has_segment line e.segment ≡ true
portal_in line [] e h p = absurd p
portal_in line (Zone z ∷ items) e h p = portal_in line items e (and_right _ _ h) p
portal_in line (Segment s z len ∷ items) e h p = portal_in line items e (and_right _ _ h) p
portal_in line (Joint a b ∷ items) e h p = portal_in line items e (and_right _ _ h) p
portal_in line (Buffer a ∷ items) e h p = portal_in line items e (and_right _ _ h) p
portal_in line (Brake ticks runaway rate ∷ items) e h p = portal_in line items e (and_right _ _ h) p
portal_in line (Silent ms ∷ items) e h p = portal_in line items e (and_right _ _ h) p
portal_in line (Portal a ∷ items) e h p =
    by_test (end_eq a e)
    (λ y. let s : a.segment ≡ e.segment = grind (arith, nat_tests) in rw (← s) (and_left _ _ h))
    (λ n. portal_in line items e (and_right _ _ h) (rw n at p))

pub portal_declared : (line : Line) → is_line line ≡ true → (st : DirSeg) → begins_at_portal line st ≡ true → has_segment line st.seg.0 ≡ true
portal_declared line h st p = portal_in line line (entrance_of st) (all_fine line h) p
