-- What items say of zones, segments, the brake and silence, as one more is added.
use Rattle.std.proofs.Common.{◌≡◌, ℕ, ◌+◌, Bool, true, false, ◌||◌, [], ◌∷◌, ◌++◌, if◌then◌else◌, refl, ◌∙◌, arith}
use Rattle.std.specs.Prelude.{count_by}
use Rattle.std.specs.List.{list_any}
use Rattle.std.proofs.lemmas.List.Folds.{list_any-append}
use Rattle.std.proofs.lemmas.List.Sums.{sum_by-append}
use Rattle.list_laws.proofs.By_test.{by_test}
use Rattle.definitions.specs.declared.item.Item.{Item}
use Rattle.definitions.specs.declared.item.Item.TheVariants.{Zone, Segment, Joint, Portal, Buffer, Brake, Silent}
use Rattle.definitions.specs.Track.{Line, is_segment, has_segment, length_in, zone_in, seg_len, zone_of, is_any_brake, brake_in, brake_of, is_any_silent, silent_in, silent_after}
use Rattle.line_map.specs.Notes.{usual_brake}

or_none : (a b : Bool) → (a || (b || false)) ≡ (a || b)
or_none a b = grind arith

pub any_more : (test : Item → Bool) (items : Line) (i : Item) → list_any test (items ++ i ∷ []) ≡ (list_any test items || test i)
any_more test items i = list_any-append test items (i ∷ []) ∙ or_none (list_any test items) (test i)

nothing_more : (m n : ℕ) → m + (0 + n) ≡ m + n
nothing_more m n = omega arith

pub count_more : (test : Item → Bool) (items : Line) (i : Item)
    → count_by test (items ++ i ∷ []) ≡ count_by test items + (if test i then 1 else 0)
count_more test items i = sum_by-append (λ x. if test x then 1 else 0) items (i ∷ []) ∙ nothing_more (count_by test items) (if test i then 1 else 0)

pub length_more : (items : Line) (i : Item) (s : ℕ)
    → seg_len (items ++ i ∷ []) s ≡ (if has_segment items s then seg_len items s else if is_segment s i then length_in i else 0)
unfolding seg_len
length_more [] i s = refl
length_more (x ∷ items) i s = by_test (is_segment s x) (λ y. rw y refl) (λ n. rw n (length_more items i s))

pub zone_more : (items : Line) (i : Item) (s : ℕ)
    → zone_of (items ++ i ∷ []) s ≡ (if has_segment items s then zone_of items s else if is_segment s i then zone_in i else 0)
unfolding zone_of
zone_more [] i s = refl
zone_more (x ∷ items) i s = by_test (is_segment s x) (λ y. rw y refl) (λ n. rw n (zone_more items i s))

pub length_none : (items : Line) (s : ℕ) → has_segment items s ≡ false → seg_len items s ≡ 0
unfolding seg_len
length_none [] s h = refl
length_none (x ∷ items) s h = by_test (is_segment s x)
    (λ y. absurd (let w : true ≡ false = rw y at h in cc))
    (λ n. rw n (length_none items s (rw n at h)))

pub zone_none : (items : Line) (s : ℕ) → has_segment items s ≡ false → zone_of items s ≡ 0
unfolding zone_of
zone_none [] s h = refl
zone_none (x ∷ items) s h = by_test (is_segment s x)
    (λ y. absurd (let w : true ≡ false = rw y at h in cc))
    (λ n. rw n (zone_none items s (rw n at h)))

pub brake_more : (items : Line) (i : Item)
    → brake_of (items ++ i ∷ []) ≡ (if list_any is_any_brake items then brake_of items else brake_in i usual_brake)
unfolding brake_of
brake_more [] i = refl
brake_more (Zone z ∷ items) i = brake_more items i
brake_more (Segment s z len ∷ items) i = brake_more items i
brake_more (Joint a b ∷ items) i = brake_more items i
brake_more (Portal a ∷ items) i = brake_more items i
brake_more (Buffer a ∷ items) i = brake_more items i
brake_more (Brake ticks runaway rate ∷ items) i = refl
brake_more (Silent ms ∷ items) i = brake_more items i

pub silent_more : (items : Line) (i : Item)
    → silent_after (items ++ i ∷ []) ≡ (if list_any is_any_silent items then silent_after items else silent_in i 5000)
unfolding silent_after
silent_more [] i = refl
silent_more (Zone z ∷ items) i = silent_more items i
silent_more (Segment s z len ∷ items) i = silent_more items i
silent_more (Joint a b ∷ items) i = silent_more items i
silent_more (Portal a ∷ items) i = silent_more items i
silent_more (Buffer a ∷ items) i = silent_more items i
silent_more (Brake ticks runaway rate ∷ items) i = silent_more items i
silent_more (Silent ms ∷ items) i = refl
