-- An end is used at most once: what uses it first tells whatever an item says of it.
use Rattle.std.proofs.Common.{◌≡◌, ℕ, Bool, true, false, ◌&&◌, ◌||◌, [], ◌∷◌, ◌++◌, refl, sym, ◌∙◌, ap, nat_eq}
use Rattle.std.specs.Prelude.{not}
use Rattle.std.specs.List.{list_any, list_all}
use Rattle.std.proofs.Math.Bool.{or-false, and-true, and-false, or_self}
use Rattle.std.proofs.lemmas.Bool.{or_left, or_right}
use Rattle.list_laws.proofs.By_test.{by_test}
use Rattle.track_points.specs.declared.ids.DirSeg.{DirSeg}
use Rattle.definitions.specs.declared.item.End.{End}
use Rattle.definitions.specs.declared.item.Item.{Item}
use Rattle.definitions.specs.declared.item.Item.TheVariants.{Zone, Segment, Joint, Portal, Buffer, Brake, Silent}
use Rattle.definitions.specs.Track.{Line, end_eq, uses, joins, is_portal, exit_of, entrance_of, zone_of, follows, begins_at_portal}
use Rattle.definitions.specs.Rules.{rule_of, builds, is_line, joins_within}
use Rattle.line_map.specs.declared.ends.EndUse.{EndUse}
use Rattle.line_map.specs.declared.ends.EndUse.TheVariants.{Free, Joined}
use Rattle.line_map.specs.declared.ends.EndUse.TheVariants as used
use Rattle.line_map.specs.Uses.{first_use, is_free, use_in, use_of}
use Rattle.line_map.proofs.Used_in.{free_in, used_in}
use Rattle.line_map.specs.Next.{after_item, after_end, after_use, joins_where, is_portal_use, FitsIds, FitsUse}
use Rattle.line_map.proofs.Segment_ok.{absurd, and_left, and_right, zero_test, fine, all_fine, ids_fit}
use Rattle.line_map.proofs.Next_after.{same_end, used_once, still_used}

first_stays : (u v : EndUse) → not (is_free u) ≡ true → first_use u v ≡ u
first_stays Free v h = absurd h
first_stays (Joined e) v h = refl
first_stays used.Portal v h = refl
first_stays used.Buffer v h = refl

first_used : (e : End) (i : Item) (v : EndUse) → uses e i ≡ true → first_use (use_in e i) v ≡ use_in e i
first_used e i v h = first_stays (use_in e i) v (sym (used_in e i) ∙ h)

-- what an item says of an end only where it uses it, none says that comes after one that does
none_more : (t : Item → Bool) (e : End) → ((i : Item) → uses e i ≡ false → t i ≡ false) → (items before : Line)
    → builds before items ≡ true → list_any (uses e) before ≡ true → list_any t items ≡ false
unfolding builds
none_more t e k [] before b h = refl
none_more t e k (i ∷ items) before b h =
    let r = zero_test (rule_of before i) (and_left (nat_eq (rule_of before i) 0) (builds (before ++ i ∷ []) items) b) in
    let rest = and_right (nat_eq (rule_of before i) 0) (builds (before ++ i ∷ []) items) b in
    rw (k i (used_once before i e r h))
    (none_more t e k items (before ++ i ∷ []) rest (still_used before i e (or_left (list_any (uses e) before) (uses e i) h)))

-- so any item says it exactly where the first that uses the end does
once : (t : Item → Bool) (w : EndUse → Bool) (e : End) → w Free ≡ false → ((i : Item) → t i ≡ w (use_in e i))
    → (items before : Line) → builds before items ≡ true → list_any t items ≡ w (use_of items e)
unfolding builds use_of
once t w e free k [] before b = sym free
once t w e free k (i ∷ items) before b =
    let rest = and_right (nat_eq (rule_of before i) 0) (builds (before ++ i ∷ []) items) b in
    let silent : (x : Item) → uses e x ≡ false → t x ≡ false = λ x h. k x ∙ (ap w (free_in e x h) ∙ free) in
    by_test (uses e i)
    (λ y. rw (k i, none_more t e silent items (before ++ i ∷ []) rest (still_used before i e (or_right (list_any (uses e) before) (uses e i) y)), first_used e i (use_of items e) y)
    (or-false (w (use_in e i))))
    (λ n. rw (silent i n, free_in e i n) (once t w e free k items (before ++ i ∷ []) rest))

-- a joint of an end with itself joins it with nothing else
joins_same : (x y a b : End) → end_eq x a ≡ true → (end_eq y b || (end_eq x b && end_eq y a)) ≡ end_eq y b
joins_same x y a b p = by_test (end_eq y a)
    (λ q. let e : x ≡ y = same_end x a p ∙ sym (same_end y a q) in
    rw (q, ap (λ (z : End). end_eq z b) e, and-true (end_eq y b)) (or_self (end_eq y b)))
    (λ m. rw (m, and-false (end_eq x b)) (or-false (end_eq y b)))

joins_is : (a b : End) (i : Item) → joins a b i ≡ joins_where (λ x. end_eq x b) (use_in a i)
joins_is a b (Zone z) = refl
joins_is a b (Segment s z len) = refl
joins_is a b (Joint x y) = by_test (end_eq x a)
    (λ p. rw p (joins_same x y a b p))
    (λ n. by_test (end_eq y a)
    (λ q. rw (n, q) (and-true (end_eq x b)))
    (λ m. rw (n, m) (and-false (end_eq x b))))
joins_is a b (Portal x) = by_test (end_eq x a) (λ p. rw p refl) (λ n. rw n refl)
joins_is a b (Buffer x) = by_test (end_eq x a) (λ p. rw p refl) (λ n. rw n refl)
joins_is a b (Brake ticks runaway rate) = refl
joins_is a b (Silent ms) = refl

portal_is : (e : End) (i : Item) → is_portal e i ≡ is_portal_use (use_in e i)
portal_is e (Zone z) = refl
portal_is e (Segment s z len) = refl
portal_is e (Joint a b) = by_test (end_eq a e) (λ p. rw p refl) (λ n. by_test (end_eq b e) (λ q. rw (n, q) refl) (λ m. rw (n, m) refl))
portal_is e (Portal a) = by_test (end_eq a e) (λ p. rw p refl) (λ n. rw n refl)
portal_is e (Buffer a) = by_test (end_eq a e) (λ p. rw p refl) (λ n. rw n refl)
portal_is e (Brake ticks runaway rate) = refl
portal_is e (Silent ms) = refl

within_same : (items : Line) (z : ℕ) (a b e : End) → end_eq a e ≡ true
    → (nat_eq (zone_of items b.segment) z || (end_eq b e && nat_eq (zone_of items a.segment) z)) ≡ nat_eq (zone_of items b.segment) z
within_same items z a b e p = by_test (end_eq b e)
    (λ q. let s : a ≡ b = same_end a e p ∙ sym (same_end b e q) in
    rw (q, ap (λ (x : End). nat_eq (zone_of items x.segment) z) s) (or_self (nat_eq (zone_of items b.segment) z)))
    (λ m. rw m (or-false (nat_eq (zone_of items b.segment) z)))

within_is : (items : Line) (z : ℕ) (e : End) (i : Item)
    → joins_within items z e i ≡ joins_where (λ x. nat_eq (zone_of items x.segment) z) (use_in e i)
within_is items z e (Zone y) = refl
within_is items z e (Segment s y len) = refl
within_is items z e (Joint a b) = by_test (end_eq a e)
    (λ p. rw p (within_same items z a b e p))
    (λ n. by_test (end_eq b e) (λ q. rw (n, q) refl) (λ m. rw (n, m) refl))
within_is items z e (Portal a) = by_test (end_eq a e) (λ p. rw p refl) (λ n. rw n refl)
within_is items z e (Buffer a) = by_test (end_eq a e) (λ p. rw p refl) (λ n. rw n refl)
within_is items z e (Brake ticks runaway rate) = refl
within_is items z e (Silent ms) = refl

pub goes_on : (items : Line) (z : ℕ) (e : End) → builds [] items ≡ true
    → list_any (joins_within items z e) items ≡ joins_where (λ x. nat_eq (zone_of items x.segment) z) (use_of items e)
goes_on items z e b =
    once (joins_within items z e) (joins_where (λ x. nat_eq (zone_of items x.segment) z)) e refl (within_is items z e) items [] b

pub follows_is : (line : Line) (a b : DirSeg) → is_line line ≡ true
    → follows line a b ≡ joins_where (λ x. end_eq x (entrance_of b)) (use_of line (exit_of a))
follows_is line a b v =
    once (joins (exit_of a) (entrance_of b)) (joins_where (λ x. end_eq x (entrance_of b))) (exit_of a) refl
    (joins_is (exit_of a) (entrance_of b)) line [] (and_left (builds [] line) _ v)

pub begins_is : (line : Line) (st : DirSeg) → is_line line ≡ true → begins_at_portal line st ≡ is_portal_use (use_of line (entrance_of st))
begins_is line st v =
    once (is_portal (entrance_of st)) is_portal_use (entrance_of st) refl (portal_is (entrance_of st)) line [] (and_left (builds [] line) _ v)

after_in : (e : End) (i : Item) → uses e i ≡ true → after_item e i ≡ after_use (use_in e i)
after_in e (Zone z) h = absurd h
after_in e (Segment s z len) h = absurd h
after_in e (Joint a b) h = by_test (end_eq a e) (λ p. rw p refl) (λ n. rw (n, rw n at h) refl)
after_in e (Portal a) h = rw h refl
after_in e (Buffer a) h = rw h refl
after_in e (Brake ticks runaway rate) h = absurd h
after_in e (Silent ms) h = absurd h

pub after_is : (items : Line) (e : End) → after_end items e ≡ after_use (use_of items e)
unfolding after_end use_of
after_is [] e = refl
after_is (i ∷ items) e = by_test (uses e i)
    (λ y. rw (y, first_used e i (use_of items e) y) (after_in e i y))
    (λ n. rw (n, free_in e i n) (after_is items e))

-- the joints of a line join segments that have ids
first_fits : (u v : EndUse) → FitsUse u → FitsUse v → FitsUse (first_use u v)
first_fits Free v f g = g
first_fits (Joined e) v f g = f
first_fits used.Portal v f g = tt
first_fits used.Buffer v f g = tt

in_fits : (e : End) (i : Item) → FitsIds i → FitsUse (use_in e i)
in_fits e (Zone z) f = tt
in_fits e (Segment s z len) f = tt
in_fits e (Joint a b) f = by_test (end_eq a e) (λ p. rw p f.1) (λ n. by_test (end_eq b e) (λ q. rw (n, q) f.0) (λ m. rw (n, m) tt))
in_fits e (Portal a) f = by_test (end_eq a e) (λ p. rw p tt) (λ n. rw n tt)
in_fits e (Buffer a) f = by_test (end_eq a e) (λ p. rw p tt) (λ n. rw n tt)
in_fits e (Brake ticks runaway rate) f = tt
in_fits e (Silent ms) f = tt

uses_fit : (line : Line) → is_line line ≡ true → (items : Line) → list_all (fine line) items ≡ true → (e : End) → FitsUse (use_of items e)
unfolding use_of
uses_fit line v [] h e = tt
uses_fit line v (i ∷ items) h e =
    first_fits (use_in e i) (use_of items e)
    (in_fits e i (ids_fit line v i (and_left (fine line i) (list_all (fine line) items) h)))
    (uses_fit line v items (and_right (fine line i) (list_all (fine line) items) h) e)

pub use_fits : (line : Line) → is_line line ≡ true → (e : End) → FitsUse (use_of line e)
use_fits line v e = uses_fit line v line (all_fine line v) e
