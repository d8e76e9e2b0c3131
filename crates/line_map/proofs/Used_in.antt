-- What uses an end, as items are added.
use Rattle.std.proofs.Common.{◌≡◌, true, false, ◌||◌, [], ◌∷◌, ◌++◌, refl, sym, ◌∙◌, ap}
use Rattle.std.specs.Prelude.{not}
use Rattle.std.specs.List.{list_any}
use Rattle.list_laws.proofs.By_test.{by_test}
use Rattle.definitions.specs.declared.item.End.{End}
use Rattle.definitions.specs.declared.item.Item.{Item}
use Rattle.definitions.specs.declared.item.Item.TheVariants.{Zone, Segment, Joint, Brake, Silent}
use Rattle.definitions.specs.declared.item.Item.TheVariants as item
use Rattle.definitions.specs.Track.{Line, end_eq, uses}
use Rattle.line_map.specs.declared.ends.EndUse.{EndUse}
use Rattle.line_map.specs.declared.ends.EndUse.TheVariants.{Free, Joined, Portal, Buffer}
use Rattle.line_map.specs.Uses.{first_use, use_in, use_of, is_free}

first_then : (u v w : EndUse) → first_use (first_use u v) w ≡ first_use u (first_use v w)
first_then Free v w = refl
first_then (Joined e) v w = refl
first_then Portal v w = refl
first_then Buffer v w = refl

first_alone : (u : EndUse) → first_use u Free ≡ u
first_alone Free = refl
first_alone (Joined e) = refl
first_alone Portal = refl
first_alone Buffer = refl

pub use_more : (items : Line) (i : Item) (e : End) → use_of (items ++ i ∷ []) e ≡ first_use (use_of items e) (use_in e i)
unfolding use_of
use_more [] i e = first_alone (use_in e i)
use_more (x ∷ items) i e =
    ap (first_use (use_in e x)) (use_more items i e) ∙ sym (first_then (use_in e x) (use_of items e) (use_in e i))

-- an item that does not use the end leaves it free
pub free_in : (e : End) (i : Item) → uses e i ≡ false → use_in e i ≡ Free
free_in e (Zone z) h = refl
free_in e (Segment s z len) h = refl
free_in e (Joint a b) h = by_test (end_eq a e)
    (λ y. absurd (let w : true ≡ false = rw y at h in cc))
    (λ n. let w = rw n at h in rw (n, w) refl)
free_in e (item.Portal a) h = rw h refl
free_in e (item.Buffer a) h = rw h refl
free_in e (Brake ticks runaway rate) h = refl
free_in e (Silent ms) h = refl

pub used_in : (e : End) (i : Item) → uses e i ≡ not (is_free (use_in e i))
used_in e (Zone z) = refl
used_in e (Segment s z len) = refl
used_in e (Joint a b) = by_test (end_eq a e) (λ y. rw y refl) (λ n. by_test (end_eq b e) (λ y. rw (n, y) refl) (λ m. rw (n, m) refl))
used_in e (item.Portal a) = by_test (end_eq a e) (λ y. rw y refl) (λ n. rw n refl)
used_in e (item.Buffer a) = by_test (end_eq a e) (λ y. rw y refl) (λ n. rw n refl)
used_in e (Brake ticks runaway rate) = refl
used_in e (Silent ms) = refl

used_either : (u v : EndUse) → not (is_free (first_use u v)) ≡ (not (is_free u) || not (is_free v))
used_either Free v = refl
used_either (Joined e) v = refl
used_either Portal v = refl
used_either Buffer v = refl

-- an end is used where what uses it is not nothing
pub used_is : (items : Line) (e : End) → list_any (uses e) items ≡ not (is_free (use_of items e))
unfolding use_of
used_is [] e = refl
used_is (i ∷ items) e =
    rw (used_in e i, used_is items e) (sym (used_either (use_in e i) (use_of items e)))
