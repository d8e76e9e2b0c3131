-- Notes that say what the items do, as one more item is noted.
use Rattle.std.proofs.Common.{◌≡◌, ℕ, get_or, Bool, true, false, ◌||◌, List, [], ◌∷◌, ◌++◌, if◌then◌else◌, Option, Some, None, refl, sym, ◌∙◌, ap, arith}
use Rattle.std.specs.Prelude.{is_some, unwrap_or}
use Rattle.std.proofs.lemmas.Bool.{or_parts}
use Rattle.std.proofs.lemmas.Bool.Decides.{nat_tests}
use Rattle.list_laws.proofs.By_test.{by_test}
use Rattle.braking_table.specs.declared.table.Brake.{Brake}
use Rattle.track_points.specs.declared.ids.Dir.{Dir}
use Rattle.track_points.specs.declared.ids.Dir.TheVariants.{Up, Down}
use Rattle.definitions.specs.declared.item.End.{End}
use Rattle.definitions.specs.declared.item.Item.{Item}
use Rattle.definitions.specs.declared.item.Item.TheVariants.{Zone, Segment, Joint, Portal, Buffer, Brake as Braking, Silent}
use Rattle.definitions.specs.Track.{Line, end_eq, is_zone, is_segment, has_segment, seg_len, zone_of, is_any_brake, brake_in, brake_of, is_any_silent, silent_in, silent_after}
use Rattle.definitions.specs.Rules.{rule_of, is_any_zone, is_any_segment}
use Rattle.definitions.proofs.Unbroken.{unbroken}
use Rattle.line_map.specs.declared.ends.EndUse.TheVariants.{Free}
use Rattle.line_map.specs.declared.notes.Notes.{Notes}
use Rattle.line_map.specs.Uses.{use_in, use_of}
use Rattle.line_map.specs.Table.{IsFresh, look, end_of}
use Rattle.line_map.specs.Notes.{Tells, Noted, CanNote, Same, end_at, entry_of, declared_entry, length_from, zone_from, use_from, seen, usual_brake, first_brake, first_silence}
use Rattle.line_map.proofs.All_same.{all_same}
use Rattle.line_map.proofs.Used_in.{use_more}
use Rattle.line_map.proofs.Count_more.{any_more, count_more, length_more, zone_more, length_none, zone_none, brake_more, silent_more}

-- an item that declares a segment uses no end
declares_free : (i : Item) (s : ℕ) (e : End) → is_segment s i ≡ true → use_in e i ≡ Free
declares_free (Zone z) s e h = refl
declares_free (Segment r z len) s e h = refl
declares_free (Joint a b) s e h = absurd (cc)
declares_free (Portal a) s e h = absurd (cc)
declares_free (Buffer a) s e h = absurd (cc)
declares_free (Braking ticks runaway rate) s e h = refl
declares_free (Silent ms) s e h = refl

-- no end of a segment that is not declared is used
abbrev IsLoose : Line → Type 0
IsLoose items = (e : End) → has_segment items e.segment ≡ false → use_of items e ≡ Free

-- a declared segment keeps its zone and its length, and its ends have one more use
seen_declared : (items : Line) (i : Item) (s : ℕ) → has_segment items s ≡ true
    → declared_entry (items ++ i ∷ []) s ≡ seen i s (declared_entry items s)
seen_declared items i s h =
    rw (any_more (is_segment s) items i, h, zone_more items i s, h, length_more items i s, h, use_more items i (end_at s Up), use_more items i (end_at s Down)) refl

-- one that the item declares has its zone and its length, and two free ends
seen_new : (items : Line) (i : Item) (s : ℕ) → IsLoose items → has_segment items s ≡ false → is_segment s i ≡ true
    → declared_entry (items ++ i ∷ []) s ≡ seen i s (declared_entry items s)
seen_new items i s loose h is =
    rw (any_more (is_segment s) items i, h, is, zone_more items i s, h, is, length_more items i s, h, is, use_more items i (end_at s Up), use_more items i (end_at s Down), loose (end_at s Up) h, loose (end_at s Down) h, declares_free i s (end_at s Up) is, declares_free i s (end_at s Down) is) refl

seen_none : (items : Line) (i : Item) (s : ℕ) → has_segment items s ≡ false → is_segment s i ≡ false
    → declared_entry (items ++ i ∷ []) s ≡ seen i s (declared_entry items s)
seen_none items i s h m = rw (any_more (is_segment s) items i, h, m) refl

seen_more : (items : Line) (i : Item) (s : ℕ) → IsLoose items → declared_entry (items ++ i ∷ []) s ≡ seen i s (declared_entry items s)
seen_more items i s loose = by_test (has_segment items s)
    (λ y. seen_declared items i s y)
    (λ n. by_test (is_segment s i) (λ y. seen_new items i s loose n y) (λ m. seen_none items i s n m))

-- an item that breaks no rule uses ends of declared segments alone
same_segment : (a e : End) → end_eq a e ≡ true → a.segment ≡ e.segment
same_segment a e h = grind (arith, nat_tests)

unknown_end : (items : Line) (a e : End) → has_segment items a.segment ≡ true → has_segment items e.segment ≡ false → end_eq a e ≡ false
unknown_end items a e known h = by_test (end_eq a e)
    (λ y. let s = same_segment a e y in absurd (let w : true ≡ false = sym known ∙ (ap (has_segment items) s ∙ h) in cc))
    (λ n. n)

unused_in : (items : Line) (i : Item) (e : End) → rule_of items i ≡ 0 → has_segment items e.segment ≡ false → use_in e i ≡ Free
unused_in items (Zone z) e r h = refl
unused_in items (Segment s z len) e r h = refl
unused_in items (Joint a b) e r h =
    let k = (unbroken items (Joint a b) r).known in
    let p = unknown_end items a e (grind arith) h in
    let q = unknown_end items b e (grind arith) h in
    rw (p, q) refl
unused_in items (Portal a) e r h =
    let k = (unbroken items (Portal a) r).known in
    let p = unknown_end items a e (grind arith) h in rw p refl
unused_in items (Buffer a) e r h =
    let k = (unbroken items (Buffer a) r).known in
    let p = unknown_end items a e (grind arith) h in rw p refl
unused_in items (Braking ticks runaway rate) e r h = refl
unused_in items (Silent ms) e r h = refl

loose_more : (items : Line) (i : Item) → IsLoose items → rule_of items i ≡ 0 → IsLoose (items ++ i ∷ [])
loose_more items i loose r e h =
    let out = (or_parts (has_segment items e.segment) (is_segment e.segment i) (rw (any_more (is_segment e.segment) items i) at h)).0 in
    rw (use_more items i e, loose e out) (unused_in items i e r out)

some_brake : (o : Option Brake) (i : Item) → is_some (first_brake o i) ≡ (is_some o || is_any_brake i)
some_brake (Some b) i = refl
some_brake None (Zone z) = refl
some_brake None (Segment s z len) = refl
some_brake None (Joint a b) = refl
some_brake None (Portal a) = refl
some_brake None (Buffer a) = refl
some_brake None (Braking ticks runaway rate) = refl
some_brake None (Silent ms) = refl

which_brake : (o : Option Brake) (i : Item)
    → unwrap_or (first_brake o i) usual_brake ≡ (if is_some o then unwrap_or o usual_brake else brake_in i usual_brake)
which_brake (Some b) i = refl
which_brake None (Zone z) = refl
which_brake None (Segment s z len) = refl
which_brake None (Joint a b) = refl
which_brake None (Portal a) = refl
which_brake None (Buffer a) = refl
which_brake None (Braking ticks runaway rate) = refl
which_brake None (Silent ms) = refl

some_silence : (o : Option ℕ) (i : Item) → is_some (first_silence o i) ≡ (is_some o || is_any_silent i)
some_silence (Some ms) i = refl
some_silence None (Zone z) = refl
some_silence None (Segment s z len) = refl
some_silence None (Joint a b) = refl
some_silence None (Portal a) = refl
some_silence None (Buffer a) = refl
some_silence None (Braking ticks runaway rate) = refl
some_silence None (Silent ms) = refl

which_silence : (o : Option ℕ) (i : Item) → unwrap_or (first_silence o i) 5000 ≡ (if is_some o then unwrap_or o 5000 else silent_in i 5000)
which_silence (Some ms) i = refl
which_silence None (Zone z) = refl
which_silence None (Segment s z len) = refl
which_silence None (Joint a b) = refl
which_silence None (Portal a) = refl
which_silence None (Buffer a) = refl
which_silence None (Braking ticks runaway rate) = refl
which_silence None (Silent ms) = refl

pub tells_more : (n m : Notes) (items : Line) (i : Item) → Tells n items → rule_of items i ≡ 0 → Noted n i m → Tells m (items ++ i ∷ [])
tells_more n m items i t r k = record {
  zones = λ z. rw (k.zones z, t.zones z) (sym (any_more (is_zone z) items i));
  zoned = rw (k.zoned, t.zoned) (sym (any_more is_any_zone items i));
  braking = rw (k.brake, some_brake n.brake i, t.braking) (sym (any_more is_any_brake items i));
  brake = rw (k.brake, which_brake n.brake i, t.braking, t.brake) (sym (brake_more items i));
  silent = rw (k.silence, some_silence n.silence i, t.silent) (sym (any_more is_any_silent items i));
  silence = rw (k.silence, which_silence n.silence i, t.silent, t.silence) (sym (silent_more items i));
  segments = λ s. rw (k.segments s, t.segments s) (sym (seen_more items i s t.loose));
  count = rw (k.count, t.count) (sym (count_more is_any_segment items i));
  table = k.table;
  loose = loose_more items i t.loose r;
}

-- an item that breaks no rule can be noted
pub can_note : (n : Notes) (items : Line) (i : Item) → Tells n items → rule_of items i ≡ 0 → CanNote i n
can_note n items (Zone z) t r = let w = (unbroken items (Zone z) r).within in grind (arith, nat_tests)
can_note n items (Segment s z len) t r =
    let u = unbroken items (Segment s z len) r in
    let w = u.within in
    let f = u.few in
    let c = t.count in
    (grind (arith, nat_tests), t.segments s ∙ rw u.once refl, grind (arith, nat_tests))
can_note n items (Joint a b) t r = tt
can_note n items (Portal a) t r = tt
can_note n items (Buffer a) t r = tt
can_note n items (Braking ticks runaway rate) t r =
    let w = (unbroken items (Braking ticks runaway rate) r).within in (grind (arith, nat_tests), grind (arith, nat_tests), grind (arith, nat_tests))
can_note n items (Silent ms) t r = tt

pub tells_none : (n : Notes) → n.zones ≡ false ∷ false ∷ false ∷ false ∷ false ∷ false ∷ false ∷ false ∷ false ∷ false ∷ false ∷ false ∷ false ∷ false ∷ false ∷ false ∷ false ∷ []
    → n.zoned ≡ false → n.brake ≡ None → n.silence ≡ None → IsFresh n.table → Tells n []
unfolding use_of brake_of silent_after
tells_none n zones zoned brake silence f = record {
  zones = λ z. ap (λ (xs : List Bool). get_or xs z false) zones ∙ all_same false 17 z;
  zoned = zoned;
  braking = rw brake refl;
  brake = rw brake refl;
  silent = rw silence refl;
  silence = rw silence refl;
  segments = f.none;
  count = f.count;
  table = f.table;
  loose = λ e h. refl;
}

pub tells_same : (n m : Notes) (items : Line) → Tells n items → Same n m → Tells m items
tells_same n m items t k = record {
  zones = λ z. rw k.zones (t.zones z);
  zoned = k.zoned ∙ t.zoned;
  braking = rw k.brake t.braking;
  brake = rw k.brake t.brake;
  silent = rw k.silence t.silent;
  silence = rw k.silence t.silence;
  segments = λ s. rw (k.slots, k.entries) (t.segments s);
  count = rw k.entries t.count;
  table = k.table;
  loose = t.loose;
}

pub has_told : (n : Notes) (items : Line) (s : ℕ) → Tells n items → is_some (look n.table s) ≡ has_segment items s
has_told n items s t = rw (t.segments s) (by_test (has_segment items s) (λ y. rw y refl) (λ m. rw m refl))

pub length_told : (n : Notes) (items : Line) (s : ℕ) → Tells n items → length_from (look n.table s) ≡ seg_len items s
length_told n items s t =
    rw (t.segments s) (by_test (has_segment items s) (λ y. rw y refl) (λ m. rw m (sym (length_none items s m))))

pub zone_told : (n : Notes) (items : Line) (s : ℕ) → Tells n items → zone_from (look n.table s) ≡ zone_of items s
zone_told n items s t =
    rw (t.segments s) (by_test (has_segment items s) (λ y. rw y refl) (λ m. rw m (sym (zone_none items s m))))

end_told : (items : Line) (s : ℕ) (d : Dir) → end_of (entry_of items s) d ≡ use_of items (end_at s d)
end_told items s Up = refl
end_told items s Down = refl

pub use_told : (n : Notes) (items : Line) (e : End) → Tells n items → use_from e.dir (look n.table e.segment) ≡ use_of items e
use_told n items e t = rw (t.segments e.segment)
    (by_test (has_segment items e.segment) (λ y. rw y (end_told items e.segment e.dir)) (λ m. rw m (sym (t.loose e m))))
