-- What follows a step of a line is the step that follows it, where one does.
use Rattle.std.proofs.Common.{◌≡◌, ℕ, Bool, true, false, ◌||◌, List, [], ◌∷◌, ◌++◌, refl, sym, ◌∙◌, ap, arith, nat_eq}
use Rattle.std.specs.Prelude.{Option, Some, None}
use Rattle.std.specs.List.{list_any}
use Rattle.std.proofs.lemmas.List.Folds.{list_any-append}
use Rattle.std.proofs.lemmas.Bool.{or_left, or_right, or_from, eqb-true}
use Rattle.list_laws.proofs.By_test.{by_test}
use Rattle.track_points.specs.declared.ids.Dir.{Dir}
use Rattle.track_points.specs.declared.ids.Dir.TheVariants.{Up, Down}
use Rattle.track_points.specs.declared.ids.DirSeg.{DirSeg}
use Rattle.track_points.specs.Points.{dir_eq}
use Rattle.definitions.specs.declared.item.End.{End}
use Rattle.definitions.specs.declared.item.Item.{Item}
use Rattle.definitions.specs.declared.item.Item.TheVariants.{Zone, Segment, Joint, Portal, Buffer, Brake, Silent}
use Rattle.definitions.specs.Track.{Line, end_eq, uses, exit_of, behind_joint, first_of, next_step}
use Rattle.definitions.specs.Rules.{rule_of, builds, is_line}
use Rattle.definitions.proofs.Unbroken.{unbroken}
use Rattle.line_map.specs.Next.{after_item, after_end, after_of, AfterIs}
use Rattle.line_map.proofs.Segment_ok.{absurd, and_left, and_right, zero_test}

same_dir : (a b : Dir) → dir_eq a b ≡ true → a ≡ b
same_dir Up Up h = refl
same_dir Down Down h = refl
same_dir Up Down h = absurd h
same_dir Down Up h = absurd h

pub same_end : (a e : End) → end_eq a e ≡ true → a ≡ e
same_end a e h =
    let s = eqb-true a.segment e.segment (and_left (nat_eq a.segment e.segment) (dir_eq a.dir e.dir) h) in
    let d = same_dir a.dir e.dir (and_right (nat_eq a.segment e.segment) (dir_eq a.dir e.dir) h) in
    ap (λ (n : ℕ). record { segment = n; dir = a.dir }) s ∙ ap (λ (x : Dir). record { segment = e.segment; dir = x }) d

-- an end that is free is none that is used
free_end : (before : List Item) (a e : End) → list_any (uses e) before ≡ true → list_any (uses a) before ≡ false → end_eq a e ≡ false
free_end before a e used free = by_test (end_eq a e)
    (λ y. absurd (sym free ∙ (ap (λ x. list_any (uses x) before) (same_end a e y) ∙ used)))
    (λ n. n)

-- an item that breaks no rule uses no end that is used
joint_free : (before : List Item) (a b : End) → rule_of before (Joint a b) ≡ 0 → (list_any (uses a) before ≡ false) × (list_any (uses b) before ≡ false)
joint_free before a b r = let f = (unbroken before (Joint a b) r).free in (grind arith, grind arith)

pub used_once : (before : List Item) (i : Item) (e : End) → rule_of before i ≡ 0 → list_any (uses e) before ≡ true → uses e i ≡ false
used_once before (Zone z) e r used = refl
used_once before (Segment s z len) e r used = refl
used_once before (Joint a b) e r used =
    or_from (end_eq a e) (end_eq b e) (free_end before a e used (joint_free before a b r).0) (free_end before b e used (joint_free before a b r).1)
used_once before (Portal a) e r used = free_end before a e used (unbroken before (Portal a) r).free
used_once before (Buffer a) e r used = free_end before a e used (unbroken before (Buffer a) r).free
used_once before (Brake ticks runaway rate) e r used = refl
used_once before (Silent ms) e r used = refl

-- an item that does not use an end joins it with none
no_joint : (i : Item) (e : End) → uses e i ≡ false → behind_joint e i ≡ None
no_joint (Zone z) e h = refl
no_joint (Segment s z len) e h = refl
no_joint (Joint a b) e h = by_test (end_eq a e)
    (λ y. absurd (sym h ∙ or_left (end_eq a e) (end_eq b e) y))
    (λ n. by_test (end_eq b e)
    (λ y. absurd (sym (rw n at h) ∙ y))
    (λ m. rw (n, m) refl))
no_joint (Portal a) e h = refl
no_joint (Buffer a) e h = refl
no_joint (Brake ticks runaway rate) e h = refl
no_joint (Silent ms) e h = refl

pub still_used : (before : List Item) (i : Item) (e : End) → (list_any (uses e) before || uses e i) ≡ true → list_any (uses e) (before ++ i ∷ []) ≡ true
still_used before i e h = rw (list_any-append (uses e) before (i ∷ [])) (one_of (list_any (uses e) before) (uses e i) h)
  where
    one_of : (x y : Bool) → (x || y) ≡ true → (x || (y || false)) ≡ true
    one_of x y h = grind arith

-- after an item that uses the exit end no joint leads on
no_more : (items before : List Item) (st : DirSeg) → builds before items ≡ true → list_any (uses (exit_of st)) before ≡ true → next_step items st ≡ None
unfolding builds next_step
no_more [] before st b used = refl
no_more (i ∷ items) before st b used =
    let r = zero_test (rule_of before i) (and_left (nat_eq (rule_of before i) 0) (builds (before ++ i ∷ []) items) b) in
    let rest = and_right (nat_eq (rule_of before i) 0) (builds (before ++ i ∷ []) items) b in
    rw (no_joint i (exit_of st) (used_once before i (exit_of st) r used))
    (no_more items (before ++ i ∷ []) st rest (still_used before i (exit_of st) (or_left (list_any (uses (exit_of st)) before) (uses (exit_of st) i) used)))

-- an item that uses the end
leads_on : (i : Item) (e : End) → uses e i ≡ true → AfterIs (behind_joint e i) (after_item e i)
leads_on (Zone z) e h = absurd h
leads_on (Segment s z len) e h = absurd h
leads_on (Joint a b) e h = by_test (end_eq a e)
    (λ y. rw y refl)
    (λ n. rw (n, rw n at h) refl)
leads_on (Portal a) e h = tt
leads_on (Buffer a) e h = tt
leads_on (Brake ticks runaway rate) e h = absurd h
leads_on (Silent ms) e h = absurd h

or_none : (x : Option DirSeg) → first_of x None ≡ x
or_none None = refl
or_none (Some st) = refl

follows_on : (items before : List Item) (st : DirSeg) → builds before items ≡ true → AfterIs (next_step items st) (after_end items (exit_of st))
unfolding builds next_step after_end
follows_on [] before st b = tt
follows_on (i ∷ items) before st b =
    let rest = and_right (nat_eq (rule_of before i) 0) (builds (before ++ i ∷ []) items) b in
    by_test (uses (exit_of st) i)
    (λ y. rw (y, no_more items (before ++ i ∷ []) st rest (still_used before i (exit_of st) (or_right (list_any (uses (exit_of st)) before) (uses (exit_of st) i) y)), or_none (behind_joint (exit_of st) i)) (leads_on i (exit_of st) y))
    (λ n. rw (n, no_joint i (exit_of st) n) (follows_on items (before ++ i ∷ []) st rest))

pub next_after : (line : Line) (st : DirSeg) → is_line line ≡ true → AfterIs (next_step line st) (after_of line st)
next_after line st v = follows_on line [] st (and_left (builds [] line) _ v)
