-- An event that a text line says has a meaning, and what it names is declared: so it is built.
use Rattle.std.proofs.Common.{◌≡◌, ℕ, zero, suc, ◌+◌, ◌≤◌, List, [], ◌∷◌, length, true, false, ◌&&◌, ◌||◌, not, refl, sym, ◌∙◌, ap, subst, arith}
use Rattle.std.proofs.lemmas.Bool.Decides.{nat_tests}
use Rattle.std.proofs.lemmas.Bool.{eqb-true, and_parts, and_from, or_parts, not-true, not-false, le-leb, lt-ltb}
use Rattle.std.specs.Prelude.{nat_eq, nat_lt, nat_le, Option, Some, None, is_some, Result, Ok, Err}
use Rattle.std.specs.List.{list_all, list_any}
use Rattle.list_laws.proofs.By_test.{by_test}
use Rattle.text_forms.specs.Reading.{form_at}
use Rattle.track_points.specs.declared.ids.DirSeg.{DirSeg}
use Rattle.track_points.specs.declared.ids.TrainId.{TrainId}
use Rattle.definitions.specs.declared.event.Event.{Event}
use Rattle.definitions.specs.declared.event.Event.TheVariants as is
use Rattle.definitions.specs.declared.document.EventLine.TheVariants as tells
use Rattle.definitions.specs.Track.{Line, ranged, has_zone, has_segment, is_actor, begins_at_portal}
use Rattle.definitions.specs.Story.{Story, or_else, first_told}
use Rattle.definitions.specs.World.{Facts, facts_in, with_train, trains, is_declared, facts_of}
use Rattle.definitions.specs.EventText.{event_forms}
use Rattle.definitions.specs.EventReading.{event_or, line_or, told}
use Rattle.definitions.specs.Grammar.{is_passed, event_line_of}
use Rattle.definitions.specs.Premises.{on_line, known_train, ascending, built}
use Rattle.definitions.specs.EventFields.{event_of, built_forms, is_unbuilt, has_train, names_segment, kind_of, offset_of, is_offset, declares_unequipped, names_train, names_zone, names_actor, train_id, step_of, asked_of, and_move, moves_of, train_of, entry_of, enter_of, and_ms, step_event_of, report_of, time_of, and_asks, ask_of, close_of, open_of, shorten_of, take_of, deliver_of, noise_of, round_of, lost_of}
use Rattle.document_laws.proofs.Asked_all.{tried_ok, segment_named, asked_all}
use Rattle.document_laws.proofs.Offset_ranged.{offset_ranged}
use Rattle.document_laws.proofs.Form_fits.{same_ok, KindFits, FormFits, form_fits}

-- A train that was declared.

or_some : (x y : Option Facts) → is_some (or_else x y) ≡ (is_some y || is_some x)
or_some None None = refl
or_some None (Some b) = refl
or_some (Some a) None = refl
or_some (Some a) (Some b) = refl

declared_more : (t : ℕ) (s : Story) (e : Event) → has_train (trains s) t ≡ is_some (facts_of t s) → has_train (with_train e (trains s)) t ≡ is_some (or_else (facts_of t s) (facts_in t e))
unfolding has_train
declared_more t s (is.Train u long error speed kind) h = by_test (nat_eq u.0 t)
    (λ y. rw (y, or_some (facts_of t s) (Some (record { long = long; error = error; speed = speed }))) refl)
    (λ n. rw (n, or_some (facts_of t s) None) h)
declared_more t s _ h = h ∙ sym (or_some (facts_of t s) None)

pub has_declared : (t : ℕ) (s : Story) → has_train (trains s) t ≡ is_declared t s
unfolding has_train trains first_told
has_declared t [] = refl
has_declared t (e ∷ s) = declared_more t s e.event (has_declared t s)

-- What stands where a field was not refused.

named : (t : ℕ) (s : Story) → names_train (trains s) t ≡ true → is_declared t s ≡ true
named t s h = sym (has_declared t s) ∙ (and_parts (ranged 1 65535 t) (has_train (trains s) t) h).1

zone_named : (line : Line) (z : ℕ) → names_zone line z ≡ true → has_zone line z ≡ true
zone_named line z h = (and_parts (ranged 1 16 z) (has_zone line z) h).1

actor_named : (line : Line) (a : ℕ) → names_actor line a ≡ true → is_actor line a ≡ true
actor_named line a h = by_test (nat_eq a 0)
    (λ y. rw y refl)
    (λ n. rw n (zone_named line a (rw n at h)))

-- Lists.

and_move_ok : (m : TrainId × ℕ) (r : Result (List (TrainId × ℕ)) ℕ) (x : List (TrainId × ℕ)) → and_move m r ≡ Ok x → (y : List (TrainId × ℕ)) × ((r ≡ Ok y) × (x ≡ m ∷ y))
and_move_ok m (Ok y) x h = (y, (refl, sym (same_ok (m ∷ y) x _ refl h)))
and_move_ok m (Err k) x h = absurd cc

moves_named : (s : Story) (more last k : ℕ) (vs : List ℕ) (x : List (TrainId × ℕ)) → moves_of (trains s) more last k vs ≡ Ok x → (ascending last x ≡ true) × (list_all (known_train s) x ≡ true)
unfolding moves_of ascending
moves_named s more last k [] x h = rw (← same_ok [] x _ refl h) (refl, refl)
moves_named s more last k (t ∷ []) x h = absurd cc
moves_named s zero last k (t ∷ mm ∷ vs) x h = absurd cc
moves_named s (suc more) last k (t ∷ mm ∷ vs) x h =
    let a = tried_ok (names_train (trains s) t && nat_lt last t) k _ x h in
    let b = tried_ok (nat_le mm 3600000) (k + 1) _ x a.1 in
    let c = and_move_ok (train_id t, mm) (moves_of (trains s) more t (k + 2) vs) x b.1 in
    let i = moves_named s more t (k + 2) vs c.0 c.1.0 in
    let n = and_parts (names_train (trains s) t) (nat_lt last t) a.0 in
    rw c.1.1 (and_from (nat_lt last t) (ascending t c.0) n.1 i.0, and_from (is_declared t s) (list_all (known_train s) c.0) (named t s n.0) i.1)

-- Event by event.

module _ (line : Line) (s : Story) where
  enter_built : (vs : List ℕ) (e : Event) → enter_of (trains s) vs ≡ Ok e → built line s e ≡ true
  enter_built (t ∷ []) e h =
      let a = tried_ok (names_train (trains s) t) 1 (Ok (is.Enter (train_id t))) e h in
      subst (λ (x : Event). built line s x ≡ true) (same_ok (is.Enter (train_id t)) e _ refl a.1) (named t s a.0)
  enter_built _ e h = absurd cc

  time_built : (vs : List ℕ) (e : Event) → time_of line (trains s) vs ≡ Ok e → built line s e ≡ true
  time_built (z ∷ t ∷ []) e h =
      let x = is.Time (record { 0 = z }) (train_id t) in
      let a = tried_ok (names_zone line z) 1 _ e h in
      let b = tried_ok (nat_eq t 0 || names_train (trains s) t) 2 (Ok x) e a.1 in
      let known : (nat_eq t 0 || is_declared t s) ≡ true = by_test (nat_eq t 0) (λ y. rw y refl) (λ n. rw n (named t s (rw n at b.0))) in
      subst (λ (x : Event). built line s x ≡ true) (same_ok x e _ refl b.1) (and_from (has_zone line z) (nat_eq t 0 || is_declared t s) (zone_named line z a.0) known)
  time_built _ e h = absurd cc

  entry_built : (vs : List ℕ) (e : Event) → entry_of line (trains s) vs ≡ Ok e → built line s e ≡ true
  entry_built (t ∷ n ∷ sign ∷ []) e h =
      let x = is.Entry (train_id t) (step_of n sign) in
      let a = tried_ok (names_train (trains s) t) 1 _ e h in
      let b = tried_ok (ranged 1 32767 n && begins_at_portal line (step_of n sign)) 2 (Ok x) e a.1 in
      let c = and_parts (ranged 1 32767 n) (begins_at_portal line (step_of n sign)) b.0 in
      subst (λ (x : Event). built line s x ≡ true) (same_ok x e _ refl b.1) (and_from (is_declared t s) (begins_at_portal line (step_of n sign)) (named t s a.0) c.1)
  entry_built _ e h = absurd cc

  and_ms_ok : (ms : ℕ) (r : Result (List (TrainId × ℕ)) ℕ) (e : Event) → and_ms ms r ≡ Ok e → (y : List (TrainId × ℕ)) × ((r ≡ Ok y) × (is.Step ms (record { items = y }) ≡ e))
  and_ms_ok ms (Ok y) e h = (y, (refl, same_ok (is.Step ms (record { items = y })) e _ refl h))
  and_ms_ok ms (Err k) e h = absurd cc

  step_built : (vs : List ℕ) (e : Event) → step_event_of (trains s) vs ≡ Ok e → built line s e ≡ true
  step_built [] e h = absurd cc
  step_built (ms ∷ vs) e h =
      let a = tried_ok (ranged 1 60000 ms) 1 _ e h in
      let b = and_ms_ok ms (moves_of (trains s) 256 0 2 vs) e a.1 in
      let c = moves_named s 256 0 2 vs b.0 b.1.0 in
      subst (λ (x : Event). built line s x ≡ true) b.1.1 (and_from (ranged 1 60000 ms) _ a.0 (and_from (ascending 0 b.0) (list_all (known_train s) b.0) c.0 c.1))

  report_built : (vs : List ℕ) (e : Event) → report_of line (trains s) vs ≡ Ok e → built line s e ≡ true
  report_built (t ∷ z ∷ n ∷ sign ∷ off ∷ flag ∷ []) e h =
      let x = is.Report (train_id t) (record { 0 = z }) (step_of n sign) (offset_of off) (nat_eq flag 1) in
      let a = tried_ok (names_train (trains s) t) 1 _ e h in
      let b = tried_ok (names_zone line z) 2 _ e a.1 in
      let c = tried_ok (names_segment line n) 3 _ e b.1 in
      let d = tried_ok (is_offset off) 4 _ e c.1 in
      let f = tried_ok (nat_le flag 1) 5 (Ok x) e d.1 in
      subst (λ (x : Event). built line s x ≡ true) (same_ok x e _ refl f.1) (and_from (is_declared t s) _ (named t s a.0) (and_from (has_zone line z) _ (zone_named line z b.0) (and_from (has_segment line n) _ (segment_named line n c.0) (offset_ranged off d.0))))
  report_built _ e h = absurd cc

  and_asks_ok : (t z : ℕ) (r : Result (List DirSeg × ℕ) ℕ) (e : Event) → and_asks t z r ≡ Ok e → (y : List DirSeg × ℕ) × ((r ≡ Ok y) × (is.Ask (train_id t) (record { 0 = z }) (record { items = y.0 }) y.1 ≡ e))
  and_asks_ok t z (Ok y) e h = (y, (refl, same_ok (is.Ask (train_id t) (record { 0 = z }) (record { items = y.0 }) y.1) e _ refl h))
  and_asks_ok t z (Err k) e h = absurd cc

  ask_built : (vs : List ℕ) (e : Event) → (5 ≤ length vs) × (length vs ≤ 51) → ask_of line (trains s) vs ≡ Ok e → built line s e ≡ true
  ask_built [] e n h = absurd cc
  ask_built (t ∷ []) e n h = absurd cc
  ask_built (t ∷ z ∷ vs) e n h =
      let a = tried_ok (names_train (trains s) t) 1 _ e h in
      let b = tried_ok (names_zone line z) 2 _ e a.1 in
      let c = and_asks_ok t z (asked_of line 3 vs) e b.1 in
      let k = asked_all line 3 vs c.0 c.1.0 in
      let count = k.count in
      let lo = n.0 in
      let hi = n.1 in
      let few : ranged 1 24 (length c.0.0) ≡ true = and_from (nat_le 1 (length c.0.0)) (nat_le (length c.0.0) 24) (le-leb 1 (length c.0.0) (omega (arith, count, lo))) (le-leb (length c.0.0) 24 (omega (arith, count, hi))) in
      subst (λ (x : Event). built line s x ≡ true) c.1.1
      (and_from (is_declared t s) _ (named t s a.0) (and_from (has_zone line z) _ (zone_named line z b.0) (and_from (ranged 1 24 (length c.0.0)) _ few (and_from (list_all (on_line line) c.0.0) _ k.on k.to))))

  close_built : (vs : List ℕ) (e : Event) → close_of line vs ≡ Ok e → built line s e ≡ true
  close_built (n ∷ []) e h =
      let x = is.Close (record { 0 = n }) in
      let a = tried_ok (names_segment line n) 2 (Ok x) e h in
      subst (λ (x : Event). built line s x ≡ true) (same_ok x e _ refl a.1) (segment_named line n a.0)
  close_built _ e h = absurd cc

  open_built : (vs : List ℕ) (e : Event) → open_of line vs ≡ Ok e → built line s e ≡ true
  open_built (n ∷ []) e h =
      let x = is.Open (record { 0 = n }) in
      let a = tried_ok (names_segment line n) 2 (Ok x) e h in
      subst (λ (x : Event). built line s x ≡ true) (same_ok x e _ refl a.1) (segment_named line n a.0)
  open_built _ e h = absurd cc

  shorten_built : (vs : List ℕ) (e : Event) → shorten_of line (trains s) vs ≡ Ok e → built line s e ≡ true
  shorten_built (z ∷ t ∷ n ∷ sign ∷ off ∷ []) e h =
      let x = is.Shorten (record { 0 = z }) (train_id t) (step_of n sign) off in
      let a = tried_ok (names_zone line z) 2 _ e h in
      let b = tried_ok (names_train (trains s) t) 3 _ e a.1 in
      let c = tried_ok (names_segment line n) 4 _ e b.1 in
      let d = tried_ok (ranged 1 10000000 off) 5 (Ok x) e c.1 in
      subst (λ (x : Event). built line s x ≡ true) (same_ok x e _ refl d.1) (and_from (has_zone line z) _ (zone_named line z a.0) (and_from (is_declared t s) _ (named t s b.0) (and_from (has_segment line n) _ (segment_named line n c.0) d.0)))
  shorten_built _ e h = absurd cc

  take_built : (vs : List ℕ) (e : Event) → take_of line vs ≡ Ok e → built line s e ≡ true
  take_built (to ∷ from ∷ n ∷ []) e h =
      let x = is.Take to from n in
      let a = tried_ok (names_actor line to) 1 _ e h in
      let b = tried_ok (names_actor line from && not (nat_eq from to)) 2 _ e a.1 in
      let c = tried_ok (ranged 1 4294967295 n) 3 (Ok x) e b.1 in
      let d = and_parts (names_actor line from) (not (nat_eq from to)) b.0 in
      let other : nat_eq to from ≡ false = let o = not-true (nat_eq from to) d.1 in grind (arith, nat_tests) in
      subst (λ (x : Event). built line s x ≡ true) (same_ok x e _ refl c.1) (rw other (and_from (is_actor line to) (is_actor line from) (actor_named line to a.0) (actor_named line from d.0)))
  take_built _ e h = absurd cc

  noise_built : (vs : List ℕ) (e : Event) → 3 ≤ length vs → noise_of line vs ≡ Ok e → built line s e ≡ true
  noise_built (to ∷ from ∷ bytes) e n h =
      let x = is.Noise to from (record { items = bytes }) in
      let a = tried_ok (names_actor line to) 1 _ e h in
      let b = tried_ok (names_actor line from && not (nat_eq from to)) 2 (Ok x) e a.1 in
      let d = and_parts (names_actor line from) (not (nat_eq from to)) b.0 in
      let other : nat_eq to from ≡ false = let o = not-true (nat_eq from to) d.1 in grind (arith, nat_tests) in
      let some : nat_lt 0 (length bytes) ≡ true = lt-ltb 0 (length bytes) (omega (arith, n)) in
      subst (λ (x : Event). built line s x ≡ true) (same_ok x e _ refl b.1)
      (rw other (and_from (is_actor line to) _ (actor_named line to a.0) (and_from (is_actor line from) _ (actor_named line from d.0) some)))
  noise_built _ e n h = absurd cc

  round_built : (vs : List ℕ) (e : Event) → round_of vs ≡ Ok e → built line s e ≡ true
  round_built (n ∷ []) e h =
      let a = tried_ok (ranged 1 2000 n) 1 (Ok (is.Round n)) e h in
      subst (λ (x : Event). built line s x ≡ true) (same_ok (is.Round n) e _ refl a.1) a.0
  round_built _ e h = absurd cc

  lost_built : (vs : List ℕ) (e : Event) → lost_of line vs ≡ Ok e → built line s e ≡ true
  lost_built (from ∷ to ∷ n ∷ []) e h =
      let x = is.Lost from to n in
      let a = tried_ok (names_actor line from) 1 _ e h in
      let b = tried_ok (names_actor line to && not (nat_eq to from)) 2 _ e a.1 in
      let c = tried_ok (ranged 1 4294967295 n) 3 (Ok x) e b.1 in
      let d = and_parts (names_actor line to) (not (nat_eq to from)) b.0 in
      let other = not-true (nat_eq to from) d.1 in
      subst (λ (x : Event). built line s x ≡ true) (same_ok x e _ refl c.1) (rw other (and_from (is_actor line from) (is_actor line to) (actor_named line from a.0) (actor_named line to d.0)))
  lost_built _ e h = absurd cc

  deliver_built : (vs : List ℕ) (e : Event) → deliver_of line vs ≡ Ok e → built line s e ≡ true
  deliver_built (to ∷ []) e h =
      let a = tried_ok (names_actor line to) 1 (Ok (is.Deliver to)) e h in
      subst (λ (x : Event). built line s x ≡ true) (same_ok (is.Deliver to) e _ refl a.1) (actor_named line to a.0)
  deliver_built _ e h = absurd cc

  -- a train whose kind has a meaning
  train_built : (vs : List ℕ) (e : Event) → declares_unequipped 0 vs ≡ false → KindFits vs → train_of (trains s) vs ≡ Ok e → built line s e ≡ true
  train_built (t ∷ len ∷ err ∷ v ∷ kind ∷ []) e u fits h =
      let x = is.Train (train_id t) len err v (kind_of kind) in
      let a = tried_ok (ranged 1 65535 t && not (has_train (trains s) t)) 1 _ e h in
      let b = tried_ok (ranged 1 1000000 len) 2 _ e a.1 in
      let c = tried_ok (nat_lt err len) 3 _ e b.1 in
      let d = tried_ok (ranged 1 60000 v) 4 (Ok x) e c.1 in
      let n = and_parts (ranged 1 65535 t) (not (has_train (trains s) t)) a.0 in
      let new : is_declared t s ≡ false = sym (has_declared t s) ∙ not-true (has_train (trains s) t) n.1 in
      let equipped : nat_eq kind 0 ≡ true = grind (arith, nat_tests) in
      subst (λ (x : Event). built line s x ≡ true) (same_ok x e _ refl d.1) (rw (n.0, b.0, c.0, d.0, new, equipped) refl)
  train_built _ e u fits h = absurd cc

-- Any form that has a meaning.

module _ (line : Line) (s : Story) where
  abbrev FormBuilt : ℕ → Type 0
  FormBuilt i = (vs : List ℕ) (e : Event) → declares_unequipped i vs ≡ false → FormFits i vs → event_of line (trains s) i vs ≡ Ok e → built line s e ≡ true

  abbrev Each : List ℕ → Type 0
  Each [] = Unit {0}
  Each (i ∷ forms) = FormBuilt i × Each forms

  one_of : (forms : List ℕ) (i : ℕ) → Each forms → list_any (nat_eq i) forms ≡ true → FormBuilt i
  one_of [] i all h = absurd cc
  one_of (j ∷ forms) i all h = by_test (nat_eq i j)
      (λ y. subst FormBuilt (sym (eqb-true i j y)) all.0)
      (λ n. one_of forms i all.1 (rw n at h))

  all_built : Each built_forms
  unfolding event_of
  all_built = (
    λ vs e u f h. train_built line s vs e u (f.kind refl) h,
    (
      λ vs e u f h. entry_built line s vs e h,
      (
        λ vs e u f h. enter_built line s vs e h,
        (
          λ vs e u f h. step_built line s vs e h,
          (
            λ vs e u f h. report_built line s vs e h,
            (
              λ vs e u f h. time_built line s vs e h,
              (
                λ vs e u f h. ask_built line s vs e (f.asks refl) h,
                (
                  λ vs e u f h. close_built line s vs e h,
                  (
                    λ vs e u f h. open_built line s vs e h,
                    (
                      λ vs e u f h. shorten_built line s vs e h,
                      (
                        λ vs e u f h. take_built line s vs e h,
                        (λ vs e u f h. deliver_built line s vs e h, (λ vs e u f h. noise_built line s vs e (f.noise refl) h, (λ vs e u f h. round_built line s vs e h, (λ vs e u f h. lost_built line s vs e h, tt)))),
                      ),
                    ),
                  ),
                ),
              ),
            ),
          ),
        ),
      ),
    ),
  )

  said_form : (text : List ℕ) (r : Result (ℕ × List ℕ) ℕ) (e : Event) → ((x : ℕ × List ℕ) → r ≡ Ok x → FormFits x.0 x.1) → told line (trains s) text r ≡ tells.Event e → built line s e ≡ true
  said_form text (Err column) e fits h = absurd cc
  said_form text (Ok x) e fits h = by_test (is_unbuilt x.0 x.1)
      (λ y. absurd (let c : tells.Unbuilt ≡ tells.Event e = rw y at h in cc))
      (λ n.
      let k = or_parts (not (list_any (nat_eq x.0) built_forms)) (declares_unequipped x.0 x.1) n in
      let form : list_any (nat_eq x.0) built_forms ≡ true = not-false (list_any (nat_eq x.0) built_forms) k.0 in
      one_of built_forms x.0 all_built form x.1 e k.1 (fits x refl) (read (event_of line (trains s) x.0 x.1) (rw n at h)))
    where
      read : (r : Result Event ℕ) → line_or (event_or text r) ≡ tells.Event e → r ≡ Ok e
      read (Ok f) g = let same : f ≡ e = cc in ap Result.Ok same
      read (Err k) g = absurd cc

  -- an event that a text line says is built
  pub said_built : (text : List ℕ) (e : Event) → event_line_of line (trains s) text ≡ tells.Event e → built line s e ≡ true
  unfolding event_line_of
  said_built text e h = by_test (is_passed text)
      (λ p. absurd (let c : tells.Passed ≡ tells.Event e = rw p at h in cc))
      (λ p. said_form text (form_at event_forms text) e (form_fits text) (rw p at h))
