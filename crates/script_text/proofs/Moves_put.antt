-- Moves and steps that are put one after the other.
use Rattle.std.proofs.Common.{◌≡◌, ℕ, zero, suc, ◌+◌, ◌-◌, ◌<◌, ◌≤◌, List, [], ◌∷◌, ◌++◌, length, drop, Bool, true, false, ◌&&◌, nat_lt, nat_le, take, length-drop, slice_index_or, Result, Ok, Err, refl, ap, subst, ◌∙◌, arith}
use Rattle.std.proofs.lemmas.Bool.Decides.{nat_tests}
use Rattle.std.proofs.lemmas.List.{take_all}
use Rattle.track_points.specs.declared.ids.TrainId.{TrainId}
use Rattle.track_points.specs.declared.ids.DirSeg.{DirSeg}
use Rattle.definitions.specs.Track.{Line}
use Rattle.definitions.specs.EventFields.{tried, names_train, names_segment, step_of, train_id, and_step, and_move, asked_of, moves_of}
use Rattle.script_text.specs.Sees.{Puts, PutsAsked}

after_one : {A : Type 0} (old : List A) (x : A) (more : List A) → (old ++ (x ∷ [])) ++ more ≡ old ++ (x ∷ more)
after_one [] x more = refl
after_one (y ∷ old) x more = ap (λ xs. y ∷ xs) (after_one old x more)

joined : {A : Type 0} (old mid new : List A) (x : A) (more : List A) → mid ≡ old ++ (x ∷ []) → new ≡ mid ++ more → new ≡ old ++ (x ∷ more)
joined old mid new x more m h = h ∙ (ap (λ xs. xs ++ more) m ∙ after_one old x more)

asked_by : (b : Bool) (k : ℕ) (st : DirSeg) (x : Result (List DirSeg × ℕ) ℕ) (old mid new : List DirSeg) (to code : ℕ) → b ≡ true → mid ≡ old ++ (st ∷ []) → PutsAsked mid new to code x → PutsAsked old new to code (tried b k (and_step st x))
asked_by true k st (Ok y) old mid new to code e m h = (h.0, joined old mid new st y.0 m h.1, h.2)
asked_by true k st (Err j) old mid new to code e m h = h
asked_by false k st x old mid new to code e m h = absurd (wrong e)
  where
    wrong : false ≡ true → ⊥
    wrong q = cc

pub asked_put : (line : Line) (k : ℕ) (vs : List ℕ) (old mid new : List DirSeg) (to code : ℕ) (st : DirSeg) → 2 ≤ length vs → names_segment line (slice_index_or vs 0 0) ≡ true → st ≡ step_of (slice_index_or vs 0 0) (slice_index_or vs 1 0) → mid ≡ old ++ (st ∷ []) → PutsAsked mid new to code (asked_of line (k + 1) (drop 2 vs)) → PutsAsked old new to code (asked_of line k vs)
unfolding asked_of
asked_put line k [] old mid new to code st le n e m h = absurd (omega arith)
asked_put line k (s ∷ []) old mid new to code st le n e m h = absurd (omega arith)
asked_put line k (s ∷ sign ∷ vs) old mid new to code st le n e m h =
    asked_by (names_segment line s) k (step_of s sign) (asked_of line (k + 1) vs) old mid new to code n (m ∙ ap (λ x. old ++ (x ∷ [])) e) h

moved_by : (a b : Bool) (k j : ℕ) (move : TrainId × ℕ) (x : Result (List (TrainId × ℕ)) ℕ) (old mid new : List (TrainId × ℕ)) (code : ℕ) → a ≡ true → b ≡ true → mid ≡ old ++ (move ∷ []) → Puts mid new code x → Puts old new code (tried a k (tried b j (and_move move x)))
moved_by true true k j move (Ok y) old mid new code e f m h = (h.0, joined old mid new move y m h.1)
moved_by true true k j move (Err n) old mid new code e f m h = h
moved_by true false k j move x old mid new code e f m h = absurd (wrong f)
  where
    wrong : false ≡ true → ⊥
    wrong q = cc
moved_by false b k j move x old mid new code e f m h = absurd (wrong e)
  where
    wrong : false ≡ true → ⊥
    wrong q = cc

both_true : (a b : Bool) → a ≡ true → b ≡ true → (a && b) ≡ true
both_true true true e f = refl
both_true true false e f = f
both_true false b e f = e

pub moves_put : (trains : List ℕ) (more last k : ℕ) (vs : List ℕ) (old mid new : List (TrainId × ℕ)) (code : ℕ) → 2 ≤ length vs → 1 ≤ more → names_train trains (slice_index_or vs 0 0) ≡ true → last < slice_index_or vs 0 0 → slice_index_or vs 1 0 ≤ 3600000 → mid ≡ old ++ ((train_id (slice_index_or vs 0 0), slice_index_or vs 1 0) ∷ []) → Puts mid new code (moves_of trains (more - 1) (slice_index_or vs 0 0) (k + 2) (drop 2 vs)) → Puts old new code (moves_of trains more last k vs)
unfolding moves_of
moves_put trains more last k [] old mid new code le s n above small m h = absurd (omega arith)
moves_put trains more last k (t ∷ []) old mid new code le s n above small m h = absurd (omega arith)
moves_put trains zero last k (t ∷ mm ∷ vs) old mid new code le s n above small m h = absurd (omega arith)
moves_put trains (suc more) last k (t ∷ mm ∷ vs) old mid new code le s n above small m h =
    let less : suc more - 1 ≡ more = omega arith in
    moved_by (names_train trains t && nat_lt last t) (nat_le mm 3600000) k (k + 1) (train_id t, mm) (moves_of trains more t (k + 2) vs) old mid new code
    (both_true (names_train trains t) (nat_lt last t) n (grind (arith, nat_tests))) (grind (arith, nat_tests)) m
    (subst (λ w. Puts mid new code (moves_of trains w t (k + 2) vs)) less h)

-- what follows two values
pub later_all : (vs : List ℕ) → take (length vs - 2) (drop 2 vs) ≡ drop 2 vs
later_all vs = take_all (length vs - 2) (drop 2 vs) (omega (arith, length-drop 2 vs))
