-- An ask whose fields are not refused: its steps are on the line, the offset after them is in its range, and each step has two
-- values.
use Rattle.std.proofs.Common.{◌≡◌, ℕ, ◌+◌, ◌*◌, List, [], ◌∷◌, length, Bool, true, false, refl, subst, arith}
use Rattle.std.proofs.lemmas.Bool.{and_parts, and_from}
use Rattle.std.specs.Prelude.{Result, Ok, Err}
use Rattle.std.specs.List.{list_all}
use Rattle.track_points.specs.declared.ids.DirSeg.{DirSeg}
use Rattle.definitions.specs.Track.{Line, ranged, has_segment}
use Rattle.definitions.specs.Premises.{on_line}
use Rattle.definitions.specs.EventFields.{tried, names_segment, step_of, and_step, asked_of}
use Rattle.document_laws.proofs.Form_fits.{same_ok}

pub tried_ok : {A : Type 0} (b : Bool) (k : ℕ) (r : Result A ℕ) (x : A) → tried b k r ≡ Ok x → (b ≡ true) × (r ≡ Ok x)
tried_ok true k r x h = (refl, h)
tried_ok false k r x h = absurd cc

and_step_ok : (st : DirSeg) (r : Result (List DirSeg × ℕ) ℕ) (x : List DirSeg × ℕ) → and_step st r ≡ Ok x → (y : List DirSeg × ℕ) × ((r ≡ Ok y) × ((st ∷ y.0, y.1) ≡ x))
and_step_ok st (Ok y) x h = (y, (refl, same_ok (st ∷ y.0, y.1) x _ refl h))
and_step_ok st (Err k) x h = absurd cc

pub segment_named : (line : Line) (n : ℕ) → names_segment line n ≡ true → has_segment line n ≡ true
segment_named line n h = (and_parts (ranged 1 32767 n) (has_segment line n) h).1

pub record Asked (line : Line) (vs : List ℕ) (x : List DirSeg × ℕ) : Type 0 where
  pub on : list_all (on_line line) x.0 ≡ true
  pub to : ranged 1 10000000 x.1 ≡ true
  pub count : length vs ≡ 2 * length x.0 + 1

pub asked_all : (line : Line) (k : ℕ) (vs : List ℕ) (x : List DirSeg × ℕ) → asked_of line k vs ≡ Ok x → Asked line vs x
unfolding asked_of
asked_all line k [] x h = absurd cc
asked_all line k (to ∷ []) x h =
    let a = tried_ok (ranged 1 10000000 to) k (Ok ([], to)) x h in
    subst (Asked line (to ∷ [])) (same_ok ([], to) x _ refl a.1) (record { on = refl; to = a.0; count = refl })
asked_all line k (n ∷ sign ∷ vs) x h =
    let a = tried_ok (names_segment line n) k (and_step (step_of n sign) (asked_of line (k + 1) vs)) x h in
    let b = and_step_ok (step_of n sign) (asked_of line (k + 1) vs) x a.1 in
    let i = asked_all line (k + 1) vs b.0 b.1.0 in
    let n_ = i.count in
    subst (Asked line (n ∷ sign ∷ vs)) b.1.1 (record {
      on = and_from (has_segment line n) (list_all (on_line line) b.0.0) (segment_named line n a.0) i.on;
      to = i.to;
      count = omega (arith, n_);
    })
