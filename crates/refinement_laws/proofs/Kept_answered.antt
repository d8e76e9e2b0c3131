-- A kept train whose controller takes an answer: where that takes a shrink, the way is cut at the shrink's end.
use Rattle.std.proofs.Common.{◌≡◌, ℕ, ◌+◌, ◌-◌, ◌<◌, ◌≤◌, min, List, Option, Some, None, refl, sym, ◌∙◌, ap, arith}
use Rattle.track_points.specs.declared.ids.DirSeg.{DirSeg}
use Rattle.track_points.specs.Points.{Lengths, total, steps_to}
use Rattle.definitions.specs.Control.{Known}
use Rattle.definitions.specs.Ways.{PlainWay, way_between}
use Rattle.authority_ledger.specs.declared.ledger.Ledger.{Ledger}
use Rattle.authority_ledger.specs.declared.ledger.Answered.{Answered}
use Rattle.authority_ledger.specs.declared.ledger.Answered.TheVariants.{Old, Noted, Shrunk, Stays}
use Rattle.authority_ledger.specs.Ledger.{after_answer, shifted}
use Rattle.way_path.specs.Ways.{with_end}
use Rattle.plain_state.specs.declared.Controlled.{Controlled}
use Rattle.plain_state.specs.Zone.{cut_by, way_to, front_to, answered_as}
use Rattle.definitions.specs.Steps.{up_to}
use Rattle.way_laws.proofs.Between_points.{begin_of, behind_from}
use Rattle.way_laws.proofs.Between_longer.{between_cut, between_nearer, begin_cut}
use Rattle.refinement_laws.proofs.Ledger_told.{answer_shifted, after_shifted}
use Rattle.refinement_laws.proofs.Zone_kept.{kept_train}

-- the way up to a place of the route
pub way_nearer : (len : Lengths) (steps : List DirSeg) (rear p end : ℕ) → rear < p → p ≤ end → up_to len (Some (p - begin_of len steps rear)) (way_between len steps rear end) ≡ way_between len steps rear p
way_nearer len steps rear p end order le =
    let b = behind_from len steps rear in
    let e : begin_of len steps rear + (p - begin_of len steps rear) ≡ p = omega (arith, b, order) in
    between_nearer len steps rear end (p - begin_of len steps rear) (omega (arith, e, order)) (omega (arith, e, le)) ∙ ap (λ (n : ℕ). way_between len steps rear n) e

-- what is kept is that of the cut route
pub kept_cut_at : (len : Lengths) (t : ℕ) (known : Known) (steps : List DirSeg) (lo hi p end at report number : ℕ) (numbers : Ledger) → lo - known.facts.long < p → lo ≤ hi → lo ≤ p → p ≤ end → end ≤ total len steps
    → answered_as len number (Shrunk (p - begin_of len steps (lo - known.facts.long))) (kept_train len t known steps lo hi end at report numbers)
    ≡ kept_train len t known (steps_to len steps p) lo (min hi p) p at report (after_answer (Shrunk p) number numbers)
kept_cut_at len t known steps lo hi p end at report number numbers order ordered ahead le room =
    let rear = lo - known.facts.long in
    let b = behind_from len steps rear in
    let begins = begin_cut len steps rear p order (omega (arith, le, room)) in
    let way_is = way_nearer len steps rear p end order le ∙ sym (between_cut len steps rear p p order (omega arith) (omega (arith, le, room))) in
    let m : min (hi - begin_of len steps rear) (p - begin_of len steps rear) ≡ min hi p - begin_of len steps rear = omega (arith, b, order, ordered, ahead) in
    ap (λ (w : PlainWay). with_parts w (begin_of len steps rear) (min (hi - begin_of len steps rear) (p - begin_of len steps rear))) way_is
    ∙ (ap (λ (n : ℕ). with_parts (way_between len (steps_to len steps p) rear p) (begin_of len steps rear) n) m
    ∙ ap (λ (n : ℕ). with_parts (way_between len (steps_to len steps p) rear p) n (min hi p - n)) (sym begins))
  where
    with_parts : PlainWay → ℕ → ℕ → Controlled
    with_parts w n front = record {
      id = record { 0 = t };
      train_length = known.facts.long;
      error = known.facts.error;
      speed = known.facts.speed;
      way = with_end len w;
      fronts = record { lo = lo - n; hi = front; at = at };
      report = report;
      equipped = known.equipped;
      ledger = shifted n (after_answer (Shrunk p) number numbers);
    }

-- any other answer leaves its way and its fronts
pub kept_noted : (len : Lengths) (t : ℕ) (known : Known) (steps : List DirSeg) (lo hi end at report number : ℕ) (numbers : Ledger) (found : Answered) → cut_by found ≡ None
    → answered_as len number (answer_shifted (begin_of len steps (lo - known.facts.long)) found) (kept_train len t known steps lo hi end at report numbers)
    ≡ kept_train len t known steps lo hi end at report (after_answer found number numbers)
kept_noted len t known steps lo hi end at report number numbers found uncut =
    let begin = begin_of len steps (lo - known.facts.long) in
    ap (λ (c : Option ℕ). cut_parts c (after_answer (answer_shifted begin found) number (shifted begin numbers))) (uncut_shifted begin found uncut)
    ∙ ap (λ (l : Ledger). with_ledger l) (after_shifted begin number found numbers)
  where
    cut_parts : Option ℕ → Ledger → Controlled
    cut_parts c l = record (kept_train len t known steps lo hi end at report numbers) {
      way = way_to len c (kept_train len t known steps lo hi end at report numbers).way;
      fronts = record {
        lo = (kept_train len t known steps lo hi end at report numbers).fronts.lo;
        hi = front_to c (kept_train len t known steps lo hi end at report numbers).fronts.hi;
        at = at;
      };
      ledger = l;
    }

    with_ledger : Ledger → Controlled
    with_ledger l = record (kept_train len t known steps lo hi end at report numbers) { ledger = l }

    uncut_shifted : (mm : ℕ) (f : Answered) → cut_by f ≡ None → cut_by (answer_shifted mm f) ≡ None
    uncut_shifted mm Old h = refl
    uncut_shifted mm Noted h = refl
    uncut_shifted mm (Shrunk end_) h = absurd cc
    uncut_shifted mm Stays h = refl
