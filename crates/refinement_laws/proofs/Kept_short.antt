-- A kept train that an order shortens: the shrink's number and its end are kept, its way stays until the train answers.
use Rattle.std.proofs.Common.{◌≡◌, ℕ, ◌+◌, ◌-◌, ◌≤◌, List, Option, Some, None, Bool, true, false, ◌&&◌, refl, ◌∙◌, ap, arith, if◌then◌else◌}
use Rattle.std.proofs.lemmas.Bool.Decides.{nat_tests}
use Rattle.std.specs.Prelude.{nat_le, nat_lt, is_none}
use Rattle.list_laws.proofs.By_test.{by_test}
use Rattle.track_points.specs.declared.ids.DirSeg.{DirSeg}
use Rattle.track_points.specs.declared.ids.TrainId.{TrainId}
use Rattle.track_points.specs.Points.{Lengths, end_place}
use Rattle.definitions.specs.Control.{Known}
use Rattle.definitions.specs.Ways.{PlainWay, way_between}
use Rattle.definitions.specs.Steps.{place_of_step, shorten_at}
use Rattle.authority_ledger.specs.declared.ledger.Ledger.{Ledger}
use Rattle.authority_ledger.specs.declared.ledger.Shrink.{Shrink}
use Rattle.authority_ledger.specs.Ledger.{shorter, shift_end}
use Rattle.plain_state.specs.declared.Controlled.{Controlled}
use Rattle.plain_state.specs.Zone.{shortened_to, shortened}
use Rattle.way_laws.proofs.Between_points.{begin_of}
use Rattle.refinement_laws.proofs.Ledger_told.{shorter_shifted}
use Rattle.refinement_laws.proofs.Zone_kept.{kept_train}

none_shifted : (mm : ℕ) (p : Option Shrink) → is_none (shift_end mm p) ≡ is_none p
none_shifted mm None = refl
none_shifted mm (Some s) = refl

-- it is the same train
pub shortened_id : (len : Lengths) (st : DirSeg) (off : ℕ) (x : Controlled) → (shortened len st off x).id ≡ x.id
shortened_id len st off x = by_test (x.equipped && is_none x.ledger.pending)
    (λ y. rw y (by_place (place_of_step len x.way.path.steps.items st off)))
    (λ n. rw n refl)
  where
    by_place : (o : Option ℕ) → (shortened_to len o x).id ≡ x.id
    by_place None = refl
    by_place (Some p) = by_test (nat_le x.fronts.hi p && nat_lt p (end_place len x.way.path)) (λ y. rw y refl) (λ n. rw n refl)

-- a place as one of the route, and as one of the way
same_test : (start front p : ℕ) → start ≤ front → nat_le front (start + p) ≡ nat_le (front - start) p
same_test start front p h = grind (arith, nat_tests)

-- what comes of an order is the same by places of the way
pub shorten_same : (len : Lengths) (z : ℕ) (t : TrainId) (number : ℕ) (way : PlainWay) (start front : ℕ) → start ≤ front → (o : Option ℕ)
    → shorten_at len z t number way start front o ≡ shorten_at len z t number way 0 (front - start) o
shorten_same len z t number way start front h None = refl
shorten_same len z t number way start front h (Some p) =
    let e : 0 + p ≡ p = omega arith in
    rw (same_test start front p h, e) refl

module _ (len : Lengths) (t : ℕ) (known : Known) (steps : List DirSeg) (lo hi end at report : ℕ) (numbers : Ledger) (st : DirSeg) (off : ℕ) where
  abbrev begin : ℕ
  begin = begin_of len steps (lo - known.facts.long)

  abbrev w : PlainWay
  w = way_between len steps (lo - known.facts.long) end

  -- not of a train that is not equipped, nor while a shrink is unanswered
  pub unfit_kept : known.equipped ≡ false → shortened len st off (kept_train len t known steps lo hi end at report numbers) ≡ kept_train len t known steps lo hi end at report numbers
  unfit_kept unfit = rw unfit refl

  pub barred_kept : known.equipped ≡ true → is_none numbers.pending ≡ false → shortened len st off (kept_train len t known steps lo hi end at report numbers) ≡ kept_train len t known steps lo hi end at report numbers
  barred_kept fit pending = rw (fit, none_shifted begin numbers.pending, pending) refl

  module _ (fit : known.equipped ≡ true) (idle : numbers.pending ≡ None) where
    placed : (o : Option ℕ) → place_of_step len (way_between len steps (lo - known.facts.long) end).path.steps.items st off ≡ o
        → shortened len st off (kept_train len t known steps lo hi end at report numbers) ≡ shortened_to len o (kept_train len t known steps lo hi end at report numbers)
    placed o is =
        let x = kept_train len t known steps lo hi end at report numbers in
        let test : (known.equipped && is_none (shift_end begin numbers.pending)) ≡ true = rw (fit, none_shifted begin numbers.pending, idle) refl in
        ap (λ (b : Bool). if b then shortened_to len (place_of_step len w.path.steps.items st off) x else x) test ∙ ap (λ (q : Option ℕ). shortened_to len q x) is

    pub unplaced_kept : place_of_step len (way_between len steps (lo - known.facts.long) end).path.steps.items st off ≡ None
        → shortened len st off (kept_train len t known steps lo hi end at report numbers) ≡ kept_train len t known steps lo hi end at report numbers
    unplaced_kept is = placed None is

    module _ (p : ℕ) (is : place_of_step len (way_between len steps (lo - known.facts.long) end).path.steps.items st off ≡ Some p) (on : begin_of len steps (lo - known.facts.long) ≤ hi) where
      -- nor where the greatest front has passed the place, or the way ends before it
      pub refused_kept : (nat_le hi (begin_of len steps (lo - known.facts.long) + p) && nat_lt p (end_place len (way_between len steps (lo - known.facts.long) end).path)) ≡ false
          → shortened len st off (kept_train len t known steps lo hi end at report numbers) ≡ kept_train len t known steps lo hi end at report numbers
      refused_kept n =
          let x = kept_train len t known steps lo hi end at report numbers in
          let test : (nat_le (hi - begin) p && nat_lt p (end_place len w.path)) ≡ false = rw (same_test begin hi p on) at n in
          placed (Some p) is ∙ ap (λ (b : Bool). if b then record x { ledger = shorter p x.ledger } else x) test

      pub shortened_kept : (nat_le hi (begin_of len steps (lo - known.facts.long) + p) && nat_lt p (end_place len (way_between len steps (lo - known.facts.long) end).path)) ≡ true
          → shortened len st off (kept_train len t known steps lo hi end at report numbers)
          ≡ kept_train len t known steps lo hi end at report (shorter (begin_of len steps (lo - known.facts.long) + p) numbers)
      shortened_kept y =
          let x = kept_train len t known steps lo hi end at report numbers in
          let test : (nat_le (hi - begin) p && nat_lt p (end_place len w.path)) ≡ true = rw (same_test begin hi p on) at y in
          placed (Some p) is
          ∙ (ap (λ (b : Bool). if b then record x { ledger = shorter p x.ledger } else x) test
          ∙ ap (λ (l : Ledger). with_ledger l) (shorter_shifted begin p numbers idle))
        where
          with_ledger : Ledger → Controlled
          with_ledger l = record (kept_train len t known steps lo hi end at report numbers) { ledger = l }
