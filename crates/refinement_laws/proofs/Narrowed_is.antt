-- A kept train after a used report: where it is, and its way cut behind its rear.
use Rattle.std.proofs.Common.{◌≡◌, ℕ, ◌+◌, ◌-◌, ◌<◌, ◌≤◌, max, List, take, drop, Bool, true, ◌∙◌, ap, arith}
use Rattle.std.proofs.lemmas.List.{drop-drop}
use Rattle.std.proofs.Math.Seq.{take-add}
use Rattle.std.specs.Prelude.{ℤ, pos, ◌+ℤ◌}
use Rattle.track_points.specs.declared.ids.DirSeg.{DirSeg}
use Rattle.track_points.specs.Points.{Lengths, total, steps_to, offset_to}
use Rattle.envelope.specs.declared.fronts.Fronts.{Fronts}
use Rattle.envelope.specs.Fronts.{farthest_move}
use Rattle.definitions.specs.declared.outcome.Outcome.{Outcome}
use Rattle.definitions.specs.declared.outcome.Outcome.TheVariants as out
use Rattle.definitions.specs.Ways.{PlainWay, steps_behind, way_between, rear_at, front_at}
use Rattle.definitions.specs.Control.{Known}
use Rattle.definitions.specs.Steps.{place_line}
use Rattle.authority_ledger.specs.declared.ledger.Ledger.{Ledger}
use Rattle.authority_ledger.specs.Ledger.{shifted}
use Rattle.way_path.specs.Ways.{with_end}
use Rattle.plain_state.specs.declared.Controlled.{Controlled}
use Rattle.plain_state.specs.Zone.{has_mark, narrowed_by, checked, check, cut_behind, place_of_train}
use Rattle.way_laws.proofs.Cut_front.{total_append}
use Rattle.way_laws.proofs.Between_points.{begin_of, behind_from, behind_take, between_rear_at, between_front_at}
use Rattle.step_laws.proofs.Narrowed_shifted.{narrowed_to, narrowed_shifted}
use Rattle.refinement_laws.proofs.Ledger_told.{shifted_twice, checked_shifted}
use Rattle.refinement_laws.proofs.Zone_kept.{kept_train}
use Rattle.refinement_laws.proofs.Mark_is.{named_is, behind_way}

module _ (len : Lengths) (t : ℕ) (known : Known) (steps : List DirSeg) (lo hi end at report : ℕ) (numbers : Ledger) (long : known.facts.long ≤ lo) (some : 1 ≤ known.facts.long) (ordered : lo ≤ hi) (within : hi ≤ end) (room : end ≤ total len steps) where
  abbrev rear : ℕ
  rear = lo - known.facts.long

  order : lo - known.facts.long < end
  order = omega (arith, long, some, ordered, within)

  abbrev begin : ℕ
  begin = begin_of len steps rear

  abbrev w : PlainWay
  w = way_between len steps rear end

  -- the train with other fronts, another report and other numbers, before its way is cut
  abbrev pub shown_train : ℕ → ℕ → ℕ → Ledger → Controlled
  shown_train low high told kept = record {
    id = record { 0 = t };
    train_length = known.facts.long;
    error = known.facts.error;
    speed = known.facts.speed;
    way = with_end len (way_between len steps (lo - known.facts.long) end);
    fronts = record { lo = low - begin_of len steps (lo - known.facts.long); hi = high - begin_of len steps (lo - known.facts.long); at = at };
    report = told;
    equipped = known.equipped;
    ledger = shifted (begin_of len steps (lo - known.facts.long)) kept;
  }

  module _ (time mark : ℕ) (offset : ℤ) (integrity : Bool) (marked : has_mark (way_between len steps (lo - known.facts.long) end) mark ≡ true) where
    abbrev est : ℤ
    est = pos (total len (take mark steps)) +ℤ offset

    abbrev left : Fronts
    left = narrowed_to (record { lo = lo; hi = hi; at = at }) est known.facts.error (farthest_move known.facts.speed (at - time)) integrity

    pub narrowed_is : narrowed_by len time mark offset integrity (kept_train len t known steps lo hi end at report numbers)
        ≡ shown_train (narrowed_to (record { lo = lo; hi = hi; at = at }) (pos (total len (take mark steps)) +ℤ offset) known.facts.error (farthest_move known.facts.speed (at - time)) integrity).lo
        (narrowed_to (record { lo = lo; hi = hi; at = at }) (pos (total len (take mark steps)) +ℤ offset) known.facts.error (farthest_move known.facts.speed (at - time)) integrity).hi (max report time) numbers
    narrowed_is =
        let b = behind_from len steps rear in
        let named = named_is len steps rear end order room mark offset marked in
        ap (λ (place : ℤ). with_fronts (narrowed_to (record { lo = lo - begin; hi = hi - begin; at = at }) place known.facts.error (farthest_move known.facts.speed (at - time)) integrity)) named
        ∙ ap (λ (x : Fronts). with_fronts x) (narrowed_shifted (record { lo = lo; hi = hi; at = at }) begin est known.facts.error (farthest_move known.facts.speed (at - time)) integrity (omega (arith, b)) ordered)
      where
        with_fronts : Fronts → Controlled
        with_fronts x = record {
          id = record { 0 = t };
          train_length = known.facts.long;
          error = known.facts.error;
          speed = known.facts.speed;
          way = with_end len (way_between len steps (lo - known.facts.long) end);
          fronts = x;
          report = max report time;
          equipped = known.equipped;
          ledger = shifted (begin_of len steps (lo - known.facts.long)) numbers;
        }

  -- Fronts that are narrower.
  module _ (low high told : ℕ) (kept : Ledger) (least : lo ≤ low) (narrow : low ≤ high) (most : high ≤ hi) where
    pub place_is : (z : ℕ) → place_of_train len z (shown_train low high told kept) ≡ place_line len z (record { 0 = t }) steps (low - known.facts.long) high
    place_is z =
        let b = behind_from len steps rear in
        let r = between_rear_at len steps rear end order room (low - known.facts.long) (omega (arith, b, least)) (omega (arith, least, narrow, most, within, some, long)) in
        let g = between_front_at len steps rear end order room high (omega (arith, b, least, narrow, some, long)) (omega (arith, most, within)) in
        let e : low - begin - known.facts.long ≡ low - known.facts.long - begin = omega arith in
        ap (λ (n : ℕ). line_of (rear_at len w.path.steps.items n) (front_at len w.path.steps.items (high - begin))) e
        ∙ (ap (λ (x : DirSeg × ℕ). line_of x (front_at len w.path.steps.items (high - begin))) r ∙ ap (λ (x : DirSeg × ℕ). line_of (rear_at len steps (low - known.facts.long)) x) g)
      where
        line_of : DirSeg × ℕ → DirSeg × ℕ → Outcome
        line_of x y = out.Place (record { 0 = z }) (record { 0 = t }) x.0 x.1 y.0 y.1

    abbrev rear2 : ℕ
    rear2 = low - known.facts.long

    abbrev k : ℕ
    k = steps_behind len w.path.steps.items (rear2 - begin)

    abbrev cut : List DirSeg
    cut = steps_to len steps end

    mark_later : w.mark + k ≡ steps_behind len steps rear2
    mark_later = behind_way len steps rear end order room rear2 (omega (arith, least)) (omega (arith, narrow, most, within, some, long, least))

    begin_later : begin + total len (take k w.path.steps.items) ≡ begin_of len steps rear2
    begin_later =
        let m = mark_later in
        let one = ap (total len) (behind_take len steps rear end order) in
        let two = ap (total len) (behind_take len steps rear2 end (omega (arith, narrow, most, within, some, long, least))) in
        let three = ap (λ (n : ℕ). total len (take n cut)) m in
        let four = ap (total len) (take-add w.mark k cut) ∙ total_append len (take w.mark cut) (take k (drop w.mark cut)) in
        omega (arith, one, two, three, four)

    items_later : drop k w.path.steps.items ≡ drop (steps_behind len steps rear2) cut
    items_later = drop-drop k w.mark cut ∙ ap (λ (n : ℕ). drop n cut) mark_later

    -- the check of the least front
    pub check_is : check (shown_train low high told kept) ≡ shown_train low high told (checked low kept.pending kept)
    check_is =
        let b = behind_from len steps rear in
        ap (λ (l : Ledger). with_ledger l) (checked_shifted begin low kept.pending kept (omega (arith, b, long, some, least)))
      where
        with_ledger : Ledger → Controlled
        with_ledger l = record (shown_train low high told kept) { ledger = l }

    pub cut_is : cut_behind len (low - begin_of len steps (lo - known.facts.long) - known.facts.long) (shown_train low high told kept) ≡ kept_train len t known steps low high end at told kept
    cut_is =
        let e : low - begin - known.facts.long ≡ rear2 - begin = omega arith in
        let b = begin_later in
        let one : rear2 - begin - total len (take k w.path.steps.items) ≡ rear2 - begin_of len steps rear2 = omega (arith, b) in
        let two : low - begin - total len (take k w.path.steps.items) ≡ low - begin_of len steps rear2 = omega (arith, b) in
        let three : high - begin - total len (take k w.path.steps.items) ≡ high - begin_of len steps rear2 = omega (arith, b) in
        let dropped = total len (take k w.path.steps.items) in
        ap (λ (n : ℕ). cut_behind len n (shown_train low high told kept)) e
        ∙ (ap (λ (n : ℕ). with_parts n (drop k w.path.steps.items) (rear2 - begin - dropped) (low - begin - dropped) (high - begin - dropped) (shifted dropped (shifted begin kept))) mark_later
        ∙ (ap (λ (xs : List DirSeg). with_parts (steps_behind len steps rear2) xs (rear2 - begin - dropped) (low - begin - dropped) (high - begin - dropped) (shifted dropped (shifted begin kept))) items_later
        ∙ (ap (λ (n : ℕ). with_parts (steps_behind len steps rear2) (drop (steps_behind len steps rear2) cut) n (low - begin - dropped) (high - begin - dropped) (shifted dropped (shifted begin kept))) one
        ∙ (ap (λ (n : ℕ). with_parts (steps_behind len steps rear2) (drop (steps_behind len steps rear2) cut) (rear2 - begin_of len steps rear2) n (high - begin - dropped) (shifted dropped (shifted begin kept))) two
        ∙ (ap (λ (n : ℕ). with_parts (steps_behind len steps rear2) (drop (steps_behind len steps rear2) cut) (rear2 - begin_of len steps rear2) (low - begin_of len steps rear2) n (shifted dropped (shifted begin kept))) three
        ∙ ap (λ (l : Ledger). with_parts (steps_behind len steps rear2) (drop (steps_behind len steps rear2) cut) (rear2 - begin_of len steps rear2) (low - begin_of len steps rear2) (high - begin_of len steps rear2) l)
        (shifted_twice begin dropped kept ∙ ap (λ (n : ℕ). shifted n kept) b))))))
      where
        with_parts : ℕ → List DirSeg → ℕ → ℕ → ℕ → Ledger → Controlled
        with_parts mark items from a b l = record {
          id = record { 0 = t };
          train_length = known.facts.long;
          error = known.facts.error;
          speed = known.facts.speed;
          way = with_end len (record {
            mark = mark;
            path = record { steps = record { items = items }; from = from; to = offset_to len steps end };
          });
          fronts = record { lo = a; hi = b; at = at };
          report = told;
          equipped = known.equipped;
          ledger = l;
        }
