-- The trains after a message: none is there twice, and which of them fall silent.
use Rattle.std.proofs.Common.{◌≡◌, ℕ, suc, ◌≤◌, ◌<◌, max, Bool, true, false, not, ◌&&◌, List, [], ◌∷◌, length, map, Option, Some, None, is_some, refl, sym, ap, ◌∙◌, arith, nat_eq, nat_lt}
use Rattle.std.specs.Prelude.{⊤}
use Rattle.std.specs.List.{list_all}
use Rattle.std.proofs.lemmas.Bool.Decides.{nat_tests}
use Rattle.list_laws.proofs.By_test.{by_test, none_of}
use Rattle.track_points.specs.declared.ids.TrainId.{TrainId}
use Rattle.definitions.specs.declared.message.Msg.{Msg}
use Rattle.definitions.specs.declared.message.Msg.TheVariants as msg
use Rattle.definitions.specs.declared.message.Order.{Order}
use Rattle.definitions.specs.declared.message.Order.TheVariants as orders
use Rattle.definitions.specs.declared.outcome.Outcome.{Outcome}
use Rattle.definitions.specs.Track.{Line, seg_len, silent_after}
use Rattle.definitions.specs.Fronts.{silent_by}
use Rattle.definitions.specs.Control.{message_time}
use Rattle.plain_state.specs.declared.Controlled.{Controlled}
use Rattle.plain_state.specs.Zone.{find_controlled, change_controlled, placed_train, entered_or, train_at_entry, full, holder_plain, reach_plain, uses_mark, trains_acted_on, grown_train, plain_alarms, is_alarmed, report_or, alarm_of, lengthened, answer, reported_by, shortened, trains_ordered, fresh_train}
use Rattle.plain_state.specs.Refinement.{Distinct}
use Rattle.plain_state.proofs.Found_changed.{distinct_change, distinct_mapped, distinct_placed}
use Rattle.zone_state.proofs.Shortened_same.{shortened_same}
use Rattle.zone_trains.specs.Trains.{falls_silent, alarms_of}

no_some : (x : Controlled) → Some x ≡ None → ⊥
no_some x h = cc

-- a change that leaves each train its number
abbrev pub KeepsId : (Controlled → Controlled) → Type 0
KeepsId f = (x : Controlled) → (f x).id ≡ x.id

-- each of some trains is found by its number
unfoldable pub AllFound : List Controlled → List Controlled → Type 0
AllFound all [] = ⊤
AllFound all (y ∷ ys) = (find_controlled y.id.0 all ≡ Some y) × AllFound all ys

found_beyond : (x : Controlled) (all ys : List Controlled) → find_controlled x.id.0 all ≡ None → AllFound all ys → AllFound (x ∷ all) ys
unfolding AllFound find_controlled
found_beyond x all [] h f = tt
found_beyond x all (y ∷ ys) h f =
    by_test (nat_eq x.id.0 y.id.0)
    (λ e. absurd (let s : x.id.0 ≡ y.id.0 = grind (arith, nat_tests) in no_some y (sym f.0 ∙ ap (λ n. find_controlled n all) (sym s) ∙ h)))
    (λ n. (rw n f.0, found_beyond x all ys h f.1))

pub all_found : (xs : List Controlled) → Distinct xs → AllFound xs xs
unfolding Distinct AllFound find_controlled
all_found [] d = tt
all_found (x ∷ xs) d =
    let e : nat_eq x.id.0 x.id.0 ≡ true = grind (arith, nat_tests) in
    (rw e refl, found_beyond x xs xs d.0 (all_found xs d.1))

found_among : (all : List Controlled) (x : Controlled) (ys : List Controlled) → AllFound all (placed_train x ys) → AllFound all ys
unfolding AllFound placed_train
found_among all x [] f = tt
found_among all x (y ∷ ys) f =
    by_test (nat_lt x.id.0 y.id.0)
    (λ a. (rw a at f).1)
    (λ b. let g = rw b at f in (g.0, found_among all x ys g.1))

-- the trains before and after a message, one beside the other: whether each falls silent can be seen after it
unfoldable pub Beside : Line → ℕ → ℕ → List Controlled → List Controlled → Type 0
Beside line before clock [] [] = ⊤
Beside line before clock (x ∷ xs) (y ∷ ys) =
    (x.id ≡ y.id) × ((not (silent_by line x.report before) && silent_by line y.report clock) ≡ falls_silent (silent_after line) before clock y) × Beside line before clock xs ys
Beside line before clock [] (y ∷ ys) = ⊥
Beside line before clock (x ∷ xs) [] = ⊥

alarmed_is : (line : Line) (before clock : ℕ) (all : List Controlled) (x y : Controlled) → x.id ≡ y.id → find_controlled y.id.0 all ≡ Some y
    → is_alarmed line before clock all x ≡ (not (silent_by line x.report before) && silent_by line y.report clock)
alarmed_is line before clock all x y e f =
    let r : report_or (find_controlled x.id.0 all) ≡ y.report = ap (λ (i : TrainId). report_or (find_controlled i.0 all)) e ∙ ap report_or f in
    rw r refl

pub alarms_beside : (line : Line) (z before clock : ℕ) (all xs ys : List Controlled) → Beside line before clock xs ys → AllFound all ys
    → plain_alarms line z before clock xs all ≡ alarms_of (silent_after line) z before clock ys
unfolding Beside AllFound
alarms_beside line z before clock all [] [] b f = refl
alarms_beside line z before clock all [] (y ∷ ys) b f = absurd b
alarms_beside line z before clock all (x ∷ xs) [] b f = absurd b
alarms_beside line z before clock all (x ∷ xs) (y ∷ ys) b f =
    let a : is_alarmed line before clock all x ≡ falls_silent (silent_after line) before clock y = alarmed_is line before clock all x y b.0 f.0 ∙ b.1 in
    let i = alarms_beside line z before clock all xs ys b.2 f.1 in
    by_test (falls_silent (silent_after line) before clock y)
    (λ t. let q = a ∙ t in rw (q, t) (rw (b.0, i) refl))
    (λ n. let q = a ∙ n in rw (q, n) i)

-- growth changes no report
pub beside_grown : (line : Line) (before clock : ℕ) (xs : List Controlled) → Beside line before clock xs (map (grown_train clock) xs)
unfolding Beside
beside_grown line before clock [] = tt
beside_grown line before clock (x ∷ xs) = (refl, refl, beside_grown line before clock xs)

pub beside_changed : (line : Line) (before clock t : ℕ) (f : Controlled → Controlled) (xs : List Controlled) → KeepsId f
    → ((x : Controlled) → (not (silent_by line x.report before) && silent_by line (f x).report clock) ≡ falls_silent (silent_after line) before clock (f x))
    → Beside line before clock xs (change_controlled t f (map (grown_train clock) xs))
unfolding Beside change_controlled
beside_changed line before clock t f [] k r = tt
beside_changed line before clock t f (x ∷ xs) k r =
    by_test (nat_eq x.id.0 t)
    (λ y. rw y (sym (k (grown_train clock x)), r (grown_train clock x), beside_grown line before clock xs))
    (λ n. rw n (refl, refl, beside_changed line before clock t f xs k r))

-- a report that is used at its time leaves no train silent that was not
pub reported_silent : (line : Line) (before time report : ℕ)
    → (not (silent_by line report before) && silent_by line (max report time) (max before time)) ≡ (not (silent_by line (max report time) before) && silent_by line (max report time) (max before time))
reported_silent line before time report = grind (arith, nat_tests)

-- a train that has just entered is not silent
alarms_placed : (line : Line) (z before clock : ℕ) (x : Controlled) (ys : List Controlled) → falls_silent (silent_after line) before clock x ≡ false
    → alarms_of (silent_after line) z before clock ys ≡ alarms_of (silent_after line) z before clock (placed_train x ys)
unfolding placed_train
alarms_placed line z before clock x [] h = rw h refl
alarms_placed line z before clock x (y ∷ ys) h =
    by_test (nat_lt x.id.0 y.id.0)
    (λ a. rw (a, h) refl)
    (λ b. let i = alarms_placed line z before clock x ys h in
    by_test (falls_silent (silent_after line) before clock y)
    (λ t. rw (b, t) (ap (λ (os : List Outcome). alarm_of z y ∷ os) i))
    (λ n. rw (b, n) i))

-- what a change of a train's own does
pub record Follows (line : Line) (z before clock : ℕ) (old new : List Controlled) : Type 0 where
  pub distinct : Distinct new
  pub alarms : plain_alarms line z before clock old new ≡ alarms_of (silent_after line) z before clock new
  pub few : length new ≤ 256

pub length_mapped : (f : Controlled → Controlled) (xs : List Controlled) → length (map f xs) ≡ length xs
length_mapped f [] = refl
length_mapped f (x ∷ xs) = ap suc (length_mapped f xs)

length_changed : (t : ℕ) (f : Controlled → Controlled) (xs : List Controlled) → length (change_controlled t f xs) ≡ length xs
unfolding change_controlled
length_changed t f [] = refl
length_changed t f (x ∷ xs) = by_test (nat_eq x.id.0 t) (λ y. rw y refl) (λ n. rw n (ap suc (length_changed t f xs)))

length_placed : (x : Controlled) (xs : List Controlled) → length (placed_train x xs) ≡ suc (length xs)
unfolding placed_train
length_placed x [] = refl
length_placed x (y ∷ ys) = by_test (nat_lt x.id.0 y.id.0) (λ a. rw a refl) (λ b. rw b (ap suc (length_placed x ys)))

module _ (line : Line) (z before clock : ℕ) (old : List Controlled) (d : Distinct old) (few : length old ≤ 256) where
  pub grown_follows : Follows line z before clock old (map (grown_train clock) old)
  grown_follows =
      let e = distinct_mapped (grown_train clock) old (λ x. refl) d in
      record {
        distinct = e;
        alarms = alarms_beside line z before clock (map (grown_train clock) old) old (map (grown_train clock) old) (beside_grown line before clock old) (all_found _ e);
        few = let l = length_mapped (grown_train clock) old in omega arith;
      }

  changed_follows : (t : ℕ) (f : Controlled → Controlled) → KeepsId f
      → ((x : Controlled) → (not (silent_by line x.report before) && silent_by line (f x).report clock) ≡ falls_silent (silent_after line) before clock (f x))
      → Follows line z before clock old (change_controlled t f (map (grown_train clock) old))
  changed_follows t f k r =
      let e = distinct_change t f (map (grown_train clock) old) k grown_follows.distinct in
      record {
        distinct = e;
        alarms = alarms_beside line z before clock _ old (change_controlled t f (map (grown_train clock) old)) (beside_changed line before clock t f old k r) (all_found _ e);
        few = let l = length_mapped (grown_train clock) old in let m = length_changed t f (map (grown_train clock) old) in omega arith;
      }

  placed_follows : (x : Controlled) → find_controlled x.id.0 (map (grown_train clock) old) ≡ None → x.report ≡ clock → length old < 256
      → Follows line z before clock old (placed_train x (map (grown_train clock) old))
  placed_follows x h r l =
      let trains = map (grown_train clock) old in
      let e = distinct_placed x trains h grown_follows.distinct in
      let n : falls_silent (silent_after line) before clock x ≡ false = rw r (grind (arith, nat_tests)) in
      record {
        distinct = e;
        alarms = alarms_beside line z before clock (placed_train x trains) old trains (beside_grown line before clock old) (found_among _ x trains (all_found _ e))
            ∙ alarms_placed line z before clock x trains n;
        few = let a = length_mapped (grown_train clock) old in let m = length_placed x trains in omega arith;
      }

  entered_follows : (holder : Option ℕ) (x : Controlled) → find_controlled x.id.0 (map (grown_train clock) old) ≡ None → x.report ≡ clock → length old < 256
      → Follows line z before clock old (entered_or holder x (map (grown_train clock) old))
  entered_follows (Some u) x h r l = grown_follows
  entered_follows None x h r l = placed_follows x h r l

  ordered_follows : (order : Order) → Follows line z before clock old (trains_ordered (seg_len line) order (map (grown_train clock) old))
  ordered_follows (orders.Short t st off) = changed_follows t.0 (shortened (seg_len line) st off)
      (λ x. (shortened_same (seg_len line) st off x).id)
      (λ x. let e = (shortened_same (seg_len line) st off x).report in rw e refl)
  ordered_follows _ = grown_follows

  pub after_follows : (closed : List Bool) (m : Msg) → clock ≡ max before (message_time m) → Follows line z before clock old (trains_acted_on line z clock (map (grown_train clock) old) closed m)
  after_follows closed (msg.EntryAsk t time long error speed equipped step) c =
      let trains = map (grown_train clock) old in
      by_test (is_some (find_controlled t.0 trains))
      (λ y. rw y grown_follows)
      (λ n. by_test (full trains)
      (λ y. rw (n, y) grown_follows)
      (λ k. by_test (nat_lt (seg_len line step.seg.0) long)
      (λ y. rw (n, k, y) grown_follows)
      (λ i. let a = length_mapped (grown_train clock) old in
      rw (n, k, i) (entered_follows (holder_plain line z trains step.seg.0) (train_at_entry clock t (seg_len line step.seg.0) long error speed equipped step) (none_of _ n) refl (grind (arith, nat_tests))))))
  after_follows closed (msg.Ask t time steps to) c =
      by_test (nat_eq (reach_plain line z clock (map (grown_train clock) old) closed t.0 steps.items to).distance 0)
      (λ y. rw y grown_follows)
      (λ n. rw n (changed_follows t.0 (lengthened (seg_len line) steps.items (reach_plain line z clock (map (grown_train clock) old) closed t.0 steps.items to).distance) (λ x. refl) (λ x. refl)))
  after_follows closed (msg.Report t time mark offset integrity) c =
      by_test (uses_mark (find_controlled t.0 (map (grown_train clock) old)) mark)
      (λ y. rw y (changed_follows t.0 (reported_by (seg_len line) time mark offset integrity) (λ x. refl) (λ x. rw c (reported_silent line before time x.report))))
      (λ n. rw n grown_follows)
  after_follows closed (msg.Answer t time number taken) c = changed_follows t.0 (answer (seg_len line) number taken) (λ x. refl) (λ x. refl)
  after_follows closed (msg.Order time order) c = ordered_follows order
  after_follows closed _ c = grown_follows

-- growth changes no number
pub fresh_grown : (clock : ℕ) (xs : List Controlled) → list_all fresh_train (map (grown_train clock) xs) ≡ list_all fresh_train xs
fresh_grown clock [] = refl
fresh_grown clock (x ∷ xs) = rw (fresh_grown clock xs) refl
