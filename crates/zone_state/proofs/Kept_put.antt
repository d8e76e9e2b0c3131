-- What a zone keeps of its trains, as they change.
use Rattle.std.proofs.Common.{◌≡◌, ℕ, suc, zero, ◌<◌, ◌≤◌, Bool, true, ◌&&◌, List, [], ◌∷◌, length, map, get_or, refl, sym, ap, ◌∙◌, arith}
use Rattle.std.specs.List.{list_all, insert}
use Rattle.std.proofs.Math.ListN.{set}
use Rattle.std.proofs.lemmas.Bool.{and_parts}
use Rattle.std.proofs.lemmas.List.{length-set, get_or-set_same}
use Rattle.std.proofs.lemmas.List.Edits.{length-insert}
use Rattle.std.proofs.lemmas.List.Sorted.{IsNonDecreasingBy-insert}
use Rattle.list_laws.proofs.By_test.{by_test}
use Rattle.track_points.specs.declared.ids.TrainId.{TrainId}
use Rattle.track_points.specs.Sets.{Points}
use Rattle.plain_state.specs.declared.Controlled.{Controlled}
use Rattle.plain_state.specs.Zone.{grown_train, fresh_train}
use Rattle.zone_trains.specs.Trains.{Ascend}
use Rattle.zone_state.specs.Zone.{AreKept}
use Rattle.zone_state.proofs.After_follows.{length_mapped, fresh_grown}

-- One train changed.

same_id : (xs : List Controlled) (i : ℕ) (x y : Controlled) (k : ℕ) (d : Controlled) → x ≡ get_or xs i x → y.id ≡ x.id → (get_or (set xs i y) k d).id ≡ (get_or xs k d).id
same_id [] i x y k d e h = refl
same_id (z ∷ zs) zero x y zero d e h = h ∙ ap (λ (u : Controlled). u.id) e
same_id (z ∷ zs) zero x y (suc k) d e h = refl
same_id (z ∷ zs) (suc i) x y zero d e h = refl
same_id (z ∷ zs) (suc i) x y (suc k) d e h = same_id zs i x y k d e h

ascend_set : (xs : List Controlled) (i : ℕ) (x y : Controlled) → x ≡ get_or xs i x → y.id ≡ x.id → Ascend xs → Ascend (set xs i y)
ascend_set xs i x y e h up = λ a b d le lt.
    let p : (get_or (set xs i y) a d).id.0 ≡ (get_or xs a d).id.0 = ap (λ (u : TrainId). u.0) (same_id xs i x y a d e h) in
    let q : (get_or (set xs i y) b d).id.0 ≡ (get_or xs b d).id.0 = ap (λ (u : TrainId). u.0) (same_id xs i x y b d e h) in
    let n = length-set xs i y in
    let o = up a b d le (omega arith) in
    omega arith

all_set : (test : Controlled → Bool) (xs : List Controlled) (i : ℕ) (y : Controlled) → list_all test xs ≡ true → i < length xs → test y ≡ list_all test (set xs i y)
all_set test [] i y h l = absurd (omega arith)
all_set test (x ∷ xs) zero y h l =
    let r = (and_parts (test x) (list_all test xs) h).1 in by_test (test y) (λ t. rw (t, r) refl) (λ n. rw n refl)
all_set test (x ∷ xs) (suc i) y h l = let k = and_parts (test x) (list_all test xs) h in let t = k.0 in rw t (all_set test xs i y k.1 (omega arith))

-- the train is looked at once more, as it is then
pub kept_train : (xs : List Controlled) (holds : List Points) (fresh : Bool) (i : ℕ) (x y z : Controlled) → AreKept xs holds fresh → list_all fresh_train xs ≡ true → i < length xs
    → x ≡ get_or xs i x → y.id ≡ x.id → z ≡ get_or (set xs i y) i z → AreKept (set xs i y) holds (fresh_train z)
kept_train xs holds fresh i x y z k all l e h f = record {
  beside = k.beside ∙ sym (length-set xs i y);
  ascend = ascend_set xs i x y e h k.ascend;
  all = ap fresh_train (f ∙ get_or-set_same xs i y z l) ∙ all_set fresh_train xs i y all l;
}

pub kept_hold : (xs : List Controlled) (holds : List Points) (fresh : Bool) (i : ℕ) (hold : Points) → AreKept xs holds fresh → AreKept xs (set holds i hold) fresh
kept_hold xs holds fresh i hold k = record { beside = length-set holds i hold ∙ k.beside; ascend = k.ascend; all = k.all }

-- All of them grown.

grown_id : (clock : ℕ) (xs : List Controlled) (k : ℕ) (d : Controlled) → (get_or (map (grown_train clock) xs) k d).id ≡ (get_or xs k d).id
grown_id clock [] k d = refl
grown_id clock (x ∷ xs) zero d = refl
grown_id clock (x ∷ xs) (suc k) d = grown_id clock xs k d

pub kept_grown : (clock : ℕ) (xs : List Controlled) (holds : List Points) (fresh : Bool) → AreKept xs holds fresh → AreKept (map (grown_train clock) xs) holds fresh
kept_grown clock xs holds fresh k =
    let n = length_mapped (grown_train clock) xs in
    record {
      beside = k.beside ∙ sym n;
      ascend = λ a b d le lt.
          let p : (get_or (map (grown_train clock) xs) a d).id.0 ≡ (get_or xs a d).id.0 = ap (λ (u : TrainId). u.0) (grown_id clock xs a d) in
          let q : (get_or (map (grown_train clock) xs) b d).id.0 ≡ (get_or xs b d).id.0 = ap (λ (u : TrainId). u.0) (grown_id clock xs b d) in
          let o = k.ascend a b d le (omega arith) in
          omega arith;
      all = k.all ∙ sym (fresh_grown clock xs);
    }

-- One more.

all_insert : (test : Controlled → Bool) (xs : List Controlled) (i : ℕ) (x : Controlled) → test x ≡ true → list_all test xs ≡ list_all test (insert xs i x)
all_insert test [] zero x h = rw h refl
all_insert test [] (suc i) x h = rw h refl
all_insert test (y ∷ ys) zero x h = rw h refl
all_insert test (y ∷ ys) (suc i) x h = ap (λ (b : Bool). test y && b) (all_insert test ys i x h)

pub kept_put : (xs : List Controlled) (holds : List Points) (fresh : Bool) (i : ℕ) (x : Controlled) (hold : Points) → AreKept xs holds fresh → fresh_train x ≡ true → i ≤ length xs
    → ((k : ℕ) (d : Controlled) → k < i → (get_or xs k d).id.0 ≤ x.id.0) → ((k : ℕ) (d : Controlled) → i ≤ k → k < length xs → x.id.0 < (get_or xs k d).id.0)
    → AreKept (insert xs i x) (insert holds i hold) fresh
kept_put xs holds fresh i x hold k new l below rest =
    let b = k.beside in
    record {
      beside = let m = length-insert xs i x l in let n = length-insert holds i hold (omega arith) in omega arith;
      ascend = IsNonDecreasingBy-insert (λ (y : Controlled). y.id.0) xs i x k.ascend l below (λ j d h m. let more = rest j d h m in omega arith);
      all = k.all ∙ all_insert fresh_train xs i x new;
    }
