-- Where the head of a train lies on an authority.
use Rattle.std.proofs.Common.{◌≡◌, ℕ, ◌+◌, ◌-◌, ◌<◌, ◌≤◌, List, [], ◌∷◌, ◌++◌, length, take, drop, Some, true, refl, sym, ◌∙◌, ap, arith}
use Rattle.std.proofs.lemmas.Bool.Decides.{nat_tests}
use Rattle.std.proofs.lemmas.List.{length-take-le, length-drop, length-append, get_or-drop, get_or-take, take-append-le, take_all}
use Rattle.std.proofs.lemmas.Option.{slice_get-get_or}
use Rattle.std.proofs.Math.Seq.{take-add, drop-append_seam, take-append_seam}
use Rattle.std.specs.Prelude.{nat_le, slice_get}
use Rattle.list_laws.proofs.By_test.{by_test}
use Rattle.track_points.specs.declared.ids.DirSeg.{DirSeg}
use Rattle.track_points.specs.Points.{total, place_of_last, steps_to}
use Rattle.definitions.specs.Track.{Line, seg_len, last_step}
use Rattle.definitions.specs.Premises.{head_offset}
use Rattle.definitions.specs.Story.{Story}
use Rattle.definitions.specs.World.{Authority, route, authority_end, entered, head, journey}
use Rattle.definitions.specs.Control.{controls}
use Rattle.definitions.specs.Longest.{longest_end, longest_route}
use Rattle.definitions.specs.Zones.{zone_id}
use Rattle.journey_laws.proofs.Motion.{place, Motion}
use Rattle.way_laws.proofs.Cut_front.{cut_front, cut_end, total_append}
use Rattle.way_laws.proofs.Cut_cut.{before_last, cut_cut, cut_longer}
use Rattle.journey_laws.proofs.Journey_track.{journey_ends}
use Rattle.journey_laws.proofs.Invariant.{step_begin, AuthorityIs, Authorized}
use Rattle.journey_laws.proofs.One_route.{OneRoute, one_route}
use Rattle.journey_laws.proofs.First_steps.{controlled_reaches}

-- Places of a list.

abbrev no_step : DirSeg
no_step = last_step []

slice_behind : (m k : ℕ) (xs : List DirSeg) → m + k < length xs → slice_get (drop m xs) k ≡ slice_get xs (m + k)
slice_behind m k xs h =
    let l = length-drop m xs in
    slice_get-get_or (drop m xs) k no_step (omega arith) ∙ (ap (λ (x : DirSeg). Some x) (get_or-drop m xs k no_step) ∙ sym (slice_get-get_or xs (m + k) no_step h))

slice_front : (n k : ℕ) (xs : List DirSeg) → k < n → n ≤ length xs → slice_get (take n xs) k ≡ slice_get xs k
slice_front n k xs a b =
    let l = length-take-le n xs b in
    slice_get-get_or (take n xs) k no_step (omega arith) ∙ (ap (λ (x : DirSeg). Some x) (get_or-take n xs k no_step a) ∙ sym (slice_get-get_or xs k no_step (omega arith)))

pub slice_last : (xs : List DirSeg) → 0 < length xs → slice_get xs (length xs - 1) ≡ Some (last_step xs)
unfolding last_step
slice_last [] h = absurd (omega arith)
slice_last (st ∷ []) h = refl
slice_last (st ∷ next ∷ xs) h =
    ap (λ (k : ℕ). slice_get (st ∷ next ∷ xs) k) (let e : length (st ∷ next ∷ xs) - 1 ≡ 1 + (length (next ∷ xs) - 1) = omega arith in e)
    ∙ (sym (slice_behind 1 (length (next ∷ xs) - 1) (st ∷ next ∷ xs) (omega arith)) ∙ slice_last (next ∷ xs) (omega arith))

-- Where the head lies on an authority that ends no nearer.
pub record HeadOn (line : Line) (t : ℕ) (s : Story) (a : Authority) : Type 0 where
  pub mark : a.mark ≤ length (journey line t s) - 1
  pub step : slice_get a.path.steps.items (length (journey line t s) - 1 - a.mark) ≡ Some (last_step (journey line t s))
  pub place : step_begin line t s a.mark + (total (seg_len line) (take (length (journey line t s) - 1 - a.mark) a.path.steps.items) + head_offset line t s) ≡ head t s

-- the last of the first steps of a list, and where it begins, on the steps from a mark on
on_behind : (j m : ℕ) (before steps : List DirSeg) → length before ≡ m → m < j → j ≤ m + length steps → slice_get steps (j - 1 - m) ≡ slice_get (before ++ steps) (j - 1)
on_behind j m before steps l a b =
    let e : m + (j - 1 - m) ≡ j - 1 = omega (arith, a) in
    let n = length-append before steps in
    let d : drop m (before ++ steps) ≡ steps = ap (λ (k : ℕ). drop k (before ++ steps)) (sym l) ∙ drop-append_seam before steps in
    ap (λ xs. slice_get xs (j - 1 - m)) (sym d) ∙ slice_behind m (j - 1 - m) (before ++ steps) (omega (arith, a, b, n, l)) ∙ ap (slice_get (before ++ steps)) e

-- A train that its zone controls.
module _ (line : Line) (t : ℕ) (s : Story) (k : Authorized line t s) (motion : Motion t s) (c : controls (zone_id line) t s ≡ true) where
  pub place_on : entered t s ≡ true → place t s ≡ head t s
  place_on on = rw on refl

  one : OneRoute line t s (longest_route line t s) (longest_end line t s)
  one = one_route line t s k c motion

  -- the step of the head begins as far before it as the offset there says
  pub head_place : step_begin line t s (length (journey line t s) - 1) + head_offset line t s ≡ head t s
  head_place =
      let len = seg_len line in
      let steps = journey line t s in
      sym (before_last len steps (head_offset line t s))
      ∙ ap (λ xs. place_of_last len xs (head_offset line t s)) (sym (journey_ends line t s))
      ∙ cut_end len steps (head t s) (controlled_reaches line t s k c motion)

  -- an authority has no more steps than the one route up to its end
  pub steps_few : (a : Authority) → AuthorityIs line t s a → a.mark + length a.path.steps.items ≤ length (steps_to (seg_len line) (longest_route line t s) (longest_end line t s))
  steps_few a is =
      let n = ap (λ (xs : List DirSeg). length xs) is.on in
      let l = length-append (take a.mark (journey line t s)) a.path.steps.items in
      let m = length-take-le a.mark (journey line t s) is.mark in
      let w = cut_longer (seg_len line) (longest_route line t s) (authority_end (seg_len line) (journey line t s) a) (longest_end line t s) is.within in
      omega (arith, n, l, m, w)

  module _ (on : entered t s ≡ true) (a : Authority) (is : AuthorityIs line t s a) (ahead : head t s ≤ authority_end (seg_len line) (journey line t s) a) where
    abbrev steps : List DirSeg
    steps = journey line t s

    abbrev j : ℕ
    j = length (journey line t s)

    abbrev before : List DirSeg
    before = take a.mark (journey line t s)

    -- the journey is the first steps of the authority's route
    journey_first : (rest : List DirSeg) × (route (journey line t s) a ≡ journey line t s ++ rest)
    journey_first =
        let len = seg_len line in
        let f = cut_front len (route steps a) (head t s) in
        let e : steps_to len (route steps a) (head t s) ≡ steps =
        ap (λ xs. steps_to len xs (head t s)) is.on ∙ cut_cut len (longest_route line t s) (head t s) (authority_end len steps a) ahead ∙ sym (one).journey_on in
        (f.0, f.1 ∙ ap (λ xs. xs ++ f.0) e)

    begins : step_begin line t s a.mark < head t s
    begins =
        let b = is.behind in
        let p = place_on on in
        let some = k.long_some is.declared in
        omega (arith, b, p, some)

    mark_before : a.mark < j
    mark_before =
        let b = begins in
        let h = controlled_reaches line t s k c motion in
        by_test (nat_le j a.mark)
        (λ y.
        let all : before ≡ steps = take_all a.mark steps (grind (arith, nat_tests)) in
        let e = ap (total (seg_len line)) all in
        absurd (omega (arith, b, h, e)))
        (λ n. grind (arith, nat_tests))

    mark_long : length (take a.mark (journey line t s)) ≡ a.mark
    mark_long = length-take-le a.mark steps is.mark

    few : j ≤ a.mark + length a.path.steps.items
    few =
        let f = journey_first in
        let e = ap (λ (xs : List DirSeg). length xs) f.1 in
        let l = length-append before a.path.steps.items in
        let r = length-append steps f.0 in
        let m = mark_long in
        omega (arith, e, l, r, m)

    pub head_on : HeadOn line t s a
    head_on =
        let len = seg_len line in
        let f = journey_first in
        let less = mark_before in
        let most = few in
        let m = mark_long in
        let i = j - 1 - a.mark in
        let last_ : slice_get (route steps a) (j - 1) ≡ Some (last_step steps) =
        ap (λ xs. slice_get xs (j - 1)) f.1 ∙ sym (slice_front j (j - 1) (steps ++ f.0) (omega (arith, less)) (let l = length-append steps f.0 in omega (arith, l)))
        ∙ ap (λ xs. slice_get xs (j - 1)) (take-append_seam steps f.0) ∙ slice_last steps (omega (arith, less)) in
        let sum : a.mark + i ≡ j - 1 = omega (arith, less) in
        let front : take a.mark (route steps a) ≡ before = ap (λ (k : ℕ). take k (route steps a)) (sym m) ∙ take-append_seam before a.path.steps.items in
        let rest : drop a.mark (route steps a) ≡ a.path.steps.items = ap (λ (k : ℕ). drop k (route steps a)) (sym m) ∙ drop-append_seam before a.path.steps.items in
        let split : total len (take (j - 1) (route steps a)) ≡ total len before + total len (take i a.path.steps.items) =
        ap (λ (k : ℕ). total len (take k (route steps a))) (sym sum) ∙ ap (total len) (take-add a.mark i (route steps a)) ∙ total_append len (take a.mark (route steps a)) (take i (drop a.mark (route steps a)))
        ∙ ap (λ xs. total len xs + total len (take i (drop a.mark (route steps a)))) front ∙ ap (λ xs. total len before + total len (take i xs)) rest in
        let same : total len (take (j - 1) (route steps a)) ≡ total len (take (j - 1) steps) = ap (λ xs. total len (take (j - 1) xs)) f.1 ∙ ap (total len) (take-append-le (j - 1) steps f.0 (omega arith)) in
        let h = head_place in
        record {
          mark = omega (arith, less);
          step = on_behind j a.mark before a.path.steps.items m less most ∙ last_;
          place = omega (arith, split, same, h);
        }
