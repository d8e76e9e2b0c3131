-- What the calls of a set need.
use Rattle.std.proofs.Common.{◌≡◌, ℕ, ◌+◌, ◌<◌, ◌≤◌, Bool, true, false, not, ◌&&◌, ◌||◌, List, [], ◌∷◌, ◌++◌, length, length-append, if◌then◌else◌, refl, sym, ◌∙◌, arith, nat_eq, nat_lt}
use Rattle.std.proofs.lemmas.Bool.Decides.{nat_tests}
use Rattle.list_laws.proofs.By_test.{by_test}
use mathlib.Core.Logic.{inl, inr}
use Rattle.track_points.specs.declared.ids.SwitchId.{SwitchId}
use Rattle.track_points.specs.declared.ids.Range.{Range}
use Rattle.track_points.proofs.Shortest.{shortest}
use Rattle.track_points.proofs.Both_all_held.{minus_all_held, minus_all_separate, both_all_held, both_all_separate}
use Rattle.track_points.proofs.Fuse_all_held.{fuse_held, fuse_separate, fuse_all_held, fuse_all_separate}
use Rattle.track_points.specs.Sets.{in_range, held, all_apart, separate, NeedsMoreRanges, token_in, tokens_distinct, Has, Refused, TokenRefused, JoinRefused, IsTidy}
use Rattle.track_points.specs.Lists.{fuse, fuse_all, minus_all, both_all, tokens_minus, tokens_both}

-- a separate list with these cells that is longer than n
pub needs_more : (n : ℕ) (rs : List Range) (test : ℕ → ℕ → Bool) → separate rs ≡ true → ((s mm : ℕ) → held rs s mm ≡ test s mm) → n < length rs → NeedsMoreRanges n test
needs_more n rs test e h lt qs f = let x = shortest rs qs e (λ s mm. h s mm ∙ sym (f s mm)) in omega arith

pub tidy_empty : IsTidy [] []
unfolding separate tokens_distinct
tidy_empty = record { apart = refl; distinct = refl }

pub tidy_added : (r : Range) (rs : List Range) (ts : List SwitchId) → r.lo < r.hi → IsTidy rs ts → IsTidy (fuse r rs) ts
tidy_added r rs ts a t = record { apart = fuse_separate r rs a t.apart; distinct = t.distinct }

pub added : (r : Range) (rs : List Range) (ts : List SwitchId) → r.lo < r.hi → IsTidy rs ts
    → Has (record { ranges = fuse r rs; tokens = ts }) (λ s mm. held rs s mm || in_range r s mm) (λ w. token_in ts w)
added r rs ts a t = record { cell = λ s mm. fuse_held r rs s mm a t.apart; token = λ w. refl }

pub add_refused : (r : Range) (rs : List Range) (ts : List SwitchId) → r.lo < r.hi → IsTidy rs ts → 24 < length (fuse r rs)
    → Refused (record { ranges = rs; tokens = ts }) (record { ranges = rs; tokens = ts }) (λ s mm. held rs s mm || in_range r s mm)
add_refused r rs ts a t lt = record { kept = refl; needs = needs_more 24 (fuse r rs) (λ s mm. held rs s mm || in_range r s mm) (fuse_separate r rs a t.apart) (λ s mm. fuse_held r rs s mm a t.apart) lt }

-- tokens
pub token_append : (ts us : List SwitchId) (w : ℕ) → token_in (ts ++ us) w ≡ (token_in ts w || token_in us w)
unfolding token_in
token_append [] us w = refl
token_append (t ∷ ts) us w = rw (token_append ts us w) (by_test (nat_eq t.0 w) (λ y. rw y refl) (λ n. rw n refl))

pub distinct_append : (ts us : List SwitchId) → tokens_distinct ts ≡ true → tokens_distinct us ≡ true → ((w : ℕ) → (token_in ts w && token_in us w) ≡ false)
    → tokens_distinct (ts ++ us) ≡ true
unfolding token_in tokens_distinct
distinct_append [] us d e f = e
distinct_append (t ∷ ts) us d e f =
    let a : not (token_in ts t.0) && tokens_distinct ts ≡ true = d in
    let s : nat_eq t.0 t.0 ≡ true = grind (arith, nat_tests) in
    let g : ((nat_eq t.0 t.0 || token_in ts t.0) && token_in us t.0) ≡ false = f t.0 in
    let i = distinct_append ts us (grind arith) e (λ w. let h : ((nat_eq t.0 w || token_in ts w) && token_in us w) ≡ false = f w in grind arith) in
    rw (token_append ts us t.0, i) (grind arith)

pub token_last : (ts : List SwitchId) (t : SwitchId) (w : ℕ) → token_in (ts ++ t ∷ []) w ≡ (token_in ts w || nat_eq t.0 w)
unfolding token_in
token_last ts t w = rw (token_append ts (t ∷ []) w) (grind arith)

pub distinct_last : (ts : List SwitchId) (t : SwitchId) → tokens_distinct ts ≡ true → token_in ts t.0 ≡ false → tokens_distinct (ts ++ t ∷ []) ≡ true
unfolding token_in tokens_distinct
distinct_last ts t d n = distinct_append ts (t ∷ []) d refl (λ w. by_test (nat_eq t.0 w)
    (λ y. let q : t.0 ≡ w = grind (arith, nat_tests) in let z : token_in ts w ≡ false = rw (← q) n in rw z refl)
    (λ x. rw x (grind arith)))

-- a list without one token
unfoldable pub token_without : ℕ → List SwitchId → List SwitchId
token_without w [] = []
token_without w (t ∷ ts) = if nat_eq t.0 w then token_without w ts else t ∷ token_without w ts

pub in_without : (w : ℕ) (ts : List SwitchId) (v : ℕ) → token_in (token_without w ts) v ≡ (token_in ts v && not (nat_eq v w))
unfolding token_in token_without
in_without w [] v = refl
in_without w (t ∷ ts) v = let i = in_without w ts v in by_test (nat_eq t.0 w)
    (λ y. rw (y, i) (grind (arith, nat_tests)))
    (λ n. rw (n, i) (grind (arith, nat_tests)))

pub without_no_longer : (w : ℕ) (ts : List SwitchId) → length (token_without w ts) ≤ length ts
unfolding token_without
without_no_longer w [] = omega arith
without_no_longer w (t ∷ ts) = let i = without_no_longer w ts in by_test (nat_eq t.0 w) (λ y. rw y (omega arith)) (λ n. rw n (omega arith))

pub without_shorter : (w : ℕ) (ts : List SwitchId) → token_in ts w ≡ true → length (token_without w ts) < length ts
unfolding token_in token_without
without_shorter w [] h = absurd (cc)
without_shorter w (t ∷ ts) h = let k = without_no_longer w ts in
    let u : (nat_eq t.0 w || token_in ts w) ≡ true = h in
    by_test (nat_eq t.0 w) (λ y. rw y (omega arith)) (λ n. let i = without_shorter w ts (grind arith) in rw n (omega arith))

pub fewest_tokens : (ts us : List SwitchId) → tokens_distinct ts ≡ true → ((w : ℕ) → token_in ts w ≡ true → token_in us w ≡ true) → length ts ≤ length us
unfolding tokens_distinct token_in
fewest_tokens [] us d h = omega arith
fewest_tokens (t ∷ ts) us d h =
    let a : not (token_in ts t.0) && tokens_distinct ts ≡ true = d in
    let n : token_in ts t.0 ≡ false = grind arith in
    let i = fewest_tokens ts (token_without t.0 us) (grind arith) (λ w x. in_without t.0 us w ∙ one w n x) in
    let e : nat_eq t.0 t.0 ≡ true = grind (arith, nat_tests) in
    let k = without_shorter t.0 us (h t.0 (rw e refl)) in omega arith
  where
    one : (w : ℕ) → token_in ts t.0 ≡ false → token_in ts w ≡ true → (token_in us w && not (nat_eq w t.0)) ≡ true
    one w n x = by_test (nat_eq w t.0)
        (λ y. let q : w ≡ t.0 = grind (arith, nat_tests) in let z : token_in ts w ≡ false = rw q n in absurd (grind arith))
        (λ y. let u = h w (by_test (nat_eq t.0 w) (λ z. rw z refl) (λ z. rw (z, x) refl)) in rw (y, u) refl)

pub token_refused : (rs : List Range) (ts : List SwitchId) (t : SwitchId) → tokens_distinct ts ≡ true → token_in ts t.0 ≡ false → 8 ≤ length ts
    → TokenRefused (record { ranges = rs; tokens = ts }) (record { ranges = rs; tokens = ts }) (λ w. token_in ts w || nat_eq t.0 w)
token_refused rs ts t d n le = record {
  kept = refl;
  needs = λ us f.
      let x = fewest_tokens (ts ++ t ∷ []) us (distinct_last ts t d n) (λ w y. f w (sym (token_last ts t w) ∙ y)) in
      let l = length-append ts (t ∷ []) in omega arith;
}

pub tidy_token : (rs : List Range) (ts : List SwitchId) (t : SwitchId) → IsTidy rs ts → token_in ts t.0 ≡ false → IsTidy rs (ts ++ t ∷ [])
tidy_token rs ts t i n = record { apart = i.apart; distinct = distinct_last ts t i.distinct n }

pub token_added : (rs : List Range) (ts : List SwitchId) (t : SwitchId)
    → Has (record { ranges = rs; tokens = ts ++ t ∷ [] }) (λ s mm. held rs s mm) (λ w. token_in ts w || nat_eq t.0 w)
token_added rs ts t = record { cell = λ s mm. refl; token = λ w. token_last ts t w }

-- cutting
pub tokens_minus_in : (os ts : List SwitchId) (w : ℕ) → token_in (tokens_minus os ts) w ≡ (token_in ts w && not (token_in os w))
unfolding token_in tokens_minus
tokens_minus_in os [] w = refl
tokens_minus_in os (t ∷ ts) w =
    let i = tokens_minus_in os ts w in
    by_test (nat_eq t.0 w)
    (λ y. let q : t.0 ≡ w = grind (arith, nat_tests) in by_test (token_in os t.0)
    (λ z. let z2 : token_in os w ≡ true = rw q at z in rw (z, i, y, z2) (grind arith))
    (λ z. let z2 : token_in os w ≡ false = rw q at z in rw (z, i, y, z2) (grind arith)))
    (λ n. by_test (token_in os t.0) (λ z. rw (z, i, n) refl) (λ z. rw (z, i, n) refl))

pub tokens_both_in : (os ts : List SwitchId) (w : ℕ) → token_in (tokens_both os ts) w ≡ (token_in ts w && token_in os w)
unfolding token_in tokens_both
tokens_both_in os [] w = refl
tokens_both_in os (t ∷ ts) w =
    let i = tokens_both_in os ts w in
    by_test (nat_eq t.0 w)
    (λ y. let q : t.0 ≡ w = grind (arith, nat_tests) in by_test (token_in os t.0)
    (λ z. let z2 : token_in os w ≡ true = rw q at z in rw (z, i, y, z2) (grind arith))
    (λ z. let z2 : token_in os w ≡ false = rw q at z in rw (z, i, y, z2) (grind arith)))
    (λ n. by_test (token_in os t.0) (λ z. rw (z, i, n) refl) (λ z. rw (z, i, n) refl))

pub minus_distinct : (os ts : List SwitchId) → tokens_distinct ts ≡ true → tokens_distinct (tokens_minus os ts) ≡ true
unfolding tokens_distinct tokens_minus
minus_distinct os [] d = refl
minus_distinct os (t ∷ ts) d =
    let a : not (token_in ts t.0) && tokens_distinct ts ≡ true = d in
    let i = minus_distinct os ts (grind arith) in let e = tokens_minus_in os ts t.0 in
    by_test (token_in os t.0) (λ z. rw z i) (λ z. rw (z, e, i) (grind arith))

pub both_distinct : (os ts : List SwitchId) → tokens_distinct ts ≡ true → tokens_distinct (tokens_both os ts) ≡ true
unfolding tokens_distinct tokens_both
both_distinct os [] d = refl
both_distinct os (t ∷ ts) d =
    let a : not (token_in ts t.0) && tokens_distinct ts ≡ true = d in
    let i = both_distinct os ts (grind arith) in let e = tokens_both_in os ts t.0 in
    by_test (token_in os t.0) (λ z. rw (z, e, i) (grind arith)) (λ z. rw z i)

-- joining
pub joined_in : (ts us : List SwitchId) (w : ℕ) → token_in (ts ++ tokens_minus ts us) w ≡ (token_in ts w || token_in us w)
joined_in ts us w = rw (token_append ts (tokens_minus ts us) w, tokens_minus_in ts us w) (grind arith)

pub joined_distinct : (ts us : List SwitchId) → tokens_distinct ts ≡ true → tokens_distinct us ≡ true → tokens_distinct (ts ++ tokens_minus ts us) ≡ true
joined_distinct ts us d e = distinct_append ts (tokens_minus ts us) d (minus_distinct ts us e) (λ w. rw (tokens_minus_in ts us w) (grind arith))

-- what each change needs: the sets, tidy before
module _ (rs os : List Range) (ts us : List SwitchId) (a : IsTidy rs ts) (b : IsTidy os us) where
  pub cut_tidy : IsTidy (minus_all rs os) (tokens_minus us ts)
  cut_tidy = record { apart = minus_all_separate rs os a.apart b.apart; distinct = minus_distinct us ts a.distinct }

  pub cut_has : Has (record { ranges = minus_all rs os; tokens = tokens_minus us ts }) (λ s mm. held rs s mm && not (held os s mm)) (λ w. token_in ts w && not (token_in us w))
  cut_has = record { cell = λ s mm. minus_all_held rs os s mm a.apart b.apart; token = λ w. tokens_minus_in us ts w }

  pub cut_refused : 24 < length (minus_all rs os) → Refused (record { ranges = rs; tokens = ts }) (record { ranges = rs; tokens = ts }) (λ s mm. held rs s mm && not (held os s mm))
  cut_refused lt = record {
    kept = refl;
    needs = needs_more 24 (minus_all rs os) (λ s mm. held rs s mm && not (held os s mm)) (minus_all_separate rs os a.apart b.apart)
        (λ s mm. minus_all_held rs os s mm a.apart b.apart) lt;
  }

  pub keep_tidy : IsTidy (both_all rs os) (tokens_both us ts)
  keep_tidy = record { apart = both_all_separate rs os a.apart b.apart; distinct = both_distinct us ts a.distinct }

  pub keep_has : Has (record { ranges = both_all rs os; tokens = tokens_both us ts }) (λ s mm. held rs s mm && held os s mm) (λ w. token_in ts w && token_in us w)
  keep_has = record { cell = λ s mm. both_all_held rs os s mm; token = λ w. tokens_both_in us ts w }

  pub keep_refused : 24 < length (both_all rs os) → Refused (record { ranges = rs; tokens = ts }) (record { ranges = rs; tokens = ts }) (λ s mm. held rs s mm && held os s mm)
  keep_refused lt = record {
    kept = refl;
    needs = needs_more 24 (both_all rs os) (λ s mm. held rs s mm && held os s mm) (both_all_separate rs os a.apart b.apart)
        (λ s mm. both_all_held rs os s mm) lt;
  }

  pub join_tidy : IsTidy (fuse_all os rs) (ts ++ tokens_minus ts us)
  join_tidy = record { apart = fuse_all_separate os rs b.apart a.apart; distinct = joined_distinct ts us a.distinct b.distinct }

  pub join_has : Has (record { ranges = fuse_all os rs; tokens = ts ++ tokens_minus ts us }) (λ s mm. held rs s mm || held os s mm) (λ w. token_in ts w || token_in us w)
  join_has = record { cell = λ s mm. fuse_all_held os rs s mm b.apart a.apart; token = λ w. joined_in ts us w }

  pub join_full : 24 < length (fuse_all os rs)
      → JoinRefused (record { ranges = rs; tokens = ts }) (record { ranges = rs; tokens = ts }) (λ s mm. held rs s mm || held os s mm) (λ w. token_in ts w || token_in us w)
  join_full lt = record {
    kept = refl;
    needs = inl (needs_more 24 (fuse_all os rs) (λ s mm. held rs s mm || held os s mm) (fuse_all_separate os rs b.apart a.apart)
        (λ s mm. fuse_all_held os rs s mm b.apart a.apart) lt);
  }

  pub join_full_tokens : 8 < length ts + length (tokens_minus ts us)
      → JoinRefused (record { ranges = rs; tokens = ts }) (record { ranges = rs; tokens = ts }) (λ s mm. held rs s mm || held os s mm) (λ w. token_in ts w || token_in us w)
  join_full_tokens lt = record {
    kept = refl;
    needs = inr (λ vs f.
        let x = fewest_tokens (ts ++ tokens_minus ts us) vs (joined_distinct ts us a.distinct b.distinct) (λ w y. f w (sym (joined_in ts us w) ∙ y)) in
        let l = length-append ts (tokens_minus ts us) in omega arith);
  }

-- no points
pub no_cell : (rs : List Range) → length rs ≡ 0 → (s mm : ℕ) → held rs s mm ≡ false
unfolding held
no_cell [] e s mm = refl
no_cell (r ∷ rs) e s mm = absurd (omega arith)

pub no_token : (ts : List SwitchId) → length ts ≡ 0 → (w : ℕ) → token_in ts w ≡ false
unfolding token_in
no_token [] e w = refl
no_token (t ∷ ts) e w = absurd (omega arith)

pub some_cell : (rs : List Range) → separate rs ≡ true → 0 < length rs → ((s mm : ℕ) → held rs s mm ≡ false) → ⊥
unfolding separate held
some_cell [] d h f = omega arith
some_cell (r ∷ rs) d h f =
    let t : nat_lt r.lo r.hi && (all_apart r rs && separate rs) ≡ true = d in
    let g : (in_range r r.seg.0 r.lo || held rs r.seg.0 r.lo) ≡ false = f r.seg.0 r.lo in
    let i : in_range r r.seg.0 r.lo ≡ true = grind (arith, nat_tests) in grind arith

pub some_token : (ts : List SwitchId) → 0 < length ts → ((w : ℕ) → token_in ts w ≡ false) → ⊥
unfolding token_in
some_token [] h f = omega arith
some_token (t ∷ ts) h f =
    let g : (nat_eq t.0 t.0 || token_in ts t.0) ≡ false = f t.0 in
    let i : nat_eq t.0 t.0 ≡ true = grind (arith, nat_tests) in grind arith
