-- The first place of an obstacle, in closed form, by one kind of obstacle after another.
use Rattle.std.proofs.Common.{◌≡◌, ℕ, ◌+◌, ◌-◌, ◌<◌, ◌≤◌, Bool, true, false, ◌&&◌, ◌||◌, List, [], ◌∷◌, ◌++◌, if◌then◌else◌, refl, arith, nat_eq, nat_lt, nat_le}
use Rattle.std.specs.List.{list_any}
use Rattle.std.proofs.lemmas.Bool.Decides.{nat_tests}
use Rattle.std.proofs.lemmas.List.Folds.{list_any-append}
use Rattle.list_laws.proofs.By_test.{by_test}
use Rattle.track_points.specs.Points.{Layout}
use Rattle.definitions.specs.declared.outcome.Obstacle.{Obstacle}
use Rattle.definitions.specs.declared.outcome.Obstacle.TheVariants.{AskEnds, TrackEnds, Held, Closed, PathFull}
use Rattle.definitions.specs.Limit.{Ask, stands, first_standing}
use Rattle.way_laws.proofs.First_is.{IsFirst}
use Rattle.zone_reach.specs.declared.reach.Stop.{Stop}
use Rattle.zone_reach.specs.Reach.{nearer, end_stop, bar_stop, full_stop}
use Rattle.zone_reach.proofs.First_place_is.{IsNearest}

-- where a test holds first from the limit on, if it holds at all
pub record IsAt (test : ℕ → Bool) (limit : ℕ) (some : Bool) (q : ℕ) : Type 0 where
  pub there : some ≡ true → limit ≤ q → test q ≡ true
  pub before : (p : ℕ) → limit ≤ p → (some ≡ true → limit ≤ q → p < q) → test p ≡ false

-- one place alone
pub at_place : (some : Bool) (limit q : ℕ) → IsAt (λ p. some && nat_eq p q) limit some q
at_place true limit q = record {
  there = λ s l. grind (arith, nat_tests);
  before = λ p l b. by_test (nat_le limit q)
      (λ y. let lt = b refl (grind (arith, nat_tests)) in grind (arith, nat_tests))
      (λ n. grind (arith, nat_tests));
}
at_place false limit q = record { there = λ s l. absurd (cc); before = λ p l b. refl }

-- the first place of some steps, whose end is that of all
pub at_nearest : (test : ℕ → Bool) (t limit q : ℕ) → IsNearest test t limit q → ((p : ℕ) → t ≤ p → test p ≡ false) → IsAt test limit (nat_lt q t) q
at_nearest test t limit q i none = record {
  there = λ s l. i.there (grind (arith, nat_tests));
  before = λ p l b. let w = i.within in by_test (nat_lt p t)
      (λ y. by_test (nat_lt q t)
      (λ s. let f = i.after (grind (arith, nat_tests)) in i.before p l (b s f))
      (λ n. i.before p l (grind (arith, nat_tests))))
      (λ n. none p (grind (arith, nat_tests)));
}

module _ (layout : Layout) (ask : Ask) where
  -- whether an obstacle of some kinds stands at a place
  abbrev pub any_stands : List Obstacle → ℕ → Bool
  any_stands kinds p = list_any (λ kind. stands layout ask kind p) kinds

  -- a stop is at the first place, from the limit on, at which an obstacle of some kinds stands, and is the first of these
  -- kinds that stands there
  pub record IsStop (kinds : List Obstacle) (s : Stop) : Type 0 where
    pub from : ask.limit ≤ s.place
    pub there : any_stands kinds s.place ≡ true
    pub before : (p : ℕ) → ask.limit ≤ p → p < s.place → any_stands kinds p ≡ false
    pub least : first_standing layout ask s.place kinds ≡ s.obstacle

  -- one more kind
  any_more : (kinds : List Obstacle) (kind : Obstacle) (p : ℕ) → any_stands (kinds ++ kind ∷ []) p ≡ (any_stands kinds p || (stands layout ask kind p || false))
  any_more kinds kind p = list_any-append (λ k. stands layout ask k p) kinds (kind ∷ [])

  standing_more : (kinds : List Obstacle) (kind : Obstacle) (p : ℕ)
      → first_standing layout ask p (kinds ++ kind ∷ []) ≡ (if any_stands kinds p then first_standing layout ask p kinds else if stands layout ask kind p then kind else AskEnds)
  unfolding first_standing
  standing_more [] kind p = refl
  standing_more (k ∷ kinds) kind p =
      by_test (stands layout ask k p) (λ y. rw y refl) (λ n. rw n (standing_more kinds kind p))

  -- the nearer of a stop and an obstacle of a further kind
  pub stop_more : (kinds : List Obstacle) (kind : Obstacle) (some : Bool) (q : ℕ) (s : Stop) → IsStop kinds s → IsAt (stands layout ask kind) ask.limit some q
      → IsStop (kinds ++ kind ∷ []) (nearer ask.limit some (record { place = q; obstacle = kind }) s)
  stop_more kinds kind some q s i at =
      by_test (some && (nat_le ask.limit q && nat_lt q s.place))
      (λ y. let is_some : some ≡ true = grind (arith, nat_tests) in
      let from : ask.limit ≤ q = grind (arith, nat_tests) in
      let lt : q < s.place = grind (arith, nat_tests) in
      let here = at.there is_some from in
      let others = i.before q from lt in
      rw y record {
        from = from;
        there = rw (any_more kinds kind q, others, here) refl;
        before = λ p l b. let x = i.before p l (omega arith) in let z = at.before p l (λ e f. b) in rw (any_more kinds kind p, x, z) refl;
        least = rw (standing_more kinds kind q, others, here) refl;
      })
      (λ n. let t = i.there in
      rw n record {
        from = i.from;
        there = rw (any_more kinds kind s.place, t) refl;
        before = λ p l b. let x = i.before p l b in let z = at.before p l (λ e f. grind (arith, nat_tests)) in rw (any_more kinds kind p, x, z) refl;
        least = rw (standing_more kinds kind s.place, t) i.least;
      })

  -- a kind that stands nowhere
  pub stop_same : (kinds : List Obstacle) (kind : Obstacle) (s : Stop) → IsStop kinds s → ((p : ℕ) → stands layout ask kind p ≡ false) → IsStop (kinds ++ kind ∷ []) s
  stop_same kinds kind s i none = stop_more kinds kind false 0 s i record { there = λ e l. absurd (cc); before = λ p l b. none p }

  -- it is the first
  pub stop_first : (kinds : List Obstacle) (s : Stop) (e : ℕ) → IsStop kinds s → s.place ≤ e → IsFirst (λ d. any_stands kinds (ask.limit + d)) (e - ask.limit) (s.place - ask.limit)
  stop_first kinds s e i within =
      let from = i.from in
      let same : ask.limit + (s.place - ask.limit) ≡ s.place = omega arith in
      record {
        within = omega arith;
        there = λ h. rw same i.there;
        before = λ k h. i.before (ask.limit + k) (omega arith) (omega arith);
      }

-- the nearer of two is no nearer than the limit, and no farther than either
nearer_from : (limit : ℕ) (some : Bool) (o s : Stop) → limit ≤ s.place → limit ≤ (nearer limit some o s).place
nearer_from limit some o s h = by_test (some && (nat_le limit o.place && nat_lt o.place s.place)) (λ y. rw y (grind (arith, nat_tests))) (λ n. rw n h)

nearer_below : (limit : ℕ) (some : Bool) (o s : Stop) → (nearer limit some o s).place ≤ s.place
nearer_below limit some o s = by_test (some && (nat_le limit o.place && nat_lt o.place s.place)) (λ y. rw y (grind (arith, nat_tests))) (λ n. rw n (omega arith))

nearer_within : (limit : ℕ) (o s : Stop) → limit ≤ o.place → (nearer limit true o s).place ≤ o.place
nearer_within limit o s h = by_test (nat_le limit o.place && nat_lt o.place s.place) (λ y. rw y (omega arith)) (λ n. rw n (grind (arith, nat_tests)))

pub end_from : (a : Bool) (limit e t : ℕ) → limit ≤ e → limit ≤ (end_stop a limit e t).place
end_from a limit e t h = nearer_from limit a (record { place = t; obstacle = TrackEnds }) (record { place = e; obstacle = AskEnds }) h

pub end_below : (a : Bool) (limit e t : ℕ) → (end_stop a limit e t).place ≤ e
end_below a limit e t = nearer_below limit a (record { place = t; obstacle = TrackEnds }) (record { place = e; obstacle = AskEnds })

pub end_within : (limit e t : ℕ) → limit ≤ t → (end_stop true limit e t).place ≤ t
end_within limit e t h = nearer_within limit (record { place = t; obstacle = TrackEnds }) (record { place = e; obstacle = AskEnds }) h

-- a held place, or a stop
abbrev or_held : ℕ → ℕ → ℕ → Stop → Stop
or_held limit t h s = nearer limit (nat_lt h t) (record { place = h; obstacle = Held }) s

pub bar_from : (limit t h c : ℕ) (s : Stop) → limit ≤ s.place → limit ≤ (bar_stop limit t h c s).place
bar_from limit t h c s f =
    nearer_from limit (nat_lt c t) (record { place = c; obstacle = Closed }) (or_held limit t h s) (nearer_from limit (nat_lt h t) (record { place = h; obstacle = Held }) s f)

pub bar_below : (limit t h c : ℕ) (s : Stop) → (bar_stop limit t h c s).place ≤ s.place
bar_below limit t h c s =
    let closed = nearer_below limit (nat_lt c t) (record { place = c; obstacle = Closed }) (or_held limit t h s) in
    let held = nearer_below limit (nat_lt h t) (record { place = h; obstacle = Held }) s in
    omega arith

pub full_from : (limit : ℕ) (b : Bool) (f : ℕ) (s : Stop) → limit ≤ s.place → limit ≤ (full_stop limit b f s).place
full_from limit b f s h = nearer_from limit b (record { place = f; obstacle = PathFull }) s h

pub full_below : (limit : ℕ) (b : Bool) (f : ℕ) (s : Stop) → (full_stop limit b f s).place ≤ s.place
full_below limit b f s = nearer_below limit b (record { place = f; obstacle = PathFull }) s

pub full_within : (limit f : ℕ) (s : Stop) → limit ≤ f → (full_stop limit true f s).place ≤ f
full_within limit f s h = nearer_within limit (record { place = f; obstacle = PathFull }) s h
