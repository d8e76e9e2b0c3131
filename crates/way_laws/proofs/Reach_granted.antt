-- How far an extension reaches: to the first obstacle, and never beyond the end of the asked way.
use Rattle.std.proofs.Common.{◌≡◌, ℕ, ◌+◌, ◌-◌, ◌<◌, ◌≤◌, max, Bool, true, false, ◌&&◌, ◌||◌, List, length, take, Some, refl, sym, ◌∙◌, subst, arith, nat_eq, nat_lt}
use Rattle.std.proofs.lemmas.Bool.Decides.{nat_tests}
use Rattle.std.proofs.lemmas.Grind.{common_steps}
use Rattle.std.proofs.lemmas.List.{length-append}
use Rattle.list_laws.proofs.By_test.{by_test}
use Rattle.track_points.specs.declared.ids.DirSeg.{DirSeg}
use Rattle.track_points.specs.declared.path.Path.{Path}
use Rattle.track_points.specs.Points.{Layout, total, place_of_last, end_place}
use Rattle.definitions.specs.declared.outcome.Obstacle.{Obstacle}
use Rattle.definitions.specs.declared.outcome.Obstacle.TheVariants.{AskEnds, TrackEnds, Held, Closed, PathFull}
use Rattle.definitions.specs.Track.{Line, seg_len, layout, last_step}
use Rattle.definitions.specs.Limit.{further, asked_way, continues, Bars, Ask, ask_of, stands, obstructed, first_standing, least_standing, distance_on, reach_on, reach_from}
use Rattle.definitions.specs.OutcomeText.{code_of}
use Rattle.definitions.specs.Safe.{IsReach}
use Rattle.way_laws.proofs.Cut_front.{last_place, total_append}
use Rattle.way_laws.proofs.First_is.{IsFirst, first_is, first_at_most}

or_later : (a b : Bool) → b ≡ true → (a || b) ≡ true
or_later true b h = refl
or_later false b h = h

-- where some obstacle stands, the one of the least code there does
pub least_stands : (layout : Layout) (ask : Ask) (p : ℕ) → obstructed layout ask p ≡ true → stands layout ask (least_standing layout ask p) p ≡ true
unfolding first_standing
least_stands layout ask p h =
    by_test (stands layout ask AskEnds p)
    (λ a. rw a a)
    (λ b. by_test (stands layout ask TrackEnds p)
    (λ c. rw (b, c) c)
    (λ d. by_test (stands layout ask Held p)
    (λ e. rw (b, d, e) e)
    (λ f. by_test (stands layout ask Closed p)
    (λ g. rw (b, d, f, g) g)
    (λ g. let k : stands layout ask PathFull p ≡ true = grind arith in rw (b, d, f, g, k) k))))

-- no obstacle stands there that has a lesser code
least_at_most : (layout : Layout) (ask : Ask) (p : ℕ) (kind : Obstacle) → stands layout ask kind p ≡ true → code_of (least_standing layout ask p) ≤ code_of kind
unfolding first_standing
least_at_most layout ask p AskEnds h = rw h (omega arith)
least_at_most layout ask p TrackEnds h =
    by_test (stands layout ask AskEnds p)
    (λ a. rw a (omega arith))
    (λ b. rw (b, h) (omega arith))
least_at_most layout ask p Held h =
    by_test (stands layout ask AskEnds p)
    (λ a. rw a (omega arith))
    (λ b. by_test (stands layout ask TrackEnds p)
    (λ c. rw (b, c) (omega arith))
    (λ d. rw (b, d, h) (omega arith)))
least_at_most layout ask p Closed h =
    by_test (stands layout ask AskEnds p)
    (λ a. rw a (omega arith))
    (λ b. by_test (stands layout ask TrackEnds p)
    (λ c. rw (b, c) (omega arith))
    (λ d. by_test (stands layout ask Held p)
    (λ e. rw (b, d, e) (omega arith))
    (λ f. rw (b, d, f, h) (omega arith))))
least_at_most layout ask p PathFull h =
    by_test (stands layout ask AskEnds p)
    (λ a. rw a (omega arith))
    (λ b. by_test (stands layout ask TrackEnds p)
    (λ c. rw (b, c) (omega arith))
    (λ d. by_test (stands layout ask Held p)
    (λ e. rw (b, d, e) (omega arith))
    (λ f. by_test (stands layout ask Closed p)
    (λ g. rw (b, d, f, g) (omega arith))
    (λ g. rw (b, d, f, g, h) (omega arith)))))
least_at_most layout ask p _ h = absurd cc

least_code : (layout : Layout) (ask : Ask) (p : ℕ) (kind : Obstacle) → code_of kind < code_of (least_standing layout ask p) → stands layout ask kind p ≡ false
least_code layout ask p kind h = by_test (stands layout ask kind p) (λ y. let m = least_at_most layout ask p kind y in absurd (omega arith)) (λ n. n)

-- where nothing is obstructed, no kind stands: one that did would obstruct
stands_obstructs : (layout : Layout) (ask : Ask) (p : ℕ) (kind : Obstacle) → stands layout ask kind p ≡ true → obstructed layout ask p ≡ true
stands_obstructs layout ask p AskEnds h = rw h refl
stands_obstructs layout ask p TrackEnds h = or_later (stands layout ask AskEnds p) _ (rw h refl)
stands_obstructs layout ask p Held h = or_later (stands layout ask AskEnds p) _ (or_later (stands layout ask TrackEnds p) _ (rw h refl))
stands_obstructs layout ask p Closed h =
    or_later (stands layout ask AskEnds p) _ (or_later (stands layout ask TrackEnds p) _ (or_later (stands layout ask Held p) _ (rw h refl)))
stands_obstructs layout ask p PathFull h =
    or_later (stands layout ask AskEnds p) _ (or_later (stands layout ask TrackEnds p) _ (or_later (stands layout ask Held p) _ (or_later (stands layout ask Closed p) _ (rw h refl))))
stands_obstructs layout ask p _ h = absurd cc

none_stands : (layout : Layout) (ask : Ask) (p : ℕ) → obstructed layout ask p ≡ false → (kind : Obstacle) → stands layout ask kind p ≡ false
none_stands layout ask p h kind =
    by_test (stands layout ask kind p) (λ y. absurd (let e = stands_obstructs layout ask p kind y in let f : true ≡ false = sym e ∙ h in cc)) (λ n. n)

-- an obstacle stands at the distance, be it the end of the ask
pub some_stands : (layout : Layout) (ask : Ask) (d : ℕ)
    → IsFirst (λ k. obstructed layout ask (ask.limit + k)) (max ask.limit (place_of_last layout.len ask.way ask.to) - ask.limit) d
    → obstructed layout ask (ask.limit + d) ≡ true
some_stands layout ask d f =
    by_test (nat_lt d (max ask.limit (place_of_last layout.len ask.way ask.to) - ask.limit))
    (λ y. f.there (grind (arith, nat_tests)))
    (λ n. let w = f.within in
    let e : ask.limit + d ≡ max ask.limit (place_of_last layout.len ask.way ask.to) = grind (arith, nat_tests) in
    let t : nat_eq (ask.limit + d) (max ask.limit (place_of_last layout.len ask.way ask.to)) ≡ true = grind (arith, nat_tests) in
    rw t refl)

-- the reach is the first obstacle
pub reach_is : (layout : Layout) (ask : Ask) → IsReach layout ask (reach_on layout ask)
reach_is layout ask =
    let f = first_is (λ d. obstructed layout ask (ask.limit + d)) (max ask.limit (place_of_last layout.len ask.way ask.to) - ask.limit) in
    record {
      there = least_stands layout ask (ask.limit + distance_on layout ask) (some_stands layout ask (distance_on layout ask) f);
      none_nearer = λ kind d h. none_stands layout ask (ask.limit + d) (f.before d h) kind;
      none_lesser = least_code layout ask (ask.limit + distance_on layout ask);
    }

-- from an end on the asked way, the reach ends on it
pub reach_within : (layout : Layout) (ask : Ask) → 0 < length ask.way → ask.limit ≤ total layout.len ask.way
    → ask.limit + (reach_on layout ask).distance ≤ total layout.len ask.way
reach_within layout ask z h =
    by_test (nat_lt (layout.len (last_step ask.way).seg.0) ask.to)
    (λ y. let e : ask.limit + (total layout.len ask.way - ask.limit) ≡ total layout.len ask.way = omega arith in
    let t : obstructed layout ask (ask.limit + (total layout.len ask.way - ask.limit)) ≡ true = grind (arith, nat_tests) in
    let m = first_at_most (λ d. obstructed layout ask (ask.limit + d)) (max ask.limit (place_of_last layout.len ask.way ask.to) - ask.limit) (total layout.len ask.way - ask.limit) t in
    omega arith)
    (λ n. let l = last_place layout.len ask.way ask.to z (grind (arith, nat_tests)) in
    let f = first_is (λ d. obstructed layout ask (ask.limit + d)) (max ask.limit (place_of_last layout.len ask.way ask.to) - ask.limit) in
    let w = f.within in
    omega arith)

-- an ask of a way, granted or not, reaches no further than its steps and the asked ones
pub reach_granted : (line : Line) (ready pending silent : Bool) (path : Path) (asked : List DirSeg) (to : ℕ) (bars : Bars) → 0 < length path.steps.items
    → end_place (seg_len line) path ≤ total (seg_len line) path.steps.items
    → end_place (seg_len line) path + (reach_from line ready pending silent (Some path) asked to bars).distance ≤ total (seg_len line) (asked_way path.steps.items asked)
reach_granted line ready pending silent path asked to bars z h =
    let t = total_append (seg_len line) path.steps.items (further path.steps.items asked) in
    let e : end_place (seg_len line) path ≤ total (seg_len line) (asked_way path.steps.items asked) = omega arith in
    let l : 0 < length (asked_way path.steps.items asked) = omega (arith, length-append path.steps.items (further path.steps.items asked)) in
    by_test (ready && continues line path.steps.items asked)
    (λ y. by_test pending
    (λ p. rw (y, p) (omega arith))
    (λ p. by_test silent
    (λ s. rw (y, p, s) (omega arith))
    (λ s. rw (y, p, s) (reach_within (layout line) (ask_of (seg_len line) path asked to bars) l e))))
    (λ n. rw n (omega arith))

-- the reach ends on the first 24 steps
pub reach_few : (layout : Layout) (ask : Ask) → 0 < length ask.way → ask.limit ≤ total layout.len (take 24 ask.way) → ask.limit + (reach_on layout ask).distance ≤ total layout.len (take 24 ask.way)
reach_few layout ask some h =
    by_test (nat_lt 24 (length ask.way))
    (λ y.
    let e : ask.limit + (total layout.len (take 24 ask.way) - ask.limit) ≡ total layout.len (take 24 ask.way) = omega arith in
    let t : obstructed layout ask (ask.limit + (total layout.len (take 24 ask.way) - ask.limit)) ≡ true = grind (arith, nat_tests) in
    let m = first_at_most (λ d. obstructed layout ask (ask.limit + d)) (max ask.limit (place_of_last layout.len ask.way ask.to) - ask.limit) (total layout.len (take 24 ask.way) - ask.limit) t in
    omega arith)
    (λ n.
    let few : length ask.way ≤ 24 = grind (arith, nat_tests) in
    let e : take 24 ask.way ≡ ask.way = grind (arith, common_steps) in
    subst (λ (xs : List DirSeg). ask.limit + (reach_on layout ask).distance ≤ total layout.len xs) (sym e)
    (reach_within layout ask some (subst (λ (xs : List DirSeg). ask.limit ≤ total layout.len xs) e h)))
