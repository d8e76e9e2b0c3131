-- What the messages of a train's controllers amount to: its numbers, what counts of them, and where its front may be. What counts
-- hangs on the least front, and the fronts end with the longest authority, so all of it is one value.
use Rattle.std.specs.Prelude.{ℕ, zero, suc, ◌+◌, ◌-◌, List, if◌then◌else◌, Bool, false, ◌&&◌, not, nat_eq, nat_lt, nat_le, max, Option, Some, None}
use Rattle.track_points.specs.declared.ids.DirSeg.{DirSeg}
use Rattle.track_points.specs.Points.{Lengths, some_below}
use Rattle.definitions.specs.Numbers.{first, last}
use Rattle.definitions.specs.World.{Authority}
use Rattle.definitions.specs.Farther.{farther, end_or_0, kept_or_all}

pub record Account : Type 0 where
  pub issued : ℕ  -- the greatest number issued, by any zone
  pub counted : ℕ  -- the greatest number counted
  pub shrink : ℕ  -- the number of the unanswered shrink, 0 where there is none
  pub stood : Option Authority  -- the longest authority when it was issued
  pub reads : ℕ → Option Authority  -- the authority whose end a number has
  pub fronts : ℕ → ℕ → Bool  -- by zone: the places where the head may be
  pub base : ℕ → ℕ  -- by zone: its Now when it counted the train's first number

abbrev pub none_yet : Account
none_yet = record { issued = 0; counted = 0; shrink = 0; stood = None; reads = λ k. None; fronts = λ z p. false; base = λ z. 0 }

-- Longest: the farthest of the numbers from the greatest counted to the greatest issued.

-- the farthest of n numbers from one on
unfoldable pub farthest : Lengths → List DirSeg → (ℕ → Option Authority) → ℕ → ℕ → Option Authority
farthest len steps reads from zero = None
farthest len steps reads from (suc n) = farther len steps (reads (from + n)) (farthest len steps reads from n)

abbrev pub longest_of : Lengths → List DirSeg → Account → Option Authority
longest_of len steps v = farthest len steps v.reads v.counted (v.issued + 1 - v.counted)

abbrev pub end_of : Lengths → List DirSeg → Account → ℕ
end_of len steps v = end_or_0 len steps (longest_of len steps v)

-- where the unanswered shrink ends
abbrev pub shrink_end : Lengths → List DirSeg → Account → ℕ
shrink_end len steps v = end_or_0 len steps (v.reads v.shrink)

-- Fronts.

-- every place from the least to the greatest of a set below n
abbrev pub filled : ℕ → (ℕ → Bool) → ℕ → Bool
filled n test p = some_below test n && (nat_le (first test n) p && nat_le p (last test n))

-- a rule on the fronts keeps those that pass; one that would keep none keeps all; then they are filled
abbrev pub ruled : ℕ → (ℕ → Bool) → (ℕ → Bool) → ℕ → Bool
ruled end keep fronts = filled (end + 1) (kept_or_all end (λ f. fronts f && keep f) fronts)

abbrev pub least_of : ℕ → (ℕ → Bool) → ℕ
least_of end fronts = first fronts (end + 1)

-- Numbers.

abbrev pub with_at : {A : Type 0} → ℕ → A → (ℕ → A) → ℕ → A
with_at n x f k = if nat_eq k n then x else f k

-- the shrink counts as refused: its number has the end that stood before it
abbrev pub refused : Account → Account
refused v = record v { counted = max v.counted v.shrink; shrink = 0; reads = with_at v.shrink v.stood v.reads }

-- a number that was issued, above the greatest counted
abbrev pub is_new : ℕ → Account → Bool
is_new number v = nat_lt v.counted number && nat_le number v.issued

-- the answer is the shrink's, taken, and counts
abbrev pub takes_shrink : ℕ → Bool → Account → Bool
takes_shrink number taken v = is_new number v && (nat_eq number v.shrink && taken)

-- an answer counts where its number was issued and is above the greatest counted
abbrev pub answered : ℕ → Bool → Account → Account
answered number taken v =
    if not (is_new number v) then v
    else if not (nat_eq number v.shrink) then record v { counted = number }
    else if taken then record v { counted = number; shrink = 0 }
    else refused v

-- a shrink whose end a least front has passed counts as refused
abbrev pub passed : Lengths → List DirSeg → ℕ → Account → Account
passed len steps least v = if nat_lt 0 v.shrink && nat_lt (shrink_end len steps v) least then refused v else v

-- an authority is issued: a shrink where it ends before the longest does. One sent again changes nothing
abbrev pub issues : Lengths → List DirSeg → ℕ → Authority → Account → Account
issues len steps number a v =
    if not (nat_lt v.issued number) then v
    else if nat_lt (end_or_0 len steps (Some a)) (end_of len steps v)
    then record v { issued = number; shrink = number; stood = longest_of len steps v; reads = with_at number (Some a) v.reads }
    else record v { issued = number; reads = with_at number (Some a) v.reads }

-- the fronts of a zone
abbrev pub with_fronts : ℕ → (ℕ → Bool) → Account → Account
with_fronts z fronts v = record v { fronts = with_at z fronts v.fronts }

-- the first number is counted
abbrev pub based : ℕ → ℕ → ℕ → Account → Account
based z now_ before v = if nat_eq before 0 && nat_lt 0 v.counted then record v { base = with_at z now_ v.base } else v
