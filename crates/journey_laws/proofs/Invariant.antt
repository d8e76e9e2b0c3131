-- Invariant: what every event keeps of a train.
use Rattle.std.specs.Prelude.{◌≡◌, ℕ, ℤ, pos, ◌+ℤ◌, ◌+◌, ◌*◌, ◌≤◌, ◌<◌, length, take, Option, Some, None, Bool, true, false, ◌&&◌, nat_eq, nat_le, is_some}
use Rattle.std.specs.Int.Signed.{le_z}
use Rattle.std.specs.List.{list_all}
use Rattle.track_points.specs.declared.ids.DirSeg.{DirSeg}
use Rattle.track_points.specs.declared.path.Path.{Path}
use Rattle.track_points.specs.Points.{total, steps_to, no_segment_twice}
use Rattle.definitions.specs.declared.message.Msg.{Msg}
use Rattle.definitions.specs.declared.message.Msg.TheVariants as msg
use Rattle.definitions.specs.Track.{Line, seg_len, begins_at_portal}
use Rattle.definitions.specs.Numbers.{first}
use Rattle.definitions.specs.Ways.{chained, path_in_range}
use Rattle.definitions.specs.Premises.{on_line}
use Rattle.definitions.specs.Story.{Story}
use Rattle.definitions.specs.World.{facts_of, is_declared, at_moment, long_of, error_of, first_entry, entered, head, Authority, HeldPath, route, authority_end, entry_authority, last_number, last_taken, limit_held, limit_place, journey}
use Rattle.definitions.specs.Control.{controls, known_facts, now_of, last_issued}
use Rattle.definitions.specs.Fold.{account}
use Rattle.definitions.specs.Farther.{end_or_0}
use Rattle.definitions.specs.Longest.{counted, longest, longest_end, is_pending, shrink_place, longest_route}
use Rattle.definitions.specs.Fronts.{possible_front, least_rear}
use Rattle.definitions.specs.Steps.{entry_path}
use Rattle.definitions.specs.Zones.{zone_id}
use Rattle.event_laws.proofs.Issued_all.{AllIssued}
use Rattle.journey_laws.proofs.Motion.{place, place_at, Motion}

-- where the step of a mark begins on the journey
abbrev pub step_begin : Line → ℕ → Story → ℕ → ℕ
step_begin line t s mark = total (seg_len line) (take mark (journey line t s))

-- where the authority that is read of a number ends
abbrev pub end_read : Line → ℕ → Story → ℕ → ℕ
end_read line t s k = end_or_0 (seg_len line) (journey line t s) ((account line t s).reads k)

-- a path on the line, of at most 24 steps
abbrev pub path_fits : Line → Path → Bool
path_fits line path =
    chained line path.steps.items
    && (no_segment_twice path.steps.items && (path_in_range (seg_len line) path && nat_le (length path.steps.items) 24))

-- Authorities.

-- the path of an authority: it is on the line, and begins where the train was or is
pub record IsPath (line : Line) (t : ℕ) (s : Story) (a : Authority) : Type 0 where
  pub declared : is_declared t s ≡ true
  pub fits : path_fits line a.path ≡ true
  pub above : 0 < a.path.to
  pub own : list_all (on_line line) a.path.steps.items ≡ true
  pub behind : step_begin line t s a.mark + a.path.from + long_of t s ≤ place t s
  pub mark : a.mark ≤ length (journey line t s)

-- and it lies on the route of the longest, up to where it ends, and ends where that does at most. One that the train has decided
-- on may lie beyond: the longest was cut since
pub record AuthorityIs (line : Line) (t : ℕ) (s : Story) (a : Authority) : Type 0 where
  pub declared : is_declared t s ≡ true
  pub fits : path_fits line a.path ≡ true
  pub above : 0 < a.path.to
  pub own : list_all (on_line line) a.path.steps.items ≡ true
  pub behind : step_begin line t s a.mark + a.path.from + long_of t s ≤ place t s
  pub mark : a.mark ≤ length (journey line t s)
  pub on : route (journey line t s) a ≡ steps_to (seg_len line) (longest_route line t s) (authority_end (seg_len line) (journey line t s) a)
  pub within : authority_end (seg_len line) (journey line t s) a ≤ longest_end line t s

-- an authority number 1 made before the train came on is over the whole portal segment, which is no shorter than the train
pub record FirstIs (line : Line) (t : ℕ) (s : Story) (a : Authority) : Type 0 where
  pub step : DirSeg
  pub first : first_entry t s ≡ Some step
  pub portal : begins_at_portal line step ≡ true
  pub mark : a.mark ≡ 0
  pub path : a.path ≡ entry_path step (seg_len line step.seg.0)
  pub room : long_of t s ≤ seg_len line step.seg.0

-- an authority of a message: where the train has not decided on its number it lies on the route of the longest; where its number is
-- above the greatest counted it ends where what is read of the number does; the first one is over the portal segment until the
-- train has come on
pub record AuthIs (line : Line) (t : ℕ) (s : Story) (number : ℕ) (a : Authority) : Type 0 where
  pub path : IsPath line t s a
  pub ahead : last_number t s < number → AuthorityIs line t s a
  pub exact : counted line t s < number → authority_end (seg_len line) (journey line t s) a ≡ end_read line t s number
  pub positive : 1 ≤ number
  pub known : number ≤ last_issued t s
  pub first : entered t s ≡ false → number ≡ 1 → FirstIs line t s a

abbrev pub AuthTrue : Line → ℕ → Story → Msg → Type 0
AuthTrue line t s (msg.Auth u number mark path) = nat_eq u.0 t ≡ true → AuthIs line t s number (record { mark = mark; path = path })
AuthTrue line t s _ = Unit {0}

-- Reports.

-- a report is off by no more than the train's error from where the train was when it was made
pub record ReportIs (line : Line) (t : ℕ) (s : Story) (time mark : ℕ) (offset : ℤ) : Type 0 where
  pub on : entered t s ≡ true
  pub reached : mark < length (journey line t s)
  pub least : le_z (pos (step_begin line t s mark) +ℤ offset) (pos (place_at t time s + error_of t s)) ≡ true
  pub most : le_z (pos (place_at t time s)) (pos (step_begin line t s mark + error_of t s) +ℤ offset) ≡ true

abbrev pub ReportTrue : Line → ℕ → Story → Msg → Type 0
ReportTrue line t s (msg.Report u time mark offset integrity) = nat_eq u.0 t ≡ true → ReportIs line t s time mark offset
ReportTrue line t s _ = Unit {0}

-- Requests, asks and answers.

-- a request for entry tells the train's facts, and the step of its first one, which goes inward from a portal
pub record EntryIs (line : Line) (t : ℕ) (s : Story) (long error speed : ℕ) (step : DirSeg) : Type 0 where
  pub facts : facts_of t s ≡ Some (record { long = long; error = error; speed = speed })
  pub first : first_entry t s ≡ Some step
  pub portal : begins_at_portal line step ≡ true

-- an answer is of a train that has come on, of a number that was its last; of the one that is its last it tells the decision
pub record AnswerIs (line : Line) (t : ℕ) (s : Story) (number : ℕ) (taken : Bool) : Type 0 where
  pub on : entered t s ≡ true
  pub most : number ≤ last_number t s
  pub told : number ≡ last_number t s → taken ≡ last_taken line t s

abbrev pub RequestTrue : Line → ℕ → Story → Msg → Type 0
RequestTrue line t s (msg.EntryAsk u time long error speed equipped step) = nat_eq u.0 t ≡ true → EntryIs line t s long error speed step
RequestTrue line t s (msg.Ask u time steps to) = nat_eq u.0 t ≡ true → list_all (on_line line) steps.items ≡ true
RequestTrue line t s (msg.Answer u time number taken) = nat_eq u.0 t ≡ true → AnswerIs line t s number taken
RequestTrue line t s _ = Unit {0}

-- Where the train may be, as its controller knows.
pub record FrontsAre (line : Line) (t : ℕ) (s : Story) : Type 0 where
  pub lo : ℕ
  pub hi : ℕ
  pub is : (f : ℕ) → possible_front line (zone_id line) t s f ≡ (nat_le lo f && nat_le f hi)
  pub ordered : lo ≤ hi
  pub within : hi ≤ longest_end line t s
  pub long : long_of t s ≤ lo
  -- they cover where the train was at the zone's Now
  pub low : lo ≤ place_at t (now_of (zone_id line) s) s
  pub high : place_at t (now_of (zone_id line) s) s ≤ hi
  -- until the train comes on, the least is its length
  pub early : entered t s ≡ false → lo ≡ long_of t s

-- the shrink that is unanswered: it has the last number, and the longest authority, which stood when it was issued, the one
-- before; it ends nearer, begins no farther than the way, and the least front has not passed its end
pub record ShrinkIs (line : Line) (t : ℕ) (s : Story) (newest : Authority) : Type 0 where
  pub last : (account line t s).shrink ≡ last_issued t s
  pub top : ℕ
  pub positive : 1 ≤ top
  pub one_below : top + 1 ≡ last_issued t s
  pub counted_top : counted line t s ≤ top
  pub top_is : (account line t s).reads top ≡ Some newest
  pub stood : (account line t s).stood ≡ Some newest
  pub shorter : Authority
  pub shorter_is : (account line t s).reads (account line t s).shrink ≡ Some shorter
  pub authority : AuthorityIs line t s shorter
  pub nearer : authority_end (seg_len line) (journey line t s) shorter < longest_end line t s
  pub cut : step_begin line t s shorter.mark + shorter.path.from ≤ least_rear line (zone_id line) t s
  pub unpassed : first (possible_front line (zone_id line) t s) (longest_end line t s + 1) ≤ shrink_place line t s

-- what is known of a train that the zone controls
pub record ControlIs (line : Line) (t : ℕ) (s : Story) : Type 0 where
  pub declared : is_declared t s ≡ true
  pub facts : facts_of t s ≡ Some (known_facts (zone_id line) t s)
  pub issued : 1 ≤ last_issued t s
  pub step : DirSeg
  pub first : first_entry t s ≡ Some step
  pub portal : begins_at_portal line step ≡ true
  pub newest : Authority  -- the longest authority, which the last number has, but for a shrink that is unanswered
  pub longest_is : longest line t s ≡ Some newest
  pub top : is_pending line t s ≡ false → (account line t s).reads (last_issued t s) ≡ Some newest
  pub shrink : is_pending line t s ≡ true → ShrinkIs line t s newest
  pub newest_is : AuthorityIs line t s newest
  pub early : entered t s ≡ false → ((account line t s).reads 1 ≡ Some newest) × FirstIs line t s newest
  -- the longest authority begins no farther than the way
  pub cut : step_begin line t s newest.mark + newest.path.from ≤ least_rear line (zone_id line) t s
  pub room : long_of t s ≤ seg_len line step.seg.0
  -- its route is of joined steps of the line, and the journey is the part of it up to the head
  pub chain : chained line (longest_route line t s) ≡ true
  pub of_line : list_all (on_line line) (longest_route line t s) ≡ true
  pub journey_on : journey line t s ≡ steps_to (seg_len line) (longest_route line t s) (head t s)
  -- each number added at most a path of 24 steps to it, so a mark is small where the numbers are
  pub marks : length (longest_route line t s) ≤ 24 * last_issued t s

abbrev pub SomeIs : (Authority → Type 0) → Option Authority → Type 0
SomeIs P None = Unit {0}
SomeIs P (Some a) = P a

-- the entry authority that a train holds
pub record EntryHeld (line : Line) (t : ℕ) (s : Story) (h : HeldPath) : Type 0 where
  pub path : IsPath line t s h.authority
  pub authority : entered t s ≡ false → AuthorityIs line t s h.authority
  pub first : FirstIs line t s h.authority
  pub issued : 1 ≤ last_issued t s

-- the limit that a train holds is the end of an authority, and not behind its head; where the train took its last number, which is
-- not counted, it is the end of that
pub record LimitIs (line : Line) (t : ℕ) (s : Story) : Type 0 where
  pub held : HeldPath
  pub is : limit_held line t s ≡ Some held
  pub authority : AuthorityIs line t s held.authority
  pub number : last_taken line t s ≡ true → counted line t s < last_number t s → limit_place line t s ≡ end_read line t s (last_number t s)
  pub ahead : head t s ≤ limit_place line t s

-- what the messages of authorities, requests and answers say, and what comes of them
pub record Authorized (line : Line) (t : ℕ) (s : Story) : Type 0 where
  pub long_some : is_declared t s ≡ true → 1 ≤ long_of t s
  -- numbers
  pub counted_most : counted line t s ≤ last_issued t s
  pub last_most : last_number t s ≤ last_issued t s
  pub uncounted : entered t s ≡ false → counted line t s ≡ 0
  pub reads : (n : ℕ) → counted line t s ≤ n → n ≤ last_issued t s → SomeIs (AuthorityIs line t s) ((account line t s).reads n)
  -- control
  pub zone_alone : (y : ℕ) → controls y t s ≡ true → y ≡ zone_id line
  pub unknown : controls (zone_id line) t s ≡ false → last_issued t s ≡ 0
  pub unread : controls (zone_id line) t s ≡ false → (n : ℕ) → (account line t s).reads n ≡ None
  pub unshrunk : controls (zone_id line) t s ≡ false → (account line t s).shrink ≡ 0
  pub controlled : controls (zone_id line) t s ≡ true → ControlIs line t s
  -- messages
  pub auths : AllIssued (AuthTrue line t s) s
  pub requests : AllIssued (RequestTrue line t s) s
  -- what the train holds
  pub entry : (h : HeldPath) → entry_authority t s ≡ Some h → EntryHeld line t s h
  -- a train that came on took its entry authority before
  pub came_on : entered t s ≡ true → is_some (entry_authority t s) ≡ true
  pub limit : entered t s ≡ true → LimitIs line t s

-- each journey of a train that has come on is the front of a later one
abbrev pub JourneysAre : Line → ℕ → Story → Type 0
JourneysAre line t s = (ms : ℕ) → entered t (at_moment ms s) ≡ true → journey line t (at_moment ms s) ≡ steps_to (seg_len line) (journey line t s) (head t (at_moment ms s))

pub record Invariant (line : Line) (t : ℕ) (s : Story) : Type 0 where
  pub motion : Motion t s
  pub journeys : JourneysAre line t s
  pub authorized : Authorized line t s
  pub reports : AllIssued (ReportTrue line t s) s
  pub fronts : controls (zone_id line) t s ≡ true → FrontsAre line t s

pub is_path : (line : Line) (t : ℕ) (s : Story) (a : Authority) → AuthorityIs line t s a → IsPath line t s a
is_path line t s a k = record { declared = k.declared; fits = k.fits; above = k.above; own = k.own; behind = k.behind; mark = k.mark }
