-- What one transition of a story makes of an account, and the account of a story.
use Rattle.std.specs.Prelude.{ℕ, ◌-◌, List, [], ◌∷◌, if◌then◌else◌, Bool, true, false, ◌&&◌, nat_eq, nat_le, Option, Some, None, ℤ, pos, ◌+ℤ◌, take}
use Rattle.track_points.specs.declared.ids.DirSeg.{DirSeg}
use Rattle.track_points.specs.Points.{Lengths, total}
use Rattle.envelope.specs.Fronts.{farthest_move, grown, kept}
use Rattle.definitions.specs.declared.message.Msg.{Msg}
use Rattle.definitions.specs.declared.message.Msg.TheVariants as msg
use Rattle.definitions.specs.Track.{Line, seg_len}
use Rattle.definitions.specs.Story.{Transition, Story}
use Rattle.definitions.specs.World.{Facts, journey}
use Rattle.definitions.specs.Control.{grants_entry, controls, asked_facts, known_facts, now_of, now_with}
use Rattle.definitions.specs.Farther.{route_or_none, on_way}
use Rattle.definitions.specs.Account.{Account, none_yet, longest_of, end_of, shrink_end, ruled, least_of, takes_shrink, answered, passed, issues, with_fronts, based}

abbrev pub route_of : Lengths → List DirSeg → Account → List DirSeg
route_of len steps v = route_or_none steps (longest_of len steps v)

-- as Now rises each front may have moved on, up to the end
abbrev pub grown_to_end : ℕ → ℕ → ℕ → (ℕ → Bool) → ℕ → Bool
grown_to_end end speed ms fronts = grown fronts (farthest_move speed ms) end

-- a report is used where the zone controls the train, and the mark is that of a step of the way
abbrev pub is_used_by : Lengths → ℕ → ℕ → Story → List DirSeg → ℕ → ℕ → Msg → Bool
is_used_by len z t s route rear end (msg.Report u time mark offset integrity) = nat_eq u.0 t && (controls z t s && on_way len route rear end mark)
is_used_by len z t s route rear end _ = false

-- the estimate of a report, as a journey place
abbrev pub estimate : Lengths → List DirSeg → ℕ → ℤ → ℤ
estimate len route mark offset = pos (total len (take mark route)) +ℤ offset

-- what a used report leaves
abbrev pub by_report : Lengths → Facts → List DirSeg → ℕ → ℕ → (ℕ → Bool) → Msg → ℕ → Bool
by_report len f route end now_ fronts (msg.Report u time mark offset integrity) =
    ruled end (kept (λ p. true) (estimate len route mark offset) f.error (farthest_move f.speed (now_ - time)) integrity) fronts
by_report len f route end now_ fronts _ = fronts

-- the fronts up to the end of the shrink that an answer takes
abbrev pub by_answer : Lengths → List DirSeg → ℕ → ℕ → Account → (ℕ → Bool) → Msg → ℕ → Bool
by_answer len steps t end v fronts (msg.Answer u time number taken) =
    if nat_eq u.0 t && takes_shrink number taken v then ruled end (λ p. nat_le p (shrink_end len steps v)) fronts else fronts
by_answer len steps t end v fronts _ = fronts

-- the numbers after a message
abbrev pub counts : ℕ → Msg → Account → Account
counts t (msg.Answer u time number taken) v = if nat_eq u.0 t then answered number taken v else v
counts t _ v = v

-- the fronts after a message: they grow, then its rules act
abbrev pub fronts_heard : Lengths → ℕ → ℕ → Story → List DirSeg → Account → (ℕ → Bool) → Msg → ℕ → Bool
fronts_heard len z t s steps v fronts m =
    let f = known_facts z t s in
    let end = end_of len steps v in
    let route = route_of len steps v in
    let rear = least_of end fronts - f.long in
    let now_ = now_with z s m in
    let grown_ = grown_to_end end f.speed (now_ - now_of z s) fronts in
    if is_used_by len z t s route rear end m then by_report len f route end now_ grown_ m
    else by_answer len steps t end v grown_ m

-- a message that the train's controller takes
abbrev pub heard : Lengths → ℕ → ℕ → Story → List DirSeg → Account → Msg → Account
heard len z t s steps v m =
    let fronts = fronts_heard len z t s steps v (v.fronts z) m in
    based z (now_with z s m) v.counted
    (passed len steps (least_of (end_of len steps v) fronts)
    (with_fronts z fronts (counts t m v)))

abbrev pub heard_some : Lengths → ℕ → ℕ → Story → List DirSeg → Account → Option (ℕ × Msg) → Account
heard_some len z t s steps v None = v
heard_some len z t s steps v (Some x) = heard len z t s steps v x.1

-- what a zone took acts before what it issues
abbrev pub acts : Lengths → ℕ → Transition → Story → List DirSeg → Account → Account
acts len t e s steps v =
    if grants_entry e.actor t e then with_fronts e.actor (λ p. nat_eq p (asked_facts e.took).long) v
    else if controls e.actor t s then heard_some len e.actor t s steps v e.took
    else v

abbrev pub issues_one : Lengths → List DirSeg → ℕ → Msg → Account → Account
issues_one len steps t (msg.Auth u number mark path) v = if nat_eq u.0 t then issues len steps number (record { mark = mark; path = path }) v else v
issues_one len steps t _ v = v

unfoldable pub issues_all : Lengths → List DirSeg → ℕ → List (ℕ × Msg) → Account → Account
issues_all len steps t [] v = v
issues_all len steps t (x ∷ issued) v = issues_all len steps t issued (issues_one len steps t x.1 v)

unfoldable pub account : Line → ℕ → Story → Account
account line t [] = none_yet
account line t (e ∷ s) =
    issues_all (seg_len line) (journey line t s) t e.issued (acts (seg_len line) t e s (journey line t s) (account line t s))
