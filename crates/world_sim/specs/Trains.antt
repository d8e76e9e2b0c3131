-- What is kept of one train besides the definitions, how it stands on the line, where its head goes, and what it decides.
use Rattle.std.specs.Prelude.{ℕ, ◌≡◌, ◌<◌, ◌≤◌, ◌+◌, ◌-◌, ◌^◌, Bool, true, ◌&&◌, length, nat_le, nat_lt, nat_eq, Option, Some, None, ⊤}
use Rattle.track_points.specs.declared.ids.DirSeg.{DirSeg}
use Rattle.track_points.specs.declared.path.Path.{Path}
use Rattle.track_points.specs.Points.{Lengths, total}
use Rattle.definitions.specs.Track.{Line, seg_len, track_from, track_to}
use Rattle.definitions.specs.Premises.{on_line}
use Rattle.definitions.specs.Ways.{front_at}
use Rattle.plain_state.specs.declared.Head.{Head}
use Rattle.plain_state.specs.declared.WorldTrain.{WorldTrain}
use Rattle.plain_state.specs.World.{takes_at}
use Rattle.onboard.specs.declared.onboard.Onboard.{Onboard}
use Rattle.onboard.specs.declared.onboard.Verdict.{Verdict}
use Rattle.onboard.specs.Decision.{verdict}

-- a train has decided on a number exactly where it has come on
abbrev pub is_numbered : Option Head → ℕ → Bool
is_numbered None last = nat_eq last 0
is_numbered (Some h) last = nat_lt 0 last

-- what is kept of a train: its greatest speed and its pace have a stop, and its numbers begin when it comes on
abbrev pub is_kept : WorldTrain → Bool
is_kept x = nat_le x.speed 60000 && (nat_le x.pace.speed 60000 && is_numbered x.head x.onboard.last)

-- a place on the track from a step on, and a journey that can count the steps up to there
pub record Reaches (line : Line) (st : DirSeg) (mark p : ℕ) : Type 0 where
  pub steps : ℕ
  pub within : p ≤ total (seg_len line) (track_from line (Some st) steps)
  pub marks : mark + steps < 2 ^ 32

-- a head on a declared step, at an offset of it that is 1 to the length, with this much track before it
pub record IsHeadOn (line : Line) (room : ℕ) (h : Head) : Type 0 where
  pub declared : on_line line h.step ≡ true
  pub above : 0 < h.offset
  pub on : h.offset ≤ seg_len line h.step.seg.0
  pub track : Reaches line h.step h.mark (h.offset + room)

abbrev pub HeadIs : Line → ℕ → Option Head → Type 0
HeadIs line room None = ⊤
HeadIs line room (Some h) = IsHeadOn line room h

-- an entry authority is over the whole segment of the first request for entry, and the train is no longer than it
abbrev pub EntryIs : Line → ℕ → Option DirSeg → Option ℕ → Type 0
EntryIs line long entry None = ⊤
EntryIs line long None (Some mm) = ⊥
EntryIs line long (Some step) (Some mm) = (on_line line step ≡ true) × (long ≤ mm) × (mm ≡ seg_len line step.seg.0)

pub record IsTrainOn (line : Line) (x : WorldTrain) : Type 0 where
  pub long : 0 < x.train_length
  pub entry : EntryIs line x.train_length x.entry x.onboard.entry
  pub head : HeadIs line x.onboard.room x.head

-- where a head is that has gone on to a place of the track from a step on
abbrev pub moved_to : Line → DirSeg → ℕ → ℕ → Head
moved_to line st mark p = record {
  step = (front_at (seg_len line) (track_to line (Some st) p) p).0;
  mark = mark + (length (track_to line (Some st) p) - 1);
  offset = (front_at (seg_len line) (track_to line (Some st) p) p).1;
}

-- what a train answers to an authority; nothing before it has come on
abbrev pub verdict_by : Lengths → ℕ → ℕ → ℕ → Path → Option Head → Onboard → Option Verdict
verdict_by len stop number mark path None o = None
verdict_by len stop number mark path (Some h) o = Some (verdict (takes_at len stop mark path h o) number o)
