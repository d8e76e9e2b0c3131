-- A link of messages, which is kept as their frames.
use Rattle.std.specs.Prelude.{◌≡◌, ◌-◌, ◌&&◌, true, false, nat_lt, nat_le, slice_get, Option, Some, None, ℕ, List, [], ◌∷◌, length, map, Result, Ok, Err, ⊤}
use Rattle.arrayvec.specs.ArrayVec.{ArrayVec}
use Rattle.definitions.specs.declared.message.Msg.{Msg}
use Rattle.definitions.specs.declared.message.Msg.TheVariants as msg
use Rattle.definitions.specs.declared.outcome.FrameFault.{FrameFault}
use Rattle.definitions.specs.Frames.{frame_of, frame_at, Fits}

-- the messages that went out, the oldest first, and how many more there is room for
pub record Linked : Type 0 where
  pub messages : List Msg
  pub room : ℕ

-- the message of a frame; bytes that are no frame have none that counts
abbrev pub of_frame : Result Msg FrameFault → Msg
of_frame (Ok m) = m
of_frame (Err fault) = msg.Gone (record { 0 = 0 }) 0

abbrev pub read_frame : List ℕ → Msg
read_frame bytes = of_frame (frame_at bytes)

abbrev pub read_frames : List (ArrayVec ℕ) → List Msg
read_frames frames = map (λ f. read_frame f.items) frames

-- bytes that are the frame of a message in its ranges
pub record IsFrame (bytes : List ℕ) : Type 0 where
  pub fits : Fits (read_frame bytes)
  pub is : bytes ≡ frame_of (read_frame bytes)
  pub reads : frame_at bytes ≡ Ok (read_frame bytes)

unfoldable pub AreFrames : List (ArrayVec ℕ) → Type 0
AreFrames [] = ⊤
AreFrames (f ∷ frames) = IsFrame f.items × AreFrames frames

-- the frame of a message of a link, by its ordinal from 1, exactly where it has one
abbrev pub IsFrameAt : List Msg → ℕ → Option (List ℕ) → Type 0
IsFrameAt messages number None = nat_lt 0 number && nat_le number (length messages) ≡ false
IsFrameAt messages number (Some bytes) = (nat_lt 0 number && nat_le number (length messages) ≡ true) × (slice_get (map frame_of messages) (number - 1) ≡ Some bytes)

-- messages that are in their ranges
unfoldable pub AllFit : List (ℕ × Msg) → Type 0
AllFit [] = ⊤
AllFit (x ∷ issued) = Fits x.1 × AllFit issued
