-- What a command gives.
use Rattle.std.specs.Prelude.{◌≡◌, ◌≤◌, ℕ, List, [], ◌++◌, Option, Some, None, Result, Ok, Err}
use Rattle.edge_io.specs.declared.status.Status.{Status}
use Rattle.edge_io.specs.declared.status.Status.TheVariants as status
use Rattle.edge_io.specs.Reading.{WroteIs, WroteFront}
use Rattle.edge_io.specs.Causes.{Rose}
use Rattle.definitions.specs.declared.document.Command.{Command}
use Rattle.definitions.specs.Lines.{text_lines}
use Rattle.definitions.specs.Trace.{Given, behind, start, trace}
use Rattle.definitions.specs.Endings.{status_of}
use Rattle.byte_feed.specs.Feed.{Feed, fed_gives, feds, feds_text, whole_lines, lines_text}
use Rattle.run_engine.specs.declared.output.Fault.{Fault}
use Rattle.run_engine.specs.declared.output.Fault.TheVariants as faults
use Rattle.top_call.specs.declared.pump.Cut.{Cut}
use Rattle.top_call.specs.declared.pump.Cut.TheVariants as cuts

-- what stands after what stood, and then what the rest gives, is what all gives
pub record Comes (all rest : Given) (before now : Option (List ℕ)) : Type 0 where
  pub out : List ℕ
  pub wrote : WroteIs before now out
  pub is : behind out rest ≡ all

-- where the source tells: nothing is left
abbrev pub AtEnd : Option (List ℕ) → Type 0
AtEnd None = Unit {0}
AtEnd (Some left) = left ≡ []

-- in mid-stream: what came led here and was written, and with what is left it is all
pub record Mid (all rest : List ℕ) (first f : Feed) (before now : Option (List ℕ)) : Type 0 where
  pub got : List ℕ
  pub came : got ++ rest ≡ all
  pub next : f ≡ feds first got
  pub wrote : WroteIs before now (feds_text first got)

abbrev pub Midway : Option (List ℕ) → Option (List ℕ) → Feed → Feed → Option (List ℕ) → Option (List ℕ) → Type 0
Midway (Some all) (Some rest) first f before now = Mid all rest first f before now
Midway None None first f before now = Unit {0}
Midway (Some all) None first f before now = ⊥
Midway None (Some rest) first f before now = ⊥

-- what holds of a pump that the source stopped
abbrev pub AtStop : Result (Unit {0}) Cut → Type 0 → Type 0
AtStop (Err cuts.Read) P = P
AtStop r P = Unit {0}

abbrev pub PumpedTold : List ℕ → Feed → Feed → Option (List ℕ) → Option (List ℕ) → Result (Unit {0}) Cut → Type 0
PumpedTold all first f before now (Ok u) = Comes (fed_gives first all) (fed_gives f []) before now
PumpedTold all first f before now (Err cut) = WroteFront before now (fed_gives first all).text

-- what a pump leaves: what all gives but for the end, or a front of it
abbrev pub Pumped : Option (List ℕ) → Feed → Feed → Option (List ℕ) → Option (List ℕ) → Result (Unit {0}) Cut → Type 0
Pumped None first f before now r = Unit {0}
Pumped (Some all) first f before now r = PumpedTold all first f before now r

abbrev pub PumpCauses : Result (Unit {0}) Cut → ℕ → ℕ → ℕ → ℕ → Type 0
PumpCauses (Ok u) r0 r w0 w = (r ≡ r0) × (w ≡ w0)
PumpCauses (Err cuts.Read) r0 r w0 w = (r0 ≤ r) × Rose r0 r × (w ≡ w0)
PumpCauses (Err cuts.Write) r0 r w0 w = (r ≡ r0) × (w0 ≤ w) × Rose w0 w
PumpCauses (Err cuts.Memory) r0 r w0 w = (r ≡ r0) × (w ≡ w0)

-- a run that was cut short wrote a front of the text; any other wrote the text, and ended as it ends
abbrev pub Gave : Status → Given → Option (List ℕ) → Option (List ℕ) → Type 0
Gave status.Read g before now = WroteFront before now g.text
Gave status.Write g before now = WroteFront before now g.text
Gave status.Memory g before now = WroteFront before now g.text
Gave s g before now = (s ≡ status_of g.ending) × WroteIs before now g.text

-- where the source tells its bytes: the trace of all of them
abbrev pub Ran : Command → Status → Option (List ℕ) → Option (List ℕ) → Option (List ℕ) → Type 0
Ran c s None before now = Unit {0}
Ran c s (Some bytes) before now = Gave s (trace c bytes) before now

-- some bytes were read and the rest is left: exactly what the text lines among them give that an LF ends was written, and no
-- last line
pub record WroteWholeLines (c : Command) (bytes rest : List ℕ) (before now : Option (List ℕ)) : Type 0 where
  pub got : List ℕ
  pub came : got ++ rest ≡ bytes
  pub wrote : WroteIs before now (lines_text (start c) (whole_lines (text_lines got)))

-- at a fault of the source, where it tells what was left before and what is left now
abbrev pub ReadCut : Command → Status → Option (List ℕ) → Option (List ℕ) → Option (List ℕ) → Option (List ℕ) → Type 0
ReadCut c status.Read (Some bytes) (Some rest) before now = WroteWholeLines c bytes rest before now
ReadCut c status.Read (Some bytes) None before now = ⊥
ReadCut c s left rest before now = Unit {0}

-- a fault is answered only where that object's count rose, and nothing else lets a count rise; neither count falls
abbrev pub Causes : Status → ℕ → ℕ → ℕ → ℕ → Type 0
Causes status.Read r0 r w0 w = (r0 ≤ r) × Rose r0 r × (w ≡ w0)
Causes status.Write r0 r w0 w = (r ≡ r0) × (w0 ≤ w) × Rose w0 w
Causes s r0 r w0 w = (r ≡ r0) × (w ≡ w0)

abbrev pub cut_of : Fault → Cut
cut_of faults.Write = cuts.Write
cut_of faults.Memory = cuts.Memory

abbrev pub status_of_cut : Cut → Status
status_of_cut cuts.Read = status.Read
status_of_cut cuts.Write = status.Write
status_of_cut cuts.Memory = status.Memory
