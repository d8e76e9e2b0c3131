-- A zone that shows what the history tells shows the envelope of each train that it controls.
use Rattle.std.proofs.Common.{◌≡◌, ℕ, Option, Some, None, IfSome}
use Rattle.track_points.specs.Points.{Point}
use Rattle.track_points.specs.Sets.{Points, set_has}
use Rattle.definitions.specs.Track.{Line, layout}
use Rattle.definitions.specs.Story.{Story}
use Rattle.definitions.specs.Authority.{envelope}
use Rattle.plain_state.specs.Zone.{find_controlled}
use Rattle.zone_state.specs.Zone.{ZoneKept, IsEnvelope}
use Rattle.line_system.specs.Shows.{ShowsEnvelope, ShowsNotions}

told : (line : Line) (z t : ℕ) (s : Story) (set : Option Points) → ShowsEnvelope line z t s set → IfSome set (λ x. (point : Point) → set_has x point ≡ envelope line z t s point)
told line z t s None h = tt
told line z t s (Some x) h = h.1

pub shown : (line : Line) (z t : ℕ) (s : Story) (y : ZoneKept) (set : Option Points) → ShowsNotions line s z y → IsEnvelope (layout line) (find_controlled t y.plain.trains) set
    → IfSome set (λ x. (point : Point) → set_has x point ≡ envelope line z t s point)
shown line z t s y set k h = told line z t s set (k.envelopes t set h)
