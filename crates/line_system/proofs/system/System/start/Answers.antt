use Rattle.std.proofs.Common.{◌≡◌}
use Rattle.line_state.specs.State.{parts, tally}
use Rattle.line_system.proofs.Starts.{parts_start, starts}
use Rattle.line_system.proofs.system.System.start.Goals as goal

pub invariant_of-result : goal.invariant_of-result
invariant_of-result c =
    let zone : parts c.in_ok-state.state ≡ parts_start c.args.line = rw (← c.zone_of_line-zone.ensures) c.in_ok-state.ensures.start in
    let kept = starts c.args.line (parts c.in_ok-state.state) (tally c.in_ok-state.state) c.in_ok-state.state.zone c.requires.valid c.requires.one zone c.in_ok-state.ensures.tally c.in_ok-state.ensures.on_line in
    rw c.in_ok-events.ensures.items kept
