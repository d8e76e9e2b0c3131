use Rattle.std.proofs.Common.{ap, ◌∙◌}
use Rattle.definitions.specs.Track.{begins_at_portal}
use Rattle.script_text.proofs.names.begins.Goals as goal

pub returns : goal.returns
returns c = c.begins_at_portal.ensures.begins ∙ ap (begins_at_portal c.args.line.now) c.step_of.ensures
