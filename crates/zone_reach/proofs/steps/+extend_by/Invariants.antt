use Rattle.std.proofs.Common.{length}
use Rattle.zone_reach.proofs.steps.+extend_by.Given as goal

abbrev pub decreases-extend_by : goal.decreases-extend_by
decreases-extend_by l = length l.more.now
